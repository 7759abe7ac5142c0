-- What the fields of a document are compared with.
use Rattle.std.specs.Prelude.{◌≡◌, ℕ, List, slice_index_or}
use Rattle.std.specs.List.{list_any}
use Rattle.std.specs.BTreeSet.{BTreeSet}
use Rattle.std.specs.Str.{bytes_eq}
use denote.Ref.{Bor}
use Rattle.desk_bom.specs.declared.state.CodeState.{CodeState}
use Rattle.desk_bom.specs.declared.state.CodeState.TheVariants as state
use Rattle.desk_tagvalue.specs.Parts.{DocumentText}
use Rattle.desk_tagvalue.specs.Seen.{has_key}

-- a set has the identifiers of the extracted licences
abbrev pub Defines : DocumentText → BTreeSet (Bor (List ℕ)) → Type 0
Defines d defined = (q : List ℕ) → has_key q defined ≡ list_any (λ x. bytes_eq x.id q) d.extracted

-- the state at a place among others
abbrev pub state_in : List CodeState → ℕ → CodeState
state_in all k = slice_index_or all k state.Absent
