use Rattle.std.proofs.Common.{◌≡◌, ℕ, List, drop}
use Rattle.std.specs.Prelude.{map}
use Rattle.std.specs.List.{list_any}
use Rattle.std.specs.Str.{bytes_eq}
use Rattle.desk_tagvalue.specs.Views.{file_text}
use Rattle.desk_bom.specs.Codes.{digests_of, files_at, has_name}
use Rattle.desk_bom.proofs.CodeLemmas.{behind_front}
use Rattle.desk_bom.proofs.state.digests_of.Given as goal

-- the digests so far and those of the rest are all
abbrev pub invariant-loop-arrow : goal.invariant-loop-arrow
invariant-loop-arrow l = (names : List (List ℕ))
    → ((q : List ℕ) → has_name l.excluded q ≡ list_any (λ name. bytes_eq name q) names)
    → behind_front l.digests.items
    (digests_of names (files_at (map file_text l.files) (drop l.arrow-index l.arrows)))
    ≡ digests_of names (files_at (map file_text l.files) l.arrows)
