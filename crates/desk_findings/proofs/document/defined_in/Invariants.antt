use Rattle.std.proofs.Common.{◌≡◌, ℕ, List, take}
use Rattle.std.specs.Prelude.{map}
use Rattle.std.specs.List.{list_any}
use Rattle.std.specs.Str.{bytes_eq}
use Rattle.desk_tagvalue.specs.Seen.{has_key}
use Rattle.desk_tagvalue.specs.Views.{extracted_text}
use Rattle.desk_findings.proofs.document.defined_in.Given as goal

abbrev pub invariant-loop-licence : goal.invariant-loop-licence
invariant-loop-licence l = (q : List ℕ)
    → has_key q l.defined ≡ list_any (λ x. bytes_eq x.id q)
    (map extracted_text (take l.licence-index l.extracted))
