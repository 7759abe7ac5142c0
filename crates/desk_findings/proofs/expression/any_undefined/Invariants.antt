use Rattle.std.proofs.Common.{◌≡◌, ℕ, List, drop}
use Rattle.std.specs.List.{list_any}
use Rattle.std.specs.Str.{bytes_eq}
use Rattle.desk_tagvalue.specs.Parts.{DocumentText}
use Rattle.desk_tagvalue.specs.Seen.{has_key}
use Rattle.desk_findings.specs.Fields.{is_undefined}
use Rattle.desk_findings.proofs.expression.any_undefined.Given as goal

abbrev pub invariant-loop-term : goal.invariant-loop-term
invariant-loop-term l = (d : DocumentText)
    → ((q : List ℕ) → has_key q l.defined ≡ list_any (λ x. bytes_eq x.id q) d.extracted)
    → list_any (is_undefined d) l.terms ≡ list_any (is_undefined d) (drop l.term-index l.terms)
