use Rattle.std.proofs.Common.{◌≡◌, drop}
use Rattle.std.specs.List.{list_all}
use Rattle.desk_base.specs.declared.profile.Profile.TheVariants.{Capitals}
use Rattle.desk_model.specs.Readings.{Readings}
use Rattle.desk_snapshot.specs.declared.rows.StoredConclusion.{StoredConclusion}
use Rattle.desk_audit_texts.proofs.conclusions.are_expressions.Given as goal

abbrev pub invariant-loop-row : goal.invariant-loop-row
invariant-loop-row g l =
    (w : Readings) → g.T.Texts.are_right w
    → list_all (λ (row : StoredConclusion). w.is_expression Capitals row.expression)
    (drop l.row-index l.rows)
    ≡ list_all (λ (row : StoredConclusion). w.is_expression Capitals row.expression) l.rows
