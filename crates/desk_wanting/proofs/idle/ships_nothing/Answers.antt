use Rattle.std.proofs.Common.{◌≡◌, ◌∙◌, ap, sym, arith, length, vec_len, List, ℕ}
use Rattle.std.specs.Prelude.{◌==◌}
use Rattle.desk_model.specs.Keys.{is_shipped_by}
use Rattle.desk_model.specs.declared.row.PackageRow.{PackageRow}
use Rattle.desk_wanting.proofs.Lists.{nothing_passes}
use Rattle.desk_wanting.proofs.idle.ships_nothing.Goals as goal

pub returns-clause-found : goal.returns-clause-found
returns-clause-found g c = λ h t held.
    let rows = c.in_ok-shipped.field-0 in
    let len : length rows.items ≡ vec_len rows = omega (arith, rows.ok) in
    c.is_empty.ensures
    ∙ (ap (λ (n : ℕ). n == 0) (sym len)
    ∙ (ap (λ (rows : List PackageRow). length rows == 0) (c.in_ok-shipped.ensures.found h t held)
    ∙ nothing_passes (is_shipped_by c.args.document) t.packages))
