use Rattle.std.proofs.Common.{◌≡◌, ◌∙◌, refl, sym, ap, ℕ, List, Some}
use Rattle.std.specs.List.{list_any}
use Rattle.desk_model.specs.Keys.{is_attachment}
use Rattle.desk_preparing.specs.Choosing.{choose_shipped}
use Rattle.desk_history.specs.FromTables.{conclusion_found, package_found}
use Rattle.desk_preparing.proofs.Places.{found_at, is_found}
use Rattle.desk_preparing.proofs.choice.find_in.Goals as goal

pub returns-clause-found : goal.returns-clause-found
returns-clause-found g c = λ h t held.
    let one = c.in_ok-row.ensures in
    let two = c.in_ok-is_attached.ensures in
    let d : ℕ = c.args.document in
    let e : package_found t d c.args.package_id.now ≡ Some c.in-Some.row =
    ap (package_found t d) (sym c.as_str.ensures)
    ∙ (ap (λ (n : ℕ). package_found t n c.as_str.result.now) (sym c.from.ensures)
    ∙ (sym (one.found (two.kept.kept.spared.honest h) t held) ∙ c.in-Some.is)) in
    let a : list_any (is_attachment c.args.release.now
    d) t.attached ≡ c.in_ok-is_attached.is_attached =
    ap (λ (r : List ℕ). list_any (is_attachment r d) t.attached) (sym c.as_str-2.ensures)
    ∙ (ap (λ (n : ℕ). list_any (is_attachment c.as_str-2.result.now n) t.attached)
    (sym c.from-2.ensures) ∙ sym (two.found h t (one.kept.kept.spared.holds t held))) in
    is_found t c.args.release.now d c.args.package_id.now c.args.state
    c.in_ok-is_attached.is_attached
    (record { document = d; row = c.in-Some.row }) c.open_place.result c.open_place.ensures refl
    (λ w terms.
    found_at w terms t c.args.state c.args.release.now d c.args.package_id.now c.in-Some.row e
    ∙ ap (λ b. choose_shipped w terms b (conclusion_found w t) c.args.state c.in-Some.row) a)
