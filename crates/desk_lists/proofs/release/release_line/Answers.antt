use Rattle.std.proofs.Common.{◌≡◌, ◌∙◌, ap, rules, to_z, of_z, w64}
use Rattle.desk_model.specs.declared.command.Totals.{Totals}
use Rattle.desk_lists.specs.Held.{duties_held}
use Rattle.desk_lists.specs.Releases.{totals_among}
use Rattle.desk_lists.proofs.release.release_line.Goals as goal

pub returns : goal.returns
returns c =
    let row = c.args.release.now in
    let place_is : to_z w64 (of_z w64 row.place) ≡ row.place = search rules in
    let revision_is : to_z w64 (of_z w64 row.revision) ≡ row.revision = search rules in
    let totals : c.totals_of-duties.result ≡ totals_among (duties_held
    c.args.held.now.rows.items) row.name =
    c.totals_of-duties.ensures ∙ ap (totals_among (duties_held c.args.held.now.rows.items))
    c.as_str.ensures in
    (λ i. record {
      name = c.in_ok-clone.ensures.cases i;
      place = place_is i;
      form = c.in_ok-clone-2.ensures.cases i;
      state = c.in_ok-clone-3.ensures.cases i;
      revision = revision_is i;
      duties = totals i;
    })
