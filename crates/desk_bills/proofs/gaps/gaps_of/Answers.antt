use Rattle.std.proofs.Common.{◌∙◌, ◌++◌, List, ap}
use Rattle.std.specs.List.{flat_map}
use Rattle.desk_model.specs.Bills.{first_uses}
use Rattle.desk_model.specs.Gaps.{copyright_gaps, shipment_gaps, twice_gaps}
use Rattle.desk_model.specs.History.{attached_to}
use Rattle.desk_model.specs.Raised.{shipped_of}
use Rattle.desk_model.specs.declared.row.AttachedRow.{AttachedRow}
use Rattle.desk_bills.specs.Lacking.{named_by}
use Rattle.desk_bills.specs.declared.needed.Needed.{Needed}
use Rattle.desk_bills.proofs.Missing.{gaps_put}
use Rattle.desk_bills.proofs.gaps.gaps_of.Goals as goal

pub returns-clause-found : goal.returns-clause-found
returns-clause-found g c = λ w right h t held.
    let h-needed = c.in_ok-revision.ensures.kept.kept.spared.honest
    (c.in_ok-gaps.ensures.kept.kept.spared.honest h) in
    let h-packages = c.in_ok-needed.ensures.kept.kept.spared.honest h-needed in
    let h-attached = c.in_ok-packages.ensures.kept.kept.spared.honest h-packages in
    let held-attached = c.in_ok-attached.ensures.kept.kept.spared.holds t held in
    let held-packages = c.in_ok-packages.ensures.kept.kept.spared.holds t held-attached in
    let held-needed = c.in_ok-needed.ensures.kept.kept.spared.holds t held-packages in
    let held-revision = c.in_ok-revision.ensures.kept.kept.spared.holds t held-needed in
    gaps_put w t c.args.row.now c.in_ok-attached.attached.items c.in_ok-packages.packages.items
    c.in_ok-needed.needed.items c.in_ok-uses.uses.items c.in_ok-revision.revision
    c.in_ok-gaps.gaps.items c.in_ok-lacks.lacks.items c.append.new.self.items
    (c.in_ok-attached.ensures.found h-attached t held
    ∙ ap (attached_to t.attached) c.as_str.ensures)
    (c.in_ok-packages.ensures.found h-packages t held-attached
    ∙ ap (λ (rows : List AttachedRow). shipped_of rows t.packages) c.as_slice.ensures.value)
    (c.in_ok-lacks.ensures
    ∙ (λ i. flat_map copyright_gaps (c.as_slice-3.ensures.value i)
    ++ (flat_map (shipment_gaps (c.as_slice-3.ensures.value i)) (c.as_slice-2.ensures.value i)
    ++ flat_map (twice_gaps (c.as_slice-3.ensures.value i)) (c.as_slice-3.ensures.value i))))
    (c.in_ok-needed.ensures.found w right h-needed t held-packages)
    (c.in_ok-uses.ensures w right
    ∙ ap (λ (needed : List Needed). first_uses (flat_map (named_by w) needed))
    c.as_slice-4.ensures.value)
    (c.in_ok-revision.ensures.found (c.in_ok-gaps.ensures.kept.kept.spared.honest h) t held-needed)
    (c.in_ok-gaps.ensures.found w right h t held-revision)
    c.in_ok-append.ensures.items
