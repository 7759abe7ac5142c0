use Rattle.std.proofs.Common.{◌∙◌, ◌+◌, ◌<◌, length, sym, ap, drop, arith}
use Rattle.std.proofs.lemmas.Option.{get_or_from_slice_get}
use Rattle.desk_tree_document.specs.Told.{file_told, files_told}
use Rattle.desk_tree_document.proofs.FileLemmas.{onto-file, onto-fault}
use Rattle.desk_tree_document.proofs.files.files_of.Goals as goal
use Rattle.desk_base.proofs.Results.{onto}

pub returns-in-Err : goal.returns-in-Err
returns-in-Err c = λ r right.
    let within : c.loop-place.place < length c.args.told.now =
    omega (arith, c.len-place-end.ensures) in
    sym (c.loop-place.invariant r right)
    ∙ onto-fault r c.loop-place.files.items c.args.told.now c.loop-place.place c.in_ok-one.one
    within c.in-Err.fault
    (ap (file_told r) (get_or_from_slice_get c.args.told.now c.loop-place.place c.in_ok-one.one
    c.in_ok-one.one c.in_ok-one.ensures) ∙ sym (c.in_ok-file.ensures r right) ∙ c.in-Err.is)

pub loop-place-preserved : goal.loop-place-preserved
loop-place-preserved c = λ r right.
    let within : c.loop-place.place < length c.args.told.now =
    omega (arith, c.len-place-end.ensures) in
    ap (λ done. onto done (files_told r (drop (c.loop-place.place + 1) c.args.told.now)))
    c.in_ok-push-in-Ok.ensures.items
    ∙ sym (onto-file r c.loop-place.files.items c.args.told.now c.loop-place.place c.in_ok-one.one
    within c.in-Ok.file
    (ap (file_told r) (get_or_from_slice_get c.args.told.now c.loop-place.place c.in_ok-one.one
    c.in_ok-one.one c.in_ok-one.ensures) ∙ sym (c.in_ok-file.ensures r right) ∙ c.in-Ok.is))
    ∙ c.loop-place.invariant r right
