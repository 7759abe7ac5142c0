use Rattle.std.proofs.Common.{◌≡◌, ◌∙◌, [], ap, sym, arith, length}
use Rattle.std.proofs.lemmas.List.{append-nil}
use Rattle.desk_tree_infos.specs.Folders.{numbers_for}
use Rattle.desk_tree_infos.specs.Sharing.{annotations_at}
use Rattle.desk_tree_infos.specs.Tomls.{tomls_in}
use Rattle.desk_tree_infos.proofs.FolderLemmas.{annotations_or, annotations_or-none, last_kept}
use Rattle.desk_tree_infos.proofs.FolderLemmas.{none_left}
use Rattle.desk_tree_infos.proofs.folders.by_folder.Goals as goal

pub loop-toml-preserved-in_ok-insert : goal.loop-toml-preserved-in_ok-insert
loop-toml-preserved-in_ok-insert c =
    last_kept c.pop.new.self.items c.loop-toml.tomls.items c.in-Some.toml c.loop-toml.all.items
    c.add.new.all.items c.loop-toml.numbers c.insert.new.self c.in_ok-from_slice.field-0
    c.in_ok-listed.listed (λ folder. annotations_or (tomls_in c.args.tomls.items) folder [])
    c.in-Some.ensures.items c.in_ok-listed.ensures.all c.in_ok-from_slice.ensures.items
    c.in_ok-insert.ensures.updates c.in_ok-listed.ensures.numbers c.loop-toml.invariant

pub loop-toml-preserved : goal.loop-toml-preserved
loop-toml-preserved c =
    last_kept c.pop.new.self.items c.loop-toml.tomls.items c.in-Some.toml c.loop-toml.all.items
    c.add.new.all.items c.loop-toml.numbers c.insert.new.self c.in_ok-from_slice.field-0
    c.in_ok-listed.listed (λ folder. annotations_or (tomls_in c.args.tomls.items) folder [])
    c.in-Some.ensures.items c.in_ok-listed.ensures.all c.in_ok-from_slice.ensures.items
    c.in_ok-insert.ensures.updates c.in_ok-listed.ensures.numbers c.loop-toml.invariant

pub returns : goal.returns
returns c = λ folder.
    let none : length c.loop-toml.tomls.items ≡ 0 =
    omega (arith, c.loop-toml.tomls.ok.0, c.in_default.ensures.cases.0) in
    let kept = numbers_for c.loop-toml.numbers folder in
    none_left c.loop-toml.tomls.items none folder (annotations_at c.loop-toml.all.items kept)
    ∙ ap (λ l. annotations_or (tomls_in c.loop-toml.tomls.items) folder (annotations_at l kept))
    (sym (append-nil c.loop-toml.all.items))
    ∙ (c.loop-toml.invariant [] folder ∙ annotations_or-none (tomls_in c.args.tomls.items) folder)
