use Rattle.std.proofs.Common.{◌∙◌, ◌++◌, ap}
use Rattle.std.specs.Prelude.{map}
use Rattle.desk_bom.proofs.ElementLemmas.{ids_joined}
use Rattle.desk_bom.proofs.elements.ids_of.Goals as goal
use Rattle.desk_base.specs.Borrowed.{texts}

pub returns : goal.returns
returns c =
    let d = c.args.document.now in
    ids_joined d.packages d.files d.snippets (texts c.push.new.self.items)
    (texts c.add_packages.new.ids.items) (texts c.add_files.new.ids.items)
    (texts c.add_snippets.new.ids.items)
    (rw c.new-ids.ensures.items at (ap texts c.in_ok-push.ensures.items))
    (c.in_ok-add_packages.ensures
    ∙ ap (λ l. texts c.push.new.self.items ++ map (λ p. p.id.now) l) c.as_slice.ensures)
    (c.in_ok-add_files.ensures ∙ ap (λ l. texts c.add_packages.new.ids.items
    ++ map (λ p. p.id.now) l) c.as_slice-2.ensures)
    (c.in_ok-add_snippets.ensures
    ∙ ap (λ l. texts c.add_files.new.ids.items ++ map (λ p. p.id.now) l) c.as_slice-3.ensures)
