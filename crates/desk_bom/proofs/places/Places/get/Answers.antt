use Rattle.std.proofs.Common.{◌≡◌, ◌∙◌, ap, sym}
use Rattle.desk_bom.specs.Places.{found}
use Rattle.desk_bom.proofs.places.Places.get.Goals as goal
use Rattle.desk_base.specs.Borrowed.{texts}

pub returns : goal.returns
returns c =
    let self = c.args.self.now in
    let id = c.args.id.now in
    let is : c.find.result ≡ found (texts self.ids.items) self.slots.items self.tree id =
    c.find.ensures ∙ ap (λ l. found (texts l) c.deref-2.result.now self.tree id)
    c.deref.ensures.value ∙ ap (λ l. found (texts self.ids.items) l self.tree id)
    c.deref-2.ensures.value in
    sym (self.finds id c.find.result (sym is))
