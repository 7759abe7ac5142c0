use Rattle.std.proofs.Common.{◌∙◌, sym, ap, length}
use Rattle.desk_tree_lint.proofs.NameLemmas.{names_long}
use Rattle.desk_tree_lint.proofs.names.Names.len.Goals as goal

pub returns : goal.returns
returns c =
    let s = c.self.inside in
    c.len.ensures ∙ s.paths.ok.0 ∙ sym (names_long s.ids s.paths.items c.self.invariant)
    ∙ ap length c.self.view_is
