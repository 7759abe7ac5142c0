use Rattle.std.proofs.Common.{◌∙◌, ◌++◌, ◌∷◌, [], ap}
use Rattle.desk_tree_lint.specs.Names.{names_in}
use Rattle.desk_tree_lint.proofs.NameLemmas.{names_more}
use Rattle.desk_tree_lint.proofs.names.Names.push.Goals as goal

pub returns : goal.returns
returns c =
    let s = c.self.inside in
    let paths = c.in_ok-push-2.ensures.items
    ∙ ap (λ l. l ++ c.args.path ∷ []) c.in_ok-reserve.ensures.items in
    (λ j. names_in (c.in_ok-push.ensures.ok j) (paths j))
    ∙ names_more s.ids s.paths.items c.args.id.now c.args.path c.self.invariant
    ∙ ap (λ l. l ++ (record { id = c.args.id.now; path = c.args.path }) ∷ []) c.self.view_is
