use Rattle.std.proofs.Common.{◌∙◌, ◌++◌, ◌∷◌, [], ap}
use Rattle.desk_tree_reports.specs.Pieces.{woven}
use Rattle.desk_tree_reports.proofs.PieceLemmas.{woven_more}
use Rattle.desk_tree_reports.proofs.pieces.Pieces.push.Goals as goal

pub returns : goal.returns
returns c =
    let s = c.self.inside in
    let shares = c.in_ok-push-2.ensures.items
    ∙ ap (λ l. l ++ c.args.share ∷ []) c.in_ok-reserve.ensures.items in
    (λ j. woven (c.in_ok-push.ensures.ok j) (shares j))
    ∙ woven_more s.owns s.shares.items c.args.own.now c.args.share c.self.invariant
    ∙ ap (λ l. l ++ (c.args.own.now ++ c.args.share)) c.self.view_is
