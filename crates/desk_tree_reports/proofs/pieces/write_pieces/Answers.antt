use Rattle.std.proofs.Common.{◌≡◌, ◌∙◌, ◌++◌, ◌<◌, [], ap, arith, get_or, length, subst, sym, take}
use Rattle.std.specs.Io.KnownBytes.{Appends}
use Rattle.desk_tree_reports.specs.Pieces.{woven}
use Rattle.desk_tree_reports.proofs.PieceLemmas.{woven_next, appends_both}
use Rattle.desk_tree_reports.proofs.pieces.write_pieces.Goals as goal

pub loop-place-preserved : goal.loop-place-preserved
loop-place-preserved g c =
    let owns = c.args.owns.now in
    let shares = c.args.shares.now in
    let i = c.loop-place.place in
    let within : i < length owns = omega (arith, c.loop-place-test.true, c.len-place-end.ensures) in
    let piece : c.at.result.now ++ c.index-shares-place.result
    ≡ get_or owns i [] ++ get_or shares i c.index-shares-place.result =
    (λ j. c.at.ensures j ++ c.index-shares-place.is j) in
    subst (λ l. Appends (g.W.Write.contents c.args.writer.now)
    (g.W.Write.contents c.write_piece.new.writer) l)
    (ap (λ l. woven (take i owns) (take i shares) ++ l) piece
    ∙ sym (woven_next owns shares i _ _ c.requires within))
    (appends_both _ _ _ _ _ c.loop-place.invariant c.in_ok-write_piece.ensures)
