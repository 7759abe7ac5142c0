use Rattle.std.proofs.Common.{◌≡◌, take}
use Rattle.desk_model.specs.Tables.{tables}
use Rattle.desk_core.specs.Desks.{InHistory}
use Rattle.desk_store.specs.contracts.desk.SqlDeskDesk.TheImpl.{ghosts}
use Rattle.desk_texts.specs.Right.{AreRight}
use Rattle.desk_wanting.proofs.SoFar.{SoFar}
use Rattle.desk_inspect.specs.Proposing.{choice_lines_in}
use Rattle.desk_inspect.proofs.proposing.choice_lines.Given as goal

-- the lines of the releases before the index
abbrev pub invariant-loop-release : goal.invariant-loop-release
invariant-loop-release g l =
    let seen = (ghosts g.row.S g.S.Alter g.S.Alter-dict g.S.Store g.S.Store-dict).seen in
    SoFar
    (InHistory AreRight (λ w h. l.text.items
    ≡ choice_lines_in w (tables w h) l.document (take l.release-index l.releases)))
    (seen l.fn.desk) (seen l.desk)
