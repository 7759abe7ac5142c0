use Rattle.std.proofs.Common.{◌≡◌, [], ◌∷◌, ◌++◌, arith}
use Rattle.desk_script.specs.Texts.{line_of}
use Rattle.desk_script.proofs.Losing.{lost_line}
use Rattle.desk_script.proofs.serving.write_reply.Goals as goal

pub returns-in_ok-text-in-Became-clause-err : goal.returns-in_ok-text-in-Became-clause-err
returns-in_ok-text-in-Became-clause-err g c =
    let written : c.as_str.result.now ++ 10 ∷ [] ≡ line_of c.args.reply.now =
    grind (arith, c.as_str.ensures.value, c.in_ok-text-in-Became.ensures, c.in-Became.is) in
    lost_line c.write_line-in-Became.result c.args.reply.now (g.W.Write.contents c.args.writer.now)
    (g.W.Write.contents c.write_line-in-Became.new.writer)
    (c.as_str.result.now ++ 10 ∷ []) written c.write_line-in-Became.ensures.fault
    c.write_line-in-Became.ensures.err
