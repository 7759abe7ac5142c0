use Rattle.std.proofs.Common.{[], ◌∷◌, ◌++◌}
use Rattle.desk_base.proofs.Results.{OnErr-always}
use Rattle.desk_script.proofs.Losing.{all_after, front_after, front_before, front_whole}
use Rattle.desk_script.proofs.serving.write_line.Goals as goal

pub returns-in_err-write_bytes-clause-err : goal.returns-in_err-write_bytes-clause-err
returns-in_err-write_bytes-clause-err g c =
    OnErr-always c.from_residual.result
    (front_before (g.W.Write.contents c.args.writer.now)
    (g.W.Write.contents c.write_bytes.new.writer) c.args.text.now (10 ∷ [])
    c.as_bytes.result.now c.as_bytes.ensures.value c.in_err-write_bytes.ensures.err)

pub returns-in_err-write_bytes-2-clause-err : goal.returns-in_err-write_bytes-2-clause-err
returns-in_err-write_bytes-2-clause-err g c =
    OnErr-always c.from_residual-in_err-write_bytes-2.result
    (front_after (g.W.Write.contents c.args.writer.now)
    (g.W.Write.contents c.write_bytes.new.writer) (g.W.Write.contents c.write_bytes-2.new.writer)
    c.args.text.now (10 ∷ []) c.as_bytes.result.now c.as_bytes.ensures.value
    c.in_ok-write_bytes.ensures.ok c.in_err-write_bytes-2.ensures.err)

pub returns-in-Err-clause-err : goal.returns-in-Err-clause-err
returns-in-Err-clause-err g c =
    front_whole (g.W.Write.contents c.args.writer.now) (g.W.Write.contents c.flush.new.self)
    (c.args.text.now ++ 10 ∷ [])
    (all_after (g.W.Write.contents c.args.writer.now) (g.W.Write.contents c.write_bytes.new.writer)
    (g.W.Write.contents c.write_bytes-2.new.writer) (g.W.Write.contents c.flush.new.self)
    c.args.text.now (10 ∷ []) c.as_bytes.result.now c.as_bytes.ensures.value
    c.in_ok-write_bytes.ensures.ok c.in_ok-write_bytes-2.ensures.ok c.flush.ensures.bytes)
