use Rattle.std.proofs.Common.{◌++◌, take}
use Rattle.std.proofs.KnownBytes.{Appends-trans}
use Rattle.desk_script.proofs.Losing.{front_moved}
use Rattle.desk_script.proofs.serving.write_bytes.Goals as goal

pub loop-preserved : goal.loop-preserved
loop-preserved g c =
    let at = c.loop.invariant in
    let written = take c.in_ok-taken.taken c.loop.rest.now in
    record {
      front = at.front ++ written;
      cut = front_moved c.args.bytes.now at.front c.loop.rest.now c.in_ok-taken.taken at.cut;
      written = Appends-trans (g.W.Write.contents c.args.writer.now)
          (g.W.Write.contents c.loop.writer) (g.W.Write.contents c.write_some.new.writer) at.front
          written at.written c.in_ok-taken.ensures.ok.1;
    }
