use Rattle.std.proofs.Common.{append_assoc}
use Rattle.desk_report.proofs.notice.add_heading.Goals as goal

pub returns : goal.returns
returns c = rw (c.in_ok-add_framed.ensures, append_assoc) at c.add_framed-2.ensures
