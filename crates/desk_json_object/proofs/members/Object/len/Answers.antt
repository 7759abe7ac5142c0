use Rattle.std.proofs.Common.{sym, ◌∙◌}
use Rattle.desk_json_object.proofs.Keeping.{len_seen}
use Rattle.desk_json_object.proofs.members.Object.len.Goals as goal

pub returns : goal.returns
returns c = c.len.ensures.len ∙ sym (len_seen c.args.self.now.members.entries)
