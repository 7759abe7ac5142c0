use Rattle.std.proofs.Common.{sym, ◌∙◌}
use Rattle.desk_json_object.specs.Seen.{members_seen}
use Rattle.desk_json.proofs.Sparing.{count_len}
use Rattle.desk_json.proofs.fields.size_of.Goals as goal

pub returns : goal.returns
returns c = c.len.ensures ∙ sym (count_len (members_seen c.args.object.now.members.entries))
