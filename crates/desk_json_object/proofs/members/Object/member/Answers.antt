use Rattle.std.proofs.Common.{option_map, ap, ◌∙◌}
use Rattle.desk_json_object.specs.Seen.{member_seen}
use Rattle.desk_json_object.proofs.Keeping.{seen_of_ref, found}
use Rattle.desk_json_object.proofs.members.Object.member.Goals as goal

pub returns : goal.returns
returns c = seen_of_ref c.get.result ∙ ap (option_map member_seen) c.get.ensures.value
    ∙ found c.args.name.now c.args.self.now.members.entries
