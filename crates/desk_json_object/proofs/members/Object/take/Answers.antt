use Rattle.std.proofs.Common.{option_map, ap, ◌∙◌}
use Rattle.desk_json_object.specs.Seen.{member_seen}
use Rattle.desk_json_object.proofs.Keeping.{found}
use Rattle.desk_json_object.proofs.members.Object.take.Goals as goal

pub returns : goal.returns
returns c = ap (option_map member_seen) c.remove.ensures.value
    ∙ found c.args.name.now c.args.self.now.members.entries
