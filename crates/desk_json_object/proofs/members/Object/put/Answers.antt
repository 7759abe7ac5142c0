use Rattle.std.proofs.Common.{◌≡◌, string_bytes, ap, ◌∙◌, rules}
use Rattle.serde_json.specs.Data.{put}
use Rattle.desk_json_object.specs.Seen.{member_seen, members_seen}
use Rattle.desk_json_object.proofs.Keeping.{members_seen-insert_entry}
use Rattle.desk_json_object.proofs.members.Object.put.Goals as goal

pub returns : goal.returns
returns c =
    let old = c.args.self.now.members.entries in
    let copied : string_bytes c.in_ok-key.key ≡ c.args.name.now = search rules in
    ap members_seen c.in_ok-insert.ensures.entries
    ∙ members_seen-insert_entry old c.in_ok-key.key c.args.member
    ∙ ap (λ name. put name (member_seen c.args.member) (members_seen old)) copied
