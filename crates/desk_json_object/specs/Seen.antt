-- The data that is represented by what is kept of an object.
use Rattle.std.specs.Prelude.{ℕ, List, map, String, string_bytes}
use Rattle.std.specs.declared.alloc.Global.{Global}
use Rattle.serde_json.specs.Data.{Data, null, number, string, array, object, Items, Members}
use Rattle.serde_json.specs.View.{number_view, items_of, members_of}
use Rattle.desk_json_object.specs.declared.members.Member.{Member}
use Rattle.desk_json_object.specs.declared.members.Member.TheVariants as kept
use Rattle.desk_json_object.specs.declared.members.Object.{Object}

-- texts as the items of an array
abbrev pub texts_seen : List (List ℕ) → Items
texts_seen texts = items_of (map string texts)

-- the value of a member: a text, a number or a list of texts; null for whatever else it was, since
-- no one looks at it
abbrev pub member_seen : Member → Data
member_seen (kept.Text s) = string (string_bytes s)
member_seen (kept.Number n) = number (number_view n)
member_seen (kept.Texts texts) = array (texts_seen texts)
member_seen kept.Other = null

-- the members that a map keeps: each key once, in the order of the keys
abbrev pub members_seen : List (String Global × Member) → Members
members_seen ms = members_of (map (λ m. (m.0, member_seen m.1)) ms)

-- the whole object
abbrev pub seen : Object → Data
seen o = object (members_seen o.members.entries)
