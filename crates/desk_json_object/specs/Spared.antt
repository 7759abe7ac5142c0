-- The object whose JSON text the bytes are, without what no reader of texts, whole numbers and
-- lists of texts looks at.
use Rattle.std.specs.Prelude.{◌≡◌, ℕ, ◌<◌, ◌≤◌, ◌&&◌, Bool, true, is_some, if◌then◌else◌, List}
use Rattle.std.specs.Prelude.{IsUtf8, Option, Some, None}
use Rattle.serde_json.specs.Data.{Data, null, boolean, number, string, array, object, Items}
use Rattle.serde_json.specs.Data.{no_items, item, Members, no_members, member}
use Rattle.serde_json.specs.Events.{members_len}
use Rattle.serde_json.specs.Find.{as_str}
use Rattle.serde_json.specs.Read.{read}

-- a list that has only texts
abbrev pub are_texts : Items → Bool
are_texts no_items = true
are_texts (item d ds) = is_some (as_str d) && are_texts ds

-- nothing in place of a list that has anything else, of an object, and of a truth value
abbrev pub spared : Data → Data
spared null = null
spared (boolean b) = null
spared (number n) = number n
spared (string s) = string s
spared (array ds) = if are_texts ds then array ds else null
spared (object ms) = null

-- the same for each member of the object; the keys stay
abbrev pub spared_members : Members → Members
spared_members no_members = no_members
spared_members (member key d ms) = member key (spared d) (spared_members ms)

-- bytes are the text of an object with these members
abbrev pub IsObject : List ℕ → Members → Type 0
IsObject bytes ms = IsUtf8 bytes × (read bytes ≡ Some (object ms))

-- what is kept of the object that bytes are, which has at most this many members; or they are no
-- such object
abbrev pub IsSpared : ℕ → List ℕ → Option Data → Type 0
IsSpared most bytes (Some d) = (ms : Members) × IsObject bytes ms × (members_len ms ≤ most)
    × (d ≡ object (spared_members ms))
IsSpared most bytes None = (ms : Members) → IsObject bytes ms → most < members_len ms
