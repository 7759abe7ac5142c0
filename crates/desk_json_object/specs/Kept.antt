-- What the parts of a reader keep.
use Rattle.std.specs.Prelude.{◌≡◌, ℕ, ◌<◌, ◌≤◌, true, false, List, [], Option, Some, None, Result, Ok, Err, ⊤}
use Rattle.json.specs.Token.{Token}
use Rattle.serde_json.specs.Data.{Data, object, Items, no_items, item, Members}
use Rattle.serde_json.specs.Events.{members_len}
use Rattle.desk_json_object.specs.Seen.{texts_seen}
use Rattle.desk_json_object.specs.Spared.{spared, spared_members, are_texts}
use Rattle.desk_json_object.specs.declared.object.Unread.{Unread}
use Rattle.desk_json_object.specs.declared.object.Unread.TheVariants as why

-- nothing is read, but not for lack of memory
abbrev pub IsRefused : {X : Type 0} → Result X Unread → Type 0
IsRefused (Ok _) = ⊥
IsRefused (Err why.NoObject) = ⊤
IsRefused (Err why.Memory) = ⊥

-- items after others
abbrev pub joined : Items → Items → Items
joined no_items behind = behind
joined (item d ds) behind = item d (joined ds behind)

-- the items so far, if they are only texts
abbrev pub AreKept : Items → Option (List (List ℕ)) → Type 0
AreKept items (Some texts) = (items ≡ texts_seen texts) × (are_texts items ≡ true)
AreKept items None = are_texts items ≡ false

-- the items of an array up to its end, which are kept if they are only texts
abbrev pub KeepsItems : Option (Items × List Token) → Option (List (List ℕ)) → List Token → Type 0
KeepsItems taken texts rest = (ds : Items) × (taken ≡ Some (ds, rest)) × AreKept ds texts

-- a value, of which this is kept
abbrev pub Keeps : Option (Data × List Token) → Data → List Token → Type 0
Keeps taken kept rest = (d : Data) × (taken ≡ Some (d, rest)) × (spared d ≡ kept)

-- at most this many members, of which these are kept
abbrev pub KeepsMembers : ℕ → Option (Members × List Token) → Members → List Token → Type 0
KeepsMembers most taken kept rest = (ms : Members) × (taken ≡ Some (ms, rest))
    × (members_len ms ≤ most) × (spared_members ms ≡ kept)

-- however many members there are, there are more than this many
abbrev pub AreTooMany : ℕ → Option (Members × List Token) → Type 0
AreTooMany most taken = (ms : Members) (rest : List Token) → taken ≡ Some (ms, rest)
    → most < members_len ms

-- the same for an object
abbrev pub KeepsObject : ℕ → Option (Data × List Token) → Members → List Token → Type 0
KeepsObject most taken kept rest = (ms : Members) × (taken ≡ Some (object ms, rest))
    × (members_len ms ≤ most) × (spared_members ms ≡ kept)

-- what was taken is no object, or something follows it, or it has more than this many members
abbrev pub IsNoObject : ℕ → Option (Data × List Token) → Type 0
IsNoObject most taken = (ms : Members) (rest : List Token) → taken ≡ Some (object ms, rest)
    → rest ≡ [] → most < members_len ms
