-- The members of a JSON object (RFC 8259, section 4), as requests have them.
use Rattle.std.specs.Prelude.{ℕ, ◌+◌, ◌^◌, List, [], ◌∷◌, nat_lt, if◌then◌else◌, Option, Some, None}
use Rattle.std.specs.Prelude.{unwrap_or, option_map, option_and_then}
use Rattle.desk_base.specs.Profiles.{profile_numbered}
use Rattle.desk_base.specs.declared.profile.Profile.{Profile}
use Rattle.serde_json.specs.Data.{Data, Items, no_items, item, Members, no_members, member}
use Rattle.serde_json.specs.Find.{get, as_number, as_str, as_array, as_object, as_u64}

-- how many members there are; a key that appears twice is one member by now, with its last value
abbrev pub count : Members → ℕ
count no_members = 0
count (member key d members) = count members + 1

-- how many members an object has; a value of another kind has none
abbrev pub size : Data → ℕ
size d = unwrap_or (option_map count (as_object d)) 0

-- the text of a member
abbrev pub text_in : List ℕ → Data → Option (List ℕ)
text_in key d = option_and_then as_str (get key d)

-- a number is kept if it is at most 9,223,372,036,854,775,807, the largest of 64 bits with a sign
abbrev pub if_small : ℕ → Option ℕ
if_small n = if nat_lt n (2 ^ 63) then Some n else None

-- the whole number of a member, 0 to 9,223,372,036,854,775,807
abbrev pub number_in : List ℕ → Data → Option ℕ
number_in key d = option_and_then if_small
    (option_and_then as_u64 (option_and_then as_number (get key d)))

-- the profile of operators whose number is a member's value
abbrev pub profile_in : List ℕ → Data → Option Profile
profile_in key d = option_and_then profile_numbered (number_in key d)

-- the texts of a list that has nothing else
abbrev pub texts : Items → Option (List (List ℕ))
texts no_items = Some []
texts (item d ds) = option_and_then (λ text. option_map (λ more. text ∷ more) (texts ds)) (as_str d)

-- the texts of a member that is a list of texts
abbrev pub texts_in : List ℕ → Data → Option (List (List ℕ))
texts_in key d = option_and_then texts (option_and_then as_array (get key d))
