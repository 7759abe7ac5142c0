-- Why a line is no request.
use Rattle.std.specs.Prelude.{◌≡◌, ◌≢◌, ℕ, ◌^◌, ◌&&◌, ◌||◌, Bool, true, false, nat_lt, List, Option}
use Rattle.std.specs.Prelude.{Some, None, codes, is_some, if◌then◌else◌, option_and_then}
use Rattle.std.specs.Str.{IsUtf8}
use Rattle.std.specs.String.{string_bytes}
use Rattle.serde_json.specs.Data.{Data, Items, no_items, item}
use Rattle.serde_json.specs.Find.{get, as_array, as_number, as_object, as_str, as_u64}
use Rattle.serde_json.specs.Read.{read}
use Rattle.desk_base.specs.Profiles.{profile_numbered}
use Rattle.desk_words.specs.declared.forms.Wanted.{Wanted}
use Rattle.desk_words.specs.declared.forms.Wanted.TheVariants.{Text, Number, Profile, Texts}
use Rattle.desk_words.specs.declared.requests.RequestTrouble.{RequestTrouble}
use Rattle.desk_words.specs.declared.requests.RequestTrouble.TheVariants.{TooLong, NotJson}
use Rattle.desk_words.specs.declared.requests.RequestTrouble.TheVariants.{NotObject, NoWord}
use Rattle.desk_words.specs.declared.requests.RequestTrouble.TheVariants.{UnknownCommand}
use Rattle.desk_words.specs.declared.requests.RequestTrouble.TheVariants.{UnknownQuestion}
use Rattle.desk_words.specs.declared.requests.RequestTrouble.TheVariants.{UnknownKey, MissingKey}
use Rattle.desk_words.specs.declared.requests.RequestTrouble.TheVariants.{BadValue}

-- the text of a member
abbrev pub text_in : List ℕ → Data → Option (List ℕ)
text_in key d = option_and_then as_str (get key d)

-- a number, if a request may have it
abbrev pub if_small : ℕ → Option ℕ
if_small n = if nat_lt n (2 ^ 63) then Some n else None

-- the whole number that a value is, if a request may have it
abbrev pub number_of : Data → Option ℕ
number_of d = option_and_then if_small (option_and_then as_u64 (as_number d))

-- whether a list contains only texts
abbrev pub are_texts : Items → Bool
are_texts no_items = true
are_texts (item d ds) = is_some (as_str d) && are_texts ds

-- the same of a value that may be no list
abbrev pub are_texts_in : Option Items → Bool
are_texts_in None = false
are_texts_in (Some items) = are_texts items

-- whether a value is of the kind that a key needs
abbrev pub is_wanted : Wanted → Data → Bool
is_wanted Text d = is_some (as_str d)
is_wanted Number d = is_some (number_of d)
is_wanted Profile d = is_some (option_and_then profile_numbered (number_of d))
is_wanted Texts d = are_texts_in (as_array d)

-- whether an object names a command or a question
abbrev pub has_word : Data → Bool
has_word d = is_some (text_in (codes "do") d) || is_some (text_in (codes "ask") d)

-- what a trouble says of a value that was read
abbrev pub IsSoOf : Data → RequestTrouble → Type 0
IsSoOf d TooLong = ⊥
IsSoOf d (NotJson byte) = ⊥
IsSoOf d NotObject = as_object d ≡ None
IsSoOf d NoWord = (as_object d ≢ None) × (has_word d ≡ false)
IsSoOf d (UnknownCommand word) = text_in (codes "do") d ≡ Some (string_bytes word)
IsSoOf d (UnknownQuestion word) = (text_in (codes "do") d ≡ None)
    × (text_in (codes "ask") d ≡ Some (string_bytes word))
IsSoOf d (UnknownKey key) = get (string_bytes key) d ≢ None
IsSoOf d (MissingKey key) = get key.now d ≡ None
IsSoOf d (BadValue key wanted) = (value : Data) × (get key.now d ≡ Some value)
    × (is_wanted wanted value ≡ false)

-- if no trouble is found, the value is an object that names a command or a question
abbrev pub IsFoundIn : Data → Option RequestTrouble → Type 0
IsFoundIn d (Some trouble) = IsSoOf d trouble
IsFoundIn d None = has_word d ≡ true

-- what a trouble says of the bytes of a line
abbrev pub IsSo : List ℕ → RequestTrouble → Type 0
IsSo bytes (NotJson byte) = IsUtf8 bytes → read bytes ≡ None
IsSo bytes trouble = (d : Data) × (read bytes ≡ Some d) × IsSoOf d trouble

-- if no trouble is found, the line is such an object
abbrev pub IsFound : List ℕ → Option RequestTrouble → Type 0
IsFound bytes (Some trouble) = IsSo bytes trouble
IsFound bytes None = (d : Data) × (read bytes ≡ Some d) × (has_word d ≡ true)
