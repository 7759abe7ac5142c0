-- What is wrong with the keys of a table, each by itself, by the numbers of the faults; and which of
-- these is the table's.
use Rattle.std.specs.Prelude.{ℕ, nat_lt, List, codes, Option, Some, None, is_some, if◌then◌else◌}
use Rattle.std.specs.List.{list_all}
use Rattle.std.specs.Option.{option_map_or}
use Rattle.toml.specs.Data.{Data, Members, as_str, get_member}
use Rattle.desk_base.specs.TextSets.{is_among}
use Rattle.desk_catalogue.specs.Kept.{stand_once}
use Rattle.desk_catalogue.specs.Terms.{licence_of}
use Rattle.desk_catalogue.specs.Values.{id_of, is_text_id, texts_of, title_of}

-- the lesser of two numbers, if there are any
abbrev pub least : Option ℕ → Option ℕ → Option ℕ
least None b = b
least (Some n) None = Some n
least (Some n) (Some m) = Some (if nat_lt m n then m else n)

-- a key that is absent (Missing, 2), whose value is of another kind (BadKind, 3), or whose value has
-- a fault of its own
abbrev pub key_fault : {A : Type 0} → (Data → Option A) → (A → Option ℕ) → Option Data → Option ℕ
key_fault read fault None = Some 2
key_fault read fault (Some d) = option_map_or fault (read d) (Some 3)

-- BadTerm, 4
abbrev pub term_fault : (List ℕ → Option (List ℕ)) → List ℕ → Option ℕ
term_fault terms text = if is_some (licence_of terms text) then None else Some 4

-- UnknownForm, 5
abbrev pub form_fault : List (List ℕ) → List ℕ → Option ℕ
form_fault forms text = if is_among forms text then None else Some 5

-- UnknownDuty, 6, and Twice, 7
abbrev pub codes_fault : List (List ℕ) → List (List ℕ) → Option ℕ
codes_fault duties texts = if list_all (is_among duties) texts
    then (if stand_once texts then None else Some 7) else Some 6

-- the least fault of a rule's keys
abbrev pub rule_fault : (List ℕ → Option (List ℕ)) → List (List ℕ) → List (List ℕ) → Members
    → Option ℕ
rule_fault terms forms duties ms =
    least (key_fault as_str (term_fault terms) (get_member (codes "term") ms))
    (least (key_fault as_str (form_fault forms) (get_member (codes "form") ms))
    (key_fault texts_of (codes_fault duties) (get_member (codes "duties") ms)))

-- no fault of its own
abbrev pub sound : {A : Type 0} → A → Option ℕ
sound value = None

-- the least fault of a duty's keys
abbrev pub duty_fault : Members → Option ℕ
duty_fault ms = least (key_fault id_of sound (get_member (codes "code") ms))
    (key_fault title_of sound (get_member (codes "title") ms))

-- BadTerm, 4
abbrev pub licence_fault : List ℕ → Option ℕ
licence_fault text = if is_text_id text then None else Some 4

-- the least fault of a text's keys
abbrev pub text_fault : Members → Option ℕ
text_fault ms = least (key_fault as_str licence_fault (get_member (codes "licence") ms))
    (key_fault as_str sound (get_member (codes "body") ms))
