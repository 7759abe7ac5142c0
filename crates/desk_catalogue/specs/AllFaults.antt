-- All faults that the text of a catalogue has, each judged by itself, and which of them is first.
use Rattle.std.specs.Prelude.{◌≡◌, ℕ, ◌+◌, nat_lt, Bool, true, false, List, [], ◌∷◌, ◌++◌, length, codes}
use Rattle.std.specs.Prelude.{All, Option, Some, None, option_map, option_and_then, if◌then◌else◌}
use Rattle.std.specs.Option.{option_map_or, option_to_list}
use Rattle.toml.specs.Data.{Data, Items, no_items, item, Members, as_str, as_array, as_table, get_member}
use Rattle.toml.specs.Parse.{parse_document}
use Rattle.desk_base.specs.Folded.{folded}
use Rattle.desk_base.specs.Limits as limit
use Rattle.desk_base.specs.TextSets.{is_among}
use Rattle.desk_model.specs.FaultNumbers.{catalogue_fault_number}
use Rattle.desk_model.specs.Texts.{text_below}
use Rattle.desk_model.specs.declared.reading.Rule.{Rule}
use Rattle.desk_model.specs.declared.refusal.CatalogueFault.{CatalogueFault}
use Rattle.desk_model.specs.declared.refusal.CatalogueFault.TheVariants as faults
use Rattle.desk_model.specs.declared.refusal.CataloguePart.{CataloguePart}
use Rattle.desk_model.specs.declared.refusal.CataloguePart.TheVariants as part
use Rattle.desk_catalogue.specs.Faults.{duty_fault, rule_fault, sound, text_fault}
use Rattle.desk_catalogue.specs.Kept.{has_rule}
use Rattle.desk_catalogue.specs.Lookup.{sought}
use Rattle.desk_catalogue.specs.Reading.{count, is_form_count}
use Rattle.desk_catalogue.specs.Terms.{licence_of}
use Rattle.desk_catalogue.specs.Values.{id_of}

-- ---- which fault is first

-- the place of a part's fault among all: the forms, each entry's kind before what occurs twice;
-- then the duties, the rules and the texts, each table as a whole before the next one
abbrev pub place : CataloguePart → ℕ → ℕ → List ℕ
place part.Forms index number = 2 ∷ number ∷ index ∷ []
place part.Duty index number = 3 ∷ index ∷ number ∷ []
place part.Rule index number = 4 ∷ index ∷ number ∷ []
place part.Text index number = 5 ∷ index ∷ number ∷ []

-- the place of a fault of a part
abbrev pub placed : CatalogueFault → CataloguePart → ℕ → List ℕ
placed fault p index = place p index (catalogue_fault_number fault)

-- the size of a text is before whether it is TOML, and both are before its parts
abbrev pub place_of : CatalogueFault → List ℕ
place_of faults.TooLarge = 0 ∷ []
place_of faults.NotToml = 1 ∷ []
place_of (faults.Missing p index) = placed (faults.Missing p index) p index
place_of (faults.BadKind p index) = placed (faults.BadKind p index) p index
place_of (faults.BadTerm p index) = placed (faults.BadTerm p index) p index
place_of (faults.UnknownForm p index) = placed (faults.UnknownForm p index) p index
place_of (faults.UnknownDuty p index) = placed (faults.UnknownDuty p index) p index
place_of (faults.Twice p index) = placed (faults.Twice p index) p index

-- it is one of these places, and none of them is before it
pub record IsLeastOf (places : List (List ℕ)) (first : List ℕ) : Type 0 where
  pub among : is_among places first ≡ true
  pub least : All (λ other. text_below other first ≡ false) places

-- the least of these, or none if there are none
abbrev pub IsFirstOf : List (List ℕ) → Option (List ℕ) → Type 0
IsFirstOf places None = places ≡ []
IsFirstOf places (Some first) = IsLeastOf places first

-- ---- the faults of a part

-- the place of a fault with this number, if there is one
abbrev pub at : CataloguePart → ℕ → Option ℕ → List (List ℕ)
at p index None = []
at p index (Some number) = place p index number ∷ []

-- Twice, 7, if what is named is named before
abbrev pub repeated : {K : Type 0} → (List K → K → Bool) → List K → Option K → Option ℕ
repeated has before None = None
repeated has before (Some k) = if has before k then Some 7 else None

-- each entry or table with the fault of its own and with what it names, if one before it names the
-- same
abbrev pub all_in : {K : Type 0} → CataloguePart → (Data → Option ℕ) → (Data → Option K)
    → (List K → K → Bool) → List K → ℕ → Items → List (List ℕ)
all_in p own named has before index no_items = []
all_in p own named has before index (item d ds) =
    at p index (own d) ++ (at p index (repeated has before (named d))
    ++ all_in p own named has (before ++ option_to_list (named d)) (index + 1) ds)

-- what the entries or tables of a part name
abbrev pub named_in : {K : Type 0} → (Data → Option K) → Items → List K
named_in named no_items = []
named_in named (item d ds) = option_to_list (named d) ++ named_in named ds

-- the same for a part that may be absent or no list: it names nothing
abbrev pub named_by : {K : Type 0} → (Data → Option K) → Option Data → List K
named_by named o = option_map_or (named_in named) (option_and_then as_array o) []

-- a table's fault, or BadKind, 3, of what is no table
abbrev pub of_table : (Members → Option ℕ) → Data → Option ℕ
of_table fault d = option_map_or fault (as_table d) (Some 3)

-- a part of tables that is absent has no fault; one that is no list is of another kind
abbrev pub of_part : CataloguePart → (Items → List (List ℕ)) → Option Data → List (List ℕ)
of_part p all None = []
of_part p all (Some d) = option_map_or all (as_array d) (place p 0 3 ∷ [])

-- ---- forms

-- an entry that is no form is of another kind
abbrev pub kind_fault : Data → Option ℕ
kind_fault d = option_map_or sound (id_of d) (Some 3)

-- BadKind at 0 if there is no form, or more than 16
abbrev pub of_count : ℕ → List (List ℕ)
of_count n = if is_form_count n then [] else place part.Forms 0 3 ∷ []

-- the count first, then each entry by itself
abbrev pub of_entries : Items → List (List ℕ)
of_entries ds = of_count (count ds) ++ all_in part.Forms kind_fault id_of is_among [] 0 ds

-- Missing at 0 without `forms`, BadKind at 0 if it is no list
abbrev pub forms_faults : Option Data → List (List ℕ)
forms_faults None = place part.Forms 0 2 ∷ []
forms_faults (Some d) = option_map_or of_entries (as_array d) (place part.Forms 0 3 ∷ [])

-- ---- duties

-- the code that a duty table names, if it may be one
abbrev pub code_of : Data → Option (List ℕ)
code_of d = option_and_then (λ ms. option_and_then id_of (get_member (codes "code") ms)) (as_table d)

-- the faults of all duty tables
abbrev pub duties_faults : Option Data → List (List ℕ)
duties_faults o = of_part part.Duty (all_in part.Duty (of_table duty_fault) code_of is_among [] 0) o

-- ---- rules

-- the text of a table's key, if it has one
abbrev pub text_in : List ℕ → Members → Option (List ℕ)
text_in key ms = option_and_then as_str (get_member key ms)

-- what a rule is for, if its term and its form are there
abbrev pub subject_of : Option (List ℕ) → Option (List ℕ) → Option Rule
subject_of (Some term) (Some form) = Some (sought term form)
subject_of (Some term) None = None
subject_of None form = None

-- the term, as it is printed, and the form that a rule is for
abbrev pub subject : (List ℕ → Option (List ℕ)) → Data → Option Rule
subject terms d = option_and_then (λ ms. subject_of
    (option_and_then (licence_of terms) (text_in (codes "term") ms))
    (text_in (codes "form") ms)) (as_table d)

-- given the forms and the codes of duties that the other parts name
abbrev pub rules_faults : (List ℕ → Option (List ℕ)) → List (List ℕ) → List (List ℕ)
    → Option Data → List (List ℕ)
rules_faults terms forms duties o = of_part part.Rule
    (all_in part.Rule (of_table (rule_fault terms forms duties)) (subject terms) has_rule [] 0) o

-- ---- texts

-- the licence or exception that a text table names, in lower case
abbrev pub licence_named : Data → Option (List ℕ)
licence_named d = option_and_then (λ ms. option_map folded (text_in (codes "licence") ms))
    (as_table d)

-- the faults of all text tables
abbrev pub texts_faults : Option Data → List (List ℕ)
texts_faults o =
    of_part part.Text (all_in part.Text (of_table text_fault) licence_named is_among [] 0) o

-- ---- the whole

-- the faults of all parts, each part judged even if another one has faults
abbrev pub faults_of_table : (List ℕ → Option (List ℕ)) → Members → List (List ℕ)
faults_of_table terms ms =
    forms_faults (get_member (codes "forms") ms)
    ++ (duties_faults (get_member (codes "duty") ms)
    ++ (rules_faults terms (named_by id_of (get_member (codes "forms") ms))
    (named_by code_of (get_member (codes "duty") ms)) (get_member (codes "rule") ms)
    ++ texts_faults (get_member (codes "text") ms)))

-- a text of more than 4 MiB
abbrev pub too_large : List ℕ → List (List ℕ)
too_large text = if nat_lt limit.catalogue_bytes (length text) then place_of faults.TooLarge ∷ []
    else []

-- all faults of a text, given what texts of terms say; a text that is no TOML has no parts
abbrev pub all_faults : (List ℕ → Option (List ℕ)) → List ℕ → List (List ℕ)
all_faults terms text = too_large text
    ++ option_map_or (faults_of_table terms) (parse_document text) (place_of faults.NotToml ∷ [])
