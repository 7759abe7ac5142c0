-- The fault of a catalogue is the first of all that it has.
use Rattle.std.proofs.Common.{◌≡◌, ◌∙◌, ℕ, Bool, true, false, cond, List, [], ◌∷◌, ◌++◌, length}
use Rattle.std.proofs.Common.{Option, Some, None, Ok, Err, refl, sym, ap, subst, arith}
use Rattle.std.specs.Prelude.{All, codes, nat_lt, if◌then◌else◌}
use Rattle.std.specs.List.{list_all}
use Rattle.std.specs.Option.{ok_or, option_map, option_map_or}
use Rattle.std.specs.Result.{result_err}
use Rattle.std.proofs.lemmas.List.Elements.{All-nil, All-cons, All-append, All-weaker}
use Rattle.toml.specs.Data.{Data, Items, Members, as_array, as_str, get_member}
use Rattle.toml.specs.Parse.{parse_document}
use Rattle.desk_base.specs.Limits as limit
use Rattle.desk_base.specs.Results.{then_read}
use Rattle.desk_base.specs.TextSets.{is_among}
use Rattle.desk_model.specs.Texts.{text_below}
use Rattle.desk_model.specs.declared.reading.Rule.{Rule}
use Rattle.desk_model.specs.declared.refusal.CatalogueFault.TheVariants as faults
use Rattle.desk_model.specs.declared.refusal.CataloguePart.{CataloguePart}
use Rattle.desk_model.specs.declared.refusal.CataloguePart.TheVariants as part
use Rattle.desk_catalogue.specs.declared.catalogue.Catalogue.{Catalogue}
use Rattle.desk_catalogue.specs.declared.catalogue.LicenceText.{LicenceText}
use Rattle.desk_catalogue.specs.AllFaults.{IsFirstOf, all_faults, all_in, code_of}
use Rattle.desk_catalogue.specs.AllFaults.{duties_faults, faults_of_table, forms_faults}
use Rattle.desk_catalogue.specs.AllFaults.{licence_named, named_by, named_in, of_count, of_entries, of_part, of_table, place}
use Rattle.desk_catalogue.specs.AllFaults.{kind_fault}
use Rattle.desk_catalogue.specs.AllFaults.{place_of, repeated, rules_faults, subject, texts_faults}
use Rattle.desk_catalogue.specs.Faults.{duty_fault, form_fault, key_fault, least, rule_fault}
use Rattle.desk_catalogue.specs.Faults.{term_fault, text_fault}
use Rattle.desk_catalogue.specs.Kept.{has_rule, stand_once}
use Rattle.desk_catalogue.specs.Reading.{Read, catalogue_of, catalogue_of_table, count, duties_of, each}
use Rattle.desk_catalogue.specs.Reading.{forms_of, licence_texts_of, is_form_count, rules_of, tables_of, with_duty}
use Rattle.desk_catalogue.specs.Reading.{with_rule, with_text}
use Rattle.desk_catalogue.specs.Values.{id_of, texts_of}
use Rattle.desk_catalogue.proofs.EachFirst.{IsByIndex, IsFound, IsStep, duty_by_index, each_first}
use Rattle.desk_catalogue.proofs.EachFirst.{rule_by_index, text_by_index}
use Rattle.desk_catalogue.proofs.FormsFirst.{IsPart, forms_read}
use Rattle.desk_catalogue.proofs.PartsFirst.{AreOf, IsAsAmong, IsAsIn, duty_step, rule_step, text_step}
use Rattle.desk_catalogue.proofs.Places.{IsNotBelow, all_places, at_front, left_least}

-- ---- a part of tables

module _ {K S : Type 0} (p : CataloguePart) (c : ℕ) (by : IsByIndex p)
    (head : (j n : ℕ) → (rest : List ℕ) × (place p j n ≡ c ∷ rest)) (own : Data → Option ℕ)
    (named : Data → Option K) (has : List K → K → Bool) (put : S → ℕ → Data → Read S)
    (Shows : S → List K → Type 0)
    (step : (s : S) (before : List K) (i : ℕ) (d : Data) → Shows s before
    → IsStep p Shows (own d) (repeated has before (named d)) before (named d) i (put s i d))
    (none : S) (empty : Shows none []) where
  abbrev IsRead : List (List ℕ) → List K → Read S → Type 0
  IsRead places names read = IsPart c places (λ s. Shows s names) read

  tables_found : (ds : Items)
      → IsRead (all_in p own named has [] 0 ds) (named_in named ds) (each put none 0 ds)
  tables_found ds = found (each put none 0 ds)
      (each_first p by own named has put Shows step none [] 0 ds empty)
    where
      found : (r : Read S) → IsFound p Shows [] (named_in named ds) 0 (all_in p own named has [] 0 ds) r
          → IsRead (all_in p own named has [] 0 ds) (named_in named ds) r
      found (Ok s) is = is
      found (Err f) (j, n, le, is, least) =
          let front = head j n in
          (front.0, is ∙ front.1, least)

  pub part_found : (o : Option Data)
      → IsRead (of_part p (all_in p own named has [] 0) o) (named_by named o)
      (then_read (tables_of p o) (each put none 0))
  part_found None = (refl, empty)
  part_found (Some d) = by_list (as_array d)
    where
      by_list : (o : Option Items)
          → IsRead (option_map_or (all_in p own named has [] 0) o (place p 0 3 ∷ []))
          (option_map_or (named_in named) o [])
          (then_read (ok_or o (faults.BadKind p 0)) (each put none 0))
      by_list None =
          let front = head 0 3 in (
            front.0,
            front.1,
            at_front (place p 0 3) [] (All-nil (IsNotBelow (place p 0 3)))
                (by.same 0 3 3 (omega arith)),
          )
      by_list (Some ds) = tables_found ds

all_of_part : {K : Type 0} (P : List ℕ → Type 0) (p : CataloguePart) (own : Data → Option ℕ)
    (named : Data → Option K) (has : List K → K → Bool) (o : Option Data)
    → ((j n : ℕ) → P (place p j n)) → All P (of_part p (all_in p own named has [] 0) o)
all_of_part P p own named has None is = All-nil P
all_of_part P p own named has (Some d) is = by_list (as_array d)
  where
    by_list : (o : Option Items)
        → All P (option_map_or (all_in p own named has [] 0) o (place p 0 3 ∷ []))
    by_list None = All-cons P (place p 0 3) [] (is 0 3) (All-nil P)
    by_list (Some ds) = all_places p own named has P [] 0 ds (λ j n le. is j n)

all_of_forms : (P : List ℕ → Type 0) (o : Option Data)
    → ((j n : ℕ) → P (place part.Forms j n)) → All P (forms_faults o)
all_of_forms P None is = All-cons P (place part.Forms 0 2) [] (is 0 2) (All-nil P)
all_of_forms P (Some d) is = by_list (as_array d)
  where
    by_count : (b : Bool) → All P (cond b [] (place part.Forms 0 3 ∷ []))
    by_count true = All-nil P
    by_count false = All-cons P (place part.Forms 0 3) [] (is 0 3) (All-nil P)

    by_list : (o : Option Items)
        → All P (option_map_or of_entries o (place part.Forms 0 3 ∷ []))
    by_list None = All-cons P (place part.Forms 0 3) [] (is 0 3) (All-nil P)
    by_list (Some ds) = All-append P (of_count (count ds))
        (all_in part.Forms kind_fault id_of is_among [] 0 ds) (by_count (is_form_count (count ds)))
        (all_places part.Forms kind_fault id_of is_among P [] 0 ds (λ j n le. is j n))

duties_read : (o : Option Data)
    → IsPart 3 (duties_faults o) (λ s. IsAsAmong s (named_by code_of o)) (duties_of o)
duties_read o = part_found part.Duty 3 duty_by_index (λ j n. (j ∷ n ∷ [], refl))
    (of_table duty_fault) code_of is_among with_duty IsAsAmong duty_step [] (λ t. refl) o

rules_read : (terms : List ℕ → Option (List ℕ)) (forms duties : List (List ℕ)) (o : Option Data)
    → IsPart 4 (rules_faults terms forms duties o) (λ s. IsAsIn s (named_by (subject terms) o))
    (rules_of terms forms duties o)
rules_read terms forms duties o = part_found part.Rule 4 rule_by_index (λ j n. (j ∷ n ∷ [], refl))
    (of_table (rule_fault terms forms duties)) (subject terms) has_rule
    (with_rule terms forms duties) IsAsIn (rule_step terms forms duties) [] (λ r. refl) o

texts_read : (o : Option Data)
    → IsPart 5 (texts_faults o) (λ s. AreOf s (named_by licence_named o)) (licence_texts_of o)
texts_read o = part_found part.Text 5 text_by_index (λ j n. (j ∷ n ∷ [], refl))
    (of_table text_fault) licence_named is_among with_text AreOf text_step [] refl o

-- ---- part by part

abbrev IsFirst : {A : Type 0} → List (List ℕ) → Read A → Type 0
IsFirst places read = IsFirstOf places (option_map place_of (result_err read))

-- whatever place begins with c, this isn't below it
abbrev IsPast : ℕ → List ℕ → Type 0
IsPast c other = (rest : List ℕ) → text_below other (c ∷ rest) ≡ false

first_then : {A B : Type 0} (c : ℕ) (places later : List (List ℕ)) (shows : A → Type 0)
    (read : Read A) (next : A → Read B) → IsPart c places shows read → All (IsPast c) later
    → ((x : A) → shows x → IsFirst later (next x)) → IsFirst (places ++ later) (then_read read next)
first_then c places later shows (Err f) next (rest, is, first) past more =
    left_least places later (place_of f) first (All-weaker (IsPast c) (IsNotBelow (place_of f))
    (λ other behind. subst (λ p. IsNotBelow p other) (sym is) (behind rest)) later past)
first_then c places later shows (Ok x) next (none, is) past more =
    subst (λ l. IsFirst (l ++ later) (next x)) (sym none) (more x is)

-- ---- which codes are known

abbrev rules_faults_by : (List ℕ → Option (List ℕ)) → List (List ℕ) → (List ℕ → Bool)
    → Option Data → List (List ℕ)
rules_faults_by terms forms is_code o = of_part part.Rule (all_in part.Rule (of_table (λ ms.
    least (key_fault as_str (term_fault terms) (get_member (codes "term") ms))
    (least (key_fault as_str (form_fault forms) (get_member (codes "form") ms))
    (key_fault texts_of (λ texts. if list_all is_code texts
    then (if stand_once texts then None else Some 7) else Some 6)
    (get_member (codes "duties") ms))))) (subject terms) has_rule [] 0) o

same_codes : (terms : List ℕ → Option (List ℕ)) (forms duties codes_named : List (List ℕ))
    (o : Option Data) → IsAsAmong duties codes_named
    → rules_faults terms forms duties o ≡ rules_faults terms forms codes_named o
same_codes terms forms duties codes_named o same =
    λ k. rules_faults_by terms forms (λ t. same t k) o

-- ---- the whole

module _ (terms : List ℕ → Option (List ℕ)) (ms : Members) where
  abbrev forms_named : List (List ℕ)
  forms_named = named_by id_of (get_member (codes "forms") ms)

  abbrev codes_named : List (List ℕ)
  codes_named = named_by code_of (get_member (codes "duty") ms)

  abbrev texts_last : List (List ℕ)
  texts_last = texts_faults (get_member (codes "text") ms)

  abbrev rules_last : List (List ℕ)
  rules_last = rules_faults terms forms_named codes_named (get_member (codes "rule") ms)

  past_texts : (P : List ℕ → Type 0) → ((j n : ℕ) → P (place part.Text j n)) → All P texts_last
  past_texts P is = all_of_part P part.Text (of_table text_fault) licence_named is_among
      (get_member (codes "text") ms) is

  past_rules : (P : List ℕ → Type 0) → ((j n : ℕ) → P (place part.Rule j n))
      → ((j n : ℕ) → P (place part.Text j n)) → All P (rules_last ++ texts_last)
  past_rules P is later = All-append P rules_last texts_last
      (all_of_part P part.Rule (of_table (rule_fault terms forms_named codes_named))
      (subject terms) has_rule (get_member (codes "rule") ms) is) (past_texts P later)

  past_duties : (P : List ℕ → Type 0) → ((j n : ℕ) → P (place part.Duty j n))
      → ((j n : ℕ) → P (place part.Rule j n)) → ((j n : ℕ) → P (place part.Text j n))
      → All P (duties_faults (get_member (codes "duty") ms) ++ (rules_last ++ texts_last))
  past_duties P is later last = All-append P (duties_faults (get_member (codes "duty") ms))
      (rules_last ++ texts_last) (all_of_part P part.Duty (of_table duty_fault) code_of
      is_among (get_member (codes "duty") ms) is) (past_rules P later last)

  -- each fault of a table is past the size of the text
  past_size : All (IsNotBelow (0 ∷ [])) (faults_of_table terms ms)
  past_size = All-append (IsNotBelow (0 ∷ [])) (forms_faults (get_member (codes "forms") ms))
      (duties_faults (get_member (codes "duty") ms) ++ (rules_last ++ texts_last))
      (all_of_forms (IsNotBelow (0 ∷ [])) (get_member (codes "forms") ms) (λ j n. refl))
      (past_duties (IsNotBelow (0 ∷ [])) (λ j n. refl) (λ j n. refl) (λ j n. refl))

  abbrev catalogue : List (List ℕ) → List Rule → List LicenceText → Catalogue
  catalogue forms rules texts = record { forms = forms; rules = rules; texts = texts }

  texts_first : (forms : List (List ℕ)) (rules : List Rule)
      → IsFirst texts_last (then_read (licence_texts_of (get_member (codes "text") ms))
      (λ texts. Ok (catalogue forms rules texts)))
  texts_first forms rules = found (licence_texts_of (get_member (codes "text") ms))
      (texts_read (get_member (codes "text") ms))
    where
      found : (r : Read (List LicenceText)) → IsPart 5 texts_last
          (λ s. AreOf s (named_by licence_named (get_member (codes "text") ms))) r
          → IsFirst texts_last (then_read r (λ texts. Ok (catalogue forms rules texts)))
      found (Ok texts) (none, is) = none
      found (Err f) (rest, is, first) = first

  rules_first : (forms duties : List (List ℕ)) → forms ≡ forms_named
      → IsAsAmong duties codes_named
      → IsFirst (rules_last ++ texts_last)
      (then_read (rules_of terms forms duties (get_member (codes "rule") ms)) (λ rules.
      then_read (licence_texts_of (get_member (codes "text") ms)) (λ texts.
      Ok (catalogue forms rules texts))))
  rules_first forms duties are known = first_then 4 rules_last texts_last
      (λ s. IsAsIn s (named_by (subject terms) (get_member (codes "rule") ms)))
      (rules_of terms forms duties (get_member (codes "rule") ms))
      (λ rules. then_read (licence_texts_of (get_member (codes "text") ms)) (λ texts.
      Ok (catalogue forms rules texts)))
      (subst (λ (places : List (List ℕ)). IsPart 4 places
      (λ s. IsAsIn s (named_by (subject terms) (get_member (codes "rule") ms)))
      (rules_of terms forms duties (get_member (codes "rule") ms))) same
      (rules_read terms forms duties (get_member (codes "rule") ms)))
      (past_texts (IsPast 4) (λ j n rest. refl)) (λ rules is. texts_first forms rules)
    where
      same : rules_faults terms forms duties (get_member (codes "rule") ms) ≡ rules_last
      same = same_codes terms forms duties codes_named (get_member (codes "rule") ms) known
          ∙ ap (λ fs. rules_faults terms fs codes_named (get_member (codes "rule") ms)) are

  table_first : IsFirst (faults_of_table terms ms) (catalogue_of_table terms ms)
  table_first = first_then 2 (forms_faults (get_member (codes "forms") ms))
      (duties_faults (get_member (codes "duty") ms) ++ (rules_last ++ texts_last))
      (λ forms. forms ≡ forms_named) (forms_of (get_member (codes "forms") ms)) (λ forms.
      then_read (duties_of (get_member (codes "duty") ms)) (λ duties.
      then_read (rules_of terms forms duties (get_member (codes "rule") ms)) (λ rules.
      then_read (licence_texts_of (get_member (codes "text") ms)) (λ texts.
      Ok (catalogue forms rules texts))))) (forms_read (get_member (codes "forms") ms))
      (past_duties (IsPast 2) (λ j n rest. refl) (λ j n rest. refl) (λ j n rest. refl))
      (λ forms are. first_then 3 (duties_faults (get_member (codes "duty") ms))
      (rules_last ++ texts_last) (λ duties. IsAsAmong duties codes_named)
      (duties_of (get_member (codes "duty") ms)) (λ duties.
      then_read (rules_of terms forms duties (get_member (codes "rule") ms)) (λ rules.
      then_read (licence_texts_of (get_member (codes "text") ms)) (λ texts.
      Ok (catalogue forms rules texts)))) (duties_read (get_member (codes "duty") ms))
      (past_rules (IsPast 3) (λ j n rest. refl) (λ j n rest. refl))
      (λ duties known. rules_first forms duties are known))

abbrev faults_of : (List ℕ → Option (List ℕ)) → Option Members → List (List ℕ)
faults_of terms o = option_map_or (faults_of_table terms) o (place_of faults.NotToml ∷ [])

abbrev read_of : (List ℕ → Option (List ℕ)) → Option Members → Read Catalogue
read_of terms o = then_read (ok_or o faults.NotToml) (catalogue_of_table terms)

toml_first : (terms : List ℕ → Option (List ℕ)) (o : Option Members)
    → IsFirst (faults_of terms o) (read_of terms o)
toml_first terms None = at_front (1 ∷ []) [] (All-nil (IsNotBelow (1 ∷ []))) refl
toml_first terms (Some ms) = table_first terms ms

pub all_first : (terms : List ℕ → Option (List ℕ)) (text : List ℕ)
    → IsFirst (all_faults terms text) (catalogue_of terms text)
all_first terms text =
    by_size (nat_lt limit.catalogue_bytes (length text)) (parse_document text)
  where
    by_size : (b : Bool) (o : Option Members)
        → IsFirst (cond b (place_of faults.TooLarge ∷ []) [] ++ faults_of terms o)
        (cond b (Err faults.TooLarge) (read_of terms o))
    by_size false o = toml_first terms o
    by_size true None = at_front (0 ∷ []) (faults_of terms None)
        (All-cons (IsNotBelow (0 ∷ [])) (1 ∷ []) [] refl (All-nil (IsNotBelow (0 ∷ [])))) refl
    by_size true (Some ms) = at_front (0 ∷ []) (faults_of_table terms ms) (past_size terms ms) refl
