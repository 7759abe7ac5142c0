-- The fault of a table is the least of those of its keys.
use Rattle.std.proofs.Common.{◌≡◌, ◌∙◌, ℕ, ◌≤◌, Bool, true, false, cond, List, Option, Some, None}
use Rattle.std.proofs.Common.{Ok, Err, refl, sym, ap, arith}
use Rattle.std.specs.Prelude.{not, nat_lt, is_some, codes, if◌then◌else◌}
use Rattle.std.specs.List.{list_all}
use Rattle.std.specs.Option.{ok_or, option_map, option_map_or}
use Rattle.std.specs.Result.{result_err}
use Rattle.std.proofs.lemmas.Bool.Decides.{nat_tests}
use Rattle.toml.specs.Data.{Data, Members, as_str, as_table, get_member}
use Rattle.desk_base.specs.Results.{then_read}
use Rattle.desk_base.specs.TextSets.{is_among}
use Rattle.desk_model.specs.FaultNumbers.{catalogue_fault_number}
use Rattle.desk_model.specs.Texts.{sorted_set}
use Rattle.desk_model.specs.declared.reading.Rule.{Rule}
use Rattle.desk_model.specs.declared.refusal.CatalogueFault.TheVariants.{BadKind, BadTerm, Twice}
use Rattle.desk_model.specs.declared.refusal.CatalogueFault.TheVariants.{UnknownDuty, UnknownForm}
use Rattle.desk_model.specs.declared.refusal.CataloguePart.TheVariants as part
use Rattle.desk_catalogue.specs.Faults.{codes_fault, duty_fault, form_fault, key_fault, least}
use Rattle.desk_catalogue.specs.Faults.{licence_fault, rule_fault, sound, term_fault, text_fault}
use Rattle.desk_catalogue.specs.declared.catalogue.LicenceText.{LicenceText}
use Rattle.desk_catalogue.specs.Kept.{stand_once}
use Rattle.desk_catalogue.specs.Reading.{Read, RuleTexts, duty_at, duty_of_keys, duty_of_values}
use Rattle.desk_catalogue.specs.Reading.{rule_at, rule_of, rule_texts, rule_values, text_at, text_of}
use Rattle.desk_catalogue.specs.Reading.{text_of_keys, text_of_values}
use Rattle.desk_catalogue.specs.Terms.{licence_of}
use Rattle.desk_catalogue.specs.Values.{id_of, is_text_id, texts_of, title_of}

abbrev number : Read Rule → Option ℕ
number r = option_map catalogue_fault_number (result_err r)

abbrev duty_number : Read (List ℕ) → Option ℕ
duty_number r = option_map catalogue_fault_number (result_err r)

abbrev text_number : Read LicenceText → Option ℕ
text_number r = option_map catalogue_fault_number (result_err r)

abbrev AtLeast : ℕ → Option ℕ → Type 0
AtLeast n None = Unit {0}
AtLeast n (Some m) = n ≤ m

lesser : (n m : ℕ) → n ≤ m → (if nat_lt m n then m else n) ≡ n
lesser n m le = let is : nat_lt m n ≡ false = grind (arith, nat_tests) in ap (λ b. cond b m n) is

greater : (n m : ℕ) (b : Bool) → nat_lt n m ≡ b → n ≤ m → cond b n m ≡ n
greater n m true is le = refl
greater n m false is le = grind (arith, nat_tests)

least_left : (n : ℕ) (o : Option ℕ) → AtLeast n o → least (Some n) o ≡ Some n
least_left n None at = refl
least_left n (Some m) at = ap Some (lesser n m at)

least_right : (n : ℕ) (o : Option ℕ) → AtLeast n o → least o (Some n) ≡ Some n
least_right n None at = refl
least_right n (Some m) at = ap Some (greater n m (nat_lt n m) refl at)

pick : (n a b : ℕ) (c : Bool) → n ≤ a → n ≤ b → n ≤ cond c a b
pick n a b true x y = x
pick n a b false x y = y

both_at : (n : ℕ) (a b : Option ℕ) → AtLeast n a → AtLeast n b → AtLeast n (least a b)
both_at n None b x y = y
both_at n (Some a) None x y = x
both_at n (Some a) (Some b) x y = pick n b a (nat_lt b a) y x

fewer : (n m : ℕ) (o : Option ℕ) → n ≤ m → AtLeast m o → AtLeast n o
fewer n m None le at = tt
fewer n m (Some k) le at = omega (arith, le, at)

-- the first, the second or the third is the least of three
first_least : (n : ℕ) (b c : Option ℕ) → AtLeast n b → AtLeast n c
    → least (Some n) (least b c) ≡ Some n
first_least n b c x y = least_left n (least b c) (both_at n b c x y)

second_least : (n : ℕ) (a c : Option ℕ) → AtLeast n a → AtLeast n c
    → least a (least (Some n) c) ≡ Some n
second_least n a c x y = ap (least a) (least_left n c y) ∙ least_right n a x

third_least : (n : ℕ) (a b : Option ℕ) → AtLeast n a → AtLeast n b
    → least a (least b (Some n)) ≡ Some n
third_least n a b x y = ap (least a) (least_right n b y) ∙ least_right n a x

module _ (terms : List ℕ → Option (List ℕ)) (forms duties : List (List ℕ)) (index : ℕ) where
  -- ---- what a value's own fault is at least

  term_at : (t : List ℕ) → AtLeast 3 (term_fault terms t)
  term_at t = elim (is_some (licence_of terms t)) as
      (λ b. AtLeast 3 (if b then None else Some 4)) [ true ↦ tt | false ↦ omega arith ]

  form_at : (t : List ℕ) → AtLeast 3 (form_fault forms t)
  form_at t = elim (is_among forms t) as (λ b. AtLeast 3 (if b then None else Some 5)) [
    | true ↦ tt
    | false ↦ omega arith
  ]

  codes_at : (ts : List (List ℕ)) → AtLeast 3 (codes_fault duties ts)
  codes_at ts = by_tests (list_all (is_among duties) ts) (stand_once ts)
    where
      by_tests : (a b : Bool)
          → AtLeast 3 (if a then (if b then None else Some 7) else Some 6)
      by_tests true true = tt
      by_tests true false = omega arith
      by_tests false b = omega arith

  value_at : {A : Type 0} (fault : A → Option ℕ) → ((x : A) → AtLeast 3 (fault x))
      → (o : Option A) → AtLeast 3 (option_map_or fault o (Some 3))
  value_at fault at None = omega arith
  value_at fault at (Some x) = at x

  key_at : {A : Type 0} (read : Data → Option A) (fault : A → Option ℕ)
      → ((x : A) → AtLeast 3 (fault x)) → (o : Option Data) → AtLeast 2 (key_fault read fault o)
  key_at read fault at None = omega arith
  key_at read fault at (Some d) =
      fewer 2 3 (option_map_or fault (read d) (Some 3)) (omega arith) (value_at fault at (read d))

  -- ---- what is named

  named : (l : Option (List ℕ)) (a b c : Bool) (texts : RuleTexts)
      → number (then_read (ok_or l (BadTerm part.Rule index)) (λ term.
      if not a then Err (UnknownForm part.Rule index)
      else (if not b then Err (UnknownDuty part.Rule index)
      else (if not c then Err (Twice part.Rule index)
      else Ok (record {
        term = term;
        form = texts.form;
        spelled = texts.term;
        codes = sorted_set texts.duties;
      })))))
      ≡ least (if is_some l then None else Some 4)
      (least (if a then None else Some 5) (if b then (if c then None else Some 7) else Some 6))
  named None true true true texts = refl
  named None true true false texts = refl
  named None true false c texts = refl
  named None false true true texts = refl
  named None false true false texts = refl
  named None false false c texts = refl
  named (Some term) true true true texts = refl
  named (Some term) true true false texts = refl
  named (Some term) true false c texts = refl
  named (Some term) false true true texts = refl
  named (Some term) false true false texts = refl
  named (Some term) false false c texts = refl

  -- ---- the values

  abbrev judged : Read RuleTexts → Read Rule
  judged read = then_read read (λ texts.
      then_read (ok_or (licence_of terms texts.term) (BadTerm part.Rule index))
      (rule_of forms duties index texts))

  values : (term form : Option (List ℕ)) (owed : Option (List (List ℕ)))
      → number (judged (rule_texts index term form owed))
      ≡ least (option_map_or (term_fault terms) term (Some 3))
      (least (option_map_or (form_fault forms) form (Some 3))
      (option_map_or (codes_fault duties) owed (Some 3)))
  values None form owed = sym (first_least 3
      (option_map_or (form_fault forms) form (Some 3))
      (option_map_or (codes_fault duties) owed (Some 3)) (value_at (form_fault forms) form_at form)
      (value_at (codes_fault duties) codes_at owed))
  values (Some term) None owed = sym (second_least 3 (term_fault terms term)
      (option_map_or (codes_fault duties) owed (Some 3)) (term_at term)
      (value_at (codes_fault duties) codes_at owed))
  values (Some term) (Some form) None = sym (third_least 3 (term_fault terms term)
      (form_fault forms form) (term_at term) (form_at form))
  values (Some term) (Some form) (Some owed) =
      named (licence_of terms term) (is_among forms form) (list_all (is_among duties) owed)
      (stand_once owed) (record { term = term; form = form; duties = owed })

  pub keys : (term form owed : Option Data)
      → number (judged (rule_values index term form owed))
      ≡ least (key_fault as_str (term_fault terms) term)
      (least (key_fault as_str (form_fault forms) form)
      (key_fault texts_of (codes_fault duties) owed))
  keys None form owed = sym (first_least 2 (key_fault as_str (form_fault forms) form)
      (key_fault texts_of (codes_fault duties) owed) (key_at as_str (form_fault forms) form_at form)
      (key_at texts_of (codes_fault duties) codes_at owed))
  keys (Some term) None owed = sym (second_least 2 (key_fault as_str (term_fault terms) (Some term))
      (key_fault texts_of (codes_fault duties) owed)
      (key_at as_str (term_fault terms) term_at (Some term))
      (key_at texts_of (codes_fault duties) codes_at owed))
  keys (Some term) (Some form) None = sym (third_least 2
      (key_fault as_str (term_fault terms) (Some term))
      (key_fault as_str (form_fault forms) (Some form))
      (key_at as_str (term_fault terms) term_at (Some term))
      (key_at as_str (form_fault forms) form_at (Some form)))
  keys (Some term) (Some form) (Some owed) = values (as_str term) (as_str form) (texts_of owed)

  pub table_fault : (d : Data) (ms : Members) → as_table d ≡ Some ms
      → number (rule_at terms forms duties index d) ≡ rule_fault terms forms duties ms
  table_fault d ms is =
      ap (λ o. number (judged (then_read (ok_or o (BadKind part.Rule index))
      (λ m. rule_values index (get_member (codes "term") m) (get_member (codes "form") m)
      (get_member (codes "duties") m))))) is
      ∙ keys (get_member (codes "term") ms) (get_member (codes "form") ms)
      (get_member (codes "duties") ms)

-- ---- duties

duty_values : (index : ℕ) (code title : Option (List ℕ))
    → duty_number (duty_of_values index code title)
    ≡ least (option_map_or sound code (Some 3)) (option_map_or sound title (Some 3))
duty_values index None None = refl
duty_values index None (Some title) = refl
duty_values index (Some code) None = refl
duty_values index (Some code) (Some title) = refl

value_or_kind : (index : ℕ) (o : Option (List ℕ)) → AtLeast 2 (option_map_or sound o (Some 3))
value_or_kind index None = omega arith
value_or_kind index (Some x) = tt

title_at : (o : Option Data) → AtLeast 2 (key_fault title_of sound o)
title_at None = omega arith
title_at (Some d) = value_or_kind 0 (title_of d)

pub duty_keys : (index : ℕ) (code title : Option Data)
    → duty_number (duty_of_keys index code title)
    ≡ least (key_fault id_of sound code) (key_fault title_of sound title)
duty_keys index None title = sym (least_left 2 (key_fault title_of sound title) (title_at title))
duty_keys index (Some code) None = sym (least_right 2 (key_fault id_of sound (Some code))
    (value_or_kind 0 (id_of code)))
duty_keys index (Some code) (Some title) = duty_values index (id_of code) (title_of title)

pub duty_table : (index : ℕ) (d : Data) (ms : Members) → as_table d ≡ Some ms
    → duty_number (duty_at index d) ≡ duty_fault ms
duty_table index d ms is =
    ap (λ o. duty_number (then_read (ok_or o (BadKind part.Duty index))
    (λ m. duty_of_keys index (get_member (codes "code") m) (get_member (codes "title") m)))) is
    ∙ duty_keys index (get_member (codes "code") ms) (get_member (codes "title") ms)

-- ---- texts

text_value : (index : ℕ) (licence body : List ℕ)
    → text_number (text_of index licence body) ≡ least (licence_fault licence) None
text_value index licence body = elim (is_text_id licence) as
    (λ b. text_number (if b then Ok (record { licence = licence; body = body })
    else Err (BadTerm part.Text index)) ≡ least (if b then None else Some 4) None) [
      | true ↦ refl
      | false ↦ refl
    ]

own_at : (licence : List ℕ) → AtLeast 3 (licence_fault licence)
own_at licence = elim (is_text_id licence) as (λ b. AtLeast 3 (if b then None else Some 4)) [
  | true ↦ tt
  | false ↦ omega arith
]

text_values : (index : ℕ) (licence body : Option (List ℕ))
    → text_number (text_of_values index licence body)
    ≡ least (option_map_or licence_fault licence (Some 3)) (option_map_or sound body (Some 3))
text_values index None None = refl
text_values index None (Some body) = refl
text_values index (Some licence) None = sym (least_right 3 (licence_fault licence) (own_at licence))
text_values index (Some licence) (Some body) = text_value index licence body

body_at : (o : Option Data) → AtLeast 2 (key_fault as_str sound o)
body_at None = omega arith
body_at (Some d) = value_or_kind 0 (as_str d)

licence_at : (o : Option (List ℕ)) → AtLeast 2 (option_map_or licence_fault o (Some 3))
licence_at None = omega arith
licence_at (Some licence) = fewer 2 3 (licence_fault licence) (omega arith) (own_at licence)

pub text_keys : (index : ℕ) (licence body : Option Data)
    → text_number (text_of_keys index licence body)
    ≡ least (key_fault as_str licence_fault licence) (key_fault as_str sound body)
text_keys index None body = sym (least_left 2 (key_fault as_str sound body) (body_at body))
text_keys index (Some licence) None = sym (least_right 2 (key_fault as_str licence_fault
    (Some licence)) (licence_at (as_str licence)))
text_keys index (Some licence) (Some body) = text_values index (as_str licence) (as_str body)

pub text_table : (index : ℕ) (d : Data) (ms : Members) → as_table d ≡ Some ms
    → text_number (text_at index d) ≡ text_fault ms
text_table index d ms is =
    ap (λ o. text_number (then_read (ok_or o (BadKind part.Text index))
    (λ m. text_of_keys index (get_member (codes "licence") m) (get_member (codes "body") m)))) is
    ∙ text_keys index (get_member (codes "licence") ms) (get_member (codes "body") ms)
