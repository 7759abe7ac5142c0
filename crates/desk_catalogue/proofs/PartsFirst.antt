-- The fault of each part is the first of all that its tables have.
use Rattle.std.proofs.Common.{◌≡◌, ◌∙◌, ℕ, Bool, true, false, cond, List, [], ◌∷◌, ◌++◌, map}
use Rattle.std.proofs.Common.{Option, Some, None, Ok, Err, refl, sym, ap, arith}
use Rattle.std.specs.Prelude.{◌||◌, ◌&&◌, not, codes, option_and_then, if◌then◌else◌}
use Rattle.std.specs.Option.{ok_or, option_map, option_map_or}
use Rattle.std.specs.List.{list_all, list_any}
use Rattle.std.specs.Ordering.{match_ordering}
use Rattle.std.specs.Result.{result_err}
use Rattle.std.specs.Str.{bytes_eq}
use Rattle.std.specs.declared.cmp.Ordering.{Ordering}
use Rattle.std.specs.declared.cmp.Ordering.TheVariants.{Less, Equal, Greater}
use Rattle.std.proofs.lemmas.List.{map-append}
use Rattle.std.proofs.lemmas.List.Folds.{list_any-append}
use Rattle.toml.specs.Data.{Data, Members, as_str, as_table, get_member}
use Rattle.desk_base.specs.Folded.{folded}
use Rattle.desk_base.specs.Results.{then_read}
use Rattle.desk_base.specs.TextSets.{is_among}
use Rattle.desk_base.proofs.Bools.{and_left, and_right}
use Rattle.desk_base.proofs.Texts.{texts_equal}
use Rattle.desk_model.specs.FaultNumbers.{catalogue_fault_number}
use Rattle.desk_model.specs.Keys.{is_rule, rule_order}
use Rattle.desk_model.specs.Texts.{put_new, sorted_set, text_below}
use Rattle.desk_model.specs.declared.reading.Rule.{Rule}
use Rattle.desk_model.specs.declared.refusal.CatalogueFault.TheVariants.{BadKind, BadTerm, Twice}
use Rattle.desk_model.specs.declared.refusal.CatalogueFault.TheVariants.{UnknownDuty, UnknownForm}
use Rattle.desk_model.specs.declared.refusal.CataloguePart.TheVariants as part
use Rattle.desk_catalogue.specs.declared.catalogue.LicenceText.{LicenceText}
use Rattle.desk_catalogue.specs.AllFaults.{code_of, licence_named, of_table, repeated, subject}
use Rattle.desk_catalogue.specs.AllFaults.{subject_of, text_in}
use Rattle.desk_catalogue.specs.Faults.{duty_fault, rule_fault, text_fault}
use Rattle.desk_catalogue.specs.Kept.{has_rule, is_text_of, put_rule, stand_once}
use Rattle.desk_catalogue.specs.Lookup.{sought}
use Rattle.desk_catalogue.specs.Reading.{Read, RuleTexts, duty_at, duty_of_keys, duty_of_values}
use Rattle.desk_catalogue.specs.Reading.{rule_at, rule_of, rule_texts, rule_values, text_at, text_of}
use Rattle.desk_catalogue.specs.Reading.{text_of_keys, text_of_values, with_duty, with_rule, with_text}
use Rattle.desk_catalogue.specs.Terms.{licence_of}
use Rattle.desk_catalogue.specs.Values.{id_of, is_text_id, texts_of, title_of}
use Rattle.desk_catalogue.proofs.Counted.{same_key}
use Rattle.desk_catalogue.proofs.EachFirst.{IsRightly, IsStep, duty_by_index, rule_by_index, step_of}
use Rattle.desk_catalogue.proofs.EachFirst.{text_by_index}
use Rattle.desk_catalogue.proofs.LeastFaults.{duty_keys, keys, text_keys}

-- ---- duties

code_right : (i : ℕ) (code title : Option (List ℕ))
    → IsRightly part.Duty (λ (x : List ℕ). x) i (duty_of_values i code title) code
code_right i (Some code) (Some title) = refl
code_right i (Some code) None = (refl, omega arith)
code_right i None title = (refl, omega arith)

duty_keys_right : (i : ℕ) (code title : Option Data)
    → IsRightly part.Duty (λ (x : List ℕ). x) i (duty_of_keys i code title)
    (option_and_then id_of code)
duty_keys_right i (Some code) (Some title) = code_right i (id_of code) (title_of title)
duty_keys_right i (Some code) None = (refl, omega arith)
duty_keys_right i None title = (refl, omega arith)

duty_right : (i : ℕ) (o : Option Members)
    → IsRightly part.Duty (λ (x : List ℕ). x) i (then_read (ok_or o (BadKind part.Duty i))
    (λ ms. duty_of_keys i (get_member (codes "code") ms) (get_member (codes "title") ms)))
    (option_and_then (λ ms. option_and_then id_of (get_member (codes "code") ms)) o)
duty_right i (Some ms) = duty_keys_right i (get_member (codes "code") ms)
    (get_member (codes "title") ms)
duty_right i None = (refl, omega arith)

by_table : {A : Type 0} (read : Option Members → Read A) (fault : Members → Option ℕ)
    → option_map catalogue_fault_number (result_err (read None)) ≡ Some 3
    → ((ms : Members) → option_map catalogue_fault_number (result_err (read (Some ms))) ≡ fault ms)
    → (o : Option Members)
    → option_map catalogue_fault_number (result_err (read o)) ≡ option_map_or fault o (Some 3)
by_table read fault none some None = none
by_table read fault none some (Some ms) = some ms

-- the texts of a set and those that were put into it
abbrev pub IsAsAmong : List (List ℕ) → List (List ℕ) → Type 0
IsAsAmong xs ys = (t : List ℕ) → is_among xs t ≡ is_among ys t

or_end : (a b : Bool) → (a || (b || false)) ≡ (a || b)
or_end true b = refl
or_end false true = refl
or_end false false = refl

or_turned : (a b : Bool) → (a || b) ≡ (b || a)
or_turned true true = refl
or_turned true false = refl
or_turned false true = refl
or_turned false false = refl

or_front : (a b c : Bool) → (a || (b || c)) ≡ (b || (a || c))
or_front true true c = refl
or_front true false c = refl
or_front false b c = refl

or_twice : (a b c : Bool) → a ≡ b → (a || c) ≡ (b || (a || c))
or_twice true b c e = sym (ap (λ x. x || true) (sym e))
or_twice false b c e = sym (ap (λ x. x || c) (sym e))

among_put : (x : List ℕ) (ys : List (List ℕ)) (t : List ℕ)
    → is_among (put_new x ys) t ≡ (bytes_eq x t || is_among ys t)
among_put x [] t = refl
among_put x (y ∷ ys) t = by_tests (text_below x y) (bytes_eq x y) refl (among_put x ys t)
  where
    by_tests : (a b : Bool) → bytes_eq x y ≡ b
        → is_among (put_new x ys) t ≡ (bytes_eq x t || is_among ys t)
        → is_among (cond a (x ∷ y ∷ ys) (cond b (y ∷ ys) (y ∷ put_new x ys))) t
        ≡ (bytes_eq x t || (bytes_eq y t || is_among ys t))
    by_tests true b is more = refl
    by_tests false true is more = or_twice (bytes_eq y t) (bytes_eq x t) (is_among ys t)
        (sym (ap (λ z. bytes_eq z t) (texts_equal x y is)))
    by_tests false false is more = ap (λ b. bytes_eq y t || b) more
        ∙ or_front (bytes_eq y t) (bytes_eq x t) (is_among ys t)

among_end : (ys : List (List ℕ)) (x t : List ℕ)
    → is_among (ys ++ (x ∷ [])) t ≡ (bytes_eq x t || is_among ys t)
among_end ys x t = list_any-append (λ y. bytes_eq y t) ys (x ∷ [])
    ∙ or_end (is_among ys t) (bytes_eq x t) ∙ or_turned (is_among ys t) (bytes_eq x t)

pub duty_step : (s before : List (List ℕ)) (i : ℕ) (d : Data) → IsAsAmong s before
    → IsStep part.Duty IsAsAmong (of_table duty_fault d) (repeated is_among before (code_of d))
    before (code_of d) i (with_duty s i d)
duty_step s before i d shows = step_of part.Duty duty_by_index (λ (x : List ℕ). x) is_among is_among
    put_new IsAsAmong (λ s before x shows. shows x)
    (λ s before x shows t. among_put x s t ∙ ap (λ b. bytes_eq x t || b) (shows t)
    ∙ sym (among_end before x t)) s before i (duty_at i d) (of_table duty_fault d) (code_of d) shows
    (by_table (λ o. then_read (ok_or o (BadKind part.Duty i))
    (λ ms. duty_of_keys i (get_member (codes "code") ms) (get_member (codes "title") ms)))
    duty_fault refl (λ ms. duty_members i ms) (as_table d)) (duty_right i (as_table d))
  where
    duty_members : (i : ℕ) (ms : Members) → option_map catalogue_fault_number (result_err
        (duty_of_keys i (get_member (codes "code") ms) (get_member (codes "title") ms)))
        ≡ duty_fault ms
    duty_members i ms = duty_keys i (get_member (codes "code") ms) (get_member (codes "title") ms)

-- ---- rules

abbrev rule_key : Rule → Rule
rule_key rule = sought rule.term rule.form

module _ (terms : List ℕ → Option (List ℕ)) (forms duties : List (List ℕ)) (i : ℕ) where
  abbrev read_of : Read RuleTexts → Read Rule
  read_of read = then_read read (λ texts.
      then_read (ok_or (licence_of terms texts.term) (BadTerm part.Rule i))
      (rule_of forms duties i texts))

  named_right : (l : Option (List ℕ)) (a b c : Bool) (texts : RuleTexts)
      → IsRightly part.Rule rule_key i (then_read (ok_or l (BadTerm part.Rule i)) (λ term.
      if not a then Err (UnknownForm part.Rule i)
      else (if not b then Err (UnknownDuty part.Rule i)
      else (if not c then Err (Twice part.Rule i)
      else Ok (record {
        term = term;
        form = texts.form;
        spelled = texts.term;
        codes = sorted_set texts.duties;
      }))))) (subject_of l (Some texts.form))
  named_right None a b c texts = (refl, omega arith)
  named_right (Some term) true true true texts = refl
  named_right (Some term) true true false texts = (refl, omega arith)
  named_right (Some term) true false c texts = (refl, omega arith)
  named_right (Some term) false b c texts = (refl, omega arith)

  values_right : (term form : Option (List ℕ)) (owed : Option (List (List ℕ)))
      → IsRightly part.Rule rule_key i (read_of (rule_texts i term form owed))
      (subject_of (option_and_then (licence_of terms) term) form)
  values_right None form owed = (refl, omega arith)
  values_right (Some term) None owed = (refl, omega arith)
  values_right (Some term) (Some form) None = (refl, omega arith)
  values_right (Some term) (Some form) (Some owed) =
      named_right (licence_of terms term) (is_among forms form) (list_all (is_among duties) owed)
      (stand_once owed) (record { term = term; form = form; duties = owed })

  keys_right : (term form owed : Option Data)
      → IsRightly part.Rule rule_key i (read_of (rule_values i term form owed))
      (subject_of (option_and_then (licence_of terms) (option_and_then as_str term))
      (option_and_then as_str form))
  keys_right None form owed = (refl, omega arith)
  keys_right (Some term) None owed = (refl, omega arith)
  keys_right (Some term) (Some form) None = (refl, omega arith)
  keys_right (Some term) (Some form) (Some owed) =
      values_right (as_str term) (as_str form) (texts_of owed)

  abbrev read_table : Option Members → Read Rule
  read_table o = read_of (then_read (ok_or o (BadKind part.Rule i))
      (λ ms. rule_values i (get_member (codes "term") ms) (get_member (codes "form") ms)
      (get_member (codes "duties") ms)))

  rule_right : (o : Option Members) → IsRightly part.Rule rule_key i (read_table o)
      (option_and_then (λ ms. subject_of
      (option_and_then (licence_of terms) (text_in (codes "term") ms))
      (text_in (codes "form") ms)) o)
  rule_right None = (refl, omega arith)
  rule_right (Some ms) = keys_right (get_member (codes "term") ms) (get_member (codes "form") ms)
      (get_member (codes "duties") ms)

  rule_members : (ms : Members)
      → option_map catalogue_fault_number (result_err (read_table (Some ms)))
      ≡ rule_fault terms forms duties ms
  rule_members ms = keys terms forms duties i (get_member (codes "term") ms)
      (get_member (codes "form") ms) (get_member (codes "duties") ms)

  rule_number : (o : Option Members)
      → option_map catalogue_fault_number (result_err (read_table o))
      ≡ option_map_or (rule_fault terms forms duties) o (Some 3)
  rule_number o = by_table read_table (rule_fault terms forms duties) refl rule_members o

abbrev pub IsAsIn : List Rule → List Rule → Type 0
IsAsIn xs ys = (r : Rule) → has_rule xs r ≡ has_rule ys r

or_again : (a b c : Bool) → b ≡ a → (a || c) ≡ (a || (b || c))
or_again true b c e = refl
or_again false b c e = sym (ap (λ x. x || c) e)

same_rule : (x y r : Rule) → rule_order x y ≡ Equal
    → is_rule r.term r.form y ≡ is_rule r.term r.form x
same_rule x y r is =
    let one = same_key x y is in
    let term : y.term ≡ x.term =
    texts_equal y.term x.term (and_left (bytes_eq y.term x.term) (bytes_eq y.form x.form) one) in
    let form : y.form ≡ x.form =
    texts_equal y.form x.form (and_right (bytes_eq y.term x.term) (bytes_eq y.form x.form) one) in
    λ k. bytes_eq (term k) r.term && bytes_eq (form k) r.form

has_put : (x : Rule) (rs : List Rule) (r : Rule)
    → has_rule (put_rule x rs) r ≡ (is_rule r.term r.form x || has_rule rs r)
has_put x [] r = refl
has_put x (y ∷ ys) r = by_order (rule_order x y) refl (has_put x ys r)
  where
    by_order : (o : Ordering) → rule_order x y ≡ o
        → has_rule (put_rule x ys) r ≡ (is_rule r.term r.form x || has_rule ys r)
        → has_rule (match_ordering o (x ∷ y ∷ ys) (x ∷ ys) (y ∷ put_rule x ys)) r
        ≡ (is_rule r.term r.form x || (is_rule r.term r.form y || has_rule ys r))
    by_order Less is more = refl
    by_order Equal is more = or_again (is_rule r.term r.form x) (is_rule r.term r.form y)
        (has_rule ys r) (same_rule x y r is)
    by_order Greater is more = ap (λ b. is_rule r.term r.form y || b) more
        ∙ or_front (is_rule r.term r.form y) (is_rule r.term r.form x) (has_rule ys r)

has_end : (rs : List Rule) (x r : Rule)
    → has_rule (rs ++ (x ∷ [])) r ≡ (is_rule r.term r.form x || has_rule rs r)
has_end rs x r = list_any-append (is_rule r.term r.form) rs (x ∷ [])
    ∙ or_end (has_rule rs r) (is_rule r.term r.form x)
    ∙ or_turned (has_rule rs r) (is_rule r.term r.form x)

pub rule_step : (terms : List ℕ → Option (List ℕ)) (forms duties : List (List ℕ))
    (s before : List Rule) (i : ℕ) (d : Data) → IsAsIn s before
    → IsStep part.Rule IsAsIn (of_table (rule_fault terms forms duties) d)
    (repeated has_rule before (subject terms d)) before (subject terms d) i
    (with_rule terms forms duties s i d)
rule_step terms forms duties s before i d shows = step_of part.Rule rule_by_index rule_key has_rule
    has_rule put_rule IsAsIn (λ s before x shows. shows x)
    (λ s before x shows r. has_put x s r ∙ ap (λ b. is_rule r.term r.form x || b) (shows r)
    ∙ sym (has_end before (rule_key x) r)) s before i (rule_at terms forms duties i d)
    (of_table (rule_fault terms forms duties) d) (subject terms d) shows
    (rule_number terms forms duties i (as_table d)) (rule_right terms forms duties i (as_table d))

-- ---- texts

abbrev text_key : LicenceText → List ℕ
text_key text = folded text.licence

text_of_right : (i : ℕ) (licence body : List ℕ)
    → IsRightly part.Text text_key i (text_of i licence body) (Some (folded licence))
text_of_right i licence body = by_test (is_text_id licence)
  where
    by_test : (b : Bool) → IsRightly part.Text text_key i
        (cond b (Ok (record { licence = licence; body = body })) (Err (BadTerm part.Text i)))
        (Some (folded licence))
    by_test true = refl
    by_test false = (refl, omega arith)

text_values_right : (i : ℕ) (licence body : Option (List ℕ))
    → IsRightly part.Text text_key i (text_of_values i licence body) (option_map folded licence)
text_values_right i None body = (refl, omega arith)
text_values_right i (Some licence) None = (refl, omega arith)
text_values_right i (Some licence) (Some body) = text_of_right i licence body

text_keys_right : (i : ℕ) (licence body : Option Data)
    → IsRightly part.Text text_key i (text_of_keys i licence body)
    (option_map folded (option_and_then as_str licence))
text_keys_right i None body = (refl, omega arith)
text_keys_right i (Some licence) None = (refl, omega arith)
text_keys_right i (Some licence) (Some body) = text_values_right i (as_str licence) (as_str body)

abbrev text_table_of : ℕ → Option Members → Read LicenceText
text_table_of i o = then_read (ok_or o (BadKind part.Text i))
    (λ ms. text_of_keys i (get_member (codes "licence") ms) (get_member (codes "body") ms))

text_right : (i : ℕ) (o : Option Members)
    → IsRightly part.Text text_key i (text_table_of i o)
    (option_and_then (λ ms. option_map folded (text_in (codes "licence") ms)) o)
text_right i None = (refl, omega arith)
text_right i (Some ms) = text_keys_right i (get_member (codes "licence") ms)
    (get_member (codes "body") ms)

abbrev pub AreOf : List LicenceText → List (List ℕ) → Type 0
AreOf texts keys = keys ≡ map text_key texts

any_text : (texts : List LicenceText) (x : LicenceText)
    → list_any (is_text_of x.licence) texts ≡ is_among (map text_key texts) (text_key x)
any_text [] x = refl
any_text (t ∷ ts) x = ap (λ b. is_text_of x.licence t || b) (any_text ts x)

pub text_step : (s : List LicenceText) (before : List (List ℕ)) (i : ℕ) (d : Data)
    → AreOf s before
    → IsStep part.Text AreOf (of_table text_fault d) (repeated is_among before (licence_named d))
    before (licence_named d) i (with_text s i d)
text_step s before i d shows = step_of part.Text text_by_index text_key is_among
    (λ texts text. list_any (is_text_of text.licence) texts) (λ text texts. texts ++ (text ∷ []))
    AreOf (λ s before x shows. any_text s x ∙ ap (λ ks. is_among ks (text_key x)) (sym shows))
    (λ s before x shows. ap (λ ks. ks ++ (text_key x ∷ [])) shows
    ∙ sym (map-append text_key s (x ∷ []))) s before i (text_at i d) (of_table text_fault d)
    (licence_named d) shows (by_table (text_table_of i) text_fault refl (λ ms.
    text_keys i (get_member (codes "licence") ms) (get_member (codes "body") ms)) (as_table d))
    (text_right i (as_table d))
