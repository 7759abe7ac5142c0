-- Printed terms are cut where their words end.
use Rattle.std.proofs.Common.{◌≡◌, ◌∙◌, ℕ, suc, Bool, true, false, List, [], ◌∷◌, ◌++◌, ◌-◌, length}
use Rattle.std.proofs.Common.{take, drop, Option, Some, None, codes, refl, sym, ap, subst, nat_eq}
use Rattle.std.proofs.Common.{arith}
use Rattle.std.specs.Prelude.{not, ◌&&◌, ◌||◌, is_none, nat_lt, if◌then◌else◌}
use Rattle.std.specs.List.{ends_with, list_all, position_or_len}
use Rattle.std.proofs.lemmas.List.{append-nil}
use Rattle.std.proofs.lemmas.List.Sums.{list_all-from_AllPass}
use Rattle.std.proofs.lemmas.Bool.Decides.{Decides-eqb}
use Rattle.std.proofs.lemmas.Slice.Eq.{ends_is}
use Rattle.std.proofs.lemmas.Bool.{not-true, false_from_ne_true}
use Rattle.std.specs.Str.{bytes_eq}
use Rattle.desk_base.proofs.Bools.{and_left, and_right}
use Rattle.desk_base.specs.Bytes.{is_blank}
use Rattle.desk_base.specs.Folded.{folded}
use Rattle.desk_base.specs.Idstring.{is_idstring, is_idstring_byte}
use Rattle.desk_base.specs.declared.profile.Profile.TheVariants.{Capitals}
use Rattle.desk_expr.specs.declared.term.Term.{Term}
use Rattle.desk_tokens.specs.declared.token.Kind.TheVariants.{Licence, LicenceOrLater, Reference}
use Rattle.desk_tokens.specs.Words.{is_reference, without_plus}
use Rattle.desk_expr.specs.Words.{is_exception, is_folded_id, is_term}
use Rattle.desk_expr.specs.Printing.{printed_exception, printed_term, printed_word}
use Rattle.desk_catalogue.specs.Terms.{IsTermOf}
use Rattle.desk_expr.specs.Spelling.{SpellsTermWithin}
use Rattle.desk_expr.proofs.TermLemmas.{spells_term_once}
use Rattle.desk_tokens.specs.Tokens.{is_parenthesis, is_run_byte}
use Rattle.desk_expr.proofs.WordKinds.{licence_kind, or_later_kind, plain_word, plus_front, reference_kind}
use Rattle.desk_expr.proofs.WordKinds.{plus_ends}
use Rattle.desk_fields.specs.Text.{first_word, after_word, skip_blanks}
use Rattle.desk_texts.specs.Terms.{adopted_as, behind_with, exception_in, is_licence, licence_id_in}
use Rattle.desk_texts.specs.Terms.{reference_in}
use Rattle.desk_history_laws.specs.Forms.{adopted_form, is_plain_licence, reference_of}

-- ---- where the word of a printed term ends

abbrev no_blanks : List ℕ → Bool
no_blanks w = list_all (λ b. not (is_blank b)) w

run_byte : (b : ℕ) → is_run_byte b ≡ true → not (is_blank b) ≡ true
run_byte b e = by (is_blank b) e
  where
    by : (blank : Bool) → not (blank || is_parenthesis b) ≡ true → not blank ≡ true
    by true e = e
    by false e = refl

run_bytes : (w : List ℕ) → list_all is_run_byte w ≡ true → no_blanks w ≡ true
run_bytes [] all = refl
run_bytes (b ∷ bs) all = rw (run_byte b (and_left (is_run_byte b) (list_all is_run_byte bs) all))
    (run_bytes bs (and_right (is_run_byte b) (list_all is_run_byte bs) all))

word_without_blanks : (t : Term) → is_term t ≡ true → no_blanks (printed_word t) ≡ true
word_without_blanks t h = let word = plain_word t h in
    run_bytes (printed_word t) (list_all-from_AllPass is_run_byte (printed_word t) word.1.run)

exception_first : (o : Option (List ℕ)) → position_or_len is_blank (printed_exception o) ≡ 0
exception_first None = refl
exception_first (Some x) = refl

word_ends : (w : List ℕ) (o : Option (List ℕ)) → no_blanks w ≡ true
    → position_or_len is_blank (w ++ printed_exception o) ≡ length w
word_ends [] o all = exception_first o
word_ends (b ∷ bs) o all =
    rw (and_left (not (is_blank b)) (no_blanks bs) all)
    (let rest = word_ends bs o (and_right (not (is_blank b)) (no_blanks bs) all) in
    omega (arith, rest))

no_front : (w : List ℕ) (o : Option (List ℕ)) → no_blanks w ≡ true → (b : ℕ) (bs : List ℕ)
    → w ≡ b ∷ bs → skip_blanks (w ++ printed_exception o) ≡ w ++ printed_exception o
no_front [] o all b bs e = cc
no_front (c ∷ cs) o all b bs e = rw (not-true (is_blank c)
    (and_left (not (is_blank c)) (no_blanks cs) all)) refl

not_empty : (w : List ℕ) → suc 0 ≡ suc 0 → (w ≡ [] → ⊥) → (b : ℕ) × (bs : List ℕ) × (w ≡ b ∷ bs)
not_empty [] e some = absurd (some refl)
not_empty (b ∷ bs) e some = (b, bs, refl)

some_word : (t : Term) → is_term t ≡ true → printed_word t ≡ [] → ⊥
some_word t h none = let word = plain_word t h in let some = word.1.some in
    absurd (omega (arith, some, ap length none))

no_gap : (t : Term) → is_term t ≡ true → skip_blanks (printed_term t) ≡ printed_term t
no_gap t h = let head = not_empty (printed_word t) refl (some_word t h) in
    no_front (printed_word t) t.exception (word_without_blanks t h) head.0 head.1 head.2

ends_at : (t : Term) → is_term t ≡ true
    → position_or_len is_blank (skip_blanks (printed_term t)) ≡ length (printed_word t)
ends_at t h = ap (position_or_len is_blank) (no_gap t h)
    ∙ word_ends (printed_word t) t.exception (word_without_blanks t h)

take-front : (w v : List ℕ) → take (length w) (w ++ v) ≡ w
take-front [] v = refl
take-front (b ∷ w) v = ap (λ l. b ∷ l) (take-front w v)

drop-front : (w v : List ℕ) → drop (length w) (w ++ v) ≡ v
drop-front [] v = refl
drop-front (b ∷ w) v = drop-front w v

pub first-word : (t : Term) → is_term t ≡ true → first_word (printed_term t) ≡ printed_word t
first-word t h = (λ i. take (ends_at t h i) (no_gap t h i))
    ∙ take-front (printed_word t) (printed_exception t.exception)

pub after-word : (t : Term) → is_term t ≡ true
    → after_word (printed_term t) ≡ printed_exception t.exception
after-word t h = (λ i. drop (ends_at t h i) (no_gap t h i))
    ∙ drop-front (printed_word t) (printed_exception t.exception)

-- ---- references

id_is_no_reference : (k : List ℕ) → is_folded_id k ≡ true → is_reference k ≡ false
id_is_no_reference k id = false_from_ne_true (is_reference k)
    (λ e. let same : Reference ≡ Licence = sym (reference_kind k e) ∙ licence_kind k id in cc)

plus_is_no_reference : (k : List ℕ) → is_folded_id k ≡ true → is_reference (k ++ codes "+") ≡ false
plus_is_no_reference k id = false_from_ne_true (is_reference (k ++ codes "+"))
    (λ e. let same : Reference ≡ LicenceOrLater = sym (reference_kind (k ++ codes "+") e)
    ∙ or_later_kind k id in cc)

with_plus : (a b : Bool) → (a || (b && not true)) ≡ true → a ≡ true
with_plus true b e = refl
with_plus false true e = cc
with_plus false false e = cc

word-reference : (k : List ℕ) (plus : Bool)
    → (is_folded_id k || (is_reference k && not plus)) ≡ true
    → (if is_reference (k ++ (if plus then codes "+" else []))
    then Some (k ++ (if plus then codes "+" else [])) else None)
    ≡ (if is_reference k then Some k else None)
word-reference k false h = ap (λ w. if is_reference w then Some w else None) (append-nil k)
word-reference k true h =
    let id = with_plus (is_folded_id k) (is_reference k) h in
    rw (plus_is_no_reference k id, id_is_no_reference k id) refl

key_of : (t : Term) → is_term t ≡ true
    → (is_folded_id t.key || (is_reference t.key && not t.plus)) ≡ true
key_of t h = and_left (is_folded_id t.key || (is_reference t.key && not t.plus))
    (is_exception t.exception) h

pub reference-printed : (t : Term) → is_term t ≡ true
    → reference_in (printed_term t) ≡ reference_of t
reference-printed t h = ap (λ w. if is_reference w then Some w else None) (first-word t h)
    ∙ word-reference t.key t.plus (key_of t h)

-- ---- licences alone

no_id_byte : (v w : List ℕ) (b : ℕ) → is_idstring_byte b ≡ false
    → list_all is_idstring_byte (v ++ b ∷ w) ≡ false
no_id_byte [] w b bad = rw bad refl
no_id_byte (c ∷ v) w b bad = rw (no_id_byte v w b bad) (both_false (is_idstring_byte c))
  where
    both_false : (a : Bool) → (a && false) ≡ false
    both_false true = refl
    both_false false = refl

no_id : (v w : List ℕ) (b : ℕ) → is_idstring_byte b ≡ false → is_idstring (v ++ b ∷ w) ≡ false
no_id v w b bad = false_from_ne_true (is_idstring (v ++ b ∷ w))
    (λ e. let no = no_id_byte v w b bad in
    let yes = and_right (nat_lt 0 (length (v ++ b ∷ w))) (list_all is_idstring_byte (v ++ b ∷ w))
    e in cc)

by_last : (id plus : Bool) (x : List ℕ) → (id && not plus && is_none (Some x)) ≡ false
by_last true true x = refl
by_last true false x = refl
by_last false plus x = refl

by_plus : (id : Bool) (o : Option (List ℕ)) → (id && not true && is_none o) ≡ false
by_plus true o = refl
by_plus false o = refl

alone : (k : List ℕ) → (is_folded_id k || (is_reference k && not false)) ≡ true
    → is_licence k ≡ (is_folded_id k && not false && true)
alone k h = by_id (is_folded_id k) refl h
  where
    by_id : (id : Bool) → is_folded_id k ≡ id → (id || (is_reference k && not false)) ≡ true
        → is_licence k ≡ (id && not false && true)
    by_id true e h = rw (and_left (is_idstring k) (bytes_eq (folded k) k) e, id_is_no_reference k e)
        refl
    by_id false e h = let reference : is_reference k ≡ true = and_left (is_reference k) true h in
        off (is_idstring k) (is_reference k) reference
      where
        off : (a b : Bool) → b ≡ true → (a && not b) ≡ false
        off true true e = refl
        off true false e = cc
        off false b e = refl

licence_by : (k : List ℕ) (plus : Bool) (o : Option (List ℕ))
    → (is_folded_id k || (is_reference k && not plus)) ≡ true
    → is_licence ((k ++ (if plus then codes "+" else [])) ++ printed_exception o)
    ≡ (is_folded_id k && not plus && is_none o)
licence_by k false None h = ap is_licence (append-nil (k ++ []) ∙ append-nil k) ∙ alone k h
licence_by k true None h =
    ap (λ w. is_licence w) (append-nil (k ++ codes "+"))
    ∙ (ap (λ id. id && not (is_reference (k ++ codes "+"))) (no_id k [] 43 refl)
    ∙ sym (by_plus (is_folded_id k) None))
licence_by k plus (Some x) h =
    let w = k ++ (if plus then codes "+" else []) in
    ap (λ id. id && not (is_reference (w ++ (codes " WITH " ++ x))))
    (no_id w (codes "WITH " ++ x) 32 refl) ∙ sym (by_last (is_folded_id k) plus x)

pub licence-printed : (t : Term) → is_term t ≡ true
    → is_licence (printed_term t) ≡ is_plain_licence t
licence-printed t h = licence_by t.key t.plus t.exception (key_of t h)

-- ---- adopted forms

plain_print : (k : List ℕ) (plus : Bool) (o : Option (List ℕ))
    → (is_folded_id k && not plus && is_none o) ≡ true
    → (k ++ (if plus then codes "+" else [])) ++ printed_exception o ≡ k ++ []
plain_print k plus (Some x) e = let no = by_last (is_folded_id k) plus x in cc
plain_print k true None e = let no = by_plus (is_folded_id k) None in cc
plain_print k false None e = append-nil (k ++ [])

pub adopted-printed : (licence t : Term) → is_plain_licence licence ≡ true → is_term t ≡ true
    → adopted_as (printed_term licence) (printed_term t) ≡ printed_term (adopted_form licence t)
adopted-printed licence t plain h =
    (λ i. plain_print licence.key licence.plus licence.exception plain i ++ after-word t h i)

-- ---- ids of licences, and exceptions

no_plus_ends : (k : List ℕ) → is_idstring k ≡ true → ends_with nat_eq k (codes "+") ≡ false
no_plus_ends k id =
    false_from_ne_true (ends_with nat_eq k (codes "+"))
    (λ e.
    let cut = (ends_is Decides-eqb k (codes "+") _ refl).0 e in
    let no = no_id (take (length k - 1) k) [] 43 refl in
    let yes = subst (λ w. is_idstring w ≡ true) cut id in
    cc)

id-of-word : (k : List ℕ) (plus : Bool) → is_folded_id k ≡ true
    → without_plus (k ++ (if plus then codes "+" else [])) ≡ k
id-of-word k true id = rw (plus_ends k) (plus_front k)
id-of-word k false id = ap without_plus (append-nil k)
    ∙ rw (no_plus_ends k (and_left (is_idstring k) (bytes_eq (folded k) k) id)) refl

other_key : (a b c : Bool) → (a || (b && c)) ≡ true → b ≡ false → a ≡ true
other_key true b c h other = refl
other_key false true c h other = cc
other_key false false c h other = cc

pub licence-id-printed : (t : Term) → is_term t ≡ true → is_reference t.key ≡ false
    → licence_id_in (printed_term t) ≡ t.key
licence-id-printed t h other =
    ap without_plus (first-word t h)
    ∙ id-of-word t.key t.plus (other_key (is_folded_id t.key) (is_reference t.key) (not t.plus)
    (key_of t h) other)

exception-behind : (o : Option (List ℕ)) → behind_with (printed_exception o) ≡ o
exception-behind None = refl
exception-behind (Some x) = refl

pub exception-printed : (t : Term) → is_term t ≡ true → exception_in (printed_term t) ≡ t.exception
exception-printed t h = ap behind_with (after-word t h) ∙ exception-behind t.exception

-- ---- the term of a text

pub term-printed : (o : Option (List ℕ)) (text : List ℕ) (t : Term) → IsTermOf text o
    → SpellsTermWithin text t → o ≡ Some (printed_term t)
term-printed None text t none spells = absurd (none t spells)
term-printed (Some printed) text t (u, is, prints) spells =
    ap Some (sym prints ∙ ap printed_term (spells_term_once Capitals text u t is.1 spells.1))
