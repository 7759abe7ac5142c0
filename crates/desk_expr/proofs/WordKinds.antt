-- The kinds of printed words.
use Rattle.std.proofs.Common.{◌≡◌, ◌∙◌, ℕ, zero, suc, ◌+◌, ◌-◌, ◌<◌, List, [], ◌∷◌, ◌++◌, length}
use Rattle.std.proofs.Common.{take, drop, Bool, true, false, refl, sym, ap, subst, arith, Option}
use Rattle.std.proofs.Common.{Some, None, codes, nat_eq, length-append, ◌⊎◌, inl, inr, cond}
use Rattle.std.proofs.lemmas.Bool.{eqb-true, false_from_ne_true, or_from, or_cases, or_left}
use Rattle.std.proofs.lemmas.Bool.{or_right, and_parts, and_from}
use Rattle.std.specs.Prelude.{IsTrue, All, ◌&&◌, ◌||◌, not, if◌then◌else◌, nat_lt, ◌==◌}
use Rattle.std.specs.Char.{to_ascii_lowercase}
use Rattle.std.specs.List.{list_all, starts_with, ends_with, before_first, after_first, position_or_len}
use Rattle.std.specs.Str.{bytes_eq}
use Rattle.std.proofs.lemmas.Bool.Decides.{nat_tests}
use Rattle.std.proofs.lemmas.Slice.Eq.{bytes_eq-Decides}
use Rattle.std.proofs.lemmas.List.{append-nil, take-append-drop}
use Rattle.std.proofs.lemmas.List.Sums.{AllPass-from_list_all}
use Rattle.std.proofs.lemmas.List.Folds.{list_all-append}
use Rattle.desk_base.specs.Idstring.{is_idstring_byte, is_idstring}
use Rattle.desk_base.specs.Folded.{folded}
use Rattle.desk_base.specs.declared.profile.Profile.TheVariants.{Capitals}
use Rattle.desk_expr.specs.declared.term.Term.{Term}
use Rattle.desk_tokens.specs.declared.token.Kind.{Kind}
use Rattle.desk_tokens.specs.declared.token.Kind.TheVariants.{Licence, LicenceOrLater, Reference}
use Rattle.desk_tokens.specs.Words.{is_local_reference, is_reference_of_document, is_reference}
use Rattle.desk_tokens.specs.Words.{begins_like_reference, is_licence_or_later, without_last}
use Rattle.desk_tokens.specs.Words.{word_kind, kind_by}
use Rattle.desk_expr.specs.Words.{is_folded_id, is_exception, is_term}
use Rattle.desk_tokens.specs.Tokens.{is_run_byte}
use Rattle.desk_expr.specs.Grammar.{Symbol, word}
use Rattle.desk_expr.specs.Spelling.{symbol}
use Rattle.desk_expr.specs.Printing.{printed_word}

-- ---- tests

unequal : (w v : List ℕ) → (w ≡ v → ⊥) → bytes_eq w v ≡ false
unequal w v h = false_from_ne_true (bytes_eq w v) (λ is. h ((bytes_eq-Decides w v).0 is))

-- a kind from the tests
kind_from : (w : List ℕ) (k : Kind) → bytes_eq w (codes "(") ≡ false
    → bytes_eq w (codes ")") ≡ false → bytes_eq w (codes "AND") ≡ false
    → bytes_eq w (codes "OR") ≡ false → bytes_eq w (codes "WITH") ≡ false
    → word_kind w ≡ k → kind_by Capitals w ≡ k
kind_from w k no_opening no_closing no_and no_or no_with is = rw (
  no_opening,
  no_closing,
  no_and,
  no_or,
  no_with,
) is

-- ---- folded ids

-- each byte of a folded id is a byte of an idstring and no capital
id_bytes : (w : List ℕ) → is_folded_id w ≡ true
    → (list_all is_idstring_byte w ≡ true) × (folded w ≡ w) × (0 < length w)
id_bytes w h =
    let parts = and_parts (is_idstring w) (bytes_eq (folded w) w) h in
    let test = and_parts (nat_lt 0 (length w)) (list_all is_idstring_byte w) parts.0 in
    (test.1, (bytes_eq-Decides (folded w) w).0 parts.1, some_bytes w test.0)
  where
    some_bytes : (w : List ℕ) → nat_lt 0 (length w) ≡ true → 0 < length w
    some_bytes w h = grind (arith, nat_tests)

head_test : (b : ℕ) (bs : List ℕ) → list_all is_idstring_byte (b ∷ bs) ≡ true
    → is_idstring_byte b ≡ true
head_test b bs h = (and_parts (is_idstring_byte b) (list_all is_idstring_byte bs) h).0

head_fold : (b : ℕ) (bs : List ℕ) → folded (b ∷ bs) ≡ b ∷ bs → to_ascii_lowercase b ≡ b
head_fold b bs h = cc

no_capital : (b : ℕ) (bs : List ℕ) (w : List ℕ) → w ≡ b ∷ bs → folded w ≡ w
    → to_ascii_lowercase b ≡ b
no_capital b bs w is h = head_fold b bs (subst (λ l. folded l ≡ l) is h)

prefix_first : (w needle : List ℕ) (c : ℕ) (cs : List ℕ) → needle ≡ c ∷ cs
    → starts_with nat_eq w needle ≡ true → (bs : List ℕ) × (w ≡ c ∷ bs)
prefix_first [] needle c cs is h =
    absurd (let same : needle ≡ take (length needle) [] =
    (bytes_eq-Decides needle (take (length needle) [])).0 h in nothing needle c cs is same)
  where
    nothing : (needle : List ℕ) (c : ℕ) (cs : List ℕ) → needle ≡ c ∷ cs
        → needle ≡ take (length needle) [] → ⊥
    nothing [] c cs is same = cc
    nothing (d ∷ ds) c cs is same = cc
prefix_first (b ∷ bs) needle c cs is h =
    let same : needle ≡ take (length needle) (b ∷ bs) =
    (bytes_eq-Decides needle (take (length needle) (b ∷ bs))).0 h in
    (bs, ap (λ x. x ∷ bs) (head needle c cs is same))
  where
    head : (needle : List ℕ) (c : ℕ) (cs : List ℕ) → needle ≡ c ∷ cs
        → needle ≡ take (length needle) (b ∷ bs) → b ≡ c
    head [] c cs is same = absurd (cc)
    head (d ∷ ds) c cs is same = cc

record NoName (w : List ℕ) : Type 0 where
  opening : bytes_eq w (codes "(") ≡ false
  closing : bytes_eq w (codes ")") ≡ false
  and_word : bytes_eq w (codes "AND") ≡ false
  or_word : bytes_eq w (codes "OR") ≡ false
  with_word : bytes_eq w (codes "WITH") ≡ false
  reference : begins_like_reference w ≡ false

-- a text whose first byte is one of a folded id is no operator or parenthesis and doesn't begin
-- like a reference
no_name : (w : List ℕ) (b : ℕ) (bs : List ℕ) → w ≡ b ∷ bs → is_idstring_byte b ≡ true
    → to_ascii_lowercase b ≡ b → NoName w
no_name w b bs is id small = record {
  opening = unequal w (codes "(") (λ e. first 40 (codes "") (e) bad_opening);
  closing = unequal w (codes ")") (λ e. first 41 (codes "") (e) bad_closing);
  and_word = unequal w (codes "AND") (λ e. first 65 (codes "ND") (e) bad_a);
  or_word = unequal w (codes "OR") (λ e. first 79 (codes "R") (e) bad_o);
  with_word = unequal w (codes "WITH") (λ e. first 87 (codes "ITH") (e) bad_w);
  reference = or_from (starts_with nat_eq w (codes "LicenseRef-"))
      (starts_with nat_eq w (codes "DocumentRef-"))
      (false_from_ne_true (starts_with nat_eq w (codes "LicenseRef-"))
      (λ h. let p = prefix_first w (codes "LicenseRef-") 76 (codes "icenseRef-") refl h in
      first 76 p.0 p.1 bad_l))
      (false_from_ne_true (starts_with nat_eq w (codes "DocumentRef-"))
      (λ h. let p = prefix_first w (codes "DocumentRef-") 68 (codes "ocumentRef-") refl h in
      first 68 p.0 p.1 bad_d));
}
  where
    first : (c : ℕ) (cs : List ℕ) → w ≡ c ∷ cs → (b ≡ c → ⊥) → ⊥
    first c cs e bad = let same : b ≡ c = cc in bad same

    bad_opening : b ≡ 40 → ⊥
    bad_opening e = let h = subst (λ x. is_idstring_byte x ≡ true) e id in cc

    bad_closing : b ≡ 41 → ⊥
    bad_closing e = let h = subst (λ x. is_idstring_byte x ≡ true) e id in cc

    bad_a : b ≡ 65 → ⊥
    bad_a e = let h = subst (λ x. to_ascii_lowercase x ≡ x) e small in absurd (omega (arith, h))

    bad_o : b ≡ 79 → ⊥
    bad_o e = let h = subst (λ x. to_ascii_lowercase x ≡ x) e small in absurd (omega (arith, h))

    bad_w : b ≡ 87 → ⊥
    bad_w e = let h = subst (λ x. to_ascii_lowercase x ≡ x) e small in absurd (omega (arith, h))

    bad_l : b ≡ 76 → ⊥
    bad_l e = let h = subst (λ x. to_ascii_lowercase x ≡ x) e small in absurd (omega (arith, h))

    bad_d : b ≡ 68 → ⊥
    bad_d e = let h = subst (λ x. to_ascii_lowercase x ≡ x) e small in absurd (omega (arith, h))

some_first : (w : List ℕ) → 0 < length w → (b : ℕ) × (bs : List ℕ) × (w ≡ b ∷ bs)
some_first [] some = absurd (omega arith)
some_first (b ∷ bs) some = (b, bs, refl)

id_no_name : (w v : List ℕ) → is_folded_id w ≡ true → NoName (w ++ v)
id_no_name w v h =
    let bytes = id_bytes w h in
    let head = some_first w bytes.2 in
    no_name (w ++ v) head.0 (head.1 ++ v) (ap (λ l. l ++ v) head.2)
    (head_test head.0 head.1 (subst (λ l. list_all is_idstring_byte l ≡ true) head.2 bytes.0))
    (no_capital head.0 head.1 w head.2 bytes.1)

pub licence_kind : (w : List ℕ) → is_folded_id w ≡ true → kind_by Capitals w ≡ Licence
licence_kind w h =
    let name : NoName w = subst NoName (append-nil w) (id_no_name w [] h) in
    let id : is_idstring w ≡ true = (and_parts (is_idstring w) (bytes_eq (folded w) w) h).0 in
    kind_from w Licence name.opening name.closing name.and_word name.or_word name.with_word
    (rw (name.reference, id) refl)

-- ---- a plus after an id

plus_is_none : (w : List ℕ) → is_idstring (w ++ codes "+") ≡ false
plus_is_none w =
    false_from_ne_true (is_idstring (w ++ codes "+"))
    (λ h.
    let all = (and_parts (nat_lt 0 (length (w ++ codes "+")))
    (list_all is_idstring_byte (w ++ codes "+")) h).1 in
    let last = (and_parts (list_all is_idstring_byte w) (list_all is_idstring_byte (codes "+"))
    (sym (list_all-append is_idstring_byte w (codes "+")) ∙ all)).1 in
    cc)

drop_all : (w v : List ℕ) (n : ℕ) → n ≡ length w → drop n (w ++ v) ≡ v
drop_all [] v zero is = refl
drop_all [] v (suc n) is = absurd (omega arith)
drop_all (b ∷ w) v zero is = absurd (omega arith)
drop_all (b ∷ w) v (suc n) is = drop_all w v n (omega arith)

take_front : (w v : List ℕ) (n : ℕ) → n ≡ length w → take n (w ++ v) ≡ w
take_front [] [] zero is = refl
take_front [] (c ∷ v) zero is = refl
take_front [] v (suc n) is = absurd (omega arith)
take_front (b ∷ w) v zero is = absurd (omega arith)
take_front (b ∷ w) v (suc n) is = ap (λ l. b ∷ l) (take_front w v n (omega arith))

pub plus_front : (w : List ℕ) → without_last (w ++ codes "+") ≡ w
plus_front w = take_front w (codes "+") (length (w ++ codes "+") - 1)
    (omega (arith, length-append w (codes "+")))

pub plus_ends : (w : List ℕ) → ends_with nat_eq (w ++ codes "+") (codes "+") ≡ true
plus_ends w =
    (bytes_eq-Decides (codes "+") (drop (length (w ++ codes "+") - 1) (w ++ codes "+"))).1
    (sym (drop_all w (codes "+") (length (w ++ codes "+") - 1)
    (omega (arith, length-append w (codes "+")))))

pub or_later_kind : (w : List ℕ) → is_folded_id w ≡ true
    → kind_by Capitals (w ++ codes "+") ≡ LicenceOrLater
or_later_kind w h =
    let name = id_no_name w (codes "+") h in
    let id : is_idstring (without_last (w ++ codes "+")) ≡ true =
    subst (λ l. is_idstring l ≡ true) (sym (plus_front w))
    ((and_parts (is_idstring w) (bytes_eq (folded w) w) h).0) in
    let later : is_licence_or_later (w ++ codes "+") ≡ true =
    and_from (ends_with nat_eq (w ++ codes "+") (codes "+"))
    (is_idstring (without_last (w ++ codes "+"))) (plus_ends w) id in
    kind_from (w ++ codes "+") LicenceOrLater name.opening name.closing name.and_word name.or_word
    name.with_word (rw (name.reference, plus_is_none w, later) refl)

-- ---- references

local_prefix : (w : List ℕ) → is_local_reference w ≡ true
    → starts_with nat_eq w (codes "LicenseRef-") ≡ true
local_prefix w h = (and_parts (starts_with nat_eq w (codes "LicenseRef-")) (is_idstring (drop 11 w))
    h).0

reference_begins : (w : List ℕ) → is_reference w ≡ true → begins_like_reference w ≡ true
reference_begins w h =
    elim (or_cases (is_local_reference w)
    (starts_with nat_eq w (codes "DocumentRef-") && is_reference_of_document (drop 12 w)) h) [
      | inl a ↦ or_left (starts_with nat_eq w (codes "LicenseRef-"))
          (starts_with nat_eq w (codes "DocumentRef-")) (local_prefix w a)
      | inr b ↦ or_right (starts_with nat_eq w (codes "LicenseRef-"))
          (starts_with nat_eq w (codes "DocumentRef-"))
          (and_parts (starts_with nat_eq w (codes "DocumentRef-"))
          (is_reference_of_document (drop 12 w)) b).0
    ]

reference_first : (w : List ℕ) → begins_like_reference w ≡ true
    → (b : ℕ) × (bs : List ℕ) × (w ≡ b ∷ bs) × ((b ≡ 76) ⊎ (b ≡ 68))
reference_first w h =
    elim (or_cases (starts_with nat_eq w (codes "LicenseRef-"))
    (starts_with nat_eq w (codes "DocumentRef-")) h) [
      | inl a ↦ let p = prefix_first w (codes "LicenseRef-") 76 (codes "icenseRef-") refl a in
          (76, p.0, p.1, inl refl)
      | inr b ↦ let p = prefix_first w (codes "DocumentRef-") 68 (codes "ocumentRef-") refl b in
          (68, p.0, p.1, inr refl)
    ]

other_first : (w v : List ℕ) (b c : ℕ) (bs cs : List ℕ) → w ≡ b ∷ bs → v ≡ c ∷ cs
    → ((b ≡ 76) ⊎ (b ≡ 68)) → (c ≡ 76 → ⊥) → (c ≡ 68 → ⊥) → w ≡ v → ⊥
other_first w v b c bs cs w_is v_is (inl e) no_l no_d is = no_l (cc)
other_first w v b c bs cs w_is v_is (inr e) no_l no_d is = no_d (cc)

pub reference_kind : (w : List ℕ) → is_reference w ≡ true → kind_by Capitals w ≡ Reference
reference_kind w h =
    let begins = reference_begins w h in
    let head = reference_first w begins in
    let other =
    λ (v : List ℕ) (c : ℕ) (cs : List ℕ) (v_is : v ≡ c ∷ cs) (no_l : c ≡ 76 → ⊥) (no_d : c ≡ 68 → ⊥).
    unequal w v (other_first w v head.0 c head.1 cs head.2 v_is head.3 no_l no_d) in
    kind_from w Reference (other (codes "(") 40 (codes "") refl (λ e. absurd (omega arith))
    (λ e. absurd (omega arith))) (other (codes ")") 41 (codes "") refl (λ e. absurd (omega arith))
    (λ e. absurd (omega arith)))
    (other (codes "AND") 65 (codes "ND") refl (λ e. absurd (omega arith))
    (λ e. absurd (omega arith))) (other (codes "OR") 79 (codes "R") refl (λ e. absurd (omega arith))
    (λ e. absurd (omega arith)))
    (other (codes "WITH") 87 (codes "ITH") refl (λ e. absurd (omega arith))
    (λ e. absurd (omega arith))) (rw (begins, h) refl)

-- ---- printed words are runs

id_run_byte : (b : ℕ) → is_idstring_byte b ≡ true → is_run_byte b ≡ true
id_run_byte b h = grind (arith, nat_tests)

run_bytes : (w : List ℕ) → list_all is_idstring_byte w ≡ true → list_all is_run_byte w ≡ true
run_bytes [] h = refl
run_bytes (b ∷ bs) h =
    let parts = and_parts (is_idstring_byte b) (list_all is_idstring_byte bs) h in
    and_from (is_run_byte b) (list_all is_run_byte bs) (id_run_byte b parts.0)
    (run_bytes bs parts.1)

idstring_run : (w : List ℕ) → is_idstring w ≡ true → list_all is_run_byte w ≡ true
idstring_run w h = run_bytes w (and_parts (nat_lt 0 (length w)) (list_all is_idstring_byte w) h).1

joined_run : (v w : List ℕ) → list_all is_run_byte v ≡ true → list_all is_run_byte w ≡ true
    → list_all is_run_byte (v ++ w) ≡ true
joined_run v w h k = list_all-append is_run_byte v w
    ∙ and_from (list_all is_run_byte v) (list_all is_run_byte w) h k

-- bytes that begin with bytes of a run and continue with them are all bytes of a run
prefix_run : (w needle : List ℕ) → starts_with nat_eq w needle ≡ true
    → list_all is_run_byte needle ≡ true → list_all is_run_byte (drop (length needle) w) ≡ true
    → list_all is_run_byte w ≡ true
prefix_run w needle h run rest =
    let front : needle ≡ take (length needle) w =
    (bytes_eq-Decides needle (take (length needle) w)).0 h in
    subst (λ l. list_all is_run_byte l ≡ true) (take-append-drop (length needle) w)
    (joined_run (take (length needle) w) (drop (length needle) w)
    (subst (λ l. list_all is_run_byte l ≡ true) front run) rest)

local_run : (w : List ℕ) → is_local_reference w ≡ true → list_all is_run_byte w ≡ true
local_run w h =
    let parts = and_parts (starts_with nat_eq w (codes "LicenseRef-"))
    (is_idstring (drop 11 w)) h in
    prefix_run w (codes "LicenseRef-") parts.0 refl (idstring_run (drop 11 w) parts.1)

colon_run : (xs : List ℕ) → list_all is_run_byte (before_first (λ b. b == 58) xs) ≡ true
    → list_all is_run_byte (after_first (λ b. b == 58) xs) ≡ true → list_all is_run_byte xs ≡ true
colon_run [] h k = refl
colon_run (x ∷ xs) h k = by_colon (λ a b. colon_run xs a b) (x == 58) refl h k
  where
    n : ℕ
    n = position_or_len (λ b. b == 58) xs

    by_colon : (list_all is_run_byte (before_first (λ b. b == 58) xs) ≡ true
        → list_all is_run_byte (after_first (λ b. b == 58) xs) ≡ true
        → list_all is_run_byte xs ≡ true) → (v : Bool) → (x == 58) ≡ v
        → list_all is_run_byte (take (cond (not v) (1 + n) 0) (x ∷ xs)) ≡ true
        → list_all is_run_byte (drop (cond (not v) (1 + n) 0 + 1) (x ∷ xs)) ≡ true
        → list_all is_run_byte (x ∷ xs) ≡ true
    by_colon rest true e h k =
        let is : x ≡ 58 = eqb-true x 58 e in
        and_from (is_run_byte x) (list_all is_run_byte xs) (ap is_run_byte is) k
    by_colon rest false e h k =
        let first : suc n ≡ 1 + n = omega arith in
        let second : suc (n + 1) ≡ 1 + n + 1 = omega arith in
        let h' : list_all is_run_byte (take (suc n) (x ∷ xs)) ≡ true =
        subst (λ m. list_all is_run_byte (take m (x ∷ xs)) ≡ true) (sym first) h in
        let k' : list_all is_run_byte (drop (suc (n + 1)) (x ∷ xs)) ≡ true =
        subst (λ m. list_all is_run_byte (drop m (x ∷ xs)) ≡ true) (sym second) k in
        let parts = and_parts (is_run_byte x) (list_all is_run_byte (take n xs)) h' in
        and_from (is_run_byte x) (list_all is_run_byte xs) parts.0 (rest parts.1 k')

reference_run : (w : List ℕ) → is_reference w ≡ true → list_all is_run_byte w ≡ true
reference_run w h =
    elim (or_cases (is_local_reference w)
    (starts_with nat_eq w (codes "DocumentRef-") && is_reference_of_document (drop 12 w)) h) [
      | inl a ↦ local_run w a
      | inr b ↦
          let parts = and_parts (starts_with nat_eq w (codes "DocumentRef-"))
          (is_reference_of_document (drop 12 w)) b in
          let inner = and_parts (is_idstring (before_first (λ b. b == 58) (drop 12 w)))
          (is_local_reference (after_first (λ b. b == 58) (drop 12 w))) parts.1 in
          prefix_run w (codes "DocumentRef-") parts.0 refl
          (colon_run (drop 12 w) (idstring_run (before_first (λ b. b == 58) (drop 12 w)) inner.0)
          (local_run (after_first (λ b. b == 58) (drop 12 w)) inner.1))
    ]

-- ---- a printed word is one token, which is its term

pub record IsWord (w : List ℕ) (s : Symbol) : Type 0 where
  pub some : 0 < length w
  pub run : All (λ b. IsTrue (is_run_byte b)) w
  pub is : symbol (kind_by Capitals w) w ≡ s

pub all_run : (w : List ℕ) → list_all is_run_byte w ≡ true → All (λ b. IsTrue (is_run_byte b)) w
all_run w h = AllPass-from_list_all is_run_byte w h

pub id_word : (w : List ℕ) → is_folded_id w ≡ true
    → IsWord w (word (record { key = w; plus = false; exception = None }) (Some w))
id_word w h =
    let bytes = id_bytes w h in
    record {
      some = bytes.2;
      run = all_run w (run_bytes w bytes.0);
      is = ap (λ k. symbol k w) (licence_kind w h)
          ∙ (λ i. word (record { key = bytes.1 i; plus = false; exception = None })
          (Some (bytes.1 i)));
    }

pub plain_word : (t : Term) → is_term t ≡ true
    → (o : Option (List ℕ)) × IsWord (printed_word t) (word (record t { exception = None }) o)
plain_word t h = by_plus t.key t.plus
    (and_parts (is_folded_id t.key || (is_reference t.key && not t.plus)) (is_exception t.exception)
    h).0
  where
    by_plus : (k : List ℕ) (p : Bool) → (is_folded_id k || (is_reference k && not p)) ≡ true
        → (o : Option (List ℕ)) × IsWord (k ++ (if p then codes "+" else []))
        (word (record { key = k; plus = p; exception = None }) o)
    by_plus k false h =
        elim (or_cases (is_folded_id k) (is_reference k && true) h) [
          | inl a ↦ (
            Some k,
            subst (λ w. IsWord w (word (record { key = k; plus = false; exception = None })
                (Some k))) (sym (append-nil k)) (id_word k a),
          )
          | inr b ↦
              let reference : is_reference k ≡ true = (and_parts (is_reference k) true b).0 in
              let head = reference_first k (reference_begins k reference) in (
                None,
                subst (λ w. IsWord w (word (record { key = k; plus = false; exception = None })
                    None)) (sym (append-nil k)) (record {
                      some = (let size = ap length head.2 in omega (arith, size));
                      run = all_run k (reference_run k reference);
                      is = ap (λ x. symbol x k) (reference_kind k reference);
                    }),
              )
        ]
    by_plus k true h =
        elim (or_cases (is_folded_id k) (is_reference k && false) h) [
          | inl a ↦
              let bytes = id_bytes k a in (
                None,
                record {
                  some = omega (arith, length-append k (codes "+"));
                  run = all_run (k ++ codes "+")
                      (joined_run k (codes "+") (run_bytes k bytes.0) refl);
                  is = ap (λ x. symbol x (k ++ codes "+")) (or_later_kind k a)
                      ∙ (λ i. word (record {
                        key = (ap folded (plus_front k) ∙ bytes.1) i;
                        plus = true;
                        exception = None;
                      }) None);
                },
              )
          | inr b ↦ let never = (and_parts (is_reference k) false b).1 in absurd (cc)
        ]
