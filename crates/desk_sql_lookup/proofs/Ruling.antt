-- The rule in force, and the codes that a text joins.
use Rattle.sqlite_value.specs.Order.{Row}
use Rattle.std.proofs.Common.{◌≡◌, ℕ, Bool, true, false, not, Some, List, [], ◌∷◌, map, filter}
use Rattle.std.proofs.Common.{find, slice_get, length, refl, sym, ap, ◌∙◌, All, arith}
use Rattle.std.specs.Prelude.{◌==◌, ◌&&◌, bytes_eq, nat_lt}
use Rattle.std.specs.List.{list_all, slice_split, AllByRecursion}
use Rattle.std.specs.Option.{option_map}
use Rattle.std.proofs.lemmas.Bool.{and_parts, not-true}
use Rattle.std.proofs.lemmas.Bool.Decides.{nat_tests}
use Rattle.std.proofs.lemmas.List.Elements.{All-from_recursion}
use Rattle.std.proofs.lemmas.List.Splits.{slice_split_none, slice_split_at}
use Rattle.desk_history.specs.FromTables.{rule_of}
use Rattle.desk_sql_layout.specs.Cells.{is_word, joined, rule_cells}
use Rattle.desk_model.specs.Keys.{is_rule, is_rule_of, is_rule_at}
use Rattle.desk_model.specs.declared.reading.Rule.{Rule}
use Rattle.desk_model.specs.declared.row.RuleRow.{RuleRow}
use Rattle.desk_sql_lookup.specs.Rules.{are_words}

pub words_kept : (p : RuleRow → Bool) (rows : List RuleRow) → are_words rows ≡ true
    → are_words (filter p rows) ≡ true
words_kept p [] all = refl
words_kept p (x ∷ xs) all = go
    (words_kept p xs (and_parts (list_all is_word x.codes) (are_words xs) all).1) (p x) refl
  where
    go : are_words (filter p xs) ≡ true → (b : Bool) → p x ≡ b
        → are_words (filter p (x ∷ xs)) ≡ true
    go more true is = rw (is, (and_parts (list_all is_word x.codes) (are_words xs) all).0) more
    go more false is = rw is more

pub rule_is : (revision : ℕ) (term form : List ℕ) (rows : List RuleRow)
    → option_map rule_of (slice_get (filter (is_rule_at revision term form) rows) 0)
    ≡ find (is_rule term form) (map rule_of (filter (is_rule_of revision) rows))
rule_is revision term form [] = refl
rule_is revision term form (x ∷ xs) = go (rule_is revision term form xs) (x.revision == revision)
    (bytes_eq x.term term && bytes_eq x.form form) refl refl
  where
    go : option_map rule_of (slice_get (filter (is_rule_at revision term form) xs) 0)
        ≡ find (is_rule term form) (map rule_of (filter (is_rule_of revision) xs)) → (a b : Bool)
        → (x.revision == revision) ≡ a
        → (bytes_eq x.term term && bytes_eq x.form form) ≡ b
        → option_map rule_of (slice_get (filter (is_rule_at revision term form) (x ∷ xs)) 0)
        ≡ find (is_rule term form) (map rule_of (filter (is_rule_of revision) (x ∷ xs)))
    go more true true e f = rw (e, f) refl
    go more true false e f = rw (e, f) more
    go more false b e f = rw e more

-- ---- words

no_blank : (word : List ℕ) → is_word word ≡ true → All (λ b. (b == 32) ≡ false) word
no_blank word h = All-from_recursion _ word
    (each word (and_parts (nat_lt 0 (length word)) (list_all (λ b. not (b == 32)) word) h).1)
  where
    each : (bytes : List ℕ) → list_all (λ b. not (b == 32)) bytes ≡ true
        → AllByRecursion (λ b. (b == 32) ≡ false) bytes
    each [] h = tt
    each (b ∷ bs) h = let p = and_parts (not (b == 32)) (list_all (λ b. not (b == 32)) bs) h in
        (not-true (b == 32) p.0, each bs p.1)

pub split_joined : (word : List ℕ) (words : List (List ℕ)) → list_all is_word (word ∷ words) ≡ true
    → slice_split (λ b. b == 32) (joined (word ∷ words)) ≡ word ∷ words
split_joined word [] h = slice_split_none (λ b. b == 32) word
    (no_blank word (and_parts (is_word word) true h).0)
split_joined word (next ∷ words) h =
    let p = and_parts (is_word word) (list_all is_word (next ∷ words)) h in
    slice_split_at (λ b. b == 32) word 32 (joined (next ∷ words)) (no_blank word p.0) refl
    ∙ ap (λ l. word ∷ l) (split_joined next words p.1)

-- joined words are not the empty text
pub none_joined : (words : List (List ℕ)) → list_all is_word words ≡ true → [] ≡ joined words
    → words ≡ []
none_joined [] h e = refl
none_joined (word ∷ []) h e = absurd (let p : nat_lt 0 (length word) ≡ true =
    (and_parts (nat_lt 0 (length word)) _ (and_parts (is_word word) true h).0).0 in
    let q : nat_lt 0 (length word) ≡ false = ap (λ w. nat_lt 0 (length w)) (sym e) in cc)
none_joined ([] ∷ next ∷ words) h e = absurd (cc)
none_joined ((b ∷ bs) ∷ next ∷ words) h e = absurd (cc)

pub first_rule_is : (rules : List RuleRow) (row : Row) (found : Rule) → are_words rules ≡ true
    → Some row ≡ slice_get (map rule_cells rules) 0
    → ((x : RuleRow) → list_all is_word x.codes ≡ true → row ≡ rule_cells x → found ≡ rule_of x)
    → Some found ≡ option_map rule_of (slice_get rules 0)
first_rule_is [] row found words first right = absurd (cc)
first_rule_is (x ∷ rules) row found words first right = ap (λ r. Some r)
    (right x (and_parts (list_all is_word x.codes) (are_words rules) words).0 (same first))
  where
    same : {a b : Row} → Some a ≡ Some b → a ≡ b
    same e = cc

pub empty_is : (text : List ℕ) → (length text == 0) ≡ true → text ≡ []
empty_is [] h = refl
empty_is (b ∷ bs) h = absurd (grind (arith, nat_tests, h))

pub split_some : (text : List ℕ) (words : List (List ℕ)) → list_all is_word words ≡ true
    → text ≡ joined words → (length text == 0) ≡ false → slice_split (λ b. b == 32) text ≡ words
split_some text [] h is some = absurd (let e : (length text == 0) ≡ true =
    ap (λ l. length l == 0) is in cc)
split_some text (word ∷ words) h is some = ap (slice_split (λ b. b == 32)) is
    ∙ split_joined word words h
