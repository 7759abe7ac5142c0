-- Words that are joined by one blank can be separated again.
use Rattle.std.proofs.Common.{◌≡◌, ℕ, Bool, true, false, List, [], ◌∷◌, length, refl, ap, ◌∙◌, All, inl, inr}
use Rattle.std.specs.Prelude.{◌==◌, filter, nat_lt}
use Rattle.std.specs.List.{list_all, join_with_byte, slice_split, AllByRecursion}
use Rattle.std.proofs.lemmas.Bool.Decides.{eqb_tells}
use Rattle.std.proofs.lemmas.List.Elements.{All-from_recursion}
use Rattle.std.proofs.lemmas.List.Splits.{slice_split_none, slice_split_at}
use Rattle.desk_base.specs.Idstring.{is_idstring, is_idstring_byte}
use Rattle.desk_base.proofs.Bools.{and_left, and_right}
use Rattle.desk_snapshot.specs.Conditions.{codes_in}

abbrev is_blank : ℕ → Bool
is_blank byte = byte == 32

not_blank : (b : ℕ) → is_idstring_byte b ≡ true → is_blank b ≡ false
not_blank b e =
    elim (eqb_tells b 32) [
      | inl same ↦ (let no_byte : is_idstring_byte b ≡ false = ap is_idstring_byte same.1 in cc)
      | inr differ ↦ differ.0
    ]

no_blanks : (word : List ℕ) → is_idstring word ≡ true → All (λ b. is_blank b ≡ false) word
no_blanks word e = All-from_recursion (λ b. is_blank b ≡ false) word
    (each word (and_right (nat_lt 0 (length word)) (list_all is_idstring_byte word) e))
  where
    each : (bytes : List ℕ) → list_all is_idstring_byte bytes ≡ true
        → AllByRecursion (λ b. is_blank b ≡ false) bytes
    each [] e = tt
    each (b ∷ bs) e = (
      not_blank b (and_left (is_idstring_byte b) (list_all is_idstring_byte bs) e),
      each bs (and_right (is_idstring_byte b) (list_all is_idstring_byte bs) e),
    )

split_joined : (word : List ℕ) (words : List (List ℕ)) → list_all is_idstring (word ∷ words) ≡ true
    → slice_split is_blank (join_with_byte 32 (word ∷ words)) ≡ word ∷ words
split_joined word [] e = slice_split_none is_blank word
    (no_blanks word (and_left (is_idstring word) true e))
split_joined word (next ∷ words) e =
    slice_split_at is_blank word 32 (join_with_byte 32 (next ∷ words))
    (no_blanks word (and_left (is_idstring word) (list_all is_idstring (next ∷ words)) e)) refl
    ∙ ap (λ ws. word ∷ ws) (split_joined next words
    (and_right (is_idstring word) (list_all is_idstring (next ∷ words)) e))

all_kept : (words : List (List ℕ)) → list_all is_idstring words ≡ true
    → filter (λ (word : List ℕ). nat_lt 0 (length word)) words ≡ words
all_kept [] e = refl
all_kept (word ∷ words) e =
    let some : nat_lt 0 (length word) ≡ true =
    and_left (nat_lt 0 (length word)) (list_all is_idstring_byte word)
    (and_left (is_idstring word) (list_all is_idstring words) e) in
    rw some (ap (λ ws. word ∷ ws)
    (all_kept words (and_right (is_idstring word) (list_all is_idstring words) e)))

pub codes-joined : (words : List (List ℕ)) → list_all is_idstring words ≡ true
    → codes_in (join_with_byte 32 words) ≡ words
codes-joined [] e = refl
codes-joined (word ∷ words) e = ap (filter (λ (word : List ℕ). nat_lt 0 (length word)))
    (split_joined word words e) ∙ all_kept (word ∷ words) e
