-- The words of a relationship are read back.
use Rattle.std.proofs.Common.{◌≡◌, ◌∙◌, ℕ, true, false, List, [], ◌∷◌, ◌++◌, length, take, drop}
use Rattle.std.proofs.Common.{codes, refl, sym, ap, arith, ◌+◌, suc}
use Rattle.std.specs.Prelude.{not, nat_lt}
use Rattle.std.specs.List.{before_first, list_any, position_or_len, prefix_len}
use Rattle.std.proofs.Math.Seq.{take-append_seam, drop-append_seam}
use Rattle.std.proofs.lemmas.Bool.{not-true}
use Rattle.std.proofs.lemmas.List.{append-nil}
use Rattle.desk_base.proofs.Bools.{and_left, and_right, or_left, or_right}
use Rattle.desk_base.specs.Bytes.{is_blank}
use Rattle.desk_fields.specs.Text.{first_word, after_word, skip_blanks}
use Rattle.desk_tagvalue.specs.Relationships.{left_word, kind_word, right_word}
use Rattle.desk_spdx_json.specs.Words.{is_word}

-- a text in which what follows a word begins with a blank, if there is something
word_ends : (w rest : List ℕ) → list_any is_blank w ≡ false → position_or_len is_blank rest ≡ 0
    → position_or_len is_blank (w ++ rest) ≡ length w
word_ends [] rest plain front = front
word_ends (b ∷ bs) rest plain front =
    rw (or_left (is_blank b) (list_any is_blank bs) plain)
    (let more = word_ends bs rest (or_right (is_blank b) (list_any is_blank bs) plain) front in
    omega (arith, more))

no_gap : (w rest : List ℕ) → nat_lt 0 (length w) ≡ true → list_any is_blank w ≡ false
    → skip_blanks (w ++ rest) ≡ w ++ rest
no_gap [] rest some plain = cc
no_gap (b ∷ bs) rest some plain =
    rw (or_left (is_blank b) (list_any is_blank bs) plain) refl

module _ (w rest : List ℕ) (word : is_word w ≡ true)
    (front : position_or_len is_blank rest ≡ 0) where
  some : nat_lt 0 (length w) ≡ true
  some = and_left (nat_lt 0 (length w)) (not (list_any is_blank w)) word

  plain : list_any is_blank w ≡ false
  plain = not-true (list_any is_blank w)
      (and_right (nat_lt 0 (length w)) (not (list_any is_blank w)) word)

  gap : skip_blanks (w ++ rest) ≡ w ++ rest
  gap = no_gap w rest some plain

  end : position_or_len is_blank (skip_blanks (w ++ rest)) ≡ length w
  end = ap (position_or_len is_blank) gap ∙ word_ends w rest plain front

  pub first_is : first_word (w ++ rest) ≡ w
  first_is = (λ i. take (end i) (gap i)) ∙ take-append_seam w rest

  pub after_is : after_word (w ++ rest) ≡ rest
  after_is = (λ i. drop (end i) (gap i)) ∙ drop-append_seam w rest

-- a blank in front is skipped
skip_blank : (xs : List ℕ) → skip_blanks (codes " " ++ xs) ≡ skip_blanks xs
skip_blank xs =
    let n = prefix_len is_blank xs in
    let more : 1 + n ≡ suc n = omega arith in
    ap (λ k. drop k (32 ∷ xs)) more

first_behind : (xs : List ℕ) → first_word (codes " " ++ xs) ≡ first_word xs
first_behind xs = ap (before_first is_blank) (skip_blank xs)

after_behind : (xs : List ℕ) → after_word (codes " " ++ xs) ≡ after_word xs
after_behind xs = ap (λ t. drop (position_or_len is_blank t) t) (skip_blank xs)

pub first_alone : (w : List ℕ) → is_word w ≡ true → first_word w ≡ w
first_alone w word = ap first_word (sym (append-nil w)) ∙ first_is w [] word refl

abbrev pub three : List ℕ → List ℕ → List ℕ → List ℕ
three left kind right = left ++ (codes " " ++ (kind ++ (codes " " ++ right)))

module _ (left kind right : List ℕ) (is_left : is_word left ≡ true) (is_kind : is_word kind ≡ true)
    (is_right : is_word right ≡ true) where
  pub left_again : left_word (three left kind right) ≡ left
  left_again = first_is left (codes " " ++ (kind ++ (codes " " ++ right))) is_left refl

  after_left : after_word (three left kind right) ≡ codes " " ++ (kind ++ (codes " " ++ right))
  after_left = after_is left (codes " " ++ (kind ++ (codes " " ++ right))) is_left refl

  pub kind_again : kind_word (three left kind right) ≡ kind
  kind_again = ap first_word after_left ∙ first_behind (kind ++ (codes " " ++ right))
      ∙ first_is kind (codes " " ++ right) is_kind refl

  after_kind : after_word (after_word (three left kind right)) ≡ codes " " ++ right
  after_kind = ap after_word after_left ∙ after_behind (kind ++ (codes " " ++ right))
      ∙ after_is kind (codes " " ++ right) is_kind refl

  pub right_again : right_word (three left kind right) ≡ right
  right_again = ap first_word after_kind ∙ first_behind right ∙ first_alone right is_right
