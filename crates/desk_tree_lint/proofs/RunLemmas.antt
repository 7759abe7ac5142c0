-- What is between blanks and parentheses.
use Rattle.std.proofs.Common.{◌≡◌, ◌∙◌, ◌++◌, ◌<◌, ◌+◌, ℕ, Bool, true, false, List, [], ◌∷◌, length}
use Rattle.std.proofs.Common.{ap, cond, get_or, map, refl, sym, take}
use Rattle.std.specs.Prelude.{◌==◌, ◌||◌, filter, not}
use Rattle.std.specs.List.{list_any, onto_first, slice_split}
use Rattle.std.proofs.lemmas.List.{append_assoc, map-append, map_more}
use Rattle.std.proofs.lemmas.List.Elements.{filter-append}
use Rattle.std.proofs.lemmas.List.Splits.{slice_split-cons_no}
use denote.Ref.{Bor}
use Rattle.desk_base.proofs.Bools.{or_left, or_right}
use Rattle.desk_base.specs.Borrowed.{texts}
use Rattle.desk_tree_lint.specs.Naming.{MentionText, cut_at, ids_in, is_operator, is_separator}
use Rattle.desk_tokens.specs.Words.{without_plus}
use Rattle.desk_tree_lint.specs.Naming.{mention, runs}

-- ---- a licence that is not divided

-- a text without bytes that a test passes is not cut at one of them
uncut : (byte : ℕ) (test : ℕ → Bool) (xs : List ℕ)
    → ((x : ℕ) → test x ≡ false → (x == byte) ≡ false)
    → list_any test xs ≡ false → cut_at byte (xs ∷ []) ≡ xs ∷ []
uncut byte test xs away none = ap (λ l. l ++ []) (whole xs none) where
  whole : (ys : List ℕ) → list_any test ys ≡ false → slice_split (λ b. b == byte) ys ≡ ys ∷ []
  whole [] out = refl
  whole (y ∷ ys) out =
      slice_split-cons_no (λ b. b == byte) y ys (away y (or_left (test y) (list_any test ys) out))
      ∙ ap (onto_first y) (whole ys (or_right (test y) (list_any test ys) out))

pub one_run : (licence : List ℕ) → list_any is_separator licence ≡ false
    → runs licence ≡ licence ∷ []
one_run licence none =
    (λ j. cut_at 41 (cut_at 40 (cut_at 9 (uncut 32 is_separator licence space none j))))
    ∙ (λ j. cut_at 41 (cut_at 40 (uncut 9 is_separator licence tab none j)))
    ∙ (λ j. cut_at 41 (uncut 40 is_separator licence opening none j))
    ∙ uncut 41 is_separator licence closing none where
      behind_space : (x : ℕ) → is_separator x ≡ false → (x == 9 || (x == 40 || x == 41)) ≡ false
      behind_space x out = or_right (x == 32) (x == 9 || (x == 40 || x == 41)) out

      space : (x : ℕ) → is_separator x ≡ false → (x == 32) ≡ false
      space x out = or_left (x == 32) (x == 9 || (x == 40 || x == 41)) out

      tab : (x : ℕ) → is_separator x ≡ false → (x == 9) ≡ false
      tab x out = or_left (x == 9) (x == 40 || x == 41) (behind_space x out)

      parentheses : (x : ℕ) → is_separator x ≡ false → (x == 40 || x == 41) ≡ false
      parentheses x out = or_right (x == 9) (x == 40 || x == 41) (behind_space x out)

      opening : (x : ℕ) → is_separator x ≡ false → (x == 40) ≡ false
      opening x out = or_left (x == 40) (x == 41) (parentheses x out)

      closing : (x : ℕ) → is_separator x ≡ false → (x == 41) ≡ false
      closing x out = or_right (x == 40) (x == 41) (parentheses x out)

-- ---- the mentions in runs

pub operator_none : (path run : List ℕ) → is_operator run ≡ true
    → map (mention path) (ids_in (run ∷ [])) ≡ []
operator_none path run is =
    ap (λ b. map (mention path) (map without_plus (cond (not b) (run ∷ []) []))) is

pub named_one : (path run : List ℕ) → is_operator run ≡ false
    → map (mention path) (ids_in (run ∷ [])) ≡ mention path (without_plus run) ∷ []
named_one path run is =
    ap (λ b. map (mention path) (map without_plus (cond (not b) (run ∷ []) []))) is

-- those in one more run
pub runs_more : (before : List MentionText) (path : List ℕ) (listed : List (Bor (List ℕ))) (i : ℕ)
    (d : Bor (List ℕ)) → i < length listed
    → (before ++ map (mention path) (ids_in (texts (take i listed))))
    ++ map (mention path) (ids_in ((get_or listed i d).now ∷ [])) ≡ before
    ++ map (mention path) (ids_in (texts (take (i + 1) listed)))
runs_more before path listed i d within =
    let front = texts (take i listed) in
    let run = (get_or listed i d).now ∷ [] in
    append_assoc before (map (mention path) (ids_in front)) (map (mention path) (ids_in run))
    ∙ ap (λ l. before ++ l) (sym (map-append (mention path) (ids_in front) (ids_in run))
    ∙ ap (map (mention path)) (sym (map-append without_plus (filter kept front) (filter kept run))
    ∙ ap (map without_plus) (sym (filter-append kept front run)))
    ∙ ap (λ l. map (mention path) (ids_in l))
    (sym (map_more (λ (b : Bor (List ℕ)). b.now) listed i d within))) where
      kept : List ℕ → Bool
      kept run = not (is_operator run)
