-- One more row.
use Rattle.std.proofs.Common.{◌≡◌, ℕ, ℤ, ◌+◌, ◌<◌, true, FitsSigned, List, [], ◌∷◌, ◌++◌, length}
use Rattle.std.proofs.Common.{map, get_or, take, refl, sym, ap, ap₂, subst, ◌∙◌, append-nil, of_z}
use Rattle.std.proofs.Common.{to_z, w64}
use Rattle.std.specs.Prelude.{Bool, Option}
use Rattle.std.specs.List.{flat_map, list_all}
use Rattle.std.proofs.lemmas.Grind.{flat_map-append}
use Rattle.std.proofs.lemmas.Int.{to_z-of_z}
use Rattle.std.proofs.lemmas.List.{take_more}
use Rattle.std.proofs.lemmas.List.Concat.{flat_map-cons}
use Rattle.std.proofs.lemmas.List.Folds.{list_all_more}
use Rattle.desk_audit_texts.specs.Left.{IsLeft}

pub all_on : {A : Type 0} (p : A → Bool) (rows : List A) (i : ℕ) (row : A) → i < length rows
    → row ≡ get_or rows i row
    → list_all p (take i rows) ≡ true → p row ≡ true → list_all p (take (i + 1) rows) ≡ true
all_on p rows i row within is before here =
    let this : p (get_or rows i row) ≡ true = ap p (sym is) ∙ here in
    list_all_more p rows i row within ∙ rw (before, this) refl

given_on : {A B : Type 0} (f : A → List B) (rows : List A) (i : ℕ) (row : A) → i < length rows
    → row ≡ get_or rows i row
    → flat_map f (take i rows) ++ f row ≡ flat_map f (take (i + 1) rows)
given_on f rows i row within is =
    let one : flat_map f (row ∷ []) ≡ f row = flat_map-cons f row [] ∙ append-nil (f row) in
    ap (λ l. flat_map f (take i rows) ++ l) (sym one)
    ∙ sym (flat_map-append f (take i rows) (row ∷ []))
    ∙ ap (λ r. flat_map f (take i rows ++ r ∷ [])) is
    ∙ ap (flat_map f) (sym (take_more rows i row within))

-- What is left after the rows for the items of one more text, which has a number, is left after
-- those of all texts so far.
pub left_given : {A B C : Type 0} (f : A → List B) (stored : ℤ → C → B) (rows : List A) (i : ℕ)
    (row : A) (number told : ℤ)
    (items read : List C) (all : List B) (left : Option (List B)) → i < length rows
    → row ≡ get_or rows i row
    → FitsSigned w64 told → told ≡ number → items ≡ read → f row ≡ map (stored number) read
    → IsLeft all (flat_map f (take i rows) ++ map (stored (to_z w64 (of_z w64 told))) items) left
    → IsLeft all (flat_map f (take (i + 1) rows)) left
left_given f stored rows i row number told items read all left within is fits same same_items gives
    before =
    let front : List _ = flat_map f (take i rows) in
    let told_is : to_z w64 (of_z w64 told) ≡ number = to_z-of_z w64 told fits ∙ same in
    let here : map (stored (to_z w64 (of_z w64 told))) items ≡ f row =
    ap₂ (λ n (l : List _). map (stored n) l) told_is same_items ∙ sym gives in
    subst (λ l. IsLeft all l left) (ap (λ l. front ++ l) here ∙ given_on f rows i row within is)
    before
