-- Sets of texts, made from a list by its last text first.
use Rattle.std.proofs.Common.{◌≡◌, ◌∙◌, ℕ, Bool, true, false, cond, List, [], ◌∷◌, ◌++◌, length}
use Rattle.std.proofs.Common.{take, get_or, suc, ◌<◌, map, sym, ap, refl, Ordering, Less, Equal}
use Rattle.std.proofs.Common.{Greater, nat_cmp, is_eq}
use Rattle.std.specs.Ordering.{is_lt, match_ordering}
use Rattle.std.specs.Str.{bytes_eq}
use Rattle.std.specs.Cmp.Lexicographic.{slice_cmp}
use Rattle.std.specs.BTreeSet.{insert_key}
use Rattle.std.proofs.Math.Seq.{take-suc}
use Rattle.std.proofs.lemmas.Map.Text.{is_eq-slice_cmp}
use Rattle.std.proofs.lemmas.List.{map-id}
use denote.Ref.{Bor}
use Rattle.desk_base.specs.Borrowed.{texts, borrowed_cmp}
use Rattle.desk_model.specs.Texts.{text_below, put_new, sorted_set}

-- texts put into a set, the last first
abbrev pub put_texts : List (List ℕ) → List (List ℕ) → List (List ℕ)
put_texts [] set = set
put_texts (x ∷ xs) set = put_new x (put_texts xs set)

pub put_texts-none : (xs : List (List ℕ)) → put_texts xs [] ≡ sorted_set xs
put_texts-none [] = refl
put_texts-none (x ∷ xs) = ap (put_new x) (put_texts-none xs)

pub put_texts-last : (xs : List (List ℕ)) (x : List ℕ) (set : List (List ℕ))
    → put_texts (xs ++ x ∷ []) set ≡ put_texts xs (put_new x set)
put_texts-last [] x set = refl
put_texts-last (y ∷ ys) x set = ap (put_new y) (put_texts-last ys x set)

-- the last of those before a place
pub put_texts-take : (xs : List (List ℕ)) (k : ℕ) (d : List ℕ) (set : List (List ℕ)) → k < length xs
    → put_texts (take (suc k) xs) set ≡ put_texts (take k xs) (put_new (get_or xs k d) set)
put_texts-take xs k d set within = ap (λ l. put_texts l set) (take-suc xs k d within)
    ∙ put_texts-last (take k xs) (get_or xs k d) set

-- the last of borrowed texts
pub put_texts-last_borrowed : (xs : List (Bor (List ℕ))) (x : Bor (List ℕ)) (set : List (List ℕ))
    → put_texts (texts (xs ++ x ∷ [])) set ≡ put_texts (texts xs) (put_new x.now set)
put_texts-last_borrowed [] x set = refl
put_texts-last_borrowed (y ∷ ys) x set = ap (put_new y.now) (put_texts-last_borrowed ys x set)

-- ---- a text is put in its place

module _ {X : Type 0} (bytes : X → List ℕ) where
  by_order : (o : Ordering) (b : Bool) (x y z : List X) → is_eq o ≡ b
      → map bytes (match_ordering o x y z)
      ≡ cond (is_lt o) (map bytes x) (cond b (map bytes y) (map bytes z))
  by_order Less b x y z is = refl
  by_order Equal true x y z is = refl
  by_order Equal false x y z is = absurd cc
  by_order Greater true x y z is = absurd cc
  by_order Greater false x y z is = refl

  -- of anything that is ordered by its bytes
  pub map-insert_key : (ks : List X) (k : X)
      → map bytes (insert_key (λ a b. slice_cmp nat_cmp (bytes a) (bytes b)) ks k)
      ≡ put_new (bytes k) (map bytes ks)
  map-insert_key [] k = refl
  map-insert_key (x ∷ xs) k =
      let here = bytes k in
      let next = bytes x in
      by_order (slice_cmp nat_cmp here next) (bytes_eq here next) (k ∷ x ∷ xs) (x ∷ xs)
      (x ∷ insert_key (λ a b. slice_cmp nat_cmp (bytes a) (bytes b)) xs k)
      (is_eq-slice_cmp here next)
      ∙ ap (λ l. cond (text_below here next) (here ∷ next ∷ map bytes xs)
      (cond (bytes_eq here next) (next ∷ map bytes xs) (next ∷ l))) (map-insert_key xs k)

pub texts-insert_key : (ks : List (Bor (List ℕ))) (k : Bor (List ℕ))
    → texts (insert_key borrowed_cmp ks k) ≡ put_new k.now (texts ks)
texts-insert_key ks k = map-insert_key (λ (text : Bor (List ℕ)). text.now) ks k

pub insert_key-is : (ks : List (List ℕ)) (k : List ℕ)
    → insert_key (slice_cmp nat_cmp) ks k ≡ put_new k ks
insert_key-is ks k = sym (map-id (insert_key (slice_cmp nat_cmp) ks k))
    ∙ (map-insert_key (λ (x : List ℕ). x) ks k ∙ ap (put_new k) (map-id ks))
