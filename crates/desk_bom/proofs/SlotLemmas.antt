-- Identifiers in slots, or in a tree if another one has the slot.
use Rattle.std.proofs.Common.{◌≡◌, ◌∙◌, inl, inr, ℕ, suc, ◌+◌, ◌<◌, ◌≤◌, Bool, true, false, cond}
use Rattle.std.proofs.Common.{List, [], ◌∷◌, ◌++◌, length, take, drop, get_or, set, ap, sym, subst}
use Rattle.std.proofs.Common.{refl, arith, length-set, length-take, get_or-set_same}
use Rattle.std.proofs.Common.{get_or-set_other}
use Rattle.std.specs.Prelude.{Option, Some, None, ◌&&◌}
use Rattle.std.specs.Option.{is_some}
use Rattle.std.specs.Bool.{Decides}
use Rattle.std.specs.BTreeMap.{BTreeMap, UpdatesBy}
use Rattle.std.specs.Cmp.Lexicographic.{slice_cmp}
use Rattle.std.specs.Ordering.{nat_cmp}
use Rattle.std.specs.Str.{bytes_eq}
use Rattle.std.proofs.lemmas.Bool.{cases_eq, lt-ltb, le-ltb}
use Rattle.std.proofs.lemmas.List.{take_more, take_all, take-append-le}
use Rattle.std.proofs.lemmas.Map.Text.{btree_map_updates_str}
use Rattle.std.proofs.lemmas.Slice.Eq.{bytes_eq-Decides}
use denote.Ref.{Bor}
use Rattle.desk_bom.specs.Places.{place_of, place_in, later, slot_of, held_for, stands_at, found, Finds}

-- the first of two places
abbrev or_else : Option ℕ → Option ℕ → Option ℕ
or_else None other = other
or_else (Some n) other = Some n

or_nothing : (place : Option ℕ) → or_else place None ≡ place
or_nothing None = refl
or_nothing (Some n) = refl

-- one more identifier
place_of_last : (q x : List ℕ) (xs : List (List ℕ))
    → place_of q (xs ++ x ∷ []) ≡ or_else (place_of q xs)
    (cond (bytes_eq x q) (Some (length xs)) None)
place_of_last q x [] = refl
place_of_last q x (y ∷ ys) = ap (λ place. cond (bytes_eq y q) (Some 0) (later place))
    (place_of_last q x ys) ∙ at (bytes_eq y q) (place_of q ys) (bytes_eq x q)
  where
    at : (b : Bool) (place : Option ℕ) (is : Bool)
        → cond b (Some 0) (later (or_else place (cond is (Some (length ys)) None)))
        ≡ or_else (cond b (Some 0) (later place)) (cond is (Some (suc (length ys))) None)
    at true place is = refl
    at false None true = let e : length ys + 1 ≡ suc (length ys) = omega arith in ap (λ k. Some k) e
    at false None false = refl
    at false (Some k) is = refl

nothing_from : (place : Option ℕ) → is_some place ≡ false → place ≡ None
nothing_from None e = refl
nothing_from (Some n) e = absurd cc

-- a place that is there comes before any other
first_stays : (place other : Option ℕ) → is_some place ≡ true → place ≡ or_else place other
first_stays None other e = absurd cc
first_stays (Some n) other e = refl

module _ (ids : List (List ℕ)) (n : ℕ) (inside : n < length ids) where
  abbrev x : List ℕ
  x = get_or ids n []

  place_next : (q : List ℕ) → place_of q (take (n + 1) ids)
      ≡ or_else (place_of q (take n ids)) (cond (bytes_eq x q) (Some n) None)
  place_next q =
      let long = length-take n ids in
      let e : length (take n ids) ≡ n = omega arith in
      ap (place_of q) (take_more ids n [] inside) ∙ place_of_last q x (take n ids)
      ∙ ap (λ k. or_else (place_of q (take n ids)) (cond (bytes_eq x q) (Some k) None)) e

  -- what is found of another text stays
  other_stays : (q : List ℕ) (place : Option ℕ) → bytes_eq x q ≡ false
      → place ≡ place_of q (take n ids) → place ≡ place_of q (take (n + 1) ids)
  other_stays q place apart is = is ∙ sym (or_nothing (place_of q (take n ids)))
      ∙ ap (λ b. or_else (place_of q (take n ids)) (cond b (Some n) None)) (sym apart)
      ∙ sym (place_next q)

  -- the text itself is here, if it wasn't found
  itself_here : (q : List ℕ) → x ≡ q → place_of x (take n ids) ≡ None
      → Some n ≡ place_of q (take (n + 1) ids)
  itself_here q same none =
      ap (λ b. cond b (Some n) None) (sym ((bytes_eq-Decides x q).1 same))
      ∙ ap (λ place. or_else place (cond (bytes_eq x q) (Some n) None))
      (sym (ap (λ t. place_of t (take n ids)) (sym same) ∙ none)) ∙ sym (place_next q)

  -- it was found before
  pub finds_again : (slots : List ℕ) (tree : BTreeMap (Bor (List ℕ)) ℕ) → Finds n ids slots tree
      → is_some (found ids slots tree x) ≡ true → Finds (n + 1) ids slots tree
  finds_again slots tree before is q = at (bytes_eq x q) refl
    where
      at : (b : Bool) → bytes_eq x q ≡ b → found ids slots tree q ≡ place_of q (take (n + 1) ids)
      at false apart = other_stays q (found ids slots tree q) apart (before q)
      at true same =
          let e : x ≡ q = (bytes_eq-Decides x q).0 same in
          let was : is_some (place_of q (take n ids)) ≡ true =
          ap is_some (ap (λ t. place_of t (take n ids)) (sym e) ∙ sym (before x)) ∙ is in
          before q ∙ first_stays (place_of q (take n ids)) (cond (bytes_eq x q) (Some n) None) was
          ∙ sym (place_next q)

  -- it goes into its slot, which is free
  pub finds_in_slot : (slots : List ℕ) (tree : BTreeMap (Bor (List ℕ)) ℕ)
      → slot_of x (length slots) < length slots → length ids ≤ held_for slots x
      → Finds n ids slots tree → is_some (found ids slots tree x) ≡ false
      → Finds (n + 1) ids (set slots (slot_of x (length slots)) n) tree
  finds_in_slot slots tree fits free before none q =
      elim (cases_eq s (slot_of q (length slots))) [
        | inl same ↦ in_it same
        | inr other ↦ beside other
      ]
    where
      s : ℕ
      s = slot_of x (length slots)

      long : length (set slots s n) ≡ length slots
      long = length-set slots s n

      absent : place_of x (take n ids) ≡ None
      absent = sym (before x) ∙ nothing_from (found ids slots tree x) none

      held : held_for (set slots s n) q ≡ get_or (set slots s n) (slot_of q (length slots)) 0
      held = ap (λ m. get_or (set slots s n) (slot_of q m) 0) long

      look : ℕ → Option ℕ
      look h = cond (stands_at ids h q) (Some h) (place_in tree q)

      in_it : s ≡ slot_of q (length slots)
          → look (held_for (set slots s n) q) ≡ place_of q (take (n + 1) ids)
      in_it same = ap look (held ∙ ap (λ k. get_or (set slots s n) k 0) (sym same)
          ∙ get_or-set_same slots s n 0 fits)
          ∙ (ap (λ b. cond (b && bytes_eq x q) (Some n) (place_in tree q))
          (lt-ltb n (length ids) inside) ∙ at (bytes_eq x q) refl)
        where
          was : look (held_for slots q) ≡ place_in tree q
          was = ap (λ b. cond (b && bytes_eq (get_or ids (held_for slots q) []) q)
              (Some (held_for slots q)) (place_in tree q))
              (le-ltb (held_for slots q) (length ids)
              (subst (λ k. length ids ≤ get_or slots k 0) same free))

          at : (b : Bool) → bytes_eq x q ≡ b
              → cond (bytes_eq x q) (Some n) (place_in tree q) ≡ place_of q (take (n + 1) ids)
          at true is = ap (λ b. cond b (Some n) (place_in tree q)) is
              ∙ itself_here q ((bytes_eq-Decides x q).0 is) absent
          at false is = ap (λ b. cond b (Some n) (place_in tree q)) is
              ∙ other_stays q (place_in tree q) is (sym was ∙ before q)

      beside : (s ≡ slot_of q (length slots) → ⊥)
          → look (held_for (set slots s n) q) ≡ place_of q (take (n + 1) ids)
      beside other = ap look (held ∙ get_or-set_other slots s (slot_of q (length slots)) n 0
          (λ e. other (sym e))) ∙ other_stays q (look (held_for slots q))
          (apart (bytes_eq x q) (bytes_eq-Decides x q)) (before q)
        where
          apart : (b : Bool) → Decides b (x ≡ q) → b ≡ false
          apart true tells = absurd (other (ap (λ t. slot_of t (length slots)) (tells.0 refl)))
          apart false tells = refl

  -- it goes into the tree
  pub finds_in_tree : (slots : List ℕ) (tree more : BTreeMap (Bor (List ℕ)) ℕ)
      → Finds n ids slots tree → is_some (found ids slots tree x) ≡ false
      → UpdatesBy (λ (a b : Bor (List ℕ)). slice_cmp nat_cmp a.now b.now)
      (λ (k : Bor (List ℕ)). slice_cmp nat_cmp x k.now) tree more (Some n)
      → Finds (n + 1) ids slots more
  finds_in_tree slots tree more before none updates q =
      ap (λ place. cond (stands_at ids (held_for slots q) q) (Some (held_for slots q)) place)
      (btree_map_updates_str x tree more (Some n) updates q) ∙ at (bytes_eq x q) refl
    where
      look : Bool → Option ℕ
      look b = cond (stands_at ids (held_for slots q) q) (Some (held_for slots q))
          (cond b (Some n) (place_in tree q))

      nowhere : (b : Bool) (h : ℕ) (place : Option ℕ) → cond b (Some h) place ≡ None
          → cond b (Some h) (Some n) ≡ Some n
      nowhere true h place e = absurd cc
      nowhere false h place e = refl

      at : (b : Bool) → bytes_eq x q ≡ b → look (bytes_eq x q) ≡ place_of q (take (n + 1) ids)
      at true is =
          let same : x ≡ q = (bytes_eq-Decides x q).0 is in
          let gone = nothing_from (found ids slots tree x) none in
          ap look is ∙ nowhere (stands_at ids (held_for slots q) q) (held_for slots q)
          (place_in tree q) (ap (found ids slots tree) (sym same) ∙ gone)
          ∙ itself_here q same (sym (before x) ∙ gone)
      at false is = ap look is ∙ other_stays q (found ids slots tree q) is (before q)

-- at the start no slot has a place
pub finds_none : (ids : List (List ℕ)) (slots : List ℕ) (tree : BTreeMap (Bor (List ℕ)) ℕ)
    → ((q : List ℕ) → length ids ≤ held_for slots q) → ((q : List ℕ) → place_in tree q ≡ None)
    → Finds 0 ids slots tree
finds_none ids slots tree free none q =
    ap (λ b. cond (b && bytes_eq (get_or ids (held_for slots q) []) q) (Some (held_for slots q))
    (place_in tree q)) (le-ltb (held_for slots q) (length ids) (free q)) ∙ none q

-- if all of a list is written back, the result is the new list
pub back_whole : (n : ℕ) (new old : List ℕ) → length new ≡ length old → n ≡ length old
    → take n (new ++ drop (length new) old) ≡ new
back_whole n new old same whole = take-append-le n new (drop (length new) old) (omega arith)
    ∙ take_all n new (omega arith)
