-- Texts that are taken by their ids, each when it is first asked for.
use Rattle.std.proofs.Common.{◌≡◌, ◌∙◌, ℕ, Bool, true, false, cond, List, [], ◌∷◌, ◌++◌}
use Rattle.std.proofs.Common.{◌+◌, ◌<◌, length, get_or, take, map, Option, None, Some, sym, ap}
use Rattle.std.proofs.Common.{refl, subst}
use Rattle.std.specs.Prelude.{slice_get, unwrap_or}
use Rattle.std.specs.BTreeMap.{IsEmpty, UpdatesBy, get_by}
use Rattle.std.specs.Map.{lookup}
use Rattle.std.specs.Cmp.Lexicographic.{slice_cmp}
use Rattle.std.specs.Ordering.{is_eq, nat_cmp}
use Rattle.std.proofs.lemmas.List.{map-append, take_more}
use Rattle.std.proofs.lemmas.Map.Text.{is_eq-slice_cmp}
use Rattle.std.proofs.lemmas.Slice.Eq.{bytes_eq-Decides}
use Rattle.desk_alts.proofs.GoLemmas.{push_before, push_end}
use Rattle.desk_base.specs.Folded.{folded}
use Rattle.desk_model.specs.declared.reading.LicenceText.{LicenceText}
use Rattle.desk_texts.specs.Catalogues.{AreTaken, place_in, text_in}
use Rattle.desk_texts.specs.declared.licences.Taken.{Taken}
use denote.Ref.{Bor}

-- the same texts for each of these ids
pub same_texts : {B : Type 0} (f g : List ℕ → B) → ((id : List ℕ) → f id ≡ g id)
    → (ids : List (Bor (List ℕ))) → map (λ id. f id.now) ids ≡ map (λ id. g id.now) ids
same_texts f g same [] = refl
same_texts f g same (id ∷ ids) = λ i. same id.now i ∷ same_texts f g same ids i

pub map_borrowed : {B : Type 0} (f : List ℕ → B) (ids : List (Bor (List ℕ)))
    → map f (map (λ id. id.now) ids) ≡ map (λ id. f id.now) ids
map_borrowed f [] = refl
map_borrowed f (id ∷ ids) = λ i. f id.now ∷ map_borrowed f ids i

-- one more id
pub next_id : (ids : List (Bor (List ℕ))) (n : ℕ) (id d : Bor (List ℕ)) → n < length ids
    → id ≡ get_or ids n d
    → map (λ id. id.now) (take n ids) ++ id.now ∷ [] ≡ map (λ id. id.now) (take (n + 1) ids)
next_id ids n id d within is =
    sym (map-append (λ (x : Bor (List ℕ)). x.now) (take n ids) (id ∷ []))
    ∙ ap (map (λ (x : Bor (List ℕ)). x.now))
    (ap (λ (x : Bor (List ℕ)). take n ids ++ x ∷ []) is ∙ sym (take_more ids n d within))

-- before any id was asked for
pub none_asked : (texts : List ℕ → Option LicenceText) (taken : Taken) → taken.found ≡ []
    → IsEmpty taken.places → ((id : List ℕ) → text_in taken.left id ≡ texts id)
    → AreTaken texts [] taken
none_asked texts taken found places left = record {
  found = found;
  here = λ id place e. absurd (never
      (sym (ap (λ entries. lookup (λ k. is_eq (slice_cmp nat_cmp (folded id) k)) entries) places)
      ∙ e));
  left = λ id e. left id;
}
  where
    never : {A : Type 0} {x : A} → None ≡ Some x → ⊥
    never e = cc

module _ (texts : List ℕ → Option LicenceText) (ids : List (List ℕ)) (id : List ℕ) (old new : Taken)
    (are : AreTaken texts ids old) (x : Option LicenceText)
    (put : new.found ≡ old.found ++ x ∷ []) where
  more : x ≡ texts id → new.found ≡ map texts (ids ++ id ∷ [])
  more is = put ∙ (λ i. are.found i ++ is i ∷ []) ∙ sym (map-append texts ids (id ∷ []))

  stays : (other : List ℕ) (place : ℕ) → place_in old.places other ≡ Some place
      → slice_get new.found place ≡ Some (texts other)
  stays other place e = subst (λ (l : List (Option LicenceText)). slice_get l place
      ≡ Some (texts other)) (sym put)
      (push_before old.found x (texts other) place (are.here other place e))

  -- an id that was asked for before
  pub again : (place : ℕ) → place_in old.places id ≡ Some place
      → ((y : Option LicenceText) → slice_get old.found place ≡ Some y → x ≡ y)
      → new.left ≡ old.left → new.places ≡ old.places → AreTaken texts (ids ++ id ∷ []) new
  again place at copy left places = record {
    found = more (copy (texts id) (are.here id place at));
    here = λ other p e. stays other p (ap (λ m. place_in m other) (sym places) ∙ e);
    left = λ other e. ap (λ m. text_in m other) left
        ∙ are.left other (ap (λ m. place_in m other) (sym places) ∙ e);
  }

  -- an id that was not
  module _ (key : List ℕ) (is : key ≡ folded id)
      (none : get_by (slice_cmp nat_cmp key) old.places ≡ None)
      (taken : x ≡ get_by (slice_cmp nat_cmp key) old.left)
      (left : UpdatesBy (slice_cmp nat_cmp) (slice_cmp nat_cmp key) old.left new.left None)
      (places : UpdatesBy (slice_cmp nat_cmp) (slice_cmp nat_cmp key) old.places new.places
      (Some (length old.found))) where
    fresh : (other : List ℕ) → key ≡ folded other → x ≡ texts other
    fresh other e = taken ∙ ap (λ k. get_by (slice_cmp nat_cmp k) old.left) e
        ∙ are.left other (ap (λ k. get_by (slice_cmp nat_cmp k) old.places) (sym e) ∙ none)

    same_key : (other : List ℕ) → is_eq (slice_cmp nat_cmp key (folded other)) ≡ true
        → key ≡ folded other
    same_key other e = (bytes_eq-Decides key (folded other)).0
        (sym (is_eq-slice_cmp key (folded other)) ∙ e)

    here : (other : List ℕ) (place : ℕ) (b : Bool)
        → is_eq (slice_cmp nat_cmp key (folded other)) ≡ b
        → cond b (Some (length old.found)) (place_in old.places other) ≡ Some place
        → slice_get new.found place ≡ Some (texts other)
    here other place true b e =
        subst (λ (n : ℕ). slice_get new.found n ≡ Some (texts other)) (ap (λ o. unwrap_or o 0) e)
        (ap (λ (l : List (Option LicenceText)). slice_get l (length old.found)) put
        ∙ push_end old.found x ∙ ap Some (fresh other (same_key other b)))
    here other place false b e = stays other place e

    rest : (other : List ℕ) (b : Bool) → is_eq (slice_cmp nat_cmp key (folded other)) ≡ b
        → cond b (Some (length old.found)) (place_in old.places other) ≡ None
        → cond b None (text_in old.left other) ≡ texts other
    rest other true b e = cc
    rest other false b e = are.left other e

    pub first : AreTaken texts (ids ++ id ∷ []) new
    first = record {
      found = more (fresh id is);
      here = λ other place e. here other place (is_eq (slice_cmp nat_cmp key (folded other))) refl
          (sym (places.0 (folded other)) ∙ e);
      left = λ other e. left.0 (folded other)
          ∙ rest other (is_eq (slice_cmp nat_cmp key (folded other))) refl
          (sym (places.0 (folded other)) ∙ e);
    }
