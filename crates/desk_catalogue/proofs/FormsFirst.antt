-- The fault of the forms is the first of all that they have.
use Rattle.std.proofs.Common.{◌≡◌, ◌∙◌, ℕ, ◌+◌, ◌≤◌, Bool, true, false, cond, List, [], ◌∷◌, ◌++◌}
use Rattle.std.proofs.Common.{Option, Some, None, Ok, Err, refl, sym, subst, arith}
use Rattle.std.proofs.Common.{append_assoc, append-nil}
use Rattle.std.specs.Prelude.{All}
use Rattle.std.specs.Option.{ok_or, option_map_or, option_to_list}
use Rattle.std.proofs.lemmas.List.Elements.{All-nil, All-cons, All-append}
use Rattle.toml.specs.Data.{Data, Items, no_items, item, as_array}
use Rattle.desk_base.specs.Results.{then_read}
use Rattle.desk_base.specs.TextSets.{is_among}
use Rattle.desk_model.specs.declared.refusal.CatalogueFault.TheVariants.{BadKind, Twice}
use Rattle.desk_model.specs.declared.refusal.CataloguePart.TheVariants as part
use Rattle.desk_catalogue.specs.AllFaults.{IsLeastOf, all_in, at, forms_faults, kind_fault, named_by}
use Rattle.desk_catalogue.specs.AllFaults.{named_in, of_entries, place, place_of, repeated}
use Rattle.desk_catalogue.specs.Faults.{sound}
use Rattle.desk_catalogue.specs.Reading.{Read, count, each, forms_listed, forms_of, forms_once}
use Rattle.desk_catalogue.specs.Reading.{is_form_count, with_form}
use Rattle.desk_catalogue.specs.Values.{id_of}
use Rattle.desk_catalogue.proofs.Places.{IsNotBelow, at_front, below_later, below_same, right_least}

-- the fault of a part whose places begin with c is the least of these; if there is none, so what
-- was read is shown
abbrev pub IsPart : {S : Type 0} → ℕ → List (List ℕ) → (S → Type 0) → Read S → Type 0
IsPart c places shows (Ok t) = (places ≡ []) × shows t
IsPart c places shows (Err f) =
    (rest : List ℕ) × (place_of f ≡ c ∷ rest) × IsLeastOf places (place_of f)

abbrev of_entries_from : List (List ℕ) → ℕ → Items → List (List ℕ)
of_entries_from before i ds = all_in part.Forms kind_fault id_of is_among before i ds

-- ---- the places of entries

again_at : (P : List ℕ → Type 0) (before : List (List ℕ)) (i : ℕ) (t : List ℕ)
    → P (place part.Forms i 7) → All P (at part.Forms i (repeated is_among before (Some t)))
again_at P before i t is = by_test (is_among before t)
  where
    by_test : (b : Bool) → All P (at part.Forms i (cond b (Some 7) None))
    by_test true = All-cons P (place part.Forms i 7) [] is (All-nil P)
    by_test false = All-nil P

one_entry : (P : List ℕ → Type 0) (before : List (List ℕ)) (i : ℕ) (o : Option (List ℕ))
    (rest : List (List ℕ)) → P (place part.Forms i 3) → P (place part.Forms i 7) → All P rest
    → All P (at part.Forms i (option_map_or sound o (Some 3))
    ++ (at part.Forms i (repeated is_among before o) ++ rest))
one_entry P before i None rest kind twice more =
    All-cons P (place part.Forms i 3) rest kind more
one_entry P before i (Some t) rest kind twice more =
    All-append P (at part.Forms i (repeated is_among before (Some t))) rest
    (again_at P before i t twice) more

all_forms : (P : List ℕ → Type 0) (before : List (List ℕ)) (i : ℕ) (ds : Items)
    → ((j : ℕ) → i ≤ j → P (place part.Forms j 3)) → ((j : ℕ) → i ≤ j → P (place part.Forms j 7))
    → All P (of_entries_from before i ds)
all_forms P before i no_items kind twice = All-nil P
all_forms P before i (item d ds) kind twice =
    one_entry P before i (id_of d) (of_entries_from (before ++ option_to_list (id_of d)) (i + 1) ds)
    (kind i (omega arith)) (twice i (omega arith))
    (all_forms P (before ++ option_to_list (id_of d)) (i + 1) ds
    (λ j le. kind j (omega (arith, le))) (λ j le. twice j (omega (arith, le))))

-- each entry may be a form
abbrev AreIds : Items → Type 0
AreIds no_items = Unit {0}
AreIds (item d ds) = ((t : List ℕ) × (id_of d ≡ Some t)) × AreIds ds

abbrev entry_and : List (List ℕ) → ℕ → Items → Option (List ℕ) → List (List ℕ)
entry_and before i ds o = at part.Forms i (option_map_or sound o (Some 3))
    ++ (at part.Forms i (repeated is_among before o)
    ++ of_entries_from (before ++ option_to_list o) (i + 1) ds)

all_twice : (P : List ℕ → Type 0) (before : List (List ℕ)) (i : ℕ) (ds : Items) → AreIds ds
    → ((j : ℕ) → i ≤ j → P (place part.Forms j 7)) → All P (of_entries_from before i ds)
all_twice P before i no_items ids twice = All-nil P
all_twice P before i (item d ds) ((t, is), ids) twice =
    subst (λ o. All P (entry_and before i ds o)) (sym is)
    (All-append P (at part.Forms i (repeated is_among before (Some t)))
    (of_entries_from (before ++ (t ∷ [])) (i + 1) ds)
    (again_at P before i t (twice i (omega arith)))
    (all_twice P (before ++ (t ∷ [])) (i + 1) ds ids (λ j le. twice j (omega (arith, le)))))

-- ---- their kinds

abbrev IsOfKind : List (List ℕ) → List (List ℕ) → Type 0 → ℕ → List (List ℕ)
    → Read (List (List ℕ)) → Type 0
IsOfKind before names ids i places (Ok forms) = (forms ≡ before ++ names) × ids
IsOfKind before names ids i places (Err f) = (j : ℕ) × (i ≤ j)
    × (place_of f ≡ place part.Forms j 3) × IsLeastOf places (place_of f)

kind_here : (seen before : List (List ℕ)) (i : ℕ) (o : Option (List ℕ)) (ds : Items)
    → ((next : List (List ℕ)) → IsOfKind next (named_in id_of ds) (AreIds ds) (i + 1)
    (of_entries_from (seen ++ option_to_list o) (i + 1) ds) (each with_form next (i + 1) ds))
    → IsOfKind before (option_to_list o ++ named_in id_of ds)
    (((t : List ℕ) × (o ≡ Some t)) × AreIds ds) i (entry_and seen i ds o)
    (then_read (then_read (ok_or o (BadKind part.Forms i)) (λ form. Ok (before ++ (form ∷ []))))
    (λ next. each with_form next (i + 1) ds))
kind_here seen before i None ds more =
    let first = place part.Forms i 3 in (
      i,
      omega arith,
      refl,
      at_front first (of_entries_from (seen ++ []) (i + 1) ds)
          (all_forms (IsNotBelow first) (seen ++ []) (i + 1) ds
          (λ j le. below_same 2 3 j i (omega (arith, le))) (λ j le. below_later 2 3 7 j i (omega arith)))
          (below_same 2 3 i i (omega arith)),
    )
kind_here seen before i (Some t) ds more =
    later (each with_form (before ++ (t ∷ [])) (i + 1) ds) (more (before ++ (t ∷ [])))
  where
    later : (r : Read (List (List ℕ)))
        → IsOfKind (before ++ (t ∷ [])) (named_in id_of ds) (AreIds ds) (i + 1)
        (of_entries_from (seen ++ (t ∷ [])) (i + 1) ds) r
        → IsOfKind before (t ∷ named_in id_of ds) (((u : List ℕ) × (Some t ≡ Some u)) × AreIds ds)
        i (at part.Forms i (repeated is_among seen (Some t))
        ++ of_entries_from (seen ++ (t ∷ [])) (i + 1) ds) r
    later (Ok forms) (are, ids) = (
      are ∙ append_assoc before (t ∷ []) (named_in id_of ds),
      ((t, refl), ids),
    )
    later (Err f) (j, le, is, least) = (
      j,
      omega (arith, le),
      is,
      right_least (at part.Forms i (repeated is_among seen (Some t)))
          (of_entries_from (seen ++ (t ∷ [])) (i + 1) ds) (place_of f) least
          (again_at (IsNotBelow (place_of f)) seen i t
          (subst (λ first. IsNotBelow first (place part.Forms i 7)) (sym is)
          (below_later 2 3 7 i j (omega arith)))),
    )

kinds : (seen before : List (List ℕ)) (i : ℕ) (ds : Items)
    → IsOfKind before (named_in id_of ds) (AreIds ds) i (of_entries_from seen i ds)
    (each with_form before i ds)
kinds seen before i no_items = (sym (append-nil before), tt)
kinds seen before i (item d ds) = kind_here seen before i (id_of d) ds
    (λ next. kinds (seen ++ option_to_list (id_of d)) next (i + 1) ds)

-- ---- whether one occurs twice

abbrev IsOnce : List (List ℕ) → List (List ℕ) → ℕ → List (List ℕ) → Read (List (List ℕ)) → Type 0
IsOnce before names i places (Ok found) = (places ≡ []) × (found ≡ before ++ names)
IsOnce before names i places (Err f) = (j : ℕ) × (i ≤ j)
    × (place_of f ≡ place part.Forms j 7) × IsLeastOf places (place_of f)

once_here : (before : List (List ℕ)) (i : ℕ) (t : List ℕ) (ds : Items) → AreIds ds → (b : Bool)
    → IsOnce (before ++ (t ∷ [])) (named_in id_of ds) (i + 1)
    (of_entries_from (before ++ (t ∷ [])) (i + 1) ds)
    (forms_once (before ++ (t ∷ [])) (i + 1) (named_in id_of ds))
    → IsOnce before (t ∷ named_in id_of ds) i
    (at part.Forms i (cond b (Some 7) None) ++ of_entries_from (before ++ (t ∷ [])) (i + 1) ds)
    (cond b (Err (Twice part.Forms i))
    (forms_once (before ++ (t ∷ [])) (i + 1) (named_in id_of ds)))
once_here before i t ds ids true more =
    let first = place part.Forms i 7 in (
      i,
      omega arith,
      refl,
      at_front first (of_entries_from (before ++ (t ∷ [])) (i + 1) ds)
          (all_twice (IsNotBelow first) (before ++ (t ∷ [])) (i + 1) ds ids
          (λ j le. below_same 2 7 j i (omega (arith, le)))) (below_same 2 7 i i (omega arith)),
    )
once_here before i t ds ids false more =
    later (forms_once (before ++ (t ∷ [])) (i + 1) (named_in id_of ds)) more
  where
    later : (r : Read (List (List ℕ)))
        → IsOnce (before ++ (t ∷ [])) (named_in id_of ds) (i + 1)
        (of_entries_from (before ++ (t ∷ [])) (i + 1) ds) r
        → IsOnce before (t ∷ named_in id_of ds) i
        (of_entries_from (before ++ (t ∷ [])) (i + 1) ds) r
    later (Ok found) (none, are) = (none, are ∙ append_assoc before (t ∷ []) (named_in id_of ds))
    later (Err f) (j, le, is, least) = (j, omega (arith, le), is, least)

once : (before : List (List ℕ)) (i : ℕ) (ds : Items) → AreIds ds
    → IsOnce before (named_in id_of ds) i (of_entries_from before i ds)
    (forms_once before i (named_in id_of ds))
once before i no_items ids = (refl, sym (append-nil before))
once before i (item d ds) ((t, is), ids) =
    subst (λ o. IsOnce before (option_to_list o ++ named_in id_of ds) i (entry_and before i ds o)
    (forms_once before i (option_to_list o ++ named_in id_of ds))) (sym is)
    (once_here before i t ds ids (is_among before t) (once (before ++ (t ∷ [])) (i + 1) ds ids))

-- ---- the forms

alone : (first : List ℕ) → IsNotBelow first first → IsLeastOf (first ∷ []) first
alone first itself = at_front first [] (All-nil (IsNotBelow first)) itself

abbrev IsForms : List (List ℕ) → List (List ℕ) → Read (List (List ℕ)) → Type 0
IsForms places names read = IsPart 2 places (λ forms. forms ≡ names) read

entries_read : (ds : Items) (r : Read (List (List ℕ)))
    → IsOfKind [] (named_in id_of ds) (AreIds ds) 0 (of_entries_from [] 0 ds) r
    → IsForms (of_entries_from [] 0 ds) (named_in id_of ds) (then_read r (forms_once [] 0))
entries_read ds (Err f) (j, le, is, least) = (3 ∷ j ∷ [], is, least)
entries_read ds (Ok forms) (are, ids) =
    subst (λ fs. IsForms (of_entries_from [] 0 ds) (named_in id_of ds) (forms_once [] 0 fs))
    (sym are) (found (forms_once [] 0 (named_in id_of ds)) (once [] 0 ds ids))
  where
    found : (q : Read (List (List ℕ)))
        → IsOnce [] (named_in id_of ds) 0 (of_entries_from [] 0 ds) q
        → IsForms (of_entries_from [] 0 ds) (named_in id_of ds) q
    found (Ok fs) is = is
    found (Err f) (j, le, is, least) = (7 ∷ j ∷ [], is, least)

counted : (b : Bool) (ds : Items)
    → IsForms (cond b [] (place part.Forms 0 3 ∷ []) ++ of_entries_from [] 0 ds)
    (named_in id_of ds)
    (then_read (cond b (each with_form [] 0 ds) (Err (BadKind part.Forms 0))) (forms_once [] 0))
counted true ds = entries_read ds (each with_form [] 0 ds) (kinds [] [] 0 ds)
counted false ds =
    let first = place part.Forms 0 3 in (
      3 ∷ 0 ∷ [],
      refl,
      at_front first (of_entries_from [] 0 ds)
          (all_forms (IsNotBelow first) [] 0 ds (λ j le. below_same 2 3 j 0 le)
          (λ j le. below_later 2 3 7 j 0 (omega arith))) (below_same 2 3 0 0 (omega arith)),
    )

listed_read : (o : Option Items)
    → IsForms (option_map_or of_entries o (place part.Forms 0 3 ∷ []))
    (option_map_or (named_in id_of) o []) (then_read (forms_listed o) (forms_once [] 0))
listed_read None = (
  3 ∷ 0 ∷ [],
  refl,
  alone (place part.Forms 0 3) (below_same 2 3 0 0 (omega arith)),
)
listed_read (Some ds) = counted (is_form_count (count ds)) ds

pub forms_read : (o : Option Data) → IsForms (forms_faults o) (named_by id_of o) (forms_of o)
forms_read None = (
  2 ∷ 0 ∷ [],
  refl,
  alone (place part.Forms 0 2) (below_same 2 2 0 0 (omega arith)),
)
forms_read (Some d) = listed_read (as_array d)
