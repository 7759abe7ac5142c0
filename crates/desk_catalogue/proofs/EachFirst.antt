-- The fault of a part's entries or tables is the first of all that they have.
use Rattle.std.proofs.Common.{◌≡◌, ℕ, ◌+◌, ◌<◌, ◌≤◌, Bool, true, false, cond, List, []}
use Rattle.std.proofs.Common.{◌∷◌, ◌++◌, Option, Some, None, Ok, Err, refl, sym, subst, arith}
use Rattle.std.proofs.Common.{append_assoc, append-nil}
use Rattle.std.specs.Prelude.{All}
use Rattle.std.specs.Option.{option_map, option_to_list}
use Rattle.std.specs.Result.{result_err}
use Rattle.std.proofs.lemmas.List.Elements.{All-nil, All-cons}
use Rattle.toml.specs.Data.{Data, Items, no_items, item}
use Rattle.desk_base.specs.Results.{then_read}
use Rattle.desk_model.specs.FaultNumbers.{catalogue_fault_number}
use Rattle.desk_model.specs.Texts.{text_below}
use Rattle.desk_model.specs.declared.refusal.CatalogueFault.TheVariants.{Twice}
use Rattle.desk_model.specs.declared.refusal.CataloguePart.{CataloguePart}
use Rattle.desk_model.specs.declared.refusal.CataloguePart.TheVariants as part
use Rattle.desk_catalogue.specs.AllFaults.{IsLeastOf, all_in, at, named_in, place, place_of, repeated}
use Rattle.desk_catalogue.specs.Reading.{Read, each}
use Rattle.desk_catalogue.proofs.Places.{IsNotBelow, all_places, at_front, left_least}
use Rattle.desk_catalogue.proofs.Places.{below_later, below_same}

-- places of a part are ordered by the index, and then by the number
pub record IsByIndex (p : CataloguePart) : Type 0 where
  pub later : (i j m n : ℕ) → i < j → text_below (place p j m) (place p i n) ≡ false
  pub same : (i m n : ℕ) → n ≤ m → text_below (place p i m) (place p i n) ≡ false

pub duty_by_index : IsByIndex part.Duty
duty_by_index = record { later = below_later 3; same = below_same 3 }

pub rule_by_index : IsByIndex part.Rule
rule_by_index = record { later = below_later 4; same = below_same 4 }

pub text_by_index : IsByIndex part.Text
text_by_index = record { later = below_later 5; same = below_same 5 }

-- what one entry does, by its own fault, whether it names something again, and what it names
abbrev pub IsStep : {K S : Type 0} → CataloguePart → (S → List K → Type 0) → Option ℕ → Option ℕ
    → List K → Option K → ℕ → Read S → Type 0
IsStep p Shows fault again before o i (Ok t) =
    (fault ≡ None) × (again ≡ None) × Shows t (before ++ option_to_list o)
IsStep p Shows fault again before o i (Err f) =
    (n : ℕ) × (place_of f ≡ place p i n) × IsLeastOf (at p i fault ++ at p i again) (place p i n)

-- what all entries do
abbrev pub IsFound : {K S : Type 0} → CataloguePart → (S → List K → Type 0) → List K → List K → ℕ
    → List (List ℕ) → Read S → Type 0
IsFound p Shows before names i places (Ok t) = (places ≡ []) × Shows t (before ++ names)
IsFound p Shows before names i places (Err f) =
    (j n : ℕ) × (i ≤ j) × (place_of f ≡ place p j n) × IsLeastOf places (place_of f)

module _ {K S : Type 0} (p : CataloguePart) (by : IsByIndex p) (own : Data → Option ℕ)
    (named : Data → Option K) (has : List K → K → Bool) (put : S → ℕ → Data → Read S)
    (Shows : S → List K → Type 0) where
  module _ (step : (s : S) (before : List K) (i : ℕ) (d : Data) → Shows s before
      → IsStep p Shows (own d) (repeated has before (named d)) before (named d) i (put s i d)) where
    go : (before : List K) (i : ℕ) (fault again : Option ℕ) (o : Option K) (ds : Items)
        (r : Read S) → IsStep p Shows fault again before o i r
        → ((t : S) → Shows t (before ++ option_to_list o)
        → IsFound p Shows (before ++ option_to_list o) (named_in named ds) (i + 1)
        (all_in p own named has (before ++ option_to_list o) (i + 1) ds) (each put t (i + 1) ds))
        → IsFound p Shows before (option_to_list o ++ named_in named ds) i
        (at p i fault ++ (at p i again
        ++ all_in p own named has (before ++ option_to_list o) (i + 1) ds))
        (then_read r (λ next. each put next (i + 1) ds))
    go before i fault again o ds (Err f) (n, is, least) more =
        let rest = all_in p own named has (before ++ option_to_list o) (i + 1) ds in
        let here : IsLeastOf ((at p i fault ++ at p i again) ++ rest) (place p i n) =
        left_least (at p i fault ++ at p i again) rest (place p i n) least
        (all_places p own named has (IsNotBelow (place p i n)) (before ++ option_to_list o) (i + 1)
        ds (λ j m le. by.later i j m n (omega (arith, le)))) in (
          i,
          n,
          omega arith,
          is,
          subst (λ (places : List (List ℕ)). IsLeastOf places (place_of f))
              (append_assoc (at p i fault) (at p i again) rest)
              (subst (IsLeastOf ((at p i fault ++ at p i again) ++ rest)) (sym is) here),
        )
    go before i fault again o ds (Ok t) (none, once, shows) more =
        subst (λ (fa : Option ℕ × Option ℕ). IsFound p Shows before (option_to_list o ++ named_in named ds) i
        (at p i fa.0 ++ (at p i fa.1
        ++ all_in p own named has (before ++ option_to_list o) (i + 1) ds))
        (each put t (i + 1) ds)) (λ k. (sym none k, sym once k))
        (later (each put t (i + 1) ds) (more t shows))
      where
        later : (r : Read S)
            → IsFound p Shows (before ++ option_to_list o) (named_in named ds) (i + 1)
            (all_in p own named has (before ++ option_to_list o) (i + 1) ds) r
            → IsFound p Shows before (option_to_list o ++ named_in named ds) i
            (all_in p own named has (before ++ option_to_list o) (i + 1) ds) r
        later (Ok u) (empty, shown) = (
          empty,
          subst (Shows u) (append_assoc before (option_to_list o) (named_in named ds)) shown,
        )
        later (Err f) (j, n, le, is, least) = (j, n, omega (arith, le), is, least)

    pub each_first : (s : S) (before : List K) (i : ℕ) (ds : Items) → Shows s before
        → IsFound p Shows before (named_in named ds) i (all_in p own named has before i ds)
        (each put s i ds)
    each_first s before i no_items shows =
        (refl, subst (Shows s) (sym (append-nil before)) shows)
    each_first s before i (item d ds) shows =
        go before i (own d) (repeated has before (named d)) (named d) ds (put s i d)
        (step s before i d shows)
        (λ t more. each_first t (before ++ option_to_list (named d)) (i + 1) ds more)

-- ---- one entry, whose reading says what is wrong with it and what it names

abbrev pub IsRightly : {A K : Type 0} → CataloguePart → (A → K) → ℕ → Read A → Option K → Type 0
IsRightly p key i (Ok x) o = o ≡ Some (key x)
IsRightly p key i (Err f) o = (place_of f ≡ place p i (catalogue_fault_number f))
    × (catalogue_fault_number f ≤ 7)

module _ {A K S : Type 0} (p : CataloguePart) (by : IsByIndex p) (key : A → K)
    (has : List K → K → Bool) (there : S → A → Bool) (add : A → S → S)
    (Shows : S → List K → Type 0)
    (same : (s : S) (before : List K) (x : A) → Shows s before → there s x ≡ has before (key x))
    (grow : (s : S) (before : List K) (x : A) → Shows s before
    → Shows (add x s) (before ++ (key x ∷ []))) where
  -- added, unless it is there
  abbrev with_it : S → ℕ → A → Read S
  with_it s i x = cond (there s x) (Err (Twice p i)) (Ok (add x s))

  again_at : (before : List K) (i n : ℕ) (o : Option K) → n ≤ 7
      → All (IsNotBelow (place p i n)) (at p i (repeated has before o))
  again_at before i n None le = All-nil (IsNotBelow (place p i n))
  again_at before i n (Some k) le = by_test (has before k)
    where
      by_test : (b : Bool) → All (IsNotBelow (place p i n)) (at p i (cond b (Some 7) None))
      by_test true = All-cons (IsNotBelow (place p i n)) (place p i 7) [] (by.same i 7 n le)
          (All-nil (IsNotBelow (place p i n)))
      by_test false = All-nil (IsNotBelow (place p i n))

  added : (s : S) (before : List K) (i : ℕ) (x : A) → Shows s before → (b : Bool)
      → IsStep p Shows None (cond b (Some 7) None) before (Some (key x)) i
      (cond b (Err (Twice p i)) (Ok (add x s)))
  added s before i x shows true = (
    7,
    refl,
    at_front (place p i 7) [] (All-nil (IsNotBelow (place p i 7))) (by.same i 7 7 (omega arith)),
  )
  added s before i x shows false = (refl, refl, grow s before x shows)

  pub step_of : (s : S) (before : List K) (i : ℕ) (r : Read A) (fault : Option ℕ) (o : Option K)
      → Shows s before → option_map catalogue_fault_number (result_err r) ≡ fault
      → IsRightly p key i r o
      → IsStep p Shows fault (repeated has before o) before o i (then_read r (with_it s i))
  step_of s before i (Err f) fault o shows is (placed, le) =
      let n = catalogue_fault_number f in (
        n,
        placed,
        subst (λ (q : Option ℕ). IsLeastOf (at p i q ++ at p i (repeated has before o)) (place p i n))
            is (at_front (place p i n) (at p i (repeated has before o)) (again_at before i n o le)
            (by.same i n n (omega arith))),
      )
  step_of s before i (Ok x) fault o shows is named =
      let done : Read S = with_it s i x in
      subst (λ (q : Option ℕ). IsStep p Shows q (repeated has before o) before o i done) is
      (subst (λ (q : Option K). IsStep p Shows None (repeated has before q) before q i done)
      (sym named) (subst (λ (b : Bool). IsStep p Shows None (cond b (Some 7) None) before
      (Some (key x)) i done) (same s before x shows) (added s before i x shows (there s x))))
