-- A list of values, each added to what those before it gave.
use Rattle.std.proofs.Common.{◌≡◌, ◌∙◌, ℕ, ◌+◌, ◌<◌, ◌≤◌, Bool, true, false, cond, List, [], ◌∷◌}
use Rattle.std.proofs.Common.{length, get_or, drop, sym, ap, refl, add-one}
use Rattle.std.specs.Prelude.{Ok, Err, not}
use Rattle.std.proofs.lemmas.List.{drop_more, drop_all}
use Rattle.toml.specs.Data.{Data}
use Rattle.toml.specs.View.{view, items_view}
use Rattle.toml.specs.declared.value.Value.{Value}
use Rattle.desk_model.specs.declared.refusal.CatalogueFault.{CatalogueFault}
use Rattle.desk_catalogue.specs.Reading.{Read, each, count}
use Rattle.desk_base.specs.Results.{then_read}

module _ {S : Type 0} (put : S → ℕ → Data → Read S) (state : S) (vs : List Value) (i : ℕ) where
  -- one more value
  pub each_go : (v : Value) (next : S) → i < length vs
      → put state i (view (get_or vs i v)) ≡ Ok next
      → each put next (i + 1) (items_view (drop (i + 1) vs))
      ≡ each put state i (items_view (drop i vs))
  each_go v next within is =
      sym (ap (λ l. each put state i (items_view l)) (drop_more vs i v within)
      ∙ ap (λ r. then_read r (λ s. each put s (i + 1) (items_view (drop (i + 1) vs)))) is)

  -- a fault
  pub each_fault : (v : Value) (fault : CatalogueFault) → i < length vs
      → put state i (view (get_or vs i v)) ≡ Err fault
      → Err fault ≡ each put state i (items_view (drop i vs))
  each_fault v fault within is =
      sym (ap (λ l. each put state i (items_view l)) (drop_more vs i v within)
      ∙ ap (λ r. then_read r (λ s. each put s (i + 1) (items_view (drop (i + 1) vs)))) is)

  -- the end
  pub each_end : length vs ≤ i → each put state i (items_view (drop i vs)) ≡ Ok state
  each_end past = ap (λ l. each put state i (items_view l)) (drop_all i vs past)

pub count-items_view : (vs : List Value) → count (items_view vs) ≡ length vs
count-items_view [] = refl
count-items_view (v ∷ vs) = ap (λ n. n + 1) (count-items_view vs) ∙ add-one (length vs)

-- a value that is refused if it was there before
module _ {A S : Type 0} (entry : ℕ → Data → Read A) (has : S → A → Bool)
    (twice : ℕ → CatalogueFault) (add : S → A → S) where
  abbrev one : S → ℕ → A → Read S
  one state index x = cond (has state x) (Err (twice index)) (Ok (add state x))

  abbrev step : S → ℕ → Data → Read S
  step state index d = then_read (entry index d) (one state index)

  -- a value that is added if nothing like it was there before
  pub taken_added : (state next : S) (n : ℕ) (v : Value) (rest all : List Value) (x : A)
      → all ≡ v ∷ rest → entry n (view v) ≡ Ok x → not (has state x) ≡ true → next ≡ add state x
      → each step next (n + 1) (items_view rest) ≡ each step state n (items_view all)
  taken_added state next n v rest all x is read new put =
      ap (λ s. each step s (n + 1) (items_view rest)) put
      ∙ sym (ap (λ vs. each step state n (items_view vs)) is
      ∙ ap (λ r. then_read (then_read r (one state n)) go) read
      ∙ ap (λ r. then_read r go) (fresh (has state x) new))
    where
      go : S → Read S
      go s = each step s (n + 1) (items_view rest)

      fresh : (b : Bool) → not b ≡ true
          → cond b (Err (twice n)) (Ok (add state x)) ≡ Ok (add state x)
      fresh true h = ap (λ b. cond b (Ok (add state x)) (Err (twice n))) h
      fresh false h = refl

  module _ (state : S) (vs : List Value) (i : ℕ) (v : Value) (x : A) (within : i < length vs)
      (is : entry i (view (get_or vs i v)) ≡ Ok x) where
    stepped : (b : Bool) → not (has state x) ≡ not b
        → step state i (view (get_or vs i v)) ≡ cond b (Err (twice i)) (Ok (add state x))
    stepped b there = ap (λ r. then_read r (one state i)) is
        ∙ ap (λ b. cond b (Err (twice i)) (Ok (add state x))) (same (has state x) b there)
      where
        same : (a b : Bool) → not a ≡ not b → a ≡ b
        same true true h = refl
        same true false h = sym h
        same false true h = sym h
        same false false h = refl

    pub step_twice : not (has state x) ≡ false
        → Err (twice i) ≡ each step state i (items_view (drop i vs))
    step_twice there = each_fault step state vs i v (twice i) within (stepped true there)

    pub step_added : not (has state x) ≡ true → (next : S) → next ≡ add state x
        → each step next (i + 1) (items_view (drop (i + 1) vs))
        ≡ each step state i (items_view (drop i vs))
    step_added new next put = ap (λ s. each step s (i + 1) (items_view (drop (i + 1) vs))) put
        ∙ each_go step state vs i v (add state x) within (stepped false new)

  pub step_fault : (state : S) (vs : List Value) (i : ℕ) (v : Value) (fault : CatalogueFault)
      → i < length vs → entry i (view (get_or vs i v)) ≡ Err fault
      → Err fault ≡ each step state i (items_view (drop i vs))
  step_fault state vs i v fault within is = each_fault step state vs i v fault within
      (ap (λ r. then_read r (one state i)) is)
