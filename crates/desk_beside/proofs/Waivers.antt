-- The last days of waivers, each at its change, come back in their order.
use Rattle.std.proofs.Common.{◌≡◌, inl, inr, Bool, true, false, List, [], ◌∷◌, Option, Some, None}
use Rattle.std.proofs.Common.{cond, refl, sym, ap, subst, ◌∙◌}
use Rattle.std.specs.Prelude.{find}
use Rattle.std.specs.List.{filter_map, cons_option}
use Rattle.desk_base.proofs.Bools.{contrary}
use Rattle.desk_model.specs.Lists.{IsIn}
use Rattle.desk_history.specs.Laws.{Rises}

-- Rows `C` and what some of them have, `W`, both by keys of one strict order: what is found for the
-- rows, one after another, is all of it.
module _ {C W K : Type 0} (of : C → K) (at : W → K) (lower : K → K → Bool)
    (chain : (a b c : K) → lower a b ≡ true → lower b c ≡ true → lower a c ≡ true)
    (never : (a : K) → lower a a ≡ true → ⊥) (test : K → W → Bool)
    (there : (k : K) (v : W) → at v ≡ k → test k v ≡ true)
    (only : (k : K) (v : W) → test k v ≡ true → at v ≡ k) where
  abbrev found : List W → C → Option W
  found vs c = find (test (of c)) vs

  apart : (a b : K) → lower a b ≡ true → a ≡ b → ⊥
  apart a b less same = never b (subst (λ (k : K). lower k b ≡ true) same less)

  abbrev AreKnown : List C → List W → Type 0
  AreKnown cs vs = (v : W) → IsIn v vs → (c : C) × IsIn c cs × (of c ≡ at v)

  none_found : (c : C) (vs : List W) → ((v : W) → IsIn v vs → lower (of c) (at v) ≡ true)
      → found vs c ≡ None
  none_found c [] above = refl
  none_found c (v ∷ vs) above = by (none_found c vs (λ u in_vs. above u (inr in_vs)))
      (test (of c) v) refl
    where
      by : found vs c ≡ None → (b : Bool) → test (of c) v ≡ b → cond b (Some v) (found vs c) ≡ None
      by more true is = absurd (apart (of c) (at v) (above v (inl refl)) (sym (only (of c) v is)))
      by more false is = more

  -- what comes before all of these rows is found for none of them
  past : (v : W) (vs : List W) (cs : List C) → ((c : C) → IsIn c cs → lower (at v) (of c) ≡ true)
      → filter_map (found (v ∷ vs)) cs ≡ filter_map (found vs) cs
  past v vs [] below = refl
  past v vs (c ∷ cs) below = by (past v vs cs (λ d in_cs. below d (inr in_cs)))
      (test (of c) v) refl
    where
      by : filter_map (found (v ∷ vs)) cs ≡ filter_map (found vs) cs → (b : Bool)
          → test (of c) v ≡ b
          → cons_option (cond b (Some v) (found vs c)) (filter_map (found (v ∷ vs)) cs)
          ≡ cons_option (found vs c) (filter_map (found vs) cs)
      by more true is = absurd (apart (at v) (of c) (below c (inl refl)) (only (of c) v is))
      by more false is = ap (cons_option (found vs c)) more

  -- they are of the later rows, if all are above the first
  later : (c : C) (cs : List C) (vs : List W)
      → ((v : W) → IsIn v vs → lower (of c) (at v) ≡ true) → AreKnown (c ∷ cs) vs → AreKnown cs vs
  later c cs vs above known v in_vs = by (known v in_vs)
    where
      by : (d : C) × IsIn d (c ∷ cs) × (of d ≡ at v) → (d : C) × IsIn d cs × (of d ≡ at v)
      by (d, inl same, is) = absurd (apart (of c) (at v) (above v in_vs) (ap of same ∙ is))
      by (d, inr more, is) = (d, more, is)

  pub all_found : (cs : List C) (vs : List W) → Rises (λ c d. lower (of c) (of d)) cs
      → Rises (λ u v. lower (at u) (at v)) vs → AreKnown cs vs → filter_map (found vs) cs ≡ vs
  all_found [] [] up rise known = refl
  all_found [] (v ∷ vs) up rise known = absurd ((known v (inl refl)).1)
  all_found (c ∷ cs) [] up rise known = all_found cs [] up.1 rise (λ v none. absurd none)
  all_found (c ∷ cs) (v ∷ vs) up rise known = by (all_found cs) (test (of c) v) refl
    where
      first_above : test (of c) v ≡ false → (d : C) × IsIn d (c ∷ cs) × (of d ≡ at v)
          → lower (of c) (at v) ≡ true
      first_above is (d, inl same, at_v) =
          absurd (contrary (test (of c) v) (there (of c) v (sym (ap of same ∙ at_v))) is)
      first_above is (d, inr more, at_v) =
          subst (λ (k : K). lower (of c) k ≡ true) at_v (up.0 d more)

      all_above : lower (of c) (at v) ≡ true → (u : W) → IsIn u (v ∷ vs)
          → lower (of c) (at u) ≡ true
      all_above first u (inl same) = subst (λ (w : W). lower (of c) (at w) ≡ true) same first
      all_above first u (inr more) = chain (of c) (at v) (at u) first (rise.0 u more)

      by : ((us : List W) → Rises (λ c d. lower (of c) (of d)) cs
          → Rises (λ u v. lower (at u) (at v)) us → AreKnown cs us → filter_map (found us) cs ≡ us)
          → (b : Bool) → test (of c) v ≡ b
          → cons_option (cond b (Some v) (found vs c)) (filter_map (found (v ∷ vs)) cs) ≡ v ∷ vs
      by more true is =
          let same : at v ≡ of c = only (of c) v is in
          let above = λ (u : W) (in_vs : IsIn u vs).
          subst (λ (k : K). lower k (at u) ≡ true) same (rise.0 u in_vs) in
          ap (λ us. v ∷ us)
          (past v vs cs (λ d in_cs. subst (λ (k : K). lower k (of d) ≡ true) (sym same)
          (up.0 d in_cs))
          ∙ more vs up.1 rise.1 (later c cs vs above (λ u in_vs. known u (inr in_vs))))
      by more false is =
          let above = all_above (first_above is (known v (inl refl))) in
          ap (λ o. cons_option o (filter_map (found (v ∷ vs)) cs))
          (none_found c vs (λ u in_vs. above u (inr in_vs)))
          ∙ more (v ∷ vs) up.1 rise (later c cs (v ∷ vs) above known)
