-- A walk from some places along arrows.
use Rattle.std.proofs.Common.{◌≡◌, ◌∙◌, ◌⊎◌, ⊎_elim, eq-eqb, ℕ, ◌+◌, ◌<◌, ◌≤◌, Bool, true}
use Rattle.std.proofs.Common.{false, cond, List, [], ◌∷◌, ◌++◌, length, drop, get_or, ap, sym, refl}
use Rattle.std.proofs.Common.{subst, arith, append_assoc, append-nil}
use Rattle.std.specs.Prelude.{◌||◌, ◌==◌, map, Contains, All}
use Rattle.std.specs.List.Sorted.{IsPermutation}
use Rattle.std.proofs.lemmas.List.Sorted.{IsPermutation-sym, Contains-permutation}
use Rattle.std.proofs.lemmas.List.{drop_more, drop_all, drop-append-le, get_or-map, length-map}
use Rattle.std.proofs.lemmas.List.Elements.{Contains-append_right, Contains-get_or, All-contains}
use Rattle.std.proofs.lemmas.Bool.{or_cases, or_left, or_right}
use Rattle.std.proofs.lemmas.List.Folds.{list_any-append, list_any_at}
use Rattle.std.proofs.Math.Bool.{or-false}
use Rattle.desk_base.proofs.Numbers.{numbers_equal}
use Rattle.desk_base.proofs.SortedOnce.{is_head}
use Rattle.desk_bom.specs.declared.arrows.Arrow.{Arrow}
use Rattle.desk_bom.specs.Marks.{among, added, added_all, IsClosedFrom, IsLeastFrom}
use Rattle.desk_bom.specs.Targets.{AreTargets}

-- from this many of the reached places the walk went on: what their arrows lead to was reached, and
-- what was reached is in each closed set
pub record Walks (start : ℕ → Bool) (arrows : List Arrow) (order : List ℕ) (done : ℕ) : Type 0 where
  pub starts : (a : ℕ) → start a ≡ true → among order a ≡ true
  pub within : (x : Arrow) → Contains arrows x → among order x.from ≡ true
      → (among order x.to || among (drop done order) x.from) ≡ true
  pub least : (other : ℕ → Bool) → IsClosedFrom start arrows other → (a : ℕ) → among order a ≡ true
      → other a ≡ true

or_assoc : (a b c : Bool) → ((a || b) || c) ≡ (a || (b || c))
or_assoc true b c = refl
or_assoc false b c = refl

pub among-added : (a b : ℕ) (places : List ℕ)
    → among (added a places) b ≡ (among places b || a == b)
among-added a b places = at (among places a) refl
  where
    there : (e : Bool) → (a == b) ≡ e → among places a ≡ true
        → among places b ≡ (among places b || e)
    there true is h = let s : a ≡ b = numbers_equal a b is in
        let t : among places b ≡ true = subst (λ q. among places q ≡ true) s h in t
        ∙ sym (or_right (among places b) true refl)
    there false is h = sym (or-false (among places b))

    at : (v : Bool) → among places a ≡ v
        → among (cond v places (places ++ a ∷ [])) b ≡ (among places b || a == b)
    at true h = there (a == b) refl h
    at false h = list_any-append (λ c. c == b) places (a ∷ [])
        ∙ ap (λ v. among places b || v) (or-false (a == b))

pub among-added_all : (more places : List ℕ) (b : ℕ)
    → among (added_all more places) b ≡ (among places b || among more b)
among-added_all [] places b = sym (or-false (among places b))
among-added_all (a ∷ more) places b =
    among-added_all more (added a places) b ∙ ap (λ v. v || among more b) (among-added a b places)
    ∙ or_assoc (among places b) (a == b) (among more b)

added_grows : (a : ℕ) (places : List ℕ) → (fresh : List ℕ) × (added a places ≡ places ++ fresh)
added_grows a places = at (among places a)
  where
    at : (v : Bool) → (fresh : List ℕ) × (cond v places (places ++ a ∷ []) ≡ places ++ fresh)
    at true = ([], sym (append-nil places))
    at false = (a ∷ [], refl)

-- what was there stays in front
pub added_all_grows : (more places : List ℕ)
    → (fresh : List ℕ) × (added_all more places ≡ places ++ fresh)
added_all_grows [] places = ([], sym (append-nil places))
added_all_grows (a ∷ more) places =
    let one = added_grows a places in
    let rest = added_all_grows more (added a places) in
    (one.0 ++ rest.0, rest.1 ∙ ap (λ l. l ++ rest.0) one.1 ∙ append_assoc places one.0 rest.0)

contains_tail : {X : Type 0} (x y : X) (xs : List X) → Contains xs x → Contains (y ∷ xs) x
contains_tail x y xs h = Contains-append_right (y ∷ []) xs x h

-- an arrow that leads to a place
among_to : (ts : List Arrow) (a : ℕ) → among (map (λ x. x.to) ts) a ≡ true
    → (x : Arrow) × Contains ts x × (x.to ≡ a)
among_to [] a h = absurd cc
among_to (t ∷ ts) a h =
    ⊎_elim (λ e. (t, is_head t ts, numbers_equal t.to a e))
    (λ e. let r = among_to ts a e in (r.0, contains_tail r.0 t ts r.1, r.2))
    (or_cases (t.to == a) (among (map (λ x. x.to) ts) a) h)

to_among : (ts : List Arrow) (x : Arrow) → Contains ts x → among (map (λ y. y.to) ts) x.to ≡ true
to_among ts x h =
    let long : length (map (λ (y : Arrow). y.to) ts) ≡ length ts =
    length-map ts (λ (y : Arrow). y.to) in
    let inside : h.0 < length (map (λ (y : Arrow). y.to) ts) = let lt = h.1 in omega arith in
    let at : get_or (map (λ (y : Arrow). y.to) ts) h.0 0 ≡ x.to =
    get_or-map (λ (y : Arrow). y.to) ts h.0 x 0 h.1 ∙ ap (λ (y : Arrow). y.to) h.2 in
    let met : (get_or (map (λ (y : Arrow). y.to) ts) h.0 0 == x.to) ≡ true = eq-eqb _ _ at in
    list_any_at (λ b. b == x.to) (map (λ (y : Arrow). y.to) ts) h.0 0 inside met

at_place : (order : List ℕ) (done place : ℕ) → done < length order → place ≡ get_or order done place
    → among order place ≡ true
at_place order done place inside is = list_any_at (λ b. b == place) order done place inside
    (eq-eqb _ _ (sym is))

module _ (start : ℕ → Bool) (arrows : List Arrow) (order : List ℕ) (done place : ℕ)
    (ts : List Arrow) (w : Walks start arrows order done) (inside : done < length order)
    (is : place ≡ get_or order done place) (targets : AreTargets arrows place ts) where
  reached : List ℕ
  reached = added_all (map (λ x. x.to) ts) order

  old_stays : (a : ℕ) → among order a ≡ true → among reached a ≡ true
  unfolding reached
  old_stays a h = among-added_all (map (λ x. x.to) ts) order a
      ∙ or_left (among order a) (among (map (λ x. x.to) ts) a) h

  target_comes : (x : Arrow) → Contains ts x → among reached x.to ≡ true
  unfolding reached
  target_comes x h = among-added_all (map (λ x. x.to) ts) order x.to
      ∙ or_right (among order x.to) (among (map (λ x. x.to) ts) x.to) (to_among ts x h)

  -- what was reached now is still to be walked from
  new_waits : (a : ℕ) → among order a ≡ false → among reached a ≡ true
      → among (drop (done + 1) reached) a ≡ true
  unfolding reached
  new_waits a not h =
      let g = added_all_grows (map (λ x. x.to) ts) order in
      let both : (among order a || among g.0 a) ≡ true =
      sym (list_any-append (λ b. b == a) order g.0) ∙ ap (λ l. among l a) (sym g.1) ∙ h in
      let in_fresh : among g.0 a ≡ true = ap (λ v. v || among g.0 a) (sym not) ∙ both in
      ap (λ l. among (drop (done + 1) l) a) g.1
      ∙ ap (λ l. among l a) (drop-append-le (done + 1) order g.0 (omega arith))
      ∙ list_any-append (λ b. b == a) (drop (done + 1) order) g.0
      ∙ or_right (among (drop (done + 1) order) a) (among g.0 a) in_fresh

  old_waits : (a : ℕ) → among (drop (done + 1) order) a ≡ true
      → among (drop (done + 1) reached) a ≡ true
  unfolding reached
  old_waits a h =
      let g = added_all_grows (map (λ x. x.to) ts) order in
      ap (λ l. among (drop (done + 1) l) a) g.1
      ∙ ap (λ l. among l a) (drop-append-le (done + 1) order g.0 (omega arith))
      ∙ list_any-append (λ b. b == a) (drop (done + 1) order) g.0
      ∙ or_left (among (drop (done + 1) order) a) (among g.0 a) h

  from_waiting : (x : Arrow) → Contains arrows x → among (drop done order) x.from ≡ true
      → (among reached x.to || among (drop (done + 1) reached) x.from) ≡ true
  from_waiting x there h =
      let split : (place == x.from || among (drop (done + 1) order) x.from) ≡ true =
      ap (λ b. b == x.from || among (drop (done + 1) order) x.from) is
      ∙ ap (λ l. among l x.from) (sym (drop_more order done place inside)) ∙ h in
      ⊎_elim (λ e. or_left _ _ (target_comes x
      (targets.all x there (sym (numbers_equal place x.from e)))))
      (λ e. or_right (among reached x.to) _ (old_waits x.from e)) (or_cases _ _ split)

  walks_within : (x : Arrow) → Contains arrows x → among reached x.from ≡ true
      → (among reached x.to || among (drop (done + 1) reached) x.from) ≡ true
  walks_within x there h = at (among order x.from) refl
    where
      at : (v : Bool) → among order x.from ≡ v
          → (among reached x.to || among (drop (done + 1) reached) x.from) ≡ true
      at true e = ⊎_elim (λ t. or_left _ _ (old_stays x.to t)) (λ t. from_waiting x there t)
          (or_cases _ _ (w.within x there e))
      at false e = or_right (among reached x.to) _ (new_waits x.from e h)

  walks_least : (other : ℕ → Bool) → IsClosedFrom start arrows other → (a : ℕ)
      → among reached a ≡ true → other a ≡ true
  unfolding reached
  walks_least other closed a h =
      ⊎_elim (λ e. w.least other closed a e)
      (λ e. let t = among_to ts a e in
      let it = targets.only t.0 t.1 in
      subst (λ b. other b ≡ true) t.2
      (closed.arrows_within t.0 it.0
      (subst (λ b. other b ≡ true) (sym it.1)
      (w.least other closed place (at_place order done place inside is)))))
      (or_cases (among order a) (among (map (λ x. x.to) ts) a)
      (sym (among-added_all (map (λ x. x.to) ts) order a) ∙ h))

  -- one more place was walked from
  pub walks_more : Walks start arrows (added_all (map (λ x. x.to) ts) order) (done + 1)
  unfolding reached
  walks_more = record {
    starts = λ a h. old_stays a (w.starts a h);
    within = walks_within;
    least = walks_least;
  }

-- nothing was left to walk from
pub walks_skip : (start : ℕ → Bool) (arrows : List Arrow) (order : List ℕ) (done : ℕ)
    → length order ≤ done → Walks start arrows order done → Walks start arrows order (done + 1)
walks_skip start arrows order done past w = record {
  starts = w.starts;
  within = λ x there h. subst (λ l. (among order x.to || among l x.from) ≡ true)
      (drop_all done order past ∙ sym (drop_all (done + 1) order (omega arith)))
      (w.within x there h);
  least = w.least;
}

pub walks_none : (arrows : List Arrow) (order : List ℕ) → Walks (among order) arrows order 0
walks_none arrows order = record {
  starts = λ a h. h;
  within = λ x there h. or_right (among order x.to) _ h;
  least = λ other closed a h. closed.starts a h;
}

-- all was walked from
pub walks_all : (start : ℕ → Bool) (arrows : List Arrow) (order : List ℕ) (done : ℕ)
    → length order ≤ done → Walks start arrows order done → IsLeastFrom start arrows (among order)
walks_all start arrows order done past w = record {
  closed = record {
    starts = w.starts;
    arrows_within = λ x there h. sym (or-false (among order x.to))
        ∙ subst (λ l. (among order x.to || among l x.from) ≡ true) (drop_all done order past)
        (w.within x there h);
  };
  least = w.least;
}

pub targets_within : (count : ℕ) (arrows ts : List Arrow) (place : ℕ) → AreTargets arrows place ts
    → All (λ x. x.to < count) arrows → All (λ x. x.to < count) ts
targets_within count arrows ts place targets all k d h = All-contains (λ x. x.to < count) arrows
    (get_or ts k d) all (targets.only (get_or ts k d) (Contains-get_or ts k d h)).0

-- the least set depends only on the starts and the arrows, and not on the arrows' order
pub least_same : (start begun : ℕ → Bool) (xs ys : List Arrow) (set : ℕ → Bool)
    → ((a : ℕ) → begun a ≡ start a) → IsPermutation xs ys → IsLeastFrom begun ys set
    → IsLeastFrom start xs set
least_same start begun xs ys set same moved l = record {
  closed = record {
    starts = λ a h. l.closed.starts a (same a ∙ h);
    arrows_within = λ x there h. l.closed.arrows_within x (Contains-permutation xs ys x moved there)
        h;
  };
  least = λ other closed a h. l.least other (record {
    starts = λ b e. closed.starts b (sym (same b) ∙ e);
    arrows_within = λ x there e. closed.arrows_within x
        (Contains-permutation ys xs x (IsPermutation-sym xs ys moved) there) e;
  }) a h;
}
