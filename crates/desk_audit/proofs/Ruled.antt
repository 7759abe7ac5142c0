-- Rules in the order of their spellings; the first of each is the first in the table.
use Rattle.std.proofs.Common.{◌≡◌, ℕ, Bool, true, false, cond, List, [], ◌∷◌, map, filter}
use Rattle.std.proofs.Common.{slice_get, Option, Some, None, refl, sym, ap, ◌∙◌, Ordering, Less}
use Rattle.std.proofs.Common.{Equal, Greater}
use Rattle.std.specs.Prelude.{ℤ, find, not, ◌&&◌, ◌||◌, IsPermutation}
use Rattle.std.specs.List.{list_any}
use Rattle.std.specs.List.Sorted.{IsStableBy, ties}
use Rattle.std.specs.Option.{option_map}
use Rattle.std.specs.Cmp.{IsTotalOrder}
use Rattle.std.specs.Ordering.{is_lt, is_eq, ordering_reverse}
use Rattle.std.proofs.lemmas.List.Elements.{filter_agree}
use Rattle.std.proofs.lemmas.List.Sorted.{list_any-IsPermutation}
use Rattle.desk_base.proofs.Orders.{equal_is, is_eq-reverse}
use Rattle.desk_base.proofs.Lists.{found_passes}
use Rattle.desk_model.specs.Keys.{below_by}
use Rattle.desk_snapshot.specs.Rows.{is_rule_spelled}
use Rattle.desk_snapshot.specs.declared.rows.StoredRule.{StoredRule}
use Rattle.desk_audit.specs.Spelled.{FindsAs, is_spelled, spelled_meets, spelled_order}
use Rattle.desk_audit.specs.Spelled.{spelled_total, spelling, spelling_cmp, spelling_total}
use Rattle.desk_audit.specs.declared.rules.RuleAt.{RuleAt}

first_kept : {A : Type 0} (p : A → Bool) (xs : List A) → find p xs ≡ slice_get (filter p xs) 0
first_kept p [] = refl
first_kept {A} p (x ∷ xs) = go (p x) refl (first_kept p xs)
  where
    go : (b : Bool) → p x ≡ b → find p xs ≡ slice_get (filter p xs) 0
        → find p (x ∷ xs) ≡ slice_get (filter p (x ∷ xs)) 0
    go true e more = rw e refl
    go false e more = rw e more

none_passes : {A : Type 0} (p : A → Bool) (xs : List A) → find p xs ≡ None → list_any p xs ≡ false
none_passes p [] e = refl
none_passes {A} p (y ∷ ys) e = go (p y) (λ f. none_passes p ys f) e
  where
    go : (b : Bool) → (find p ys ≡ None → list_any p ys ≡ false)
        → cond b (Some y) (find p ys) ≡ None
        → (b || list_any p ys) ≡ false
    go true more e = cc
    go false more e = more e

none_found : {A : Type 0} (p : A → Bool) (xs : List A) → list_any p xs ≡ false → find p xs ≡ None
none_found p [] e = refl
none_found {A} p (y ∷ ys) e = go (p y) (λ f. none_found p ys f) e
  where
    go : (b : Bool) → (list_any p ys ≡ false → find p ys ≡ None) → (b || list_any p ys) ≡ false
        → cond b (Some y) (find p ys) ≡ None
    go true more e = cc
    go false more e = more e

-- a stable sort keeps the first of those that tie
module _ {A : Type 0} (order : A → A → Ordering) (total : IsTotalOrder order) (at : A → Bool)
    (alike : (x y : A) → at x ≡ true → at y ≡ is_eq (order x y)) where
  tied : (o p : Ordering) → p ≡ ordering_reverse o → is_eq o ≡ (not (is_lt o) && not (is_lt p))
  tied Less p e = refl
  tied Equal p e = rw e refl
  tied Greater p e = rw e refl

  kept : (x : A) → at x ≡ true → (xs : List A) → filter at xs ≡ filter (ties (below_by order) x) xs
  kept x e xs = filter_agree at (ties (below_by order) x)
      (λ y. alike x y e ∙ tied (order x y) (order y x) (total.antisymm y x)) xs

  pub first_stays : (xs ys : List A) → IsPermutation xs ys → IsStableBy (below_by order) xs ys
      → find at ys ≡ find at xs
  first_stays xs ys same stable = go (find at xs) refl
    where
      go : (o : Option A) → find at xs ≡ o → find at ys ≡ o
      go None e = none_found at ys (sym (list_any-IsPermutation at xs ys same)
          ∙ none_passes at xs e)
      go (Some x) e =
          let here = found_passes at xs x e in
          first_kept at ys ∙ ap (λ l. slice_get l 0)
          (kept x here ys ∙ stable x ∙ sym (kept x here xs))
          ∙ sym (first_kept at xs) ∙ e

spelled_alike : (revision : ℤ) (form spelled : List ℕ) (x y : RuleAt)
    → is_spelled revision form spelled x ≡ true
    → is_spelled revision form spelled y ≡ is_eq (spelled_order x y)
spelled_alike revision form spelled x y e =
    let key : ℤ × List ℕ × List ℕ = (revision, form, spelled) in
    let here : spelling_cmp (spelling x) key ≡ Equal =
    equal_is (spelling_cmp (spelling x) key) (sym (spelled_meets revision form spelled x) ∙ e) in
    spelled_meets revision form spelled y
    ∙ (ap is_eq (spelling_total.antisymm (spelling y) key)
    ∙ is_eq-reverse (spelling_cmp key (spelling y)))
    ∙ sym (ap is_eq (spelling_total.congr (spelling x) key (spelling y) here))

abbrev ruled : RuleAt → StoredRule
ruled at = at.rule.now

find-rule : (p : StoredRule → Bool) (xs : List RuleAt)
    → option_map ruled (find (λ at. p (ruled at)) xs) ≡ find p (map ruled xs)
find-rule p [] = refl
find-rule p (x ∷ xs) = go (p (ruled x)) (find-rule p xs)
  where
    go : (b : Bool) → option_map ruled (find (λ at. p (ruled at)) xs) ≡ find p (map ruled xs)
        → option_map ruled (cond b (Some x) (find (λ at. p (ruled at)) xs))
        ≡ cond b (Some (ruled x)) (find p (map ruled xs))
    go true more = refl
    go false more = more

pub rules_found : (rules : List StoredRule) (xs ys : List RuleAt)
    → map (λ at. at.rule.now) xs ≡ rules → IsPermutation xs ys
    → IsStableBy (below_by spelled_order) xs ys → FindsAs ys rules
rules_found rules xs ys are same stable revision form spelled =
    let at = is_spelled revision form spelled in
    ap (option_map ruled) (first_stays spelled_order spelled_total at
    (spelled_alike revision form spelled) xs ys same stable)
    ∙ find-rule (is_rule_spelled revision form spelled) xs
    ∙ ap (find (is_rule_spelled revision form spelled)) are
