-- Rules in their order, and the one that is sought among them.
use Rattle.std.proofs.Common.{◌≡◌, ◌∙◌, ◌⊎◌, inl, inr, ℕ, zero, suc, ◌<◌, ◌≤◌, false, cond, List}
use Rattle.std.proofs.Common.{[], ◌∷◌, ◌++◌, length, get_or, map, Some, None, Ok, Err, sym, ap}
use Rattle.std.proofs.Common.{refl, append_assoc, arith, Ordering, Less, Equal, Greater, nat_cmp}
use Rattle.std.proofs.Common.{is_eq}
use Rattle.std.specs.Prelude.{◌&&◌, codes, find, if◌then◌else◌}
use denote.Param.Members.{Mut}
use denote.Ref.{Bor}
use Rattle.std.specs.Fn.{Called, ComputesKey}
use Rattle.std.specs.Cmp.Lexicographic.{slice_cmp}
use Rattle.std.specs.List.{AllByRecursion}
use Rattle.std.specs.List.Sorted.{IsStrictlySortedBy, IsNonDecreasingBy, IsBinarySearchResult}
use Rattle.std.specs.Ordering.{ordering_then, ordering_index}
use Rattle.std.proofs.lemmas.Fn.{always_returns_same}
use Rattle.std.proofs.lemmas.Cmp.{tied_itself, alike_right, nat_cmp_total}
use Rattle.std.proofs.lemmas.Map.Lookups.{exact_unsigned}
use Rattle.std.proofs.lemmas.Map.Text.{is_eq-slice_cmp}
use Rattle.std.proofs.lemmas.Map.Keys.{Less-from_sorted, sorted_tail}
use Rattle.std.proofs.lemmas.Bool.{cases_lt}
use Rattle.desk_base.proofs.Orders.{either_equal}
use Rattle.desk_expr.specs.declared.term.Term.{Term}
use Rattle.desk_expr.specs.Printing.{printed_term, printed_exception}
use Rattle.desk_model.specs.Keys.{is_rule, rule_order}
use Rattle.desk_model.specs.declared.reading.Rule.{Rule}
use Rattle.desk_catalogue.specs.Lookup.{sought}
use Rattle.desk_catalogue.specs.declared.order.Subject.{Subject}
use Rattle.desk_catalogue.specs.declared.order.Said.{Said}
use Rattle.desk_catalogue.specs.Shown.{rule_of_entry}
use Rattle.desk_catalogue.proofs.KeptLemmas.{subject_cmp}
use Rattle.desk_catalogue.proofs.OrderLaws.{rule_order_total}

-- ---- bytes compared with others, piece by piece

-- if they don't begin with a front, it alone decides
pub side_apart : (bytes front more : List ℕ) → ((rest : List ℕ) → bytes ≡ front ++ rest → ⊥)
    → slice_cmp nat_cmp bytes front ≡ slice_cmp nat_cmp bytes (front ++ more)
side_apart bytes [] more none = absurd (none bytes refl)
side_apart [] (c ∷ front) more none = refl
side_apart (b ∷ bytes) (c ∷ front) more none =
    let by : (o : Ordering) → nat_cmp b c ≡ o → ordering_then o (slice_cmp nat_cmp bytes
    front) ≡ ordering_then o (slice_cmp nat_cmp bytes (front ++ more)) = λ o. elim o as
    (λ o. nat_cmp b c ≡ o → ordering_then o (slice_cmp nat_cmp bytes front)
    ≡ ordering_then o (slice_cmp nat_cmp bytes (front ++ more))) [
      | Less ↦ λ is. refl
      | Equal ↦ λ is. let same : b ≡ c = exact_unsigned b c is in
          side_apart bytes front more (λ rest e. none rest (λ i. same i ∷ e i))
      | Greater ↦ λ is. refl
    ] in
    by (nat_cmp b c) refl

side_alike : (front rest more : List ℕ)
    → slice_cmp nat_cmp (front ++ rest) (front ++ more) ≡ slice_cmp nat_cmp rest more
side_alike [] rest more = refl
side_alike (c ∷ front) rest more = ap (λ o. ordering_then o
    (slice_cmp nat_cmp (front ++ rest) (front ++ more))) (tied_itself nat_cmp_total c)
    ∙ side_alike front rest more

-- if they do, what is left decides
pub side_behind : (bytes front rest more : List ℕ) → bytes ≡ front ++ rest
    → slice_cmp nat_cmp rest more ≡ slice_cmp nat_cmp bytes (front ++ more)
side_behind bytes front rest more is = sym (ap (λ l. slice_cmp nat_cmp l (front ++ more)) is
    ∙ side_alike front rest more)

-- a printed term is its key, followed by what is printed after it
pub printed : (t : Term) → t.key
    ++ ((if t.plus then codes "+" else []) ++ printed_exception t.exception) ≡ printed_term t
printed t = sym (append_assoc t.key (if t.plus then codes "+" else [])
    (printed_exception t.exception))

-- ---- the rules of a map

unlike_behind : (e : Subject × Said) (es : List (Subject × Said))
    → AllByRecursion (λ k. subject_cmp e.0 k ≡ Less) (map (λ (x : Subject × Said). x.0) es)
    → AllByRecursion (λ r. rule_order (rule_of_entry e) r ≡ Less) (map rule_of_entry es)
unlike_behind e [] h = tt
unlike_behind e (x ∷ es) h = (h.0, unlike_behind e es h.1)

-- are in the order of its keys
pub entries_in_order : (es : List (Subject × Said))
    → IsStrictlySortedBy subject_cmp (map (λ (x : Subject × Said). x.0) es)
    → IsStrictlySortedBy rule_order (map rule_of_entry es)
unfolding IsStrictlySortedBy
entries_in_order [] h = tt
entries_in_order (e ∷ es) h = (unlike_behind e es h.0, entries_in_order es h.1)

-- ---- a list of rules

same_or_less : (i j : ℕ) → i ≤ j → (i ≡ j) ⊎ (i < j)
same_or_less zero zero le = inl refl
same_or_less zero (suc j) le = inr (omega arith)
same_or_less (suc i) zero le = absurd (omega (arith, le))
same_or_less (suc i) (suc j) le = elim (same_or_less i j (omega (arith, le)))
    [ inl same ↦ inl (ap suc same) | inr less ↦ inr (omega (arith, less)) ]

module _ (term form : List ℕ) where
  abbrev side : Rule → Ordering
  side rule = rule_order rule (sought term form)

  meets : (rule : Rule) → is_rule term form rule ≡ is_eq (side rule)
  meets rule = sym (either_equal (slice_cmp nat_cmp rule.term term)
      (slice_cmp nat_cmp rule.form form)
      ∙ (λ i. is_eq-slice_cmp rule.term term i && is_eq-slice_cmp rule.form form i))

  at_most : (o : Ordering) → ordering_index o ≤ 2
  at_most Less = omega arith
  at_most Equal = omega arith
  at_most Greater = omega arith

  -- what comes before a rule is no further on
  no_further : (r s : Rule) → rule_order r s ≡ Less → (o : Ordering) → side s ≡ o
      → ordering_index (side r) ≤ ordering_index o
  no_further r s less Less is = let e =
      ap ordering_index (rule_order_total.trans r s (sought term form) less is) in omega (arith, e)
  no_further r s less Equal is = let e =
      ap ordering_index (sym (alike_right rule_order_total s (sought term form) r is) ∙ less) in
      omega (arith, e)
  no_further r s less Greater is = at_most (side r)

  rises : (rs : List Rule) → IsStrictlySortedBy rule_order rs
      → IsNonDecreasingBy (λ r. ordering_index (side r)) rs
  rises rs sorted i j d le lt =
      elim (same_or_less i j le) [
        | inl same ↦ let e = ap (λ k. ordering_index (side (get_or rs k d))) same in
            omega (arith, e)
        | inr less ↦ no_further (get_or rs i d) (get_or rs j d)
            (Less-from_sorted rule_order rs i j d sorted less lt) (side (get_or rs j d)) refl
      ]

  -- one that is where it is sought is the first
  found_at : (rs : List Rule) → IsStrictlySortedBy rule_order rs → (i : ℕ) (d : Rule)
      → i < length rs → side (get_or rs i d) ≡ Equal
      → Some (get_or rs i d) ≡ find (is_rule term form) rs
  found_at [] h i d lt is = absurd (omega (arith, lt))
  found_at (r ∷ rs) h zero d lt is = sym (ap (λ b. cond b (Some r) (find (is_rule term form) rs))
      (meets r ∙ ap is_eq is))
  found_at (r ∷ rs) h (suc i) d lt is =
      let less : side r ≡ Less = sym (alike_right rule_order_total (get_or rs i d)
      (sought term form) r is) ∙ Less-from_sorted rule_order (r ∷ rs) zero (suc i) d h (omega arith)
      lt in
      found_at rs (sorted_tail rule_order r rs h) i d (omega (arith, lt)) is
      ∙ sym (ap (λ b. cond b (Some r) (find (is_rule term form) rs)) (meets r ∙ ap is_eq less))

  none_found : (rs : List Rule)
      → ((k : ℕ) (d : Rule) → k < length rs → is_eq (side (get_or rs k d)) ≡ false)
      → None ≡ find (is_rule term form) rs
  none_found [] h = refl
  none_found (r ∷ rs) h = none_found rs (λ k d lt. h (suc k) d (omega (arith, lt)))
      ∙ sym (ap (λ b. cond b (Some r) (find (is_rule term form) rs))
      (meets r ∙ h zero r (omega arith)))

  -- what a binary search finds
  pub found : (rs : List Rule) → IsStrictlySortedBy rule_order rs → (i : ℕ) (rule : Rule)
      → rule ≡ get_or rs i rule → i < length rs → IsBinarySearchResult side rs (Ok i)
      → Some rule ≡ find (is_rule term form) rs
  found rs sorted i rule is lt h = ap Some is ∙ found_at rs sorted i rule lt (h rule)

  pub not_found : (rs : List Rule) → IsStrictlySortedBy rule_order rs → (i : ℕ)
      → IsBinarySearchResult side rs (Err i) → None ≡ find (is_rule term form) rs
  not_found rs sorted i h =
      let parts = h (rises rs sorted) in
      none_found rs (λ k d lt. elim (cases_lt k i) [
        | inl below ↦ ap is_eq (parts.0 k d (omega arith) below)
        | inr above ↦ ap is_eq (parts.1 k d above lt)
      ])

  -- what holds for the key that a closure computes, if that is the side of each rule
  pub by_side : (P : (Rule → Ordering)
      → Type 0) {F : Type 0} {g : Mut F (Bor Rule × Unit {0}) Ordering} {f : F}
      → ((key : Rule → Ordering) → ComputesKey g key f → P key)
      → ((a : Bor Rule × Unit {0}) (r : Ordering) (f' : F) → Called g f a r f'
      → (r ≡ side a.0.now) × (f' ≡ f)) → P side
  by_side P {g = g} {f = f} clause same = clause side
      (always_returns_same g (λ a r. r ≡ side a.0.now) f same)
