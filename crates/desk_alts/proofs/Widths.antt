-- Fronts with more minimal sets than the limit allows.
use Rattle.std.proofs.Common.{◌≡◌, ◌↔◌, ◌∙◌, ◌⊎◌, inl, inr, ⊎_elim, ℕ, zero, suc, ◌+◌, ◌<◌, ◌≤◌}
use Rattle.std.proofs.Common.{List, [], ◌∷◌, length, map, get_or, take, sym, ap, subst, refl, arith}
use Rattle.std.specs.Prelude.{Contains}
use Rattle.std.specs.List.{AllPairs}
use Rattle.std.proofs.Math.ListN.{get_or-map}
use Rattle.std.proofs.lemmas.List.{get_or_default, length-map}
use Rattle.std.proofs.lemmas.List.Elements.{All-map, All-from_get_or, All-get_or, All-weaker, Contains-get_or}
use Rattle.std.proofs.str.Laws.{order}
use Rattle.desk_expr.specs.declared.term.Term.{Term}
use Rattle.desk_expr.specs.Tree.{Tree, Trees, all, any, no_more, more, parts_of}
use Rattle.desk_expr.specs.Meaning.{Holds, IsMinimal}
use Rattle.desk_expr.specs.Occurring.{leaves, leaves_of}
use Rattle.desk_alts.specs.declared.masks.Mask.{Mask}
use Rattle.desk_alts.specs.Choices.{Chosen, AreMinimal, IsTableFor}
use Rattle.desk_alts.specs.Sets.{IsTermSet, HasMoreSets, first_parts, parts_count, joined}
use Rattle.desk_alts.specs.Sets.{HasWideFrontOf, HasWideFront, HasWidePart}
use Rattle.desk_alts.proofs.Antichains.{at_most}
use Rattle.desk_alts.proofs.Choosing.{choice_of, minimal_choice, minimal_is_listed, subset_from_chosen}
use Rattle.desk_alts.proofs.FrontLemmas.{listed_is_minimal, table_for_front}
use Rattle.desk_alts.proofs.SetLemmas.{same_sets}

-- ---- there are as many minimal sets of terms as minimal sets of places

nothing : Mask
nothing = record { low = 0; high = 0 }

-- the sets of two listed sets of places differ
chosen_apart : (table : List Term) (e : Tree) (xs : List Mask) (fit : IsTableFor table e)
    → AreMinimal table e xs → (i j : ℕ) → i < j → j < length xs
    → (choice_of table (get_or xs i nothing) fit.ordered).0
    ≡ (choice_of table (get_or xs j nothing) fit.ordered).0 → ⊥
chosen_apart table e xs fit minimal i j below within same =
    let x = get_or xs i nothing in
    let y = get_or xs j nothing in
    let least = listed_is_minimal table e xs minimal x
    (Contains-get_or xs i nothing (omega arith)) in
    let one = (choice_of table x fit.ordered).1.1 in
    let other = (choice_of table y fit.ordered).1.1 in
    let sub = subset_from_chosen table e x y fit.ordered fit.few least
    (λ t c. (other t).0 (subst (λ (s : List Term). Contains s t) same ((one t).1 c))) in
    (minimal.apart i j nothing below within).0 sub

pub more_sets : (table : List Term) (e : Tree) (xs : List Mask) (n : ℕ) → IsTableFor table e
    → AreMinimal table e xs → n < length xs → HasMoreSets n e
more_sets table e xs n fit minimal many =
    let own : Mask → List Term = λ m. (choice_of table m fit.ordered).0 in
    let long : length (map own xs) ≡ length xs = length-map xs own in
    let read : (i : ℕ) (d : List Term) → i < length xs → get_or (map own xs) i d ≡ own (get_or xs i
    nothing) =
    λ i d within. get_or_default (map own xs) i d (own nothing) (omega (arith, within, long))
    ∙ get_or-map own xs i nothing in (
      map own xs,
      All-map (λ s. IsTermSet s × IsMinimal s e) own xs
          (All-from_get_or (λ m. IsTermSet (own m) × IsMinimal (own m) e) xs nothing
          (λ i within.
          let m = get_or xs i nothing in
          let choice = (choice_of table m fit.ordered).1 in (
            choice.0,
            minimal_choice table e m (own m) fit.few
                (listed_is_minimal table e xs minimal m (Contains-get_or xs i nothing within))
                choice.1,
          ))),
      (λ i j d below within same.
          let last : j < length xs = omega (arith, within, long) in
          chosen_apart table e xs fit minimal i j below last
          (sym (read i d (omega (arith, below, last))) ∙ (same ∙ read j d last))),
      omega (arith, many, long),
    )

-- the set at the one place is that of the set of places at the other place
abbrev AreOne : List Term → List (List Term) → List Mask → ℕ → ℕ → Type 0
AreOne table sets xs j i = (i < length xs)
    × ((t : Term) → Contains (get_or sets j []) t ↔ Chosen table (get_or xs i nothing) t)

-- sets that all differ are at one place each
pub one_place : (sets : List (List Term)) → AllPairs (λ s r. s ≡ r → ⊥) sets → (j k : ℕ)
    → j < length sets → k < length sets → get_or sets j [] ≡ get_or sets k [] → j ≡ k
one_place sets apart j k in_j in_k same =
    ⊎_elim
    (λ below. absurd (apart j k [] below in_k same))
    (λ above. ⊎_elim (λ under. absurd (apart k j [] under in_j (sym same))) (λ over. omega arith)
    (order k j))
    (order j k)

pub no_more_sets : (table : List Term) (e : Tree) (xs : List Mask) (n : ℕ) → IsTableFor table e
    → AreMinimal table e xs → length xs ≤ n → HasMoreSets n e → ⊥
no_more_sets table e xs n fit minimal few wide =
    let sets = wide.0 in
    let fact = λ (j : ℕ) (within : j < length sets). All-get_or (λ s. IsTermSet s × IsMinimal s e)
    sets j [] within wide.1 in
    let has : (j : ℕ) → j < length sets → (i : ℕ) × AreOne table sets xs j i =
    λ j within.
    let found = minimal_is_listed table e xs (get_or sets j []) fit minimal (fact j within).1 in
    let at = found.1 in
    let is : get_or xs at.0 nothing ≡ found.0 = get_or_default xs at.0 nothing found.0 at.1
    ∙ at.2 in (
      at.0,
      (
        at.1,
        subst (λ (m : Mask). (t : Term)
            → Contains (get_or sets j []) t ↔ Chosen table m t) (sym is) found.2,
      ),
    ) in
    let one : (j k i : ℕ) → j < length sets → k < length sets → AreOne table sets xs j i
    → AreOne table sets xs k i → j ≡ k =
    λ j k i in_j in_k a b.
    let same : get_or sets j [] ≡ get_or sets k [] =
    same_sets _ _ (fact j in_j).0 (fact k in_k).0
    (λ t. ((λ c. (b.1 t).1 ((a.1 t).0 c)), (λ c. (a.1 t).1 ((b.1 t).0 c)))) in
    one_place sets wide.2 j k in_j in_k same in
    let le = at_most (length sets) (length xs) (AreOne table sets xs) has (λ j i a. a.0) one in
    omega (arith, le, few, wide.3)

-- ---- fronts

minimal_alike : (a b : Tree) → ((s : List Term) → Holds (Contains s) a ↔ Holds (Contains s) b)
    → (s : List Term) → IsMinimal s a → IsMinimal s b
minimal_alike a b same s least = (
  (same s).0 least.0,
  λ few proper holds. least.1 few proper ((same few).1 holds),
)

more_alike : (n : ℕ) (a b : Tree) → ((s : List Term) → Holds (Contains s) a ↔ Holds (Contains s) b)
    → HasMoreSets n a → HasMoreSets n b
more_alike n a b same wide = (
  wide.0,
  All-weaker (λ s. IsTermSet s × IsMinimal s a) (λ s. IsTermSet s × IsMinimal s b)
      (λ s p. (p.0, minimal_alike a b same s p.1)) wide.0 wide.1,
  wide.2,
  wide.3,
)

-- an All or an Any
pub record IsNode (node : Trees → Tree) : Type 0 where
  pub wide : (ts : Trees) → HasWideFront (node ts) ↔ (HasWidePart ts ⊎ HasWideFrontOf node ts)
  pub single : (t : Tree) (s : List Term)
      → Holds (Contains s) (node (more t no_more)) ↔ Holds (Contains s) t
  pub own : (ts : Trees) → leaves (node ts) ≡ leaves_of ts

pub all_is_node : IsNode all
all_is_node = record {
  wide = λ ts. ((λ h. h), (λ h. h));
  single = λ t s. ((λ h. h.0), (λ h. (h, tt)));
  own = λ ts. refl;
}

pub any_is_node : IsNode any
any_is_node = record {
  wide = λ ts. ((λ h. h), (λ h. h));
  single = λ t s. ((λ h. elim h [ inl a ↦ a | inr b ↦ absurd b ]), (λ h. inl h));
  own = λ ts. refl;
}

more_joined : (node : Trees → Tree) → IsNode node → (n : ℕ) (ts : Trees)
    → HasMoreSets n (joined node ts) ↔ HasMoreSets n (node ts)
more_joined node is_node n no_more = ((λ h. h), (λ h. h))
more_joined node is_node n (more t no_more) = (
  more_alike n t (node (more t no_more)) (λ s. ((is_node.single t s).1, (is_node.single t s).0)),
  more_alike n (node (more t no_more)) t (is_node.single t),
)
more_joined node is_node n (more t (more u us)) = ((λ h. h), (λ h. h))

first_parts_of : (k : ℕ) (ts : List Tree) → first_parts k (parts_of ts) ≡ parts_of (take k ts)
first_parts_of zero [] = refl
first_parts_of zero (t ∷ ts) = refl
first_parts_of (suc k) [] = refl
first_parts_of (suc k) (t ∷ ts) = ap (more t) (first_parts_of k ts)

count_of : (ts : List Tree) → parts_count (parts_of ts) ≡ length ts
count_of [] = refl
count_of (t ∷ ts) = let rest = count_of ts in omega (arith, rest)

wide_part : (ts : List Tree) (i : ℕ) (d : Tree) → i < length ts → HasWideFront (get_or ts i d)
    → HasWidePart (parts_of ts)
wide_part [] i d within wide = absurd (omega arith)
wide_part (x ∷ xs) zero d within wide = inl wide
wide_part (x ∷ xs) (suc i) d within wide = inr (wide_part xs i d (omega arith) wide)

which_part : (ts : List Tree) (d : Tree) → HasWidePart (parts_of ts)
    → (i : ℕ) × (i < length ts) × HasWideFront (get_or ts i d)
which_part [] d wide = absurd wide
which_part (x ∷ xs) d wide =
    elim wide [
      | inl a ↦ (0, omega arith, a)
      | inr b ↦ let rest = which_part xs d b in (suc rest.0, omega (arith, rest.1), rest.2)
    ]

pub wide_by_part : (node : Trees → Tree) → IsNode node → (ts : List Tree) (i : ℕ) (x e : Tree)
    → i < length ts → x ≡ get_or ts i x → e ≡ node (parts_of ts) → HasWideFront x → HasWideFront e
wide_by_part node is_node ts i x e within is top wide =
    subst HasWideFront (sym top) ((is_node.wide (parts_of ts)).1
    (inl (wide_part ts i x within (subst HasWideFront is wide))))

pub wide_by_front : (node : Trees → Tree) → IsNode node
    → (table : List Term) (ts : List Tree) (i : ℕ) (e : Tree) (xs : List Mask) → i < length ts
    → e ≡ node (parts_of ts) → IsTableFor table e
    → AreMinimal table (node (parts_of (take (i + 1) ts))) xs → 64 < length xs → HasWideFront e
wide_by_front node is_node table ts i e xs within top fit minimal many =
    let wide = more_sets table (node (parts_of (take (i + 1) ts))) xs 64
    (table_for_front node is_node.own table ts (i + 1) e top fit) minimal many in
    let front = subst (λ (l : Trees). HasMoreSets 64 (joined node l))
    (sym (first_parts_of (i + 1) ts))
    ((more_joined node is_node 64 (parts_of (take (i + 1) ts))).1 wide) in
    subst HasWideFront (sym top) ((is_node.wide (parts_of ts)).1
    (inr (i + 1, omega arith, (let count = count_of ts in omega (arith, count, within)), front)))

-- no part before the place has a wide front, and no front up to it is wide
pub record IsNarrowTo (node : Trees → Tree) (ts : List Tree) (i : ℕ) : Type 0 where
  pub parts : (j : ℕ) (d : Tree) → j < i → j < length ts → HasWideFront (get_or ts j d) → ⊥
  pub fronts : (k : ℕ) → 1 ≤ k → k ≤ i → HasMoreSets 64 (node (parts_of (take k ts))) → ⊥

pub narrow_start : (node : Trees → Tree) (ts : List Tree) → IsNarrowTo node ts 0
narrow_start node ts = record {
  parts = λ j d below within wide. omega arith;
  fronts = λ k from to wide. omega arith;
}

pub narrow_more : (node : Trees → Tree) → IsNode node
    → (table : List Term) (ts : List Tree) (i : ℕ) (x e : Tree) (xs : List Mask) → i < length ts
    → x ≡ get_or ts i x → e ≡ node (parts_of ts) → IsTableFor table e
    → (HasWideFront x → ⊥) → AreMinimal table (node (parts_of (take (i + 1) ts))) xs
    → length xs ≤ 64
    → IsNarrowTo node ts i → IsNarrowTo node ts (i + 1)
narrow_more node is_node table ts i x e xs within is top fit narrow_part minimal few
    so_far = record {
      parts = λ j d below within' wide.
          ⊎_elim
          (λ under. so_far.parts j d under within' wide)
          (λ over.
          let same : j ≡ i = omega arith in
          narrow_part (subst HasWideFront
          (ap (λ k. get_or ts k d) same ∙ (get_or_default ts i d x within ∙ sym is)) wide))
          (order j i);
      fronts = λ k from to wide.
          ⊎_elim
          (λ under. so_far.fronts k from (omega arith) wide)
          (λ over.
          let same : k ≡ i + 1 = omega arith in
          no_more_sets table (node (parts_of (take (i + 1) ts))) xs 64
          (table_for_front node is_node.own table ts (i + 1) e top fit) minimal few
          (subst (λ n. HasMoreSets 64 (node (parts_of (take n ts)))) same wide))
          (order k (i + 1));
    }

pub narrow_done : (node : Trees → Tree) → IsNode node → (ts : List Tree) (i : ℕ) (e : Tree)
    → length ts ≤ i → e ≡ node (parts_of ts) → IsNarrowTo node ts i → HasWideFront e → ⊥
narrow_done node is_node ts i e whole top narrow_to wide =
    elim ((is_node.wide (parts_of ts)).0 (subst HasWideFront top wide)) [
      | inl part ↦ let at = which_part ts (all no_more) part in
          narrow_to.parts at.0 (all no_more) (omega (arith, at.1, whole)) at.1 at.2
      | inr front ↦
          let there = subst (λ (l : Trees). HasMoreSets 64 (joined node l))
          (first_parts_of front.0 ts) front.3 in
          let count = count_of ts in
          narrow_to.fronts front.0 front.1 (omega (arith, count, front.2, whole))
          ((more_joined node is_node 64 (parts_of (take front.0 ts))).0 there)
    ]
