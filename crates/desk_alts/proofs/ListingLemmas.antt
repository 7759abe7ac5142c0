-- The sets of terms of the kept sets, and their order.
use Rattle.std.proofs.Common.{◌≡◌, ◌∙◌, ℕ, zero, suc, ◌+◌, ◌<◌, ◌≤◌, true, false, List, [], ◌∷◌}
use Rattle.std.proofs.Common.{◌++◌, length, get_or, take, sym, ap, ap₂, subst, refl, arith}
use Rattle.std.specs.Prelude.{All, Any, Contains}
use Rattle.std.specs.List.{AllPairs, AllZip}
use Rattle.std.specs.Bool.{Decides}
use Rattle.std.specs.declared.cmp.Ordering.{Ordering}
use Rattle.std.specs.declared.cmp.Ordering.TheVariants.{Less, Equal, Greater}
use Rattle.std.specs.Ordering.{is_lt, ordering_reverse, eq_by_cmp}
use Rattle.std.specs.Cmp.{eq_by_cmp_equiv, Equal-is}
use Rattle.std.specs.Cmp.Lexicographic.{slice_cmp}
use Rattle.std.specs.List.Sorted.{IsPermutation, IsSorted, IsStrictlySortedBy}
use Rattle.std.proofs.lemmas.List.{take_more}
use Rattle.std.proofs.lemmas.List.Elements.{All-from_get_or, Contains-get_or}
use Rattle.std.proofs.lemmas.List.Sorted.{Contains-permutation}
use Rattle.std.proofs.lemmas.Map.Keys.{IsDistinct-IsPermutation, sorted_from_all_adjacent}
use Rattle.std.proofs.lemmas.Map.Made.{AllPairs-from_IsDistinct, IsDistinct-from_AllPairs}
use Rattle.desk_base.proofs.Lists.{zip_pushed}
use Rattle.desk_base.proofs.Orders.{both_equal}
use Rattle.desk_expr.specs.declared.term.Term.{Term}
use Rattle.desk_expr.specs.Tree.{Tree}
use Rattle.desk_expr.specs.Meaning.{Holds, IsMinimal, IsSubset}
use Rattle.desk_expr.specs.Occurring.{term_order, AreTermsOf}
use Rattle.desk_alts.proofs.TableLemmas.{same_rank, own_rank}
use Rattle.desk_alts.specs.declared.masks.Mask.{Mask}
use Rattle.desk_alts.specs.Choices.{IsChoice, AreMinimal, IsTableFor}
use Rattle.desk_alts.specs.Sets.{IsTermSet, set_order, HasMoreTerms}
use Rattle.desk_alts.specs.SetLaws.{set_total}
use Rattle.desk_alts.proofs.Antichains.{any_of}
use Rattle.desk_alts.proofs.FrontLemmas.{listed_is_minimal}
use Rattle.desk_alts.proofs.Choosing.{minimal_choice, minimal_is_listed, satisfied_contains, subset_from_chosen}
use Rattle.desk_alts.proofs.SetLemmas.{same_sets}

-- ---- two lists side by side

zip_length : {A B : Type 0} (R : A → B → Type 0) (xs : List A) (ys : List B) → AllZip R xs ys
    → length xs ≡ length ys
zip_length R [] [] zip = refl
zip_length R [] (v ∷ vs) zip = absurd zip
zip_length R (u ∷ us) [] zip = absurd zip
zip_length R (u ∷ us) (v ∷ vs) zip = let rest = zip_length R us vs zip.1 in omega (arith, rest)

zip_at : {A B : Type 0} (R : A → B → Type 0) (xs : List A) (ys : List B) (i : ℕ) (d : A) (e : B)
    → AllZip R xs ys → i < length xs → R (get_or xs i d) (get_or ys i e)
zip_at R [] ys i d e zip within = absurd (omega arith)
zip_at R (u ∷ us) [] i d e zip within = absurd zip
zip_at R (u ∷ us) (v ∷ vs) zero d e zip within = zip.0
zip_at R (u ∷ us) (v ∷ vs) (suc i) d e zip within = zip_at R us vs i d e zip.1 (omega arith)

pub sets_more : (table : List Term) (kept : List Mask) (at : ℕ) (got : Mask)
    (sets more : List (List Term)) (s : List Term) → at < length kept → got ≡ get_or kept at got
    → IsChoice table got s → more ≡ sets ++ s ∷ []
    → AllZip (IsChoice table) (take at kept) sets
    → AllZip (IsChoice table) (take (at + 1) kept) more
sets_more table kept at got sets more s within is choice pushed zip =
    let next : take (at + 1) kept ≡ take at kept ++ got ∷ [] = take_more kept at got within
    ∙ ap (λ (x : Mask). take at kept ++ x ∷ []) (sym is) in
    subst (λ (l : List Mask). AllZip (IsChoice table) l more) (sym next)
    (subst (λ (l : List (List Term)). AllZip (IsChoice table) (take at kept ++ got ∷ []) l)
    (sym pushed) (zip_pushed (IsChoice table) (take at kept) sets got s zip choice))

pub any_moved : {X : Type 0} (P : X → Type 0) (xs ys : List X) → IsPermutation xs ys → Any P xs
    → Any P ys
any_moved P xs ys moved a = any_of P ys a.1 (Contains-permutation xs ys a.1 moved (a.0, a.2, a.3))
    a.4

-- ---- what the sets are

pub all_minimal : (table : List Term) (e : Tree) (kept : List Mask) (sets : List (List Term))
    → IsTableFor table e → AreMinimal table e kept → AllZip (IsChoice table) kept sets
    → All (λ s. IsTermSet s × IsMinimal s e) sets
all_minimal table e kept sets fit minimal zip =
    let long = zip_length (IsChoice table) kept sets zip in
    let d : Mask = record { low = 0; high = 0 } in
    All-from_get_or (λ s. IsTermSet s × IsMinimal s e) sets []
    (λ i within.
    let m = get_or kept i d in
    let listed : i < length kept = omega (arith, within, long) in
    let choice = zip_at (IsChoice table) kept sets i d [] zip listed in (
      choice.0,
      minimal_choice table e m (get_or sets i []) fit.few
          (listed_is_minimal table e kept minimal m (Contains-get_or kept i d listed)) choice.1,
    ))

-- the set of a kept set of places is listed
chosen_set : (table : List Term) (kept : List Mask) (sets : List (List Term)) (x : Mask)
    (d : List Term) → AllZip (IsChoice table) kept sets → (at : Contains kept x)
    → IsChoice table x (get_or sets at.0 d)
chosen_set table kept sets x d zip at = subst (λ (m : Mask). IsChoice table m (get_or sets at.0 d))
    at.2 (zip_at (IsChoice table) kept sets at.0 x d zip at.1)

pub every_minimal : (table : List Term) (e : Tree) (kept : List Mask) (sets : List (List Term))
    → IsTableFor table e → AreMinimal table e kept → AllZip (IsChoice table) kept sets
    → (s : List Term) → IsTermSet s → IsMinimal s e → Contains sets s
every_minimal table e kept sets fit minimal zip s up least =
    let found = minimal_is_listed table e kept s fit minimal least in
    let at = found.1 in
    let choice = chosen_set table kept sets found.0 s zip at in
    let is : get_or sets at.0 s ≡ s =
    same_sets (get_or sets at.0 s) s choice.0 up
    (λ t. ((λ c. (found.2 t).1 ((choice.1 t).0 c)), (λ c. (choice.1 t).1 ((found.2 t).0 c)))) in
    let long = zip_length (IsChoice table) kept sets zip in
    (at.0, omega (arith, at.1, long), is)

pub each_contains : (table : List Term) (e : Tree) (kept : List Mask) (sets : List (List Term))
    → IsTableFor table e → AreMinimal table e kept → AllZip (IsChoice table) kept sets
    → (s : List Term) → Holds (Contains s) e → Any (λ m. IsSubset m s) sets
each_contains table e kept sets fit minimal zip s holds =
    let found = satisfied_contains table e kept s fit minimal holds in
    let at = found.1 in
    let choice = chosen_set table kept sets found.0 [] zip at in
    let long = zip_length (IsChoice table) kept sets zip in
    let within : at.0 < length sets = omega (arith, at.1, long) in
    any_of (λ m. IsSubset m s) sets (get_or sets at.0 []) (Contains-get_or sets at.0 [] within)
    (λ t c. found.2 t ((choice.1 t).0 c))

pub all_differ : (table : List Term) (e : Tree) (kept : List Mask) (sets : List (List Term))
    → IsTableFor table e → AreMinimal table e kept → AllZip (IsChoice table) kept sets
    → AllPairs (λ s r. s ≡ r → ⊥) sets
all_differ table e kept sets fit minimal zip i j d below within same =
    let long = zip_length (IsChoice table) kept sets zip in
    let n : Mask = record { low = 0; high = 0 } in
    let last : j < length kept = omega (arith, within, long) in
    let first : i < length kept = omega (arith, last, below) in
    let one = zip_at (IsChoice table) kept sets i n d zip first in
    let other = zip_at (IsChoice table) kept sets j n d zip last in
    let least = listed_is_minimal table e kept minimal (get_or kept i n)
    (Contains-get_or kept i n first) in
    let sub = subset_from_chosen table e (get_or kept i n) (get_or kept j n) fit.ordered fit.few
    least (λ t c. (other.1 t).0 (subst (λ (s : List Term). Contains s t) same ((one.1 t).1 c))) in
    (minimal.apart i j n below last).0 sub

-- ---- the order of sets

same_list : (a b : List Term) → slice_cmp term_order a b ≡ Equal → a ≡ b
same_list [] [] tie = refl
same_list [] (y ∷ ys) tie = absurd (let e : Less ≡ Equal = tie in cc)
same_list (x ∷ xs) [] tie = absurd (let e : Greater ≡ Equal = tie in cc)
same_list (x ∷ xs) (y ∷ ys) tie =
    let both = both_equal (term_order x y) (slice_cmp term_order xs ys) tie in
    ap₂ (λ (z : Term) (zs : List Term). z ∷ zs) (same_rank x y both.0) (same_list xs ys both.1)

pub same_set_rank : (a b : List Term) → set_order a b ≡ Equal → a ≡ b
same_set_rank a b tie = same_list a b (both_equal _ _ tie).1

pub set_ranks_with_itself : (a : List Term) → set_order a a ≡ Equal
set_ranks_with_itself a = own_rank (set_order a a) (set_total.antisymm a a)

ranks_tell : (a b : List Term) → Decides (eq_by_cmp set_order a b) (a ≡ b)
ranks_tell a b = (
  (λ yes. same_set_rank a b ((Equal-is (set_order a b)).0 yes)),
  (λ same. (Equal-is (set_order a b)).1 (ap (set_order a) (sym same) ∙ set_ranks_with_itself a)),
)

below_by : (r s : Ordering) → r ≡ ordering_reverse s → is_lt s ≡ false → (r ≡ Equal → ⊥) → r ≡ Less
below_by Less s turned no_less ne = refl
below_by Equal s turned no_less ne = absurd (ne refl)
below_by Greater Less turned no_less ne = absurd (let e : true ≡ false = no_less in cc)
below_by Greater Equal turned no_less ne = absurd (cc)
below_by Greater Greater turned no_less ne = absurd (cc)

pub strictly_sorted : (sets sorted : List (List Term)) → IsPermutation sets sorted
    → AllPairs (λ s r. s ≡ r → ⊥) sets → IsSorted set_order sorted
    → IsStrictlySortedBy set_order sorted
strictly_sorted sets sorted moved differ rises =
    let distinct = IsDistinct-from_AllPairs ranks_tell sets differ in
    let kept = IsDistinct-IsPermutation (eq_by_cmp set_order) (eq_by_cmp_equiv set_total).symm sets
    sorted moved distinct in
    let apart = AllPairs-from_IsDistinct ranks_tell sorted kept in
    sorted_from_all_adjacent set_total sorted []
    (λ k within.
    below_by (set_order (get_or sorted k []) (get_or sorted (k + 1) []))
    (set_order (get_or sorted (k + 1) []) (get_or sorted k []))
    (set_total.antisymm (get_or sorted k []) (get_or sorted (k + 1) []))
    (rises k [] (omega arith) within)
    (λ tie. apart k (k + 1) [] (omega arith) within
    (same_set_rank (get_or sorted k []) (get_or sorted (k + 1) []) tie)))

-- ---- the terms of an expression are one list

pub few_terms : (e : Tree) (table : List Term) → AreTermsOf e table → length table ≤ 128
    → HasMoreTerms 128 e → ⊥
few_terms e table own few more =
    let is : more.0 ≡ table = same_sets more.0 table more.1.ordered own.ordered
    (λ t. (
      (λ c. (own.members t).1 ((more.1.members t).0 c)),
      (λ c. (more.1.members t).1 ((own.members t).0 c)),
    )) in
    let long = ap length is in
    omega (arith, long, few, more.2)

pub fits : (e : Tree) (table given : List Term) → AreTermsOf e table → given ≡ table
    → length given ≤ 128 → IsTableFor table e
fits e table given own is few = record {
  listed = λ t at. (own.members t).1 at;
  ordered = own.ordered;
  few = let long = ap length is in omega (arith, long, few);
}
