-- What the edits of a statement do to a list of rows, apart from its order.
use Rattle.std.proofs.Common.{◌≡◌, ℤ, Bool, true, false, not, List, [], ◌∷◌, ◌++◌, map, filter, refl, sym, ap, ◌∙◌}
use Rattle.std.specs.Prelude.{if◌then◌else◌}
use Rattle.std.specs.List.{list_any}
use Rattle.std.specs.List.Sorted.{IsPermutation}
use Rattle.std.specs.declared.cmp.Ordering.{Ordering}
use Rattle.std.specs.declared.cmp.Ordering.TheVariants.{Less, Equal, Greater}
use Rattle.std.specs.Ordering.{is_eq, match_ordering}
use Rattle.std.proofs.lemmas.List.Sorted.{IsPermutation-refl, IsPermutation-sym, IsPermutation-cons}
use Rattle.std.proofs.lemmas.List.Sorted.{IsPermutation-middle, IsPermutation-trans}
use Rattle.std.proofs.lemmas.List.Sorted.{IsPermutation-append_right}
use Rattle.sqlite_value.specs.declared.value.Value.TheVariants.{Int}
use Rattle.sqlite_value.specs.Order.{Row, value_cmp}
use Rattle.sqlite_value.proofs.OrderLemmas.{value_cmp_total}
use Rattle.std.proofs.lemmas.Cmp.{tied_itself}
use Rattle.desk_base.proofs.Lists.{filter_twice}
use Rattle.desk_base.proofs.Orders.{equal_is}
use Rattle.sqlite_trees.specs.Tree.{rowid, has_rowid, put_row, without_rowid, IsTable}
use Rattle.sqlite_trees.proofs.ListLemmas.{filter_all, filter_same, all_of, all-permutation}
use Rattle.sqlite_rules.specs.Edit.{is_taken, are_fresh, put_all, without_all}
use Rattle.sqlite_rules.specs.Lists.{Has}
use Rattle.sqlite_rules.proofs.ListLemmas.{all_has, all_from, some_has, some_from}
use Rattle.sqlite_rules.proofs.PlaceLemmas.{tied_same}

pub swapped : {X : Type 0} (a b : X) (xs : List X) → IsPermutation (a ∷ b ∷ xs) (b ∷ a ∷ xs)
swapped a b xs = IsPermutation-middle (a ∷ []) b xs

-- a row with a free rowid is added to the rows
pub put_fresh : (new : Row) (rows : List Row) → is_taken rows new ≡ false
    → IsPermutation (new ∷ rows) (put_row new rows)
put_fresh new [] free = IsPermutation-refl _
put_fresh new (r ∷ rows) free = go (put_fresh new rows) (value_cmp (rowid r) (rowid new)) refl
  where
    go : (is_taken rows new ≡ false → IsPermutation (new ∷ rows) (put_row new rows))
        → (o : Ordering) → value_cmp (rowid r) (rowid new) ≡ o
        → IsPermutation (new ∷ r ∷ rows)
        (match_ordering o (r ∷ put_row new rows) (new ∷ rows) (new ∷ r ∷ rows))
    go more Less is =
        let rest : is_taken rows new ≡ false = rw is at free in
        IsPermutation-trans _ _ _ (swapped new r rows) (IsPermutation-cons r _ _ (more rest))
    go more Equal is = absurd (let taken = rw is at free in cc)
    go more Greater is = IsPermutation-refl _

pub put_all_fresh : (news rows : List Row) → are_fresh rows news ≡ true
    → IsPermutation (news ++ rows) (put_all rows news)
put_all_fresh [] rows fresh = IsPermutation-refl _
put_all_fresh (r ∷ news) rows fresh = go (put_all_fresh news (put_row r rows)) (is_taken rows r)
    refl
  where
    go : (are_fresh (put_row r rows) news ≡ true
        → IsPermutation (news ++ put_row r rows) (put_all (put_row r rows) news)) → (b : Bool)
        → is_taken rows r ≡ b → IsPermutation (r ∷ news ++ rows) (put_all (put_row r rows) news)
    go more true is = absurd (let none = rw is at fresh in cc)
    go more false is =
        let later : are_fresh (put_row r rows) news ≡ true = rw is at fresh in
        IsPermutation-trans _ _ _ (IsPermutation-sym _ _ (IsPermutation-middle news r rows))
        (IsPermutation-trans _ _ _ (IsPermutation-append_right news _ _ (put_fresh r rows is))
        (more later))

-- ---- taking rows out

abbrev pub goes : List ℤ → Row → Bool
goes ids r = list_any (λ id. has_rowid id r) ids

pub without_all_is : (ids : List ℤ) (rows : List Row)
    → without_all rows ids ≡ filter (λ r. not (goes ids r)) rows
without_all_is [] rows = sym (filter_all (λ r. true) rows
    (all_of (λ r. true ≡ true) (λ r. refl) rows))
without_all_is (id ∷ ids) rows = without_all_is ids (without_rowid id rows)
    ∙ filter_twice (has_rowid id) (goes ids) rows

pub has_permuted : {X : Type 0} (xs ys : List X) (x : X) → IsPermutation xs ys → Has ys x → Has xs x
has_permuted xs ys x same = all_has (Has xs) ys x
    (all-permutation (Has xs) xs ys same (all_from (Has xs) xs (λ e h. h)))

-- these are the rowids of the rows that pass
pub record AreIdsOf (p : Row → Bool) (rows : List Row) (ids : List ℤ) : Type 0 where
  pub sound : (id : ℤ) → Has ids id → (r : Row) × Has rows r × (p r ≡ true) × (rowid r ≡ Int id)
  pub complete : (r : Row) → Has rows r → p r ≡ true → (id : ℤ) × Has ids id × (rowid r ≡ Int id)

goes_is : (p : Row → Bool) (rows : List Row) (ids : List ℤ) → IsTable rows → AreIdsOf p rows ids
    → (x : Row) → Has rows x → goes ids x ≡ p x
goes_is p rows ids up are x there = go (p x) refl
  where
    none : (b : Bool) → p x ≡ false → goes ids x ≡ b → b ≡ false
    none false fails is = refl
    none true fails is =
        let id = some_has (λ id. has_rowid id x) ids is in
        let r = are.sound id.0 id.1 in
        let tie : value_cmp (rowid x) (rowid r.0) ≡ Equal = rw r.3 (equal_is _ id.2) in
        let same = tied_same rows x r.0 up there r.1 tie in
        absurd (let yes = rw (← same) at r.2 in cc)

    go : (b : Bool) → p x ≡ b → goes ids x ≡ b
    go true is =
        let id = are.complete x there is in
        let here : has_rowid id.0 x ≡ true =
        rw id.2 (ap is_eq (tied_itself value_cmp_total (Int id.0))) in
        some_from (λ id. has_rowid id x) ids id.0 id.1 here
    go false fails = none (goes ids x) fails refl

pub left_is : (p : Row → Bool) (rows : List Row) (ids : List ℤ) → IsTable rows → AreIdsOf p rows ids
    → without_all rows ids ≡ filter (λ r. not (p r)) rows
left_is p rows ids up are =
    without_all_is ids rows ∙ filter_same (λ r. not (goes ids r)) (λ r. not (p r)) rows
    (all_from (λ r. not (goes ids r) ≡ not (p r)) rows
    (λ x h. ap not (goes_is p rows ids up are x h)))

-- a change of the rows that pass, and of no others
abbrev pub changed_where : {X : Type 0} → (X → Bool) → (X → X) → List X → List X
changed_where p f xs = map (λ x. if p x then f x else x) xs

pub changed_parts : {X : Type 0} (p : X → Bool) (f : X → X) (xs : List X)
    → IsPermutation (changed_where p f xs) (map f (filter p xs) ++ filter (λ x. not (p x)) xs)
changed_parts p f [] = IsPermutation-refl _
changed_parts {X} p f (x ∷ xs) = go (changed_parts p f xs) (p x) refl
  where
    go : IsPermutation (changed_where p f xs) (map f (filter p xs) ++ filter (λ x. not (p x)) xs)
        → (b : Bool) → p x ≡ b → IsPermutation (changed_where p f (x ∷ xs))
        (map f (filter p (x ∷ xs)) ++ filter (λ x. not (p x)) (x ∷ xs))
    go more true is = rw is (IsPermutation-cons (f x) _ _ more)
    go more false is = rw is (IsPermutation-trans _ _ _ (IsPermutation-cons x _ _ more)
        (IsPermutation-sym _ _ (IsPermutation-middle (map f (filter p xs)) x
        (filter (λ x. not (p x)) xs))))
