-- The first of the releases that hold a choice for a package.
use Rattle.std.proofs.Common.{◌≡◌, ◌∙◌, ℕ, ◌≤◌, Bool, true, false, List, [], ◌∷◌, Option, Some}
use Rattle.std.proofs.Common.{None}
use Rattle.std.proofs.Common.{refl, sym, ap, subst, arith, inl, inr}
use Rattle.std.specs.Prelude.{if◌then◌else◌, find, filter, nat_lt, ◌==◌}
use Rattle.std.specs.Option.{option_map}
use Rattle.std.specs.Str.{bytes_eq}
use Rattle.std.specs.Ordering.{nat_cmp, is_eq, is_lt, ordering_then}
use Rattle.std.specs.Cmp.Lexicographic.{slice_cmp}
use Rattle.std.specs.declared.cmp.Ordering.{Ordering}
use Rattle.std.specs.declared.cmp.Ordering.TheVariants.{Less, Equal, Greater}
use Rattle.std.proofs.lemmas.Bool.Decides.{nat_tests}
use Rattle.std.proofs.lemmas.Bool.{and_from}
use Rattle.std.proofs.lemmas.Map.Keys.{ge_from_not_lt}
use Rattle.std.proofs.lemmas.Option.{same_Some}
use Rattle.desk_model.specs.Lists.{IsIn, ascends}
use Rattle.desk_model.specs.Keys.{below_by, is_release}
use Rattle.desk_model.specs.Conclusions.{first_opened, holds, sooner}
use Rattle.desk_model.specs.Tables.{Tables}
use Rattle.desk_model.specs.declared.row.ReleaseRow.{ReleaseRow}
use Rattle.desk_history.specs.FromTables.{holder_found}
use Rattle.desk_history.proofs.Distinct.{from_filter}
use Rattle.desk_tally.specs.Kept.{ArePlaces, place_found}
use Rattle.desk_sorted.specs.Sides.{numbers_meet, texts_meet}
use Rattle.desk_memory_rows.specs.Holders.{AreHolders, holder_order, is_held, is_holder}
use Rattle.desk_memory_rows.specs.HolderLaws.{holder_total}
use Rattle.desk_memory_rows.specs.declared.holders.Holder.{Holder}
use Rattle.desk_memory_rows.proofs.Lists.{any_none, first_least}
use Rattle.desk_memory_rows.proofs.Lists.{in_filtered, none_filtered, none_in}
use Rattle.desk_base.proofs.Bools.{and_left, and_right}
use Rattle.desk_base.proofs.Numbers.{numbers_equal, same_number}
use Rattle.desk_base.proofs.Texts.{same_text, texts_equal}
use Rattle.desk_model.proofs.Orders.{order_of}
use Rattle.desk_model.proofs.Lists.{one_passes, one_any, found_in}

-- The first opened release

some_first : (x : ReleaseRow) (rows : List ReleaseRow) → IsIn x rows → first_opened rows ≡ None → ⊥
some_first x [] is none = absurd is
some_first x (row ∷ rows) is none = either (first_opened rows) none
  where
    pick : (b : Bool) (other : ReleaseRow) → (if b then Some other else Some row) ≡ None → ⊥
    pick true other e = cc
    pick false other e = cc

    either : (o : Option ReleaseRow) → sooner row o ≡ None → ⊥
    either None e = cc
    either (Some other) e = pick (nat_lt other.place row.place) other e

at_most : (a b : ℕ) → nat_lt a b ≡ true → a ≤ b
at_most a b e = grind (arith, nat_tests)

at_least : (a b : ℕ) → nat_lt a b ≡ false → b ≤ a
at_least a b e = grind (arith, nat_tests)

abbrev IsFirst : ReleaseRow → List ReleaseRow → Type 0
IsFirst z rows = IsIn z rows × ((y : ReleaseRow) → IsIn y rows → z.place ≤ y.place)

module _ (row : ReleaseRow) (rows : List ReleaseRow) (z : ReleaseRow) where
  alone : first_opened rows ≡ None → row ≡ z → (y : ReleaseRow) → IsIn y (row ∷ rows)
      → z.place ≤ y.place
  alone none same y (inl is) = let places : z.place ≡ y.place =
      ap (λ (x : ReleaseRow). x.place) (sym same ∙ is) in omega (arith, places)
  alone none same y (inr later) = absurd (some_first y rows later none)

  before : (other : ReleaseRow) → IsFirst other rows → other ≡ z → other.place ≤ row.place
      → (y : ReleaseRow) → IsIn y (row ∷ rows) → z.place ≤ y.place
  before other first same low y (inl is) =
      let one : z.place ≡ other.place = ap (λ (x : ReleaseRow). x.place) (sym same) in
      let two : row.place ≡ y.place = ap (λ (x : ReleaseRow). x.place) is in
      omega (arith, one, two, low)
  before other first same low y (inr later) =
      let one : z.place ≡ other.place = ap (λ (x : ReleaseRow). x.place) (sym same) in
      omega (arith, one, first.1 y later)

  itself : (other : ReleaseRow) → IsFirst other rows → row ≡ z → row.place ≤ other.place
      → (y : ReleaseRow) → IsIn y (row ∷ rows) → z.place ≤ y.place
  itself other first same low y (inl is) = let places : z.place ≡ y.place =
      ap (λ (x : ReleaseRow). x.place) (sym same ∙ is) in omega (arith, places)
  itself other first same low y (inr later) =
      let one : z.place ≡ row.place = ap (λ (x : ReleaseRow). x.place) (sym same) in
      omega (arith, one, low, first.1 y later)

  pick : (other : ReleaseRow) → IsFirst other rows → (b : Bool) → nat_lt other.place row.place ≡ b
      → (if b then Some other else Some row) ≡ Some z → IsFirst z (row ∷ rows)
  pick other first true lt g =
      let same : other ≡ z = cc in (
        inr (subst (λ x. IsIn x rows) same first.0),
        before other first same (at_most other.place row.place lt),
      )
  pick other first false lt g =
      let same : row ≡ z = cc in
      (inl same, itself other first same (at_least other.place row.place lt))

  one_more : ((other : ReleaseRow) → first_opened rows ≡ Some other → IsFirst other rows)
      → (o : Option ReleaseRow) → first_opened rows ≡ o → sooner row o ≡ Some z
      → IsFirst z (row ∷ rows)
  one_more rest None f g = let same : row ≡ z = cc in (inl same, alone f same)
  one_more rest (Some other) f g = pick other (rest other f) (nat_lt other.place row.place) refl g

first_is : (rows : List ReleaseRow) (z : ReleaseRow) → first_opened rows ≡ Some z → IsFirst z rows
first_is [] z e = cc
first_is (row ∷ rows) z e = one_more row rows z (first_is rows) (first_opened rows) refl e

-- a release that was opened before all others is the first
named_first : (rows : List ReleaseRow) (x : ReleaseRow) → IsIn x rows
    → ((y : ReleaseRow) → IsIn y rows → x.place ≤ y.place)
    → ((y : ReleaseRow) → IsIn y rows → y.place ≡ x.place → y.name ≡ x.name)
    → option_map (λ release. release.name) (first_opened rows) ≡ Some x.name
named_first rows x is least names = either (first_opened rows) refl
  where
    either : (o : Option ReleaseRow) → first_opened rows ≡ o
        → option_map (λ (release : ReleaseRow). release.name) o ≡ Some x.name
    either None e = absurd (some_first x rows is e)
    either (Some z) e =
        let first = first_is rows z e in
        let place : z.place ≡ x.place = omega (arith, first.1 x is, least z first.0) in
        ap Some (names z first.0 place)

-- The first holder

third_not_less : (a b c d : Ordering) → is_eq a ≡ true → is_eq b ≡ true
    → is_lt (ordering_then (ordering_then (ordering_then a b) c) d) ≡ false → is_lt c ≡ false
third_not_less Equal Equal Less d e f g = cc
third_not_less Equal Equal Equal d e f g = refl
third_not_less Equal Equal Greater d e f g = refl
third_not_less Equal Less c d e f g = cc
third_not_less Equal Greater c d e f g = cc
third_not_less Less b c d e f g = cc
third_not_less Greater b c d e f g = cc

-- of two holders for one package, the one that isn't above the other was opened no later
opened_before : (d : ℕ) (p : List ℕ) (x h : Holder) → is_held d p x ≡ true → is_held d p h ≡ true
    → below_by holder_order x h ≡ false → h.place ≤ x.place
opened_before d p x h e f below =
    let number : x.document ≡ h.document =
    numbers_equal x.document d (and_left (x.document == d) (bytes_eq x.package_id p) e)
    ∙ sym (numbers_equal h.document d (and_left (h.document == d) (bytes_eq h.package_id p) f)) in
    let text : x.package_id ≡ h.package_id =
    texts_equal x.package_id p (and_right (x.document == d) (bytes_eq x.package_id p) e)
    ∙ sym (texts_equal h.package_id p (and_right (h.document == d) (bytes_eq h.package_id p) f)) in
    let numbers : is_eq (nat_cmp x.document h.document) ≡ true =
    sym (numbers_meet x.document h.document)
    ∙ (ap (λ n. n == h.document) number ∙ same_number h.document) in
    let texts : is_eq (slice_cmp nat_cmp x.package_id h.package_id) ≡ true =
    sym (texts_meet x.package_id h.package_id)
    ∙ (ap (λ t. bytes_eq t h.package_id) text ∙ same_text h.package_id) in
    ge_from_not_lt x.place h.place
    (third_not_less (nat_cmp x.document h.document) (slice_cmp nat_cmp x.package_id h.package_id)
    (nat_cmp x.place h.place) (slice_cmp nat_cmp x.release h.release) numbers texts below)

-- the release at a place that was found by a name
row_of : (rows : List ReleaseRow) (name : List ℕ) (place : ℕ) → place_found rows name ≡ Some place
    → (row : ReleaseRow) × IsIn row rows × (row.name ≡ name) × (row.place ≡ place)
row_of rows name place e = either (find (is_release name) rows) refl e
  where
    either : (o : Option ReleaseRow) → find (is_release name) rows ≡ o
        → option_map (λ (row : ReleaseRow). row.place) o ≡ Some place
        → (row : ReleaseRow) × IsIn row rows × (row.name ≡ name) × (row.place ≡ place)
    either None f g = cc
    either (Some row) f g =
        let found = found_in (is_release name) rows row f in
        let at : row.place ≡ place = cc in
        (row, found.0, texts_equal row.name name found.1, at)

pub held_by : (r : List ℕ) (d : ℕ) (p : List ℕ) (x : Holder) → is_holder r d p x ≡ true
    → is_held d p x ≡ true
held_by r d p x e = and_right (bytes_eq x.release r) (is_held d p x) e

module _ (t : Tables) (all : List Holder) (places : ArePlaces t.releases) (held : AreHolders all t)
    (d : ℕ) (p : List ℕ) where
  -- the holder for a release that holds a choice
  holder_at : (y : ReleaseRow) → IsIn y t.releases → holds t.choice d p y ≡ true
      → (k : Holder) × IsIn k all × (is_held d p k ≡ true) × (k.place ≡ y.place)
  holder_at y is some =
      let found = one_passes (is_holder y.name d p) all (held.holding y.name d p ∙ some) in
      let k : Holder = found.0 in
      let own = and_left (bytes_eq k.release y.name) (is_held d p k) found.2 in
      let name : k.release ≡ y.name = texts_equal k.release y.name own in (
        k,
        found.1,
        held_by y.name d p k found.2,
        same_Some k.place y.place (sym (held.placed k found.1)
            ∙ (ap (place_found t.releases) name ∙ held.apart y is)),
      )

  no_holder : find (is_held d p) all ≡ None → None ≡ holder_found t d p
  no_holder none =
      let nowhere : filter (holds t.choice d p) t.releases ≡ [] =
      none_filtered (holds t.choice d p) t.releases
      (λ y. sym (held.holding y.name d p)
      ∙ any_none (is_holder y.name d p) all
      (λ x is e. none_in (is_held d p) all none x is (held_by y.name d p x e))) in
      sym (ap (λ rows. option_map (λ (release : ReleaseRow). release.name) (first_opened rows))
      nowhere)

  first_named : (h : Holder) → ascends (below_by holder_order) all ≡ true
      → find (is_held d p) all ≡ Some h → Some h.release ≡ holder_found t d p
  first_named h up e =
      let found = found_in (is_held d p) all h e in
      let row = row_of t.releases h.release h.place (held.placed h found.0) in
      let x : ReleaseRow = row.0 in
      let name : x.name ≡ h.release = row.2 in
      let own : bytes_eq h.release x.name ≡ true = ap (bytes_eq h.release) name
      ∙ same_text h.release in
      let some : holds t.choice d p x ≡ true = sym (held.holding x.name d p)
      ∙ one_any (is_holder x.name d p) h all found.0
      (and_from (bytes_eq h.release x.name) (is_held d p h) own found.1) in
      let least : (y : ReleaseRow) → IsIn y (filter (holds t.choice d p)
      t.releases) → x.place ≤ y.place =
      λ y is.
      let there = from_filter (holds t.choice d p) y t.releases is in
      let at = holder_at y there.0 there.1 in
      let low : h.place ≤ (at.0).place =
      opened_before d p at.0 h at.2 found.1
      (first_least (below_by holder_order) (order_of holder_total) (is_held d p) all up h e at.0
      at.1 at.2) in
      omega (arith, low, row.3, at.3) in
      let names : (y : ReleaseRow) → IsIn y (filter (holds t.choice d p)
      t.releases) → y.place ≡ x.place → y.name ≡ x.name =
      λ y is same. places.apart y.name x.name y.place
      (held.apart y (from_filter (holds t.choice d p) y t.releases is).0)
      (held.apart x row.1 ∙ ap Some (sym same)) in
      ap Some (sym name) ∙ sym (named_first (filter (holds t.choice d p) t.releases) x
      (in_filtered (holds t.choice d p) x t.releases row.1 some) least names)

  pub first_holder : ascends (below_by holder_order) all ≡ true
      → option_map (λ holder. holder.release) (find (is_held d p) all) ≡ holder_found t d p
  first_holder up = either (find (is_held d p) all) refl
    where
      either : (o : Option Holder) → find (is_held d p) all ≡ o
          → option_map (λ (holder : Holder). holder.release) o ≡ holder_found t d p
      either None e = no_holder e
      either (Some h) e = first_named h up e
