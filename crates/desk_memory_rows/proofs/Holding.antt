-- The releases that hold a choice for a package: what a change of the rows leaves of them.
use Rattle.std.proofs.Common.{◌≡◌, ◌≢◌, ◌∙◌, ℕ, Bool, true, false, List, [], ◌∷◌, ◌++◌, Option}
use Rattle.std.proofs.Common.{Some, None, refl, sym, ap, subst, inl, inr}
use Rattle.std.proofs.lemmas.Bool.{and_from, not-true, false_from_ne_true}
use Rattle.std.proofs.lemmas.Option.{same_Some}
use Rattle.std.proofs.Math.Bool.{or-false}
use Rattle.std.proofs.lemmas.List.Folds.{list_any-append}
use Rattle.std.specs.Prelude.{if◌then◌else◌, filter, not, is_some, ◌==◌, ◌&&◌, ◌||◌, ◌⊎◌}
use Rattle.std.specs.List.{list_any, list_all}
use Rattle.std.specs.Option.{option_map}
use Rattle.std.specs.Str.{bytes_eq}
use Rattle.desk_model.specs.Lists.{IsIn, or_else, put, put_all, updated}
use Rattle.desk_model.specs.Keys.{below_by, choice_order, is_choice_in, is_choice_of, is_release}
use Rattle.desk_model.specs.Keys.{release_below}
use Rattle.desk_model.specs.Tables.{Tables, applied, is_choice_elsewhere, is_other_choice}
use Rattle.desk_model.specs.Tables.{with_release_state, withdrawn_release}
use Rattle.desk_model.specs.declared.state.ReleaseState.TheVariants.{Frozen}
use Rattle.desk_model.specs.declared.row.ChoiceRow.{ChoiceRow}
use Rattle.desk_model.specs.declared.row.ReleaseRow.{ReleaseRow}
use Rattle.desk_model.specs.declared.command.Change.{Change}
use Rattle.desk_model.proofs.Lists.{one_passes, one_any, each_passes}
use Rattle.desk_model.specs.declared.command.Change.TheVariants as change
use Rattle.desk_history.specs.Laws.{Ascends}
use Rattle.desk_history.specs.FromTables.{release_found}
use Rattle.desk_history.proofs.Distinct.{from_filter, from_put}
use Rattle.desk_access.specs.Follows.{Follows}
use Rattle.desk_tally.specs.Kept.{place_found}
use Rattle.desk_tally.proofs.Names.{found-put, found-updated, kept-put}
use Rattle.desk_memory_rows.specs.Holders.{AreHolders, choosing, holder_of, holder_order}
use Rattle.desk_memory_rows.specs.Holders.{holders_after, is_among, is_held, is_holder, is_holding}
use Rattle.desk_memory_rows.specs.Holders.{is_of, leaving, letting_go, withdrawing}
use Rattle.desk_memory_rows.specs.declared.holders.Holder.{Holder}
use Rattle.desk_memory_rows.proofs.FirstHolder.{held_by}
use Rattle.desk_memory_rows.proofs.Lists.{any_same, filter_alike}
use Rattle.desk_memory_rows.proofs.Lists.{in_filtered, in_front, in_further}
use Rattle.desk_memory_rows.proofs.Lists.{in_put_all, ones_put, others_put}
use Rattle.desk_base.proofs.Bools.{and_left, and_right, contrary}
use Rattle.desk_base.proofs.Numbers.{numbers_equal, same_number}
use Rattle.desk_base.proofs.Texts.{same_text, texts_equal}
use Rattle.desk_base.proofs.Lists.{filter_twice}

-- releases whose names and places are kept
in_updated : (test : ReleaseRow → Bool) (change : ReleaseRow → ReleaseRow)
    → ((row : ReleaseRow) → (change row).name ≡ row.name)
    → ((row : ReleaseRow) → (change row).place ≡ row.place)
    → (y : ReleaseRow) (rows : List ReleaseRow)
    → IsIn y (updated test change rows)
    → (x : ReleaseRow) × IsIn x rows × (y.name ≡ x.name) × (y.place ≡ x.place)
in_updated test change names places y [] is = absurd is
in_updated test change names places y (row ∷ rows) (inl same) = either (test row) same
  where
    either : (b : Bool) → (if b then change row else row) ≡ y
        → (x : ReleaseRow) × IsIn x (row ∷ rows) × (y.name ≡ x.name) × (y.place ≡ x.place)
    either true e = (
      row,
      inl refl,
      ap (λ (z : ReleaseRow). z.name) (sym e) ∙ names row,
      ap (λ (z : ReleaseRow). z.place) (sym e) ∙ places row,
    )
    either false e = (
      row,
      inl refl,
      ap (λ (z : ReleaseRow). z.name) (sym e),
      ap (λ (z : ReleaseRow). z.place) (sym e),
    )
in_updated test change names places y (row ∷ rows) (inr later) =
    let rest = in_updated test change names places y rows later in
    (rest.0, inr rest.1, rest.2, rest.3)

-- the holders that are left have their places, if the releases keep their names and places
updated_holders : (test : ReleaseRow → Bool) (change : ReleaseRow → ReleaseRow)
    → ((row : ReleaseRow) → (change row).name ≡ row.name)
    → ((row : ReleaseRow) → (change row).place ≡ row.place)
    → (all left : List Holder) (t later : Tables) → later.releases ≡ updated test change t.releases
    → ((x : Holder) → IsIn x left → IsIn x all)
    → ((r : List ℕ) (d : ℕ) (p : List ℕ)
    → list_any (is_holder r d p) left ≡ list_any (is_choice_of r d p) later.choice)
    → AreHolders all t → AreHolders left later
updated_holders test change names places all left t later is among holding held = record {
  placed = λ x there. ap (λ rows. place_found rows x.release) is
      ∙ (found-updated test change names places x.release t.releases
      ∙ held.placed x (among x there));
  holding = holding;
  apart = λ y there. let old = in_updated test change names places y t.releases
      (subst (IsIn y) is there) in
      ap (λ rows. place_found rows y.name) is
      ∙ (found-updated test change names places y.name t.releases
      ∙ (ap (place_found t.releases) old.2 ∙ (held.apart old.0 old.1 ∙ ap Some (sym old.3))));
}

no_row : (found : Option ReleaseRow) → is_some found ≡ false → found ≡ None
no_row None none = refl
no_row (Some row) none = cc

opened : (row : ReleaseRow) (all : List Holder) (t : Tables) → Ascends release_below t.releases
    → is_some (release_found t row.name) ≡ false → AreHolders all t
    → AreHolders all (applied (change.Opened row) t)
opened row all t up fresh held = record {
  placed = λ x is. kept-put row t.releases up x.release x.place (held.placed x is);
  holding = held.holding;
  apart = λ y is. elim (from_put release_below y row t.releases is) [
    | inl same ↦ subst (λ (z : ReleaseRow). place_found (put release_below row t.releases) z.name
        ≡ Some z.place) same own
    | inr old ↦ kept-put row t.releases up y.name y.place (held.apart y old)
  ];
}
  where
    none : place_found t.releases row.name ≡ None
    none = ap (option_map (λ (x : ReleaseRow). x.place)) (no_row (release_found t row.name) fresh)

    own : place_found (put release_below row t.releases) row.name ≡ Some row.place
    own = found-put row t.releases up row.name
        ∙ (ap (λ o. or_else o (if bytes_eq row.name row.name then Some row.place else None)) none
        ∙ ap (λ b. if b then Some row.place else None) (same_text row.name))

froze : (release : List ℕ) (revision : ℕ) (all : List Holder) (t later : Tables)
    → later.releases ≡ updated (is_release release) (with_release_state Frozen revision) t.releases
    → later.choice ≡ t.choice → AreHolders all t → AreHolders all later
froze release revision all t later is same held =
    updated_holders (is_release release) (with_release_state Frozen revision) (λ row. refl)
    (λ row. refl) all all t later is (λ x there. there)
    (λ r d p. held.holding r d p ∙ ap (list_any (is_choice_of r d p)) (sym same)) held

-- A release and a package

-- this release, document and package are those
record Same (r : List ℕ) (d : ℕ) (p r' : List ℕ) (d' : ℕ) (p' : List ℕ) : Type 0 where
  release : r ≡ r'
  document : d ≡ d'
  package_id : p ≡ p'

turned : {r p r' p' : List ℕ} {d d' : ℕ} → Same r d p r' d' p' → Same r' d' p' r d p
turned same = record {
  release = sym same.release;
  document = sym same.document;
  package_id = sym same.package_id;
}

carried : {r p r' p' : List ℕ} {d d' : ℕ} (P : List ℕ → ℕ → List ℕ → Type 0)
    → Same r d p r' d' p' → P r d p → P r' d' p'
carried {r} {p} {r'} {p'} {d} {d'} P same is =
    subst (λ s. P s d' p') same.release (subst (λ n. P r n p') same.document
    (subst (λ i. P r d i) same.package_id is))

holder_key : (r : List ℕ) (d : ℕ) (p : List ℕ) (x : Holder) → is_holder r d p x ≡ true
    → Same x.release x.document x.package_id r d p
holder_key r d p x e = record {
  release = texts_equal x.release r (and_left (bytes_eq x.release r) (is_held d p x) e);
  document = numbers_equal x.document d
      (and_left (x.document == d) (bytes_eq x.package_id p) (held_by r d p x e));
  package_id = texts_equal x.package_id p
      (and_right (x.document == d) (bytes_eq x.package_id p) (held_by r d p x e));
}

choice_key : (r : List ℕ) (d : ℕ) (p : List ℕ) (x : ChoiceRow) → is_choice_of r d p x ≡ true
    → Same x.release x.document x.package_id r d p
choice_key r d p x e =
    let front = and_left (bytes_eq x.release r && (x.document == d)) (bytes_eq x.package_id p) e in
    record {
      release = texts_equal x.release r (and_left (bytes_eq x.release r) (x.document == d) front);
      document = numbers_equal x.document d
          (and_right (bytes_eq x.release r) (x.document == d) front);
      package_id = texts_equal x.package_id p
          (and_right (bytes_eq x.release r && (x.document == d)) (bytes_eq x.package_id p) e);
    }

-- which of the holders are of one release, and which choices
module _ (t : Tables) (all : List Holder) (held : AreHolders all t) (r : List ℕ) where
  gone : (o : Option ℕ) → place_found t.releases r ≡ o → (d : ℕ) (p r' : List ℕ)
      → list_any (is_holder r' d p) (withdrawing r o all)
      ≡ list_any (is_choice_of r' d p) (filter (is_choice_elsewhere r) t.choice)
  gone o at d p r' = any_same (is_holder r' d p) (is_choice_of r' d p) (withdrawing r o all)
      (filter (is_choice_elsewhere r) t.choice) (there o at) (back o at)
    where
      elsewhere : r' ≢ r → list_any (is_holder r' d p) all ≡ true
          → list_any (is_choice_of r' d p) (filter (is_choice_elsewhere r) t.choice) ≡ true
      elsewhere differ some =
          let found = one_passes (is_choice_of r' d p) t.choice
          (sym (held.holding r' d p) ∙ some) in
          let x : ChoiceRow = found.0 in
          let name : x.release ≡ r' = (choice_key r' d p x found.2).release in
          let other : is_choice_in r x ≡ false =
          false_from_ne_true (bytes_eq x.release r)
          (λ e. differ (sym name ∙ texts_equal x.release r e)) in
          one_any (is_choice_of r' d p) x (filter (is_choice_elsewhere r) t.choice)
          (in_filtered (is_choice_elsewhere r) x t.choice found.1 (ap not other)) found.2

      there : (o : Option ℕ) → place_found t.releases r ≡ o
          → list_any (is_holder r' d p) (withdrawing r o all) ≡ true
          → list_any (is_choice_of r' d p) (filter (is_choice_elsewhere r) t.choice) ≡ true
      there None at some =
          let found = one_passes (is_holder r' d p) all some in
          let name = (holder_key r' d p found.0 found.2).release in
          elsewhere (λ same. let both_ways : Some (found.0).place ≡ None =
          sym (held.placed found.0 found.1) ∙ (ap (place_found t.releases) (name ∙ same) ∙ at) in
          cc) some
      there (Some place) at some =
          let found = one_passes (is_holder r' d p)
          (filter (λ holder. not (is_of place r holder)) all)
          some in
          let x : Holder = found.0 in
          let old = from_filter (λ holder. not (is_of place r holder)) x all found.1 in
          let name : x.release ≡ r' = (holder_key r' d p x found.2).release in
          elsewhere
          (λ same.
          let at_place : x.place ≡ place =
          same_Some x.place place (sym (held.placed x old.0)
          ∙ (ap (place_found t.releases) (name ∙ same) ∙ at)) in
          let of : is_of place r x ≡ true =
          and_from (x.place == place) (bytes_eq x.release r)
          (ap (λ n. n == place) at_place ∙ same_number place)
          (ap (λ n. bytes_eq n r) (name ∙ same) ∙ same_text r) in
          contrary (is_of place r x) of (not-true (is_of place r x) old.1))
          (one_any (is_holder r' d p) x all old.0 found.2)

      back : (o : Option ℕ) → place_found t.releases r ≡ o
          → list_any (is_choice_of r' d p) (filter (is_choice_elsewhere r) t.choice) ≡ true
          → list_any (is_holder r' d p) (withdrawing r o all) ≡ true
      back o at some =
          let found = one_passes (is_choice_of r' d p)
          (filter (is_choice_elsewhere r) t.choice) some in
          let x : ChoiceRow = found.0 in
          let old = from_filter (is_choice_elsewhere r) x t.choice found.1 in
          let name : x.release ≡ r' = (choice_key r' d p x found.2).release in
          let holder = one_passes (is_holder r' d p) all
          (held.holding r' d p ∙ one_any (is_choice_of r' d p) x t.choice old.0 found.2) in
          let h : Holder = holder.0 in
          let own : h.release ≡ r' = (holder_key r' d p h holder.2).release in
          let differ : r' ≢ r = λ same. contrary (bytes_eq x.release r)
          (ap (λ n. bytes_eq n r) (name ∙ same) ∙ same_text r)
          (not-true (bytes_eq x.release r) old.1) in
          stays o h holder.1 holder.2 (λ e. differ (sym own ∙ e))
        where
          stays : (o : Option ℕ) (h : Holder) → IsIn h all → is_holder r' d p h ≡ true
              → h.release ≢ r → list_any (is_holder r' d p) (withdrawing r o all) ≡ true
          stays None h is passes differ = one_any (is_holder r' d p) h all is passes
          stays (Some place) h is passes differ =
              let other : is_of place r h ≡ false =
              false_from_ne_true (is_of place r h) (λ e. differ
              (texts_equal h.release r (and_right (h.place == place) (bytes_eq h.release r) e))) in
              one_any (is_holder r' d p) h (filter (λ holder. not (is_of place r holder)) all)
              (in_filtered (λ holder. not (is_of place r holder)) h all is (ap not other)) passes

  left : (o : Option ℕ) (x : Holder) → IsIn x (withdrawing r o all) → IsIn x all
  left None x is = is
  left (Some place) x is = (from_filter (λ holder. not (is_of place r holder)) x all is).0

withdrew : (r : List ℕ) (all : List Holder) (t later : Tables)
    → later.releases ≡ updated (is_release r) withdrawn_release t.releases
    → later.choice ≡ filter (is_choice_elsewhere r) t.choice → AreHolders all t
    → AreHolders (withdrawing r (place_found t.releases r) all) later
withdrew r all t later is same held =
    let place = place_found t.releases r in
    updated_holders (is_release r) withdrawn_release (λ row. refl) (λ row. refl) all
    (withdrawing r place all) t later is (left t all held r place)
    (λ r' d p. gone t all held r place refl d p r' ∙ ap (list_any (is_choice_of r' d p)) (sym same))
    held

-- holders that are let go, one choice after another

-- first those of some choices, then those of others
pub let_go_both : (place : ℕ) (xs ys : List ChoiceRow) (all : List Holder)
    → letting_go place ys (letting_go place xs all) ≡ letting_go place (xs ++ ys) all
let_go_both place xs ys all =
    filter_twice (is_among place xs) (is_among place ys) all
    ∙ filter_alike (λ x. not (is_among place xs x || is_among place ys x))
    (λ x. not (is_among place (xs ++ ys) x)) all
    (λ x is. ap not (sym (list_any-append
    (λ (row : ChoiceRow). is_holding row.document row.package_id place row.release x) xs ys)))

-- the holder of one choice
pub let_go_one : (place : ℕ) (row : ChoiceRow) (all : List Holder)
    → filter (λ holder. not (is_holding row.document row.package_id place row.release holder)) all
    ≡ letting_go place (row ∷ []) all
let_go_one place row all =
    filter_alike (λ holder. not (is_holding row.document row.package_id place row.release holder))
    (λ holder. not (is_among place (row ∷ []) holder)) all
    (λ x is. ap not (sym (or-false
    (is_holding row.document row.package_id place row.release x))))

-- the holder of no choice
pub let_go_none : (place : ℕ) (all : List Holder) → letting_go place [] all ≡ all
let_go_none place [] = refl
let_go_none place (x ∷ all) = ap (λ l. x ∷ l) (let_go_none place all)

-- if the holders are right, those of a release's choices are all that are of the release
module _ (t : Tables) (all : List Holder) (held : AreHolders all t) (r : List ℕ) (place : ℕ) where
  abbrev own_choices : List ChoiceRow
  own_choices = filter (is_choice_in r) t.choice

  among_own : (x : Holder) → is_among place own_choices x ≡ true → is_of place r x ≡ true
  among_own x some =
      let found = one_passes (λ (row : ChoiceRow). is_holding row.document row.package_id place
      row.release x) own_choices some in
      let row : ChoiceRow = found.0 in
      let name : row.release ≡ r = texts_equal row.release r
      (from_filter (is_choice_in r) row t.choice found.1).1 in
      let parts : ((is_held row.document row.package_id x && (x.place == place))
      ≡ true) × (bytes_eq x.release row.release ≡ true) = (
        and_left (is_held row.document row.package_id x && (x.place == place))
            (bytes_eq x.release row.release) found.2,
        and_right (is_held row.document row.package_id x && (x.place == place))
            (bytes_eq x.release row.release) found.2,
      ) in
      and_from (x.place == place) (bytes_eq x.release r)
      (and_right (is_held row.document row.package_id x) (x.place == place) parts.0)
      (ap (bytes_eq x.release) (sym name) ∙ parts.1)

  own_among : (x : Holder) → IsIn x all → is_of place r x ≡ true
      → is_among place own_choices x ≡ true
  own_among x is of =
      let there : (x.place == place) ≡ true =
      and_left (x.place == place) (bytes_eq x.release r) of in
      let own : bytes_eq x.release r ≡ true =
      and_right (x.place == place) (bytes_eq x.release r) of in
      let held_here : is_held x.document x.package_id x ≡ true =
      and_from (x.document == x.document) (bytes_eq x.package_id x.package_id)
      (same_number x.document)
      (same_text x.package_id) in
      let some : list_any (is_choice_of r x.document x.package_id) t.choice ≡ true =
      sym (held.holding r x.document x.package_id)
      ∙ one_any (is_holder r x.document x.package_id) x all is
      (and_from (bytes_eq x.release r) (is_held x.document x.package_id x) own held_here) in
      let found = one_passes (is_choice_of r x.document x.package_id) t.choice some in
      let row : ChoiceRow = found.0 in
      let key = choice_key r x.document x.package_id row found.2 in
      let named : bytes_eq row.release r ≡ true = ap (λ n. bytes_eq n r) key.release
      ∙ same_text r in
      let release : row.release ≡ x.release = key.release ∙ sym (texts_equal x.release r own) in
      let same_package : is_held row.document row.package_id x ≡ true =
      and_from (x.document == row.document) (bytes_eq x.package_id row.package_id)
      (ap (λ n. x.document == n) key.document ∙ same_number x.document)
      (ap (bytes_eq x.package_id) key.package_id ∙ same_text x.package_id) in
      one_any (λ (c : ChoiceRow). is_holding c.document c.package_id place c.release x) row
      own_choices (in_filtered (is_choice_in r) row t.choice found.1 named)
      (and_from (is_held row.document row.package_id x && (x.place == place))
      (bytes_eq x.release row.release)
      (and_from (is_held row.document row.package_id x) (x.place == place) same_package there)
      (ap (bytes_eq x.release) release ∙ same_text x.release))

  alike_tests : (a b : Bool) → (a ≡ true → b ≡ true) → (b ≡ true → a ≡ true) → a ≡ b
  alike_tests true b there back = sym (there refl)
  alike_tests false true there back = back refl
  alike_tests false false there back = refl

  all_own : letting_go place own_choices all ≡ filter (λ holder. not (is_of place r holder)) all
  all_own =
      filter_alike (λ holder. not (is_among place own_choices holder))
      (λ holder. not (is_of place r holder)) all
      (λ x is. ap not (alike_tests (is_among place own_choices x) (is_of place r x) (among_own x)
      (own_among x is)))

pub leaves_all : (t : Tables) (all : List Holder) → AreHolders all t
    → (r : List ℕ) (place : Option ℕ)
    → leaving place (filter (is_choice_in r) t.choice) all ≡ withdrawing r place all
leaves_all t all held r None = refl
leaves_all t all held r (Some place) = all_own t all held r place

-- a choice for a package, in a release that exists
module _ (t : Tables) (all : List Holder) (held : AreHolders all t) (r : List ℕ) (d : ℕ)
    (p : List ℕ) (place : ℕ) (at : place_found t.releases r ≡ Some place) where
  abbrev others : List Holder
  others = filter (λ holder. not (is_holding d p place r holder)) all

  abbrev with_this : List Holder
  with_this = put (below_by holder_order) (holder_of r place d p) others

  -- for the holders, being this one by place is being this one by name
  own_place : (x : Holder) → IsIn x all → is_holder r d p x ≡ true → is_holding d p place r x ≡ true
  own_place x is e =
      let own = and_left (bytes_eq x.release r) (is_held d p x) e in
      let here : x.place ≡ place = same_Some x.place place
      (sym (held.placed x is) ∙ (ap (place_found t.releases) (texts_equal x.release r own) ∙ at)) in
      and_from (is_held d p x && (x.place == place)) (bytes_eq x.release r)
      (and_from (is_held d p x) (x.place == place) (held_by r d p x e)
      (ap (λ n. n == place) here ∙ same_number place)) own

  own_name : (x : Holder) → is_holding d p place r x ≡ true → is_holder r d p x ≡ true
  own_name x e = and_from (bytes_eq x.release r) (is_held d p x)
      (and_right (is_held d p x && (x.place == place)) (bytes_eq x.release r) e)
      (and_left (is_held d p x) (x.place == place)
      (and_left (is_held d p x && (x.place == place)) (bytes_eq x.release r) e))

  module _ (r' : List ℕ) (d' : ℕ) (p' : List ℕ) where
    -- the same package in the same release
    abbrev is_same : Bool
    is_same = is_holder r' d' p' (holder_of r place d p)

    is_same_by : {s i : List ℕ} {n : ℕ} → Same s n i r d p → Same s n i r' d' p' → is_same ≡ true
    is_same_by one other = carried (λ s n i. is_holder s n i (holder_of r place d p) ≡ true) other
        (carried (λ s n i. is_holder s n i (holder_of r place d p) ≡ true) (turned one)
        (rw (same_text r, same_number d, same_text p) refl))

    same : is_same ≡ true → Same r d p r' d' p'
    same e = holder_key r' d' p' (holder_of r place d p) e

    module _ (rows : List ChoiceRow) (own : list_all (is_choice_of r d p) rows ≡ true) where
      abbrev chosen : List ChoiceRow
      chosen = put_all (below_by choice_order) rows (filter (is_other_choice r d p) t.choice)

      -- a holder of another choice still holds that
      other_held : (x : Holder) → IsIn x all → is_holder r' d' p' x ≡ true
          → is_holding d p place r x ≡ false → list_any (is_choice_of r' d' p') chosen ≡ true
      other_held x is e other =
          let found = one_passes (is_choice_of r' d' p') t.choice
          (sym (held.holding r' d' p') ∙ one_any (is_holder r' d' p') x all is e) in
          let y : ChoiceRow = found.0 in
          either y found.1 found.2 (is_choice_of r d p y) refl
        where
          either : (y : ChoiceRow) → IsIn y t.choice → is_choice_of r' d' p' y ≡ true → (b : Bool)
              → is_choice_of r d p y ≡ b → list_any (is_choice_of r' d' p') chosen ≡ true
          either y there passes false f = one_any (is_choice_of r' d' p') y chosen
              (others_put (below_by choice_order) y rows (filter (is_other_choice r d p) t.choice)
              (in_filtered (is_other_choice r d p) y t.choice there (ap not f))) passes
          either y there passes true f =
              let key = turned (same (is_same_by (choice_key r d p y f)
              (choice_key r' d' p' y passes))) in
              absurd (contrary (is_holding d p place r x)
              (own_place x is (carried (λ s n i. is_holder s n i x ≡ true) key e)) other)

      -- a choice that is there was made now, or is another one
      choice_cases : list_any (is_choice_of r' d' p') chosen ≡ true
          → ((x : ChoiceRow) × IsIn x rows × (is_same ≡ true))
          ⊎ ((h : Holder) × IsIn h others × (is_holder r' d' p' h ≡ true))
      choice_cases some =
          let found = one_passes (is_choice_of r' d' p') chosen some in
          either found.0 found.2 (in_put_all (below_by choice_order) found.0 rows
          (filter (is_other_choice r d p) t.choice) found.1)
        where
          either : (x : ChoiceRow) → is_choice_of r' d' p' x ≡ true
              → IsIn x rows ⊎ IsIn x (filter (is_other_choice r d p) t.choice)
              → ((x : ChoiceRow) × IsIn x rows × (is_same ≡ true))
              ⊎ ((h : Holder) × IsIn h others × (is_holder r' d' p' h ≡ true))
          either x passes (inl new) = inl (
            x,
            new,
            is_same_by (choice_key r d p x (each_passes (is_choice_of r d p) x rows own new))
                (choice_key r' d' p' x passes),
          )
          either x passes (inr old) =
              let before = from_filter (is_other_choice r d p) x t.choice old in
              let elsewhere = not-true (is_choice_of r d p x) before.1 in
              let holder = one_passes (is_holder r' d' p') all
              (held.holding r' d' p' ∙ one_any
              (is_choice_of r' d' p') x t.choice before.0 passes) in
              let h : Holder = holder.0 in
              let other : is_holding d p place r h ≡ false =
              false_from_ne_true (is_holding d p place r h)
              (λ e. contrary (is_choice_of r d p x)
              (carried (λ s n i. is_choice_of s n i x ≡ true) (turned (same (is_same_by
              (holder_key r d p h (own_name h e)) (holder_key r' d' p' h holder.2)))) passes)
              elsewhere) in
              inr (
                h,
                in_filtered (λ holder. not (is_holding d p place r holder)) h all holder.1
                    (ap not other),
                holder.2,
              )

      others_hold : list_any (is_holder r' d' p') others ≡ true
          → list_any (is_choice_of r' d' p') chosen ≡ true
      others_hold some =
          let found = one_passes (is_holder r' d' p') others some in
          let old = from_filter (λ holder. not (is_holding d p place r holder)) found.0 all
          found.1 in
          other_held found.0 old.0 found.2 (not-true (is_holding d p place r found.0) old.1)

  choosing_holds : (rows : List ChoiceRow) → list_all (is_choice_of r d p) rows ≡ true
      → (r' : List ℕ) (d' : ℕ) (p' : List ℕ)
      → list_any (is_holder r' d' p') (choosing r (Some place) d p rows all)
      ≡ list_any (is_choice_of r' d' p')
      (put_all (below_by choice_order) rows (filter (is_other_choice r d p) t.choice))
  choosing_holds [] own r' d' p' =
      any_same (is_holder r' d' p') (is_choice_of r' d' p') others (chosen r' d' p' [] own)
      (others_hold r' d' p' [] own)
      (λ some. elim (choice_cases r' d' p' [] own some) [
        | inl new ↦ absurd new.1
        | inr old ↦ one_any (is_holder r' d' p') old.0 others old.1 old.2
      ])
  choosing_holds (row ∷ rows) own r' d' p' =
      any_same (is_holder r' d' p') (is_choice_of r' d' p')
      with_this (chosen r' d' p' (row ∷ rows) own)
      (λ some. there (one_passes (is_holder r' d' p') with_this some))
      (λ some. elim (choice_cases r' d' p' (row ∷ rows) own some) [
        | inl new ↦ one_any (is_holder r' d' p') (holder_of r place d p) with_this
            (in_front (below_by holder_order) (holder_of r place d p) others) new.2
        | inr old ↦ one_any (is_holder r' d' p') old.0 with_this
            (in_further (below_by holder_order) (holder_of r place d p) old.0 others old.1) old.2
      ])
    where
      own_choice : is_same r' d' p' ≡ true
          → list_any (is_choice_of r' d' p') (chosen r' d' p' (row ∷ rows) own) ≡ true
      own_choice at = one_any (is_choice_of r' d' p') row (chosen r' d' p' (row ∷ rows) own)
          (ones_put (below_by choice_order) row (row ∷ rows)
          (filter (is_other_choice r d p) t.choice) (inl refl))
          (carried (λ s n i. is_choice_of s n i row ≡ true) (same r' d' p' at)
          (and_left (is_choice_of r d p row) (list_all (is_choice_of r d p) rows) own))

      there : (x : Holder) × IsIn x with_this
          × (is_holder r' d' p' x ≡ true)
          → list_any (is_choice_of r' d' p') (chosen r' d' p' (row ∷ rows) own) ≡ true
      there found = elim (from_put (below_by holder_order) found.0 (holder_of r place d p) others
          found.1) [
            | inl same ↦ own_choice (subst (λ x. is_holder r' d' p' x ≡ true) (sym same) found.2)
            | inr old ↦ others_hold r' d' p' (row ∷ rows) own
                (one_any (is_holder r' d' p') found.0 others old found.2)
          ]

  choosing_placed : (rows : List ChoiceRow) (x : Holder)
      → IsIn x (choosing r (Some place) d p rows all)
      → place_found t.releases x.release ≡ Some x.place
  choosing_placed [] x is = held.placed x
      (from_filter (λ holder. not (is_holding d p place r holder)) x all is).0
  choosing_placed (row ∷ rows) x is = elim (from_put (below_by holder_order) x
      (holder_of r place d p) others is) [
        | inl same ↦ subst (λ (y : Holder). place_found t.releases y.release ≡ Some y.place) same at
        | inr old ↦ held.placed x (from_filter (λ holder. not (is_holding d p place r holder)) x all
            old).0
      ]

chose : (r : List ℕ) (d : ℕ) (p : List ℕ) (rows : List ChoiceRow) (all : List Holder) (t : Tables)
    → is_some (release_found t r) ≡ true → list_all (is_choice_of r d p) rows ≡ true
    → AreHolders all t
    → AreHolders (choosing r (place_found t.releases r) d p rows all)
    (applied (change.Chosen r d p rows) t)
chose r d p rows all t stands own held = either (release_found t r) refl stands
  where
    either : (o : Option ReleaseRow) → release_found t r ≡ o → is_some o ≡ true
        → AreHolders (choosing r (place_found t.releases r) d p rows all)
        (applied (change.Chosen r d p rows) t)
    either None e none = absurd (cc)
    either (Some row) e some =
        let at : place_found t.releases r ≡ Some row.place =
        ap (option_map (λ (x : ReleaseRow). x.place)) e in
        let made : AreHolders (choosing r (Some row.place) d p rows all) (applied
        (change.Chosen r d p rows) t) = record {
          placed = choosing_placed t all held r d p row.place at rows;
          holding = choosing_holds t all held r d p row.place at rows own;
          apart = held.apart;
        } in
        subst (λ o. AreHolders (choosing r o d p rows all) (applied (change.Chosen r d p rows) t))
        (sym at) made

-- a change that follows leaves the holders of the tables after it
pub holders_kept : (c : Change) (t : Tables) (all : List Holder) → Ascends release_below t.releases
    → Follows c t → AreHolders all t → AreHolders (holders_after c t all) (applied c t)
holders_kept (change.Opened row) t all up follows held = opened row all t up follows.1 held
holders_kept (change.Chosen r d p rows) t all up follows held = chose r d p rows all t follows.0
    follows.1 held
holders_kept (change.Froze r revision rows duties changes) t all up follows held = froze r revision
    all t (applied (change.Froze r revision rows duties changes) t) refl refl held
holders_kept (change.Withdrew r rows) t all up follows held =
    subst (λ left. AreHolders left (applied (change.Withdrew r rows) t))
    (sym (leaves_all t all held r (place_found t.releases r)))
    (withdrew r all t (applied (change.Withdrew r rows) t) refl refl held)
holders_kept c t all up follows held = record {
  placed = held.placed;
  holding = held.holding;
  apart = held.apart;
}

-- those of an empty desk
pub no_holders : (t : Tables) → t.releases ≡ [] → t.choice ≡ [] → AreHolders [] t
no_holders t none empty = record {
  placed = λ x is. absurd is;
  holding = λ r d p. ap (list_any (is_choice_of r d p)) (sym empty);
  apart = λ row is. absurd (subst (IsIn row) none is);
}
