-- A frozen release's choices are its frozen terms, in the same order.
use Rattle.std.proofs.Common.{◌≡◌, ◌≢◌, ℕ, Bool, true, false, List, [], ◌∷◌, map, Option, Some}
use Rattle.std.proofs.Common.{None, refl, sym, ap, ◌∙◌, subst, inl, inr}
use Rattle.std.specs.Prelude.{pos, filter, unwrap_or}
use Rattle.std.specs.Ordering.{nat_cmp, ordering_then}
use Rattle.std.specs.Cmp.{IsTotalOrder}
use Rattle.std.specs.Cmp.Lexicographic.{slice_cmp}
use Rattle.std.specs.Str.{bytes_eq}
use Rattle.std.specs.declared.cmp.Ordering.TheVariants.{Equal}
use Rattle.std.proofs.lemmas.Cmp.{nat_cmp_total, nat_list_cmp_total, on_total, then_total}
use Rattle.std.proofs.lemmas.List.{map-append}
use Rattle.std.proofs.lemmas.Simd.{map-map}
use Rattle.desk_base.proofs.Numbers.{same_number}
use Rattle.desk_base.proofs.Texts.{texts_equal, same_text}
use Rattle.desk_base.proofs.Orders.{both_equal, texts_tie}
use Rattle.desk_model.specs.Lists.{IsIn, in_order}
use Rattle.desk_model.specs.Keys as key
use Rattle.desk_model.specs.Keys.{below_by, choice_order, frozen_order}
use Rattle.desk_model.specs.Names.{release_state_name}
use Rattle.desk_model.specs.Readings.{Readings}
use Rattle.desk_model.specs.Texts.{text_below}
use Rattle.desk_model.specs.History.{choice, form_of, in_force, names, rules_in, state_of}
use Rattle.desk_model.specs.Conclusions.{adoptions}
use Rattle.desk_model.specs.Raised.{chosen_in, frozen, frozen_at, frozen_for_terms, frozen_under, rule_adopted, shipped}
use Rattle.desk_model.specs.Answers.{IsHistory}
use Rattle.desk_model.specs.Tables.{choice_row, choices, release_row, release_rows, standing, tables}
use Rattle.desk_model.specs.declared.reading.Rule.{Rule}
use Rattle.desk_model.specs.declared.row.ChoiceRow.{ChoiceRow}
use Rattle.desk_model.specs.declared.row.FrozenRow.{FrozenRow}
use Rattle.desk_model.specs.declared.row.PackageRow.{PackageRow}
use Rattle.desk_model.specs.declared.state.ReleaseState.{ReleaseState}
use Rattle.desk_model.specs.declared.state.ReleaseState.TheVariants.{IsOpen, Frozen, Withdrawn}
use Rattle.desk_model.specs.declared.command.Command.{Command}
use Rattle.desk_model.specs.declared.command.Command.TheVariants.{Freeze}
use Rattle.desk_history.specs.Laws.{AreDistinct, IsFrozenTerm, Rises}
use Rattle.desk_history.proofs.Members.{from_flat_map, from_map, in_map}
use Rattle.desk_history.proofs.Orders.{choice_is_order}
use Rattle.desk_history.proofs.OwnKeys.{distinct-shipped, open_at, place_of, not_below_itself}
use Rattle.desk_history.proofs.Sorting.{frozen_is_order}
use Rattle.desk_history.proofs.Distinct.{from_filter, distinct-append, distinct-flat_map}
use Rattle.desk_history.proofs.Rows.{filter-map}
use Rattle.desk_history.proofs.Rising.{rises-filter, rises-map}
use Rattle.desk_history_laws.specs.Billed.{ListsPackagesOnce}
use Rattle.desk_history_laws.specs.Standing.{frozen_row}
use Rattle.desk_snapshot.specs.Conditions as audit
use Rattle.desk_snapshot.specs.Conditions.{IsKept}
use Rattle.desk_snapshot.specs.Rows as stored
use Rattle.desk_snapshot.specs.Tables.{choice_stored, frozen_stored, release_stored, snapshot_of}
use Rattle.desk_snapshot.specs.declared.rows.StoredChoice.{StoredChoice}
use Rattle.desk_snapshot.specs.declared.rows.StoredFrozen.{StoredFrozen}
use Rattle.desk_snapshot.specs.declared.rows.StoredRelease.{StoredRelease}
use Rattle.desk_history_laws.proofs.Orders.{distinct_alike, distinct_map}
use Rattle.desk_history_laws.proofs.Orders.{numbers_tie, order_rises}
use Rattle.desk_history_laws.proofs.Orders.{rises_distinct, same_rising, ties}
use Rattle.desk_history_laws.proofs.HeldRows.{choice_rises, SetsRise, Stands}
use Rattle.desk_history_laws.proofs.FrozenRows.{closed_behind}
use Rattle.desk_history_laws.proofs.Members.{in_filter}

-- the choice that a frozen term was
abbrev choice_of : FrozenRow → ChoiceRow
choice_of f = record {
  release = f.release;
  document = f.document;
  package_id = f.package_id;
  term = f.term;
}

-- ---- rows with the same key

choice_total : IsTotalOrder choice_order
choice_total =
    then_total (on_total (λ (row : ChoiceRow). row.release) nat_list_cmp_total)
    (then_total (on_total (λ (row : ChoiceRow). row.document) nat_cmp_total)
    (then_total (on_total (λ (row : ChoiceRow). row.package_id) nat_list_cmp_total)
    (on_total (λ (row : ChoiceRow). row.term) nat_list_cmp_total)))

same_row : (x y : ChoiceRow) → choice_order x y ≡ Equal → x ≡ y
same_row x y e =
    let one = both_equal (slice_cmp nat_cmp x.release y.release)
    (ordering_then (nat_cmp x.document y.document)
    (ordering_then (slice_cmp nat_cmp x.package_id y.package_id) (slice_cmp nat_cmp x.term y.term)))
    e in
    let two = both_equal (nat_cmp x.document y.document)
    (ordering_then (slice_cmp nat_cmp x.package_id y.package_id) (slice_cmp nat_cmp x.term y.term))
    one.1 in
    let three = both_equal (slice_cmp nat_cmp x.package_id y.package_id)
    (slice_cmp nat_cmp x.term y.term) two.1 in
    λ i. record {
      release = texts_tie x.release y.release one.0 i;
      document = numbers_tie x.document y.document two.0 i;
      package_id = texts_tie x.package_id y.package_id three.0 i;
      term = texts_tie x.term y.term three.1 i;
    }

same_choice : (x y : ChoiceRow) → below_by choice_order x y ≡ false
    → below_by choice_order y x ≡ false → x ≡ y
same_choice x y e f = same_row x y (ties choice_total x y e f)

-- ---- no choice is there twice

own : (row : ChoiceRow) → key.is_choice_of row.release row.document row.package_id row ≡ true
own row = rw (same_text row.release, same_number row.document, same_text row.package_id) refl

distinct_standing : Stands → SetsRise → (w : Readings) (h : List Command)
    → AreDistinct (standing w h)
distinct_standing stands sets w h =
    distinct_alike (λ (x y : ChoiceRow). key.is_choice_of x.release x.document x.package_id y) own
    (standing w h) (λ x.
    subst AreDistinct (sym (stands w h x.release x.document x.package_id))
    (distinct_map (choice_row x.release x.document x.package_id)
    (choice w h x.release x.document x.package_id) (λ a b e. ap (λ (row : ChoiceRow). row.term) e)
    (rises_distinct text_below not_below_itself (choice w h x.release x.document x.package_id)
    (choice_rises sets w h x.release x.document x.package_id))))

pub choices_rise : Stands → SetsRise → (w : Readings) (h : List Command)
    → Rises (below_by choice_order) (choices w h)
choices_rise stands sets w h =
    order_rises (below_by choice_order) choice_is_order (λ (row : ChoiceRow). row) same_choice
    (standing w h)
    (distinct_map (λ (row : ChoiceRow). row) (standing w h) (λ x y e. e)
    (distinct_standing stands sets w h))

-- ---- no term is frozen twice

abbrev package_of : ChoiceRow → ℕ × List ℕ
package_of c = (c.document, c.package_id)

abbrev Placed : List ℕ → PackageRow → List ℕ → FrozenRow → Type 0
Placed r p term f = (f.release ≡ r) × (package_of (choice_of f) ≡ place_of p) × (f.term ≡ term)

placed_under : (r : List ℕ) (p : PackageRow) (term : List ℕ) (o : Option Rule) (f : FrozenRow)
    → IsIn f (frozen_under r p term o) → Placed r p term f
placed_under r p term None f m = absurd m
placed_under r p term (Some rule) f (inl same) = subst (Placed r p term) same (refl, refl, refl)
placed_under r p term (Some rule) f (inr m) = absurd m

distinct_under : (r : List ℕ) (p : PackageRow) (term : List ℕ) (o : Option Rule)
    → AreDistinct (map choice_of (frozen_under r p term o))
distinct_under r p term None = tt
distinct_under r p term (Some rule) = (λ m. m, tt)

module _ (w : Readings) (h : List Command) (r : List ℕ) where
  abbrev form : List ℕ
  form = unwrap_or (form_of h r) []

  abbrev rule_of_term : PackageRow → List ℕ → Option Rule
  rule_of_term p term = rule_adopted w (adoptions w h) (rules_in (in_force w h)) form p.document
      term

  abbrev rows_of : PackageRow → List FrozenRow
  rows_of p = frozen_for_terms w (adoptions w h) (rules_in (in_force w h)) form r p
      (chosen_in w h r p)

  placed : (p : PackageRow) (f : FrozenRow) → IsIn f (rows_of p)
      → (f.release ≡ r) × (package_of (choice_of f) ≡ place_of p)
  placed p f m =
      let at = from_flat_map (λ (term : List ℕ). frozen_under r p term (rule_of_term p term)) f
      (chosen_in w h r p) m in
      let is = placed_under r p at.0 (rule_of_term p at.0) f at.2 in
      (is.0, is.1)

  release_of : (f : FrozenRow) → IsIn f (frozen_at w h r) → f.release ≡ r
  release_of f m = let at = from_flat_map rows_of f (shipped w h r) m in (placed at.0 f at.2).0

  distinct_at : SetsRise → ListsPackagesOnce w → IsHistory w h
      → AreDistinct (map choice_of (frozen_at w h r))
  distinct_at sets once ok =
      distinct-flat_map rows_of choice_of package_of place_of (shipped w h r)
      (λ p f m. (placed p f m).1) (distinct-shipped w once h r ok) (λ p m.
      distinct-flat_map (λ (term : List ℕ). frozen_under r p term (rule_of_term p term)) choice_of
      (λ (c : ChoiceRow). c.term) (λ (term : List ℕ). term) (chosen_in w h r p)
      (λ term f n. (placed_under r p term (rule_of_term p term) f n).2)
      (distinct_map (λ (term : List ℕ). term) (chosen_in w h r p) (λ x y e. e)
      (rises_distinct text_below not_below_itself (chosen_in w h r p)
      (choice_rises sets w h r p.document p.id)))
      (λ term n. distinct_under r p term (rule_of_term p term)))

abbrev pub WereHeld : Type 0
WereHeld = (w : Readings) (h : List Command) (f : FrozenRow) → IsIn f (frozen w h)
    → IsFrozenTerm w h f

distinct_frozen : SetsRise → WereHeld → (w : Readings) → ListsPackagesOnce w → (h : List Command)
    → IsHistory w h → AreDistinct (map choice_of (frozen w h))
distinct_frozen sets held w once [] ok = tt
distinct_frozen sets held w once (Freeze r day ∷ h) ok =
    let apart : (c : ChoiceRow) → IsIn c (map choice_of (frozen_at w h r)) → IsIn c (map choice_of
    (frozen w h)) → ⊥ =
    λ c a b. (let new = from_map choice_of c (frozen_at w h r) a in
    let old = from_map choice_of c (frozen w h) b in
    let is = held w h old.0 old.1 in
    let same : old.0.release ≡ r = ap (λ (c : ChoiceRow). c.release) (old.2 ∙ sym new.2)
    ∙ release_of w h r new.0 new.1 in
    let closed : state_of h old.0.release ≢ IsOpen =
    subst (λ (h : List Command). state_of h old.0.release ≢ IsOpen) (sym is.split)
    (closed_behind is.later is.before old.0.release is.day) in
    closed (ap (state_of h) same ∙ open_at w h r day ok.0)) in
    subst AreDistinct (sym (map-append choice_of (frozen_at w h r) (frozen w h)))
    (distinct-append (map choice_of (frozen_at w h r)) (map choice_of (frozen w h))
    (distinct_at w h r sets once ok.1) (distinct_frozen sets held w once h ok.1) apart)
distinct_frozen sets held w once (c ∷ h) ok = distinct_frozen sets held w once h ok.1

abbrev table : Readings → List Command → List FrozenRow
table w h = in_order (below_by frozen_order) (frozen w h)

pub frozen_rises : SetsRise → WereHeld → (w : Readings) → ListsPackagesOnce w → (h : List Command)
    → IsHistory w h → Rises (below_by frozen_order) (in_order (below_by frozen_order) (frozen w h))
frozen_rises sets held w once h ok =
    order_rises (below_by frozen_order) frozen_is_order choice_of
    (λ x y e f. same_choice (choice_of x) (choice_of y) e f) (frozen w h)
    (distinct_frozen sets held w once h ok)

-- ---- both lists are equal

abbrev pub ChosenRows : Type 0
ChosenRows = (w : Readings) (h : List Command) (row : ChoiceRow) → IsIn row (choices w h)
    → IsIn row.term (choice w h row.release row.document row.package_id)

abbrev pub RowsOfChosen : Type 0
RowsOfChosen = (w : Readings) (h : List Command) (row : ChoiceRow)
    → IsIn row.term (choice w h row.release row.document row.package_id) → IsIn row (choices w h)

abbrev pub FrozenHeld : Type 0
FrozenHeld = (w : Readings) (h : List Command) (row : FrozenRow) → IsHistory w h
    → state_of h row.release ≡ Frozen → (let t = tables w h in IsIn row t.frozen)
    → IsIn row.term (choice w h row.release row.document row.package_id)

abbrev pub HeldFrozen : Type 0
HeldFrozen = (w : Readings) (h : List Command) (r : List ℕ) (d : ℕ) (p term : List ℕ)
    → IsHistory w h → state_of h r ≡ Frozen → IsIn term (choice w h r d p)
    → (rule : List ℕ) × (let t = tables w h in IsIn (frozen_row r d p term rule) t.frozen)

abbrev of_release : List ℕ → FrozenRow → Bool
of_release r f = bytes_eq f.release r

module _ (w : Readings) (h : List Command) (ok : IsHistory w h) (r : List ℕ)
    (is_so : state_of h r ≡ Frozen) where
  to_frozen : ChosenRows → HeldFrozen → (c : ChoiceRow)
      → IsIn c (filter (key.is_choice_in r) (choices w h))
      → IsIn c (map choice_of (filter (of_release r) (table w h)))
  to_frozen chosen held c m =
      let at = from_filter (key.is_choice_in r) c (choices w h) m in
      let same : c.release ≡ r = texts_equal c.release r at.1 in
      let found = held w h c.release c.document c.package_id c.term ok
      (ap (state_of h) same ∙ is_so) (chosen w h c at.0) in
      let f = frozen_row c.release c.document c.package_id c.term found.0 in
      in_map choice_of f (filter (of_release r) (table w h))
      (in_filter (of_release r) f (table w h) at.1 found.1)

  to_chosen : RowsOfChosen → FrozenHeld → (c : ChoiceRow)
      → IsIn c (map choice_of (filter (of_release r) (table w h)))
      → IsIn c (filter (key.is_choice_in r) (choices w h))
  to_chosen rows held c m =
      let at = from_map choice_of c (filter (of_release r) (table w h)) m in
      let f = at.0 in
      let there = from_filter (of_release r) f (table w h) at.1 in
      let same : f.release ≡ r = texts_equal f.release r there.1 in
      let here : IsIn (choice_of f) (choices w h) =
      rows w h (choice_of f) (held w h f ok (ap (state_of h) same ∙ is_so) there.0) in
      subst (λ (c : ChoiceRow). IsIn c (filter (key.is_choice_in r) (choices w h))) at.2
      (in_filter (key.is_choice_in r) (choice_of f) (choices w h) there.1 here)

frozen_named : (s : ReleaseState)
    → bytes_eq (release_state_name s) (release_state_name Frozen) ≡ true → s ≡ Frozen
frozen_named IsOpen e = cc
frozen_named Frozen e = refl
frozen_named Withdrawn e = cc

abbrev held_stored : ChoiceRow → audit.Held
held_stored c = record { document = pos c.document; package_id = c.package_id; term = c.term }

abbrev held_choice : StoredChoice → audit.Held
held_choice row = record { document = row.document; package_id = row.package_id; term = row.term }

abbrev held_term : StoredFrozen → audit.Held
held_term row = record { document = row.document; package_id = row.package_id; term = row.term }

chosen_stored : (w : Readings) (h : List Command) (r : List ℕ)
    → audit.chosen_in (snapshot_of (tables w h)) r
    ≡ map held_stored (filter (key.is_choice_in r) (choices w h))
chosen_stored w h r =
    ap (map held_choice) (filter-map (stored.is_choice_in r) choice_stored (choices w h))
    ∙ map-map held_choice choice_stored (filter (key.is_choice_in r) (choices w h))

terms_stored : (w : Readings) (h : List Command) (r : List ℕ)
    → audit.frozen_in (snapshot_of (tables w h)) r
    ≡ map held_stored (map choice_of (filter (of_release r) (table w h)))
terms_stored w h r =
    ap (map held_term) (filter-map (stored.is_frozen_in r) frozen_stored (table w h))
    ∙ (map-map held_term frozen_stored (filter (of_release r) (table w h))
    ∙ sym (map-map held_stored choice_of (filter (of_release r) (table w h))))

pub kept_terms : Stands → SetsRise → WereHeld → ChosenRows → RowsOfChosen → FrozenHeld → HeldFrozen
    → (w : Readings) → ListsPackagesOnce w → (h : List Command) → IsHistory w h
    → (release : StoredRelease) → IsIn release (map release_stored (release_rows h))
    → IsKept (snapshot_of (tables w h)) release
kept_terms stands sets were chosen rows frozen_held held_frozen w once h ok release m =
    let at = from_map release_stored release (release_rows h) m in
    let by = from_map (release_row h) at.0 (names h) at.1 in
    let r = by.0 in
    subst (IsKept (snapshot_of (tables w h))) (ap release_stored by.2 ∙ at.2) (λ e.
    let is_so : state_of h r ≡ Frozen = frozen_named (state_of h r) e in
    let one : filter (key.is_choice_in r) (choices w h) ≡ map choice_of (filter (of_release r)
    (table w h)) =
    same_rising (below_by choice_order) choice_is_order (filter (key.is_choice_in r) (choices w h))
    (map choice_of (filter (of_release r) (table w h)))
    (rises-filter (below_by choice_order) (key.is_choice_in r) (choices w h)
    (choices_rise stands sets w h))
    (rises-map choice_of (below_by frozen_order) (below_by choice_order) (λ x y e. e)
    (filter (of_release r) (table w h))
    (rises-filter (below_by frozen_order) (of_release r) (table w h)
    (frozen_rises sets were w once h ok)))
    (to_frozen w h ok r is_so chosen held_frozen) (to_chosen w h ok r is_so rows frozen_held) in
    chosen_stored w h r ∙ (ap (map held_stored) one ∙ sym (terms_stored w h r)))
