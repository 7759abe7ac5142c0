-- The rows of a snapshot determine those of the tables that it shows.
use Rattle.std.proofs.Common.{◌≡◌, ℕ, zero, suc, ◌<◌, ◌+◌, pos, Bool, true, false, List, [], ◌∷◌}
use Rattle.std.proofs.Common.{Option, Some, None, Ok, Err, Result, map, find, get_or, length, refl}
use Rattle.std.proofs.Common.{sym, ap, ap₂, subst, ◌∙◌, arith}
use Rattle.std.specs.Prelude.{◌==◌, IfErr, IfSome, is_some}
use Rattle.std.proofs.lemmas.Bool.Decides.{nat_tests}
use Rattle.std.proofs.lemmas.List.{length-map}
use Rattle.std.specs.List.{AllByRecursion}
use Rattle.std.specs.Option.{option_and_then, option_map}
use Rattle.std.specs.Ordering.{int_eq}
use Rattle.std.specs.Result.{result_ok}
use Rattle.desk_model.specs.History.{forms_in}
use Rattle.desk_model.specs.Readings.{Readings}
use Rattle.desk_model.specs.Tables.{Tables}
use Rattle.desk_model.specs.declared.command.Fault.{Fault}
use Rattle.desk_model.specs.declared.command.Fault.TheVariants.{Memory}
use Rattle.desk_tally.specs.Kept.{are_countable}
use Rattle.desk_tally.specs.declared.tallies.Tallies.{Tallies}
use Rattle.desk_snapshot.specs.declared.snapshot.Snapshot.{Snapshot}
use Rattle.desk_beside.specs.Beside.{CanKeep, ShowsTables, body_of, forms_by}
use Rattle.desk_model.specs.Keys.{is_revision}
use Rattle.desk_model.specs.Names.{duty_state_name, release_state_name}
use Rattle.desk_model.specs.declared.row.CatalogueRow.{CatalogueRow}
use Rattle.desk_model.specs.declared.row.DutyRow.{DutyRow}
use Rattle.desk_model.specs.declared.row.ReleaseRow.{ReleaseRow}
use Rattle.desk_model.specs.declared.state.DutyState.{DutyState}
use Rattle.desk_model.specs.declared.state.DutyState.TheVariants as duty
use Rattle.desk_model.specs.declared.state.ReleaseState.{ReleaseState}
use Rattle.desk_model.specs.declared.state.ReleaseState.TheVariants as release
use Rattle.desk_snapshot.specs.Tables.{catalogue_stored, duty_stored, release_stored}
use Rattle.desk_snapshot.specs.declared.rows.StoredCatalogue.{StoredCatalogue}
use Rattle.desk_snapshot.specs.declared.rows.StoredDuty.{StoredDuty}
use Rattle.desk_snapshot.specs.declared.rows.StoredRelease.{StoredRelease}

release_state_same : (a b : ReleaseState) → release_state_name a ≡ release_state_name b → a ≡ b
release_state_same release.IsOpen release.IsOpen is = refl
release_state_same release.IsOpen release.Frozen is = absurd (cc)
release_state_same release.IsOpen release.Withdrawn is = absurd (cc)
release_state_same release.Frozen release.IsOpen is = absurd (cc)
release_state_same release.Frozen release.Frozen is = refl
release_state_same release.Frozen release.Withdrawn is = absurd (cc)
release_state_same release.Withdrawn release.IsOpen is = absurd (cc)
release_state_same release.Withdrawn release.Frozen is = absurd (cc)
release_state_same release.Withdrawn release.Withdrawn is = refl

duty_state_same : (a b : DutyState) → duty_state_name a ≡ duty_state_name b → a ≡ b
duty_state_same duty.IsOpen duty.IsOpen is = refl
duty_state_same duty.IsOpen duty.Met is = absurd (cc)
duty_state_same duty.IsOpen duty.Waived is = absurd (cc)
duty_state_same duty.IsOpen duty.Withdrawn is = absurd (cc)
duty_state_same duty.Met duty.IsOpen is = absurd (cc)
duty_state_same duty.Met duty.Met is = refl
duty_state_same duty.Met duty.Waived is = absurd (cc)
duty_state_same duty.Met duty.Withdrawn is = absurd (cc)
duty_state_same duty.Waived duty.IsOpen is = absurd (cc)
duty_state_same duty.Waived duty.Met is = absurd (cc)
duty_state_same duty.Waived duty.Waived is = refl
duty_state_same duty.Waived duty.Withdrawn is = absurd (cc)
duty_state_same duty.Withdrawn duty.IsOpen is = absurd (cc)
duty_state_same duty.Withdrawn duty.Met is = absurd (cc)
duty_state_same duty.Withdrawn duty.Waived is = absurd (cc)
duty_state_same duty.Withdrawn duty.Withdrawn is = refl

same_number : (m n : ℕ) → pos m ≡ pos n → m ≡ n
same_number m n is = cc

release_same : (a b : ReleaseRow) → release_stored a ≡ release_stored b → a ≡ b
release_same a b is =
    let name = ap (λ (r : StoredRelease). r.name) is in
    let place = same_number a.place b.place (ap (λ (r : StoredRelease). r.place) is) in
    let form = ap (λ (r : StoredRelease). r.form) is in
    let state = release_state_same a.state b.state (ap (λ (r : StoredRelease). r.state) is) in
    let revision = same_number a.revision b.revision
    (ap (λ (r : StoredRelease). r.revision) is) in
    λ i. record {
      name = name i;
      place = place i;
      form = form i;
      state = state i;
      revision = revision i;
    }

duty_same : (a b : DutyRow) → duty_stored a ≡ duty_stored b → a ≡ b
duty_same a b is =
    let number = same_number a.number b.number (ap (λ (r : StoredDuty). r.number) is) in
    let name = ap (λ (r : StoredDuty). r.release) is in
    let document = same_number a.document b.document (ap (λ (r : StoredDuty). r.document) is) in
    let id = ap (λ (r : StoredDuty). r.package_id) is in
    let term = ap (λ (r : StoredDuty). r.term) is in
    let code = ap (λ (r : StoredDuty). r.code) is in
    let rule = ap (λ (r : StoredDuty). r.rule) is in
    let state = duty_state_same a.state b.state (ap (λ (r : StoredDuty). r.state) is) in
    λ i. record {
      number = number i;
      release = name i;
      document = document i;
      package_id = id i;
      term = term i;
      code = code i;
      rule = rule i;
      state = state i;
    }

all_same : {X Y : Type 0} (f : X → Y) → ((a b : X) → f a ≡ f b → a ≡ b) → (xs ys : List X)
    → map f xs ≡ map f ys → xs ≡ ys
all_same f same [] [] is = refl
all_same f same [] (y ∷ ys) is = absurd (cc)
all_same f same (x ∷ xs) [] is = absurd (cc)
all_same f same (x ∷ xs) (y ∷ ys) is =
    let one : f x ≡ f y = cc in
    let more : map f xs ≡ map f ys = cc in
    rw (same x y one, all_same f same xs ys more) refl

pub releases_same : (xs ys : List ReleaseRow) → map release_stored xs ≡ map release_stored ys
    → xs ≡ ys
releases_same = all_same release_stored release_same

pub duties_same : (xs ys : List DutyRow) → map duty_stored xs ≡ map duty_stored ys → xs ≡ ys
duties_same = all_same duty_stored duty_same

-- what is true of each value is true at the place of its row
pub at_place : {X Y : Type 0} (f : X → Y) (P : X → Type 0) (xs : List X) (rows : List Y) (i : ℕ)
    (d : Y) → rows ≡ map f xs → i < length rows → AllByRecursion P xs
    → (x : X) × (get_or rows i d ≡ f x) × P x
at_place f P [] [] i d is low each = absurd (omega (arith, low))
at_place f P [] (r ∷ rows) i d is low each = absurd cc
at_place f P (x ∷ xs) [] i d is low each = absurd (omega (arith, low))
at_place f P (x ∷ xs) (r ∷ rows) zero d is low each = let one : r ≡ f x = cc in (x, one, each.0)
at_place f P (x ∷ xs) (r ∷ rows) (suc i) d is low each = let rest : rows ≡ map f xs = cc in
    at_place f P xs rows i d rest (omega (arith, low)) each.1

pos_eq : (a b : ℕ) → int_eq (pos a) (pos b) ≡ (a == b)
pos_eq a b = grind (arith, nat_tests)

-- the revision that is found among the stored ones is that of the tables
pub revision_found : (n : ℕ) (xs : List CatalogueRow)
    → find (λ (row : StoredCatalogue). int_eq row.revision (pos n)) (map catalogue_stored xs)
    ≡ option_map catalogue_stored (find (is_revision n) xs)
revision_found n [] = refl
revision_found n (x ∷ xs) = go (revision_found n xs) (x.revision == n) refl
  where
    go : find (λ (row : StoredCatalogue). int_eq row.revision (pos n)) (map catalogue_stored xs)
        ≡ option_map catalogue_stored (find (is_revision n) xs) → (b : Bool)
        → (x.revision == n) ≡ b
        → find (λ (row : StoredCatalogue). int_eq row.revision (pos n))
        (map catalogue_stored (x ∷ xs))
        ≡ option_map catalogue_stored (find (is_revision n) (x ∷ xs))
    go more true is = rw (is, pos_eq x.revision n ∙ is) refl
    go more false is = rw (is, pos_eq x.revision n ∙ is) more

-- ---- what follows for what is kept

pub as_long : {X Y : Type 0} (f : X → Y) (xs : List X) (ys : List Y) (n : ℕ) → ys ≡ map f xs
    → length ys ≡ n → length xs ≡ n
as_long f xs ys n is it = sym (length-map xs f) ∙ sym (ap length is) ∙ it

pub uncounted : (r : Result Tallies Fault) (s : Snapshot) (releases : List ReleaseRow)
    (duties : List DutyRow)
    → ((t : Tables) → ShowsTables s t → (releases ≡ t.releases) × (duties ≡ t.duty))
    → (are_countable releases duties ≡ true → IfErr r (λ fault. fault ≡ Memory))
    → IfErr r (λ fault. (w : Readings) (t : Tables) → ShowsTables s t → CanKeep w t
    → fault ≡ Memory)
uncounted (Ok tallies) s releases duties same it = tt
uncounted (Err e) s releases duties same it = λ w t shows can. let is = same t shows in
    it (ap₂ are_countable is.0 is.1 ∙ can.countable)

module _ (w : Readings) (t : Tables) (n : ℕ) (rows : List StoredCatalogue)
    (shows : rows ≡ map catalogue_stored t.catalogue) (found : Option StoredCatalogue)
    (is : found ≡ find (λ (row : StoredCatalogue). int_eq row.revision (pos n)) rows) where
  found_so : found ≡ option_map catalogue_stored (find (is_revision n) t.catalogue)
  found_so = is
      ∙ ap (find (λ (row : StoredCatalogue). int_eq row.revision (pos n))) shows
      ∙ revision_found n t.catalogue

  forms_of_body : (o : Option CatalogueRow)
      → option_and_then (λ (row : StoredCatalogue). result_ok (w.catalogue row.body))
      (option_map catalogue_stored o)
      ≡ option_and_then (λ text. result_ok (w.catalogue text))
      (option_map (λ (row : CatalogueRow). row.body) o)
  forms_of_body None = refl
  forms_of_body (Some x) = refl

  pub forms_found : forms_in (option_and_then
      (λ (row : StoredCatalogue). result_ok (w.catalogue row.body)) found) ≡ forms_by w t n
  forms_found = ap (λ (o : Option StoredCatalogue). forms_in (option_and_then
      (λ (row : StoredCatalogue). result_ok (w.catalogue row.body)) o)) found_so
      ∙ ap forms_in (forms_of_body (find (is_revision n) t.catalogue))

  reads_body : (o : Option CatalogueRow)
      → IfSome (option_map (λ (row : CatalogueRow). row.body) o)
      (λ text. is_some (result_ok (w.catalogue text)) ≡ true)
      → IfSome (option_map catalogue_stored o)
      (λ (row : StoredCatalogue). is_some (result_ok (w.catalogue row.body)) ≡ true)
  reads_body None it = tt
  reads_body (Some x) it = it

  pub reads_found : length t.catalogue ≡ n → CanKeep w t
      → IfSome found (λ (row : StoredCatalogue). is_some (result_ok (w.catalogue row.body)) ≡ true)
  reads_found count can =
      let last = subst (λ k. IfSome (body_of t k)
      (λ text. is_some (result_ok (w.catalogue text)) ≡ true)) count can.catalogue in
      subst (λ (o : Option StoredCatalogue). IfSome o
      (λ (row : StoredCatalogue). is_some (result_ok (w.catalogue row.body)) ≡ true)) (sym found_so)
      (reads_body (find (is_revision n) t.catalogue) last)
