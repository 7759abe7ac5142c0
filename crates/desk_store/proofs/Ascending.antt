-- Tables whose stored rows are in the order of their keys are sorted.
use Rattle.std.proofs.Common.{◌≡◌, ℕ, pos, Bool, false, List, [], ◌∷◌, map, refl, sym, ap, ◌∙◌}
use Rattle.std.proofs.Common.{arith, is_lt}
use Rattle.std.specs.Prelude.{◌&&◌, ◌||◌, ◌==◌, nat_lt}
use Rattle.std.specs.Cmp.Lexicographic.{slice_cmp}
use Rattle.std.specs.Ordering.{nat_cmp, int_cmp, ordering_then}
use Rattle.std.specs.declared.cmp.Ordering.{Ordering}
use Rattle.std.proofs.lemmas.Bool.Decides.{nat_tests}
use Rattle.std.proofs.lemmas.Int.{ints}
use Rattle.sqlite.specs.Effect.{Database}
use Rattle.desk_history.specs.Laws.{Ascends, AreSorted, document_below, duty_below, revision_below}
use Rattle.desk_history.proofs.Members.{in_map}
use Rattle.desk_model.specs.Keys.{below_by, adoption_order, attached_order, choice_order}
use Rattle.desk_model.specs.Keys.{conclusion_order, frozen_order, change_below, release_below}
use Rattle.desk_model.specs.Tables.{Tables}
use Rattle.desk_snapshot.specs.Orders as stored
use Rattle.desk_snapshot.specs.Tables as s
use Rattle.desk_snapshot.specs.Tables.{snapshot_of}
use Rattle.desk_sql_layout.specs.Held.{package_below}
use Rattle.desk_sql_layout.proofs.Keyed.{two_lower}
use Rattle.desk_sql_scan.specs.Orders as scan
use Rattle.desk_sql_scan.specs.Scans.{IsInOrder, IsSnapshot}
use Rattle.desk_beside.proofs.Natural.{of_each}

-- ---- numbers that aren't below 0

then_numbers : (a b : ℕ) (o : Ordering)
    → ordering_then (int_cmp (pos a) (pos b)) o ≡ ordering_then (nat_cmp a b) o
then_numbers a b o = ap (λ (p : Ordering). ordering_then p o) whole
  where
    whole : int_cmp (pos a) (pos b) ≡ nat_cmp a b
    whole = grind (arith, ints, nat_tests)

last_numbers : (o : Ordering) (a b : ℕ)
    → ordering_then o (int_cmp (pos a) (pos b)) ≡ ordering_then o (nat_cmp a b)
last_numbers o a b = ap (λ (p : Ordering). ordering_then o p) whole
  where
    whole : int_cmp (pos a) (pos b) ≡ nat_cmp a b
    whole = grind (arith, ints, nat_tests)

lower_numbers : (a b : ℕ) → is_lt (int_cmp (pos a) (pos b)) ≡ nat_lt a b
lower_numbers a b = grind (arith, ints, nat_tests)

-- ---- lists

ascends_as : {X Y : Type 0} (f : X → Y) (order : Y → Y → Ordering) (below : X → X → Bool)
    → ((a b : X) → is_lt (order (f a) (f b)) ≡ below a b) → (xs : List X)
    → IsInOrder order (map f xs) → Ascends below xs
ascends_as f order below same [] up = tt
ascends_as f order below same (x ∷ xs) up = (
  λ y there. sym (same y x)
      ∙ of_each (λ b. is_lt (order b (f x)) ≡ false) (map f xs) up.0 (f y) (in_map f y xs there),
  ascends_as f order below same xs up.1,
)

pub are_sorted : (t : Tables) (db : Database) → IsSnapshot (snapshot_of t) db → AreSorted t
are_sorted t db it = record {
  catalogue = ascends_as s.catalogue_stored scan.catalogue_order revision_below
      (λ a b. lower_numbers a.revision b.revision) t.catalogue it.catalogue.ordered;
  document = ascends_as s.document_stored scan.document_order document_below
      (λ a b. lower_numbers a.number b.number) t.document it.document.ordered;
  conclusion = ascends_as s.conclusion_stored stored.conclusion_order (below_by conclusion_order)
      (λ a b. ap is_lt (then_numbers a.document b.document
      (slice_cmp nat_cmp a.package_id b.package_id))) t.conclusion it.conclusion.ordered;
  adoption = ascends_as s.adoption_stored scan.adoption_order (below_by adoption_order)
      (λ a b. ap is_lt (then_numbers a.document b.document
      (slice_cmp nat_cmp a.reference b.reference))) t.adoption it.adoption.ordered;
  releases = ascends_as s.release_stored stored.release_order release_below (λ a b. refl) t.releases
      it.releases.ordered;
  attached = ascends_as s.attached_stored stored.attached_order (below_by attached_order)
      (λ a b. ap is_lt (last_numbers (slice_cmp nat_cmp a.release b.release) a.document
      b.document)) t.attached it.attached.ordered;
  choice = ascends_as s.choice_stored stored.choice_order (below_by choice_order)
      (λ a b. ap (λ (o : Ordering). is_lt (ordering_then (slice_cmp nat_cmp a.release b.release) o))
      (then_numbers a.document b.document
      (ordering_then (slice_cmp nat_cmp a.package_id b.package_id)
      (slice_cmp nat_cmp a.term b.term)))) t.choice it.choice.ordered;
  frozen = ascends_as s.frozen_stored stored.frozen_order (below_by frozen_order)
      (λ a b. ap (λ (o : Ordering). is_lt (ordering_then (slice_cmp nat_cmp a.release b.release) o))
      (then_numbers a.document b.document
      (ordering_then (slice_cmp nat_cmp a.package_id b.package_id)
      (slice_cmp nat_cmp a.term b.term)))) t.frozen it.frozen.ordered;
  duty = ascends_as s.duty_stored scan.duty_order duty_below
      (λ a b. lower_numbers a.number b.number) t.duty it.duty.ordered;
  changes = ascends_as s.change_stored stored.change_order change_below
      (λ a b. ap is_lt (then_numbers a.duty b.duty (int_cmp (pos a.step) (pos b.step)))
      ∙ two_lower a.duty b.duty (int_cmp (pos a.step) (pos b.step))
      ∙ ap (λ (c : Bool). nat_lt a.duty b.duty || ((a.duty == b.duty) && c))
      (lower_numbers a.step b.step)) t.changes it.changes.ordered;
}

pub packages_ascend : (t : Tables) (db : Database) → IsSnapshot (snapshot_of t) db
    → Ascends package_below t.packages
packages_ascend t db it = ascends_as s.package_stored stored.package_order package_below
    (λ a b. ap is_lt (then_numbers a.document b.document (slice_cmp nat_cmp a.id b.id))
    ∙ two_lower a.document b.document (slice_cmp nat_cmp a.id b.id)) t.packages it.packages.ordered
