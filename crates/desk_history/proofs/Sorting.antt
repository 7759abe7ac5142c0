-- The tables are sorted by their keys.
use Rattle.std.proofs.Common.{◌≡◌, ℕ, ◌+◌, ◌≤◌, ◌<◌, Bool, true, false, List, [], ◌∷◌, ◌++◌, length}
use Rattle.std.proofs.Common.{map, sym, refl, ap, ◌∙◌, subst, arith, length-append, inl, inr}
use Rattle.std.specs.Prelude.{nat_lt, not, ◌==◌, ◌&&◌, ◌||◌}
use Rattle.std.specs.List.{enumerate_from, flat_map, filter_map}
use Rattle.std.specs.Result.{result_ok}
use Rattle.std.proofs.lemmas.Bool.Decides.{nat_tests}
use Rattle.std.proofs.lemmas.Cmp.{on_total, then_total, nat_list_cmp_total, nat_cmp_total}
use Rattle.std.proofs.lemmas.Bool.{not-true}
use Rattle.desk_model.specs.Lists.{IsIn, in_order, over, ascends}
use Rattle.desk_model.specs.Readings.{Readings}
use Rattle.desk_model.specs.Texts.{text_below}
use Rattle.desk_model.specs.Keys.{below_by, release_below, attached_order, choice_order}
use Rattle.desk_model.specs.Keys.{frozen_order, change_below, conclusion_order, adoption_order}
use Rattle.desk_model.specs.History.{revisions, documents, names, opened, namespace_in, attachment}
use Rattle.desk_model.specs.Conclusions.{conclusions, adoptions}
use Rattle.desk_history.proofs.Concluding.{ascends_conclusions, ascends_adoptions}
use Rattle.desk_model.specs.Raised.{raised, frozen}
use Rattle.desk_model.specs.declared.row.Move.{Move}
use Rattle.desk_model.specs.Moves.{duty_row, place, moves, changes, change_row, change_rows}
use Rattle.desk_model.specs.Tables.{tables, release_row, standing}
use Rattle.desk_history.specs.Laws.{Ascends, AreSorted, revision_below, document_below, duty_below}
use Rattle.desk_history.proofs.Members.{in_cases, from_map}
use Rattle.desk_history.proofs.Orders.{ascends-in_order, attached_is_order, choice_is_order}
use Rattle.desk_model.specs.declared.row.CatalogueRow.{CatalogueRow}
use Rattle.desk_model.specs.declared.row.DocumentRow.{DocumentRow}
use Rattle.desk_model.specs.declared.row.DutyRow.{DutyRow}
use Rattle.desk_model.specs.declared.row.ChangeRow.{ChangeRow}
use Rattle.desk_model.specs.declared.row.Owed.{Owed}
use Rattle.desk_model.specs.declared.command.Command.{Command}
use Rattle.desk_model.specs.declared.command.Command.TheVariants.{LoadCatalogue, Import}
use Rattle.desk_model.proofs.Orders.{IsOrder, order_of}
use Rattle.desk_base.proofs.Bools.{and_left, and_right}
use Rattle.desk_base.proofs.Numbers.{not_less}

-- rows that were put in order

each_over : {A : Type 0} (below : A → A → Bool) (x y : A) (ys : List A) → over below x ys ≡ true
    → IsIn y ys → below y x ≡ false
each_over below x y [] all m = absurd m
each_over below x y (z ∷ ys) all m =
    elim m [
      | inl e ↦ subst (λ u. below u x ≡ false) e
          (not-true (below z x) (and_left (not (below z x)) (over below x ys) all))
      | inr n ↦ each_over below x y ys (and_right (not (below z x)) (over below x ys) all) n
    ]

each_ascends : {A : Type 0} (below : A → A → Bool) (ys : List A) → ascends below ys ≡ true
    → Ascends below ys
each_ascends below [] up = tt
each_ascends below (y ∷ ys) up = (
  λ z m. each_over below y z ys (and_left (over below y ys) (ascends below ys) up) m,
  each_ascends below ys (and_right (over below y ys) (ascends below ys) up),
)

pub ordered : {A : Type 0} (below : A → A → Bool) → IsOrder below → (xs : List A)
    → Ascends below (in_order below xs)
ordered below o xs = each_ascends below (in_order below xs) (ascends-in_order below o xs)

pub frozen_is_order : IsOrder (below_by frozen_order)
frozen_is_order =
    order_of (then_total (on_total (λ row. row.release) nat_list_cmp_total)
    (then_total (on_total (λ row. row.document) nat_cmp_total)
    (then_total (on_total (λ row. row.package_id) nat_list_cmp_total)
    (on_total (λ row. row.term) nat_list_cmp_total))))

ascends_map : {A B : Type 0} (f : A → B) (below : A → A → Bool) (under : B → B → Bool)
    → ((a b : A) → under (f a) (f b) ≡ below a b) → (xs : List A) → Ascends below xs
    → Ascends under (map f xs)
ascends_map f below under same [] up = tt
ascends_map f below under same (x ∷ xs) up = (
  λ z m. let at = from_map f z xs m in
      subst (λ u. under u (f x) ≡ false) at.2 (same at.0 x ∙ up.0 at.0 at.1),
  ascends_map f below under same xs up.1,
)

-- rows that were added at the end

pub joined : {A : Type 0} (below : A → A → Bool) (xs ys : List A) → Ascends below xs
    → Ascends below ys
    → ((x y : A) → IsIn x xs → IsIn y ys → below y x ≡ false) → Ascends below (xs ++ ys)
joined below [] ys up more after = more
joined below (x ∷ xs) ys up more after = (
  λ z m. elim (in_cases z xs ys m) [ inl old ↦ up.0 z old | inr new ↦ after x z (inl refl) new ],
  joined below xs ys up.1 more (λ u y n m. after u y (inr n) m),
)

last_row : {A : Type 0} (below : A → A → Bool) (xs : List A) (y : A) → Ascends below xs
    → ((x : A) → IsIn x xs → below y x ≡ false) → Ascends below (xs ++ y ∷ [])
last_row below xs y up after =
    joined below xs (y ∷ []) up ((λ z m. absurd m), tt)
    (λ x z n m. elim m [
      | inl e ↦ subst (λ u. below u x ≡ false) e (after x n)
      | inr none ↦ absurd none
    ])

-- the numbers of revisions and documents

pub within_revisions : (h : List Command) (row : CatalogueRow) → IsIn row (revisions h)
    → row.revision ≤ length (revisions h)
within_revisions [] row m = absurd m
within_revisions (LoadCatalogue text ∷ h) row m =
    let new : CatalogueRow = record { revision = length (revisions h) + 1; body = text } in
    elim (in_cases row (revisions h) (new ∷ []) m) [
      | inl old ↦ omega (arith, within_revisions h row old, length-append (revisions h) (new ∷ []))
      | inr here ↦ (elim here [
        | inl e ↦
            omega (
              arith,
              ap (λ (r : CatalogueRow). r.revision) e,
              length-append (revisions h) (new ∷ []),
            )
        | inr none ↦ absurd none
      ])
    ]
within_revisions (c ∷ h) row m = within_revisions h row m

sorted_revisions : (h : List Command) → Ascends revision_below (revisions h)
sorted_revisions [] = tt
sorted_revisions (LoadCatalogue text ∷ h) =
    last_row revision_below (revisions h)
    (record { revision = length (revisions h) + 1; body = text }) (sorted_revisions h)
    (λ row m. not_less (length (revisions h) + 1) row.revision
    (omega (arith, within_revisions h row m)))
sorted_revisions (c ∷ h) = sorted_revisions h

pub within_documents : (w : Readings) (h : List Command) (row : DocumentRow)
    → IsIn row (documents w h)
    → row.number ≤ length (documents w h)
within_documents w [] row m = absurd m
within_documents w (Import bytes profile ∷ h) row m =
    let new : DocumentRow = record {
      number = length (documents w h) + 1;
      namespace = namespace_in (result_ok (w.document bytes));
      bytes = bytes;
      profile = profile;
    } in
    elim (in_cases row (documents w h) (new ∷ []) m) [
      | inl old ↦ omega (
        arith,
        within_documents w h row old,
        length-append (documents w h) (new ∷ []),
      )
      | inr here ↦ (elim here [
        | inl e ↦
            omega (
              arith,
              ap (λ (r : DocumentRow). r.number) e,
              length-append (documents w h) (new ∷ []),
            )
        | inr none ↦ absurd none
      ])
    ]
within_documents w (c ∷ h) row m = within_documents w h row m

sorted_documents : (w : Readings) (h : List Command) → Ascends document_below (documents w h)
sorted_documents w [] = tt
sorted_documents w (Import bytes profile ∷ h) =
    last_row document_below (documents w h)
    (record {
      number = length (documents w h) + 1;
      namespace = namespace_in (result_ok (w.document bytes));
      bytes = bytes;
      profile = profile;
    }) (sorted_documents w h)
    (λ row m. not_less (length (documents w h) + 1) row.number
    (omega (arith, within_documents w h row m)))
sorted_documents w (c ∷ h) = sorted_documents w h

-- duties and their changes

from_number : (g : ℕ × Owed → DutyRow) → ((d : ℕ × Owed) → (g d).number ≡ d.0)
    → (n : ℕ) (xs : List Owed) (row : DutyRow) → IsIn row (map g (enumerate_from n xs))
    → n ≤ row.number
from_number g is n [] row m = absurd m
from_number g is n (x ∷ xs) row m =
    elim m [
      | inl e ↦ omega (arith, ap (λ (r : DutyRow). r.number) e, is (n, x))
      | inr later ↦ omega (arith, from_number g is (n + 1) xs row later)
    ]

sorted_duties : (g : ℕ × Owed → DutyRow) → ((d : ℕ × Owed) → (g d).number ≡ d.0)
    → (n : ℕ) (xs : List Owed) → Ascends duty_below (map g (enumerate_from n xs))
sorted_duties g is n [] = tt
sorted_duties g is n (x ∷ xs) = (
  λ row m. not_less row.number (g (n, x)).number
      (omega (arith, from_number g is (n + 1) xs row m, is (n, x))),
  sorted_duties g is (n + 1) xs,
)

pub change_within : (q : ℕ) (ms : List Move) (row : ChangeRow) → IsIn row (change_rows q ms)
    → (row.duty ≡ q) × (row.step ≤ length ms)
change_within q [] row m = absurd m
change_within q (c ∷ ms) row m =
    elim (in_cases row (change_rows q ms) (change_row q (length ms + 1) c ∷ []) m) [
      | inl old ↦ (let at = change_within q ms row old in (at.0, omega (arith, at.1)))
      | inr here ↦ (elim here [
        | inl e ↦ (
          sym (ap (λ (r : ChangeRow). r.duty) e),
          omega (arith, ap (λ (r : ChangeRow). r.step) e),
        )
        | inr none ↦ absurd none
      ])
    ]

after_step : (d q s t : ℕ) → d ≡ q → t ≤ s → (nat_lt q d || ((q == d) && nat_lt s t)) ≡ false
after_step d q s t e le = grind (arith, nat_tests)

after_duty : (a b s t : ℕ) → a < b → (nat_lt b a || ((b == a) && nat_lt s t)) ≡ false
after_duty a b s t lt = grind (arith, nat_tests)

sorted_steps : (q : ℕ) (ms : List Move) → Ascends change_below (change_rows q ms)
sorted_steps q [] = tt
sorted_steps q (c ∷ ms) =
    last_row change_below (change_rows q ms) (change_row q (length ms + 1) c) (sorted_steps q ms)
    (λ row m.
    let at = change_within q ms row m in
    let new = change_row q (length ms + 1) c in
    after_step row.duty new.duty new.step row.step at.0 (omega (arith, at.1)))

from_duty : (w : Readings) (h : List Command) (n : ℕ) (xs : List Owed) (row : ChangeRow)
    → IsIn row (flat_map (λ (d : ℕ × Owed). changes w h d.0) (enumerate_from n xs)) → n ≤ row.duty
from_duty w h n [] row m = absurd m
from_duty w h n (x ∷ xs) row m =
    elim (in_cases row (changes w h n)
    (flat_map (λ (d : ℕ × Owed). changes w h d.0) (enumerate_from (n + 1) xs)) m) [
      | inl here ↦ omega (arith, (change_within n (moves w h n) row here).0)
      | inr later ↦ omega (arith, from_duty w h (n + 1) xs row later)
    ]

sorted_changes : (w : Readings) (h : List Command) (n : ℕ) (xs : List Owed)
    → Ascends change_below (flat_map (λ (d : ℕ × Owed). changes w h d.0) (enumerate_from n xs))
sorted_changes w h n [] = tt
sorted_changes w h n (x ∷ xs) =
    joined change_below (changes w h n)
    (flat_map (λ (d : ℕ × Owed). changes w h d.0) (enumerate_from (n + 1) xs))
    (sorted_steps n (moves w h n)) (sorted_changes w h (n + 1) xs)
    (λ a b here later.
    after_duty a.duty b.duty b.step a.step
    (omega (arith, (change_within n (moves w h n) a here).0, from_duty w h (n + 1) xs b later)))

pub sorted : (w : Readings) (h : List Command) → AreSorted (tables w h)
sorted w h = record {
  catalogue = sorted_revisions h;
  document = sorted_documents w h;
  conclusion = each_ascends (below_by conclusion_order) (conclusions h) (ascends_conclusions h);
  adoption = each_ascends (below_by adoption_order) (adoptions w h) (ascends_adoptions w h);
  releases = ascends_map (release_row h) text_below release_below (λ a b. refl) (names h)
      (ordered text_below (order_of nat_list_cmp_total) (opened h));
  attached = ordered (below_by attached_order) attached_is_order (filter_map attachment h);
  choice = ordered (below_by choice_order) choice_is_order (standing w h);
  frozen = ordered (below_by frozen_order) frozen_is_order (frozen w h);
  duty = sorted_duties (λ (d : ℕ × Owed). duty_row (place w h d.0) d) (λ d. refl) 1 (raised w h);
  changes = sorted_changes w h 1 (raised w h);
}
