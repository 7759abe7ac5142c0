-- Changes as a desk has them, each with its last day.
use Rattle.std.proofs.Common.{◌≡◌, inl, inr, ℕ, ◌+◌, ◌<◌, ◌≤◌, ℤ, pos, negsuc, Bool, true, false, List, []}
use Rattle.std.proofs.Common.{◌∷◌, map, filter, length, find, Option, Some, None, refl, sym, ap}
use Rattle.std.proofs.Common.{◌∙◌, arith}
use Rattle.std.specs.Prelude.{◌&&◌, is_some, unwrap_or}
use Rattle.std.specs.Cmp.{IsTotalOrder}
use Rattle.std.specs.List.{cons_option, filter_map}
use Rattle.std.specs.Option.{option_map, option_map_or}
use Rattle.std.specs.Ordering.{int_cmp, int_eq, on, then_cmp}
use Rattle.std.specs.declared.cmp.Ordering.{Ordering}
use Rattle.std.proofs.lemmas.Bool.Decides.{nat_tests, Decides-int_eq}
use Rattle.std.proofs.lemmas.Bool.{and_from}
use Rattle.std.proofs.lemmas.Cmp.{int_cmp_total, on_total, then_total}
use Rattle.desk_base.specs.Day.{is_day}
use Rattle.desk_base.proofs.Bools.{and_left, and_right, contrary}
use Rattle.desk_history.specs.Laws.{Rises}
use Rattle.desk_history.proofs.Members.{in_map}
use Rattle.desk_model.specs.Keys.{below_by}
use Rattle.desk_model.specs.Lists.{IsIn}
use Rattle.desk_model.specs.Moves.{is_waiver}
use Rattle.desk_model.specs.Names.{word_name, word_named}
use Rattle.desk_model.specs.declared.row.ChangeRow.{ChangeRow}
use Rattle.desk_model.specs.declared.state.Word.TheVariants as word
use Rattle.desk_model.proofs.Lists.{each_passes, found_in}
use Rattle.desk_model.proofs.Orders.{order_of}
use Rattle.desk_snapshot.specs.Changes.{AreChangesOf, has_room, is_body, is_formed, is_waived}
use Rattle.desk_snapshot.specs.Changes.{is_waiver_of, is_within}
use Rattle.desk_snapshot.specs.Conditions.{AreChanges, AreNumbered}
use Rattle.desk_snapshot.specs.Orders.{change_order, waiver_order}
use Rattle.desk_snapshot.specs.Rows.{is_change_at, is_change_of, is_waiver_at}
use Rattle.desk_snapshot.specs.Tables.{change_stored, waiver_stored}
use Rattle.desk_snapshot.specs.declared.rows.StoredChange.{StoredChange}
use Rattle.desk_snapshot.specs.declared.rows.StoredDuty.{StoredDuty}
use Rattle.desk_snapshot.specs.declared.rows.StoredWaiver.{StoredWaiver}
use Rattle.desk_snapshot.specs.declared.snapshot.Snapshot.{Snapshot}
use Rattle.desk_beside.proofs.Named.{has_name, some_of}
use Rattle.desk_beside.proofs.Natural.{from_numbers, has_number, in_kept, of_each, size, size_of}
use Rattle.desk_beside.proofs.Waivers.{all_found}

-- a change, with the last day that was found for it
abbrev pub with_end : StoredChange → Option StoredWaiver → ChangeRow
with_end y o = record {
  duty = size y.duty;
  step = size y.step;
  day = y.day;
  word = unwrap_or (word_named y.word) word.Raised;
  body = y.body;
  last_day = option_map (λ waiver. waiver.last_day) o;
}

abbrev end_of : List StoredWaiver → StoredChange → Option StoredWaiver
end_of vs y = find (is_waiver_at y.duty y.step) vs

abbrev pub change_read : List StoredWaiver → StoredChange → ChangeRow
change_read vs y = with_end y (end_of vs y)

-- ---- its numbers and its word

pub record IsTold (y : StoredChange) : Type 0 where
  pub duty : pos (size y.duty) ≡ y.duty
  pub step : pos (size y.step) ≡ y.step
  pub word : is_some (word_named y.word) ≡ true

pub change_back : (vs : List StoredWaiver) (y : StoredChange) → IsTold y
    → change_stored (change_read vs y) ≡ y
change_back vs y told =
    let word = has_name word_name
    (word.Raised ∷ word.Met ∷ word.Waived ∷ word.Reopened ∷ word.Withdrawn ∷ word.Ended ∷ [])
    word.Raised y.word told.word in
    let duty = told.duty in
    let step = told.step in
    λ i. record { duty = duty i; step = step i; day = y.day; word = word i; body = y.body }

within : (n : ℕ) (m : ℤ) → is_within n m ≡ true → (k : ℕ) × (m ≡ pos k) × (1 ≤ k) × (k < 1 + n)
within n (pos k) is = (k, refl, grind (arith, nat_tests), grind (arith, nat_tests))
within n (negsuc k) is = absurd (cc)

pub are_told : (s : Snapshot) → AreNumbered s → AreChanges s → (y : StoredChange)
    → IsIn y s.changes → IsTold y
are_told s numbered changes y there =
    let at = within (length s.duty) y.duty
    (each_passes (λ (row : StoredChange). is_within (length s.duty) row.duty) y s.changes
    changes.of_duties there) in
    let found = has_number (λ (row : StoredDuty). row.number) 1 at.0 s.duty numbered.numbered
    at.2 at.3 in
    let duty = found.0 in
    let own = of_each (AreChangesOf s) s.duty changes.of_each duty found.1 in
    let kept = in_kept (is_change_of duty.number) y s.changes
    ((Decides-int_eq y.duty duty.number).1 (at.1 ∙ sym found.2)) there in
    let step = from_numbers 1 _ own.steps y.step (in_map (λ (row : StoredChange). row.step) y _
    kept) in
    let formed = each_passes is_formed y _ own.formed kept in
    record {
      duty = size_of y.duty at.0 at.1;
      step = size_of y.step step.0 step.1;
      word = some_of (λ word. is_body word y.body && has_room word y.step) (word_named y.word)
          (and_right (is_day y.day) _ formed);
    }

-- ---- the last days

abbrev Key : Type 0
Key = ℤ × ℤ

abbrev key_order : Key → Key → Ordering
key_order = then_cmp (on (λ k. k.0) int_cmp) (on (λ k. k.1) int_cmp)

key_total : IsTotalOrder key_order
key_total = then_total (on_total (λ k. k.0) int_cmp_total) (on_total (λ k. k.1) int_cmp_total)

abbrev lower : Key → Key → Bool
lower = below_by key_order

chain : (a b c : Key) → lower a b ≡ true → lower b c ≡ true → lower a c ≡ true
chain a b c one two =
    let o = order_of key_total in
    o.between a b c one (o.asym b c two)

never : (a : Key) → lower a a ≡ true → ⊥
never a is = contrary (lower a a) is ((order_of key_total).asym a a is)

abbrev of_change : StoredChange → Key
of_change y = (y.duty, y.step)

abbrev of_waiver : StoredWaiver → Key
of_waiver v = (v.duty, v.step)

abbrev has_key : Key → StoredWaiver → Bool
has_key k = is_waiver_at k.0 k.1

has_its : (k : Key) (v : StoredWaiver) → of_waiver v ≡ k → has_key k v ≡ true
has_its k v same = and_from (int_eq v.duty k.0) (int_eq v.step k.1)
    ((Decides-int_eq v.duty k.0).1 (ap (λ (k : Key). k.0) same))
    ((Decides-int_eq v.step k.1).1 (ap (λ (k : Key). k.1) same))

its_parts : (v : StoredWaiver) (m n : ℤ) → is_waiver_at m n v ≡ true → (v.duty ≡ m) × (v.step ≡ n)
its_parts v m n is = (
  (Decides-int_eq v.duty m).0 (and_left (int_eq v.duty m) (int_eq v.step n) is),
  (Decides-int_eq v.step n).0 (and_right (int_eq v.duty m) (int_eq v.step n) is),
)

its_key : (k : Key) (v : StoredWaiver) → has_key k v ≡ true → of_waiver v ≡ k
its_key k v is =
    let parts = its_parts v k.0 k.1 is in
    let duty = parts.0 in
    let step = parts.1 in
    λ i. (duty i, step i)

-- each waiver is at a change
at_change : (s : Snapshot) → AreChanges s → (v : StoredWaiver) → IsIn v s.waiver
    → (c : StoredChange) × IsIn c s.changes × (of_change c ≡ of_waiver v)
at_change s changes v there = by (find (is_change_at v.duty v.step) s.changes) refl
    (each_passes (is_waived s) v s.waiver changes.waivers there)
  where
    by : (o : Option StoredChange) → find (is_change_at v.duty v.step) s.changes ≡ o
        → option_map_or (λ row. is_waiver_of row v.last_day) o false ≡ true
        → (c : StoredChange) × IsIn c s.changes × (of_change c ≡ of_waiver v)
    by None is waived = absurd (cc)
    by (Some c) is waived =
        let found = found_in (is_change_at v.duty v.step) s.changes c is in
        let duty = (Decides-int_eq c.duty v.duty).0
        (and_left (int_eq c.duty v.duty) (int_eq c.step v.step) found.1) in
        let step = (Decides-int_eq c.step v.step).0
        (and_right (int_eq c.duty v.duty) (int_eq c.step v.step) found.1) in
        (c, found.0, λ i. (duty i, step i))

-- what the rows of the waivers are, one change after another
one_end : (y : StoredChange) (o : Option StoredWaiver) (rows : List ChangeRow)
    (vs : List StoredWaiver) → IsTold y
    → ((v : StoredWaiver) → o ≡ Some v → (v.duty ≡ y.duty) × (v.step ≡ y.step))
    → map waiver_stored (filter is_waiver rows) ≡ vs
    → map waiver_stored (filter is_waiver (with_end y o ∷ rows)) ≡ cons_option o vs
one_end y None rows vs told at more = more
one_end y (Some v) rows vs told at more =
    let parts = at v refl in
    let duty = told.duty ∙ sym parts.0 in
    let step = told.step ∙ sym parts.1 in
    λ i. record { duty = duty i; step = step i; last_day = v.last_day } ∷ more i

ends_found : (vs : List StoredWaiver) (ys : List StoredChange)
    → ((y : StoredChange) → IsIn y ys → IsTold y)
    → map waiver_stored (filter is_waiver (map (change_read vs) ys)) ≡ filter_map (end_of vs) ys
ends_found vs [] told = refl
ends_found vs (y ∷ ys) told =
    one_end y (end_of vs y) (map (change_read vs) ys) (filter_map (end_of vs) ys) (told y (inl refl))
    (λ v is. its_parts v y.duty y.step (found_in (is_waiver_at y.duty y.step) vs v is).1)
    (ends_found vs ys (λ z there. told z (inr there)))

pub waivers_back : (s : Snapshot) → AreNumbered s → AreChanges s
    → Rises (below_by change_order) s.changes → Rises (below_by waiver_order) s.waiver
    → map waiver_stored (filter is_waiver (map (change_read s.waiver) s.changes)) ≡ s.waiver
waivers_back s numbered changes up rise =
    ends_found s.waiver s.changes (are_told s numbered changes)
    ∙ all_found of_change of_waiver lower chain never has_key has_its its_key s.changes s.waiver up
    rise (at_change s changes)
