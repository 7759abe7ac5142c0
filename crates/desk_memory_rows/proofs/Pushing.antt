-- Changes put after others, and removed again.
use Rattle.std.proofs.Common.{◌≡◌, ℕ, zero, suc, ◌+◌, ◌-◌, ◌<◌, ◌≤◌, true, false, List, [], ◌∷◌}
use Rattle.std.proofs.Common.{◌++◌, length, map, take, drop, Some, sym, refl, ap, ◌∙◌}
use Rattle.std.proofs.Common.{subst, arith, append_assoc, append-nil, length-append, add-one}
use Rattle.std.specs.Prelude.{nat_le, slice_get, slice_set, slice_index_or, Result, Ok, Err, is_err, OnErr, OnOk}
use Rattle.std.specs.List.{list_all}
use Rattle.std.proofs.lemmas.Bool.Decides.{nat_tests}
use Rattle.desk_model.specs.Lists.{put, put_all, updated}
use Rattle.desk_model.specs.Keys.{is_duty, change_below}
use Rattle.desk_model.specs.States.{state_after}
use Rattle.desk_model.specs.Tables.{moved_by, with_duty_state}
use Rattle.desk_model.specs.declared.row.ChangeRow.{ChangeRow}
use Rattle.desk_model.specs.declared.row.DutyRow.{DutyRow}
use Rattle.desk_memory_rows.specs.declared.ledger.Place.{Place}
use Rattle.desk_memory_rows.specs.Ledgers.{all_of, grouped, more_at, pushed, place_of}
use Rattle.desk_memory_rows.specs.Ledgers.{is_within, AreWithin, standing_by}
use Rattle.desk_memory_rows.proofs.Ledgering.{numbered-updated}
use Rattle.desk_base.proofs.Bools.{and_left, and_right}
use Rattle.desk_access.specs.Follows.{are_numbered}

-- the groups are the earlier ones with the changes of these places
pub record Remains (before : List (List ChangeRow)) (places : List Place)
    (groups : List (List ChangeRow)) : Type 0 where
  pub changes : List ChangeRow
  pub told : map place_of changes ≡ places
  pub is : groups ≡ pushed changes before

-- all changes except for the first ones are put after the others
pub record HasPushed (all left : List ChangeRow)
    (before groups : List (List ChangeRow)) : Type 0 where
  pub done : List ChangeRow
  pub whole : all ≡ left ++ done
  pub is : groups ≡ pushed done before
  pub put : all_of groups ≡ put_all change_below done (all_of before)
  pub turned : grouped 1 groups ≡ true

-- the duties in the states that the changes give them are those that the changes move
pub standing_moved : (changes : List ChangeRow) (rows : List DutyRow)
    → standing_by (map place_of changes) rows ≡ moved_by changes rows
standing_moved [] rows = refl
standing_moved (change ∷ changes) rows = ap (updated (is_duty change.duty)
    (with_duty_state (state_after change.word))) (standing_moved changes rows)

pub remains_all : (before : List (List ChangeRow)) (changes : List ChangeRow) (places : List Place)
    (groups : List (List ChangeRow)) → map place_of changes ≡ places
    → groups ≡ pushed changes before → Remains before places groups
remains_all before changes places groups e f = record { changes = changes; told = e; is = f }

pub remains_none : (before groups : List (List ChangeRow)) → Remains before [] groups
    → groups ≡ before
remains_none before groups r = inner r.changes r.told r.is
  where
    inner : (changes : List ChangeRow) → map place_of changes ≡ [] → groups ≡ pushed changes before
        → groups ≡ before
    inner [] e f = f
    inner (c ∷ cs) e f = cc

pub remains_less : (before groups later : List (List ChangeRow)) (place : Place)
    (places : List Place) → Remains before (place ∷ places) groups
    → ((gs : List (List ChangeRow)) (change : ChangeRow)
    → groups ≡ more_at gs (place.duty - 1) change → later ≡ gs) → Remains before places later
remains_less before groups later place places r undo = inner r.changes r.told r.is
  where
    inner : (changes : List ChangeRow) → map place_of changes ≡ place ∷ places
        → groups ≡ pushed changes before → Remains before places later
    inner [] e f = cc
    inner (c ∷ cs) e f =
        let head : place_of c ≡ place = ap (λ (ps : List Place). first ps) e in
        let tail : map place_of cs ≡ places = ap (λ (ps : List Place). rest ps) e in
        let duty : c.duty ≡ place.duty = ap (λ (p : Place). p.duty) head in
        record {
          changes = cs;
          told = tail;
          is = undo (pushed cs before) c
              (f ∙ ap (λ (k : ℕ). more_at (pushed cs before) (k - 1) c) duty);
        }
      where
        first : List Place → Place
        first [] = place
        first (p ∷ ps) = p

        rest : List Place → List Place
        rest [] = []
        rest (p ∷ ps) = ps

pub pushed_init : (all : List ChangeRow) (before : List (List ChangeRow)) → grouped 1 before ≡ true
    → HasPushed all all before before
pushed_init all before e = record {
  done = [];
  whole = sym (append-nil all);
  is = refl;
  put = refl;
  turned = e;
}

pub pushed_step : (all left rest : List ChangeRow) (change : ChangeRow)
    (before groups later : List (List ChangeRow)) → HasPushed all left before groups
    → left ≡ rest ++ change ∷ []
    → later ≡ more_at groups (change.duty - 1) change
    → all_of later ≡ put change_below change (all_of groups) → grouped 1 later ≡ true
    → HasPushed all rest before later
pushed_step all left rest change before groups later has e more here turned = record {
  done = change ∷ has.done;
  whole = has.whole ∙ (ap (λ (xs : List ChangeRow). xs ++ has.done) e
      ∙ append_assoc rest (change ∷ []) has.done);
  is = more ∙ ap (λ (gs : List (List ChangeRow)). more_at gs (change.duty - 1) change) has.is;
  put = here ∙ ap (put change_below change) has.put;
  turned = turned;
}

pub pushed_end : (all left : List ChangeRow) (before groups : List (List ChangeRow))
    → HasPushed all left before groups → left ≡ []
    → all_of groups ≡ put_all change_below all (all_of before)
pushed_end all left before groups has e = has.put
    ∙ ap (λ (xs : List ChangeRow). put_all change_below xs (all_of before))
    (sym (has.whole ∙ ap (λ (xs : List ChangeRow). xs ++ has.done) e))

pub within_drop : (n k : ℕ) (places : List Place) → AreWithin n places → AreWithin n (drop k places)
within_drop n zero places e = e
within_drop n (suc k) [] e = e
within_drop n (suc k) (p ∷ ps) e = within_drop n k ps
    (and_right (is_within n p) (list_all (is_within n) ps) e)

drop_past : (xs : List ChangeRow) (change : ChangeRow) (ys : List ChangeRow)
    → drop (suc (length xs)) (map place_of ((xs ++ change ∷ []) ++ ys)) ≡ map place_of ys
drop_past [] change ys = refl
drop_past (x ∷ xs) change ys = drop_past xs change ys

pub told_drop : (all left rest : List ChangeRow) (change : ChangeRow)
    (before groups : List (List ChangeRow)) (places : List Place)
    (has : HasPushed all left before groups) → left ≡ rest ++ change ∷ []
    → map place_of all ≡ places
    → map place_of has.done ≡ drop (length rest + 1) places
told_drop all left rest change before groups places has e told =
    sym (drop_past rest change has.done)
    ∙ (ap (λ (xs : List ChangeRow). drop (suc (length rest)) (map place_of xs))
    (sym (has.whole ∙ ap (λ (xs : List ChangeRow). xs ++ has.done) e))
    ∙ (ap (drop (suc (length rest))) told
    ∙ ap (λ (k : ℕ). drop k places) (sym (add-one (length rest)))))

-- a change is removed from its group
take_front : (xs ys : List ChangeRow) → take (length xs) (xs ++ ys) ≡ xs
take_front [] ys = refl
take_front (x ∷ xs) ys = ap (λ (zs : List ChangeRow). x ∷ zs) (take_front xs ys)

but_last : (xs : List ChangeRow) (x : ChangeRow)
    → take (length (xs ++ x ∷ []) - 1) (xs ++ x ∷ []) ≡ xs
but_last xs x =
    let one : length (xs ++ x ∷ []) - 1 ≡ length xs = omega (arith, length-append xs (x ∷ [])) in
    ap (λ (k : ℕ). take k (xs ++ x ∷ [])) one ∙ take_front xs (x ∷ [])

undo_at : (before : List (List ChangeRow)) (i : ℕ) (change : ChangeRow) (g left : List ChangeRow)
    → slice_get (more_at before i change) i ≡ Some g → left ≡ take (length g - 1) g
    → slice_set (more_at before i change) i left ≡ before
undo_at [] i change g left at is = refl
undo_at (b ∷ bs) zero change g left at is =
    let same : b ++ change ∷ [] ≡ g = cc in
    ap (λ (y : List ChangeRow). y ∷ bs)
    (is ∙ (ap (λ (y : List ChangeRow). take (length y - 1) y) (sym same) ∙ but_last b change))
undo_at (b ∷ bs) (suc i) change g left at is = ap (λ (ys : List (List ChangeRow)). b ∷ ys)
    (undo_at bs i change g left at is)

-- the last change of the group at a place is removed again
pub undo_more : (groups before : List (List ChangeRow)) (i : ℕ) (change : ChangeRow)
    (g left : List ChangeRow) → groups ≡ more_at before i change → slice_get groups i ≡ Some g
    → left ≡ take (length g - 1) g → slice_set groups i left ≡ before
undo_more groups before i change g left e at is =
    subst (λ (gs : List (List ChangeRow)). slice_set gs i left ≡ before) (sym e)
    (undo_at before i change g left
    (sym (ap (λ (gs : List (List ChangeRow)). slice_get gs i) e) ∙ at) is)

pub popped : (items group : List ChangeRow) (n : ℕ) → items ≡ group → n ≡ length items
    → take (n - 1) items ≡ take (length group - 1) group
popped items group n e f = ap (λ (k : ℕ). take (k - 1) items) f
    ∙ ap (λ (xs : List ChangeRow). take (length xs - 1) xs) e

pub numbered-standing : (places : List Place) (n : ℕ) (rows : List DutyRow) → are_numbered n rows ≡ true
    → are_numbered n (standing_by places rows) ≡ true
numbered-standing [] n rows e = e
numbered-standing (place ∷ places) n rows e = numbered-updated (with_duty_state place.state)
    (λ row. refl) place.duty n (standing_by places rows) (numbered-standing places n rows e)

-- a list from a place on
pub drop_get : (places : List Place) (k : ℕ) (d : Place) → k < length places
    → drop k places ≡ slice_index_or places k d ∷ drop (suc k) places
drop_get [] k d lt = absurd (omega arith)
drop_get (p ∷ ps) zero d lt = refl
drop_get (p ∷ ps) (suc k) d lt = drop_get ps k d (omega arith)

pub drop_over : (places : List Place) (k : ℕ) → length places ≤ k → drop k places ≡ []
drop_over [] zero le = refl
drop_over [] (suc k) le = refl
drop_over (p ∷ ps) zero le = absurd (omega arith)
drop_over (p ∷ ps) (suc k) le = drop_over ps k (omega arith)

take_whole : (places : List Place) (n : ℕ) → n ≡ length places → take n places ≡ places
take_whole places n e = ap (λ (k : ℕ). take k places) e ∙ whole places
  where
    whole : (ps : List Place) → take (length ps) ps ≡ ps
    whole [] = refl
    whole (p ∷ ps) = ap (λ (qs : List Place). p ∷ qs) (whole ps)

length_drop : (places : List Place) (k : ℕ) → length (drop k places) ≡ length places - k
length_drop places zero = omega arith
length_drop [] (suc k) = omega arith
length_drop (p ∷ ps) (suc k) = omega (arith, length_drop ps k)

pub rest_of : (places : List Place) (k : ℕ)
    → take (length places - k) (drop k places) ≡ drop k places
rest_of places k = take_whole (drop k places) (length places - k) (sym (length_drop places k))

at_least_one : (n m : ℕ) → nat_le 1 n ≡ true → 1 ≤ n
at_least_one n m e = grind (arith, nat_tests)

within_at : (n : ℕ) (places : List Place) (k : ℕ) (d : Place) → AreWithin n places
    → k < length places → 1 ≤ (slice_index_or places k d).duty
within_at n [] k d e lt = absurd (omega arith)
within_at n (p ∷ ps) zero d e lt = at_least_one p.duty n
    (and_left (nat_le 1 p.duty) (nat_le p.duty n)
    (and_left (is_within n p) (list_all (is_within n) ps) e))
within_at n (p ∷ ps) (suc k) d e lt = within_at n ps k d
    (and_right (is_within n p) (list_all (is_within n) ps) e) (omega arith)

-- one more duty is set to its state
pub set_next : (n : ℕ) (places : List Place) (k left : ℕ) (d : Place) (rows old new : List DutyRow)
    → AreWithin n places → k < length places → left ≡ suc k
    → new ≡ updated (is_duty (1 + ((slice_index_or places k d).duty - 1)))
    (with_duty_state (slice_index_or places k d).state) rows
    → rows ≡ standing_by (drop left places) old → new ≡ standing_by (drop k places) old
set_next n places k left d rows old new within lt next is before =
    let p : Place = slice_index_or places k d in
    let some : 1 ≤ p.duty = within_at n places k d within lt in
    let duty : 1 + (p.duty - 1) ≡ p.duty = omega (arith, some) in
    is
    ∙ (ap (λ (q : ℕ). updated (is_duty q) (with_duty_state p.state) rows) duty
    ∙ (ap (updated (is_duty p.duty) (with_duty_state p.state))
    (before ∙ ap (λ (j : ℕ). standing_by (drop j places) old) next)
    ∙ ap (λ (ps : List Place). standing_by ps old) (sym (drop_get places k d lt))))

pub from_err : {A E : Type 0} {X : Type 0} (r : Result A E) → true ≡ is_err r → OnErr r X → X
from_err (Ok a) e x = cc
from_err (Err f) e x = x

pub from_ok : {A E : Type 0} {X : Type 0} (r : Result A E) → false ≡ is_err r → OnOk r X → X
from_ok (Ok a) e x = x
from_ok (Err f) e x = cc
