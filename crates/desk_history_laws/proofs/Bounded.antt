-- The rows of a recorded history are within the limits.
use Rattle.std.proofs.Common.{◌≡◌, ℕ, ◌+◌, ◌≤◌, true, List, [], ◌∷◌, ◌++◌, length, map, Option}
use Rattle.std.proofs.Common.{Some, None, sym, ap, subst, arith, inl, inr}
use Rattle.std.specs.Prelude.{IfSome, IsTrue, not, ◌&&◌}
use Rattle.std.specs.Option.{option_map_or}
use Rattle.std.specs.Str.{bytes_eq}
use Rattle.std.proofs.lemmas.List.{length-map}
use Rattle.desk_base.specs.Day.{is_day}
use Rattle.desk_base.specs.Limits as most
use Rattle.desk_base.proofs.Bools.{and_left, and_right}
use Rattle.desk_base.proofs.Numbers.{le_is}
use Rattle.desk_model.specs.Lists.{IsIn}
use Rattle.desk_model.specs.Keys.{below_by, frozen_order}
use Rattle.desk_model.specs.Names.{word_name}
use Rattle.desk_model.specs.Readings.{Readings}
use Rattle.desk_model.specs.Texts.{is_before}
use Rattle.desk_model.specs.History.{attached, documents, names, opened, packages, references, revisions, rule_rows}
use Rattle.desk_model.specs.Conclusions.{adoptions, conclusions}
use Rattle.desk_model.specs.Answers.{IsHistory}
use Rattle.desk_model.specs.Moves.{all_changes, change_row, change_rows, changes, duties, duty_row, moves, place}
use Rattle.desk_model.specs.Raised.{frozen, IsRaised, numbered, raised}
use Rattle.desk_model.specs.Tables.{choices, release_row, release_rows, tables}
use Rattle.desk_model.specs.declared.command.Command.{Command}
use Rattle.desk_model.specs.declared.command.Command.TheVariants.{Freeze}
use Rattle.desk_model.specs.declared.row.ChangeRow.{ChangeRow}
use Rattle.desk_model.specs.declared.row.DutyRow.{DutyRow}
use Rattle.desk_model.specs.declared.row.FrozenRow.{FrozenRow}
use Rattle.desk_model.specs.declared.row.Move.{Move}
use Rattle.desk_model.specs.declared.row.Owed.{Owed}
use Rattle.desk_model.specs.declared.row.PackageRow.{PackageRow}
use Rattle.desk_model.specs.declared.row.ReleaseRow.{ReleaseRow}
use Rattle.desk_model.specs.declared.state.Word.TheVariants.{Waived}
use Rattle.desk_history.proofs.Lookups.{length-releases}
use Rattle.desk_history.proofs.Members.{from_flat_map, from_map, in_cases}
use Rattle.desk_history.proofs.Sorting.{change_within, within_revisions, within_documents}
use Rattle.desk_history.proofs.Freezing.{length-duties}
use Rattle.desk_history.proofs.Moving.{length-change_rows}
use Rattle.desk_history.proofs.Listed.{of_revision, of_document, defined_by}
use Rattle.desk_snapshot.specs.Changes.{is_waiver_of}
use Rattle.desk_snapshot.specs.Conditions.{AreNumbered}
use Rattle.desk_snapshot.specs.Tables.{change_stored, duty_stored, snapshot_of}
use Rattle.desk_snapshot.specs.declared.rows.StoredChange.{StoredChange}
use Rattle.desk_history_laws.specs.Within.{AreWithin}
use Rattle.desk_history_laws.proofs.Bounds.{adoptions_within, attached_within, attachment_within}
use Rattle.desk_history_laws.proofs.Bounds.{conclusions_within, few_documents}
use Rattle.desk_history_laws.proofs.Bounds.{few_opened, few_revisions}
use Rattle.desk_history_laws.proofs.Bounds.{later_documents}
use Rattle.desk_history_laws.proofs.Distinct.{place_within}
use Rattle.desk_history_laws.proofs.HeldRows.{FromSet, held_for}
use Rattle.desk_history_laws.proofs.Kept.{ChosenRows, WereHeld}
use Rattle.desk_history_laws.proofs.Lists.{each_in, in_numbers}
use Rattle.desk_history_laws.proofs.Releases.{from_shipped}
use Rattle.desk_history_laws.proofs.Runs.{IsRun, runs}
use Rattle.desk_history_laws.proofs.Bills.{revision_within}
use Rattle.desk_history_laws.proofs.Members.{from_sorted}

-- the laws on which these rest
pub record Laws : Type 0 where
  pub from_set : FromSet
  pub chosen : ChosenRows
  pub were : WereHeld
  pub raised : (w : Readings) (h : List Command) (d : Owed) → IsIn d (raised w h) → IsRaised w h d
  pub numbered : (w : Readings) (h : List Command) → IsHistory w h
      → AreNumbered (snapshot_of (tables w h))
  pub few : (w : Readings) (h : List Command) → IsHistory w h → (q : ℕ)
      → length (changes w h q) ≤ 1001

-- ---- what releases were frozen with

-- a package that a release shipped before these commands is of a document that exists after them
shipped_within : (w : Readings) (h later before : List Command) (r day : List ℕ) (p : PackageRow)
    → h ≡ later ++ Freeze r day ∷ before → IsIn p (packages w before)
    → p.document ≤ length (documents w h)
shipped_within w h later before r day p split m =
    let stood = of_document w before p m in
    let after = later_documents w later (Freeze r day ∷ before) in
    subst (λ (h : List Command). p.document ≤ length (documents w h)) (sym split)
    (omega (arith, stood, after))

frozen_documents : WereHeld → (w : Readings) (h : List Command) (row : FrozenRow)
    → IsIn row (frozen w h) → row.document ≤ length (documents w h)
frozen_documents were w h row m =
    let is = were w h row m in
    omega (
      arith,
      is.document,
      shipped_within w h is.later is.before row.release is.day is.row is.split
          (from_shipped w is.before row.release is.row is.ships).listed,
    )

owed_documents : ((w : Readings) (h : List Command) (d : Owed) → IsIn d (raised w h)
    → IsRaised w h d) → (w : Readings) (h : List Command) (d : Owed) → IsIn d (raised w h)
    → d.document ≤ length (documents w h)
owed_documents raised w h d m =
    let is = raised w h d m in
    omega (
      arith,
      is.document,
      shipped_within w h is.later is.before d.release is.day is.row is.split
          (from_shipped w is.before d.release is.row is.ships).listed,
    )

-- ---- duties

few_duties : (w : Readings) (h : List Command) → AreNumbered (snapshot_of (tables w h))
    → length (duties w h) ≤ most.duties
few_duties w h are = omega (
  arith,
  le_is (length (map duty_stored (duties w h))) 100000 are.few,
  length-map (duties w h) duty_stored,
)

-- ---- changes

abbrev Dated : ChangeRow → Type 0
Dated row = IsTrue (is_day row.day) × IfSome row.last_day (λ day. IsTrue (is_day day))

end_dated : (row : StoredChange) (end : Option (List ℕ))
    → option_map_or (is_waiver_of row) end true ≡ true → IfSome end (λ day. IsTrue (is_day day))
end_dated row None e = tt
end_dated row (Some day) e =
    and_left (is_day day) (not (is_before day row.day))
    (and_right (bytes_eq row.word (word_name Waived)) (is_day day && not (is_before day row.day)) e)

dated : (q : ℕ) (ms : List Move) → IsRun ms → (row : ChangeRow) → IsIn row (change_rows q ms)
    → Dated row
dated q [] run row m = absurd m
dated q (move ∷ ms) run row m =
    elim (in_cases row (change_rows q ms) (change_row q (length ms + 1) move ∷ []) m) [
      | inl old ↦ dated q ms run.2 row old
      | inr here ↦ (elim here [
        | inl same ↦ subst Dated same (
          and_left (is_day move.day) _ run.1.0,
          end_dated (change_stored (change_row 0 0 move)) move.last_day run.1.1,
        )
        | inr none ↦ absurd none
      ])
    ]

record IsChange (w : Readings) (h : List Command) (row : ChangeRow) : Type 0 where
  duty : row.duty ≤ length (duties w h)
  step : row.step ≤ 1001
  day : IsTrue (is_day row.day)
  last_day : IfSome row.last_day (λ day. IsTrue (is_day day))

change_is : (w : Readings) (h : List Command) → IsHistory w h
    → ((q : ℕ) → length (changes w h q) ≤ 1001) → (row : ChangeRow) → IsIn row (all_changes w h)
    → IsChange w h row
change_is w h ok few row m =
    let at = from_flat_map (λ (d : ℕ × Owed). changes w h d.0) row (numbered w h) m in
    let d = at.0 in
    let own = change_within d.0 (moves w h d.0) row at.2 in
    let number = in_numbers 1 (raised w h) d at.1 in
    let days = dated d.0 (moves w h d.0) (runs w h ok d.0) row at.2 in
    record {
      duty = omega (arith, own.0, number.1, length-duties w h);
      step = omega (arith, own.1, few d.0, length-change_rows d.0 (moves w h d.0));
      day = days.0;
      last_day = days.1;
    }

-- ---- all tables

pub within : Laws → (w : Readings) (h : List Command) → IsHistory w h → AreWithin (tables w h)
within laws w h ok =
    let named = λ (row : ReleaseRow) (m : IsIn row (release_rows h)). from_map (release_row h) row
    (names h) m in
    let raised_as = λ (row : DutyRow) (m : IsIn row (duties w h)). from_map
    (λ (d : ℕ × Owed). duty_row (place w h d.0) d) row (numbered w h) m in
    let change = change_is w h ok (laws.few w h ok) in
    record {
      revisions = few_revisions w h ok;
      documents = few_documents w h ok;
      releases = omega (arith, few_opened w h ok, length-releases h);
      duties = few_duties w h (laws.numbered w h ok);
      catalogue = each_in _ (revisions h) (within_revisions h);
      rule = each_in _ (rule_rows w h) (of_revision w h);
      document = each_in _ (documents w h) (within_documents w h);
      packages = each_in _ (packages w h) (of_document w h);
      extracted = each_in _ (references w h) (defined_by w h);
      conclusion = each_in _ (conclusions h) (conclusions_within w h ok);
      adoption = each_in _ (adoptions w h) (adoptions_within w h ok);
      places = each_in _ (release_rows h)
          (λ row m. let at = named row m in
          omega (
            arith,
            place_within (opened h) at.0,
            length-releases h,
            ap (λ (row : ReleaseRow). row.place) at.2,
          ));
      frozen_by = each_in _ (release_rows h)
          (λ row m. let at = named row m in
          omega (arith, revision_within h at.0, ap (λ (row : ReleaseRow). row.revision) at.2));
      attached = each_in _ (attached h) (attached_within w h ok);
      choice = each_in _ (choices w h) (λ row m.
          let held = held_for laws.from_set w h row.release row.document row.package_id row.term ok
          (laws.chosen w h row m) in
          attachment_within w h ok row.release row.document held.attached);
      frozen = each_in _ _ (λ row m. frozen_documents laws.were w h row
          (from_sorted (below_by frozen_order) row (frozen w h) m));
      duty = each_in _ (duties w h) (λ row m.
          let at = raised_as row m in
          omega (
            arith,
            (in_numbers 1 (raised w h) at.0 at.1).1,
            length-duties w h,
            ap (λ (row : DutyRow). row.number) at.2,
          ));
      owed = each_in _ (duties w h) (λ row m.
          let at = raised_as row m in
          omega (
            arith,
            owed_documents laws.raised w h at.0.1 (in_numbers 1 (raised w h) at.0 at.1).2,
            ap (λ (row : DutyRow). row.document) at.2,
          ));
      changes = each_in _ (all_changes w h) (λ row m. (change row m).duty);
      steps = each_in _ (all_changes w h) (λ row m. (change row m).step);
      days = each_in _ (all_changes w h) (λ row m. (change row m).day);
      last_days = each_in _ (all_changes w h) (λ row m. (change row m).last_day);
    }
