-- What the office decided and what is held meets its condition.
use Rattle.std.proofs.Common.{◌≡◌, ℕ, true, List, [], map, subst}
use Rattle.desk_model.specs.Lists.{IsIn}
use Rattle.desk_model.specs.Readings.{Readings}
use Rattle.desk_model.specs.History.{choice}
use Rattle.desk_model.specs.Answers.{IsHistory}
use Rattle.desk_model.specs.Tables.{choices, release_rows, tables}
use Rattle.desk_model.specs.declared.command.Command.{Command}
use Rattle.desk_model.proofs.Lists.{all_pass}
use Rattle.desk_history.specs.Laws.{IsHeldMinimal}
use Rattle.desk_history.proofs.Members.{from_map}
use Rattle.desk_snapshot.specs.Conditions.{AreChoices, is_choice, IsKept}
use Rattle.desk_snapshot.specs.Tables.{choice_stored, release_stored, snapshot_of}
use Rattle.desk_snapshot.specs.declared.rows.StoredChoice.{StoredChoice}
use Rattle.desk_history_laws.specs.ChoicePremises.{ReadsChoices}
use Rattle.desk_history_laws.proofs.Lists.{each_in}
use Rattle.desk_history_laws.proofs.Concluded.{expressions, licences, places}
use Rattle.desk_history_laws.proofs.HeldRows.{choice_held, FromSet, held_for, SetsRise, Stands}
use Rattle.desk_history_laws.proofs.Kept.{ChosenRows, FrozenHeld, HeldFrozen, kept_terms, RowsOfChosen, WereHeld}

-- the laws on which these rest
pub record Laws : Type 0 where
  pub stands : Stands
  pub from_set : FromSet
  pub sets_rise : SetsRise
  pub minimal : (w : Readings) (h : List Command) (r : List ℕ) (d : ℕ) (p : List ℕ) → IsHistory w h
      → (choice w h r d p ≡ [] → ⊥) → IsHeldMinimal w h d p (choice w h r d p)
  pub were : WereHeld
  pub chosen : ChosenRows
  pub rows : RowsOfChosen
  pub frozen_held : FrozenHeld
  pub held_frozen : HeldFrozen

pub are_choices : Laws → (w : Readings) (h : List Command) → ReadsChoices w → IsHistory w h
    → AreChoices w (snapshot_of (tables w h))
are_choices laws w h reads ok =
    let s = snapshot_of (tables w h) in
    record {
      conclusions = expressions w reads h ok;
      adoptions = licences w reads h ok;
      places = places w h ok;
      held = all_pass (is_choice w s) (map choice_stored (choices w h)) (λ row m.
          let at = from_map choice_stored row (choices w h) m in
          let c = at.0 in
          let there = laws.chosen w h c at.1 in
          let held = held_for laws.from_set w h c.release c.document c.package_id c.term ok there in
          let is = laws.minimal w h c.release c.document c.package_id ok
          (λ e. subst (IsIn c.term) e there) in
          subst (λ (row : StoredChoice). is_choice w s row ≡ true) at.2
          (choice_held laws.from_set laws.stands laws.sets_rise w reads h ok c held is));
      kept = each_in (IsKept s) (map release_stored (release_rows h))
          (kept_terms laws.stands laws.sets_rise laws.were laws.chosen laws.rows laws.frozen_held
          laws.held_frozen w reads.packages h ok);
    }
