-- A step that is planned leads to the tables after its change.
use Rattle.std.proofs.Common.{◌≡◌, ℕ, List, length, Option, Some, None, Ok, Err, Result, sym, subst}
use Rattle.std.specs.Prelude.{IfOk, IfSome}
use Rattle.desk_model.specs.Keys.{release_below}
use Rattle.desk_model.specs.Tables.{Tables, applied}
use Rattle.desk_model.specs.declared.command.Change.{Change}
use Rattle.desk_history.specs.Laws.{Ascends}
use Rattle.desk_tally.specs.Stands.{count_after, stands_after}
use Rattle.desk_tally.specs.Kept.{AreKept, IsKept, IsPlaceFor, IsStep, LeadsTo}
use Rattle.desk_tally.specs.declared.stand.Stand.{Stand}
use Rattle.desk_tally.specs.declared.stand.Step.{Step}
use Rattle.desk_tally.specs.declared.tally.Tally.{Tally}
use Rattle.desk_tally.specs.declared.tallies.Tallies.{Tallies}
use Rattle.desk_tally.proofs.Leads.{leads}

pub planned : {E : Type 0} (c : Change) (place : Option ℕ) (old new : Tallies)
    (told : Result (Option Step) E) → new.stands.items ≡ old.stands.items
    → new.tallies.items ≡ old.tallies.items
    → IfOk told (λ found. IfSome found
    (λ s. IsStep c place (length old.tallies.items) old.stands.items s))
    → IfOk told (λ found. IfSome found
    (λ s. (t : Tables) → Ascends release_below (applied c t).releases → IsPlaceFor c place t
    → AreKept old t → LeadsTo s new (applied c t)))
planned c place old new (Err e) stands tallies is = is
planned c place old new (Ok None) stands tallies is = is
planned c place old new (Ok (Some s)) stands tallies is = λ t up at kept.
    subst (λ (xs : List Tally). IsKept (count_after s (length xs)) (stands_after s new.stands.items)
    (applied c t)) (sym tallies)
    (subst (λ (all : List Stand). IsKept (count_after s (length old.tallies.items))
    (stands_after s all) (applied c t)) (sym stands)
    (leads c place (length old.tallies.items) old.stands.items s t old.placed up at is kept))
