-- The rows of the duty table are those of the duties that were raised.
use Rattle.std.proofs.Common.{◌≡◌, ℕ, ◌+◌, List, [], ◌∷◌, sym, refl, ap, subst, inl, inr}
use Rattle.std.specs.List.{enumerate_from}
use Rattle.desk_model.specs.Lists.{IsIn}
use Rattle.desk_model.specs.Readings.{Readings}
use Rattle.desk_model.specs.Raised.{IsRaised, raised, numbered}
use Rattle.desk_model.specs.Moves.{duties, duty_row, place}
use Rattle.desk_model.specs.declared.row.Owed.{Owed}
use Rattle.desk_model.specs.declared.row.DutyRow.{DutyRow}
use Rattle.desk_model.specs.declared.command.Command.{Command}
use Rattle.desk_history.specs.Laws.{IsNumbered}
use Rattle.desk_history.proofs.Members.{in_map, from_map}
use Rattle.desk_history_laws.specs.Standing.{IsDutyRow}

from_numbers : (n : ℕ) (xs : List Owed) (d : ℕ × Owed) → IsIn d (enumerate_from n xs) → IsIn d.1 xs
from_numbers n [] d m = absurd m
from_numbers n (x ∷ xs) d m = elim m [
  | inl e ↦ inl (ap (λ (p : ℕ × Owed). p.1) e)
  | inr later ↦ inr (from_numbers (n + 1) xs d later)
]

module _ (w : Readings) (h : List Command) where
  pub in_duties : ((d : ℕ × Owed) → IsNumbered w h d → IsIn d (numbered w h)) → (row : DutyRow)
      → IsDutyRow w h row → IsIn row (duties w h)
  in_duties held row is =
      let same : duty_row (place w h row.number) (row.number, is.duty) ≡ row = λ i. record {
        number = row.number;
        release = sym is.release i;
        document = sym is.document i;
        package_id = sym is.package_id i;
        term = sym is.term i;
        code = sym is.code i;
        rule = sym is.rule i;
        state = sym is.state i;
      } in
      subst (λ (r : DutyRow). IsIn r (duties w h)) same
      (in_map (λ (d : ℕ × Owed). duty_row (place w h d.0) d) (row.number, is.duty) (numbered w h)
      (held (row.number, is.duty) is.numbered))

  pub from_duties : ((d : ℕ × Owed) → IsIn d (numbered w h) → IsNumbered w h d)
      → ((d : Owed) → IsIn d (raised w h) → IsRaised w h d)
      → (row : DutyRow) → IsIn row (duties w h) → IsDutyRow w h row
  from_duties only known row m =
      let found = from_map (λ (d : ℕ × Owed). duty_row (place w h d.0) d) row (numbered w h) m in
      let here : IsDutyRow w h (duty_row (place w h found.0.0) found.0) = record {
        duty = found.0.1;
        raised = known found.0.1 (from_numbers 1 (raised w h) found.0 found.1);
        numbered = only found.0 found.1;
        release = refl;
        document = refl;
        package_id = refl;
        term = refl;
        code = refl;
        rule = refl;
        state = refl;
      } in
      subst (IsDutyRow w h) found.2 here
