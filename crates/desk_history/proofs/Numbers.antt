-- The number of a duty, by the freeze that raises it; and that it stays the same.
use Rattle.std.proofs.Common.{◌≡◌, ℕ, ◌+◌, List, [], ◌∷◌, ◌++◌, length, sym, subst, inl, inr}
use Rattle.std.specs.List.{enumerate_from}
use Rattle.desk_model.specs.Lists.{IsIn}
use Rattle.desk_model.specs.Readings.{Readings}
use Rattle.desk_model.specs.Raised.{raised, owed_at, numbered}
use Rattle.desk_history.specs.Laws.{IsNumbered}
use Rattle.desk_history.proofs.Freezes.{AtFreeze, at_earlier, at_once}
use Rattle.desk_history.proofs.Members.{in_left, in_right, in_cases}
use Rattle.desk_history.proofs.Freezing.{numbered-append}
use Rattle.desk_model.specs.declared.row.Owed.{Owed}
use Rattle.desk_model.specs.declared.command.Command.{Command}
use Rattle.desk_model.specs.declared.command.Command.TheVariants.{Freeze}

-- a freeze continues the numbers of the duties before it
numbered-freeze : (w : Readings) (h : List Command) (r day : List ℕ)
    → numbered w (Freeze r day ∷ h) ≡ numbered w h
    ++ enumerate_from (1 + length (raised w h)) (owed_at w h r)
numbered-freeze w h r day = numbered-append 1 (raised w h) (owed_at w h r)

-- what is numbered stays numbered
stays : (w : Readings) (c : Command) (h : List Command) (d : ℕ × Owed) → IsIn d (numbered w h)
    → IsIn d (numbered w (c ∷ h))
stays w (Freeze r day) h d m = subst (λ ds. IsIn d ds) (sym (numbered-freeze w h r day))
    (in_left d (numbered w h) (enumerate_from (1 + length (raised w h)) (owed_at w h r)) m)
stays w c h d m = m

pub numbers_stay : (w : Readings) (later before : List Command) (d : ℕ × Owed)
    → IsIn d (numbered w before) → IsIn d (numbered w (later ++ before))
numbers_stay w [] before d m = m
numbers_stay w (c ∷ later) before d m = stays w c (later ++ before) d
    (numbers_stay w later before d m)

new_numbers : (w : Readings) (h : List Command) (r day : List ℕ) (d : ℕ × Owed)
    → IsIn d (enumerate_from (1 + length (raised w h)) (owed_at w h r))
    → IsIn d (numbered w (Freeze r day ∷ h))
new_numbers w h r day d m = subst (λ ds. IsIn d ds) (sym (numbered-freeze w h r day))
    (in_right d (numbered w h) (enumerate_from (1 + length (raised w h)) (owed_at w h r)) m)

pub is_in_numbered : (w : Readings) (h : List Command) (d : ℕ × Owed) → IsNumbered w h d
    → IsIn d (numbered w h)
is_in_numbered w h d is =
    subst (λ hs. IsIn d (numbered w hs)) (sym is.split)
    (numbers_stay w is.later (Freeze is.release is.day ∷ is.before) d
    (new_numbers w is.before is.release is.day d is.raises))

numbered_at : (w : Readings) (h : List Command) (d : ℕ × Owed) → IsIn d (numbered w h)
    → AtFreeze h (λ before r. IsIn d (enumerate_from (1 + length (raised w before))
    (owed_at w before r)))
numbered_at w [] d m = absurd m
numbered_at w (Freeze r day ∷ h) d m =
    elim (in_cases d (numbered w h) (enumerate_from (1 + length (raised w h)) (owed_at w h r))
    (subst (λ ds. IsIn d ds) (numbered-freeze w h r day) m)) [
      | inl old ↦ at_earlier (Freeze r day) h (numbered_at w h d old)
      | inr new ↦ at_once h r day new
    ]
numbered_at w (c ∷ h) d m = at_earlier c h (numbered_at w h d m)

pub numbered_in : (w : Readings) (h : List Command) (d : ℕ × Owed) → IsIn d (numbered w h)
    → IsNumbered w h d
numbered_in w h d m =
    let at = numbered_at w h d m in
    record {
      later = at.later;
      before = at.before;
      release = at.release;
      day = at.day;
      split = at.split;
      raises = at.is;
    }
