-- The moves of a duty are those that the commands made.
use Rattle.std.proofs.Common.{◌≡◌, ℕ, ◌+◌, List, [], ◌∷◌, ◌++◌, length, map, Option, Some, None}
use Rattle.std.proofs.Common.{sym, refl, ap, ◌∙◌, subst, inl, inr}
use Rattle.std.specs.Prelude.{reverse}
use Rattle.std.specs.List.{filter_map, cons_option, enumerate_from, last_or}
use Rattle.std.proofs.lemmas.List.{reverse-append, length-reverse}
use Rattle.desk_model.specs.Lists.{IsIn}
use Rattle.desk_model.specs.Readings.{Readings}
use Rattle.desk_model.specs.Moves.{move_by, moves, with_move, place, place_after, change_row, change_rows, changes}
use Rattle.desk_model.specs.declared.row.Move.{Move}
use Rattle.desk_model.specs.declared.command.Command.{Command}
use Rattle.desk_history_laws.specs.Moved.{with_rest, moved, moves_given, step_row, left_by, IsMove}
use Rattle.desk_history_laws.proofs.Given.{filter_map-reverse, last-reverse, rows-push}

with-cons : (o : Option Move) (ms : List Move) → with_move o ms ≡ cons_option o ms
with-cons None ms = refl
with-cons (Some m) ms = refl

filtered : (w : Readings) (h : List Command) (q : ℕ)
    → moves w h q ≡ filter_map (moved w q) (with_rest h)
filtered w [] q = refl
filtered w (c ∷ h) q =
    with-cons (move_by w q c h (moves w h q)) (moves w h q)
    ∙ ap (cons_option (move_by w q c h (moves w h q))) (filtered w h q)

pub moves-given : (w : Readings) (h : List Command) (q : ℕ)
    → reverse (moves w h q) ≡ moves_given w h q
moves-given w h q = ap reverse (filtered w h q) ∙ sym (filter_map-reverse (moved w q) (with_rest h))

rows-steps : (q : ℕ) (ms : List Move)
    → change_rows q ms ≡ map (step_row q) (enumerate_from 1 (reverse ms))
rows-steps q [] = refl
rows-steps q (m ∷ ms) =
    ap (λ rows. rows ++ change_row q (length ms + 1) m ∷ []) (rows-steps q ms)
    ∙ (ap (λ (n : ℕ). map (step_row q) (enumerate_from 1 (reverse ms)) ++ change_row q (n + 1) m
    ∷ []) (sym (length-reverse ms))
    ∙ (sym (rows-push (step_row q) (reverse ms) m)
    ∙ ap (λ (xs : List Move). map (step_row q) (enumerate_from 1 xs))
    (sym (reverse-append (m ∷ []) ms))))

pub changes-given : (w : Readings) (h : List Command) (q : ℕ)
    → changes w h q ≡ map (step_row q) (enumerate_from 1 (moves_given w h q))
changes-given w h q = rows-steps q (moves w h q)
    ∙ ap (λ (xs : List Move). map (step_row q) (enumerate_from 1 xs)) (moves-given w h q)

place-last : (ms : List Move) → place_after ms ≡ left_by (last_or None (reverse ms))
place-last [] = refl
place-last (m ∷ ms) = ap left_by (sym (last-reverse m ms))

pub place-given : (w : Readings) (h : List Command) (q : ℕ)
    → place w h q ≡ left_by (last_or None (moves_given w h q))
place-given w h q = place-last (moves w h q)
    ∙ ap (λ (xs : List Move). left_by (last_or None xs)) (moves-given w h q)

-- each of them

in_older : (o : Option Move) (m : Move) (ms : List Move) → IsIn m ms → IsIn m (with_move o ms)
in_older None m ms is = is
in_older (Some n) m ms is = inr is

in_split : (w : Readings) (later before : List Command) (c : Command) (q : ℕ) (m : Move)
    → move_by w q c before (moves w before q) ≡ Some m → IsIn m (moves w (later ++ c ∷ before) q)
in_split w [] before c q m e = subst (λ (o : Option Move). IsIn m (with_move o (moves w before q)))
    (sym e) (inl refl)
in_split w (l ∷ later) before c q m e =
    in_older (move_by w q l (later ++ c ∷ before) (moves w (later ++ c ∷ before) q)) m
    (moves w (later ++ c ∷ before) q) (in_split w later before c q m e)

pub in_moves : (w : Readings) (h : List Command) (q : ℕ) (m : Move) → IsMove w h q m
    → IsIn m (moves w h q)
in_moves w h q m is = subst (λ (hs : List Command). IsIn m (moves w hs q)) (sym is.split)
    (in_split w is.later is.before is.command q m is.moves)

later_move : (w : Readings) (c : Command) (h : List Command) (q : ℕ) (m : Move) → IsMove w h q m
    → IsMove w (c ∷ h) q m
later_move w c h q m is = record {
  later = c ∷ is.later;
  command = is.command;
  before = is.before;
  split = ap (λ (hs : List Command). c ∷ hs) is.split;
  moves = is.moves;
}

from_step : (w : Readings) (c : Command) (h : List Command) (q : ℕ) (m : Move) (o : Option Move)
    → move_by w q c h (moves w h q) ≡ o → (IsIn m (moves w h q) → IsMove w h q m)
    → IsIn m (with_move o (moves w h q)) → IsMove w (c ∷ h) q m
from_step w c h q m None e rest at = later_move w c h q m (rest at)
from_step w c h q m (Some n) e rest at =
    elim at [
      | inl same ↦ record {
        later = [];
        command = c;
        before = h;
        split = refl;
        moves = e
            ∙ ap (λ (u : Move). Some u) same;
      }
      | inr older ↦ later_move w c h q m (rest older)
    ]

pub from_moves : (w : Readings) (h : List Command) (q : ℕ) (m : Move) → IsIn m (moves w h q)
    → IsMove w h q m
from_moves w [] q m at = absurd at
from_moves w (c ∷ h) q m at = from_step w c h q m (move_by w q c h (moves w h q)) refl
    (from_moves w h q m) at
