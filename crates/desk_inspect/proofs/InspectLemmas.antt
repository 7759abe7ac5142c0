-- One look-up after another.
use Rattle.desk_model.specs.Readings.{Readings}
use Rattle.desk_model.specs.declared.command.Command.{Command}
use Rattle.std.specs.Prelude.{List}
use Rattle.desk_access.specs.Seen.{Kept, Same, Seen}
use Rattle.desk_core.specs.Desks.{InHistory}
use Rattle.desk_views.proofs.PageLemmas.{found_after}

-- what is true of the history after a look-up was true before it
pub found_before : {Left : Type 0} (is_right : Readings → Type 0)
    (Is : Readings → List Command → Type 0) (a b c : Seen Left) → Same a b → Kept b c
    → InHistory is_right Is b c → InHistory is_right Is a c
found_before is_right Is a b c same kept found = found_after is_right a b Is c same found

-- what a look-up found stays true after the next one
pub found_then : {Left : Type 0} (is_right : Readings → Type 0)
    (Is : Readings → List Command → Type 0) (a b c : Seen Left) → Same a b → Kept b c
    → InHistory is_right Is a b → InHistory is_right Is a c
found_then is_right Is a b c same kept found w right honest h ok held =
    found w right (kept.spared.honest honest) h ok held
