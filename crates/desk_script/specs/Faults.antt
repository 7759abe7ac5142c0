-- Why a script stopped.
use Rattle.std.specs.Prelude.{ℕ, ◌≤◌}
use Rattle.desk_base.specs.Limits as most
use Rattle.desk_script.specs.declared.serving.ScriptStop.{ScriptStop}
use Rattle.desk_script.specs.declared.serving.ScriptStop.TheVariants.{Read, Write, Turns, Memory, Refused, Failed}

-- a reply that couldn't be written, no memory for a line or a reply, or a line that isn't done if a
-- script is to stop there
abbrev pub IsOfReply : ScriptStop → Type 0
IsOfReply Write = Unit {0}
IsOfReply Memory = Unit {0}
IsOfReply Read = ⊥
IsOfReply Turns = ⊥
IsOfReply Refused = Unit {0}
IsOfReply Failed = Unit {0}

-- a writer that failed
abbrev pub IsOfWriter : ScriptStop → Type 0
IsOfWriter Write = Unit {0}
IsOfWriter Memory = ⊥
IsOfWriter Read = ⊥
IsOfWriter Turns = ⊥
IsOfWriter Refused = ⊥
IsOfWriter Failed = ⊥

-- a reader that gave this many bytes and failed, or was asked too often and gave at least one byte
-- each time
abbrev pub IsOfReader : ScriptStop → ℕ → Type 0
IsOfReader Read count = Unit {0}
IsOfReader Turns count = most.script_reads ≤ count
IsOfReader Write count = ⊥
IsOfReader Memory count = ⊥
IsOfReader Refused count = ⊥
IsOfReader Failed count = ⊥
