-- The faults of a script that nothing watches, among what may stop one that is watched.
use Rattle.desk_script.specs.declared.serving.ScriptStop.{ScriptStop}
use Rattle.desk_script.specs.declared.serving.ScriptStop.TheVariants as stop
use Rattle.desk_script.specs.declared.unwatched.ScriptFault.{ScriptFault}
use Rattle.desk_script.specs.declared.unwatched.ScriptFault.TheVariants.{Read, Write, Turns, Memory}

-- the same fault by its name among those stops
abbrev pub stop_of : ScriptFault → ScriptStop
stop_of Read = stop.Read
stop_of Write = stop.Write
stop_of Turns = stop.Turns
stop_of Memory = stop.Memory
