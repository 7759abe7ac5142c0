use Rattle.std.proofs.Common.{take, map}
use Rattle.std.specs.String.{string_bytes}
use Rattle.desk_spdx_json.specs.Steps.{step_text}
use Rattle.desk_import.specs.Results.{IsPut}
use Rattle.desk_import.proofs.writing.put_steps.Given as goal

-- the steps so far were written
abbrev pub invariant-loop-step : goal.invariant-loop-step
invariant-loop-step l = IsPut (string_bytes l.fn.out) (map step_text (take l.step-index l.steps))
    (string_bytes l.out)
