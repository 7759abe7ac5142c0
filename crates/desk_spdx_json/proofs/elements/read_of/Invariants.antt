use Rattle.std.proofs.Common.{◌≡◌, ◌++◌, drop, map}
use Rattle.std.specs.String.{string_bytes}
use Rattle.desk_spdx_json.specs.Elements.{read_of}
use Rattle.desk_spdx_json.specs.Steps.{step_text}
use Rattle.desk_spdx_json.proofs.elements.read_of.Given as goal

-- the text so far, and that of the steps that are left, are all
abbrev pub invariant-loop-step : goal.invariant-loop-step
invariant-loop-step l = string_bytes l.text ++ read_of (map step_text (drop l.step-index l.steps))
    ≡ read_of (map step_text l.steps)
