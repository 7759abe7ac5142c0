use Rattle.std.proofs.Common.{◌≡◌, take, map}
use Rattle.desk_spdx_json.specs.Steps.{step_text}
use Rattle.desk_import.specs.Placed.{placed}
use Rattle.desk_import.proofs.placed.placed.Given as goal

-- the findings so far have their places
abbrev pub invariant-loop-finding : goal.invariant-loop-finding
invariant-loop-finding l = record {
  found : l.found.items ≡ map (placed (map step_text l.steps)) (take l.finding-index l.findings);
  steps : l.walk.steps.now ≡ l.steps;
}
