use Rattle.std.proofs.Common.{◌≡◌, ◌++◌, map}
use Rattle.desk_spdx_json.specs.Elements.{Sees, element_text, merged, merged_after}
use Rattle.desk_spdx_json.proofs.elements.merged.Given as goal

-- the elements so far were seen; the steps so far and those of the other elements are all
abbrev pub invariant-loop-element : goal.invariant-loop-element
invariant-loop-element l = record {
  sees : Sees (map element_text l.yielded) l.seen;
  steps : l.steps
      ++ merged_after (map element_text l.yielded) (map element_text l.element-iterator.rest.items)
      ≡ merged (map element_text l.fn.elements.items);
}
