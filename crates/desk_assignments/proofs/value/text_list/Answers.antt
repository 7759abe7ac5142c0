use Rattle.std.proofs.Common.{ap, map, ◌∙◌}
use Rattle.serde_json.specs.Data.{array, string}
use Rattle.serde_json.specs.View.{items_of}
use Rattle.serde_json.proofs.Views.{view-Array}
use Rattle.desk_base.specs.Borrowed.{texts}
use Rattle.desk_assignments.proofs.value.text_list.Goals as goal

pub returns : goal.returns
returns c =
    view-Array c.in_ok-text_values.field-0
    ∙ ap (λ ds. array (items_of ds)) (c.in_ok-text_values.ensures
    ∙ ap (λ parts. map string (texts parts)) c.as_slice.ensures.value
    ∙ ap (map string) c.in_ok-parts.ensures)
