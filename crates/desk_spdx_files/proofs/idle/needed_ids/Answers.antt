use Rattle.std.proofs.Common.{◌∙◌, ◌++◌, ap}
use Rattle.std.proofs.lemmas.Result.{IfOk-weaker}
use Rattle.desk_base.specs.Borrowed.{texts}
use Rattle.desk_base.specs.TextSets.{IsSetOf, is_among}
use Rattle.serde_json.specs.View.{view}
use Rattle.desk_spdx_files.specs.Files.{needed_ids}
use Rattle.desk_spdx_files.proofs.idle.needed_ids.Goals as goal

pub returns : goal.returns
returns c =
    IfOk-weaker c.text_set.result (IsSetOf (texts c.as_slice.result.now)) _ (λ set told. λ id.
    told id
    ∙ ap (λ found. is_among found id)
    (ap texts c.as_slice.ensures.value ∙ c.in_ok-add_needed.ensures
    ∙ ap (λ found. texts found ++ needed_ids (view c.args.value.now)) c.new-found.ensures.items))
    c.text_set.ensures
