use Rattle.std.proofs.Common.{◌∙◌, ◌++◌, List, ap, codes, filter, ℕ}
use Rattle.std.specs.Prelude.{◌&&◌, not}
use Rattle.std.proofs.lemmas.Result.{IfOk-weaker}
use Rattle.desk_base.specs.Borrowed.{texts}
use Rattle.desk_base.specs.TextSets.{IsSetOf, has_text, is_among}
use Rattle.serde_json.specs.View.{view}
use Rattle.desk_spdx_files.specs.Texts.{ids_of}
use Rattle.desk_spdx_files.proofs.IdleIds.{among_filtered}
use Rattle.desk_spdx_files.proofs.idle.idle_files.Goals as goal

pub returns : goal.returns
returns c =
    let ids = ids_of (codes "files") (codes "SPDXID") (view c.args.value.now) in
    let rest = λ (id : List ℕ). not (has_text c.in_ok-needed.needed id) in
    IfOk-weaker c.text_set.result (IsSetOf (texts c.as_slice.result.now)) _ (λ set told. λ id.
    told id
    ∙ ap (λ found. is_among found id)
    (ap texts c.as_slice.ensures.value ∙ c.drop_known.ensures
    ∙ ap (filter rest)
    (c.in_ok-add_ids_of.ensures ∙ ap (λ found. texts found ++ ids) c.new-found.ensures.items))
    ∙ among_filtered rest ids id
    ∙ ap (λ b. is_among ids id && not b) (c.in_ok-needed.ensures id))
    c.text_set.ensures
