use Rattle.std.proofs.Common.{◌∙◌, ◌++◌, ℕ, List, [], ◌∷◌, ap, codes}
use Rattle.std.proofs.lemmas.Result.{on_ok_weaker}
use Rattle.serde_json.specs.View.{view}
use Rattle.desk_tagvalue.specs.Drafts.{one_line}
use Rattle.desk_spdx_json.specs.Steps.{member_at, put, step}
use Rattle.desk_spdx_json.specs.Values.{code_line, if_array, name_fault, names_in, word_fault}
use Rattle.desk_spdx_json.proofs.Added.{before}
use Rattle.desk_spdx_json.proofs.composed.add_code.Goals as goal

pub returns : goal.returns
returns c =
    let at = c.args.at.now in
    let d = view c.args.value.now in
    let names = if_array name_fault (member_at at (codes "packageVerificationCodeExcludedFiles"))
    (names_in d) in
    let line = step at (put (code_line c.args.tag d)) ∷ [] in
    on_ok_weaker c.add.result (λ told.
    before c.args.steps.now (word_fault at (codes "packageVerificationCodeValue") d) (names ++ line)
    c.in_ok-add_word_fault.ensures
    (before c.add_word_fault.new.steps names line c.in_ok-add_array_in.ensures
    (told ∙ ap (λ (text : List ℕ). c.add_array_in.new.steps
    ++ step at (put (one_line c.args.tag text)) ∷ []) c.in_ok-text.ensures)))
    c.add.ensures
