use Rattle.std.proofs.Common.{◌++◌, [], ◌∷◌, codes}
use Rattle.std.proofs.lemmas.Result.{on_ok_weaker}
use Rattle.serde_json.specs.View.{view}
use Rattle.desk_spdx_json.specs.Members.{relationship_members}
use Rattle.desk_spdx_json.specs.Parts.{object_steps, words_of}
use Rattle.desk_spdx_json.specs.Steps.{put, step}
use Rattle.desk_spdx_json.specs.Values.{word_fault}
use Rattle.desk_spdx_json.proofs.Added.{before}
use Rattle.desk_spdx_json.proofs.parts.add_relationship.Goals as goal

pub returns : goal.returns
returns c =
    let at = c.args.at.now in
    let d = view c.args.value.now in
    let left = word_fault at (codes "spdxElementId") d in
    let kind = word_fault at (codes "relationshipType") d in
    let right = word_fault at (codes "relatedSpdxElement") d in
    let words = step at (put (words_of d)) ∷ [] in
    on_ok_weaker c.add_words.result (λ told.
    before c.args.steps.now (object_steps at relationship_members d)
    (left ++ (kind ++ (right ++ words))) c.in_ok-add_object.ensures
    (before c.add_object.new.steps left (kind ++ (right ++ words)) c.in_ok-add_word_fault.ensures
    (before c.add_word_fault.new.steps kind (right ++ words) c.in_ok-add_word_fault-2.ensures
    (before c.add_word_fault-2.new.steps right words c.in_ok-add_word_fault-3.ensures told))))
    c.add_words.ensures
