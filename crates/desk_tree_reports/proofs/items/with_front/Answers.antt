use Rattle.std.proofs.Common.{◌∙◌, ◌++◌, ◌∷◌, [], ap}
use Rattle.std.specs.Prelude.{codes}
use Rattle.json.specs.Token.{key, string}
use Rattle.desk_tree_reports.proofs.ItemLemmas.{front_printed}
use Rattle.desk_tree_reports.proofs.items.with_front.Goals as goal

pub returns : goal.returns
returns c =
    let row = c.args.row.now in
    let before = c.in_ok-write_text-2.ensures.before ∙ c.in_ok-write_line.ensures.before
    ∙ c.in_ok-key.ensures.room.0 ∙ c.in_ok-write_text.ensures.before
    ∙ c.in_ok-begin_object.ensures.room.0 ∙ c.new-writer.ensures.before in
    c.into_inner.ensures.items
    ∙ (λ j. before j ++ front_printed row _ _ _ _ _ _ c.new-writer.ensures.tokens
    c.in_ok-begin_object.ensures.ok
    (c.in_ok-write_text.ensures.tokens ∙ ap (λ k. c.begin_object.new.self.tokens
    ++ key (codes "kind") ∷ string k ∷ []) c.name.ensures) c.in_ok-key.ensures.ok
    c.in_ok-write_line.ensures.tokens
    (c.in_ok-write_text-2.ensures.tokens ∙ ap (λ m. c.write_line.new.writer.tokens
    ++ key (codes "message") ∷ string m ∷ []) c.as_str.ensures) j)
