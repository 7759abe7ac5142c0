use Rattle.std.proofs.Common.{◌∙◌, ◌++◌, ◌∷◌, [], List, ap}
use Rattle.json.specs.Print.{print}
use Rattle.json.specs.Token.{Token, string}
use Rattle.desk_tree_reports.proofs.ItemLemmas.{text_printed}
use Rattle.desk_tree_reports.proofs.items.quote.Goals as goal

pub returns : goal.returns
returns c =
    c.into_inner.ensures.items
    ∙ (λ j. (c.in_ok-string.ensures.room.0 ∙ c.new-writer.ensures.before ∙ c.new.ensures.items) j
    ++ print ((c.in_ok-string.ensures.ok
    ∙ ap (λ (l : List Token). l ++ string c.args.text.now ∷ []) c.new-writer.ensures.tokens) j))
    ∙ text_printed c.args.text.now
