use Rattle.std.proofs.Common.{◌≡◌, drop}
use Rattle.serde_json.specs.View.{items_view}
use Rattle.desk_words.specs.Troubles.{are_texts}
use Rattle.desk_words.proofs.requests.are_texts.Given as goal

-- the items from the index on decide
abbrev pub invariant-loop-item : goal.invariant-loop-item
invariant-loop-item l = are_texts (items_view (drop l.item-index l.items))
    ≡ are_texts (items_view l.items)
