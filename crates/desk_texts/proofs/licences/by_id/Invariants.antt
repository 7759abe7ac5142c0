use Rattle.std.proofs.Common.{◌≡◌, ℕ, List, length}
use Rattle.std.specs.Prelude.{find}
use Rattle.std.specs.Option.{option_map}
use Rattle.desk_catalogue.specs.Kept.{is_text_of}
use Rattle.desk_texts.specs.Catalogues.{kept_text}
use Rattle.desk_texts.proofs.ByIds.{text_among}
use Rattle.desk_texts.proofs.licences.by_id.Given as goal

abbrev pub invariant-loop-text : goal.invariant-loop-text
invariant-loop-text l = (id : List ℕ)
    → text_among l.left.items l.map id
    ≡ option_map kept_text (find (is_text_of id) l.fn.texts.items)

abbrev pub decreases-loop-text : goal.decreases-loop-text
decreases-loop-text l = length l.left.items
