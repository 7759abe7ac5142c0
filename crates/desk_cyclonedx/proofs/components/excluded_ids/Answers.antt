use Rattle.std.proofs.Common.{◌∷◌, [], List, map, refl}
use Rattle.desk_base.specs.Borrowed.{texts}
use Rattle.desk_spdx_json.proofs.Added.{piece_more, pieces_end}
use Rattle.desk_cyclonedx.specs.declared.placed.Placed.{Placed}
use Rattle.desk_cyclonedx.specs.Components.{excluded_ids}
use Rattle.desk_cyclonedx.specs.Placed.{placed_text}
use Rattle.desk_cyclonedx.proofs.Placing.{excluded_more}
use Rattle.desk_cyclonedx.proofs.components.excluded_ids.Goals as goal

pub loop-one-preserved : goal.loop-one-preserved
loop-one-preserved c =
    piece_more (λ (ps : List Placed). excluded_ids (map placed_text ps))
    (λ (p : Placed). excluded_ids (placed_text p ∷ [])) c.args.placed.now c.loop-one.one-index
    c.one-item.result (texts c.loop-one.ids.items) (texts c.add_excluded.new.ids.items)
    (excluded_ids (map placed_text c.args.placed.now))
    (λ rest. excluded_more (placed_text c.one-item.result) (map placed_text rest))
    c.loop-one-test.true c.one-item.is c.loop-one.invariant c.in_ok-add_excluded.ensures

pub returns : goal.returns
returns c =
    pieces_end (λ (ps : List Placed). excluded_ids (map placed_text ps))
    (λ (p : Placed). excluded_ids (placed_text p ∷ [])) c.args.placed.now c.loop-one.one-index
    (texts c.loop-one.ids.items) (excluded_ids (map placed_text c.args.placed.now))
    c.loop-one-test.false refl c.loop-one.invariant
