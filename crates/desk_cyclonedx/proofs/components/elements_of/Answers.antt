use Rattle.std.proofs.Common.{List, map, refl}
use Rattle.desk_spdx_json.specs.Elements.{element_text}
use Rattle.desk_spdx_json.proofs.Added.{piece_more, pieces_end}
use Rattle.desk_cyclonedx.specs.declared.placed.Placed.{Placed}
use Rattle.desk_cyclonedx.specs.Components.{elements_of, placed_elements}
use Rattle.desk_cyclonedx.specs.Placed.{placed_text}
use Rattle.desk_cyclonedx.proofs.components.elements_of.Goals as goal

pub loop-one-preserved : goal.loop-one-preserved
loop-one-preserved c =
    piece_more (λ (ps : List Placed). elements_of (map placed_text ps))
    (λ (p : Placed). placed_elements (placed_text p)) c.args.placed.now c.loop-one.one-index
    c.one-item.result (map element_text c.loop-one.elements.items)
    (map element_text c.add_elements.new.elements.items)
    (elements_of (map placed_text c.args.placed.now)) (λ rest. refl)
    c.loop-one-test.true c.one-item.is c.loop-one.invariant c.in_ok-add_elements.ensures

pub returns : goal.returns
returns c =
    pieces_end (λ (ps : List Placed). elements_of (map placed_text ps))
    (λ (p : Placed). placed_elements (placed_text p)) c.args.placed.now c.loop-one.one-index
    (map element_text c.loop-one.elements.items) (elements_of (map placed_text c.args.placed.now))
    c.loop-one-test.false refl c.loop-one.invariant
