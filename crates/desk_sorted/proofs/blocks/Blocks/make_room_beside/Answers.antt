use Rattle.std.proofs.Common.{◌≡◌, ◌∙◌, ap, false, sym}
use Rattle.std.specs.List.{list_any}
use Rattle.desk_model.specs.Keys.{below_by}
use Rattle.desk_sorted.specs.Blocks.{rows_in}
use Rattle.desk_sorted.proofs.Beside.{room_beside}
use Rattle.desk_sorted.proofs.Walking.{if_ok}
use Rattle.desk_sorted.proofs.blocks.Blocks.make_room_beside.Goals as goal

pub returns-clause-room : goal.returns-clause-room
returns-clause-room g c =
    let test = g.K.Sought.is_at c.args.key.now in
    let blocks = c.make_room-2.new.self.blocks.items in
    let none : list_any test (rows_in blocks) ≡ false =
    ap (list_any test) c.make_room-2.ensures.rows
    ∙ (sym c.contains.ensures ∙ c.if-contains.false) in
    if_ok c.make_room-2.result (λ at room. room_beside (below_by g.R.Keyed.order) test
    c.args.more.now blocks at none room) c.make_room-2.ensures.room
