use Rattle.std.proofs.Common.{◌∙◌, arith, length, suc, ap, drop, take}
use Rattle.std.specs.Prelude.{filter, not}
use Rattle.std.specs.List.{list_all}
use Rattle.desk_model.specs.Keys.{below_by}
use Rattle.desk_sorted.specs.Blocks.{is_between, rows_in}
use Rattle.desk_sorted.proofs.Changing.{alike_drop, alike_take}
use Rattle.desk_sorted.proofs.Counting.{room_fits}
use Rattle.desk_sorted.proofs.blocks.Blocks.make_room.Goals as goal

pub returns-clause-room : goal.returns-clause-room
returns-clause-room g c =
    let below = below_by g.R.Keyed.order in
    let at = c.in_ok-at.at in
    let more = c.args.more.now in
    let kept = c.reserve_at.new.blocks.items in
    let blocks = c.place_for.new.self.blocks.items in
    record {
      within = omega (
        arith,
        c.in_ok-at.ensures.within,
        c.in_ok-reserve_at.ensures.len,
        c.reserve_at.new.blocks.ok.0,
        c.place_for.new.self.blocks.ok.0,
      );
      room = c.in_ok-reserve_at.ensures.room;
      fits =
          room_fits (rows_in c.args.self.now.blocks.items) (rows_in kept) c.args.self.now.count
          (length more)
          (c.in_ok-reserve_at.ensures.rows ∙ (c.in_ok-at.ensures.rows ∙ c.in_ok-start.ensures.rows))
          c.args.self.now.counted c.if-more-self.false c.args.self.now.fits;
      place =
          ap (λ xs. list_all (is_between below
          (filter (λ row. not (g.K.Sought.is_at c.args.key.now row)) xs)
          (filter (λ row. not (g.K.Sought.is_at c.args.key.now row))
          (rows_in (drop (suc at) kept)))) more)
          (alike_take at kept blocks c.in_ok-reserve_at.ensures.items)
          ∙ (ap (λ xs. list_all (is_between below
          (filter (λ row. not (g.K.Sought.is_at c.args.key.now row)) (rows_in (take at blocks)))
          (filter (λ row. not (g.K.Sought.is_at c.args.key.now row)) xs)) more)
          (alike_drop (suc at) kept blocks c.in_ok-reserve_at.ensures.items)
          ∙ c.in_ok-at.ensures.place);
    }
