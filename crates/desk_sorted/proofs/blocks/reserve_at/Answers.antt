use Rattle.desk_sorted.proofs.Changing.{kept_at}
use Rattle.desk_sorted.proofs.blocks.reserve_at.Goals as goal

pub returns-in_err-reserve-clause-items : goal.returns-in_err-reserve-clause-items
returns-in_err-reserve-clause-items g c = (kept_at c.args.blocks.now c.args.at c.reserve.new.self
    c.index_mut.result.now c.requires c.in_err-reserve.ensures.items
    c.index_mut.ensures.value).items

pub returns-in_err-reserve-clause-rows : goal.returns-in_err-reserve-clause-rows
returns-in_err-reserve-clause-rows g c = (kept_at c.args.blocks.now c.args.at c.reserve.new.self
    c.index_mut.result.now c.requires c.in_err-reserve.ensures.items
    c.index_mut.ensures.value).rows

pub returns-in_err-reserve-clause-filled : goal.returns-in_err-reserve-clause-filled
returns-in_err-reserve-clause-filled g c = (kept_at c.args.blocks.now c.args.at c.reserve.new.self
    c.index_mut.result.now c.requires c.in_err-reserve.ensures.items
    c.index_mut.ensures.value).filled

pub returns-clause-items : goal.returns-clause-items
returns-clause-items g c = (kept_at c.args.blocks.now c.args.at c.reserve.new.self
    c.index_mut.result.now c.requires c.in_ok-reserve.ensures.items
    c.index_mut.ensures.value).items

pub returns-clause-rows : goal.returns-clause-rows
returns-clause-rows g c = (kept_at c.args.blocks.now c.args.at c.reserve.new.self
    c.index_mut.result.now c.requires c.in_ok-reserve.ensures.items
    c.index_mut.ensures.value).rows

pub returns-clause-filled : goal.returns-clause-filled
returns-clause-filled g c = (kept_at c.args.blocks.now c.args.at c.reserve.new.self
    c.index_mut.result.now c.requires c.in_ok-reserve.ensures.items
    c.index_mut.ensures.value).filled
