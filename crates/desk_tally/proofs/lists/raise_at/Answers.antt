use Rattle.std.proofs.Common.{refl, arith, ◌<◌, length}
use Rattle.desk_tally.proofs.Counts.{get_some, tallied-raised}
use Rattle.desk_tally.proofs.lists.raise_at.Goals as goal

pub returns-clause-tallied : goal.returns-clause-tallied
returns-clause-tallied c = λ all before.
    let tallies = c.args.tallies.now in
    let lt : c.args.index < length tallies.items = omega (arith, tallies.ok.0, c.requires.within) in
    tallied-raised all tallies.items _ c.args.index c.args.count c.index_mut.result.now
    c.raise.new.self before
    (get_some tallies.items c.args.index c.index_mut.result.now lt c.index_mut.ensures.value) refl
    (record {
      raised = c.raise.ensures.raised;
      still_open = c.raise.ensures.still_open;
      met = c.raise.ensures.met;
      waived = c.raise.ensures.waived;
      withdrawn = c.raise.ensures.withdrawn;
    })
