use Rattle.std.proofs.Common.{refl, sym, subst, arith, ◌<◌, length}
use Rattle.desk_model.specs.declared.state.DutyState.{DutyState}
use Rattle.desk_tally.proofs.Counts.{HasMoved, get_some, tallied-moved}
use Rattle.desk_tally.proofs.lists.move_at.Goals as goal

pub returns-clause-tallied : goal.returns-clause-tallied
returns-clause-tallied c = λ all i stand at of from before.
    let tallies = c.args.tallies.now in
    let lt : c.args.index < length tallies.items = omega (arith, tallies.ok.0, c.requires.within) in
    let has : HasMoved c.args.from c.args.to c.index_mut.result.now c.move_one.new.self = record {
      raised = c.move_one.ensures.raised;
      still_open = c.move_one.ensures.still_open;
      met = c.move_one.ensures.met;
      waived = c.move_one.ensures.waived;
      withdrawn = c.move_one.ensures.withdrawn;
    } in
    tallied-moved all tallies.items _ i c.args.index stand c.args.to c.index_mut.result.now
    c.move_one.new.self before at of
    (get_some tallies.items c.args.index c.index_mut.result.now lt c.index_mut.ensures.value) refl
    (subst (λ (s : DutyState). HasMoved s c.args.to c.index_mut.result.now c.move_one.new.self)
    (sym from) has)
