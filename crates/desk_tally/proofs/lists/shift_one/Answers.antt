use Rattle.std.proofs.Common.{◌-◌, ◌<◌, refl, sym, subst, arith, length, List}
use Rattle.std.specs.Prelude.{vec_len}
use Rattle.desk_tally.specs.Stands.{AreTallied}
use Rattle.desk_tally.specs.declared.stand.Stand.{Stand}
use Rattle.desk_tally.proofs.Counts.{get_some, placed_at, stands_some, state_set}
use Rattle.desk_tally.proofs.lists.shift_one.Goals as goal

pub move_at-requires-clause-some : goal.move_at-requires-clause-some
move_at-requires-clause-some c = λ tally had.
    let stands = c.args.stands.now in
    let stand : Stand = c.index-stand.result.now in
    let lt : c.args.index < length stands.items = omega (arith, stands.ok.0, c.requires.within) in
    let at = placed_at (vec_len c.args.tallies.now) c.args.index stands.items stand lt
    c.index-stand.ensures c.requires.placed in
    stands_some stands.items c.args.tallies.now.items c.args.index (stand.place - 1) stand tally
    c.requires.tallied at.0 at.1 had

pub returns-clause-stands : goal.returns-clause-stands
returns-clause-stands c =
    let stands = c.args.stands.now in
    let stand : Stand = c.index-stand.result.now in
    let lt : c.args.index < length stands.items = omega (arith, stands.ok.0, c.requires.within) in
    state_set c.args.index c.args.to stands.items stand
    (get_some stands.items c.args.index stand lt c.index-stand.ensures)

pub returns-clause-tallied : goal.returns-clause-tallied
returns-clause-tallied c =
    let stands = c.args.stands.now in
    let stand : Stand = c.index-stand.result.now in
    let lt : c.args.index < length stands.items = omega (arith, stands.ok.0, c.requires.within) in
    let at = placed_at (vec_len c.args.tallies.now) c.args.index stands.items stand lt
    c.index-stand.ensures c.requires.placed in
    subst (λ (all : List Stand). AreTallied all c.move_at.new.tallies.items)
    (sym (state_set c.args.index c.args.to stands.items stand at.0))
    (c.move_at.ensures.tallied stands.items c.args.index stand at.0 at.1 refl c.requires.tallied)
