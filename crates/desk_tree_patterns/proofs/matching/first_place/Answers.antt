use Rattle.std.proofs.Common.{arith}
use Rattle.desk_tree_patterns.proofs.PlaceLemmas.{occurs_within}
use Rattle.desk_tree_patterns.proofs.matching.first_place.Goals as goal

pub returns-in-Some-find-clause-none : goal.returns-in-Some-find-clause-none
returns-in-Some-find-clause-none c = λ k lt o.
    let run = c.args.run.now in
    let text = c.args.text.now in
    let n = c.in-Some-find.ensures.0 in
    let found = c.in-Some-find.ensures.1.fits in
    let len = c.split_at.ensures.front_len in
    let upto = c.min.ensures in
    let inside = o.fits in
    n.before k (omega arith) lt
    (occurs_within run text c.split_at.result.0.now c.min.result k c.split_at.ensures.front
    (omega arith) o)

pub returns-in-None-clause-none : goal.returns-in-None-clause-none
returns-in-None-clause-none c = λ k lt o.
    let run = c.args.run.now in
    let text = c.args.text.now in
    let len = c.split_at.ensures.front_len in
    let upto = c.min.ensures in
    let inside = o.fits in
    let least = c.requires in
    c.in-None.ensures k (omega arith) (omega arith)
    (occurs_within run text c.split_at.result.0.now c.min.result k c.split_at.ensures.front
    (omega arith) o)
