use Rattle.std.proofs.Common.{◌+◌, ◌∙◌, sym, ap, subst, length, arith}
use borrow.Author.Tests.{eqb-true}
use Rattle.memchr.specs.Find.{OccursAt}
use Rattle.desk_tree_patterns.proofs.PlaceLemmas.{match_ends, match_occurs}
use Rattle.desk_tree_patterns.proofs.matching.next_place.Goals as goal

pub returns-then-is_empty-clause-none : goal.returns-then-is_empty-clause-none
returns-then-is_empty-clause-none c = λ k lt m.
    let place = c.args.place in
    let end = c.requires in
    let within = c.last_place.ensures.within in
    let none = eqb-true (length place.parts.now) 0 (sym c.is_empty.ensures ∙ c.if-is_empty.true) in
    c.last_place.ensures.none k lt
    (ap (λ run. k + length run) c.split_run.ensures.run
    ∙ match_ends place.bytes.now place.parts.now place.text.now k (omega arith) none m)

pub returns-else-is_empty-clause-none : goal.returns-else-is_empty-clause-none
returns-else-is_empty-clause-none c = λ k lt m.
    let place = c.args.place in
    let end = c.requires in
    let within = c.first_place.ensures.within in
    c.first_place.ensures.none k lt
    (subst (λ run. OccursAt place.text.now run k) (sym c.split_run.ensures.run)
    (match_occurs place.bytes.now place.parts.now place.text.now k (omega arith) m))
