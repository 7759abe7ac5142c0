use Rattle.std.proofs.Common.{◌∙◌, ◌+◌, drop, [], ap, sym}
use Rattle.std.specs.Prelude.{option_to_list}
use Rattle.desk_tree_infos.specs.Sharing.{annotations_at, texts_at}
use Rattle.desk_tree_infos.proofs.Running.{running, running_gives, by_override, by_aggregate_at, by_closest_at}
use Rattle.desk_tree_infos.proofs.information.sources_of.Goals as goal
use Rattle.desk_tree_infos.proofs.information.sources_of.Goals.{in-Aggregate+in_ok-push-in-Aggregate, in-Closest}

pub loop-number-init : goal.loop-number-init
loop-number-init c =
    ap (λ ns. running c.args.of c.args.own.items (texts_at c.args.all.now c.args.of ns) []
    (annotations_at c.args.all.now c.args.counting.now)) c.in_ok-numbers.ensures.items
    ∙ running_gives c.args.of c.args.own.items (annotations_at c.args.all.now c.args.counting.now)

pub returns-in-Override : goal.returns-in-Override
returns-in-Override c =
    by_override c.args.all.now c.args.of c.args.own.items c.loop-number.numbers.items
    (texts_at c.args.all.now c.args.of (option_to_list c.loop-number.closest)) c.args.counting.now
    c.loop-number.number-index _
    c.in-Some.annotation.now c.loop-number-test.true c.in-Some.ensures c.push.new.self.items
    c.new-own.result.items c.in-Override.is c.in_ok-push-in-Override.ensures.items
    c.new-own.ensures.items
    ∙ c.loop-number.invariant

pub loop-number-preserved : goal.loop-number-preserved
loop-number-preserved c =
    let all = c.args.all.now in
    let of = c.args.of in
    let near = texts_at all of (option_to_list c.loop-number.closest) in
    elim c.match-annotation.branch [
      | in-Aggregate+in_ok-push-in-Aggregate w ↦
          ap (λ (numbers : _). running of c.args.own.items (texts_at all of numbers.items)
          (texts_at all of (option_to_list c.match-annotation.closest))
          (annotations_at all (drop (c.loop-number.number-index + 1) c.args.counting.now)))
          w.numbers-is
          ∙ by_aggregate_at all of c.args.own.items c.loop-number.numbers.items near
          c.args.counting.now c.loop-number.number-index _ c.in-Some.annotation.now
          c.loop-number-test.true c.in-Some.ensures
          w.push-in-Aggregate.new.self.items
          (texts_at all of (option_to_list c.match-annotation.closest)) w.in-Aggregate.is
          w.in_ok-push-in-Aggregate.ensures.items
          (ap (λ o. texts_at all of (option_to_list o)) w.closest-is)
          ∙ c.loop-number.invariant
      | in-Closest w ↦
          by_closest_at all of c.args.own.items c.loop-number.numbers.items near c.args.counting.now
          c.loop-number.number-index _ c.in-Some.annotation.now c.loop-number-test.true
          c.in-Some.ensures
          c.match-annotation.numbers.items
          (texts_at all of (option_to_list c.match-annotation.closest)) w.in-Closest.is
          (ap (λ numbers. numbers.items) w.numbers-is)
          (ap (λ o. texts_at all of (option_to_list o)) w.closest-is
          ∙ w.nearer-closest.ensures all (sym c.in-Some.ensures))
          ∙ c.loop-number.invariant
    ]
