use Rattle.std.proofs.Common.{◌+◌, arith}
use Rattle.desk_tree_annotations.proofs.StartLemmas.{plain, clear_upto, clear_past, no_feed_upto}
use Rattle.desk_tree_annotations.proofs.StartLemmas.{no_feed_past, front_no_feed, lacks_to_feed}
use Rattle.desk_tree_annotations.proofs.StartLemmas.{lacks_unseen, start_cut, start_first}
use Rattle.desk_tree_annotations.proofs.StartLemmas.{place_fits}
use Rattle.desk_tree_annotations.proofs.runs.around_start.Goals as goal

pub returns-in-Some-behind-clause-first : goal.returns-in-Some-behind-clause-first
returns-in-Some-behind-clause-first c =
    let bytes = c.args.bytes.now in
    let seen = c.loop-more.seen in
    let place = seen + c.in-Some.more in
    let left = c.split_at.result.1.now in
    let cut = c.split_at-in-Some in
    let inner = c.in-Some-behind.inner.now in
    let fits = place_fits bytes left seen c.in-Some.more c.split_at.ensures.back
    c.in-Some.ensures.0.high in
    let none = plain bytes left seen c.in-Some.more c.split_at.ensures.back
    c.in-Some.ensures.0.before in
    start_first bytes cut.result.0.now inner place cut.ensures.front (omega arith)
    (start_cut bytes cut.result.0.now cut.result.1.now inner place cut.ensures.front
    cut.ensures.back c.in-Some-behind.ensures.some)
    (clear_upto bytes seen place c.loop-more.invariant.clear none)

pub returns-in-Some-behind-clause-no_lf : goal.returns-in-Some-behind-clause-no_lf
returns-in-Some-behind-clause-no_lf c =
    let bytes = c.args.bytes.now in
    let seen = c.loop-more.seen in
    let place = seen + c.in-Some.more in
    let left = c.split_at.result.1.now in
    let cut = c.split_at-in-Some in
    let fits = place_fits bytes left seen c.in-Some.more c.split_at.ensures.back
    c.in-Some.ensures.0.high in
    let none = plain bytes left seen c.in-Some.more c.split_at.ensures.back
    c.in-Some.ensures.0.before in
    front_no_feed bytes cut.result.0.now place cut.ensures.front (omega arith)
    (no_feed_upto bytes seen place c.loop-more.invariant.no_feed none)

pub returns-then-bytes-place-eq10-clause-none : goal.returns-then-bytes-place-eq10-clause-none
returns-then-bytes-place-eq10-clause-none c =
    let bytes = c.args.bytes.now in
    let seen = c.loop-more.seen in
    let place = seen + c.in-Some.more in
    let left = c.split_at.result.1.now in
    let none = plain bytes left seen c.in-Some.more c.split_at.ensures.back
    c.in-Some.ensures.0.before in
    lacks_to_feed bytes place (clear_upto bytes seen place c.loop-more.invariant.clear none)
    c.if-bytes-place-eq10.true

pub loop-more-preserved : goal.loop-more-preserved
loop-more-preserved c =
    let bytes = c.args.bytes.now in
    let seen = c.loop-more.seen in
    let place = seen + c.in-Some.more in
    let left = c.split_at.result.1.now in
    let fits = place_fits bytes left seen c.in-Some.more c.split_at.ensures.back
    c.in-Some.ensures.0.high in
    let none = plain bytes left seen c.in-Some.more c.split_at.ensures.back
    c.in-Some.ensures.0.before in
    record {
      within = omega arith;
      no_feed = no_feed_past bytes place
          (no_feed_upto bytes seen place c.loop-more.invariant.no_feed none)
          c.if-bytes-place-eq10.false;
      clear = clear_past bytes c.split_at-in-Some.result.1.now place
          (clear_upto bytes seen place c.loop-more.invariant.clear none)
          c.split_at-in-Some.ensures.back c.in_default-behind.ensures.none;
    }

pub returns-clause-none : goal.returns-clause-none
returns-clause-none c =
    lacks_unseen c.args.bytes.now c.split_at.result.1.now c.loop-more.seen c.split_at.ensures.back
    c.loop-more.invariant.within c.loop-more.invariant.clear c.in_default.ensures
