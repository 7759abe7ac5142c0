use Rattle.std.proofs.Common.{◌≡◌, ◌≢◌, ◌∙◌, refl, ℕ, ◌+◌, ◌++◌, List, [], append-nil, sym, take}
use Rattle.std.proofs.Common.{length, min, subst, ap, inr, arith, append_assoc, length-append}
use Rattle.std.proofs.KnownBytes.{Consumes-kept, Consumes-nil, Consumes-trans}
use Rattle.std.proofs.lemmas.List.{length-take}
use Rattle.std.proofs.lemmas.List.Elements.{All-nil}
use Rattle.std.specs.Prelude.{true}
use Rattle.desk_script.specs.Losses.{IfStop}
use Rattle.desk_script.specs.Script.{AreLeft, IsFront, IsFrontAt}
use Rattle.desk_script.specs.declared.serving.ScriptStop.TheVariants.{Read, Turns}
use Rattle.desk_script.proofs.Progress.{AreLeft-all, AreLeft-front, HasServed-came, HasServed-then}
use Rattle.desk_script.proofs.Progress.{IsCutOff-of, IsFront-at, IsFrontAt-of, IsFrontAt-then}
use Rattle.desk_script.proofs.Progress.{IsScript-of}
use Rattle.desk_script.proofs.Chains.{stop_then}
use Rattle.desk_script.proofs.Results.{handed_on}
use Rattle.desk_script.proofs.stream.watched_script.Goals as goal

pub loop-turn-init : goal.loop-turn-init
loop-turn-init g c = record {
  front = [];
  read = Consumes-nil (g.R.Read.remaining c.args.reader.now);
  served = HasServed-came g.D.Desk.are_right g.D.Desk.tells g.D.Desk.stands g.D.Desk.seen 1 []
      c.args.desk.now (g.W.Write.contents c.args.writer.now) (record { refused = 0; failed = 0 })
      c.new-line.result c.new-line.ensures (All-nil (λ (b : ℕ). b ≢ 10));
  turns = omega arith;
  few = omega arith;
  refused = omega arith;
  failed = omega arith;
  still = λ stops. (refl, refl);
  same = refl;
}

pub returns-in_default-clause-fault : goal.returns-in_default-clause-fault
returns-in_default-clause-fault g c =
    let at = c.loop-turn.invariant in
    inr (
      at.front,
      tt,
      Consumes-kept (g.R.Read.remaining c.args.reader.now) (g.R.Read.remaining c.loop-turn.reader)
          (g.R.Read.remaining c.read.new.self) at.front at.read c.in_default.ensures.bytes,
      IsCutOff-of _ _ _ _ at.front _ _ _ _ _ _ _ at.served,
    )

pub returns-clause-fault : goal.returns-clause-fault
returns-clause-fault g c =
    let at = c.loop-turn.invariant in
    inr (
      at.front,
      omega (arith, at.turns, c.loop-turn-test.false),
      at.read,
      IsCutOff-of _ _ _ _ at.front _ _ _ _ _ _ _ at.served,
    )

pub returns-in_default-clause-err : goal.returns-in_default-clause-err
returns-in_default-clause-err g c =
    let at = c.loop-turn.invariant in
    let left = AreLeft-front (g.R.Read.remaining c.args.reader.now)
    (g.R.Read.remaining c.loop-turn.reader) at.front at.read in (
      at.front ++ left.0,
      left.1,
      IsFront-at _ _ _ _ Read (at.front ++ left.0) _ _ _ _
          (IsFrontAt-of _ _ _ _ 1 Read at.front left.0 _ _ _ _ _ _ _ tt at.served),
    )

pub returns-clause-err : goal.returns-clause-err
returns-clause-err g c =
    let at = c.loop-turn.invariant in
    let left = AreLeft-front (g.R.Read.remaining c.args.reader.now)
    (g.R.Read.remaining c.loop-turn.reader) at.front at.read in (
      at.front ++ left.0,
      left.1,
      IsFront-at _ _ _ _ Turns (at.front ++ left.0) _ _ _ _
          (IsFrontAt-of _ _ _ _ 1 Turns at.front left.0 _ _ _ _ _ _ _ tt at.served),
    )

pub returns-in_err-finish-clause-err : goal.returns-in_err-finish-clause-err
returns-in_err-finish-clause-err g c =
    let at = c.loop-turn.invariant in
    let fault = c.in_err-finish.field-0.0 in
    let none : take c.in-Ok.taken c.read.new.buf ≡ [] =
    ap (λ (n : ℕ). take n c.read.new.buf) c.if-taken-eq0.true in
    handed_on
    (λ f. (bytes : List ℕ) × AreLeft (g.R.Read.remaining c.args.reader.now) bytes
    × IsFront g.D.Desk.are_right g.D.Desk.tells g.D.Desk.stands g.D.Desk.seen f bytes
    c.args.desk.now c.finish.new.desk (g.W.Write.contents c.args.writer.now)
    (g.W.Write.contents c.finish.new.writer))
    c.from_residual.result fault c.from_residual.ensures.1 (
      at.front,
      AreLeft-all (g.R.Read.remaining c.args.reader.now) (g.R.Read.remaining c.loop-turn.reader)
          (g.R.Read.remaining c.read.new.self) at.front
          (take c.in-Ok.taken c.read.new.buf) at.read c.in-Ok.ensures.bytes.0 none
          (c.in-Ok.ensures.bytes.1 c.if-taken-eq0.true (omega arith)),
      IsFront-at g.D.Desk.are_right g.D.Desk.tells g.D.Desk.stands g.D.Desk.seen fault at.front
          c.args.desk.now c.finish.new.desk (g.W.Write.contents c.args.writer.now)
          (g.W.Write.contents c.finish.new.writer)
          (subst (λ (bs : List ℕ). IsFrontAt g.D.Desk.are_right g.D.Desk.tells g.D.Desk.stands
          g.D.Desk.seen 1 fault bs c.args.desk.now c.finish.new.desk
          (g.W.Write.contents c.args.writer.now) (g.W.Write.contents c.finish.new.writer))
          (append-nil at.front)
          (IsFrontAt-then g.D.Desk.are_right g.D.Desk.tells g.D.Desk.stands g.D.Desk.seen 1 fault
          at.front [] c.args.desk.now c.loop-turn.desk c.finish.new.desk
          (g.W.Write.contents c.args.writer.now) (g.W.Write.contents c.loop-turn.writer)
          (g.W.Write.contents c.finish.new.writer) (record { refused = 0; failed = 0 })
          c.loop-turn.end c.loop-turn.line
          (stop_then fault (λ stops. at.still (sym at.same ∙ stops)) c.in_err-finish.ensures.halts)
          at.served
          (subst (λ (bs : List ℕ). IsFrontAt g.D.Desk.are_right g.D.Desk.tells g.D.Desk.stands
          g.D.Desk.seen (1 + length at.served.lines) fault bs c.loop-turn.desk c.finish.new.desk
          (g.W.Write.contents c.loop-turn.writer) (g.W.Write.contents c.finish.new.writer))
          (sym (append-nil at.served.came))
          (c.in_err-finish.ensures.err (1 + length at.served.lines) at.served.came at.served.shows
          at.served.no_lf)))),
    )

pub returns-then-taken-eq0-clause-ok : goal.returns-then-taken-eq0-clause-ok
returns-then-taken-eq0-clause-ok g c =
    let at = c.loop-turn.invariant in
    let none : take c.in-Ok.taken c.read.new.buf ≡ [] =
    ap (λ (n : ℕ). take n c.read.new.buf) c.if-taken-eq0.true in (
      at.front,
      AreLeft-all (g.R.Read.remaining c.args.reader.now) (g.R.Read.remaining c.loop-turn.reader)
          (g.R.Read.remaining c.read.new.self) at.front
          (take c.in-Ok.taken c.read.new.buf) at.read c.in-Ok.ensures.bytes.0 none
          (c.in-Ok.ensures.bytes.1 c.if-taken-eq0.true (omega arith)),
      IsScript-of g.D.Desk.are_right g.D.Desk.tells g.D.Desk.stands g.D.Desk.seen at.front
          c.args.desk.now c.loop-turn.desk c.finish.new.desk
          (g.W.Write.contents c.args.writer.now) (g.W.Write.contents c.loop-turn.writer)
          (g.W.Write.contents c.finish.new.writer) c.loop-turn.end c.finish.new.end c.loop-turn.line
          at.served
          (c.in_ok-finish.ensures.ok (1 + length at.served.lines) at.served.came at.served.shows
          at.served.no_lf),
    )

pub returns-in_err-feed-clause-err : goal.returns-in_err-feed-clause-err
returns-in_err-feed-clause-err g c =
    let at = c.loop-turn.invariant in
    let fault = c.in_err-feed.field-0.0 in
    let left = AreLeft-front (g.R.Read.remaining c.args.reader.now)
    (g.R.Read.remaining c.read.new.self) (at.front ++ take c.in-Ok.taken c.read.new.buf)
    (Consumes-trans (g.R.Read.remaining c.args.reader.now) (g.R.Read.remaining c.loop-turn.reader)
    (g.R.Read.remaining c.read.new.self) at.front
    (take c.in-Ok.taken c.read.new.buf) at.read c.in-Ok.ensures.bytes.0) in
    handed_on
    (λ f. (bytes : List ℕ) × AreLeft (g.R.Read.remaining c.args.reader.now) bytes
    × IsFront g.D.Desk.are_right g.D.Desk.tells g.D.Desk.stands g.D.Desk.seen f bytes
    c.args.desk.now c.feed.new.desk (g.W.Write.contents c.args.writer.now)
    (g.W.Write.contents c.feed.new.writer))
    c.from_residual-in_err-feed.result fault c.from_residual-in_err-feed.ensures.1 (
      at.front ++ (take c.in-Ok.taken c.read.new.buf ++ left.0),
      subst (AreLeft (g.R.Read.remaining c.args.reader.now))
          (append_assoc at.front (take c.in-Ok.taken c.read.new.buf) left.0) left.1,
      IsFront-at g.D.Desk.are_right g.D.Desk.tells g.D.Desk.stands g.D.Desk.seen fault
          (at.front ++ (take c.in-Ok.taken c.read.new.buf ++ left.0)) c.args.desk.now
          c.feed.new.desk (g.W.Write.contents c.args.writer.now)
          (g.W.Write.contents c.feed.new.writer)
          (IsFrontAt-then g.D.Desk.are_right g.D.Desk.tells g.D.Desk.stands g.D.Desk.seen 1 fault
          at.front (take c.in-Ok.taken c.read.new.buf ++ left.0) c.args.desk.now c.loop-turn.desk
          c.feed.new.desk
          (g.W.Write.contents c.args.writer.now) (g.W.Write.contents c.loop-turn.writer)
          (g.W.Write.contents c.feed.new.writer) (record { refused = 0; failed = 0 })
          c.loop-turn.end c.loop-turn.line
          (stop_then fault (λ stops. at.still (sym at.same ∙ stops)) c.in_err-feed.ensures.halts)
          at.served
          (c.in_err-feed.ensures.err (1 + length at.served.lines) at.served.came left.0
          at.served.shows at.served.no_lf)),
    )

pub loop-turn-preserved : goal.loop-turn-preserved
loop-turn-preserved g c =
    let at = c.loop-turn.invariant in
    let few = c.in_ok-feed.ensures.few in
    let taken : length (take c.in-Ok.taken c.read.new.buf) ≡ min c.in-Ok.taken (length
    c.read.new.buf) = length-take c.in-Ok.taken c.read.new.buf in
    let front : length (at.front ++ take c.in-Ok.taken
    c.read.new.buf) ≡ length at.front + length (take c.in-Ok.taken c.read.new.buf) =
    length-append at.front (take c.in-Ok.taken c.read.new.buf) in
    record {
      front = at.front ++ take c.in-Ok.taken c.read.new.buf;
      read = Consumes-trans (g.R.Read.remaining c.args.reader.now)
          (g.R.Read.remaining c.loop-turn.reader) (g.R.Read.remaining c.read.new.self) at.front
          (take c.in-Ok.taken c.read.new.buf) at.read c.in-Ok.ensures.bytes.0;
      served = HasServed-then g.D.Desk.are_right g.D.Desk.tells g.D.Desk.stands g.D.Desk.seen 1
          at.front (take c.in-Ok.taken c.read.new.buf) c.args.desk.now c.loop-turn.desk
          c.feed.new.desk
          (g.W.Write.contents c.args.writer.now) (g.W.Write.contents c.loop-turn.writer)
          (g.W.Write.contents c.feed.new.writer) (record { refused = 0; failed = 0 })
          c.loop-turn.end c.feed.new.end c.loop-turn.line c.feed.new.line at.served
          (c.in_ok-feed.ensures.ok (1 + length at.served.lines) at.served.came at.served.shows
          at.served.no_lf);
      turns = omega (arith, at.turns, taken, front, c.if-taken-eq0.false);
      few = omega (arith, at.few, taken, front);
      refused = omega (arith, at.refused, few.0, taken);
      failed = omega (arith, at.failed, few.1, taken);
      still = λ stops.
          let before = at.still stops in
          let after = c.in_ok-feed.ensures.still (at.same ∙ stops) in
          (after.0 ∙ before.0, after.1 ∙ before.1);
      same = c.in_ok-feed.ensures.same ∙ at.same;
    }

-- ---- the bytes that were taken

none_taken : (n : ℕ) (buf front : List ℕ) → n ≡ 0 → length (front ++ take n buf) ≡ length front
none_taken n buf front none =
    length-append front (take n buf) ∙ ap (λ k. length front + length (take k buf)) none
    ∙ (let zero : length front + 0 ≡ length front = omega arith in zero)

pub returns-in_default-clause-taken : goal.returns-in_default-clause-taken
returns-in_default-clause-taken g c =
    let at = c.loop-turn.invariant in (
      at.front,
      Consumes-kept (g.R.Read.remaining c.args.reader.now) (g.R.Read.remaining c.loop-turn.reader)
          (g.R.Read.remaining c.read.new.self) at.front at.read c.in_default.ensures.bytes,
      omega (arith, at.few),
    )

pub returns-clause-taken : goal.returns-clause-taken
returns-clause-taken g c = let at = c.loop-turn.invariant in
    (at.front, at.read, omega (arith, at.few))

pub returns-in_err-finish-clause-taken : goal.returns-in_err-finish-clause-taken
returns-in_err-finish-clause-taken g c =
    let at = c.loop-turn.invariant in
    let got = take c.in-Ok.taken c.read.new.buf in
    let none = none_taken c.in-Ok.taken c.read.new.buf at.front c.if-taken-eq0.true in (
      at.front ++ got,
      Consumes-trans (g.R.Read.remaining c.args.reader.now) (g.R.Read.remaining c.loop-turn.reader)
          (g.R.Read.remaining c.read.new.self) at.front got at.read c.in-Ok.ensures.bytes.0,
      omega (arith, at.few, none),
    )

pub returns-then-taken-eq0-clause-taken : goal.returns-then-taken-eq0-clause-taken
returns-then-taken-eq0-clause-taken g c =
    let at = c.loop-turn.invariant in
    let got = take c.in-Ok.taken c.read.new.buf in
    let none = none_taken c.in-Ok.taken c.read.new.buf at.front c.if-taken-eq0.true in (
      at.front ++ got,
      Consumes-trans (g.R.Read.remaining c.args.reader.now) (g.R.Read.remaining c.loop-turn.reader)
          (g.R.Read.remaining c.read.new.self) at.front got at.read c.in-Ok.ensures.bytes.0,
      omega (arith, at.few, none),
    )

pub returns-in_err-feed-clause-taken : goal.returns-in_err-feed-clause-taken
returns-in_err-feed-clause-taken g c =
    let at = c.loop-turn.invariant in
    let got = take c.in-Ok.taken c.read.new.buf in
    let taken : length got ≡ min c.in-Ok.taken (length c.read.new.buf) =
    length-take c.in-Ok.taken c.read.new.buf in
    let long : length (at.front ++ got) ≡ length at.front + length got =
    length-append at.front got in (
      at.front ++ got,
      Consumes-trans (g.R.Read.remaining c.args.reader.now) (g.R.Read.remaining c.loop-turn.reader)
          (g.R.Read.remaining c.read.new.self) at.front got at.read c.in-Ok.ensures.bytes.0,
      omega (arith, at.few, long, taken),
    )

-- ---- a script that is to end with the first line that isn't done

pub returns-then-taken-eq0-clause-still : goal.returns-then-taken-eq0-clause-still
returns-then-taken-eq0-clause-still g c = λ stops.
    let at = c.loop-turn.invariant in
    let before = at.still stops in
    let after = c.in_ok-finish.ensures.still (at.same ∙ stops) in
    (after.0 ∙ before.0, after.1 ∙ before.1)

pub returns-in_err-finish-clause-halts : goal.returns-in_err-finish-clause-halts
returns-in_err-finish-clause-halts g c =
    let at = c.loop-turn.invariant in
    let fault = c.in_err-finish.field-0.0 in
    handed_on (IfStop (g.V.Watch.stops c.args.watch.now ≡ true)) c.from_residual.result fault
    c.from_residual.ensures.1
    (stop_then fault (λ stops. sym at.same ∙ stops) c.in_err-finish.ensures.halts)

pub returns-in_err-feed-clause-halts : goal.returns-in_err-feed-clause-halts
returns-in_err-feed-clause-halts g c =
    let at = c.loop-turn.invariant in
    let fault = c.in_err-feed.field-0.0 in
    handed_on (IfStop (g.V.Watch.stops c.args.watch.now ≡ true)) c.from_residual-in_err-feed.result
    fault c.from_residual-in_err-feed.ensures.1
    (stop_then fault (λ stops. sym at.same ∙ stops) c.in_err-feed.ensures.halts)
