use Rattle.std.proofs.Common.{◌≡◌, ℕ, ◌+◌, List, ◌++◌, ◌∷◌, [], length, refl, sym, subst, ap, ◌∙◌}
use Rattle.std.proofs.Common.{arith, append_assoc, append-nil, length-append}
use Rattle.std.specs.Prelude.{true}
use Rattle.desk_script.specs.Losses.{IfStop}
use Rattle.desk_script.specs.Script.{HasServed, IsFrontAt}
use Rattle.desk_script.specs.declared.serving.ScriptStop.TheVariants.{Memory}
use Rattle.desk_script.proofs.Progress.{HasServed-came, HasServed-run, HasServed-then}
use Rattle.desk_script.proofs.Progress.{IsFrontAt-piece, IsFrontAt-then, piece_cut, piece_line}
use Rattle.desk_script.proofs.Progress.{front_line}
use Rattle.desk_script.proofs.Chains.{stop_then}
use Rattle.desk_script.proofs.Results.{handed_on}
use Rattle.desk_script.proofs.stream.feed.Goals as goal

pub loop-text-init : goal.loop-text-init
loop-text-init g c = record {
  taken = [];
  cut = refl;
  served = λ number came shows no_lf.
      subst (λ (bs : List ℕ). HasServed g.D.Desk.are_right g.D.Desk.tells g.D.Desk.stands
      g.D.Desk.seen number bs c.args.desk.now c.args.desk.now (g.W.Write.contents c.args.writer.now)
      (g.W.Write.contents c.args.writer.now)
      c.args.end.now c.args.end.now c.args.line.now) (sym (append-nil came))
      (HasServed-came g.D.Desk.are_right g.D.Desk.tells g.D.Desk.stands g.D.Desk.seen number came
      c.args.desk.now (g.W.Write.contents c.args.writer.now) c.args.end.now c.args.line.now shows
      no_lf);
  refused = omega arith;
  failed = omega arith;
  still = λ stops. (refl, refl);
  same = refl;
}

pub loop-text-preserved : goal.loop-text-preserved
loop-text-preserved g c =
    let at = c.loop-text.invariant in
    let found = c.in-Some.ensures in
    let few = c.in_ok-end_line.ensures.few in
    let text : length (c.in-Some.text.now ++ 10 ∷ []) ≡ length c.in-Some.text.now + 1 =
    length-append c.in-Some.text.now (10 ∷ []) in
    let taken : length (at.taken ++ (c.in-Some.text.now ++ 10
    ∷ [])) ≡ length at.taken + length (c.in-Some.text.now ++ 10 ∷ []) =
    length-append at.taken (c.in-Some.text.now ++ 10 ∷ []) in
    record {
      taken = at.taken ++ (c.in-Some.text.now ++ 10 ∷ []);
      cut = piece_cut at.taken c.in-Some.text.now c.in-Some.more.now c.loop-text.rest.now
          c.args.piece.now at.cut found.1;
      served = λ number came shows no_lf.
          let sofar = at.served number came shows no_lf in
          let run = HasServed-run g.D.Desk.are_right g.D.Desk.tells g.D.Desk.stands g.D.Desk.seen
          number (came ++ at.taken) c.in-Some.text.now c.args.desk.now c.loop-text.desk
          (g.W.Write.contents c.args.writer.now) (g.W.Write.contents c.loop-text.writer)
          c.args.end.now c.loop-text.end c.loop-text.line c.extend.new.self sofar found.0
          (c.in_ok-extend.ensures sofar.came sofar.shows) in
          subst (λ (bs : List ℕ). HasServed g.D.Desk.are_right g.D.Desk.tells g.D.Desk.stands
          g.D.Desk.seen number bs c.args.desk.now c.end_line.new.desk
          (g.W.Write.contents c.args.writer.now) (g.W.Write.contents c.end_line.new.writer)
          c.args.end.now c.end_line.new.end c.end_line.new.line)
          (front_line came at.taken c.in-Some.text.now)
          (HasServed-then g.D.Desk.are_right g.D.Desk.tells g.D.Desk.stands g.D.Desk.seen number
          ((came ++ at.taken) ++ c.in-Some.text.now) (10 ∷ []) c.args.desk.now c.loop-text.desk
          c.end_line.new.desk
          (g.W.Write.contents c.args.writer.now) (g.W.Write.contents c.loop-text.writer)
          (g.W.Write.contents c.end_line.new.writer) c.args.end.now c.loop-text.end
          c.end_line.new.end c.extend.new.self c.end_line.new.line run
          (c.in_ok-end_line.ensures.ok (number + length run.lines) run.came run.shows run.no_lf));
      refused = omega (arith, at.refused, few.0, text, taken);
      failed = omega (arith, at.failed, few.1, text, taken);
      still = λ stops.
          let before = at.still stops in
          let after = c.in_ok-end_line.ensures.still (at.same ∙ stops) in
          (after.0 ∙ before.0, after.1 ∙ before.1);
      same = c.in_ok-end_line.ensures.same ∙ at.same;
    }

pub returns-in_err-extend-clause-err : goal.returns-in_err-extend-clause-err
returns-in_err-extend-clause-err g c = λ number came more shows no_lf.
    let at = c.loop-text.invariant in
    handed_on _ c.from_residual.result Memory c.from_residual.ensures.1
    (IsFrontAt-piece _ _ _ _ number Memory came at.taken c.loop-text.rest.now c.args.piece.now more
    _ _ _ _ _ _ _ at.cut tt (at.served number came shows no_lf))

pub returns-in_err-end_line-clause-err : goal.returns-in_err-end_line-clause-err
returns-in_err-end_line-clause-err g c = λ number came more shows no_lf.
    let at = c.loop-text.invariant in
    let found = c.in-Some.ensures in
    let fault = c.in_err-end_line.field-0.0 in
    let sofar = at.served number came shows no_lf in
    let run = HasServed-run g.D.Desk.are_right g.D.Desk.tells g.D.Desk.stands g.D.Desk.seen number
    (came ++ at.taken) c.in-Some.text.now c.args.desk.now c.loop-text.desk
    (g.W.Write.contents c.args.writer.now) (g.W.Write.contents c.loop-text.writer) c.args.end.now
    c.loop-text.end c.loop-text.line c.extend.new.self sofar found.0
    (c.in_ok-extend.ensures sofar.came sofar.shows) in
    handed_on
    (λ f. IsFrontAt g.D.Desk.are_right g.D.Desk.tells g.D.Desk.stands g.D.Desk.seen number f
    (came ++ (c.args.piece.now ++ more)) c.args.desk.now c.end_line.new.desk
    (g.W.Write.contents c.args.writer.now) (g.W.Write.contents c.end_line.new.writer))
    c.from_residual-in_err-end_line.result fault c.from_residual-in_err-end_line.ensures.1
    (subst (λ (bs : List ℕ). IsFrontAt g.D.Desk.are_right g.D.Desk.tells g.D.Desk.stands
    g.D.Desk.seen number fault bs c.args.desk.now c.end_line.new.desk
    (g.W.Write.contents c.args.writer.now) (g.W.Write.contents c.end_line.new.writer))
    (piece_line came at.taken c.in-Some.text.now c.in-Some.more.now c.loop-text.rest.now
    c.args.piece.now more at.cut found.1)
    (IsFrontAt-then g.D.Desk.are_right g.D.Desk.tells g.D.Desk.stands g.D.Desk.seen number fault
    ((came ++ at.taken) ++ c.in-Some.text.now) (10 ∷ (c.in-Some.more.now ++ more)) c.args.desk.now
    c.loop-text.desk c.end_line.new.desk
    (g.W.Write.contents c.args.writer.now) (g.W.Write.contents c.loop-text.writer)
    (g.W.Write.contents c.end_line.new.writer) c.args.end.now c.loop-text.end c.extend.new.self
    (stop_then fault (λ stops. at.still (sym at.same ∙ stops)) c.in_err-end_line.ensures.halts) run
    (c.in_err-end_line.ensures.err (number + length run.lines) run.came (c.in-Some.more.now ++ more)
    run.shows run.no_lf)))

pub returns-in_err-extend-2-clause-err : goal.returns-in_err-extend-2-clause-err
returns-in_err-extend-2-clause-err g c = λ number came more shows no_lf.
    let at = c.loop-text.invariant in
    handed_on _ c.from_residual-in_err-extend-2.result Memory
    c.from_residual-in_err-extend-2.ensures.1
    (IsFrontAt-piece _ _ _ _ number Memory came at.taken c.loop-text.rest.now c.args.piece.now more
    _ _ _ _ _ _ _ at.cut tt (at.served number came shows no_lf))

pub returns-clause-ok : goal.returns-clause-ok
returns-clause-ok g c = λ number came shows no_lf.
    let at = c.loop-text.invariant in
    let sofar = at.served number came shows no_lf in
    subst (λ (bs : List ℕ). HasServed g.D.Desk.are_right g.D.Desk.tells g.D.Desk.stands
    g.D.Desk.seen number bs c.args.desk.now c.loop-text.desk (g.W.Write.contents c.args.writer.now)
    (g.W.Write.contents c.loop-text.writer)
    c.args.end.now c.loop-text.end c.extend-2.new.self)
    (append_assoc came at.taken c.loop-text.rest.now ∙ ap (λ (l : List ℕ). came ++ l) (sym at.cut))
    (HasServed-run g.D.Desk.are_right g.D.Desk.tells g.D.Desk.stands g.D.Desk.seen number
    (came ++ at.taken) c.loop-text.rest.now c.args.desk.now c.loop-text.desk
    (g.W.Write.contents c.args.writer.now)
    (g.W.Write.contents c.loop-text.writer) c.args.end.now c.loop-text.end c.loop-text.line
    c.extend-2.new.self sofar c.in_default.ensures
    (c.in_ok-extend-2.ensures sofar.came sofar.shows))

pub returns-in_err-end_line-clause-halts : goal.returns-in_err-end_line-clause-halts
returns-in_err-end_line-clause-halts g c =
    let at = c.loop-text.invariant in
    let fault = c.in_err-end_line.field-0.0 in
    handed_on (IfStop (g.V.Watch.stops c.args.watch.now ≡ true))
    c.from_residual-in_err-end_line.result fault c.from_residual-in_err-end_line.ensures.1
    (stop_then fault (λ stops. sym at.same ∙ stops) c.in_err-end_line.ensures.halts)
