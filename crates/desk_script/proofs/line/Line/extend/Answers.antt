use Rattle.std.proofs.Common.{ℕ, ◌∙◌, ◌++◌, ◌∷◌, [], ap}
use Rattle.std.proofs.lemmas.Result.{on_ok_weaker}
use Rattle.desk_script.proofs.Gathering.{Shows-cr, Shows-nothing, Shows-run}
use Rattle.desk_script.proofs.line.Line.extend.Goals as goal

pub returns-in_default : goal.returns-in_default
returns-in_default c = λ came h. Shows-nothing c.args.self.now came c.args.run.now h
    c.in_default.ensures.cases

pub returns-then-last-eq13 : goal.returns-then-last-eq13
returns-then-last-eq13 c = λ came h.
    Shows-cr c.put.new.self came c.in-Some.before.now c.args.run.now
    (c.in_ok-put.ensures.came came (c.in_ok-keep_cr.ensures.came came h))
    (c.in-Some.ensures.cases.0 ∙ ap (λ (b : ℕ). c.in-Some.before.now ++ b ∷ []) c.if-last-eq13.true)

pub returns : goal.returns
returns c = λ came h.
    on_ok_weaker c.put-2.result (λ has.
    Shows-run c.put-2.new.self came c.in-Some.before.now c.args.run.now c.in-Some.last.now has
    (c.put-2.ensures.cr ∙ c.keep_cr.ensures.none) c.in-Some.ensures.cases.0
    c.if-last-eq13.false) (c.put-2.ensures.came came (c.in_ok-keep_cr.ensures.came came h))
