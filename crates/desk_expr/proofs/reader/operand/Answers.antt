use Rattle.std.proofs.Common.{◌≡◌, ap, ℕ, List, Option, refl}
use Rattle.std.specs.Prelude.{◌≢◌}
use Rattle.desk_expr.specs.declared.reader.Reader.{Reader}
use Rattle.desk_expr.specs.declared.reader.State.TheVariants.{Operand}
use Rattle.desk_expr.specs.declared.term.Term.{Term}
use Rattle.desk_expr.specs.declared.word.Halt.{Halt}
use Rattle.desk_expr.specs.declared.word.Halt.TheVariants.{Unexpected, Unclosed, Memory}
use Rattle.desk_expr.specs.Grammar.{Symbol, opening, word}
use Rattle.desk_expr.specs.Spelling.{symbol}
use Rattle.desk_expr.specs.Reading.{Stops}
use Rattle.desk_expr.proofs.SymbolLemmas.{is_opening}
use Rattle.desk_expr.proofs.Steps.{operand_opening, operand_word, operand_other}
use Rattle.desk_expr.proofs.reader.operand.Goals as goal

pub returns-in_ok-push-in-Opening-clause-ok : goal.returns-in_ok-push-in-Opening-clause-ok
returns-in_ok-push-in-Opening-clause-ok c =
    operand_opening c.args.outer.items c.args.inner
    (symbol c.args.token.now.kind c.args.token.now.text.now)
    (ap (λ k. symbol k c.args.token.now.text.now) c.in-Opening.is)
    c.push.new.list.items c.new.result.lists.items c.new.result.operands.items
    c.in_ok-push-in-Opening.ensures.ok c.new.ensures.lists c.new.ensures.operands

-- a token that is no word and opens nothing is refused
stops : (m : Reader) (s : Symbol) (h : Halt) → s ≢ opening
    → (h ≡ Unexpected → (t : Term) (o : Option (List ℕ)) → s ≡ word t o → ⊥) → (h ≡ Unclosed → ⊥)
    → Stops (record m { state = Operand }) s h
stops m s Unexpected no_opening no_word closed = operand_other m.outer.items m.inner s no_opening
    (no_word refl)
stops m s Unclosed no_opening no_word closed = closed refl
stops m s (Memory e) no_opening no_word closed = tt

pub returns-in-Ok-clause-ok : goal.returns-in-Ok-clause-ok
returns-in-Ok-clause-ok c =
    operand_word c.args.outer.items c.args.inner
    (symbol c.args.token.now.kind c.args.token.now.text.now) c.in-Ok.leaf c.in-Ok.ensures.ok.0
    c.in-Ok.ensures.ok.1

pub returns-in-Err-clause-err : goal.returns-in-Err-clause-err
returns-in-Err-clause-err c =
    stops (record { outer = c.args.outer; inner = c.args.inner; state = Operand })
    (symbol c.args.token.now.kind c.args.token.now.text.now) c.in-Err.halt
    (λ h. c.in_default.not-Opening (is_opening c.args.token.now.kind c.args.token.now.text.now h))
    c.in-Err.ensures.err c.in-Err.ensures.closed
