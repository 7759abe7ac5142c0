use Rattle.std.proofs.Common.{◌≡◌, ℕ, List, Option, sym, subst, refl, ap}
use Rattle.desk_expr.specs.declared.term.Term.{Term}
use Rattle.desk_expr.specs.declared.term_reader.TermState.TheVariants.{Start, Word, Exception}
use Rattle.desk_expr.specs.declared.word.Halt.{Halt}
use Rattle.desk_expr.specs.declared.word.Halt.TheVariants.{Unexpected, Unclosed, Memory}
use Rattle.desk_expr.specs.Grammar.{Symbol, word}
use Rattle.desk_expr.specs.Spelling.{symbol}
use Rattle.desk_expr.specs.TermReading.{TermSteps, TermStops}
use Rattle.desk_expr.proofs.TermLemmas.{start_word, start_other, word_with}
use Rattle.desk_expr.proofs.term_reader.TermState.step.Goals as goal

pub returns-in-Ok-clause-ok : goal.returns-in-Ok-clause-ok
returns-in-Ok-clause-ok c =
    let s : Symbol = symbol c.args.token.now.kind c.args.token.now.text.now in
    subst (λ m. TermSteps m s (Word c.in-Ok.leaf)) (sym c.in-Start.is)
    (start_word s c.in-Ok.leaf c.in-Ok.ensures.ok.0 c.in-Ok.ensures.ok.1)

-- a token that is no word is refused at the start
stops : (s : Symbol) (h : Halt)
    → (h ≡ Unexpected → (t : Term) (o : Option (List ℕ)) → s ≡ word t o → ⊥) → (h ≡ Unclosed → ⊥)
    → TermStops Start s h
stops s Unexpected no_word closed = start_other s (no_word refl)
stops s Unclosed no_word closed = closed refl
stops s (Memory e) no_word closed = tt

pub returns-in-Start-clause-err : goal.returns-in-Start-clause-err
returns-in-Start-clause-err c =
    let s : Symbol = symbol c.args.token.now.kind c.args.token.now.text.now in
    subst (λ m. TermStops m s c.in-Err.halt) (sym c.in-Start.is)
    (stops s c.in-Err.halt c.in-Err.ensures.err c.in-Err.ensures.closed)

pub returns-in-With-clause-ok : goal.returns-in-With-clause-ok
returns-in-With-clause-ok c =
    let s : Symbol = symbol c.args.token.now.kind c.args.token.now.text.now in
    subst (λ m. TermSteps m s (Exception c.in-Word.leaf)) (sym c.in-Word.is)
    (word_with s c.in-Word.leaf (ap (λ k. symbol k c.args.token.now.text.now) c.in-With.is))
