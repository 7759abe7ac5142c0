use Rattle.std.proofs.Common.{List, [], ◌∷◌, subst, sym, None}
use Rattle.std.specs.Prelude.{map}
use Rattle.std.specs.Iterator.{Yields}
use Rattle.desk_base.specs.declared.lines.Line.{Line}
use Rattle.desk_base.specs.declared.lines.Lines.{Lines}
use Rattle.desk_base.specs.Lines.{AreLines, CutsInto, line_text}
use Rattle.desk_base.specs.NextLine.{LineGiven}
use Rattle.desk_base.proofs.lines.Lines.of.Goals as goal

-- what `next` returns until it returns none are the lines of what is left
all_given : (given : List Line) (lines last after : Lines) → Yields LineGiven lines given last
    → LineGiven last None after → AreLines lines.number lines.rest.now given
all_given [] lines last after same none = subst (λ (s : Lines). AreLines s.number s.rest.now [])
    (sym same) none.0
all_given (l ∷ given) lines last after (next, step, more) none =
    let behind : AreLines next.number next.rest.now given =
    all_given given next last after more none in (
      next.rest.now,
      step.0,
      step.1,
      subst (λ n. CutsInto n next.rest.now (map line_text given)) step.2 behind,
    )

pub returns-clause-lines : goal.returns-clause-lines
returns-clause-lines c = λ given drains. all_given given _ drains.1.0 drains.0 drains.1.1 drains.1.2
