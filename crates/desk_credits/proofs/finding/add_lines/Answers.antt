use Rattle.std.proofs.Common.{List, [], ◌∷◌, ◌++◌, append-nil, subst, sym}
use Rattle.desk_base.specs.Lines.{CutsInto, LineText, line_text}
use Rattle.desk_credits.proofs.NoticeLemmas.{cut_on, line_added}
use Rattle.desk_credits.proofs.finding.add_lines.Goals as goal

pub loop-line-preserved : goal.loop-line-preserved
loop-line-preserved c =
    let had = c.loop-line.invariant.1 in
    let line = line_text c.in-Some.line in
    let steps = c.in-Some.ensures.steps in
    let bytes = c.args.bytes.now in
    let after = c.next.new.self.rest.now in (
      c.in_ok-add_found.ensures.known,
      (
        had.0 ++ line ∷ [],
        subst (λ n. (more : List LineText) → CutsInto n after more
            → CutsInto 1 bytes ((had.0 ++ line ∷ []) ++ more)) (sym steps.2)
            (cut_on c.loop-line.line-iterator.number bytes c.loop-line.line-iterator.rest.now after
            had.0 line had.1 steps.0 steps.1),
        line_added c.args.path.now c.args.known.now.notices.items c.loop-line.known.notices.items
            c.add_found.new.known.notices.items had.0 line had.2 c.in_ok-add_found.ensures.added,
      ),
    )

pub returns-clause-added : goal.returns-clause-added
returns-clause-added c =
    let had = c.loop-line.invariant.1 in (
      had.0,
      subst (CutsInto 1 c.args.bytes.now) (append-nil had.0) (had.1 [] c.in-None.ensures.steps.0),
      had.2,
    )
