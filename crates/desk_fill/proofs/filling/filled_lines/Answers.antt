use Rattle.std.proofs.Common.{◌∙◌, ◌++◌, [], ◌∷◌, map, ap, append_assoc, sym}
use Rattle.desk_fill.specs.Filling.{filled_line}
use Rattle.desk_fill.proofs.filling.filled_lines.Goals as goal

pub loop-line-preserved : goal.loop-line-preserved
loop-line-preserved c fills has =
    let filled = c.loop-line.filled.items in
    let rest = c.next.new.self.rest.items in
    ap (λ l. l ++ map (filled_line fills) rest) c.in_ok-push.ensures.items
    ∙ append_assoc filled (c.in_ok-filled_line.field-0 ∷ []) (map (filled_line fills) rest)
    ∙ ap (λ x. filled ++ x ∷ map (filled_line fills) rest) (c.in_ok-filled_line.ensures fills has)
    ∙ ap (λ l. filled ++ map (filled_line fills) l) (sym c.in-Some.ensures.steps.0)
    ∙ c.loop-line.invariant fills has
