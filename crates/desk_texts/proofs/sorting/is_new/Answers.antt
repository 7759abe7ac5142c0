use Rattle.std.proofs.Common.{◌<◌, length, ◌∙◌, sym, ap, arith}
use Rattle.desk_model.specs.Texts.{text_below}
use Rattle.desk_texts.proofs.Halving.{first_from}
use Rattle.desk_texts.proofs.sorting.is_new.Goals as goal

pub returns-else-place-len : goal.returns-else-place-len
returns-else-place-len g c =
    let within : c.args.place < length c.args.sorted.now.items = let le = c.requires in
    let ne = c.if-place-len.false in let len = c.len.ensures in omega (arith, le, ne, len) in
    c.lt.ensures
    ∙ (ap (text_below c.args.id.now)
    (c.id.ensures ∙ ap (λ p. g.P.Identified.id_of p.now) c.index.ensures)
    ∙ sym (first_from (λ p. g.P.Identified.id_of p.now) c.args.id.now c.args.sorted.now.items
    c.args.place c.index.result.now within))
