use Rattle.std.proofs.Common.{◌∙◌, ap, ap₂, sym, cond, None, codes, bytes_eq}
use Rattle.desk_tagvalue.specs.Views.{edge_text}
use Rattle.desk_bom.specs.Contents.{package_named, file_named}
use Rattle.desk_bom.specs.Shipping.{arrow_between}
use Rattle.desk_bom.proofs.contents.tie.Goals as goal

pub returns-then-eq-2 : goal.returns-then-eq-2
returns-then-eq-2 c = λ d notes.
    let e = edge_text c.args.edge.now in
    let forth = arrow_between (package_named d e.left) (file_named d e.right) in
    let back = arrow_between (package_named d e.right) (file_named d e.left) in
    c.arrow_between-then-eq-2.ensures
    ∙ ap₂ arrow_between (c.package-then-eq-2.ensures d notes) (c.file-then-eq-2.ensures d notes)
    ∙ sym (ap (λ b. cond b forth (cond (bytes_eq e.kind (codes "CONTAINED_BY")) back None))
    (sym c.eq.ensures ∙ c.if-eq.false)
    ∙ ap (λ b. cond b back None) (sym c.eq-2.ensures ∙ c.if-eq-2.true))
