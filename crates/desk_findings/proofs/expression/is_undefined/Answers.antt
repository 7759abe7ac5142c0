use Rattle.std.proofs.Common.{◌∙◌, ap, sym}
use Rattle.std.specs.Prelude.{◌&&◌, not, nat_eq, codes}
use Rattle.std.specs.List.{list_any, starts_with}
use Rattle.std.specs.Str.{bytes_eq}
use Rattle.desk_findings.proofs.expression.is_undefined.Goals as goal

pub returns-in-Some : goal.returns-in-Some
returns-in-Some c = λ d known.
    let key = c.as_str-key.ensures in
    ap not (c.contains.ensures ∙ known c.as_str-key.result.now
    ∙ ap (λ k. list_any (λ x. bytes_eq x.id k) d.extracted) key)
    ∙ ap (λ b. b && not (list_any (λ x. bytes_eq x.id c.args.term.now.key) d.extracted))
    (sym (ap (λ k. starts_with nat_eq k (codes "LicenseRef-")) (sym key) ∙ c.in-Some.ensures.some))

pub returns-in-None : goal.returns-in-None
returns-in-None c = λ d known.
    let key = c.as_str-key.ensures in
    ap (λ b. b && not (list_any (λ x. bytes_eq x.id c.args.term.now.key) d.extracted))
    (sym (ap (λ k. starts_with nat_eq k (codes "LicenseRef-")) (sym key) ∙ c.in-None.ensures.none))
