use Rattle.std.proofs.Common.{◌∙◌, ap, sym, cond}
use Rattle.std.specs.Prelude.{Ok, Err}
use Rattle.desk_tree_annotations.proofs.RightLemmas.{same_test}
use Rattle.desk_tree_gather.specs.declared.fault.GatherFault.TheVariants.{ExpressionTooLong}
use Rattle.desk_tree_document.specs.Texts.{expression_of}
use Rattle.desk_tree_document.proofs.texts.expression_read.Goals as goal

pub returns-then-told : goal.returns-then-told
returns-then-told c = λ r right.
    ap (λ b. cond b (Ok (expression_of c.args.licences.now)) (Err ExpressionTooLong))
    (ap r.is_expression (sym c.in_ok-text.ensures ∙ sym c.as_str.ensures)
    ∙ same_test r right _ c.in_ok-told.told c.in_ok-told.ensures ∙ c.if-told.true)
    ∙ ap Ok (sym c.in_ok-text.ensures)

pub returns-else-told : goal.returns-else-told
returns-else-told c = λ r right.
    ap (λ b. cond b (Ok (expression_of c.args.licences.now)) (Err ExpressionTooLong))
    (ap r.is_expression (sym c.in_ok-text.ensures ∙ sym c.as_str.ensures)
    ∙ same_test r right _ c.in_ok-told.told c.in_ok-told.ensures ∙ c.if-told.false)
