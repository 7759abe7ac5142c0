use Rattle.std.proofs.Common.{◌≡◌, ◌∙◌, ℕ, List, Option, Result, Ok, Err, Some, ap, sym}
use Rattle.std.specs.Prelude.{IfOk}
use Rattle.desk_base.specs.Folded.{folded}
use Rattle.desk_expr.specs.declared.term.Term.{Term}
use Rattle.desk_tokens.specs.declared.token.Kind.{Kind}
use Rattle.desk_tokens.specs.declared.token.Kind.TheVariants.{Licence}
use Rattle.desk_expr.specs.declared.word.Halt.{Halt}
use Rattle.desk_expr.specs.Grammar.{word}
use Rattle.desk_expr.specs.Words.{licence_term}
use Rattle.desk_expr.specs.Spelling.{symbol}
use Rattle.desk_expr.proofs.word.leaf_of.Goals as goal

licence_word : (k : Kind) (w : List ℕ) (r : Result Term Halt) → k ≡ Licence
    → IfOk r (λ t. t ≡ licence_term w)
    → IfOk r (λ t. (o : Option (List ℕ)) × (symbol k w ≡ word t o))
licence_word k w (Ok t) is h = (
  Some (folded w),
  ap (λ i. symbol i w) is
      ∙ ap (λ v. word v (Some (folded w))) (sym h),
)
licence_word k w (Err e) is h = h

pub returns-in-Licence-clause-ok : goal.returns-in-Licence-clause-ok
returns-in-Licence-clause-ok c = licence_word c.args.kind c.args.text.now c.licence.result
    c.in-Licence.is c.licence.ensures.ok
