use Rattle.std.proofs.Common.{◌≡◌, ◌∙◌, ℕ, List, Result, Ok, Err, Some, ap, sym, subst, true}
use Rattle.std.specs.Prelude.{IfOk}
use Rattle.desk_base.specs.Folded.{folded}
use Rattle.desk_expr.specs.declared.term.Term.{Term}
use Rattle.desk_tokens.specs.declared.token.Kind.{Kind}
use Rattle.desk_tokens.specs.declared.token.Kind.TheVariants.{Licence}
use Rattle.desk_expr.specs.declared.word.Halt.{Halt}
use Rattle.desk_expr.specs.Grammar.{word}
use Rattle.desk_tokens.specs.Words.{IsWordOf}
use Rattle.desk_expr.specs.Words.{licence_term, is_folded_id}
use Rattle.desk_expr.specs.Spelling.{symbol}
use Rattle.desk_expr.proofs.WordLemmas.{folded_id}
use Rattle.desk_expr.proofs.word.exception_of.Goals as goal

exception_word : (k : Kind) (w : List ℕ) (r : Result (List ℕ) Halt) → k ≡ Licence
    → IfOk r (λ x. x ≡ folded w) → IfOk r (λ x. (u : Term) × (symbol k w ≡ word u (Some x)))
exception_word k w (Ok x) is h = (
  licence_term w,
  ap (λ i. symbol i w) is
      ∙ ap (λ y. word (licence_term w) (Some y)) (sym h),
)
exception_word k w (Err e) is h = h

exception_folded : (k : Kind) (w : List ℕ) (r : Result (List ℕ) Halt) → k ≡ Licence → IsWordOf k w
    → IfOk r (λ x. x ≡ folded w) → IfOk r (λ x. is_folded_id x ≡ true)
exception_folded k w (Ok x) is kind h = rw h (folded_id w (subst (λ k. IsWordOf k w) is kind))
exception_folded k w (Err e) is kind h = h

pub returns-in-Licence-clause-ok : goal.returns-in-Licence-clause-ok
returns-in-Licence-clause-ok c = exception_word c.args.kind c.args.text.now c.folded_key.result
    c.in-Licence.is c.folded_key.ensures.ok

pub returns-in-Licence-clause-well_formed : goal.returns-in-Licence-clause-well_formed
returns-in-Licence-clause-well_formed c =
    exception_folded c.args.kind c.args.text.now c.folded_key.result c.in-Licence.is c.requires
    c.folded_key.ensures.ok
