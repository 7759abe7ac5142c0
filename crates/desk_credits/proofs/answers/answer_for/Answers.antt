use Rattle.std.proofs.Common.{◌≡◌, ◌∙◌, ℕ, List, ap, option_map, subst, Bor}
use Rattle.std.proofs.lemmas.Result.{IfOk-weaker}
use Rattle.desk_entries.specs.declared.answers.Answer.{Answer}
use Rattle.desk_fill.specs.declared.fill.Credit.{Credit}
use Rattle.desk_credits.specs.declared.notice.Notice.{Notice}
use Rattle.desk_credits.specs.Answers.{AnswersNotices, flaw_lines}
use Rattle.desk_credits.specs.Written.{credit_for}
use Rattle.desk_credits.proofs.answers.answer_for.Goals as goal

same_answer : (a b : List ℕ) (ns ms : List Notice) (x y : Credit) (answer : Answer) → a ≡ b → ns ≡ ms
    → x ≡ y → AnswersNotices a ns x answer → AnswersNotices b ms y answer
same_answer a b ns ms x y answer notes notices credit told =
    subst (λ (z : Credit). AnswersNotices b ms z answer) credit
    (subst (λ (z : List Notice). AnswersNotices b z x answer) notices
    (subst (λ (z : List ℕ). AnswersNotices z ns x answer) notes told))

pub returns : goal.returns
returns c r files flaws tree infos =
    let name = c.args.name.now in
    let version = option_map (λ (text : Bor (List ℕ)). text.now) c.args.version in
    let notices = c.in_ok-notices.notices.items in
    let lines = c.in_ok-notes.ensures ∙ ap flaw_lines (c.as_slice.ensures ∙ flaws) in
    let credit = c.in_ok-credit.ensures ∙ ap (credit_for name version) c.as_slice-2.ensures.value in
    IfOk-weaker c.answer_with.result _ _ (λ answer told. (
      notices,
      c.in_ok-notices.ensures r files tree infos,
      same_answer c.in_ok-notes.notes.items _ c.as_slice-3.result.now notices c.in_ok-credit.credit _
          answer lines c.as_slice-3.ensures.value credit told,
    )) c.answer_with.ensures
