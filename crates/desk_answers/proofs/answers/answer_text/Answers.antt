use Rattle.std.proofs.Common.{◌∙◌, ◌++◌, ℕ, List, ap, subst, sym}
use Rattle.std.specs.Prelude.{IfOk}
use Rattle.std.proofs.lemmas.Result.{IfOk-weaker}
use Rattle.desk_explain.specs.declared.entry.Entry.{Entry}
use Rattle.desk_model.specs.declared.command.Answer.{Answer}
use Rattle.desk_model.specs.declared.command.Answer.TheVariants as answer
use Rattle.desk_model.specs.declared.refusal.Refusal.{Refusal}
use Rattle.desk_answers.specs.Answers.{IsShown, rows_shown}
use Rattle.desk_answers.specs.Refusals.{IsRefused}
use Rattle.desk_answers.specs.Rows.{counted_cells, held_cells, held_names, open_cells, open_names, gap_cells, gap_names}
use Rattle.desk_answers.specs.Rows.{release_names, totals_names}
use Rattle.desk_answers.proofs.answers.answer_text.Goals as goal
use denote.Ref.{Bor}

pub returns-in-Releases : goal.returns-in-Releases
returns-in-Releases c =
    subst (λ (a : Answer). IfOk c.columns_of-in-Releases.result (λ text. IsShown a text.items))
    (sym c.in-Releases.is)
    (IfOk-weaker c.columns_of-in-Releases.result _ _
    (λ text is. is ∙ ap (rows_shown (release_names ++ totals_names) counted_cells)
    c.as_slice-in-Releases.ensures) c.columns_of-in-Releases.ensures)

pub returns-in-Documents : goal.returns-in-Documents
returns-in-Documents c =
    subst (λ (a : Answer). IfOk c.columns_of-in-Documents.result (λ text. IsShown a text.items))
    (sym c.in-Documents.is)
    (IfOk-weaker c.columns_of-in-Documents.result _ _
    (λ text is. is ∙ ap (rows_shown held_names held_cells) c.as_slice-in-Documents.ensures)
    c.columns_of-in-Documents.ensures)

pub returns-in-OpenDuties : goal.returns-in-OpenDuties
returns-in-OpenDuties c =
    subst (λ (a : Answer). IfOk c.columns_of-in-OpenDuties.result (λ text. IsShown a text.items))
    (sym c.in-OpenDuties.is)
    (IfOk-weaker c.columns_of-in-OpenDuties.result _ _
    (λ text is. is ∙ ap (rows_shown open_names open_cells) c.as_slice-in-OpenDuties.ensures)
    c.columns_of-in-OpenDuties.ensures)

pub returns-in-Gaps : goal.returns-in-Gaps
returns-in-Gaps c =
    subst (λ (a : Answer). IfOk c.columns_of-in-Gaps.result (λ text. IsShown a text.items))
    (sym c.in-Gaps.is)
    (IfOk-weaker c.columns_of-in-Gaps.result _ _
    (λ text is. is ∙ ap (rows_shown gap_names gap_cells) c.as_slice-in-Gaps.ensures)
    c.columns_of-in-Gaps.ensures)

-- a refusal by some tables
in_tables : (tables : List (Bor (List Entry))) (refusal : Refusal) (text : List ℕ)
    → IsRefused tables refusal text → IsShown (answer.Refused refusal) text
in_tables tables refusal text is = (tables, is)

pub returns-in-Refused : goal.returns-in-Refused
returns-in-Refused c =
    subst (λ (a : Answer). IfOk c.refusal_text.result (λ text. IsShown a text.items))
    (sym c.in-Refused.is)
    (IfOk-weaker c.refusal_text.result _ _
    (λ text is. search (in_tables, is))
    c.refusal_text.ensures)
