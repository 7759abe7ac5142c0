use Rattle.std.proofs.Common.{◌≡◌, ◌++◌, ◌∷◌, [], ap, sym, ◌∙◌, List, None}
use Rattle.std.specs.List.{last_or}
use Rattle.std.specs.Option.{option_and_then}
use Rattle.desk_model.specs.declared.row.ChangeRow.{ChangeRow}
use Rattle.desk_history.proofs.Told.{last_or-end}
use Rattle.desk_questions.proofs.ready.end_of.Goals as goal

popped : (old new : List ChangeRow) (last : ChangeRow) → old ≡ new ++ last ∷ []
    → last.last_day ≡ option_and_then (λ (change : ChangeRow). change.last_day) (last_or None old)
popped old new last is =
    sym (ap (λ (rows : List ChangeRow). option_and_then (λ (change : ChangeRow). change.last_day)
    (last_or None rows)) is
    ∙ ap (option_and_then (λ (change : ChangeRow). change.last_day)) (last_or-end None new last))

pub returns-in-Some : goal.returns-in-Some
returns-in-Some c = popped _ _ _ c.in-Some.ensures.items
