use Rattle.std.proofs.Common.{◌∙◌, ap, map}
use Rattle.std.specs.Prelude.{filter}
use Rattle.desk_model.specs.Keys.{is_choice_of}
use Rattle.desk_model.specs.Tables.{Tables}
use Rattle.desk_model.specs.declared.row.ChoiceRow.{ChoiceRow}
use Rattle.desk_memory.proofs.Terms.{terms_read}
use Rattle.desk_memory.proofs.store.MemStoreStore.chosen.Goals as goal

pub returns-clause-found : goal.returns-clause-found
returns-clause-found c = λ h t held.
    c.in_ok-terms_of.ensures
    ∙ (terms_read c.as_slice.result.now
    ∙ ap (map (λ (row : ChoiceRow). row.term))
    (ap (map (λ row. row.now)) c.as_slice.ensures.value
    ∙ (c.in_ok-rows.ensures ∙ ap (λ (u : Tables). filter
    (is_choice_of c.args.release.now c.args.document c.args.id.now) u.choice) held.0)))
