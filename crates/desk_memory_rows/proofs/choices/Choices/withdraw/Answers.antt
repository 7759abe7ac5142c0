use Rattle.std.proofs.Common.{◌∙◌, ap, sym}
use Rattle.std.specs.Prelude.{filter}
use Rattle.desk_model.specs.Keys.{is_choice_in}
use Rattle.desk_memory_rows.specs.Holders.{leaving}
use Rattle.desk_sorted.specs.Blocks.{rows_in}
use Rattle.desk_memory_rows.proofs.Holding.{leaves_all}
use Rattle.desk_memory_rows.proofs.choices.Choices.withdraw.Goals as goal

pub returns-clause-held : goal.returns-clause-held
returns-clause-held c = λ t held same.
    let all = rows_in c.args.self.now.holders.blocks.items in
    c.drop_holders.ensures
    ∙ (ap (λ rows. leaving c.args.place (filter (is_choice_in c.args.release.now) rows) all)
    (sym same)
    ∙ leaves_all t all held c.args.release.now c.args.place)
