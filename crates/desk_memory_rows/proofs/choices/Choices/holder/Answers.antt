use Rattle.std.proofs.Common.{ap, ◌∙◌}
use Rattle.std.specs.Option.{option_map}
use Rattle.desk_memory_rows.specs.declared.holders.Holder.{Holder}
use Rattle.desk_sorted.specs.Blocks.{rows_in}
use Rattle.desk_memory_rows.proofs.FirstHolder.{first_holder}
use Rattle.desk_memory_rows.proofs.choices.Choices.holder.Goals as goal

pub returns : goal.returns
returns c = λ t places held.
    let holders = c.args.self.now.holders in
    ap (option_map (λ (holder : Holder). holder.release)) c.find.ensures
    ∙ first_holder t (rows_in holders.blocks.items) places held c.args.document c.args.id.now
    holders.ascending
