use Rattle.std.proofs.Common.{Some, ◌∙◌, ap}
use Rattle.std.specs.Option.{option_map}
use Rattle.desk_memory_rows.specs.declared.holders.Holder.{Holder}
use Rattle.desk_memory_rows.proofs.FirstHolder.{first_holder}
use Rattle.desk_sql_cache.specs.Holding.{held_by}
use Rattle.desk_sql_cache.proofs.holders.Holders.first.Goals as goal

pub returns-in_ok-clone-in-Some : goal.returns-in_ok-clone-in-Some
returns-in_ok-clone-in-Some c = λ t places held.
    let self = c.args.self.now in
    ap Some c.in_ok-clone-in-Some.ensures.cases
    ∙ (ap (option_map (λ (holder : Holder). holder.release)) (rw c.in-Some.is at c.find.ensures)
    ∙ first_holder t (held_by self) places held c.args.document c.args.id.now self.rows.ascending)

pub returns-in-None : goal.returns-in-None
returns-in-None c = λ t places held.
    let self = c.args.self.now in
    ap (option_map (λ (holder : Holder). holder.release)) (rw c.in-None.is at c.find.ensures)
    ∙ first_holder t (held_by self) places held c.args.document c.args.id.now self.rows.ascending
