use Rattle.std.proofs.Common.{◌∙◌, ap, sym}
use Rattle.std.specs.Ordering.{is_eq}
use Rattle.desk_memory_rows.specs.Splitting.{choice_meets}
use Rattle.desk_sql_cache.proofs.repeated.is_of.Goals as goal

pub returns : goal.returns
returns c =
    let key = c.args.key.now in
    c.is_eq.ensures ∙ (ap is_eq c.side_of.ensures
    ∙ sym (choice_meets key.release.now key.document key.id.now c.args.row.now))
