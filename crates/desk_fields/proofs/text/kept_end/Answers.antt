use Rattle.desk_fields.proofs.Cuts.{kept_cut}
use Rattle.desk_fields.proofs.text.kept_end.Goals as goal

pub returns-clause-cut : goal.returns-clause-cut
returns-clause-cut c =
    let is = c.as_bytes.ensures.value in
    let k = rw is at c.kept_len.ensures in
    kept_cut c.args.text.now c.kept_len.result k.within k.blank
