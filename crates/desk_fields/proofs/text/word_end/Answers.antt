use Rattle.desk_fields.proofs.Cuts.{word_cut}
use Rattle.desk_fields.proofs.text.word_end.Goals as goal

pub returns-clause-cut : goal.returns-clause-cut
returns-clause-cut c =
    let is = c.as_bytes.ensures.value in
    let k = rw is at c.word_len.ensures in
    word_cut c.args.text.now c.word_len.result k.within k.blank
