use Rattle.std.proofs.Common.{◌∙◌, sym, ap, length, string_bytes}
use Rattle.desk_base.proofs.Pieces.{length-pieces}
use Rattle.desk_base.proofs.text_list.TextList.len.Goals as goal

pub returns : goal.returns
returns c =
    let s = c.self.inside in
    c.len.ensures ∙ s.ends.ok.0 ∙ sym (length-pieces (string_bytes s.bytes) 0 s.ends.items)
    ∙ ap length c.self.view_is
