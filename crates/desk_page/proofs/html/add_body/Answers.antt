use Rattle.std.specs.String.{string_bytes}
use Rattle.desk_base.proofs.Results.{OnOk-items}
use Rattle.desk_page.specs.Page.{body_text}
use Rattle.desk_page.proofs.html.add_body.Goals as goal

pub returns-in-None : goal.returns-in-None
unfolding body_text
returns-in-None c = rw c.in-None.is
    (OnOk-items c.push_str.result (string_bytes c.push_str.new.self) _ _ c.push_str.ensures.bytes)
