use Rattle.std.proofs.Common.{◌≡◌, ◌++◌, ◌∷◌, [], true, is_ok, Result, Ok, Err, string_bytes}
use Rattle.std.proofs.Common.{string_len, ap, ◌∙◌, arith, length-append}
use Rattle.std.specs.Result.{OnOk}
use Rattle.desk_base.proofs.Pieces.{IsMore, is_more}
use Rattle.desk_base.proofs.text_list.TextList.push.Goals as goal

-- there was room for the text
more : (c : goal.After-push_str) → IsMore
    (string_bytes c.self.inside.bytes) c.args.text.now c.self.inside.ends.items
    (string_bytes c.push_str.new.self) c.push.new.self.items
more c =
    let bytes = string_bytes c.self.inside.bytes in
    let text = c.args.text.now in
    let added : is_ok c.push_str.result ≡ true =
    c.push_str.ensures.succeeds c.in_ok-reserve.ensures.ok in
    let grown : string_bytes c.push_str.new.self ≡ bytes ++ text = c.push_str.ensures.bytes
    ∙ rw added (ap (λ all. all ++ text) c.in_ok-reserve.ensures.bytes) in
    let size : c.len.result ≡ string_len c.self.inside.bytes = c.len.ensures in
    is_more bytes text c.self.inside.ends.items
    (string_bytes c.push_str.new.self) c.push.new.self.items c.in-Ok.end c.utf8.text
    c.self.invariant grown
    c.in_ok-push.ensures.items (omega (
      arith,
      length-append bytes text,
      c.in-Ok.ensures.1,
      size,
      c.self.inside.bytes.bytes.ok.0,
    ))

on_any_ok : {T E P : Type 0} (r : Result T E) → P → OnOk r P
on_any_ok (Ok x) holds = holds
on_any_ok (Err e) holds = tt

pub invariant_of-self-2 : goal.invariant_of-self-2
invariant_of-self-2 c = (more c).are

pub returns-clause-ok : goal.returns-clause-ok
returns-clause-ok c = on_any_ok c.push_str.result
    ((more c).listed ∙ ap (λ list. list ++ c.args.text.now ∷ []) c.self.view_is)
