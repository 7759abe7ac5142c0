use Rattle.std.proofs.Common.{ap, ◌∙◌, ◌≡◌, ◌-◌, length, drop}
use Rattle.desk_fields.proofs.Cuts.{line_front, line_back, line_cut}
use Rattle.desk_fields.proofs.text.first_line.Goals as goal

pub split_at-requires-2 : goal.split_at-requires-2
split_at-requires-2 c =
    let is = c.as_bytes-bytes.ensures.value in
    let line = rw is at c.first_line-end.ensures.line in
    rw is (line_cut c.args.text.now _ _ _ line c.utf8.text)

pub returns-clause-line : goal.returns-clause-line
returns-clause-line c =
    let is = c.as_bytes-bytes.ensures.value in
    let line = rw is at c.first_line-end.ensures.line in
    let front : c.split_at.result.0.now ≡ c.first_line-end.result.0.now = c.split_at.ensures.front
    ∙ line_front c.args.text.now _ _ _ line in
    let back : c.split_at-2.result.1.now ≡ c.first_line-end.result.2.now =
    c.split_at-2.ensures.back ∙ ap (λ n. drop (n - length c.first_line-end.result.2.now)
    c.args.text.now) (ap length is) ∙ line_back c.args.text.now _ _ _ line in
    rw (front, back) line
