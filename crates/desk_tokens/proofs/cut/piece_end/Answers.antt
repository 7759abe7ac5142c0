use Rattle.std.proofs.Common.{◌≡◌, ◌∙◌, sym, get_or, true, false, ap}
use Rattle.desk_tokens.specs.Tokens.{is_parenthesis}
use Rattle.desk_tokens.proofs.Cuts.{parenthesis_boundary, parenthesis_piece, run_boundary, run_piece, run_byte}
use Rattle.desk_tokens.proofs.cut.piece_end.Goals as goal

-- the first byte is a parenthesis
first : (c : goal.Then-is_parenthesis) → is_parenthesis (get_or c.args.text.now 0 0) ≡ true
first c =
    ap (λ l. is_parenthesis (get_or l 0 0)) (sym c.as_bytes-bytes.ensures.value)
    ∙ sym c.is_parenthesis.ensures ∙ c.if-is_parenthesis.true

pub returns-then-is_parenthesis-clause-cut : goal.returns-then-is_parenthesis-clause-cut
returns-then-is_parenthesis-clause-cut c = parenthesis_boundary c.args.text.now c.utf8.text
    c.requires.some (first c)

pub returns-then-is_parenthesis-clause-piece : goal.returns-then-is_parenthesis-clause-piece
returns-then-is_parenthesis-clause-piece c = parenthesis_piece c.args.text.now _ c.requires.some
    (first c)

pub returns-clause-cut : goal.returns-clause-cut
returns-clause-cut c =
    let is = c.as_bytes-bytes.ensures.value in
    let b = rw is at c.run.ensures in
    run_boundary c.args.text.now c.run.result b.within b.stops

pub returns-clause-piece : goal.returns-clause-piece
returns-clause-piece c =
    let is = c.as_bytes-bytes.ensures.value in
    let b = rw is at c.run.ensures in
    let no_parenthesis : is_parenthesis (get_or c.args.text.now 0 0) ≡ false =
    ap (λ l. is_parenthesis (get_or l 0 0)) (sym is) ∙ sym c.is_parenthesis.ensures
    ∙ c.if-is_parenthesis.false in
    run_piece c.args.text.now c.run.result c.requires.some b.within
    (run_byte (get_or c.args.text.now 0 0) c.requires.no_blank no_parenthesis) b.run b.stops
