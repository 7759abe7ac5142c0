use Rattle.std.proofs.Common.{take, ◌≡◌, ◌∙◌, ◌++◌, ◌+◌, ap, sym, subst, length-take-le, take-append-drop}
use Rattle.desk_tokens.specs.Tokens.{IsPiece}
use Rattle.desk_tokens.proofs.cut.first_token.Goals as goal

pub returns-clause-some : goal.returns-clause-some
returns-clause-some c =
    let rest = c.args.rest.now in
    let n = c.blanks_end-skipped.result in
    let m = c.piece_end-size.result in
    let outer = c.split_at.ensures in
    let inner = c.split_at-2.ensures in
    let from = c.split_at.result.1.now in
    let whole : c.split_at-2.result.0.now ++ c.split_at-2.result.1.now ≡ from =
    (λ i. inner.front i ++ inner.back i) ∙ take-append-drop m from in
    record {
      blanks = take n rest;
      only_blanks = c.blanks_end-skipped.ensures.only;
      cut = sym (take-append-drop n rest) ∙ ap (λ l. take n rest ++ l) (sym outer.back ∙ sym whole);
      start = ap (λ k. c.args.place + k)
          (sym (length-take-le n rest c.blanks_end-skipped.ensures.cut.0));
      end = ap (λ k. c.args.place + n + k) (sym inner.front_len);
      piece = subst (λ x. IsPiece x c.split_at-2.result.1.now) (sym inner.front)
          (subst (λ x. IsPiece (take m from) x) (sym inner.back) c.piece_end-size.ensures.piece);
      kind = c.kind_by.ensures;
    }
