use Rattle.std.proofs.Common.{◌∙◌, ◌++◌, [], ap, sym, subst, refl, arith}
use Rattle.desk_base.specs.Lines.{end_bytes, Ends}
use Rattle.desk_fields.specs.Pieces.{bare, one_line, opened, IsTagged}
use Rattle.desk_fields.proofs.Founds.{front_no_lf, behind_no_lf, gap_of, gap_blank, opening_cut}
use Rattle.desk_fields.proofs.Founds.{opening_last, opening_front, opening_whole}
use Rattle.desk_fields.proofs.scan.first_piece.Goals as goal

pub returns-then-is_bare-clause-ok : goal.returns-then-is_bare-clause-ok
returns-then-is_bare-clause-ok c =
    let line = c.first_line.ensures.line in
    record {
      piece = bare c.first_line.result.0.now;
      end = c.first_line.result.1;
      begins = record {
        cut = line.cut;
        ends = line.ends;
        piece = (line.no_lf, sym c.is_bare.ensures ∙ c.if-is_bare.true);
      };
      next = omega arith;
      field = tt;
    }

pub text_behind-inner-requires-clause-inner : goal.text_behind-inner-requires-clause-inner
text_behind-inner-requires-clause-inner c = (
  opening_front c.in-Some.front.now c.in-Some.after.now,
  62,
  omega arith,
  opening_last c.first_line.result.0.now c.in-Some.front.now c.in-Some.after.now
      c.in-Some-behind_opening.inner.now c.in-Some.ensures.cut
      c.in-Some-behind_opening.ensures.some,
)

pub text_piece-requires-clause-opened : goal.text_piece-requires-clause-opened
text_piece-requires-clause-opened c =
    let front = c.in-Some.front.now in
    let after = c.in-Some.after.now in
    let body = c.first_line.result.0.now in
    let cut = opening_cut body front after c.in-Some-behind_opening.inner.now c.in-Some.ensures.cut
    c.in-Some-behind_opening.ensures.some in (
      gap_of after,
      gap_blank after,
      c.text_behind-inner.ensures (opened front (gap_of after) [])
          (cut ∙ opening_whole front after c.in-Some-behind_opening.inner.now)
          ∙ sym (opening_whole front after c.text_behind-inner.result.now),
    )

pub text_piece-requires-clause-tagged : goal.text_piece-requires-clause-tagged
text_piece-requires-clause-tagged c =
    let t = c.in-Some.ensures.tagged in
    record {
      no_lf = front_no_lf c.first_line.result.0.now c.in-Some.front.now c.in-Some.after.now
          c.first_line.ensures.line.no_lf c.in-Some.ensures.cut;
      no_colon = t.0;
      some = t.1;
      no_comment = t.2;
    }

pub returns-clause-ok : goal.returns-clause-ok
returns-clause-ok c =
    let line = c.first_line.ensures.line in
    let t = c.in-Some.ensures.tagged in
    let body = c.first_line.result.0.now in
    let front = c.in-Some.front.now in
    let after = c.in-Some.after.now in
    let cut = c.in-Some.ensures.cut in
    let tagged : IsTagged front =
    record {
      no_lf = front_no_lf body front after line.no_lf cut;
      no_colon = t.0;
      some = t.1;
      no_comment = t.2;
    } in
    record {
      piece = one_line front after;
      end = c.first_line.result.1;
      begins = record {
        cut = line.cut ∙ ap (λ l. l ++ (end_bytes c.first_line.result.1
            ++ c.first_line.result.2.now)) cut;
        ends = subst (λ l. Ends l c.first_line.result.1 c.first_line.result.2.now) cut line.ends;
        piece = (
          tagged,
          behind_no_lf body front after line.no_lf cut,
          c.in_default-behind_opening.ensures.none,
        );
      };
      next = omega arith;
      field = (refl, c.trim.ensures, c.trim-2.ensures);
    }
