use Rattle.std.proofs.Common.{◌≡◌, ◌∙◌, ◌+◌, ◌++◌, [], length, ap, sym, subst, refl}
use Rattle.std.proofs.Common.{rules}
use Rattle.std.proofs.lemmas.List.{nil_from_length}
use Rattle.desk_base.specs.declared.lines.LineEnd.TheVariants.{Nothing}
use Rattle.desk_base.specs.Lines.{end_bytes, Ends}
use Rattle.desk_fields.specs.Pieces.{text, AllBlank, bytes_of}
use Rattle.desk_fields.proofs.Founds.{ends_closed, last_closed, text_cut}
use Rattle.desk_fields.proofs.scan.text_piece.Goals as goal

pub returns-then-is_empty-clause-ok : goal.returns-then-is_empty-clause-ok
returns-then-is_empty-clause-ok c =
    let o = c.requires.opened in
    let front = c.args.front.now in
    let value = c.in-Some.value.now in
    let zero : length c.in-Some.more.now ≡ 0 = search rules in
    let none = nil_from_length c.in-Some.more.now zero in
    record {
      piece = text front o.0 value [];
      end = Nothing;
      begins = record {
        cut = subst (λ m. c.args.text.now ≡ bytes_of (text front o.0 value []) ++ m) (sym none)
            (text_cut c.args.text.now front o.0 c.args.inner.now value c.in-Some.more.now [] [] o.2
            c.in-Some.ensures.some.0 none);
        ends = subst (λ m. Ends (bytes_of (text front o.0 value [])) Nothing m) (sym none)
            (last_closed front o.0 value);
        piece = (c.requires.tagged, o.1, c.in-Some.ensures.some.1, refl);
      };
      next = ap (λ n. c.args.line + n + 1) c.line_feeds-feeds.ensures.value;
      field = (refl, c.trim.ensures, refl);
    }

pub returns-clause-ok : goal.returns-clause-ok
returns-clause-ok c =
    let o = c.requires.opened in
    let front = c.args.front.now in
    let value = c.in-Some.value.now in
    let line = c.first_line.ensures.line in
    let tail = c.first_line.result.0.now in
    let end = c.first_line.result.1 in
    let rest = c.first_line.result.2.now in
    let blank : AllBlank tail = ap length (sym c.skip_blanks.ensures) ∙ search rules in
    record {
      piece = text front o.0 value tail;
      end = end;
      begins = record {
        cut = text_cut c.args.text.now front o.0 c.args.inner.now value c.in-Some.more.now tail
            (end_bytes end ++ rest) o.2 c.in-Some.ensures.some.0 line.cut;
        ends = ends_closed front o.0 value tail end rest line.ends;
        piece = (c.requires.tagged, o.1, c.in-Some.ensures.some.1, blank);
      };
      next = ap (λ n. c.args.line + n + 1) c.line_feeds-feeds.ensures.value;
      field = (refl, c.trim.ensures, refl);
    }
