-- A text that isn't empty begins with a piece, or fails.
use Rattle.std.proofs.Common.{◌≡◌, ◌≢◌, ◌∙◌, ℕ, ◌+◌, ◌<◌, List, [], ◌∷◌, ◌++◌, length, sym, subst}
use Rattle.std.proofs.Common.{ap, refl, arith, append_assoc, false, inl, inr}
use Rattle.std.specs.Prelude.{codes, count_by, ◌==◌}
use Rattle.std.proofs.lemmas.Bool.{cases_Bool, cases_eq}
use Rattle.std.proofs.lemmas.List.Elements.{All-get_or}
use Rattle.desk_base.specs.declared.lines.LineEnd.{LineEnd}
use Rattle.desk_base.specs.declared.lines.LineEnd.TheVariants.{Nothing}
use Rattle.desk_base.specs.Lines.{IsLine, Ends, end_bytes}
use Rattle.desk_fields.specs.declared.fault.DocFault.{DocFault}
use Rattle.desk_fields.specs.declared.fault.DocFault.TheVariants.{NoColon, OpenText, AfterText}
use Rattle.desk_fields.specs.Text.{skip_blanks, trimmed}
use Rattle.desk_fields.specs.Pieces.{Piece, bare, one_line, text, bytes_of, opened, is_bare, IsTagged, IsFirstEnd}
use Rattle.desk_fields.specs.Cutting.{Begins, Fails}
use Rattle.desk_fields.proofs.Founds.{front_no_lf, behind_no_lf, gap_of, gap_blank, opening_cut}
use Rattle.desk_fields.proofs.Founds.{opening_whole, text_cut, ends_closed, last_closed}
use Rattle.desk_fields.proofs.Scans.{no_tag, empty_tag, tag_facts}
use Rattle.desk_fields.proofs.Once.{IsOpened}
use Rattle.desk_fields.proofs.FirstLine.{Cut, never, first, cut_at, HasLine, has_line, line_shorter}
use Rattle.desk_fields.proofs.Closing.{Front, begins, apart, front, Closing, open_text, closed, closing}

-- a text's first piece with what follows it, or how the text fails
pub data Step (line : ℕ) (t : List ℕ) : Type 0 where
  piece : (p : Piece) (end : LineEnd) (rest : List ℕ) → Begins t p end rest → length rest < length t
      → Step line t
  fault : (f : DocFault) → Fails line t f → Step line t

stepped : (line : ℕ) (t : List ℕ) (p : Piece) (end : LineEnd) (rest : List ℕ) → Begins t p end rest
    → Step line t
stepped line t p end rest b = piece p end rest b (line_shorter t (bytes_of p) end rest b.cut b.ends)

-- a <text> that is closed, and the line after it
tail_step : (line : ℕ) (t before gap inner value more : List ℕ) → IsOpened t before gap inner
    → inner ≡ value ++ (codes "</text>" ++ more) → IsFirstEnd value → HasLine more → Step line t
tail_step line t before gap inner value more o cut last h =
    elim (cases_eq (length (skip_blanks h.line)) 0) [
      | inl blank ↦ stepped line t (text before gap value h.line) h.end h.rest (record {
        cut = text_cut t before gap inner value more h.line (end_bytes h.end ++ h.rest) o.cut cut
            h.is.cut;
        ends = ends_closed before gap value h.line h.end h.rest h.is.ends;
        piece = (o.tagged, o.blank, last, blank);
      })
      | inr some ↦ fault (AfterText (line + count_by (λ b. b == 10) value)) (
        before,
        gap,
        value,
        more,
        h.line,
        h.end,
        h.rest,
        o.cut ∙ ap (opened before gap) cut,
        o.tagged,
        o.blank,
        last,
        h.is,
        some,
        refl,
      )
    ]

last_step : (line : ℕ) (t before gap inner value : List ℕ) → IsOpened t before gap inner
    → inner ≡ value ++ (codes "</text>" ++ []) → IsFirstEnd value → Step line t
last_step line t before gap inner value o cut last =
    stepped line t (text before gap value []) Nothing [] (record {
      cut = text_cut t before gap inner value [] [] [] o.cut cut refl;
      ends = last_closed before gap value;
      piece = (o.tagged, o.blank, last, refl);
    })

closed_step : (line : ℕ) (t before gap inner value more : List ℕ) → IsOpened t before gap inner
    → inner ≡ value ++ (codes "</text>" ++ more) → IsFirstEnd value → Step line t
closed_step line t before gap inner value [] o cut last = last_step line t before gap inner value o
    cut last
closed_step line t before gap inner value (b ∷ more) o cut last = tail_step line t before gap inner
    value (b ∷ more) o cut last (has_line (b ∷ more) (omega arith))

opened_step : (line : ℕ) (t before gap inner : List ℕ) → IsOpened t before gap inner
    → Closing (codes "</text>") inner → Step line t
opened_step line t before gap inner o (open_text none) = fault (OpenText line)
    (before, gap, inner, refl, o.cut, o.tagged, o.blank, none)
opened_step line t before gap inner o (closed value more cut last) = closed_step line t before gap
    inner value more o cut last

-- a line that has a tag, and a value that opens a <text> or not
value_step : (line : ℕ) (t body : List ℕ) (end : LineEnd) (rest before after : List ℕ)
    → IsLine t body end rest → body ≡ before ++ (58 ∷ after) → IsTagged before
    → Front (codes "<text>") (skip_blanks after) → Step line t
value_step line t body end rest before after l cut tagged (begins inner is) =
    let all = inner ++ (end_bytes end ++ rest) in
    let whole : t ≡ opened before (gap_of after) all =
    l.cut ∙ ap (λ x. x ++ (end_bytes end ++ rest))
    (opening_cut body before after inner cut is ∙ opening_whole before after inner)
    ∙ append_assoc (opened before (gap_of after) []) inner (end_bytes end ++ rest)
    ∙ sym (opening_whole before after all) in
    opened_step line t before (gap_of after) all
    (record { cut = whole; tagged = tagged; blank = gap_blank after })
    (closing (codes "</text>") (omega arith) all)
value_step line t body end rest before after l cut tagged (apart none) =
    stepped line t (one_line before after) end rest (record {
      cut = l.cut ∙ ap (λ x. x ++ (end_bytes end ++ rest)) cut;
      ends = subst (λ x. Ends x end rest) cut l.ends;
      piece = (tagged, behind_no_lf body before after l.no_lf cut, λ o. none o.0 o.1);
    })

-- a line that isn't bare
tag_step : (line : ℕ) (t body : List ℕ) (end : LineEnd) (rest : List ℕ) → IsLine t body end rest
    → is_bare body ≡ false → Cut 58 body → Step line t
tag_step line t body end rest l other (never none) =
    fault (NoColon line) (
      body,
      end,
      rest,
      refl,
      l,
      other,
      no_tag body (λ i lt. All-get_or (λ b. b ≢ 58) body i 0 lt none),
    )
tag_step line t body end rest l other (first before after none cut) =
    elim (cases_eq (length (trimmed before)) 0) [
      | inl empty ↦ fault (NoColon line)
          (body, end, rest, refl, l, other, empty_tag body before after cut none empty)
      | inr tag ↦
          let some : 0 < length (trimmed before) = omega arith in
          let tagged : IsTagged before =
          record {
            no_lf = front_no_lf body before after l.no_lf cut;
            no_colon = none;
            some = some;
            no_comment = tag_facts body before after other cut some;
          } in
          value_step line t body end rest before after l cut tagged
          (front (codes "<text>") (skip_blanks after))
    ]

line_step : (line : ℕ) (t : List ℕ) → HasLine t → Step line t
line_step line t h =
    elim (cases_Bool (is_bare h.line)) [
      | inl is ↦ stepped line t (bare h.line) h.end h.rest
          (record { cut = h.is.cut; ends = h.is.ends; piece = (h.is.no_lf, is) })
      | inr is ↦ tag_step line t h.line h.end h.rest h.is is (cut_at 58 h.line)
    ]

pub step : (line : ℕ) (t : List ℕ) → 0 < length t → Step line t
step line t some = line_step line t (has_line t some)
