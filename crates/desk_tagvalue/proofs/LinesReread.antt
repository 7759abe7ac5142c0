-- Lines that are each read back alone are read back together.
use Rattle.std.proofs.Common.{◌≡◌, inr, ℕ, ◌+◌, ◌-◌, ◌≤◌, List, [], ◌∷◌, ◌++◌, sym, subst, refl}
use Rattle.std.proofs.Common.{arith, Ok, append_assoc}
use Rattle.std.specs.Prelude.{All, codes}
use Rattle.std.proofs.lemmas.List.Elements.{All-get_or, All-tail}
use Rattle.desk_base.specs.declared.lines.LineEnd.TheVariants.{Lf}
use Rattle.desk_fields.specs.declared.tag.Tag.{Tag}
use Rattle.desk_fields.specs.Tags.{tag_name}
use Rattle.desk_fields.specs.Pieces.{bare}
use Rattle.desk_fields.specs.Cutting.{Reads, done, more, FieldText, behind_mark}
use Rattle.desk_tagvalue.specs.declared.drafts.Draft.{Draft}
use Rattle.desk_tagvalue.specs.Drafts.{LineText, blank, one_line, in_text, spelled, text_of_lines, draft_lines}
use Rattle.desk_tagvalue.specs.Written.{Stands, Adds, field_at, feeds, onto_line, fields_of_lines}
use Rattle.desk_tagvalue.proofs.Reread.{EndsLf, reads_append, reads_shift}

-- one field, on another line
field_again : (tag value s : List ℕ) (n : ℕ) → 1 ≤ n → Reads 1 s (Ok (field_at 1 tag value ∷ []))
    → Reads n s (Ok (field_at n tag value ∷ []))
field_again tag value s n some h =
    let at : 1 + (n - 1) ≡ n = omega arith in
    subst (λ k. Reads k s (Ok (field_at k tag value ∷ []))) at
    (reads_shift 1 (n - 1) s (Ok (field_at 1 tag value ∷ [])) h (field_at 1 tag value ∷ []) refl)

one_line_lf : (tag : Tag) (value : List ℕ) → EndsLf (spelled (one_line tag value))
one_line_lf tag value = inr (tag_name tag ++ (codes ": " ++ value), simp append_assoc refl)

in_text_lf : (tag : Tag) (value : List ℕ) → EndsLf (spelled (in_text tag value))
in_text_lf tag value = inr (
  tag_name tag ++ (codes ": <text>" ++ (value ++ codes "</text>")),
  simp append_assoc refl,
)

line_again : (l : LineText) → Stands l → (n : ℕ) → 1 ≤ n → (b : List ℕ) (fs : List FieldText)
    → Reads (n + feeds (spelled l)) b (Ok fs) → Reads n (spelled l ++ b) (Ok (onto_line n l fs))
line_again blank h n some b fs rest =
    let one : feeds (10 ∷ []) ≡ 1 = refl in
    let at : n + feeds (10 ∷ []) ≡ n + 0 + 1 = omega arith in
    more n (10 ∷ b) (bare []) Lf b (Ok fs)
    (record {
      cut = refl;
      ends = (λ e. omega (arith, e));
      piece = ((λ k d lt. absurd (omega arith)), refl);
    }) (subst (λ k. Reads k b (Ok fs)) at rest)
line_again (one_line tag value) h n some b fs rest =
    let alone = field_again (tag_name tag) value (spelled (one_line tag value)) n some h in
    reads_append n (spelled (one_line tag value)) (Ok (field_at n (tag_name tag) value ∷ [])) alone
    (field_at n (tag_name tag) value ∷ []) refl (one_line_lf tag value) b (Ok fs) rest
line_again (in_text tag value) h n some b fs rest =
    let alone = field_again (tag_name tag) value (spelled (in_text tag value)) n some h in
    reads_append n (spelled (in_text tag value)) (Ok (field_at n (tag_name tag) value ∷ [])) alone
    (field_at n (tag_name tag) value ∷ []) refl (in_text_lf tag value) b (Ok fs) rest

pub lines_again : (ls : List LineText) → All Stands ls → (n : ℕ) → 1 ≤ n
    → Reads n (text_of_lines ls) (Ok (fields_of_lines n ls))
lines_again [] h n some = done n
lines_again (l ∷ ls) h n some =
    line_again l (All-get_or Stands (l ∷ ls) 0 l (omega arith) h) n some (text_of_lines ls)
    (fields_of_lines (n + feeds (spelled l)) ls)
    (lines_again ls (All-tail Stands l ls h) (n + feeds (spelled l)) (omega arith))

-- a draft's text begins with no byte order mark
pub draft_again : (d : Draft) (t : List ℕ) → Adds [] (draft_lines d) t
    → Reads 1 (behind_mark t) (Ok (fields_of_lines 1 (draft_lines d)))
draft_again d t h =
    subst (λ s. Reads 1 (behind_mark s) (Ok (fields_of_lines 1 (draft_lines d)))) (sym h.text)
    (lines_again (draft_lines d) h.stand 1 (omega arith))
