-- A text begins with at most one piece.
use Rattle.std.proofs.Common.{◌≡◌, ◌≢◌, ◌∙◌, inl, inr, ℕ, ◌+◌, ◌-◌, ◌<◌, ◌≤◌, List, [], ◌∷◌, ◌++◌}
use Rattle.std.proofs.Common.{length, get_or, take, drop, sym, ap, refl, arith, Bool, true, false}
use Rattle.std.proofs.Common.{cond, append_assoc, length-append, append-nil, length-take-le}
use Rattle.std.proofs.Common.{take-append-drop}
use Rattle.desk_fields.proofs.Founds.{blank_cons}
use Rattle.std.specs.Prelude.{codes, ◌==◌, ◌||◌}
use Rattle.std.proofs.lemmas.Grind.{common_steps}
use Rattle.std.proofs.Math.Seq.{take-append_seam}
use Rattle.std.specs.List.{prefix_len}
use Rattle.std.proofs.lemmas.List.{append_cancel_left, append_cancel_right}
use Rattle.std.proofs.lemmas.List.Elements.{All-tail, All-append, All-cons}
use Rattle.std.proofs.lemmas.Bool.Decides.{nat_tests}
use Rattle.desk_base.specs.declared.lines.LineEnd.{LineEnd}
use Rattle.desk_base.specs.declared.lines.LineEnd.TheVariants.{Lf, CrLf, Nothing}
use Rattle.desk_base.specs.Lines.{IsLine}
use Rattle.desk_fields.specs.Text.{skip_blanks, trimmed}
use Rattle.desk_fields.specs.Pieces.{NoLf, AllBlank, opened, IsFirstEnd, IsTagged, Opens, is_bare}
use Rattle.desk_base.proofs.LinesOnce.{cut_once}
use Rattle.desk_fields.proofs.Scans.{tag_first, skip-append}
use Rattle.desk_base.proofs.Numbers.{three, head_not}
use Rattle.desk_base.specs.Bytes.{is_blank}

-- a front without LF that doesn't end with CR is within the first line
pub within_lf : (h inner l r : List ℕ) → NoLf h → h ++ (62 ∷ inner) ≡ l ++ (10 ∷ r)
    → (x : List ℕ) × (l ≡ h ++ (62 ∷ x))
within_lf [] inner [] r no_lf e = absurd cc
within_lf [] inner (d ∷ l) r no_lf e = let head : 62 ≡ d = cc in (l, λ i. sym head i ∷ l)
within_lf (c ∷ h) inner [] r no_lf e = absurd (head_not 10 c h no_lf cc)
within_lf (c ∷ h) inner (d ∷ l) r no_lf e =
    let tail : h ++ (62 ∷ inner) ≡ l ++ (10 ∷ r) = cc in
    let head : d ≡ c = cc in
    let rest = within_lf h inner l r (All-tail (λ x. x ≢ 10) c h no_lf) tail in
    (rest.0, λ i. head i ∷ rest.1 i)

after_cr : (h inner r : List ℕ) → NoLf h → h ++ (62 ∷ inner) ≡ 10 ∷ r → ⊥
after_cr [] inner r no_lf e = cc
after_cr (c ∷ h) inner r no_lf e = head_not 10 c h no_lf cc

pub within_crlf : (h inner l r : List ℕ) → NoLf h → h ++ (62 ∷ inner) ≡ l ++ (13 ∷ 10 ∷ r)
    → (x : List ℕ) × (l ≡ h ++ (62 ∷ x))
within_crlf [] inner [] r no_lf e = absurd cc
within_crlf [] inner (d ∷ l) r no_lf e = let head : 62 ≡ d = cc in (l, λ i. sym head i ∷ l)
within_crlf (c ∷ h) inner [] r no_lf e = let tail : h ++ (62 ∷ inner) ≡ 10 ∷ r = cc in
    absurd (after_cr h inner r (All-tail (λ x. x ≢ 10) c h no_lf) tail)
within_crlf (c ∷ h) inner (d ∷ l) r no_lf e =
    let tail : h ++ (62 ∷ inner) ≡ l ++ (13 ∷ 10 ∷ r) = cc in
    let head : d ≡ c = cc in
    let rest = within_crlf h inner l r (All-tail (λ x. x ≢ 10) c h no_lf) tail in
    (rest.0, λ i. head i ∷ rest.1 i)

pub within_line : (t h inner l : List ℕ) (e : LineEnd) (r : List ℕ) → NoLf h → t ≡ h ++ (62 ∷ inner)
    → IsLine t l e r → (x : List ℕ) × (l ≡ h ++ (62 ∷ x))
within_line t h inner l Lf r no_lf cut line = within_lf h inner l r no_lf (sym cut ∙ line.cut)
within_line t h inner l CrLf r no_lf cut line = within_crlf h inner l r no_lf (sym cut ∙ line.cut)
within_line t h inner l Nothing r no_lf cut line =
    (inner, sym (line.cut ∙ ap (λ x. l ++ x) line.ends.0 ∙ append-nil l) ∙ cut)

-- blanks before a byte that is no blank
skip_gap : (gap : List ℕ) (b : ℕ) (x : List ℕ) → AllBlank gap → is_blank b ≡ false
    → skip_blanks (gap ++ (b ∷ x)) ≡ b ∷ x
skip_gap [] b x h k = ap (λ v. drop (cond v (1 + prefix_len is_blank x) 0) (b ∷ x)) k
skip_gap (c ∷ gap) b x h k =
    let cases : (v : Bool) → is_blank c ≡ v → skip_blanks (c ∷ (gap ++ (b ∷ x))) ≡ b ∷ x =
    λ v. elim v as (λ v. is_blank c ≡ v → skip_blanks (c ∷ (gap ++ (b ∷ x))) ≡ b ∷ x) [
      | true ↦ λ is. blank_cons c (gap ++ (b ∷ x)) is
          ∙ skip_gap gap b x (ap length (sym (blank_cons c gap is)) ∙ h) k
      | false ↦ λ is. absurd (let one =
          ap (λ w. length (drop (cond w (1 + prefix_len is_blank gap) 0) (c ∷ gap))) is in
          omega (arith, h, one))
    ] in
    cases (is_blank c) refl

-- what follows <text> is determined by the text
pub opened_once : (before gap inner front space rest : List ℕ) → IsTagged before → AllBlank gap
    → IsTagged front → AllBlank space → opened before gap inner ≡ opened front space rest
    → (before ≡ front) × (gap ≡ space) × (inner ≡ rest)
opened_once before gap inner front space rest t g u s e =
    let parts = cut_once 58 before (gap ++ (codes "<text>" ++ inner)) front
    (space ++ (codes "<text>" ++ rest)) t.no_colon u.no_colon e in
    let core : codes "<text>" ++ inner ≡ codes "<text>" ++ rest =
    sym (skip_gap gap 60 (116 ∷ 101 ∷ 120 ∷ 116 ∷ 62 ∷ inner) g refl) ∙ ap skip_blanks parts.1
    ∙ skip_gap space 60 (116 ∷ 101 ∷ 120 ∷ 116 ∷ 62 ∷ rest) s refl in
    let same : inner ≡ rest = append_cancel_left (codes "<text>") inner rest core in (
      parts.0,
      append_cancel_right gap space (codes "<text>" ++ inner)
          (parts.1 ∙ ap (λ l. space ++ (codes "<text>" ++ l)) (sym same)),
      same,
    )

not_bare : (l : List ℕ) → 0 < length l → get_or l 0 0 ≢ 35
    → (length l == 0 || get_or l 0 0 == 35) ≡ false
not_bare l some apart = grind (arith, nat_tests)

-- a line that has a tag is not bare
pub tagged_not_bare : (before after : List ℕ) → IsTagged before
    → is_bare (before ++ (58 ∷ after)) ≡ false
tagged_not_bare before after t =
    let core = skip_blanks before in
    let le : length (trimmed before) ≤ length core = grind (arith, common_steps) in
    let some : 0 < length core = let s = t.some in omega arith in
    let whole = skip_blanks (before ++ (58 ∷ after)) in
    let len : length whole ≡ length core + length (58 ∷ after) =
    ap length (skip-append before (58 ∷ after) some) ∙ length-append core (58 ∷ after) in
    not_bare whole (omega arith) (λ e. t.no_comment (tag_first before (58 ∷ after) t.some ∙ e))

blank_no_lf : (b : ℕ) → is_blank b ≡ true → b ≢ 10
blank_no_lf b h e = grind (arith, nat_tests)

small_no_lf : NoLf (60 ∷ 116 ∷ 101 ∷ 120 ∷ 116 ∷ [])
small_no_lf = All-cons (λ b. b ≢ 10) 60 (116 ∷ 101 ∷ 120 ∷ 116 ∷ []) (λ e. omega (arith, e))
    (All-cons (λ b. b ≢ 10) 116 (101 ∷ 120 ∷ 116 ∷ []) (λ e. omega (arith, e))
    (All-cons (λ b. b ≢ 10) 101 (120 ∷ 116 ∷ []) (λ e. omega (arith, e))
    (All-cons (λ b. b ≢ 10) 120 (116 ∷ []) (λ e. omega (arith, e))
    (All-cons (λ b. b ≢ 10) 116 ([]) (λ e. omega (arith, e)) (λ k d lt. absurd (omega arith))))))

pub gap_no_lf : (gap : List ℕ) → AllBlank gap → NoLf gap
gap_no_lf [] h = λ k d lt. absurd (omega arith)
gap_no_lf (c ∷ gap) h =
    let cases : (v : Bool) → is_blank c ≡ v → NoLf (c ∷ gap) =
    λ v. elim v as (λ v. is_blank c ≡ v → NoLf (c ∷ gap)) [
      | true ↦ λ is. All-cons (λ b. b ≢ 10) c gap (blank_no_lf c is)
          (gap_no_lf gap (ap length (sym (blank_cons c gap is)) ∙ h))
      | false ↦ λ is. absurd (let one =
          ap (λ w. length (drop (cond w (1 + prefix_len is_blank gap) 0) (c ∷ gap))) is in
          omega (arith, h, one))
    ] in
    cases (is_blank c) refl

pub record IsOpened (t before gap inner : List ℕ) : Type 0 where
  pub cut : t ≡ opened before gap inner
  pub tagged : IsTagged before
  pub blank : AllBlank gap

-- the first line of a text that opens a <text>
pub opened_line : (t before gap inner l : List ℕ) (e : LineEnd) (r : List ℕ)
    → IsOpened t before gap inner → IsLine t l e r
    → (after : List ℕ) × (l ≡ before ++ (58 ∷ after)) × Opens after
opened_line t before gap inner l e r o line =
    let small = 60 ∷ 116 ∷ 101 ∷ 120 ∷ 116 ∷ [] in
    let h = before ++ (58 ∷ (gap ++ small)) in
    let cut : t ≡ h ++ (62 ∷ inner) = o.cut ∙ simp append_assoc refl in
    let no_lf : NoLf h = All-append (λ b. b ≢ 10) before (58 ∷ (gap ++ small)) o.tagged.no_lf
    (All-cons (λ b. b ≢ 10) 58 (gap ++ small) (λ e. omega (arith, e))
    (All-append (λ b. b ≢ 10) gap small (gap_no_lf gap o.blank) small_no_lf)) in
    let w = within_line t h inner l e r no_lf cut line in (
      gap ++ (codes "<text>" ++ w.0),
      w.1 ∙ simp append_assoc refl,
      (w.0, skip_gap gap 60 (116 ∷ 101 ∷ 120 ∷ 116 ∷ 62 ∷ w.0) o.blank refl),
    )

-- what ends at the first </text> is determined
shorter : (value more v m : List ℕ)
    → value ++ (codes "</text>" ++ more) ≡ v ++ (codes "</text>" ++ m) → IsFirstEnd v
    → length value < length v → ⊥
shorter value more v m e first lt =
    let a = length-append value (codes "</text>" ++ more) in
    let b = length-append v (codes "</text>" ++ m) in
    let c = ap length e in
    let k = length v - length value in
    let fits : k ≤ length more = omega arith in
    let ys = take k more in
    let l1 = length-append (value ++ codes "</text>") ys in
    let l2 = length-append value (codes "</text>") in
    let l3 = length-append v (codes "</text>") in
    let l4 : length ys ≡ k = length-take-le k more fits in
    let whole : (value ++ (codes "</text>" ++ ys)) ++ drop k more ≡ (v ++ codes "</text>") ++ m =
    simp append_assoc (ap (λ l. value ++ (codes "</text>" ++ l)) (take-append-drop k more) ∙ e) in
    let l5 = length-append value (codes "</text>" ++ ys) in
    let l6 : length (v ++ codes "</text>") ≡ length (value ++ (codes "</text>" ++ ys)) =
    omega arith in
    let front : v ++ codes "</text>" ≡ value ++ (codes "</text>" ++ ys) =
    sym (take-append_seam (v ++ codes "</text>") m)
    ∙ ap (take (length (v ++ codes "</text>"))) (sym whole)
    ∙ ap (λ n. take n ((value ++ (codes "</text>" ++ ys)) ++ drop k more)) l6
    ∙ take-append_seam (value ++ (codes "</text>" ++ ys)) (drop k more) in
    let none = first value ys front in
    omega arith

pub close_once : (value more v m : List ℕ) → IsFirstEnd value → IsFirstEnd v
    → value ++ (codes "</text>" ++ more) ≡ v ++ (codes "</text>" ++ m) → (value ≡ v) × (more ≡ m)
close_once value more v m f g e =
    elim (three (length value) (length v)) [
      | inl lt ↦ absurd (shorter value more v m e g lt)
      | inr (inl lt) ↦ absurd (shorter v m value more (sym e) f lt)
      | inr (inr same) ↦
          let front : value ≡ v = sym (take-append_seam value (codes "</text>" ++ more))
          ∙ ap (take (length value)) e ∙ ap (λ n. take n (v ++ (codes "</text>" ++ m))) same
          ∙ take-append_seam v (codes "</text>" ++ m) in (
            front,
            append_cancel_left (codes "</text>") more m
                (append_cancel_left v (codes "</text>" ++ more) (codes "</text>" ++ m)
                (ap (λ l. l ++ (codes "</text>" ++ more)) (sym front) ∙ e)),
          )
    ]
