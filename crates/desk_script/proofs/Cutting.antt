-- Lines that bytes begin with, and what more bytes add.
use Rattle.std.proofs.Common.{◌≡◌, ◌≢◌, ℕ, ◌+◌, Bool, true, false, List, [], ◌∷◌, ◌++◌, length}
use Rattle.std.proofs.Common.{refl, sym, ap, ◌∙◌, subst, arith, append_assoc}
use Rattle.std.specs.Prelude.{All, if◌then◌else◌}
use Rattle.std.proofs.lemmas.List.Elements.{All-head, All-tail}
use Rattle.desk_base.specs.Lines.{CutsInto, IsLine, LineText}
use Rattle.desk_base.specs.declared.lines.LineEnd.{LineEnd}
use Rattle.desk_base.specs.declared.lines.LineEnd.TheVariants.{Lf, CrLf, Nothing}
use Rattle.desk_json.specs.declared.request.Request.{Request}
use Rattle.desk_script.specs.Lines.{BeginsWith, is_blank_line, request_of, requests_of}

cut_more : (bytes text end rest more : List ℕ) → bytes ≡ text ++ (end ++ rest)
    → bytes ++ more ≡ text ++ (end ++ (rest ++ more))
cut_more bytes text end rest more cut =
    ap (λ (l : List ℕ). l ++ more) cut
    ∙ (append_assoc text (end ++ rest) more
    ∙ ap (λ (l : List ℕ). text ++ l) (append_assoc end rest more))

-- a line that an LF ended stays the first one when more bytes come
IsLine-more : (bytes text : List ℕ) (end : LineEnd) (rest more : List ℕ)
    → IsLine bytes text end rest → end ≢ Nothing → IsLine (bytes ++ more) text end (rest ++ more)
IsLine-more bytes text Lf rest more line fed = record {
  cut = cut_more bytes text (10 ∷ []) rest more line.cut;
  no_lf = line.no_lf;
  ends = line.ends;
}
IsLine-more bytes text CrLf rest more line fed = record {
  cut = cut_more bytes text (13 ∷ 10 ∷ []) rest more line.cut;
  no_lf = line.no_lf;
  ends = tt;
}
IsLine-more bytes text Nothing rest more line fed = absurd (fed refl)

pub BeginsWith-more : (n : ℕ) (bytes : List ℕ) (lines : List LineText) (rest more : List ℕ)
    → BeginsWith n bytes lines rest → All (λ l. l.end ≢ Nothing) lines
    → BeginsWith n (bytes ++ more) lines (rest ++ more)
BeginsWith-more n bytes [] rest more begins fed = ap (λ (l : List ℕ). l ++ more) begins
BeginsWith-more n bytes (l ∷ ls) rest more begins fed = (
  begins.0 ++ more,
  begins.1,
  IsLine-more bytes l.text l.end begins.0 more begins.2
      (All-head (λ (x : LineText). x.end ≢ Nothing) l ls fed),
  BeginsWith-more (n + 1) begins.0 ls rest more begins.3
      (All-tail (λ (x : LineText). x.end ≢ Nothing) l ls fed),
)

-- lines, and the lines of what follows them
pub BeginsWith-append : (n : ℕ) (bytes : List ℕ) (lines more : List LineText) (mid rest : List ℕ)
    → BeginsWith n bytes lines mid → BeginsWith (n + length lines) mid more rest
    → BeginsWith n bytes (lines ++ more) rest
BeginsWith-append n bytes [] more mid rest begins k =
    let at : n + 0 ≡ n = omega arith in
    subst (λ (bs : List ℕ). BeginsWith n bs more rest) (sym begins)
    (subst (λ (i : ℕ). BeginsWith i mid more rest) at k)
BeginsWith-append n bytes (l ∷ ls) more mid rest begins k =
    let at : n + length (l ∷ ls) ≡ n + 1 + length ls = omega arith in (
      begins.0,
      begins.1,
      begins.2,
      BeginsWith-append (n + 1) begins.0 ls more mid rest begins.3
          (subst (λ (i : ℕ). BeginsWith i mid more rest) at k),
    )

pub CutsInto-append : (n : ℕ) (bytes : List ℕ) (lines more : List LineText) (mid : List ℕ)
    → BeginsWith n bytes lines mid → CutsInto (n + length lines) mid more
    → CutsInto n bytes (lines ++ more)
CutsInto-append n bytes [] more mid begins k =
    let at : n + 0 ≡ n = omega arith in
    subst (λ (bs : List ℕ). CutsInto n bs more) (sym begins)
    (subst (λ (i : ℕ). CutsInto i mid more) at k)
CutsInto-append n bytes (l ∷ ls) more mid begins k =
    let at : n + length (l ∷ ls) ≡ n + 1 + length ls = omega arith in (
      begins.0,
      begins.1,
      begins.2,
      CutsInto-append (n + 1) begins.0 ls more mid begins.3
          (subst (λ (i : ℕ). CutsInto i mid more) at k),
    )

requests_and : (b : Bool) (r : Request) (rs ss : List Request)
    → (if b then rs ++ ss else r ∷ (rs ++ ss)) ≡ (if b then rs else r ∷ rs) ++ ss
requests_and true r rs ss = refl
requests_and false r rs ss = refl

pub requests_of-append : (lines more : List LineText)
    → requests_of (lines ++ more) ≡ requests_of lines ++ requests_of more
requests_of-append [] more = refl
requests_of-append (l ∷ ls) more =
    ap (λ (rs : List Request). if is_blank_line l.text then rs else request_of l.text ∷ rs)
    (requests_of-append ls more)
    ∙ requests_and (is_blank_line l.text) (request_of l.text) (requests_of ls) (requests_of more)
