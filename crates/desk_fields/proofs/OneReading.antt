-- There is only one way to read a text.
use Rattle.std.proofs.Common.{◌≡◌, ◌≢◌, ◌∙◌, ℕ, ◌+◌, ◌<◌, List, [], ◌∷◌, ◌++◌, length, sym, subst}
use Rattle.std.proofs.Common.{ap, refl, arith, length-append}
use Rattle.std.specs.Prelude.{codes, Result, Ok, Err, count_by, ◌==◌}
use Rattle.std.proofs.lemmas.List.Elements.{All-cons}
use Rattle.desk_base.specs.declared.lines.LineEnd.{LineEnd}
use Rattle.desk_base.specs.Lines.{IsLine, end_bytes}
use Rattle.desk_fields.specs.declared.fault.DocFault.{DocFault}
use Rattle.desk_fields.specs.declared.fault.DocFault.TheVariants.{NoColon, OpenText, AfterText}
use Rattle.desk_fields.specs.Pieces.{Piece, bare, one_line, text, bytes_of, AllBlank, opened}
use Rattle.desk_fields.specs.Pieces.{IsFirstEnd, IsTagged, is_bare}
use Rattle.desk_fields.specs.Cutting.{Begins, Fails, Reads, done, more, fails, FieldText, with_piece, line_after}
use Rattle.desk_fields.proofs.Founds.{ends_append}
use Rattle.desk_base.proofs.LinesOnce.{line_once, line_some}
use Rattle.desk_base.proofs.Bools.{contrary}
use Rattle.desk_fields.proofs.Once.{close_once, IsOpened}
use Rattle.desk_fields.proofs.OnePiece.{bare_line, one_line_line, text_opened}
use Rattle.desk_fields.proofs.OnePiece.{opened_not_bare, opened_not_closed, opened_has_tag}
use Rattle.desk_fields.proofs.OnePiece.{opened_same, tail_line, begins_once}

-- a text that opens a <text> and begins with a piece begins with a text piece
not_opened : (t : List ℕ) (p : Piece) (e : LineEnd) (r f g i : List ℕ) → Begins t p e r
    → IsOpened t f g i → (v : List ℕ) × (m : List ℕ) × (x : List ℕ) × (p ≡ text f g v x)
    × (i ≡ v ++ (codes "</text>" ++ m)) × IsFirstEnd v × AllBlank x × (m ≡ x ++ (end_bytes e ++ r))
    × IsLine (62 ∷ m) (62 ∷ x) e r
not_opened t (bare l) e r f g i b o = absurd (opened_not_bare t f g i l e r o (bare_line t l e r b)
    b.piece.1)
not_opened t (one_line c a) e r f g i b o = absurd (opened_not_closed t f g i c a e r o
    (one_line_line t c a e r b) b.piece.0 b.piece.2)
not_opened t (text c h v x) e r f g i b o =
    let s = opened_same t c h _ f g i (text_opened t c h v x e r b) o in (
      v,
      x ++ (end_bytes e ++ r),
      x,
      λ k. text (s.0 k) (s.1 k) v x,
      sym s.2,
      b.piece.2,
      b.piece.3,
      refl,
      tail_line t c h v x e r b,
    )

no_close : (i v m : List ℕ) → ((xs ys : List ℕ) → i ≢ xs ++ (codes "</text>" ++ ys))
    → i ≡ v ++ (codes "</text>" ++ m) → ⊥
no_close i v m none e = none v m e

open_of : (t f g i : List ℕ) → t ≡ opened f g i → IsTagged f → AllBlank g → IsOpened t f g i
open_of t f g i a b c = record { cut = a; tagged = b; blank = c }

-- a line with more than blanks, after the > of </text>
behind_line : (m x : List ℕ) (e : LineEnd) (r : List ℕ) → IsLine m x e r → (AllBlank x → ⊥)
    → IsLine (62 ∷ m) (62 ∷ x) e r
behind_line m [] e r line some = absurd (some refl)
behind_line m (c ∷ x) e r line some = record {
  cut = ap (λ l. 62 ∷ l) line.cut;
  no_lf = All-cons (λ b. b ≢ 10) 62 (c ∷ x) (λ e. omega (arith, e)) line.no_lf;
  ends = ends_append (62 ∷ []) (c ∷ x) e r (omega arith) line.ends;
}

pub begins_fails : (line : ℕ) (t : List ℕ) (p : Piece) (e : LineEnd) (r : List ℕ) (f : DocFault)
    → Begins t p e r → Fails line t f → ⊥
begins_fails line t (bare l) e r (NoColon n) b h =
    let z = line_once t l e r h.0 h.1 h.2 (bare_line t l e r b) h.4 in
    contrary (is_bare l) b.piece.1 (ap is_bare z.0 ∙ h.5)
begins_fails line t (one_line c a) e r (NoColon n) b h =
    let z = line_once t (c ++ (58 ∷ a)) e r h.0 h.1 h.2 (one_line_line t c a e r b) h.4 in
    let zero = h.6 c a b.piece.0.no_colon (sym z.0) in
    let some = b.piece.0.some in
    omega arith
begins_fails line t (text c g v x) e r (NoColon n) b h = opened_has_tag t c g _ h.0 h.1 h.2
    (text_opened t c g v x e r b) h.4 h.6
begins_fails line t p e r (OpenText n) b h =
    let w = not_opened t p e r h.0 h.1 h.2 b (open_of t h.0 h.1 h.2 h.4 h.5 h.6) in
    no_close h.2 w.0 w.1 h.7 w.4
begins_fails line t p e r (AfterText n) b h =
    let w = not_opened t p e r h.0 h.1 (h.2 ++ (codes "</text>" ++ h.3)) b
    (open_of t h.0 h.1 _ h.7 h.8 h.9) in
    let c = close_once h.2 h.3 w.0 w.1 h.10 w.5 w.4 in
    let mine = subst (λ l. IsLine (62 ∷ l) (62 ∷ h.4) h.5 h.6) c.1
    (behind_line h.3 h.4 h.5 h.6 h.11 h.12) in
    let z = line_once (62 ∷ w.1) (62 ∷ h.4) h.5 h.6 (62 ∷ w.2) e r mine w.8 in
    let same : h.4 ≡ w.2 = let k = z.0 in cc in
    h.12 (subst AllBlank (sym same) w.6)
begins_fails line t p e r f b h = absurd h

-- a text fails in only one way
pub fails_once : (line : ℕ) (t : List ℕ) (f g : DocFault) → Fails line t f → Fails line t g → f ≡ g
fails_once line t (NoColon m) (NoColon n) a b = ap NoColon (a.3 ∙ sym b.3)
fails_once line t (NoColon m) (OpenText n) a b = absurd (opened_has_tag t b.0 b.1 b.2 a.0 a.1 a.2
    (open_of t b.0 b.1 b.2 b.4 b.5 b.6) a.4 a.6)
fails_once line t (NoColon m) (AfterText n) a b = absurd (opened_has_tag t b.0 b.1 _ a.0 a.1 a.2
    (open_of t b.0 b.1 _ b.7 b.8 b.9) a.4 a.6)
fails_once line t (OpenText n) (NoColon m) b a = absurd (opened_has_tag t b.0 b.1 b.2 a.0 a.1 a.2
    (open_of t b.0 b.1 b.2 b.4 b.5 b.6) a.4 a.6)
fails_once line t (AfterText n) (NoColon m) b a = absurd (opened_has_tag t b.0 b.1 _ a.0 a.1 a.2
    (open_of t b.0 b.1 _ b.7 b.8 b.9) a.4 a.6)
fails_once line t (OpenText m) (OpenText n) a b = ap OpenText (a.3 ∙ sym b.3)
fails_once line t (OpenText m) (AfterText n) a b =
    let s = opened_same t a.0 a.1 a.2 b.0 b.1 _ (open_of t a.0 a.1 a.2 a.4 a.5 a.6)
    (open_of t b.0 b.1 _ b.7 b.8 b.9) in
    absurd (no_close a.2 b.2 b.3 a.7 s.2)
fails_once line t (AfterText n) (OpenText m) b a =
    let s = opened_same t a.0 a.1 a.2 b.0 b.1 _ (open_of t a.0 a.1 a.2 a.4 a.5 a.6)
    (open_of t b.0 b.1 _ b.7 b.8 b.9) in
    absurd (no_close a.2 b.2 b.3 a.7 s.2)
fails_once line t (AfterText m) (AfterText n) a b =
    let s = opened_same t a.0 a.1 _ b.0 b.1 _ (open_of t a.0 a.1 _ a.7 a.8 a.9)
    (open_of t b.0 b.1 _ b.7 b.8 b.9) in
    let c = close_once a.2 a.3 b.2 b.3 a.10 b.10 s.2 in
    ap AfterText (a.13 ∙ ap (λ v. line + count_by (λ b. b == 10) v) c.0 ∙ sym b.13)
fails_once line t (NoColon m) g a b = absurd b
fails_once line t (OpenText m) g a b = absurd b
fails_once line t (AfterText m) g a b = absurd b
fails_once line t f g a b = absurd a

-- the ways in which a text may be read
pub data Ways (line : ℕ) (t : List ℕ) (a : Result (List FieldText) DocFault) : Type 0 where
  nothing : t ≡ [] → a ≡ Ok [] → Ways line t a
  piece : (p : Piece) (e : LineEnd) (r : List ℕ) (b : Result (List FieldText) DocFault)
      → Begins t p e r → Reads (line_after line p) r b → a ≡ with_piece line p b → Ways line t a
  fault : (f : DocFault) → Fails line t f → a ≡ Err f → Ways line t a

ways : (line : ℕ) (t : List ℕ) (a : Result (List FieldText) DocFault) → Reads line t a
    → Ways line t a
ways line t a (done n) = nothing refl refl
ways line t a (more n w p e r b begins rest) = piece p e r b begins rest refl
ways line t a (fails n w f h) = fault f h refl

opened_some : (t f g i : List ℕ) → t ≡ opened f g i → 0 < length t
opened_some t f g i cut = let a = ap length cut
    ∙ length-append f (58 ∷ (g ++ (codes "<text>" ++ i))) in omega arith

pub fails_some : (line : ℕ) (t : List ℕ) (f : DocFault) → Fails line t f → 0 < length t
fails_some line t (NoColon n) h = line_some t h.0 h.1 h.2 h.4.cut h.4.ends
fails_some line t (OpenText n) h = opened_some t h.0 h.1 h.2 h.4
fails_some line t (AfterText n) h = opened_some t h.0 h.1 _ h.7
fails_some line t f h = absurd h

pub not_nothing : (t : List ℕ) → t ≡ [] → 0 < length t → ⊥
not_nothing t e some = let zero = ap length e in omega arith

pub reads_once : (line : ℕ) (t : List ℕ) (a b : Result (List FieldText) DocFault) → Reads line t a
    → Reads line t b → a ≡ b
reads_once line t a b (done n) k =
    elim (ways line [] b k) [
      | nothing e is ↦ sym is
      | piece p d r c begins rest is ↦
          absurd (not_nothing [] refl (line_some [] (bytes_of p) d r begins.cut begins.ends))
      | fault f h is ↦ absurd (not_nothing [] refl (fails_some line [] f h))
    ]
reads_once line t a b (more n w p e r c begins rest) k =
    elim (ways line t b k) [
      | nothing d is ↦ absurd (not_nothing t d
          (line_some t (bytes_of p) e r begins.cut begins.ends))
      | piece q d s g others after is ↦
          let z = begins_once t p e r q d s begins others in
          let later : Reads (line_after line p) r g =
          subst (λ l. Reads (line_after line p) l g) (sym z.2)
          (subst (λ x. Reads (line_after line x) s g) (sym z.0) after) in
          (λ i. with_piece line (z.0 i) (reads_once (line_after line p) r c g rest later i))
          ∙ sym is
      | fault f h is ↦ absurd (begins_fails line t p e r f begins h)
    ]
reads_once line t a b (fails n w f h) k =
    elim (ways line t b k) [
      | nothing d is ↦ absurd (not_nothing t d (fails_some line t f h))
      | piece q d s g others after is ↦ absurd (begins_fails line t q d s f others h)
      | fault g l is ↦ ap Err (fails_once line t f g h l) ∙ sym is
    ]
