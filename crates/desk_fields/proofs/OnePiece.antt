-- A text begins with one piece, or fails in one way.
use Rattle.std.proofs.Common.{◌≡◌, ◌≢◌, ◌∙◌, ℕ, ◌-◌, ◌<◌, List, [], ◌∷◌, ◌++◌, length, get_or, sym}
use Rattle.std.proofs.Common.{subst, ap, refl, arith, true, append_assoc}
use Rattle.std.proofs.Common.{length-append}
use Rattle.std.specs.Prelude.{All, codes}
use Rattle.std.proofs.lemmas.List.Elements.{All-append, All-cons}
use Rattle.std.proofs.Math.Seq.{get_or-append_right}
use Rattle.desk_base.specs.declared.lines.LineEnd.{LineEnd}
use Rattle.desk_base.specs.declared.lines.LineEnd.TheVariants.{Lf, CrLf, Nothing}
use Rattle.desk_base.specs.Lines.{IsLine, Ends, end_bytes}
use Rattle.desk_fields.specs.Text.{trimmed}
use Rattle.desk_fields.specs.Pieces.{Piece, bare, one_line, text, bytes_of, IsTagged, Opens, is_bare}
use Rattle.desk_fields.specs.Cutting.{Begins}
use Rattle.desk_base.proofs.LinesOnce.{cut_once, line_once}
use Rattle.desk_base.proofs.Bools.{contrary}
use Rattle.desk_fields.proofs.Once.{opened_once, opened_line, close_once, tagged_not_bare, IsOpened, gap_no_lf}

-- a piece on one line is the first line
pub bare_line : (t l : List ℕ) (e : LineEnd) (r : List ℕ) → Begins t (bare l) e r → IsLine t l e r
bare_line t l e r b = record { cut = b.cut; no_lf = b.piece.0; ends = b.ends }

pub one_line_line : (t f a : List ℕ) (e : LineEnd) (r : List ℕ) → Begins t (one_line f a) e r
    → IsLine t (f ++ (58 ∷ a)) e r
one_line_line t f a e r b = record {
  cut = b.cut;
  no_lf = All-append (λ b. b ≢ 10) f (58 ∷ a) b.piece.0.no_lf
      (All-cons (λ b. b ≢ 10) 58 a (λ e. omega (arith, e)) b.piece.1);
  ends = b.ends;
}

pub text_opened : (t f g v x : List ℕ) (e : LineEnd) (r : List ℕ) → Begins t (text f g v x) e r
    → IsOpened t f g (v ++ (codes "</text>" ++ (x ++ (end_bytes e ++ r))))
text_opened t f g v x e r b = record {
  cut = b.cut ∙ simp append_assoc refl;
  tagged = b.piece.0;
  blank = b.piece.1;
}

pub opened_not_bare : (t f g i l : List ℕ) (e : LineEnd) (r : List ℕ) → IsOpened t f g i
    → IsLine t l e r → is_bare l ≡ true → ⊥
opened_not_bare t f g i l e r o line h =
    let w = opened_line t f g i l e r o line in
    contrary (is_bare l) h (ap is_bare w.1 ∙ tagged_not_bare f w.0 o.tagged)

pub opened_not_closed : (t f g i b a : List ℕ) (e : LineEnd) (r : List ℕ) → IsOpened t f g i
    → IsLine t (b ++ (58 ∷ a)) e r → IsTagged b → (Opens a → ⊥) → ⊥
opened_not_closed t f g i b a e r o line tagged none =
    let w = opened_line t f g i (b ++ (58 ∷ a)) e r o line in
    let same = (cut_once 58 b a f w.0 tagged.no_colon o.tagged.no_colon w.1).1 in
    none (subst Opens (sym same) w.2)

abbrev pub HasNoTag : List ℕ → Type 0
HasNoTag body = (before after : List ℕ) → All (λ b. b ≢ 58) before → body ≡ before ++ (58 ∷ after)
    → length (trimmed before) ≡ 0

pub opened_has_tag : (t f g i l : List ℕ) (e : LineEnd) (r : List ℕ) → IsOpened t f g i
    → IsLine t l e r → HasNoTag l → ⊥
opened_has_tag t f g i l e r o line none =
    let w = opened_line t f g i l e r o line in
    let zero = none f w.0 o.tagged.no_colon w.1 in
    let some = o.tagged.some in
    omega arith

pub opened_same : (t f g i b h j : List ℕ) → IsOpened t f g i → IsOpened t b h j
    → (f ≡ b) × (g ≡ h) × (i ≡ j)
opened_same t f g i b h j o p = opened_once f g i b h j o.tagged o.blank p.tagged p.blank
    (sym o.cut ∙ p.cut)

-- what follows a </text> is a line after its last byte
ends_back : (f l : List ℕ) (e : LineEnd) (r : List ℕ) → 0 < length l → Ends (f ++ l) e r
    → Ends l e r
ends_back f l Lf r some h =
    let len = length-append f l in
    let at : length (f ++ l) - 1 - length f ≡ length l - 1 = omega arith in
    λ is. h (get_or-append_right f l (length (f ++ l) - 1) 0 (omega arith)
    ∙ ap (λ i. get_or l i 0) at ∙ is)
ends_back f l CrLf r some h = tt
ends_back f l Nothing r some h = (h.0, some)

abbrev close_front : List ℕ → List ℕ → List ℕ → List ℕ
close_front f g v = f ++ (58 ∷ (g
    ++ (codes "<text>" ++ (v ++ (60 ∷ 47 ∷ 116 ∷ 101 ∷ 120 ∷ 116 ∷ [])))))

pub tail_line : (t f g v x : List ℕ) (e : LineEnd) (r : List ℕ) → Begins t (text f g v x) e r
    → IsLine (62 ∷ (x ++ (end_bytes e ++ r))) (62 ∷ x) e r
tail_line t f g v x e r b =
    let regroup : bytes_of (text f g v x) ≡ close_front f g v ++ (62 ∷ x) =
    simp append_assoc refl in
    record {
      cut = refl;
      no_lf = All-cons (λ b. b ≢ 10) 62 x (λ e. omega (arith, e)) (gap_no_lf x b.piece.3);
      ends = ends_back (close_front f g v) (62 ∷ x) e r (omega arith)
          (subst (λ l. Ends l e r) regroup b.ends);
    }

text_same : (t f g v x : List ℕ) (e : LineEnd) (r : List ℕ) (b h w y : List ℕ) (d : LineEnd)
    (s : List ℕ) → Begins t (text f g v x) e r → Begins t (text b h w y) d s
    → (text f g v x ≡ text b h w y) × (e ≡ d) × (r ≡ s)
text_same t f g v x e r b h w y d s m n =
    let o = opened_same t f g _ b h _ (text_opened t f g v x e r m) (text_opened t b h w y d s n) in
    let c = close_once v (x ++ (end_bytes e ++ r)) w (y ++ (end_bytes d ++ s)) m.piece.2 n.piece.2
    o.2 in
    let line = subst (λ l. IsLine (62 ∷ l) (62 ∷ x) e r) c.1 (tail_line t f g v x e r m) in
    let z = line_once (62 ∷ (y ++ (end_bytes d ++ s))) (62 ∷ x) e r (62 ∷ y) d s line
    (tail_line t b h w y d s n) in
    let tails : x ≡ y = let h = z.0 in cc in
    ((λ i. text (o.0 i) (o.1 i) (c.0 i) (tails i)), z.1, z.2)

pub begins_once : (t : List ℕ) (p : Piece) (e : LineEnd) (r : List ℕ) (q : Piece) (d : LineEnd)
    (s : List ℕ) → Begins t p e r → Begins t q d s → (p ≡ q) × (e ≡ d) × (r ≡ s)
begins_once t (bare l) e r (bare m) d s a b =
    let z = line_once t l e r m d s (bare_line t l e r a) (bare_line t m d s b) in
    (ap bare z.0, z.1, z.2)
begins_once t (bare l) e r (one_line f x) d s a b =
    let z = line_once t l e r (f ++ (58 ∷ x)) d s (bare_line t l e r a)
    (one_line_line t f x d s b) in
    absurd (contrary (is_bare l) a.piece.1 (ap is_bare z.0 ∙ tagged_not_bare f x b.piece.0))
begins_once t (bare l) e r (text f g v x) d s a b = absurd (opened_not_bare t f g _ l e r
    (text_opened t f g v x d s b) (bare_line t l e r a) a.piece.1)
begins_once t (one_line f x) e r (bare l) d s b a =
    let z = line_once t l d s (f ++ (58 ∷ x)) e r (bare_line t l d s a)
    (one_line_line t f x e r b) in
    absurd (contrary (is_bare l) a.piece.1 (ap is_bare z.0 ∙ tagged_not_bare f x b.piece.0))
begins_once t (one_line f x) e r (one_line g y) d s a b =
    let z = line_once t (f ++ (58 ∷ x)) e r (g ++ (58 ∷ y)) d s (one_line_line t f x e r a)
    (one_line_line t g y d s b) in
    let c = cut_once 58 f x g y a.piece.0.no_colon b.piece.0.no_colon z.0 in
    ((λ i. one_line (c.0 i) (c.1 i)), z.1, z.2)
begins_once t (one_line f x) e r (text b g v y) d s m n = absurd (opened_not_closed t b g _ f x e r
    (text_opened t b g v y d s n) (one_line_line t f x e r m) m.piece.0 m.piece.2)
begins_once t (text f g v x) e r (bare l) d s b a = absurd (opened_not_bare t f g _ l d s
    (text_opened t f g v x e r b) (bare_line t l d s a) a.piece.1)
begins_once t (text b g v y) e r (one_line f x) d s n m = absurd (opened_not_closed t b g _ f x d s
    (text_opened t b g v y e r n) (one_line_line t f x d s m) m.piece.0 m.piece.2)
begins_once t (text f g v x) e r (text b h w y) d s m n = text_same t f g v x e r b h w y d s m n
