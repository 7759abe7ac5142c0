-- Bytes have one first line, and are cut into lines in one way.
use Rattle.std.proofs.Common.{◌≡◌, ◌≢◌, ◌∙◌, ℕ, ◌+◌, ◌-◌, ◌<◌, List, [], ◌∷◌, ◌++◌, length, get_or}
use Rattle.std.proofs.Common.{sym, subst, ap, refl, arith, append_assoc, length-append, append-nil}
use Rattle.std.specs.Prelude.{All}
use Rattle.std.proofs.Math.Seq.{get_or-append_seam}
use Rattle.std.proofs.lemmas.List.{append_cancel_right}
use Rattle.std.proofs.lemmas.List.Elements.{All-get_or, All-tail, All-append, All-cons}
use Rattle.desk_base.specs.declared.lines.LineEnd.{LineEnd}
use Rattle.desk_base.specs.declared.lines.LineEnd.TheVariants.{Lf, CrLf, Nothing}
use Rattle.desk_base.specs.Lines.{IsLine, Ends, end_bytes, LineText, CutsInto}
use Rattle.desk_base.proofs.Numbers.{head_not}

-- there is only one way to cut a list at the first place of a byte
pub cut_once : (c : ℕ) (a b x y : List ℕ) → All (λ d. d ≢ c) a → All (λ d. d ≢ c) x
    → a ++ (c ∷ b) ≡ x ++ (c ∷ y) → (a ≡ x) × (b ≡ y)
cut_once c [] b [] y h k e = (refl, cc)
cut_once c [] b (d ∷ x) y h k e = absurd (All-get_or (λ d. d ≢ c) (d ∷ x) 0 0 (omega arith) k cc)
cut_once c (d ∷ a) b [] y h k e = absurd (All-get_or (λ d. d ≢ c) (d ∷ a) 0 0 (omega arith) h cc)
cut_once c (d ∷ a) b (f ∷ x) y h k e =
    let tail : a ++ (c ∷ b) ≡ x ++ (c ∷ y) = cc in
    let rest = cut_once c a b x y (All-tail (λ e. e ≢ c) d a h) (All-tail (λ e. e ≢ c) f x k)
    tail in
    let head : d ≡ f = cc in
    ((λ i. head i ∷ rest.0 i), rest.1)

pub no_lf_none : (l a b : List ℕ) → All (λ b. b ≢ 10) l → l ≡ a ++ (10 ∷ b) → ⊥
no_lf_none [] [] b h e = cc
no_lf_none [] (d ∷ a) b h e = cc
no_lf_none (c ∷ l) [] b h e = head_not 10 c l h cc
no_lf_none (c ∷ l) (d ∷ a) b h e = let tail : l ≡ a ++ (10 ∷ b) = cc in
    no_lf_none l a b (All-tail (λ x. x ≢ 10) c l h) tail

last_is : (x : List ℕ) → get_or (x ++ (13 ∷ [])) (length (x ++ (13 ∷ [])) - 1) 0 ≡ 13
last_is x =
    let len = length-append x (13 ∷ []) in
    let at : length (x ++ (13 ∷ [])) - 1 ≡ length x = omega arith in
    ap (λ i. get_or (x ++ (13 ∷ [])) i 0) at ∙ get_or-append_seam x 13 [] 0

with_cr : (l : List ℕ) → All (λ b. b ≢ 10) l → All (λ b. b ≢ 10) (l ++ (13 ∷ []))
with_cr l h = All-append (λ b. b ≢ 10) l (13 ∷ []) h
    (All-cons (λ b. b ≢ 10) 13 [] (λ e. omega (arith, e)) (λ k d lt. absurd (omega arith)))

regroup : (l r : List ℕ) → (l ++ (13 ∷ [])) ++ (10 ∷ r) ≡ l ++ (13 ∷ 10 ∷ r)
regroup l r = append_assoc l (13 ∷ []) (10 ∷ r)

whole : (t l r : List ℕ) → IsLine t l Nothing r → t ≡ l
whole t l r a = a.cut ∙ ap (λ x. l ++ x) a.ends.0 ∙ append-nil l

snoc_apart : (l x : List ℕ) → get_or l (length l - 1) 0 ≢ 13 → l ≡ x ++ (13 ∷ []) → ⊥
snoc_apart l x h e = h (ap (λ m. get_or m (length m - 1) 0) e ∙ last_is x)

-- some bytes have only one first line
pub line_once : (t l : List ℕ) (e : LineEnd) (r m : List ℕ) (f : LineEnd) (s : List ℕ)
    → IsLine t l e r → IsLine t m f s → (l ≡ m) × (e ≡ f) × (r ≡ s)
line_once t l Lf r m Lf s a b = let p = cut_once 10 l r m s a.no_lf b.no_lf (sym a.cut ∙ b.cut) in
    (p.0, refl, p.1)
line_once t l CrLf r m CrLf s a b =
    let p = cut_once 10 (l ++ (13 ∷ [])) r (m ++ (13 ∷ [])) s (with_cr l a.no_lf)
    (with_cr m b.no_lf) (regroup l r ∙ sym a.cut ∙ b.cut ∙ sym (regroup m s)) in
    (append_cancel_right l m (13 ∷ []) p.0, refl, p.1)
line_once t l Lf r m CrLf s a b =
    let p = cut_once 10 l r (m ++ (13 ∷ [])) s a.no_lf (with_cr m b.no_lf)
    (sym a.cut ∙ b.cut ∙ sym (regroup m s)) in
    absurd (snoc_apart l m a.ends p.0)
line_once t l CrLf r m Lf s a b =
    let p = cut_once 10 m s (l ++ (13 ∷ [])) r b.no_lf (with_cr l a.no_lf)
    (sym b.cut ∙ a.cut ∙ sym (regroup l r)) in
    absurd (snoc_apart m l b.ends p.0)
line_once t l Nothing r m Nothing s a b = (
  sym (whole t l r a) ∙ whole t m s b,
  refl,
  a.ends.0
      ∙ sym b.ends.0,
)
line_once t l Nothing r m Lf s a b = absurd (no_lf_none l m s a.no_lf (sym (whole t l r a) ∙ b.cut))
line_once t l Nothing r m CrLf s a b = absurd (no_lf_none l (m ++ (13 ∷ [])) s a.no_lf
    (sym (whole t l r a) ∙ b.cut ∙ sym (regroup m s)))
line_once t l Lf r m Nothing s a b = absurd (no_lf_none m l r b.no_lf (sym (whole t m s b) ∙ a.cut))
line_once t l CrLf r m Nothing s a b = absurd (no_lf_none m (l ++ (13 ∷ [])) r b.no_lf
    (sym (whole t m s b) ∙ a.cut ∙ sym (regroup l r)))

-- a line takes at least one byte
pub line_some : (t l : List ℕ) (e : LineEnd) (r : List ℕ) → t ≡ l ++ (end_bytes e ++ r) → Ends l e r
    → 0 < length t
line_some t l Lf r cut ends = let a = ap length cut ∙ length-append l (10 ∷ r) in omega arith
line_some t l CrLf r cut ends = let a = ap length cut ∙ length-append l (13 ∷ 10 ∷ r) in omega arith
line_some t l Nothing r cut ends = let a = ap length cut ∙ length-append l r in let some = ends.1 in
    omega arith

none_left : (t l : List ℕ) (e : LineEnd) (r : List ℕ) → t ≡ [] → IsLine t l e r → ⊥
none_left t l e r nothing line = let zero = ap length nothing in
    let some = line_some t l e r line.cut line.ends in omega arith

pub cuts_once : (number : ℕ) (bytes : List ℕ) (a b : List LineText) → CutsInto number bytes a
    → CutsInto number bytes b → a ≡ b
cuts_once number bytes [] [] a b = refl
cuts_once number bytes [] (m ∷ ms) a b = absurd (none_left bytes m.text m.end b.0 a b.2)
cuts_once number bytes (l ∷ ls) [] a b = absurd (none_left bytes l.text l.end a.0 b a.2)
cuts_once number bytes (l ∷ ls) (m ∷ ms) a b =
    let z = line_once bytes l.text l.end a.0 m.text m.end b.0 a.2 b.2 in
    let numbers : l.number ≡ m.number = a.1 ∙ sym b.1 in
    let later = cuts_once (number + 1) b.0 ls ms (subst (λ r. CutsInto (number + 1) r ls) z.2 a.3)
    b.3 in
    λ i. record { number = numbers i; text = z.0 i; end = z.1 i } ∷ later i
