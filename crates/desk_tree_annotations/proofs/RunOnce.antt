-- The runs of a file are one list.
use Rattle.std.proofs.Common.{◌≡◌, ◌≢◌, ◌∙◌, inl, inr, ℕ, ◌+◌, ◌-◌, ◌<◌, ◌≤◌, List, [], ◌∷◌, ◌++◌}
use Rattle.std.proofs.Common.{length, take, drop, sym, subst, ap, refl, arith, append_assoc}
use Rattle.std.proofs.Common.{length-append, append-nil, length-take-le, take-append-drop}
use Rattle.std.specs.Prelude.{All, codes, count_by, ◌==◌}
use Rattle.std.proofs.Math.Seq.{take-append_seam}
use Rattle.std.proofs.lemmas.List.{append_cancel_left}
use Rattle.std.proofs.lemmas.List.Elements.{All-tail, All-append, All-cons, All-nil}
use Rattle.desk_base.specs.declared.lines.LineEnd.{LineEnd}
use Rattle.desk_base.specs.declared.lines.LineEnd.TheVariants.{Lf, CrLf, Nothing}
use Rattle.desk_base.specs.Lines.{Ends, end_bytes}
use Rattle.desk_base.proofs.LinesOnce.{line_once}
use Rattle.desk_tree_annotations.specs.Runs.{Lacks, IsUpTo, RunEnd, line_end, ignored, ignored_rest}
use Rattle.desk_tree_annotations.specs.Runs.{between, EndsRun, lines_between, RunText, Shows, start}
use Rattle.desk_tree_annotations.specs.Runs.{stop}
use Rattle.desk_base.proofs.Numbers.{three, head_not}

-- what ends at the first needle is known
pub shorter : (needle value more v m : List ℕ) → value ++ (needle ++ more) ≡ v ++ (needle ++ m)
    → IsUpTo needle v → length value < length v → ⊥
shorter needle value more v m e first lt =
    let a = length-append value (needle ++ more) in
    let a2 = length-append needle more in
    let b = length-append v (needle ++ m) in
    let b2 = length-append needle m in
    let c = ap length e in
    let k = length v - length value in
    let fits : k ≤ length more = omega arith in
    let ys = take k more in
    let l2 = length-append value (needle ++ ys) in
    let l3 = length-append needle ys in
    let l5 = length-append v needle in
    let l4 : length ys ≡ k = length-take-le k more fits in
    let whole : (value ++ (needle ++ ys)) ++ drop k more ≡ (v ++ needle) ++ m =
    simp append_assoc (ap (λ l. value ++ (needle ++ l)) (take-append-drop k more) ∙ e) in
    let l6 : length (v ++ needle) ≡ length (value ++ (needle ++ ys)) = omega arith in
    let front : v ++ needle ≡ value ++ (needle ++ ys) =
    sym (take-append_seam (v ++ needle) m) ∙ ap (take (length (v ++ needle))) (sym whole)
    ∙ ap (λ n. take n ((value ++ (needle ++ ys)) ++ drop k more)) l6
    ∙ take-append_seam (value ++ (needle ++ ys)) (drop k more) in
    let none = first value ys front in
    omega arith

pub up_to_once : (needle value more v m : List ℕ) → IsUpTo needle value → IsUpTo needle v
    → value ++ (needle ++ more) ≡ v ++ (needle ++ m) → (value ≡ v) × (more ≡ m)
up_to_once needle value more v m f g e =
    elim (three (length value) (length v)) [
      | inl lt ↦ absurd (shorter needle value more v m e g lt)
      | inr (inl lt) ↦ absurd (shorter needle v m value more (sym e) f lt)
      | inr (inr same) ↦
          let front : value ≡ v = sym (take-append_seam value (needle ++ more))
          ∙ ap (take (length value)) e ∙ ap (λ n. take n (v ++ (needle ++ m))) same
          ∙ take-append_seam v (needle ++ m) in (
            front,
            append_cancel_left needle more m
                (append_cancel_left v (needle ++ more) (needle ++ m)
                (ap (λ l. l ++ (needle ++ more)) (sym front) ∙ e)),
          )
    ]

abbrev NoLf : List ℕ → Type 0
NoLf l = All (λ b. b ≢ 10) l

-- a front that has no LF and ends with no CR is within the first line
within_lf : (h inner l r : List ℕ) → NoLf h → h ++ (116 ∷ inner) ≡ l ++ (10 ∷ r)
    → (x : List ℕ) × (l ≡ h ++ (116 ∷ x))
within_lf [] inner [] r no_lf e = absurd cc
within_lf [] inner (d ∷ l) r no_lf e = let head : 116 ≡ d = cc in (l, λ i. sym head i ∷ l)
within_lf (c ∷ h) inner [] r no_lf e = absurd (head_not 10 c h no_lf cc)
within_lf (c ∷ h) inner (d ∷ l) r no_lf e =
    let tail : h ++ (116 ∷ inner) ≡ l ++ (10 ∷ r) = cc in
    let head : d ≡ c = cc in
    let rest = within_lf h inner l r (All-tail (λ x. x ≢ 10) c h no_lf) tail in
    (rest.0, λ i. head i ∷ rest.1 i)

after_cr : (h inner r : List ℕ) → NoLf h → h ++ (116 ∷ inner) ≡ 10 ∷ r → ⊥
after_cr [] inner r no_lf e = cc
after_cr (c ∷ h) inner r no_lf e = head_not 10 c h no_lf cc

within_crlf : (h inner l r : List ℕ) → NoLf h → h ++ (116 ∷ inner) ≡ l ++ (13 ∷ 10 ∷ r)
    → (x : List ℕ) × (l ≡ h ++ (116 ∷ x))
within_crlf [] inner [] r no_lf e = absurd cc
within_crlf [] inner (d ∷ l) r no_lf e = let head : 116 ≡ d = cc in (l, λ i. sym head i ∷ l)
within_crlf (c ∷ h) inner [] r no_lf e = let tail : h ++ (116 ∷ inner) ≡ 10 ∷ r = cc in
    absurd (after_cr h inner r (All-tail (λ x. x ≢ 10) c h no_lf) tail)
within_crlf (c ∷ h) inner (d ∷ l) r no_lf e =
    let tail : h ++ (116 ∷ inner) ≡ l ++ (13 ∷ 10 ∷ r) = cc in
    let head : d ≡ c = cc in
    let rest = within_crlf h inner l r (All-tail (λ x. x ≢ 10) c h no_lf) tail in
    (rest.0, λ i. head i ∷ rest.1 i)

within_line : (t h inner l : List ℕ) (e : LineEnd) (r : List ℕ) → NoLf h → t ≡ h ++ (116 ∷ inner)
    → t ≡ l ++ (end_bytes e ++ r) → Ends l e r → (x : List ℕ) × (l ≡ h ++ (116 ∷ x))
within_line t h inner l Lf r no_lf cut line ends = within_lf h inner l r no_lf (sym cut ∙ line)
within_line t h inner l CrLf r no_lf cut line ends = within_crlf h inner l r no_lf (sym cut ∙ line)
within_line t h inner l Nothing r no_lf cut line ends = (
  inner,
  sym (line ∙ ap (λ x. l ++ x) ends.0 ∙ append-nil l) ∙ cut,
)

no_lf_from : (n : ℕ) (xs : List ℕ) → n ≢ 10 → NoLf xs → NoLf (n ∷ xs)
no_lf_from n xs h k = All-cons (λ b. b ≢ 10) n xs h k

abbrev star : List ℕ
star = codes "REUSE-IgnoreStar"

no_lf_star : NoLf star
no_lf_star = no_lf_from 82 (69 ∷ 85 ∷ 83 ∷ 69 ∷ 45 ∷ 73 ∷ 103 ∷ 110 ∷ 111 ∷ 114 ∷ 101 ∷ 83 ∷ 116
    ∷ 97 ∷ 114 ∷ []) (λ e. omega (arith, e))
    (no_lf_from 69 (85 ∷ 83 ∷ 69 ∷ 45 ∷ 73 ∷ 103 ∷ 110 ∷ 111 ∷ 114 ∷ 101 ∷ 83 ∷ 116 ∷ 97 ∷ 114 ∷ [])
    (λ e. omega (arith, e)) (no_lf_from 85
    (83 ∷ 69 ∷ 45 ∷ 73 ∷ 103 ∷ 110 ∷ 111 ∷ 114 ∷ 101 ∷ 83 ∷ 116 ∷ 97 ∷ 114 ∷ [])
    (λ e. omega (arith, e)) (no_lf_from 83
    (69 ∷ 45 ∷ 73 ∷ 103 ∷ 110 ∷ 111 ∷ 114 ∷ 101 ∷ 83 ∷ 116 ∷ 97 ∷ 114 ∷ []) (λ e. omega (arith, e))
    (no_lf_from 69 (45 ∷ 73 ∷ 103 ∷ 110 ∷ 111 ∷ 114 ∷ 101 ∷ 83 ∷ 116 ∷ 97 ∷ 114 ∷ [])
    (λ e. omega (arith, e)) (no_lf_from 45
    (73 ∷ 103 ∷ 110 ∷ 111 ∷ 114 ∷ 101 ∷ 83 ∷ 116 ∷ 97 ∷ 114 ∷ []) (λ e. omega (arith, e))
    (no_lf_from 73 (103 ∷ 110 ∷ 111 ∷ 114 ∷ 101 ∷ 83 ∷ 116 ∷ 97 ∷ 114 ∷ []) (λ e. omega (arith, e))
    (no_lf_from 103 (110 ∷ 111 ∷ 114 ∷ 101 ∷ 83 ∷ 116 ∷ 97 ∷ 114 ∷ []) (λ e. omega (arith, e))
    (no_lf_from 110 (111 ∷ 114 ∷ 101 ∷ 83 ∷ 116 ∷ 97 ∷ 114 ∷ []) (λ e. omega (arith, e))
    (no_lf_from 111 (114 ∷ 101 ∷ 83 ∷ 116 ∷ 97 ∷ 114 ∷ []) (λ e. omega (arith, e))
    (no_lf_from 114 (101 ∷ 83 ∷ 116 ∷ 97 ∷ 114 ∷ []) (λ e. omega (arith, e))
    (no_lf_from 101 (83 ∷ 116 ∷ 97 ∷ 114 ∷ []) (λ e. omega (arith, e))
    (no_lf_from 83 (116 ∷ 97 ∷ 114 ∷ []) (λ e. omega (arith, e))
    (no_lf_from 116 (97 ∷ 114 ∷ []) (λ e. omega (arith, e))
    (no_lf_from 97 (114 ∷ []) (λ e. omega (arith, e))
    (no_lf_from 114 ([]) (λ e. omega (arith, e)) (All-nil (λ b. b ≢ 10)))))))))))))))))

-- a start in a first line is found in it
start_within : (t u inner l : List ℕ) (e : LineEnd) (r : List ℕ) → NoLf u
    → t ≡ u ++ (start ++ inner) → t ≡ l ++ (end_bytes e ++ r) → Ends l e r → Lacks start l → ⊥
start_within t u inner l e r no_lf cut line ends lacks =
    let h = u ++ star in
    let w = within_line t h inner l e r (All-append (λ b. b ≢ 10) u star no_lf no_lf_star)
    (cut ∙ sym (append_assoc u star (116 ∷ inner))) line ends in
    lacks u w.0 (w.1 ∙ append_assoc u star (116 ∷ w.0))

regroup : (t i r : List ℕ) → t ++ ((start ++ (i ++ stop)) ++ r) ≡ t ++ (start ++ (i ++ (stop ++ r)))
regroup t i r = ap (λ l. t ++ l)
    (append_assoc start (i ++ stop) r ∙ ap (λ l. start ++ l) (append_assoc i stop r))

regroup_rest : (t i r : List ℕ) → t ++ ((start ++ i) ++ r) ≡ t ++ (start ++ (i ++ r))
regroup_rest t i r = ap (λ l. t ++ l) (append_assoc start i r)

abbrev Same : List ℕ → RunEnd → List ℕ → List ℕ → RunEnd → List ℕ → Type 0
Same t e r u f s = (t ≡ u) × (lines_between e ≡ lines_between f) × (r ≡ s)

both_once : (t i r u j s : List ℕ) → IsUpTo start t → IsUpTo stop i → IsUpTo start u → IsUpTo stop j
    → t ++ ((start ++ (i ++ stop)) ++ r) ≡ u ++ ((start ++ (j ++ stop)) ++ s)
    → Same t (ignored i) r u (ignored j) s
both_once t i r u j s a b c d e =
    let o = up_to_once start t (i ++ (stop ++ r)) u (j ++ (stop ++ s)) a c
    (sym (regroup t i r) ∙ e ∙ regroup u j s) in
    let p = up_to_once stop i r j s b d o.1 in
    (o.0, ap (count_by (λ b. b == 10)) p.0, p.1)

one_open : (t i r u j s : List ℕ) → IsUpTo start t → IsUpTo start u → Lacks stop j → s ≡ []
    → t ++ ((start ++ (i ++ stop)) ++ r) ≡ u ++ ((start ++ j) ++ s) → ⊥
one_open t i r u j s a c lacks none e =
    let o = up_to_once start t (i ++ (stop ++ r)) u (j ++ s) a c
    (sym (regroup t i r) ∙ e ∙ regroup_rest u j s) in
    lacks i r (sym (o.1 ∙ ap (λ l. j ++ l) none ∙ append-nil j))

ends_once : (bytes t : List ℕ) (e : RunEnd) (r u : List ℕ) (f : RunEnd) (s : List ℕ)
    → bytes ≡ t ++ (between e ++ r) → NoLf t → EndsRun t e r → bytes ≡ u ++ (between f ++ s)
    → NoLf u → EndsRun u f s → Same t e r u f s
ends_once bytes t (line_end e) r u (line_end f) s a b c d g h =
    let z = line_once bytes t e r u f s (record { cut = a; no_lf = b; ends = c.1 })
    (record { cut = d; no_lf = g; ends = h.1 }) in (z.0, refl, z.2)
ends_once bytes t (line_end e) r u (ignored j) s a b c d g h = absurd (start_within bytes u
    (j ++ (stop ++ s)) t e r g (d ∙ regroup u j s) a c.1 c.0)
ends_once bytes t (line_end e) r u (ignored_rest j) s a b c d g h = absurd (start_within bytes u
    (j ++ s) t e r g (d ∙ regroup_rest u j s) a c.1 c.0)
ends_once bytes t (ignored i) r u (line_end f) s a b c d g h = absurd (start_within bytes t
    (i ++ (stop ++ r)) u f s b (a ∙ regroup t i r) d h.1 h.0)
ends_once bytes t (ignored i) r u (ignored j) s a b c d g h = both_once t i r u j s c.0 c.1 h.0 h.1
    (sym a ∙ d)
ends_once bytes t (ignored i) r u (ignored_rest j) s a b c d g h = absurd (one_open t i r u j s c.0
    h.0 h.1 h.2 (sym a ∙ d))
ends_once bytes t (ignored_rest i) r u (line_end f) s a b c d g h = absurd (start_within bytes t
    (i ++ r) u f s b (a ∙ regroup_rest t i r) d h.1 h.0)
ends_once bytes t (ignored_rest i) r u (ignored j) s a b c d g h = absurd (one_open u j s t i r h.0
    c.0 c.1 c.2 (sym d ∙ a))
ends_once bytes t (ignored_rest i) r u (ignored_rest j) s a b c d g h =
    let o = up_to_once start t (i ++ r) u (j ++ s) c.0 h.0
    (sym (regroup_rest t i r) ∙ sym a ∙ d ∙ regroup_rest u j s) in (o.0, refl, c.2 ∙ sym h.2)

pub shows_once : (line : ℕ) (bytes : List ℕ) (a b : List RunText) → Shows line bytes a
    → Shows line bytes b → a ≡ b
shows_once line bytes [] [] a b = refl
shows_once line bytes [] (y ∷ ys) a b = let some = b.2 in let none = ap length a in
    absurd (omega arith)
shows_once line bytes (x ∷ xs) [] a b = let some = a.2 in let none = ap length b in
    absurd (omega arith)
shows_once line bytes (x ∷ xs) (y ∷ ys) a b =
    let m = a.4 in
    let n = b.4 in
    let z = ends_once bytes x.text m.end a.1 y.text n.end b.1 m.cut m.no_lf m.ends n.cut n.no_lf
    n.ends in
    let after : a.0 ≡ b.0 = m.next ∙ ap (λ k. line + k) z.1 ∙ sym n.next in
    let lines : x.line ≡ y.line = a.3 ∙ sym b.3 in
    let later = shows_once b.0 b.1 xs ys
    (subst (λ k. Shows k b.1 xs) after (subst (λ r. Shows a.0 r xs) z.2 a.5)) b.5 in
    λ i. record { line = lines i; text = z.0 i } ∷ later i
