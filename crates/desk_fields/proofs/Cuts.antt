-- Where a text may be cut.
use Rattle.std.proofs.Common.{◌≡◌, ◌∙◌, ℕ, zero, suc, ◌+◌, ◌-◌, ◌<◌, ◌≤◌, List, ◌∷◌, ◌++◌, length}
use Rattle.std.proofs.Common.{get_or, take, drop, sym, subst, ap, arith, add-one, IsUtf8, true}
use Rattle.std.proofs.Common.{⊎_elim}
use Rattle.std.specs.Str.{IsCharBoundary}
use Rattle.std.specs.List.{prefix_len}
use Rattle.std.proofs.str.Laws.{order}
use Rattle.std.proofs.lemmas.Str.{IsCharBoundary-start, IsCharBoundary-end}
use Rattle.std.proofs.lemmas.Str.{IsCharBoundary-before_ascii, IsCharBoundary-after_ascii}
use Rattle.std.proofs.lemmas.Bool.Decides.{nat_tests}
use Rattle.std.proofs.lemmas.List.Sums.{prefix_len_passes, prefix_len-le-length}
use Rattle.std.proofs.Common.{length-append}
use Rattle.std.proofs.Math.Seq.{take-append_seam, drop-append-add, drop-append_seam}
use Rattle.std.proofs.Math.Seq.{get_or-append_seam, get_or-append_right}
use Rattle.std.proofs.Math.Nat.{add-sub_cancel_left}
use Rattle.desk_base.specs.declared.lines.LineEnd.{LineEnd}
use Rattle.desk_base.specs.declared.lines.LineEnd.TheVariants.{Lf, CrLf, Nothing}
use Rattle.desk_base.specs.Lines.{IsLine, end_bytes}
use Rattle.desk_base.specs.Bytes.{is_blank}

blank_low : (b : ℕ) → is_blank b ≡ true → b < 128
blank_low b h = grind (arith, nat_tests)

front_cut : (bs : List ℕ) (n : ℕ) → IsUtf8 bs → n ≤ length bs
    → ((i : ℕ) → i < n → is_blank (get_or bs i 0) ≡ true) → IsCharBoundary bs n
front_cut bs zero u within blank = IsCharBoundary-start bs u
front_cut bs (suc k) u within blank =
    let at : IsCharBoundary bs (k + 1) =
    IsCharBoundary-after_ascii bs k u (omega arith)
    (blank_low (get_or bs k 0) (blank k (omega arith))) in
    rw add-one at at

pub blanks_cut : (bs : List ℕ) → IsUtf8 bs → IsCharBoundary bs (prefix_len is_blank bs)
blanks_cut bs u = front_cut bs (prefix_len is_blank bs) u (prefix_len-le-length is_blank bs)
    (λ i lt. prefix_len_passes is_blank bs i 0 lt)

pub kept_cut : (bs : List ℕ) (n : ℕ) → n ≤ length bs
    → ((i : ℕ) → n ≤ i → i < length bs → is_blank (get_or bs i 0) ≡ true) → IsCharBoundary bs n
kept_cut bs n within blank =
    ⊎_elim
    (λ inside. IsCharBoundary-before_ascii bs n inside
    (blank_low (get_or bs n 0) (blank n (omega arith) inside)))
    (λ at_end. let is : n ≡ length bs = omega arith in
    subst (IsCharBoundary bs) (sym is) (IsCharBoundary-end bs))
    (order n (length bs))

-- where a word ends
pub word_cut : (bs : List ℕ) (n : ℕ) → n ≤ length bs
    → (n < length bs → is_blank (get_or bs n 0) ≡ true) → IsCharBoundary bs n
word_cut bs n within blank =
    ⊎_elim
    (λ inside. IsCharBoundary-before_ascii bs n inside (blank_low (get_or bs n 0) (blank inside)))
    (λ at_end. let is : n ≡ length bs = omega arith in
    subst (IsCharBoundary bs) (sym is) (IsCharBoundary-end bs))
    (order n (length bs))

pub line_front : (t l : List ℕ) (e : LineEnd) (r : List ℕ) → IsLine t l e r → take (length l) t ≡ l
line_front t l e r line = ap (take (length l)) line.cut ∙ take-append_seam l (end_bytes e ++ r)

line_length : (t l : List ℕ) (e : LineEnd) (r : List ℕ) → IsLine t l e r
    → length t ≡ length l + (length (end_bytes e) + length r)
line_length t l e r line = ap length line.cut ∙ length-append l (end_bytes e ++ r)
    ∙ ap (λ n. length l + n) (length-append (end_bytes e) r)

pub line_back : (t l : List ℕ) (e : LineEnd) (r : List ℕ) → IsLine t l e r
    → drop (length t - length r) t ≡ r
line_back t l e r line =
    let n : length t - length r ≡ length l + length (end_bytes e) =
    omega (arith, line_length t l e r line) in
    ap (λ k. drop k t) n ∙ ap (drop (length l + length (end_bytes e))) line.cut
    ∙ drop-append-add l (end_bytes e ++ r) (length (end_bytes e)) ∙ drop-append_seam (end_bytes e) r

pub line_cut : (t l : List ℕ) (e : LineEnd) (r : List ℕ) → IsLine t l e r → IsUtf8 t
    → IsCharBoundary t (length t - length r)
line_cut t l Lf r line u =
    let at : get_or t (length l) 0 ≡ 10 = ap (λ x. get_or x (length l) 0) line.cut
    ∙ get_or-append_seam l 10 r 0 in
    let len : length t ≡ length l + (1 + length r) = line_length t l Lf r line in
    let n : length l + 1 ≡ length t - length r = omega arith in
    subst (IsCharBoundary t) n (IsCharBoundary-after_ascii t (length l) u (omega arith)
    (omega arith))
line_cut t l CrLf r line u =
    let at : get_or t (length l + 1) 0 ≡ 10 = ap (λ x. get_or x (length l + 1) 0) line.cut
    ∙ get_or-append_right l (13 ∷ 10 ∷ r) (length l + 1) 0 (omega arith)
    ∙ ap (λ k. get_or (13 ∷ 10 ∷ r) k 0) (add-sub_cancel_left (length l) 1) in
    let len : length t ≡ length l + (2 + length r) = line_length t l CrLf r line in
    let n : length l + 1 + 1 ≡ length t - length r = omega arith in
    subst (IsCharBoundary t) n (IsCharBoundary-after_ascii t (length l + 1) u (omega arith)
    (omega arith))
line_cut t l Nothing r line u =
    let none : length r ≡ 0 = ap length line.ends.0 in
    let n : length t ≡ length t - length r = omega arith in
    subst (IsCharBoundary t) n (IsCharBoundary-end t)
