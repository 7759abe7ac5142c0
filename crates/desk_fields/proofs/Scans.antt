-- What a scan of a piece finds.
use Rattle.std.proofs.Common.{◌≡◌, ◌≢◌, ◌∙◌, ℕ, zero, suc, ◌+◌, ◌-◌, ◌<◌, ◌≤◌, List, [], ◌∷◌, ◌++◌}
use Rattle.std.proofs.Common.{length, get_or, take, drop, sym, subst, ap, refl, arith, true, false}
use Rattle.std.proofs.Common.{cond, append_assoc, length-append, IsUtf8, get_or-take, ◌⊎◌, inl, inr}
use Rattle.std.proofs.Math.ListN.{get_or-append}
use Rattle.std.proofs.lemmas.Grind.{common_steps}
use Rattle.std.specs.Prelude.{All, codes}
use Rattle.std.specs.Str.{IsCharBoundary}
use Rattle.std.specs.Str.Pattern.{LacksTextAt}
use Rattle.std.specs.List.{prefix_len, suffix_len}
use Rattle.std.proofs.lemmas.Str.{IsCharBoundary-after_ascii}
use Rattle.std.proofs.Math.Seq.{drop-append_seam, get_or-append_seam}
use Rattle.desk_fields.specs.Text.{skip_blanks, trimmed}
use Rattle.std.specs.Prelude.{Option, Some, None, IfNone, IfSome, MatchOption}
use Rattle.std.specs.Str.Pattern.{FindsText, SplitsAroundMatch}
use Rattle.std.proofs.lemmas.Bool.Decides.{nat_tests}
use Rattle.std.proofs.lemmas.Str.Pattern.{split_text_parts}
use denote.Ref.{Bor}
use Rattle.desk_base.proofs.LinesOnce.{cut_once}
use Rattle.desk_fields.specs.Pieces.{IsFirstEnd, is_bare}
use Rattle.desk_fields.proofs.Founds.{drop_next}
use Rattle.desk_base.specs.Bytes.{is_blank}

-- if a front has more than blanks, only its own blanks are skipped
pub skip-append : (xs ys : List ℕ) → 0 < length (skip_blanks xs)
    → skip_blanks (xs ++ ys) ≡ skip_blanks xs ++ ys
skip-append [] ys some = absurd (omega arith)
skip-append (b ∷ xs) ys some =
    elim (is_blank b) as (λ v. 0 < length (drop (cond v (1 + prefix_len is_blank xs) 0) (b ∷ xs))
    → drop (cond v (1 + prefix_len is_blank (xs ++ ys)) 0) (b ∷ (xs ++ ys))
    ≡ drop (cond v (1 + prefix_len is_blank xs) 0) (b ∷ xs) ++ ys) [
      | true ↦ λ h.
          let inner : 0 < length (skip_blanks xs) =
          subst (λ l. 0 < length l) (drop_next (prefix_len is_blank xs) b xs) h in
          drop_next (prefix_len is_blank (xs ++ ys)) b (xs ++ ys) ∙ skip-append xs ys inner
          ∙ ap (λ l. l ++ ys) (sym (drop_next (prefix_len is_blank xs) b xs))
      | false ↦ λ h. refl
    ] some

-- a tag begins with the first byte of its line that isn't a blank
pub tag_first : (before more : List ℕ) → 0 < length (trimmed before)
    → get_or (trimmed before) 0 0 ≡ get_or (skip_blanks (before ++ more)) 0 0
tag_first before more some =
    let core = skip_blanks before in
    let n = length core - suffix_len is_blank core in
    let le : length (take n core) ≤ length core = grind (arith, common_steps) in
    let le2 : length (take n core) ≤ n = grind (arith, common_steps) in
    let inside : 0 < length core = omega arith in
    let front : get_or (take n core) 0 0 ≡ get_or core 0 0 = get_or-take n core 0 0 (omega arith) in
    let back : get_or (core ++ more) 0 0 ≡ get_or core 0 0 = get_or-append core more 0 0 inside in
    front ∙ sym back ∙ ap (λ l. get_or l 0 0) (sym (skip-append before more inside))

order_zero : (n : ℕ) → (n ≡ 0) ⊎ (0 < n)
order_zero zero = inl refl
order_zero (suc n) = inr (omega arith)

-- the value before the first </text>
pub first_end : (inner v r : List ℕ) → inner ≡ v ++ (codes "</text>" ++ r)
    → ((i : ℕ) → i < length v → LacksTextAt (codes "</text>") inner i) → IsFirstEnd v
first_end inner v r cut lacks xs ys e =
    let len = sym (length-append v (codes "</text>")) ∙ ap length e
    ∙ length-append xs (codes "</text>" ++ ys) in
    elim (order_zero (length ys)) [
      | inl none ↦ none
      | inr some ↦ absurd (lacks (length xs) (omega arith) (ys ++ r) (
          ap (drop (length xs)) (cut ∙ sym (append_assoc v (codes "</text>") r) ∙ ap (λ l. l ++ r) e
          ∙ append_assoc xs (codes "</text>" ++ ys) r)
          ∙ drop-append_seam xs ((codes "</text>" ++ ys) ++ r)))
    ]

behind_front : (text line inner front : List ℕ) → text ≡ line ++ drop (length line) text
    → line ≡ front ++ inner → text ≡ front ++ (inner ++ drop (length line) text)
behind_front text line inner front h e = h ∙ ap (λ l. l ++ drop (length line) text) e
    ∙ append_assoc front inner (drop (length line) text)

behind_place : (line inner front : List ℕ) → line ≡ front ++ inner
    → length line - length inner ≡ length front
behind_place line inner front e = let len : length line ≡ length front + length inner = ap length e
    ∙ length-append front inner in omega arith

pub behind_is : (text line inner front : List ℕ) → text ≡ line ++ drop (length line) text
    → line ≡ front ++ inner → text ≡ front ++ drop (length line - length inner) text
behind_is text line inner front h e =
    let whole = behind_front text line inner front h e in
    let n = behind_place line inner front e in
    let rest = drop (length line) text in
    let back : drop (length front) text ≡ inner ++ rest = ap (drop (length front)) whole
    ∙ drop-append_seam front (inner ++ rest) in
    whole ∙ ap (λ l. front ++ l) (sym back ∙ ap (λ k. drop k text) (sym n))

pub behind_cut : (text line inner front : List ℕ) (b : ℕ) → IsUtf8 text
    → text ≡ line ++ drop (length line) text → b < 128 → line ≡ front ++ (b ∷ inner)
    → IsCharBoundary text (length line - length inner)
behind_cut text line inner front b u h low e =
    let rest = drop (length line) text in
    let whole = behind_front text line (b ∷ inner) front h e in
    let at : get_or text (length front) 0 ≡ b = ap (λ l. get_or l (length front) 0) whole
    ∙ get_or-append_seam front b (inner ++ rest) 0 in
    let len = ap length e ∙ length-append front (b ∷ inner) in
    let all = ap length whole ∙ length-append front (b ∷ (inner ++ rest)) in
    let n : length front + 1 ≡ length line - length inner = omega arith in
    subst (IsCharBoundary text) n
    (IsCharBoundary-after_ascii text (length front) u (omega arith) (omega arith))

-- without a colon there is no tag
pub no_tag : (line : List ℕ) → ((i : ℕ) → i < length line → get_or line i 0 ≢ 58)
    → (before after : List ℕ) → All (λ d. d ≢ 58) before → line ≡ before ++ (58 ∷ after)
    → length (trimmed before) ≡ 0
no_tag line none before after h e =
    let len = ap length e ∙ length-append before (58 ∷ after) in
    absurd (none (length before) (omega arith)
    (ap (λ l. get_or l (length before) 0) e ∙ get_or-append_seam before 58 after 0))

pub empty_tag : (line front behind : List ℕ) → line ≡ front ++ (58 ∷ behind)
    → All (λ d. d ≢ 58) front → length (trimmed front) ≡ 0 → (before after : List ℕ)
    → All (λ d. d ≢ 58) before → line ≡ before ++ (58 ∷ after) → length (trimmed before) ≡ 0
empty_tag line front behind cut apart none before after h e =
    let same = (cut_once 58 before after front behind h apart (sym e ∙ cut)).0 in
    ap (λ l. length (trimmed l)) same ∙ none

not_bare_first : (l : List ℕ) → is_bare l ≡ false → get_or (skip_blanks l) 0 0 ≢ 35
not_bare_first l h e = grind (arith, nat_tests)

pub tag_facts : (line front behind : List ℕ) → is_bare line ≡ false → line ≡ front ++ (58 ∷ behind)
    → 0 < length (trimmed front) → get_or (trimmed front) 0 0 ≢ 35
tag_facts line front behind bare cut some e =
    not_bare_first line bare (ap (λ l. get_or (skip_blanks l) 0 0) cut
    ∙ sym (tag_first front (58 ∷ behind) some) ∙ e)

pub closing_none : (s : List ℕ) (r : Option (Bor (List ℕ) × Bor (List ℕ)))
    → MatchOption r (FindsText (codes "</text>") s None)
    (λ x. SplitsAroundMatch (FindsText (codes "</text>")) s x.0.now x.1.now)
    → IfNone r ((xs ys : List ℕ) → s ≢ xs ++ (codes "</text>" ++ ys))
closing_none s None h = split_text_parts (codes "</text>") s None h
closing_none s (Some x) h = tt

pub closing_some : (s : List ℕ) (r : Option (Bor (List ℕ) × Bor (List ℕ)))
    → MatchOption r (FindsText (codes "</text>") s None)
    (λ x. SplitsAroundMatch (FindsText (codes "</text>")) s x.0.now x.1.now)
    → IfSome r (λ x. (s ≡ x.0.now ++ (codes "</text>" ++ x.1.now)) × IsFirstEnd x.0.now)
closing_some s None h = tt
closing_some s (Some x) h =
    let cut = split_text_parts (codes "</text>") s (Some x) h in
    (cut, first_end s x.0.now x.1.now cut (λ i lt. h.2.0 i (subst (λ n. i < n) h.6 lt)))
