-- Where an ignored stretch begins on a line.
use Rattle.std.proofs.Common.{◌≡◌, ◌≢◌, ◌∙◌, inl, inr, ℕ, ◌+◌, ◌-◌, ◌<◌, ◌≤◌, List, ◌++◌, length}
use Rattle.std.proofs.Common.{get_or, take, drop, sym, subst, ap, arith, append_assoc}
use Rattle.std.proofs.Common.{length-append, length-drop, length-take-le, take-append-drop}
use Rattle.std.specs.Prelude.{All, Option, Some, None, IfNone, IfSome, MatchOption}
use denote.Ref.{Bor}
use Rattle.std.proofs.Math.ListN.{get_or-append}
use Rattle.std.proofs.Math.Seq.{get_or-append_seam, drop-append_seam}
use Rattle.std.proofs.lemmas.List.{get_or-drop, get_or-take, get_or_default}
use Rattle.memchr.specs.Find.{Nowhere, Passes, is_byte2}
use Rattle.desk_tree_annotations.specs.Runs.{Lacks, IsUpTo, start}
use Rattle.desk_tree_annotations.specs.Skipping.{IsClear}
use Rattle.desk_tree_annotations.proofs.SkipLemmas.{clear_lacks}
use Rattle.desk_tree_patterns.proofs.Needles.{order}

-- neither a line feed nor the first letter of a start is from one place up to another
abbrev pub Plain : List ℕ → ℕ → ℕ → Type 0
Plain bytes from upto = (k : ℕ) → from ≤ k → k < upto
    → (get_or bytes k 0 ≢ 10) × (get_or bytes k 0 ≢ 82)

pub plain : (bytes left : List ℕ) (from more : ℕ) → left ≡ drop from bytes
    → Nowhere (Passes (is_byte2 10 82) left) 0 more → Plain bytes from (from + more)
plain bytes left from more is none k low high =
    let place : from + (k - from) ≡ k = omega arith in
    let here : get_or left (k - from) 0 ≡ get_or bytes k 0 = ap (λ l. get_or l (k - from) 0) is
    ∙ get_or-drop from bytes (k - from) 0 ∙ ap (λ n. get_or bytes n 0) place in
    let apart = none (k - from) (omega arith) (omega arith) in (
      λ e. apart (ap (is_byte2 10 82) (here ∙ e)),
      λ e. apart (ap (is_byte2 10 82) (here ∙ e)),
    )

-- a start begins with an R
pub clear_upto : (bytes : List ℕ) (from upto : ℕ) → IsClear start from bytes → Plain bytes from upto
    → IsClear start upto bytes
clear_upto bytes from upto clear none xs ys e =
    let low = clear xs ys e in
    elim (order upto (length xs)) [
      | inl le ↦ le
      | inr lt ↦ absurd ((none (length xs) low lt).1
          (ap (λ l. get_or l (length xs) 0) e ∙ get_or-append_seam xs 82 (drop 1 start ++ ys) 0))
    ]

-- none begins where it isn't found
pub clear_past : (bytes behind : List ℕ) (at : ℕ) → IsClear start at bytes → behind ≡ drop at bytes
    → ((ys : List ℕ) → behind ≢ start ++ ys) → IsClear start (at + 1) bytes
clear_past bytes behind at clear is none xs ys e =
    let low = clear xs ys e in
    elim (order (at + 1) (length xs)) [
      | inl le ↦ le
      | inr lt ↦ let same : at ≡ length xs = omega arith in
          absurd (none ys (is ∙ ap (λ n. drop n bytes) same ∙ ap (drop (length xs)) e
          ∙ drop-append_seam xs (start ++ ys)))
    ]

-- there is no line feed in this many bytes
abbrev pub HasNoFeed : List ℕ → ℕ → Type 0
HasNoFeed bytes upto = (k : ℕ) → k < upto → get_or bytes k 0 ≢ 10

pub no_feed_upto : (bytes : List ℕ) (from upto : ℕ) → HasNoFeed bytes from → Plain bytes from upto
    → HasNoFeed bytes upto
no_feed_upto bytes from upto before none k lt =
    elim (order from k) [
      | inl low ↦ (none k low lt).0
      | inr high ↦ before k high
    ]

pub no_feed_past : (bytes : List ℕ) (at : ℕ) → HasNoFeed bytes at → get_or bytes at 0 ≢ 10
    → HasNoFeed bytes (at + 1)
no_feed_past bytes at before none k lt =
    elim (order at k) [
      | inl low ↦ let same : at ≡ k = omega arith in subst (λ n. get_or bytes n 0 ≢ 10) same none
      | inr high ↦ before k high
    ]

pub front_no_feed : (bytes front : List ℕ) (upto : ℕ) → front ≡ take upto bytes
    → upto ≤ length bytes → HasNoFeed bytes upto → All (λ b. b ≢ 10) front
front_no_feed bytes front upto is fits none k d lt =
    let len : length front ≡ upto = ap length is ∙ length-take-le upto bytes fits in
    let inside : k < upto = omega arith in
    let same : get_or front k d ≡ get_or bytes k 0 = ap (λ l. get_or l k d) is
    ∙ get_or-take upto bytes k d inside ∙ get_or_default bytes k d 0 (omega arith) in
    subst (λ v. v ≢ 10) (sym same) (none k inside)

-- ---- there is no start on the line

pub lacks_to_feed : (bytes : List ℕ) (at : ℕ) → IsClear start at bytes → get_or bytes at 0 ≡ 10
    → (text more : List ℕ) → bytes ≡ text ++ more → All (λ b. b ≢ 10) text → Lacks start text
lacks_to_feed bytes at clear feed text more cut no_lf =
    elim (order (length text) at) [
      | inl le ↦ clear_lacks start at bytes text more (omega arith) cut le clear
      | inr lt ↦ absurd (no_lf at 0 lt
          (sym (get_or-append text more 0 at lt) ∙ ap (λ l. get_or l at 0) (sym cut) ∙ feed))
    ]

pub lacks_to_end : (bytes : List ℕ) → IsClear start (length bytes) bytes → (text more : List ℕ)
    → bytes ≡ text ++ more → All (λ b. b ≢ 10) text → Lacks start text
lacks_to_end bytes clear text more cut no_lf =
    let len = ap length cut ∙ length-append text more in
    clear_lacks start (length bytes) bytes text more (omega arith) cut (omega arith) clear

pub lacks_unseen : (bytes left : List ℕ) (from : ℕ) → left ≡ drop from bytes → from ≤ length bytes
    → IsClear start from bytes → Nowhere (Passes (is_byte2 10 82) left) 0 (length left)
    → (text more : List ℕ) → bytes ≡ text ++ more → All (λ b. b ≢ 10) text → Lacks start text
lacks_unseen bytes left from is fits clear none =
    let len = ap length is ∙ length-drop from bytes in
    let whole : from + length left ≡ length bytes = omega arith in
    lacks_to_end bytes (subst (λ n. IsClear start n bytes) whole
    (clear_upto bytes from (from + length left) clear
    (plain bytes left from (length left) is none)))

-- ---- there is one

pub start_cut : (bytes before behind inner : List ℕ) (at : ℕ) → before ≡ take at bytes
    → behind ≡ drop at bytes → behind ≡ start ++ inner → bytes ≡ before ++ (start ++ inner)
start_cut bytes before behind inner at front back is =
    sym (take-append-drop at bytes) ∙ ap (λ l. l ++ drop at bytes) (sym front)
    ∙ ap (λ l. before ++ l) (sym back ∙ is)

pub start_first : (bytes before inner : List ℕ) (at : ℕ) → before ≡ take at bytes
    → at ≤ length bytes → bytes ≡ before ++ (start ++ inner) → IsClear start at bytes
    → IsUpTo start before
start_first bytes before inner at front fits cut clear xs ys e =
    let whole : bytes ≡ xs ++ (start ++ (ys ++ inner)) = cut ∙ sym (append_assoc before start inner)
    ∙ ap (λ l. l ++ inner) e ∙ append_assoc xs (start ++ ys) inner
    ∙ ap (λ l. xs ++ l) (append_assoc start ys inner) in
    let low = clear xs (ys ++ inner) whole in
    let long = ap length front ∙ length-take-le at bytes fits in
    let len = sym (length-append before start) ∙ ap length e ∙ length-append xs (start ++ ys) in
    let more = length-append start ys in
    omega arith

-- ---- the place that is looked at

pub place_fits : (bytes left : List ℕ) (from more : ℕ) → left ≡ drop from bytes → more < length left
    → from + more < length bytes
place_fits bytes left from more is lt = let len = ap length is ∙ length-drop from bytes in
    omega arith

-- ---- what follows a prefix

pub behind_none : (s p : List ℕ) (r : Option (Bor (List ℕ)))
    → MatchOption r ((rest : List ℕ) → s ≢ p ++ rest) (λ x. s ≡ p ++ x.now)
    → IfNone r ((rest : List ℕ) → s ≢ p ++ rest)
behind_none s p None h = h
behind_none s p (Some x) h = tt

pub behind_some : (s p : List ℕ) (r : Option (Bor (List ℕ)))
    → MatchOption r ((rest : List ℕ) → s ≢ p ++ rest) (λ x. s ≡ p ++ x.now)
    → IfSome r (λ x. s ≡ p ++ x.now)
behind_some s p None h = tt
behind_some s p (Some x) h = h
