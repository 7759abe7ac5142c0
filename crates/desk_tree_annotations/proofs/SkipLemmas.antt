-- What is skipped gives nothing.
use Rattle.std.proofs.Common.{◌≡◌, ◌≢◌, ◌∙◌, inl, inr, ℕ, zero, suc, ◌+◌, ◌-◌, ◌<◌, ◌≤◌, false}
use Rattle.std.proofs.Common.{cond, List, [], ◌∷◌, ◌++◌, length, get_or, take, drop, sym, subst, ap}
use Rattle.std.proofs.Common.{refl, arith, append_assoc, append-nil, length-append}
use Rattle.std.proofs.Common.{take-append-drop, length-take-le, add-zero, zero-add}
use Rattle.std.specs.Prelude.{All, codes, count_by, ◌==◌, None}
use Rattle.std.proofs.Math.Seq.{get_or-append_seam, drop-append_seam}
use Rattle.std.proofs.lemmas.Bool.Decides.{nat_tests}
use Rattle.std.proofs.lemmas.List.{take_more, take_rest}
use Rattle.std.proofs.lemmas.List.Elements.{All-get_or, All-head, All-tail}
use Rattle.std.proofs.lemmas.List.Sums.{sum_by-cons, count_by-le-length}
use Rattle.desk_base.specs.declared.lines.LineEnd.{LineEnd}
use Rattle.desk_base.specs.declared.lines.LineEnd.TheVariants.{Lf, CrLf, Nothing}
use Rattle.desk_base.specs.Lines.{IsLine, end_bytes}
use Rattle.desk_fields.proofs.FirstLine.{has_line}
use Rattle.desk_tree_annotations.specs.Runs.{Lacks, IsUpTo, RunText, Shows, start}
use Rattle.desk_tree_annotations.specs.Tags.{TagText, Gives, notice_tag, licence_tag}
use Rattle.desk_tree_annotations.specs.Skipping.{IsClear, AreWhole, Skips}
use Rattle.desk_tree_annotations.proofs.RunLemmas.{run_line}
use Rattle.desk_tree_annotations.proofs.RunOnce.{shorter}
use Rattle.desk_tree_annotations.proofs.TagLemmas.{Completes}
use Rattle.desk_tree_annotations.proofs.EachRun.{lacks_more, lacks_front, lacks_back}
use Rattle.desk_tree_patterns.proofs.Needles.{order}

-- ---- where no needle begins

-- none begins before the first
pub clear_before : (needle bytes before after : List ℕ) → bytes ≡ before ++ (needle ++ after)
    → IsUpTo needle before → IsClear needle (length before) bytes
clear_before needle bytes before after cut first xs ys e =
    elim (order (length before) (length xs)) [
      | inl le ↦ le
      | inr lt ↦ absurd (shorter needle xs ys before after (sym e ∙ cut) first lt)
    ]

-- nor in what is left after some bytes
pub clear_behind : (needle : List ℕ) (number : ℕ) (bytes front rest : List ℕ)
    → bytes ≡ front ++ rest → IsClear needle number bytes → (left : ℕ)
    → left ≤ number - length front → IsClear needle left rest
clear_behind needle number bytes front rest cut clear left fits xs ys e =
    let h = clear (front ++ xs) ys
    (cut ∙ ap (λ l. front ++ l) e ∙ sym (append_assoc front xs (needle ++ ys))) in
    let len = length-append front xs in
    omega arith

pub clear_on : (needle : List ℕ) (number : ℕ) (bytes front rest : List ℕ) → bytes ≡ front ++ rest
    → IsClear needle number bytes → (left : ℕ) → left ≡ number - (length bytes - length rest)
    → IsClear needle left rest
clear_on needle number bytes front rest cut clear left is =
    let len = ap length cut ∙ length-append front rest in
    clear_behind needle number bytes front rest cut clear left (omega arith)

-- none is wholly within them
pub clear_lacks : (needle : List ℕ) (number : ℕ) (bytes front rest : List ℕ) → 0 < length needle
    → bytes ≡ front ++ rest → length front ≤ number → IsClear needle number bytes
    → Lacks needle front
clear_lacks needle number bytes front rest some cut fits clear xs ys e =
    let h = clear xs (ys ++ rest)
    (cut ∙ ap (λ l. l ++ rest) e ∙ append_assoc xs (needle ++ ys) rest
    ∙ ap (λ l. xs ++ l) (append_assoc needle ys rest)) in
    let len = ap length e ∙ length-append xs (needle ++ ys) in
    let more = length-append needle ys in
    absurd (omega arith)

-- what comes before the first one lacks it
pub before_lacks : (needle before : List ℕ) → 0 < length needle → IsUpTo needle before
    → Lacks needle before
before_lacks needle before some first xs ys e =
    let none = first xs (ys ++ needle)
    (ap (λ l. l ++ needle) e ∙ append_assoc xs (needle ++ ys) needle
    ∙ ap (λ l. xs ++ l) (append_assoc needle ys needle)) in
    let len = length-append ys needle in
    absurd (omega arith)

-- ---- whole lines

nothing_left : (a b : List ℕ) → a ++ b ≡ [] → b ≡ []
nothing_left [] b e = e
nothing_left (c ∷ a) b e = absurd cc

-- the rest of whole lines is nothing, or ends as they do
whole_behind : (a b : List ℕ) → AreWhole (a ++ b) → AreWhole b
whole_behind [] b whole = whole
whole_behind (c ∷ a) b (inl e) = absurd cc
whole_behind (c ∷ a) b (inr ([], e)) = let tail : a ++ b ≡ [] = cc in inl (nothing_left a b tail)
whole_behind (c ∷ a) b (inr (d ∷ front, e)) = let tail : a ++ b ≡ front ++ (10 ∷ []) = cc in
    whole_behind a b (inr (front, tail))

not_open : (line front : List ℕ) → All (λ b. b ≢ 10) line → line ≡ front ++ (10 ∷ []) → ⊥
not_open line front no_lf e =
    let len = ap length e ∙ length-append front (10 ∷ []) in
    All-get_or (λ b. b ≢ 10) line (length front) 0 (omega arith) no_lf
    (ap (λ l. get_or l (length front) 0) e ∙ get_or-append_seam front 10 [] 0)

abbrev feeds : List ℕ → ℕ
feeds = count_by (λ b. b == 10)

feeds_none : (line rest : List ℕ) → All (λ b. b ≢ 10) line → feeds (line ++ rest) ≡ feeds rest
feeds_none [] rest no_lf = refl
feeds_none (c ∷ line) rest no_lf =
    let apart : (c ≡ 10) → ⊥ = All-head (λ b. b ≢ 10) c line no_lf in
    let test : (c == 10) ≡ false = grind (arith, nat_tests) in
    sum_by-cons (λ b. cond (b == 10) 1 0) c (line ++ rest)
    ∙ ap (λ t. cond t 1 0 + feeds (line ++ rest)) test ∙ zero-add (feeds (line ++ rest))
    ∙ feeds_none line rest (All-tail (λ b. b ≢ 10) c line no_lf)

-- the first of whole lines, in front of more bytes
record Front (lines more line : List ℕ) (end : LineEnd) (rest : List ℕ) : Type 0 where
  is : IsLine (lines ++ more) line end (rest ++ more)
  whole : AreWhole rest
  fed : feeds lines ≡ 1 + feeds rest
  shorter_by : length rest < length lines

front_of : (lines more line : List ℕ) (end : LineEnd) (rest : List ℕ) → IsLine lines line end rest
    → AreWhole lines → Front lines more line end rest
front_of lines more line Lf rest l whole = record {
  is = record {
    cut = ap (λ t. t ++ more) l.cut ∙ append_assoc line (10 ∷ rest) more;
    no_lf = l.no_lf;
    ends = l.ends;
  };
  whole = whole_behind (line ++ (10 ∷ [])) rest
      (subst AreWhole (l.cut ∙ sym (append_assoc line (10 ∷ []) rest)) whole);
  fed = ap feeds l.cut ∙ feeds_none line (10 ∷ rest) l.no_lf
      ∙ sum_by-cons (λ b. cond (b == 10) 1 0) 10 rest;
  shorter_by = let len = ap length l.cut ∙ length-append line (10 ∷ rest) in omega arith;
}
front_of lines more line CrLf rest l whole = record {
  is = record {
    cut = ap (λ t. t ++ more) l.cut ∙ append_assoc line (13 ∷ 10 ∷ rest) more;
    no_lf = l.no_lf;
    ends = l.ends;
  };
  whole = whole_behind (line ++ (13 ∷ 10 ∷ [])) rest
      (subst AreWhole (l.cut ∙ sym (append_assoc line (13 ∷ 10 ∷ []) rest)) whole);
  fed =
      let a = ap feeds l.cut ∙ feeds_none line (13 ∷ 10 ∷ rest) l.no_lf in
      let b : feeds (13 ∷ 10 ∷ rest) ≡ 0 + feeds (10 ∷ rest) =
      sum_by-cons (λ b. cond (b == 10) 1 0) 13 (10 ∷ rest) in
      let d : feeds (10 ∷ rest) ≡ 1 + feeds rest = sum_by-cons (λ b. cond (b == 10) 1 0) 10 rest in
      omega (arith, a, b, d);
  shorter_by = let len = ap length l.cut ∙ length-append line (13 ∷ 10 ∷ rest) in omega arith;
}
front_of lines more line Nothing rest l (inl none) =
    let len = ap length (sym none ∙ l.cut) ∙ length-append line rest in
    let some = l.ends.1 in
    absurd (omega arith)
front_of lines more line Nothing rest l (inr (front, e)) =
    absurd (not_open line front l.no_lf
    (sym (l.cut ∙ ap (λ t. line ++ t) l.ends.0 ∙ append-nil line) ∙ e))

-- ---- what whole lines show

-- runs of lines in front of other bytes, which give no more than the runs of those bytes
record Passed (line : ℕ) (lines rest : List ℕ) (others : List RunText) : Type 0 where
  runs : List RunText
  shows : Shows line (lines ++ rest) runs
  tells : (tag : List ℕ) (seen : ℕ) (tags : List TagText) → Lacks tag lines
      → Gives tag seen others tags → Gives tag seen runs tags

passed : (bound line : ℕ) (lines rest : List ℕ) (others : List RunText) → length lines ≤ bound
    → AreWhole lines → Lacks start lines → Shows (line + feeds lines) rest others
    → Passed line lines rest others
passed bound line [] rest others within whole quiet shows = record {
  runs = others;
  shows = subst (λ k. Shows k rest others) (add-zero line) shows;
  tells = λ tag seen tags none gives. gives;
}
passed zero line (b ∷ t) rest others within whole quiet shows = absurd (omega arith)
passed (suc bound) line (b ∷ t) rest others within whole quiet shows =
    let l = has_line (b ∷ t) (omega arith) in
    let f = front_of (b ∷ t) rest l.line l.end l.rest l.is whole in
    let less = f.shorter_by in
    let fed = f.fed in
    let cut = l.is.cut in
    let count : line + feeds (b ∷ t) ≡ line + 1 + feeds l.rest = omega arith in
    let behind = lacks_back start (b ∷ t) l.line (end_bytes l.end ++ l.rest) cut quiet in
    let later = passed bound (line + 1) l.rest rest others (omega arith) f.whole
    (lacks_back start (end_bytes l.end ++ l.rest) (end_bytes l.end) l.rest refl behind)
    (subst (λ k. Shows k rest others) count shows) in
    record {
      runs = record { line = line; text = l.line } ∷ later.runs;
      shows = (
        line + 1,
        l.rest ++ rest,
        omega arith,
        refl,
        run_line line ((b ∷ t) ++ rest) l.line l.end (l.rest ++ rest) f.is
            (lacks_front start (b ∷ t) l.line (end_bytes l.end ++ l.rest) cut quiet),
        later.shows,
      );
      tells = λ tag seen tags none gives.
          let after = lacks_back tag (b ∷ t) l.line (end_bytes l.end ++ l.rest) cut none in (
            None,
            tags,
            inr (lacks_front tag (b ∷ t) l.line (end_bytes l.end ++ l.rest) cut none),
            refl,
            later.tells tag seen tags (lacks_back tag (end_bytes l.end ++ l.rest) (end_bytes l.end)
                l.rest refl after) gives,
          );
    }

-- what is left after them completes what the whole did
pub completes_skip : (file : List ℕ) (most line : ℕ) (bytes : List ℕ) (after : ℕ) (rest : List ℕ)
    → Skips most line bytes after rest → IsClear (codes "SPDX-") most bytes
    → (noticed : ℕ) (notices : List TagText) (licensed : ℕ) (licences : List TagText)
    → Completes file line bytes noticed notices licensed licences
    → Completes file after rest noticed notices licensed licences
completes_skip file most line bytes after rest skips clear noticed notices licensed licences inv rs
    ns ls shows n l =
    let none = clear_lacks (codes "SPDX-") most bytes skips.lines rest (omega arith) skips.cut
    skips.within clear in
    let p = passed (length skips.lines) line skips.lines rest rs (omega arith) skips.whole
    skips.quiet (subst (λ k. Shows k rest rs) skips.next shows) in
    inv p.runs ns ls (subst (λ t. Shows line t p.runs) (sym skips.cut) p.shows)
    (p.tells notice_tag noticed ns
    (lacks_more (codes "SPDX-") (codes "FileCopyrightText:") skips.lines none) n)
    (p.tells licence_tag licensed ls
    (lacks_more (codes "SPDX-") (codes "License-Identifier:") skips.lines none) l)

-- how much is left, and from which line on
pub skip_room : (most line : ℕ) (bytes : List ℕ) (after : ℕ) (rest : List ℕ)
    → Skips most line bytes after rest → after + length rest ≤ line + length bytes
skip_room most line bytes after rest skips =
    let len = ap length skips.cut ∙ length-append skips.lines rest in
    let fed = count_by-le-length (λ b. b == 10) skips.lines in
    let next = skips.next in
    omega arith

pub skip_some : (most line : ℕ) (bytes : List ℕ) (after : ℕ) (rest : List ℕ)
    → Skips most line bytes after rest → most < length bytes → 0 < length rest
skip_some most line bytes after rest skips lt =
    let len = ap length skips.cut ∙ length-append skips.lines rest in
    let within = skips.within in
    omega arith

-- ---- what is cut off

pub rest_of : (n : ℕ) (bytes : List ℕ) → (more : List ℕ) × (bytes ≡ take n bytes ++ more)
rest_of n bytes = (drop n bytes, sym (take-append-drop n bytes))

-- bytes up to one of their line feeds
pub whole_upto : (bytes : List ℕ) (at : ℕ) → at < length bytes → get_or bytes at 0 ≡ 10
    → AreWhole (take (at + 1) bytes)
whole_upto bytes at lt is = inr (
  take at bytes,
  take_more bytes at 0 lt
      ∙ ap (λ b. take at bytes ++ (b ∷ [])) is,
)

-- whole lines of what comes before the first start, within the first of some bytes
pub skips : (most line : ℕ) (bytes quiet lines : List ℕ) (fed : ℕ) → most < length bytes
    → (more : List ℕ) × (take most bytes ≡ quiet ++ more) → Lacks start quiet
    → (more : List ℕ) × (quiet ≡ lines ++ more) → AreWhole lines → fed ≡ feeds lines
    → Skips most line bytes (line + fed)
    (take (length bytes - length lines) (drop (length lines) bytes))
skips most line bytes quiet lines fed lt front none part whole count =
    let behind = part.0 ++ (front.0 ++ drop most bytes) in
    let cut : bytes ≡ lines ++ behind =
    sym (take-append-drop most bytes)
    ∙ ap (λ l. l ++ drop most bytes) (front.1 ∙ ap (λ l. l ++ front.0) part.1)
    ∙ append_assoc (lines ++ part.0) front.0 (drop most bytes)
    ∙ append_assoc lines part.0 (front.0 ++ drop most bytes) in
    let left : take (length bytes - length lines) (drop (length lines) bytes) ≡ behind =
    take_rest bytes (length lines) ∙ ap (drop (length lines)) cut ∙ drop-append_seam lines behind in
    let whole_front = ap length front.1 ∙ length-append quiet front.0 in
    let whole_quiet = ap length part.1 ∙ length-append lines part.0 in
    let taken = length-take-le most bytes (omega arith) in
    record {
      lines = lines;
      cut = cut ∙ ap (λ l. lines ++ l) (sym left);
      within = omega arith;
      whole = whole;
      quiet = lacks_front start quiet lines part.0 part.1 none;
      next = ap (λ n. line + n) count;
    }

-- nothing is skipped
pub skips_none : (most line : ℕ) (bytes : List ℕ) → Skips most line bytes line bytes
skips_none most line bytes = record {
  lines = [];
  cut = refl;
  within = omega arith;
  whole = inl refl;
  quiet = λ xs ys e. let len = ap length e ∙ length-append xs (start ++ ys) in
      let more = length-append start ys in absurd (omega arith);
  next = sym (add-zero line);
}
