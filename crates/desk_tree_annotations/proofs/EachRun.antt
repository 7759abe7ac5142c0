-- Any bytes show runs; if they have no tag, these give nothing.
use Rattle.std.proofs.Common.{◌≡◌, ◌∙◌, ℕ, zero, suc, ◌+◌, ◌<◌, ◌≤◌, List, [], ◌∷◌, ◌++◌, length}
use Rattle.std.proofs.Common.{drop, ap, refl, arith, append_assoc, append-nil, subst, sym, inr}
use Rattle.std.proofs.Common.{length-append, length-drop}
use Rattle.std.specs.Prelude.{codes, count_by, ◌==◌, None}
use Rattle.desk_fields.proofs.Closing.{Closing, open_text, closed, closing}
use Rattle.desk_fields.proofs.FirstLine.{HasLine, has_line, line_shorter}
use Rattle.desk_tree_annotations.specs.Runs.{IsRun, RunText, Shows, Lacks, start, stop}
use Rattle.desk_tree_annotations.specs.Tags.{TagText, Gives, IsInfo, notice_tag, licence_tag}
use Rattle.desk_tree_annotations.proofs.RunLemmas.{run_line, run_rest, run_ignored}
use Rattle.desk_tree_annotations.proofs.TagLemmas.{Completes}

-- the first run of some bytes, and fewer bytes after it
record Step (line : ℕ) (t : List ℕ) : Type 0 where
  text : List ℕ
  after : ℕ
  rest : List ℕ
  run : IsRun line t text after rest
  shorter : length rest < length t

-- there is a start on the line
hidden_step : (line : ℕ) (t : List ℕ) (l : HasLine t) (before behind : List ℕ) → 0 < length t
    → l.line ≡ before ++ (start ++ behind)
    → ((xs ys : List ℕ) → before ++ start ≡ xs ++ (start ++ ys) → length ys ≡ 0)
    → Closing stop (drop (length before + 17) t) → Step line t
hidden_step line t l before behind some cut first (open_text none) = record {
  text = before;
  after = line;
  rest = [];
  run = run_rest line t l.line l.end l.rest before behind (drop (length before + 17) t) [] l.is cut
      first refl none refl;
  shorter = some;
}
hidden_step line t l before behind some cut first (closed hidden more split last) = record {
  text = before;
  after = line + count_by (λ b. b == 10) hidden;
  rest = more;
  run = run_ignored line t l.line l.end l.rest before behind (drop (length before + 17) t) hidden
      more (count_by (λ b. b == 10) hidden) l.is cut first refl split last refl;
  shorter =
      let a = length-drop (length before + 17) t in
      let b = ap length split ∙ length-append hidden (stop ++ more) in
      let c = length-append stop more in
      omega arith;
}

line_step : (line : ℕ) (t : List ℕ) (l : HasLine t) → 0 < length t → Closing start l.line
    → Step line t
line_step line t l some (open_text none) = record {
  text = l.line;
  after = line + 1;
  rest = l.rest;
  run = run_line line t l.line l.end l.rest l.is none;
  shorter = line_shorter t l.line l.end l.rest l.is.cut l.is.ends;
}
line_step line t l some (closed before behind cut first) = hidden_step line t l before behind some
    cut first (closing stop (omega arith) (drop (length before + 17) t))

step : (line : ℕ) (t : List ℕ) → 0 < length t → Step line t
step line t some = let l = has_line t some in
    line_step line t l some (closing start (omega arith) l.line)

abbrev Shown : ℕ → List ℕ → Type 0
Shown line t = (rs : List RunText) × Shows line t rs

pub shown_within : (bound line : ℕ) (t : List ℕ) → length t ≤ bound → Shown line t
shown_within bound line [] within = ([], refl)
shown_within zero line (b ∷ t) within = absurd (omega arith)
shown_within (suc bound) line (b ∷ t) within =
    let s = step line (b ∷ t) (omega arith) in
    let shorter = s.shorter in
    let later : Shown s.after s.rest = shown_within bound s.after s.rest (omega arith) in (
      record { line = line; text = s.text } ∷ later.0,
      (s.after, s.rest, omega arith, refl, s.run, later.1),
    )

-- ---- bytes without a tag

-- bytes also lack a needle that begins with what they lack
pub lacks_more : (front back t : List ℕ) → Lacks front t → Lacks (front ++ back) t
lacks_more front back t none xs ys e = none xs (back ++ ys)
    (e ∙ ap (λ l. xs ++ l) (append_assoc front back ys))

-- what bytes lack, their prefixes lack
pub lacks_front : (needle t text more : List ℕ) → t ≡ text ++ more → Lacks needle t
    → Lacks needle text
lacks_front needle t text more cut none xs ys e = none xs (ys ++ more)
    (cut ∙ ap (λ l. l ++ more) e ∙ append_assoc xs (needle ++ ys) more
    ∙ ap (λ l. xs ++ l) (append_assoc needle ys more))

pub lacks_back : (needle t front more : List ℕ) → t ≡ front ++ more → Lacks needle t
    → Lacks needle more
lacks_back needle t front more cut none xs ys e = none (front ++ xs) ys
    (cut ∙ ap (λ l. front ++ l) e ∙ sym (append_assoc front xs (needle ++ ys)))

gives_nothing : (tag : List ℕ) (seen line : ℕ) (t : List ℕ) (rs : List RunText) → Lacks tag t
    → Shows line t rs → Gives tag seen rs []
gives_nothing tag seen line t [] none shows = refl
gives_nothing tag seen line t (r ∷ rs) none (after, rest, some, is, run, more) =
    let behind = lacks_back tag t r.text _ run.cut none in (
      None,
      [],
      inr (lacks_front tag t r.text _ run.cut none),
      refl,
      gives_nothing tag seen after rest rs (lacks_back tag _ _ rest refl behind) more,
    )

pub completes_bare : (file : List ℕ) (line : ℕ) (bytes : List ℕ) (noticed : ℕ)
    (notices : List TagText) (licensed : ℕ) (licences : List TagText)
    → Lacks (codes "SPDX-") bytes → Completes file line bytes noticed notices licensed licences
    → IsInfo file notices licences
completes_bare file line bytes noticed notices licensed licences none inv =
    let runs = shown_within (length bytes) line bytes (omega arith) in
    let n = gives_nothing notice_tag noticed line bytes runs.0
    (lacks_more (codes "SPDX-") (codes "FileCopyrightText:") bytes none) runs.1 in
    let l = gives_nothing licence_tag licensed line bytes runs.0
    (lacks_more (codes "SPDX-") (codes "License-Identifier:") bytes none) runs.1 in
    let whole = inv runs.0 [] [] runs.1 n l in
    subst (λ k. IsInfo file k licences) (append-nil notices)
    (subst (λ k. IsInfo file (notices ++ []) k) (append-nil licences) whole)
