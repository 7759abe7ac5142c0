-- The first run of some bytes.
use Rattle.std.proofs.Common.{◌≡◌, ◌≢◌, ◌∙◌, ℕ, ◌+◌, ◌<◌, List, [], ◌++◌, length, get_or, drop}
use Rattle.std.proofs.Common.{sym, subst, ap, refl, arith, append_assoc, append-nil, length-append}
use Rattle.std.proofs.Common.{length-drop}
use Rattle.std.specs.Prelude.{All, count_by, ◌==◌}
use Rattle.std.proofs.Math.Seq.{drop-append_seam, drop-append-add}
use Rattle.std.proofs.Math.ListN.{get_or-append}
use Rattle.std.proofs.lemmas.List.{nil_from_length}
use Rattle.desk_base.specs.declared.lines.LineEnd.{LineEnd}
use Rattle.desk_base.specs.Lines.{IsLine, end_bytes}
use Rattle.desk_tree_annotations.specs.Runs.{Lacks, IsUpTo, line_end, ignored, ignored_rest, IsRun, start, stop}

pub run_line : (line : ℕ) (bytes text : List ℕ) (end : LineEnd) (rest : List ℕ)
    → IsLine bytes text end rest → Lacks start text → IsRun line bytes text (line + 1) rest
run_line line bytes text end rest l lacks = record {
  end = line_end end;
  cut = l.cut;
  no_lf = l.no_lf;
  ends = (lacks, l.ends);
  next = refl;
}

-- what follows a needle in the first line, with what follows the line
pub behind : (bytes text : List ℕ) (end : LineEnd) (rest before after inner : List ℕ)
    → IsLine bytes text end rest → text ≡ before ++ (start ++ after)
    → inner ≡ drop (length before + 17) bytes → bytes ≡ before ++ (start ++ inner)
behind bytes text end rest before after inner l cut is =
    let more = after ++ (end_bytes end ++ rest) in
    let whole : bytes ≡ before ++ (start ++ more) = l.cut
    ∙ ap (λ t. t ++ (end_bytes end ++ rest)) cut
    ∙ append_assoc before (start ++ after) (end_bytes end ++ rest)
    ∙ ap (λ t. before ++ t) (append_assoc start after (end_bytes end ++ rest)) in
    let same : inner ≡ more = is ∙ ap (drop (length before + 17)) whole
    ∙ drop-append-add before (start ++ more) 17 ∙ drop-append_seam start more in
    whole ∙ ap (λ t. before ++ (start ++ t)) (sym same)

pub front_no_lf : (text before more : List ℕ) → All (λ b. b ≢ 10) text → text ≡ before ++ more
    → All (λ b. b ≢ 10) before
front_no_lf text before more h cut = λ k d lt.
    let len = ap length cut ∙ length-append before more in
    let inside : k < length text = omega arith in
    subst (λ v. v ≢ 10) (ap (λ t. get_or t k d) cut ∙ get_or-append before more d k lt)
    (h k d inside)

pub drop_all : (xs ys : List ℕ) → ys ≡ drop (length xs) xs → ys ≡ []
drop_all xs ys e = e ∙ nil_from_length (drop (length xs) xs)
    (let l = length-drop (length xs) xs in omega arith)

append_nil_at : (xs none : List ℕ) → none ≡ [] → xs ++ none ≡ xs
append_nil_at xs none e = ap (λ l. xs ++ l) e ∙ append-nil xs

-- a start comes first, and what is ignored goes to the end
pub run_open : (line : ℕ) (bytes before inner none : List ℕ) → bytes ≡ before ++ (start ++ inner)
    → All (λ b. b ≢ 10) before → IsUpTo start before → Lacks stop inner → none ≡ []
    → IsRun line bytes before line none
run_open line bytes before inner none cut no_lf first lacks e = record {
  end = ignored_rest inner;
  cut = cut ∙ ap (λ t. before ++ t) (sym (append_nil_at (start ++ inner) none e));
  no_lf = no_lf;
  ends = (first, lacks, e);
  next = omega arith;
}

-- or up to a stop
pub run_hidden : (line : ℕ) (bytes before inner hidden more : List ℕ) (feeds : ℕ)
    → bytes ≡ before ++ (start ++ inner) → All (λ b. b ≢ 10) before → IsUpTo start before
    → inner ≡ hidden ++ (stop ++ more) → IsUpTo stop hidden → feeds ≡ count_by (λ b. b == 10) hidden
    → IsRun line bytes before (line + feeds) more
run_hidden line bytes before inner hidden more feeds cut no_lf first split last count = record {
  end = ignored hidden;
  cut = cut ∙ ap (λ t. before ++ (start ++ t)) (split ∙ sym (append_assoc hidden stop more))
      ∙ ap (λ t. before ++ t) (sym (append_assoc start (hidden ++ stop) more));
  no_lf = no_lf;
  ends = (first, last);
  next = ap (λ n. line + n) count;
}

pub run_rest : (line : ℕ) (bytes text : List ℕ) (end : LineEnd)
    (rest before after inner none : List ℕ) → IsLine bytes text end rest
    → text ≡ before ++ (start ++ after) → IsUpTo start before
    → inner ≡ drop (length before + 17) bytes → Lacks stop inner → none ≡ []
    → IsRun line bytes before line none
run_rest line bytes text end rest before after inner none l cut first is lacks e =
    run_open line bytes before inner none (behind bytes text end rest before after inner l cut is)
    (front_no_lf text before (start ++ after) l.no_lf cut) first lacks e

pub run_ignored : (line : ℕ) (bytes text : List ℕ) (end : LineEnd)
    (rest before after inner hidden more : List ℕ) (feeds : ℕ) → IsLine bytes text end rest
    → text ≡ before ++ (start ++ after) → IsUpTo start before
    → inner ≡ drop (length before + 17) bytes → inner ≡ hidden ++ (stop ++ more)
    → IsUpTo stop hidden → feeds ≡ count_by (λ b. b == 10) hidden
    → IsRun line bytes before (line + feeds) more
run_ignored line bytes text end rest before after inner hidden more feeds l cut first is split last
    count =
    run_hidden line bytes before inner hidden more feeds
    (behind bytes text end rest before after inner l cut is)
    (front_no_lf text before (start ++ after) l.no_lf cut) first split last count
