-- The standing of one more package of a list.
use Rattle.std.proofs.Common.{◌≡◌, ◌∙◌, ◌+◌, ◌<◌, ℕ, Bool, false, List, [], ◌∷◌, ◌++◌, Option}
use Rattle.std.proofs.Common.{length, drop, drop-cons, get_or, add-one, append_assoc, sym, ap}
use Rattle.std.specs.Prelude.{map, slice_index_or}
use Rattle.desk_expr.specs.Tree.{Tree}
use Rattle.desk_tagvalue.specs.Parts.{PackageText}
use Rattle.desk_import.specs.Summaries.{standing_of, standings_of}
use Rattle.desk_import.specs.declared.summary.Standing.{Standing}

pub one_more : {P : Type 0} (f : P → PackageText) (reads : List ℕ → Option Tree) (packages : List P)
    (i : ℕ) (p : P) (mark : Bool) (marks behind : List Bool) (x : Standing)
    (done more all : List Standing)
    → i < length packages → mark ≡ slice_index_or marks 0 false → behind ≡ drop 1 marks
    → x ≡ standing_of reads (f (get_or packages i p)) mark → more ≡ done ++ x ∷ []
    → done ++ standings_of reads (map f (drop i packages)) marks ≡ all
    → more ++ standings_of reads (map f (drop (i + 1) packages)) behind ≡ all
one_more f reads packages i p mark marks behind x done more all within is_mark is_behind is_x
    is_more before =
    let rest = standings_of reads (map f (drop (i + 1) packages)) behind in
    let cut : drop i packages ≡ get_or packages i p ∷ drop (i + 1) packages =
    rw (add-one i) (drop-cons packages i p within) in
    let first : standings_of reads (map f (drop i packages)) marks ≡ x ∷ rest =
    ap (λ ps. standings_of reads (map f ps) marks) cut
    ∙ ap (λ (b : Bool). standing_of reads (f (get_or packages i p)) b
    ∷ standings_of reads (map f (drop (i + 1) packages)) (drop 1 marks)) (sym is_mark)
    ∙ ap (λ (bs : List Bool). standing_of reads (f (get_or packages i p)) mark
    ∷ standings_of reads (map f (drop (i + 1) packages)) bs) (sym is_behind)
    ∙ ap (λ (s : Standing). s ∷ rest) (sym is_x) in
    ap (λ (l : List Standing). l ++ rest) is_more ∙ append_assoc done (x ∷ []) rest
    ∙ ap (λ (l : List Standing). done ++ l) (sym first) ∙ before
