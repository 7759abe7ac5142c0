-- Whether bytes begin with a front, as shown by stripping it.
use Rattle.std.proofs.Common.{◌≡◌, ◌∙◌, ℕ, true, false, List, ◌++◌, length, take, drop, sym, ap}
use Rattle.std.specs.Str.{bytes_eq}
use Rattle.std.proofs.Math.Seq.{take-append_seam}
use Rattle.std.proofs.lemmas.Bool.{false≢true}
use Rattle.std.proofs.lemmas.List.{take-append-drop}
use Rattle.std.proofs.lemmas.Slice.Eq.{bytes_eq-Decides}

-- a front that is there, and one that isn't
pub front_there : (s p x : List ℕ) → bytes_eq (take (length p) s) p ≡ true → x ≡ drop (length p) s
    → s ≡ p ++ x
front_there s p x same rest =
    sym (take-append-drop (length p) s)
    ∙ ap (λ l. l ++ drop (length p) s) ((bytes_eq-Decides (take (length p) s) p).0 same)
    ∙ ap (λ l. p ++ l) (sym rest)

pub front_absent : (s p rest : List ℕ) → bytes_eq (take (length p) s) p ≡ false → s ≡ p ++ rest → ⊥
front_absent s p rest other is =
    false≢true (sym other ∙ (bytes_eq-Decides (take (length p) s) p).1
    (ap (take (length p)) is ∙ take-append_seam p rest))
