-- The order of sets, and which of equally cheap sets is chosen.
use Rattle.std.proofs.Common.{◌≡◌, ◌∙◌, ◌⊎◌, ℕ, ◌<◌, List, [], ◌∷◌, ◌++◌, length, ap}
use Rattle.std.proofs.Common.{arith, length-append, ⊎_elim}
use Rattle.std.specs.Prelude.{Contains, Option}
use Rattle.std.specs.declared.cmp.Ordering.TheVariants.{Less, Equal}
use Rattle.std.specs.Cmp.Lexicographic.{slice_cmp}
use Rattle.std.specs.Ordering.{nat_cmp, ordering_then}
use Rattle.desk_base.proofs.Orders.{same_numbers}
use Rattle.desk_expr.specs.declared.term.Term.{Term}
use Rattle.desk_expr.specs.Meaning.{Holds}
use Rattle.desk_expr.specs.Occurring.{term_order}
use Rattle.desk_expr.specs.Tree.{Tree}
use Rattle.desk_alts.proofs.TableLemmas.{ranks_with_itself}
use Rattle.desk_alts.specs.Costs.{HasCosts, IsCheapest, set_cost}
use Rattle.desk_alts.specs.Sets.{IsTermSet, set_order}

terms_decide : (front s r : List Term) (t u : Term) → term_order t u ≡ Less
    → slice_cmp term_order (front ++ (t ∷ s)) (front ++ (u ∷ r)) ≡ Less
terms_decide [] s r t u less = ap (λ o. ordering_then o (slice_cmp term_order s r)) less
terms_decide (x ∷ front) s r t u less =
    ap (λ o. ordering_then o (slice_cmp term_order (front ++ (t ∷ s)) (front ++ (u ∷ r))))
    (ranks_with_itself x) ∙ terms_decide front s r t u less

pub terms_decide_last : (front s r : List Term) (t u : Term) → length s ≡ length r
    → term_order t u ≡ Less → set_order (front ++ (t ∷ s)) (front ++ (u ∷ r)) ≡ Less
terms_decide_last front s r t u long less =
    let sizes : length (front ++ (t ∷ s)) ≡ length (front ++ (u ∷ r)) =
    omega (arith, length-append front (t ∷ s), length-append front (u ∷ r)) in
    ap (λ o. ordering_then o (slice_cmp term_order (front ++ (t ∷ s)) (front ++ (u ∷ r))))
    (same_numbers (length (front ++ (t ∷ s))) (length (front ++ (u ∷ r))) sizes)
    ∙ terms_decide front s r t u less

pub first_of_cost : (cost : Term → Option ℕ) (e : Tree) (price : ℕ) (set s : List Term)
    → IsCheapest cost e price set → IsTermSet s → Holds (Contains s) e → HasCosts cost s
    → set_cost cost s ≡ price → (set ≡ s) ⊎ (set_order set s ≡ Less)
first_of_cost cost e price set s is ordered holds costs equal =
    ⊎_elim (λ (more : price < set_cost cost s). absurd (omega (arith, more, equal))) (λ same. same.1)
    (is.least s ordered holds costs)
