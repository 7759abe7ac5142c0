-- The rests of a path after its slashes.
use Rattle.std.proofs.Common.{◌≡◌, ◌≢◌, ◌∙◌, ℕ, suc, ◌<◌, false, cond, eqb, List, [], ◌∷◌, ◌++◌}
use Rattle.std.proofs.Common.{length, get_or, ap, refl, arith}
use Rattle.std.proofs.lemmas.Bool.Decides.{nat_tests}
use Rattle.desk_tree_infos.specs.Information.{rests}

abbrev NoSlash : List ℕ → Type 0
NoSlash path = (i : ℕ) → i < length path → get_or path i 0 ≢ 47

no_slash : (b : ℕ) (bs : List ℕ) → NoSlash (b ∷ bs) → eqb b 47 ≡ false
no_slash b bs none = let first : b ≢ 47 = none 0 (omega arith) in grind (arith, nat_tests)

tail_no_slash : (b : ℕ) (bs : List ℕ) → NoSlash (b ∷ bs) → NoSlash bs
tail_no_slash b bs none i within = none (suc i) (omega arith)

pub rests-none : (path : List ℕ) → NoSlash path → rests path ≡ []
rests-none [] none = refl
rests-none (b ∷ bs) none = ap (λ t. cond t (bs ∷ rests bs) (rests bs)) (no_slash b bs none)
    ∙ rests-none bs (tail_no_slash b bs none)

pub rests-cut : (before after : List ℕ) → NoSlash before
    → rests (before ++ (47 ∷ after)) ≡ after ∷ rests after
rests-cut [] after none = refl
rests-cut (b ∷ bs) after none =
    ap (λ t. cond t ((bs ++ (47 ∷ after)) ∷ rests (bs ++ (47 ∷ after)))
    (rests (bs ++ (47 ∷ after)))) (no_slash b bs none)
    ∙ rests-cut bs after (tail_no_slash b bs none)
