use Rattle.std.proofs.Common.{◌≡◌, ℕ, List, [], ◌∷◌, Bor, map, refl, ap₂, rules}
use Rattle.std.specs.List.{AllZip}
use Rattle.std.proofs.lemmas.Result.{IfOk-weaker}
use Rattle.desk_lists.proofs.duty.copies.Goals as goal

copied : (R : Bor (List ℕ) → List ℕ → Type 0)
    → ((x : Bor (List ℕ)) (y : List ℕ) → R x y → y ≡ x.now)
    → (xs : List (Bor (List ℕ))) (ys : List (List ℕ)) → AllZip R xs ys → ys ≡ map (λ x. x.now) xs
copied R is [] [] zip = refl
copied R is [] (y ∷ ys) zip = absurd zip
copied R is (x ∷ xs) [] zip = absurd zip
copied R is (x ∷ xs) (y ∷ ys) zip = ap₂ (λ z zs. z ∷ zs) (is x y zip.0) (copied R is xs ys zip.1)

pub returns : goal.returns
returns c = IfOk-weaker c.try_map.result _ _
    (λ ys zip. copied _ (λ x y w. search rules) c.args.texts ys zip.whole) c.try_map.ensures.ok
