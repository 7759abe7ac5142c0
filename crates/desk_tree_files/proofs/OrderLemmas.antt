-- Paths in their order.
use Rattle.std.proofs.Common.{◌∙◌, ◌+◌, ◌<◌, List, [], ◌∷◌, length, map, ap₂, subst, arith}
use Rattle.std.specs.Prelude.{Result, Ok, Err, IfOk}
use Rattle.std.specs.declared.cmp.Ordering.{Ordering}
use Rattle.std.specs.Ordering.{is_lt, on}
use Rattle.std.specs.List.Sorted.{IsSorted}
use Rattle.std.proofs.lemmas.List.{get_or-map, length-map}

pub sorted_map : {X K : Type 0} (f : X → K) (R : K → K → Ordering) (xs : List X)
    → IsSorted (on f R) xs → IsSorted R (map f xs)
sorted_map f R [] h k d low within = absurd (omega (arith, within))
sorted_map f R (x ∷ xs) h k d low within =
    let inside : k + 1 < length (x ∷ xs) = subst (λ n. k + 1 < n) (length-map (x ∷ xs) f) within in
    ap₂ (λ a b. is_lt (R a b)) (get_or-map f (x ∷ xs) (k + 1) x d inside)
    (get_or-map f (x ∷ xs) k x d (omega (arith, inside))) ∙ h k x low inside

-- what follows from a call that succeeded
pub ok_along : {T E : Type 0} {P Q : T → Type 0} (result : Result T E) → IfOk result P
    → ((x : T) → P x → Q x) → IfOk result Q
ok_along (Ok x) holds next = next x holds
ok_along (Err e) holds next = tt
