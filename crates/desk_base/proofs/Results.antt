-- Lists that are read one by one, up to the first fault.
use Rattle.std.proofs.Common.{◌≡◌, List, [], ◌∷◌, ◌++◌, Result, Ok, Err, sym, refl, ap, OnErr}
use Rattle.std.proofs.Common.{append_assoc}
use Rattle.std.proofs.Common.{ℕ, if◌then◌else◌, is_ok, OnOk}
use Rattle.desk_base.specs.Results.{followed}

-- the items that are read, after those that were
abbrev pub onto : {A F : Type 0} → List A → Result (List A) F → Result (List A) F
onto done (Ok xs) = Ok (done ++ xs)
onto done (Err fault) = Err fault

pub onto-nil : {A F : Type 0} (r : Result (List A) F) → onto [] r ≡ r
onto-nil (Ok xs) = refl
onto-nil (Err fault) = refl

pub onto-followed : {A F : Type 0} (done : List A) (x : A) (r : Result (List A) F)
    → onto done (followed (Ok x) r) ≡ onto (done ++ x ∷ []) r
onto-followed done x (Ok xs) = ap Ok (sym (append_assoc done (x ∷ []) xs))
onto-followed done x (Err fault) = refl

-- the items after a call that succeeded
pub OnOk-items : {A E : Type 0} (r : Result A E) (items more same : List ℕ)
    → items ≡ (if is_ok r then more else same) → OnOk r (items ≡ more)
OnOk-items (Ok x) items more same e = e
OnOk-items (Err y) items more same e = tt

-- a fact that is true whatever the result is
pub OnErr-always : {A E : Type 0} {P : Type 0} (r : Result A E) → P → OnErr r P
OnErr-always (Ok x) p = tt
OnErr-always (Err e) p = p
