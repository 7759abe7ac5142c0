-- Some element from a place on passes.
use Rattle.std.proofs.Common.{◌≡◌, ℕ, ◌+◌, ◌<◌, Bool, true, false, List, length, drop, ap, ◌∙◌, sym, refl}
use Rattle.std.proofs.Common.{slice_index_or}
use Rattle.std.specs.Prelude.{map, ◌||◌}
use Rattle.std.specs.List.{list_any}
use Rattle.std.proofs.lemmas.List.{drop_more}

-- the element at a place, or one after it
pub any-map-drop : {X Y : Type 0} → (f : Y → Bool) (g : X → Y) (xs : List X) (i : ℕ) (d : X)
    → i < length xs
    → list_any f (map g (drop i xs))
    ≡ (f (g (slice_index_or xs i d)) || list_any f (map g (drop (i + 1) xs)))
any-map-drop f g xs i d fits = ap (λ l. list_any f (map g l)) (drop_more xs i d fits)

-- the element passes: so does some element of the whole
pub any-here : {X Y : Type 0} → (f : Y → Bool) (g : X → Y) (xs : List X) (i : ℕ) (d : X)
    → i < length xs → f (g (slice_index_or xs i d)) ≡ true
    → list_any f (map g (drop i xs)) ≡ true
any-here f g xs i d fits e = any-map-drop f g xs i d fits ∙ (rw e refl)

-- it doesn't: what comes after it decides
pub any-later : {X Y : Type 0} → (f : Y → Bool) (g : X → Y) (xs : List X) (i : ℕ) (d : X)
    → i < length xs → f (g (slice_index_or xs i d)) ≡ false
    → list_any f (map g (drop (i + 1) xs)) ≡ list_any f (map g (drop i xs))
any-later f g xs i d fits e = sym (any-map-drop f g xs i d fits ∙ (rw e refl))
