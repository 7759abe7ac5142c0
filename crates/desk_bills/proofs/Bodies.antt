-- The bodies of texts: those of licences were looked up first, and the others as they come.
use Rattle.std.proofs.Common.{◌≡◌, ℕ, List, [], ◌∷◌, map, length, replicate, Option, None, refl}
use Rattle.std.specs.Prelude.{Result, Ok, Err, IfOk}
use Rattle.desk_model.specs.declared.command.Fault.{Fault}
use Rattle.desk_model.specs.Tables.{Tables}
use Rattle.desk_access.specs.Seen.{Seen, Same, Looked, OfRows}
use denote.Ref.{Bor}

-- what follows from something that was looked up first
pub read_then : {Left A B : Type 0} (a b c : Seen Left) (x : A) (want : Tables → A)
    (r : Result B Fault) (Is : Tables → B → Tables → Type 0) → Same a b
    → OfRows (λ t. x ≡ want t) a b → Looked b c r
    → ((t : Tables) → x ≡ want t → IfOk r (λ found. OfRows (Is t found) b c))
    → IfOk r (λ found. OfRows (λ t. Is t found t) a c)
read_then a b c x want (Ok found) Is same is looked next = λ h t held. next t
    (is (looked.kept.spared.honest h) t held) h t (same.kept.spared.holds t held)
read_then a b c x want (Err fault) Is same is looked next = tt

-- for texts that are borrowed
pub map_borrowed : {B : Type 0} (f : List ℕ → B) (ids : List (Bor (List ℕ)))
    → map (λ id. f id.now) ids ≡ map f (map (λ id. id.now) ids)
map_borrowed f [] = refl
map_borrowed f (id ∷ ids) = λ i. f id.now ∷ map_borrowed f ids i

-- none for each
pub none_for : {A B : Type 0} (xs : List A) (o : Option B) → o ≡ None
    → replicate (length xs) o ≡ map (λ _. None) xs
none_for [] o is = refl
none_for (x ∷ xs) o is = λ i. is i ∷ none_for xs o is i
