-- What is found in a list.
use Rattle.std.proofs.Common.{◌≡◌, ◌∙◌, ℕ, zero, suc, ◌+◌, ◌<◌, Bool, true, false, List, [], ◌∷◌}
use Rattle.std.proofs.Common.{find, Option, Some, None, Bor, sym, ap, refl, length, get_or, drop}
use Rattle.std.proofs.Common.{arith, add-one}
use Rattle.std.specs.List.{list_all, list_any}
use Rattle.std.specs.Option.{is_some, option_copied}
use Rattle.desk_sorted.proofs.Walking.{find_any}

some_copied : {X : Type 0} (found : Option (Bor X)) → is_some (option_copied found) ≡ is_some found
some_copied None = refl
some_copied (Some x) = refl

-- something was found if and only if something passes
pub found_is_any : {X : Type 0} (p : X → Bool) (xs : List X) (found : Option (Bor X))
    → option_copied found ≡ find p xs → is_some found ≡ list_any p xs
found_is_any p xs found is = sym (some_copied found) ∙ (ap is_some is ∙ find_any p xs)

all_from : {X : Type 0} (p : X → Bool) (xs : List X) (i : ℕ) (x : X) → i < length xs
    → p (get_or xs i x) ≡ true → list_all p (drop (i + 1) xs) ≡ list_all p (drop i xs)
all_from p [] i x within is = absurd (omega arith)
all_from p (y ∷ ys) zero x within is = rw is refl
all_from p (y ∷ ys) (suc i) x within is = rw add-one
    (let more = all_from p ys i x (omega arith) is in rw add-one at more)

none_from : {X : Type 0} (p : X → Bool) (xs : List X) (i : ℕ) (x : X) → i < length xs
    → p (get_or xs i x) ≡ false → list_all p (drop i xs) ≡ false
none_from p [] i x within is = absurd (omega arith)
none_from p (y ∷ ys) zero x within is = rw is refl
none_from p (y ∷ ys) (suc i) x within is = none_from p ys i x (omega arith) is

-- An item at a place was tested. If it passes, what holds for all from it on holds for all after
-- it; if it doesn't, not all pass.
pub all_behind : {X : Type 0} (p : X → Bool) (xs : List X) (i : ℕ) (x : X) (tested all : Bool)
    → i < length xs → x ≡ get_or xs i x → tested ≡ p x → tested ≡ true
    → list_all p (drop i xs) ≡ all
    → list_all p (drop (i + 1) xs) ≡ all
all_behind p xs i x tested all within at told is from = all_from p xs i x within
    (ap p (sym at) ∙ (sym told ∙ is)) ∙ from

pub not_all : {X : Type 0} (p : X → Bool) (xs : List X) (i : ℕ) (x : X) (tested all : Bool)
    → i < length xs → x ≡ get_or xs i x → tested ≡ p x → tested ≡ false
    → list_all p (drop i xs) ≡ all → false ≡ all
not_all p xs i x tested all within at told is from = sym (none_from p xs i x within
    (ap p (sym at) ∙ (sym told ∙ is))) ∙ from

pub passes : (tested told : Bool) → tested ≡ told → tested ≡ true → told ≡ true
passes tested told is holds = sym is ∙ holds
