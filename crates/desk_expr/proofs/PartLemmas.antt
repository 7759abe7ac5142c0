-- An Any or an All, by its list of parts.
use Rattle.std.proofs.Common.{inl, inr, zero, suc, ◌<◌, ◌≡◌, ℕ, List, [], ◌∷◌, length, get_or, refl}
use Rattle.std.proofs.Common.{arith, subst, sym}
use Rattle.std.specs.Prelude.{◌↔◌, All}
use Rattle.std.specs.List.{Any}
use Rattle.std.proofs.lemmas.List.Elements.{All-nil, All-cons, All-head, All-tail}
use Rattle.desk_expr.specs.declared.term.Term.{Term}
use Rattle.desk_expr.specs.Meaning.{Holds, AllHold, SomeHolds}
use Rattle.desk_expr.specs.Tree.{Tree, all, any, parts_of}

each_to : (set : Term → Type 0) (ts : List Tree) → AllHold set (parts_of ts) → All (Holds set) ts
each_to set [] h = All-nil (Holds set)
each_to set (t ∷ ts) h = All-cons (Holds set) t ts h.0 (each_to set ts h.1)

each_from : (set : Term → Type 0) (ts : List Tree) → All (Holds set) ts → AllHold set (parts_of ts)
each_from set [] h = tt
each_from set (t ∷ ts) h =
    (All-head (Holds set) t ts h, each_from set ts (All-tail (Holds set) t ts h))

later : {X : Type 0} (P : X → Type 0) (x : X) (xs : List X) → Any P xs → Any P (x ∷ xs)
later P x xs h = let within : suc h.0 < length (x ∷ xs) = omega (arith, h.2) in
    (suc h.0, h.1, within, h.3, h.4)

some_to : (set : Term → Type 0) (ts : List Tree) → SomeHolds set (parts_of ts) → Any (Holds set) ts
some_to set [] h = absurd h
some_to set (t ∷ ts) (inl h) = let within : 0 < length (t ∷ ts) = omega arith in
    (0, t, within, refl, h)
some_to set (t ∷ ts) (inr h) = later (Holds set) t ts (some_to set ts h)

some_from : (set : Term → Type 0) (ts : List Tree) (k : ℕ) (x : Tree) → k < length ts
    → get_or ts k x ≡ x → Holds set x → SomeHolds set (parts_of ts)
some_from set [] k x lt is h = absurd (omega arith)
some_from set (t ∷ ts) zero x lt is h = inl (subst (Holds set) (sym is) h)
some_from set (t ∷ ts) (suc k) x lt is h = inr (some_from set ts k x (omega (arith, lt)) is h)

pub each_part : (set : Term → Type 0) (ts : List Tree)
    → Holds set (all (parts_of ts)) ↔ All (Holds set) ts
each_part set ts = (each_to set ts, each_from set ts)

pub some_part : (set : Term → Type 0) (ts : List Tree)
    → Holds set (any (parts_of ts)) ↔ Any (Holds set) ts
some_part set ts = (some_to set ts, λ h. some_from set ts h.0 h.1 h.2 h.3 h.4)
