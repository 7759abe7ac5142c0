-- Readings of values.
use Rattle.std.proofs.Common.{◌≡◌, ℕ, Bool, true, List, ap, refl}
use Rattle.std.specs.Prelude.{◌↔◌, Option, Some, None, Contains}
use Rattle.std.specs.List.{list_any}
use Rattle.std.proofs.lemmas.List.Folds.{Any-from_list_any, list_any-from_Any}
use Rattle.desk_base.specs.declared.profile.Profile.{Profile}
use Rattle.desk_base.proofs.Bools.{same_answer}
use Rattle.desk_expr.specs.Tree.{Tree}
use Rattle.desk_expr.specs.Spelling.{SpellsBy, SpellsWithinBy}
use Rattle.desk_findings.specs.Fields.{IsRead}

-- if the text spells at most one tree, a value that spells one is read as it
pub read_as : (profile : Profile) (text : List ℕ) (e : Tree) (o : Option Tree)
    → SpellsWithinBy profile text e → IsRead profile text o
    → ((a b : Tree) → SpellsBy profile text a → SpellsBy profile text b → a ≡ b) → Some e ≡ o
read_as profile text e None spelled is only = absurd (is e spelled)
read_as profile text e (Some a) spelled is only = ap (λ t. Some t)
    (only e a (spelled.1, spelled.2, spelled.3) (is.1, is.2, is.3))

pub read_as_none : (profile : Profile) (text : List ℕ) (o : Option Tree)
    → ((e : Tree) → SpellsWithinBy profile text e → ⊥) → IsRead profile text o → None ≡ o
read_as_none profile text None never is = refl
read_as_none profile text (Some e) never is = absurd (never e is)

any_goes : {X : Type 0} (p : X → Bool) (xs ys : List X) → ((x : X) → Contains xs x → Contains ys x)
    → list_any p xs ≡ true → list_any p ys ≡ true
any_goes p xs ys goes h =
    let some = Any-from_list_any p xs h in
    let there = goes some.1 (some.0, some.2, some.3) in
    list_any-from_Any p ys (there.0, some.1, there.1, there.2, some.4)

pub any_same : {X : Type 0} (p : X → Bool) (xs ys : List X)
    → ((x : X) → Contains xs x ↔ Contains ys x) → list_any p xs ≡ list_any p ys
any_same p xs ys same = same_answer (list_any p xs) (list_any p ys)
    (any_goes p xs ys (λ x. (same x).0)) (any_goes p ys xs (λ x. (same x).1))
