-- Names kept by their parts.
use Rattle.std.proofs.Common.{◌≡◌, ◌∙◌, ℕ, zero, suc, ◌<◌, List, [], ◌∷◌, ◌++◌, length, get_or, ap}
use Rattle.std.proofs.Common.{sym, refl, arith, Option}
use Rattle.std.proofs.lemmas.List.{get_or_default}
use Rattle.desk_tree_lint.specs.declared.naming.Name.{Name}
use Rattle.desk_tree_lint.specs.Names.{names_in}

pub names_long : (ids : List (List ℕ)) (paths : List (Option (List ℕ))) → length ids ≡ length paths
    → length (names_in ids paths) ≡ length paths
names_long [] [] same = refl
names_long [] (p ∷ paths) same = absurd (omega (arith, same))
names_long (id ∷ ids) [] same = absurd (omega (arith, same))
names_long (id ∷ ids) (p ∷ paths) same = ap suc (names_long ids paths (omega (arith, same)))

pub names_more : (ids : List (List ℕ)) (paths : List (Option (List ℕ))) (id : List ℕ)
    (path : Option (List ℕ)) → length ids ≡ length paths
    → names_in (ids ++ id ∷ []) (paths ++ path ∷ []) ≡ names_in ids paths
    ++ (record { id = id; path = path }) ∷ []
names_more [] [] id path same = refl
names_more [] (p ∷ paths) id path same = absurd (omega (arith, same))
names_more (i ∷ ids) [] id path same = absurd (omega (arith, same))
names_more (i ∷ ids) (p ∷ paths) id path same = ap (λ (l : List Name). (record { id = i; path = p })
    ∷ l) (names_more ids paths id path (omega (arith, same)))

pub name_at : (ids : List (List ℕ)) (paths : List (Option (List ℕ))) (i : ℕ) (d : Name)
    → length ids ≡ length paths → i < length paths
    → get_or (names_in ids paths) i d
    ≡ record { id = get_or ids i []; path = get_or paths i d.path }
name_at [] [] i d same within = absurd (omega (arith, within))
name_at [] (p ∷ paths) i d same within = absurd (omega (arith, same))
name_at (id ∷ ids) [] i d same within = absurd (omega (arith, same))
name_at (id ∷ ids) (p ∷ paths) zero d same within = refl
name_at (id ∷ ids) (p ∷ paths) (suc i) d same within = name_at ids paths i d (omega (arith, same))
    (omega (arith, within))

-- a name that is put together from what stands at a place
pub name_there : (ids : List (List ℕ)) (paths : List (Option (List ℕ))) (names : List Name) (i : ℕ)
    (id : List ℕ) (path : Option (List ℕ)) (d : Option (List ℕ)) → length ids ≡ length paths
    → names_in ids paths ≡ names → i < length names
    → id ≡ get_or ids i [] → path ≡ get_or paths i d
    → record { id = id; path = path } ≡ get_or names i (record { id = id; path = path })
name_there ids paths names i id path d same are within is_id is_path =
    let inside : i < length paths =
    omega (arith, within, ap length are, names_long ids paths same) in
    (λ j. record { id = is_id j; path = (is_path ∙ get_or_default paths i d path inside) j })
    ∙ sym (name_at ids paths i (record { id = id; path = path }) same inside)
    ∙ ap (λ l. get_or l i (record { id = id; path = path })) are
