-- Joined licences spell All of what each spells.
use Rattle.std.proofs.Common.{◌≡◌, ◌∙◌, ℕ, ◌≤◌, List, [], ◌∷◌, ◌++◌, length, sym, subst, ap, refl, arith}
use Rattle.std.proofs.Common.{codes, append_assoc}
use Rattle.desk_base.specs.declared.profile.Profile.TheVariants.{Capitals}
use Rattle.desk_expr.specs.Listed.{EachSpells}
use Rattle.desk_expr.specs.Spelling.{Spells, SpellsWithin}
use Rattle.desk_expr.specs.Tree.{Tree, all, parts_of}
use Rattle.desk_expr.proofs.Groups.{groups, groups_spell}
use Rattle.desk_expr.proofs.ParseLemmas.{spells_once}
use Rattle.desk_tree_document.specs.Texts.{expression_of, others_joined}

are_groups : (t : List ℕ) (ts : List (List ℕ))
    → codes "(" ++ (t ++ (codes ")" ++ others_joined ts)) ≡ groups t ts
are_groups t [] = refl
are_groups t (u ∷ us) =
    ap (λ l. codes "(" ++ (t ++ (codes ")" ++ (codes " AND " ++ l)))) (are_groups u us)
    ∙ ap (λ l. codes "(" ++ l) (sym (append_assoc t (codes ")") (codes " AND " ++ groups u us)))

pub joined_spells : (licences : List (List ℕ)) (trees : List Tree) → 2 ≤ length licences
    → EachSpells licences trees → Spells (expression_of licences) (all (parts_of trees))
joined_spells [] trees two each = absurd (omega arith)
joined_spells (t ∷ []) trees two each = absurd (omega arith)
joined_spells (t ∷ u ∷ us) [] two each = absurd each
joined_spells (t ∷ u ∷ us) (e ∷ []) two each = absurd each.1
joined_spells (t ∷ u ∷ us) (e ∷ f ∷ es) two each =
    subst (λ text. Spells text (all (parts_of (e ∷ f ∷ es)))) (sym (are_groups t (u ∷ us)))
    (groups_spell t (u ∷ us) e (f ∷ es) each.0 each.1)

pub joined_read : (licences : List (List ℕ)) (trees : List Tree) → 2 ≤ length licences
    → EachSpells licences trees → (e : Tree) → SpellsWithin (expression_of licences) e
    → e ≡ all (parts_of trees)
joined_read licences trees two each e within =
    spells_once Capitals (expression_of licences) e (all (parts_of trees))
    (within.1, within.2, within.3) (joined_spells licences trees two each)
