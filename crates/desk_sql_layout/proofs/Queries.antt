-- What a query on one table answers.
use Rattle.std.proofs.Common.{◌≡◌, ℕ, pos, negsuc, Bool, true, false, List, [], ◌∷◌, map, filter}
use Rattle.std.proofs.Common.{flat_map, None, refl, ap, subst, ◌∙◌}
use Rattle.std.specs.Prelude.{nat_le, ◌^◌, if◌then◌else◌}
use Rattle.std.specs.List.{list_all}
use Rattle.std.specs.List.Sorted.{IsPermutation, IsSorted}
use Rattle.sqlite_value.specs.declared.value.Value.TheVariants.{Int}
use Rattle.sqlite_value.specs.declared.keys.Key.{Key}
use Rattle.sqlite_value.specs.Order.{Row}
use Rattle.sqlite_trees.specs.Tree.{Trees}
use Rattle.sqlite_trees.proofs.ListLemmas.{map-map}
use Rattle.sqlite_sql.specs.Term.{Term, Env, lit, holds}
use Rattle.sqlite_sql.specs.Query.{Query, inner, end, IsAnswer, Output, output, output_cmp}
use Rattle.sqlite_sql.specs.Program.{overlay}

abbrev pub query_on : ℕ → List Term → List Term → List (Term × Key) → Query
query_on tree tests project order = record {
  from = inner tree end;
  filter = tests;
  group = None;
  project = project;
  distinct = false;
  collations = [];
  order = order;
  limit = lit (Int (negsuc 0));
  offset = lit (Int (pos 0));
}

abbrev pub passes : List Term → Row → Row → Bool
passes tests params r = list_all (holds (params ∷ r ∷ [])) tests

abbrev pub env : Row → Row → Env
env params r = params ∷ r ∷ []

pub overlaid : (db : Trees) (t : ℕ) → overlay db [] t ≡ db t
overlaid db t = go (nat_le (2 ^ 31) t) refl
  where
    go : (b : Bool) → nat_le (2 ^ 31) t ≡ b → overlay db [] t ≡ db t
    go true is = rw is refl
    go false is = rw is refl

matched : (tests : List Term) (params : Row) (rows : List Row)
    → flat_map (λ r. if passes tests params r then env params r ∷ [] else []) rows
    ≡ map (env params) (filter (passes tests params) rows)
matched tests params [] = refl
matched tests params (r ∷ rows) = go (matched tests params rows) (passes tests params r) refl
  where
    go : flat_map (λ r. if passes tests params r then env params r ∷ [] else []) rows
        ≡ map (env params) (filter (passes tests params) rows) → (b : Bool)
        → passes tests params r ≡ b
        → flat_map (λ r. if passes tests params r then env params r ∷ [] else []) (r ∷ rows)
        ≡ map (env params) (filter (passes tests params) (r ∷ rows))
    go more true is = rw is (ap (λ l. env params r ∷ l) more)
    go more false is = rw is more

-- the rows that pass, as they are shown, in the order that was asked for
pub record Selected (q : Query) (params : Row) (stored rows : List Row) : Type 0 where
  pub ordered : List Output
  pub same : IsPermutation (map (λ r. output q (env params r))
      (filter (passes q.filter params) stored)) ordered
  pub sorted : IsSorted (output_cmp q) ordered
  pub shown : rows ≡ map (λ o. o.1) ordered

pub selected : (tree : ℕ) (tests project : List Term) (order : List (Term × Key)) (db : Trees)
    (params : Row) (rows : List Row)
    → IsAnswer (query_on tree tests project order) (overlay db []) params rows
    → Selected (query_on tree tests project order) params (db tree) rows
selected tree tests project order db params rows a =
    let q = query_on tree tests project order in
    let staged : a.staged ≡ map (env params) (filter (passes tests params) (db tree)) = a.grouped
    ∙ ap (flat_map (λ r. if passes tests params r then env params r ∷ [] else []))
    (overlaid db tree) ∙ matched tests params (db tree) in
    let kept : a.kept ≡ map (λ r. output q (env params r)) (filter (passes tests params)
    (db tree)) = a.distinct ∙ ap (map (output q)) staged
    ∙ map-map (output q) (env params) (filter (passes tests params) (db tree)) in
    record {
      ordered = a.ordered;
      same = subst (λ k. IsPermutation k a.ordered) kept a.same;
      sorted = a.sorted;
      shown = a.shown;
    }
