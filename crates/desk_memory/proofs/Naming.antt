-- Documents by their namespaces.
use Rattle.std.proofs.Common.{◌≡◌, ℕ, List, [], ◌∷◌, ◌++◌, length, true, sym, ap, ◌∙◌}
use Rattle.std.specs.Prelude.{find}
use Rattle.std.specs.List.{position_from}
use Rattle.std.specs.Option.{option_map}
use Rattle.std.specs.Str.{bytes_eq}
use Rattle.desk_model.specs.Lists.{put, ascends}
use Rattle.desk_model.specs.Keys.{below_by, has_namespace}
use Rattle.desk_model.specs.declared.row.DocumentRow.{DocumentRow}
use Rattle.desk_memory.specs.declared.keys.NamespacePlace.{NamespacePlace}
use Rattle.desk_memory.specs.Namespaces.{is_named, namespace_order}
use Rattle.desk_memory.specs.NamespaceLaws.{namespace_total, named_alike}
use Rattle.desk_sorted.proofs.Placing.{place_kept}
use Rattle.desk_model.proofs.Orders.{order_of}

pub named_more : (namespace : List ℕ) (entries held after : List NamespacePlace)
    (rows kept grown : List DocumentRow) (row : DocumentRow) (name : List ℕ) (place : ℕ)
    → ascends (below_by namespace_order) entries ≡ true
    → option_map (λ entry. entry.place) (find (is_named namespace) entries)
    ≡ position_from (has_namespace namespace) 0 rows → name ≡ row.namespace → held ≡ entries
    → kept ≡ rows → place ≡ length kept
    → after ≡ put (below_by namespace_order) (record { namespace = name; place = place }) held
    → grown ≡ kept ++ row ∷ [] → option_map (λ entry. entry.place) (find (is_named namespace) after)
    ≡ position_from (has_namespace namespace) 0 grown
named_more namespace entries held after rows kept grown row name place up placed same e f at g h =
    let entry : NamespacePlace = record { namespace = name; place = place } in
    let put_in : after ≡ put (below_by namespace_order) entry entries = g
    ∙ ap (put (below_by namespace_order) entry) e in
    let pushed : grown ≡ rows ++ row ∷ [] = h ∙ ap (λ xs. xs ++ row ∷ []) f in
    ap (λ xs. option_map (λ (x : NamespacePlace). x.place) (find (is_named namespace) xs)) put_in
    ∙ (place_kept (below_by namespace_order) (order_of namespace_total) (is_named namespace)
    (named_alike namespace) (has_namespace namespace) (λ x. x.place) entry entries row rows up
    (ap (λ x. bytes_eq x namespace) same) (at ∙ ap length f) placed
    ∙ ap (position_from (has_namespace namespace) 0) (sym pushed))
