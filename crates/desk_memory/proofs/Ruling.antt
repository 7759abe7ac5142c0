-- Rules by revision, term and form.
use Rattle.std.proofs.Common.{◌≡◌, ℕ, ◌+◌, Bool, true, false, cond, List, [], ◌∷◌, ◌++◌, length}
use Rattle.std.proofs.Common.{map, Some, sym, refl, ap, ◌∙◌, arith, append_assoc, append-nil}
use Rattle.std.proofs.Common.{length-append}
use Rattle.std.specs.Prelude.{find, filter, ◌==◌, ◌&&◌}
use Rattle.std.specs.List.{position_from}
use Rattle.std.specs.Option.{option_map}
use Rattle.std.specs.Str.{bytes_eq}
use Rattle.desk_model.specs.Lists.{put, ascends}
use Rattle.desk_model.specs.Keys.{below_by, is_rule, is_rule_of, is_rule_at}
use Rattle.desk_model.specs.declared.row.RuleRow.{RuleRow}
use Rattle.desk_history.specs.FromTables.{rule_of}
use Rattle.desk_memory.specs.declared.keys.RulePlace.{RulePlace}
use Rattle.desk_sorted.specs.Sorted.{put_in_turn}
use Rattle.desk_memory.specs.RulePlaces.{is_placed, rule_order, rule_places}
use Rattle.desk_memory.specs.RuleLaws.{rule_total, placed_alike}
use Rattle.desk_sorted.proofs.Placing.{place_kept}
use Rattle.desk_model.proofs.Orders.{order_of, ascends-put}

and_assoc : (a b c : Bool) → ((a && b) && c) ≡ (a && (b && c))
and_assoc true b c = refl
and_assoc false b c = refl

-- more rules, each with its place
places_more : (revision : ℕ) (term form : List ℕ) (entries : List RulePlace)
    (rows more : List RuleRow) (n : ℕ) → ascends (below_by rule_order) entries ≡ true
    → option_map (λ entry. entry.place) (find (is_placed revision term form) entries)
    ≡ position_from (is_rule_at revision term form) 0 rows → n ≡ length rows
    → option_map (λ entry. entry.place)
    (find (is_placed revision term form)
    (put_in_turn (below_by rule_order) (rule_places n more) entries))
    ≡ position_from (is_rule_at revision term form) 0 (rows ++ more)
places_more revision term form entries rows [] n up placed at = placed
    ∙ ap (position_from (is_rule_at revision term form) 0) (sym (append-nil rows))
places_more revision term form entries rows (row ∷ more) n up placed at =
    let entry : RulePlace = record {
      revision = row.revision;
      term = row.term;
      form = row.form;
      place = n;
    } in
    let next : n + 1 ≡ length (rows ++ row ∷ []) =
    omega (arith, at, length-append rows (row ∷ [])) in
    places_more revision term form (put (below_by rule_order) entry entries) (rows ++ row ∷ []) more
    (n + 1) (ascends-put (below_by rule_order) (order_of rule_total) entry entries up)
    (place_kept (below_by rule_order) (order_of rule_total) (is_placed revision term form)
    (placed_alike revision term form) (is_rule_at revision term form) (λ x. x.place) entry entries
    row rows up
    (and_assoc (row.revision == revision) (bytes_eq row.term term) (bytes_eq row.form form)) at
    placed)
    next
    ∙ ap (position_from (is_rule_at revision term form) 0) (append_assoc rows (row ∷ []) more)

pub rules_more : (revision : ℕ) (term form : List ℕ) (entries held after places : List RulePlace)
    (rows grown more : List RuleRow) (n : ℕ) → ascends (below_by rule_order) entries ≡ true
    → option_map (λ entry. entry.place) (find (is_placed revision term form) entries)
    ≡ position_from (is_rule_at revision term form) 0 rows → places ≡ rule_places n more
    → n ≡ length rows → held ≡ entries → after ≡ put_in_turn (below_by rule_order) places held
    → grown ≡ rows ++ more → option_map (λ entry. entry.place)
    (find (is_placed revision term form) after)
    ≡ position_from (is_rule_at revision term form) 0 grown
rules_more revision term form entries held after places rows grown more n up placed made at e g h =
    let all : after ≡ put_in_turn (below_by rule_order) (rule_places n more) entries = g
    ∙ (ap (λ xs. put_in_turn (below_by rule_order) xs held) made
    ∙ ap (put_in_turn (below_by rule_order) (rule_places n more)) e) in
    ap (λ xs. option_map (λ (x : RulePlace). x.place) (find (is_placed revision term form) xs)) all
    ∙ (places_more revision term form entries rows more n up placed at
    ∙ ap (position_from (is_rule_at revision term form) 0) (sym h))

-- a rule among those of its revision
rule_step : (revision : ℕ) (term form : List ℕ) (row : RuleRow) (rows : List RuleRow) (a d : Bool)
    → option_map rule_of (find (is_rule_at revision term form) rows)
    ≡ find (is_rule term form) (map rule_of (filter (is_rule_of revision) rows))
    → is_rule term form (rule_of row) ≡ d
    → option_map rule_of (cond (a && d) (Some row) (find (is_rule_at revision term form) rows))
    ≡ find (is_rule term form) (map rule_of
    (cond a (row ∷ filter (is_rule_of revision) rows) (filter (is_rule_of revision) rows)))
rule_step revision term form row rows true true rest e = rw e refl
rule_step revision term form row rows true false rest e = rw e rest
rule_step revision term form row rows false d rest e = rest

pub rule_found : (revision : ℕ) (term form : List ℕ) (rows : List RuleRow)
    → option_map rule_of (find (is_rule_at revision term form) rows)
    ≡ find (is_rule term form) (map rule_of (filter (is_rule_of revision) rows))
rule_found revision term form [] = refl
rule_found revision term form (row ∷ rows) =
    rule_step revision term form row rows (row.revision == revision)
    (bytes_eq row.term term && bytes_eq row.form form) (rule_found revision term form rows) refl
