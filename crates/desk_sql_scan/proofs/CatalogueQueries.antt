-- The revisions and rules of the catalogue, and the version of the tables: what is shown when all
-- of them are asked for.
use Rattle.desk_sql_layout.specs.Layout as d
use Rattle.std.proofs.Common.{◌≡◌, ℕ, pos, List, [], ◌∷◌, map, codes, refl}
use Rattle.std.specs.Ordering.{int_cmp, nat_cmp}
use Rattle.std.specs.Cmp.Lexicographic.{slice_cmp}
use Rattle.sqlite_value.specs.Order.{column}
use Rattle.sqlite_value.proofs.OrderLemmas.{value_cmp-Int, value_cmp-Text, then-Equal}
use Rattle.sqlite_sql.specs.Term.{col}
use Rattle.sqlite_resolve.specs.Compile.{first, returning}
use Rattle.sqlite_tied.specs.Compute.{everything}
use Rattle.desk_history.specs.Laws.{AreSortedAsListed, revision_below}
use Rattle.desk_snapshot.specs.Tables.{catalogue_stored, rule_stored}
use Rattle.desk_sql_layout.proofs.Selects.{order_by}
use Rattle.desk_sql_scan.specs.Cells.{stored_meta_cells, stored_catalogue_cells, stored_rule_cells}
use Rattle.desk_sql_scan.specs.Orders.{meta_order, catalogue_order, rule_order}
use Rattle.desk_sql_scan.proofs.Scanning.{itself, sorted_by}
use Rattle.desk_sql_scan.proofs.Values.{number_in, text_in}
use Rattle.desk_sql_scan.proofs.Rising.{numbers_rise, rules_rise}
use Rattle.desk_sql_adopt.proofs.Selecting.{IsBareSelect}
use Rattle.desk_sql_scan.specs.declared.source.Source.{Ghosts}
use Rattle.desk_sql_scan.proofs.Queries.{TellsRows, read_by_key, read_by_rowid}

-- ---- meta

abbrev pub meta_text : List ℕ
meta_text = codes "SELECT version FROM meta ORDER BY version"

meta_is : IsBareSelect meta_text 0 0 [] (col 1 0 ∷ []) (order_by (0 ∷ [])) (codes "version" ∷ [])
unfolding first returning everything
meta_is = record {
  bare = λ schema base. refl;
  select = record {
    from = λ at not_null. (refl, refl, refl);
    is = λ at not_null. record { is = refl; plain = (refl, refl); suits = (refl, refl) };
  };
}

pub meta_read : {S : Type 0} (g : Ghosts S)
    → TellsRows g meta_text 1 d.meta_table stored_meta_cells meta_order
    (λ rows t. rows ≡ record { version = pos 3 } ∷ [])
meta_read g =
    read_by_rowid g d.meta_table 0 refl stored_meta_cells meta_order
    (λ cs. record { version = number_in (column cs 0) }) (λ a. refl) (λ x. x)
    (λ t. record { version = pos 3 } ∷ []) (λ t. refl) 1 (λ r. refl)
    meta_is refl (λ r. refl) (λ r. refl)
    (λ a b. rw (value_cmp-Int a.version b.version, then-Equal (int_cmp a.version b.version)) refl) _
    (λ rows t orderly found. found (tt, tt))

-- ---- catalogue

abbrev pub catalogue_text : List ℕ
catalogue_text = codes "SELECT revision, body FROM catalogue ORDER BY revision"

catalogue_is : IsBareSelect catalogue_text 0 1 [] (col 1 0 ∷ col 1 2 ∷ []) (order_by (0 ∷ []))
    (codes "revision" ∷ codes "body" ∷ [])
unfolding first returning everything
catalogue_is = record {
  bare = λ schema base. refl;
  select = record {
    from = λ at not_null. (refl, refl, refl);
    is = λ at not_null. record { is = refl; plain = (refl, refl); suits = (refl, refl) };
  };
}

pub catalogue_read : {S : Type 0} (g : Ghosts S)
    → TellsRows g catalogue_text 2 d.catalogue_table stored_catalogue_cells catalogue_order
    (λ rows t. rows ≡ map catalogue_stored t.catalogue)
catalogue_read g =
    read_by_rowid g d.catalogue_table 1 refl stored_catalogue_cells catalogue_order
    (λ cs. record { revision = number_in (column cs 0); body = text_in (column cs 1) }) (λ a. refl)
    catalogue_stored (λ t. t.catalogue) (λ t. refl) 2 (λ r. refl)
    catalogue_is refl (λ r. refl) (λ r. refl)
    (λ a b. rw (value_cmp-Int a.revision b.revision, then-Equal (int_cmp a.revision b.revision))
    refl) _ (λ rows t orderly found. found
    (numbers_rise revision_below (λ row. row.revision) (λ a b. refl) t.catalogue
    orderly.sorted.catalogue))

-- ---- rule

abbrev pub rule_text : List ℕ
rule_text = codes
    "SELECT revision, term, form, spelled, codes FROM rule ORDER BY +revision, term, form"

rule_is : IsBareSelect rule_text 0 2 [] (col 1 1 ∷ col 1 2 ∷ col 1 3 ∷ col 1 4 ∷ col 1 5 ∷ [])
    (sorted_by (1 ∷ 2 ∷ 3 ∷ [])) (codes "revision" ∷ codes "term" ∷ codes "form" ∷ codes "spelled"
    ∷ codes "codes" ∷ [])
unfolding first returning everything
rule_is = record {
  bare = λ schema base. refl;
  select = record {
    from = λ at not_null. (refl, refl, refl);
    is = λ at not_null. record { is = refl; plain = (refl, refl); suits = (refl, refl) };
  };
}

pub rule_read : {S : Type 0} (g : Ghosts S)
    → TellsRows g rule_text 5 d.rule_table stored_rule_cells rule_order
    (λ rows t. AreSortedAsListed t → rows ≡ map rule_stored t.rule)
rule_read g =
    read_by_key g d.rule_table 2 refl stored_rule_cells rule_order
    (λ cs. record {
      revision = number_in (column cs 0);
      term = text_in (column cs 1);
      form = text_in (column cs 2);
      spelled = text_in (column cs 3);
      codes = text_in (column cs 4);
    }) (λ a. refl) rule_stored (λ t. t.rule) (λ t. refl) 5 (λ r. refl)
    (1 ∷ 2 ∷ 3 ∷ []) (0 ∷ 1 ∷ 2 ∷ []) 0 refl refl refl rule_is refl
    (λ r. rw (itself (column r 1)) refl) (λ r. refl) (λ r. refl) (λ x. refl)
    (λ a b. rw (
      value_cmp-Int a.revision b.revision,
      value_cmp-Text a.term b.term,
      value_cmp-Text a.form b.form,
      then-Equal (slice_cmp nat_cmp a.form b.form),
    ) refl) _ (λ rows t orderly found sorted. found (rules_rise t.rule sorted.rule))
