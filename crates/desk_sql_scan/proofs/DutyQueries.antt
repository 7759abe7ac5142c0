-- Duties, their changes, and the last days of waivers: what is shown when all of them are asked
-- for.
use Rattle.desk_sql_layout.specs.Layout as d
use Rattle.std.proofs.Common.{◌≡◌, ℕ, List, [], ◌∷◌, map, filter, codes, refl}
use Rattle.std.specs.Ordering.{int_cmp}
use Rattle.sqlite_value.specs.Order.{column}
use Rattle.sqlite_value.proofs.OrderLemmas.{value_cmp-Int, then-Equal}
use Rattle.sqlite_trees.proofs.ListLemmas.{ascending-filter}
use Rattle.sqlite_sql.specs.Term.{col}
use Rattle.sqlite_resolve.specs.Compile.{first, returning}
use Rattle.sqlite_tied.specs.Compute.{everything}
use Rattle.desk_history.specs.Laws.{duty_below}
use Rattle.desk_snapshot.specs.Orders.{change_order, waiver_order}
use Rattle.desk_snapshot.specs.Tables.{duty_stored, change_stored, waiver_stored}
use Rattle.desk_sql_layout.proofs.Selects.{order_by}
use Rattle.desk_sql_scan.specs.Cells.{stored_duty_cells, stored_change_cells, stored_waiver_cells}
use Rattle.desk_sql_scan.specs.Orders.{duty_order}
use Rattle.desk_sql_scan.proofs.Scanning.{itself, sorted_by}
use Rattle.desk_sql_scan.proofs.Values.{number_in, text_in}
use Rattle.desk_sql_scan.proofs.Rising.{numbers_rise, changes_rise}
use Rattle.desk_sql_scan.proofs.Waivers.{waivers_are}
use Rattle.desk_sql_adopt.proofs.Selecting.{IsBareSelect}
use Rattle.desk_sql_scan.specs.declared.source.Source.{Ghosts}
use Rattle.desk_sql_scan.proofs.Queries.{TellsRows, read_by_key, read_by_rowid}
use Rattle.desk_model.specs.Moves.{is_waiver}

-- ---- duty

abbrev pub duty_text : List ℕ
duty_text = codes
    "SELECT number, release, document, package, term, code, rule, state FROM duty ORDER BY number"

duty_is : IsBareSelect duty_text 0 23 []
    (col 1 0 ∷ col 1 2 ∷ col 1 3 ∷ col 1 4 ∷ col 1 5 ∷ col 1 6 ∷ col 1 7 ∷ col 1 8 ∷ [])
    (order_by (0 ∷ [])) (codes "number" ∷ codes "release" ∷ codes "document" ∷ codes "package"
    ∷ codes "term" ∷ codes "code" ∷ codes "rule" ∷ codes "state" ∷ [])
unfolding first returning everything
duty_is = record {
  bare = λ schema base. refl;
  select = record {
    from = λ at not_null. (refl, refl, refl);
    is = λ at not_null. record { is = refl; plain = (refl, refl); suits = (refl, refl) };
  };
}

pub duty_read : {S : Type 0} (g : Ghosts S)
    → TellsRows g duty_text 8 d.duty_table stored_duty_cells duty_order
    (λ rows t. rows ≡ map duty_stored t.duty)
duty_read g =
    read_by_rowid g d.duty_table 12 refl stored_duty_cells duty_order
    (λ cs. record {
      number = number_in (column cs 0);
      release = text_in (column cs 1);
      document = number_in (column cs 2);
      package_id = text_in (column cs 3);
      term = text_in (column cs 4);
      code = text_in (column cs 5);
      rule = text_in (column cs 6);
      state = text_in (column cs 7);
    }) (λ a. refl) duty_stored (λ t. t.duty) (λ t. refl) 8 (λ r. refl)
    duty_is refl (λ r. refl) (λ r. refl)
    (λ a b. rw (value_cmp-Int a.number b.number, then-Equal (int_cmp a.number b.number)) refl) _
    (λ rows t orderly found. found
    (numbers_rise duty_below (λ row. row.number) (λ a b. refl) t.duty orderly.sorted.duty))

-- ---- change

abbrev pub change_text : List ℕ
change_text = codes "SELECT duty, step, day, word, body FROM change ORDER BY +duty, step"

change_is : IsBareSelect change_text 0 25 [] (col 1 1 ∷ col 1 2 ∷ col 1 3 ∷ col 1 4 ∷ col 1 5 ∷ [])
    (sorted_by (1 ∷ 2 ∷ [])) (codes "duty" ∷ codes "step" ∷ codes "day" ∷ codes "word"
    ∷ codes "body" ∷ [])
unfolding first returning everything
change_is = record {
  bare = λ schema base. refl;
  select = record {
    from = λ at not_null. (refl, refl, refl);
    is = λ at not_null. record { is = refl; plain = (refl, refl); suits = (refl, refl) };
  };
}

pub change_read : {S : Type 0} (g : Ghosts S)
    → TellsRows g change_text 5 d.change_table stored_change_cells change_order
    (λ rows t. rows ≡ map change_stored t.changes)
change_read g =
    read_by_key g d.change_table 13 refl stored_change_cells change_order
    (λ cs. record {
      duty = number_in (column cs 0);
      step = number_in (column cs 1);
      day = text_in (column cs 2);
      word = text_in (column cs 3);
      body = text_in (column cs 4);
    }) (λ a. refl) change_stored (λ t. t.changes) (λ t. refl) 5 (λ r. refl)
    (1 ∷ 2 ∷ []) (0 ∷ 1 ∷ []) 0 refl refl refl change_is refl (λ r. rw (itself (column r 1)) refl)
    (λ r. refl) (λ r. refl) (λ x. refl)
    (λ a b. rw (
      value_cmp-Int a.duty b.duty,
      value_cmp-Int a.step b.step,
      then-Equal (int_cmp a.step b.step),
    ) refl) _ (λ rows t orderly found. found (changes_rise t.changes orderly.sorted.changes))

-- ---- waiver

abbrev pub waiver_text : List ℕ
waiver_text = codes "SELECT duty, step, last_day FROM waiver ORDER BY +duty, step"

waiver_is : IsBareSelect waiver_text 0 28 [] (col 1 1 ∷ col 1 2 ∷ col 1 3 ∷ [])
    (sorted_by (1 ∷ 2 ∷ [])) (codes "duty" ∷ codes "step" ∷ codes "last_day" ∷ [])
unfolding first returning everything
waiver_is = record {
  bare = λ schema base. refl;
  select = record {
    from = λ at not_null. (refl, refl, refl);
    is = λ at not_null. record { is = refl; plain = (refl, refl); suits = (refl, refl) };
  };
}

pub waiver_read : {S : Type 0} (g : Ghosts S)
    → TellsRows g waiver_text 3 d.waiver_table stored_waiver_cells waiver_order
    (λ rows t. rows ≡ map waiver_stored (filter is_waiver t.changes))
waiver_read g =
    read_by_key g d.waiver_table 15 refl stored_waiver_cells waiver_order
    (λ cs. record {
      duty = number_in (column cs 0);
      step = number_in (column cs 1);
      last_day = text_in (column cs 2);
    }) (λ a. refl) waiver_stored (λ t. filter is_waiver t.changes) (λ t. waivers_are t.changes) 3
    (λ r. refl)
    (1 ∷ 2 ∷ []) (0 ∷ 1 ∷ []) 0 refl refl refl waiver_is refl (λ r. rw (itself (column r 1)) refl)
    (λ r. refl) (λ r. refl) (λ x. refl)
    (λ a b. rw (
      value_cmp-Int a.duty b.duty,
      value_cmp-Int a.step b.step,
      then-Equal (int_cmp a.step b.step),
    ) refl) _ (λ rows t orderly found. found
    (ascending-filter _ is_waiver t.changes (changes_rise t.changes orderly.sorted.changes)))
