-- Releases, attached documents, and chosen and frozen terms: what is shown when all of them are
-- asked for.
use Rattle.desk_sql_layout.specs.Layout as d
use Rattle.std.proofs.Common.{◌≡◌, ℕ, List, [], ◌∷◌, map, codes, refl}
use Rattle.std.specs.Ordering.{int_cmp, nat_cmp}
use Rattle.std.specs.Cmp.Lexicographic.{slice_cmp}
use Rattle.sqlite_value.specs.Order.{column}
use Rattle.sqlite_value.proofs.OrderLemmas.{value_cmp-Int, value_cmp-Text, then-Equal}
use Rattle.sqlite_sql.specs.Term.{col}
use Rattle.sqlite_resolve.specs.Compile.{first, returning}
use Rattle.sqlite_tied.specs.Compute.{everything}
use Rattle.desk_snapshot.specs.Orders.{release_order, attached_order, choice_order, frozen_order}
use Rattle.desk_snapshot.specs.Tables.{release_stored, attached_stored, choice_stored, frozen_stored}
use Rattle.desk_sql_scan.specs.Cells.{stored_release_cells, stored_attached_cells}
use Rattle.desk_sql_scan.specs.Cells.{stored_choice_cells, stored_frozen_cells}
use Rattle.desk_sql_scan.proofs.Scanning.{itself, sorted_by}
use Rattle.desk_sql_scan.proofs.Values.{number_in, text_in}
use Rattle.desk_sql_scan.proofs.Rising.{releases_rise, attached_rise, choices_rise, frozen_rise}
use Rattle.desk_sql_adopt.proofs.Selecting.{IsBareSelect}
use Rattle.desk_sql_scan.specs.declared.source.Source.{Ghosts}
use Rattle.desk_sql_scan.proofs.Queries.{TellsRows, read_by_key}

-- ---- releases

abbrev pub release_text : List ℕ
release_text = codes "SELECT name, place, form, state, revision FROM releases ORDER BY +name"

release_is : IsBareSelect release_text 0 14 []
    (col 1 1 ∷ col 1 2 ∷ col 1 3 ∷ col 1 4 ∷ col 1 5 ∷ []) (sorted_by (1 ∷ []))
    (codes "name" ∷ codes "place" ∷ codes "form" ∷ codes "state" ∷ codes "revision" ∷ [])
unfolding first returning everything
release_is = record {
  bare = λ schema base. refl;
  select = record {
    from = λ at not_null. (refl, refl, refl);
    is = λ at not_null. record { is = refl; plain = (refl, refl); suits = (refl, refl) };
  };
}

pub release_read : {S : Type 0} (g : Ghosts S)
    → TellsRows g release_text 5 d.releases_table stored_release_cells release_order
    (λ rows t. rows ≡ map release_stored t.releases)
release_read g =
    read_by_key g d.releases_table 8 refl stored_release_cells release_order
    (λ cs. record {
      name = text_in (column cs 0);
      place = number_in (column cs 1);
      form = text_in (column cs 2);
      state = text_in (column cs 3);
      revision = number_in (column cs 4);
    }) (λ a. refl) release_stored (λ t. t.releases) (λ t. refl) 5 (λ r. refl)
    (1 ∷ []) (0 ∷ []) 1 refl refl refl release_is refl (λ r. rw (itself (column r 1)) refl)
    (λ r. refl) (λ r. refl) (λ x. refl)
    (λ a b. rw (value_cmp-Text a.name b.name, then-Equal (slice_cmp nat_cmp a.name b.name)) refl) _
    (λ rows t orderly found. found (releases_rise t.releases orderly.sorted.releases))

-- ---- attached

abbrev pub attached_text : List ℕ
attached_text = codes "SELECT release, document FROM attached ORDER BY +release, document"

attached_is : IsBareSelect attached_text 0 17 [] (col 1 1 ∷ col 1 2 ∷ []) (sorted_by (1 ∷ 2 ∷ []))
    (codes "release" ∷ codes "document" ∷ [])
unfolding first returning everything
attached_is = record {
  bare = λ schema base. refl;
  select = record {
    from = λ at not_null. (refl, refl, refl);
    is = λ at not_null. record { is = refl; plain = (refl, refl); suits = (refl, refl) };
  };
}

pub attached_read : {S : Type 0} (g : Ghosts S)
    → TellsRows g attached_text 2 d.attached_table stored_attached_cells attached_order
    (λ rows t. rows ≡ map attached_stored t.attached)
attached_read g =
    read_by_key g d.attached_table 9 refl stored_attached_cells attached_order
    (λ cs. record { release = text_in (column cs 0); document = number_in (column cs 1) })
    (λ a. refl) attached_stored (λ t. t.attached) (λ t. refl) 2 (λ r. refl)
    (1 ∷ 2 ∷ []) (0 ∷ 1 ∷ []) 0 refl refl refl attached_is refl (λ r. rw (itself (column r 1)) refl)
    (λ r. refl) (λ r. refl) (λ x. refl)
    (λ a b. rw (
      value_cmp-Text a.release b.release,
      value_cmp-Int a.document b.document,
      then-Equal (int_cmp a.document b.document),
    ) refl) _ (λ rows t orderly found. found (attached_rise t.attached orderly.sorted.attached))

-- ---- choice

abbrev pub choice_text : List ℕ
choice_text = codes
    "SELECT release, document, package, term FROM choice ORDER BY +release, document, package, term"

choice_is : IsBareSelect choice_text 0 19 [] (col 1 1 ∷ col 1 2 ∷ col 1 3 ∷ col 1 4 ∷ [])
    (sorted_by (1 ∷ 2 ∷ 3 ∷ 4 ∷ []))
    (codes "release" ∷ codes "document" ∷ codes "package" ∷ codes "term" ∷ [])
unfolding first returning everything
choice_is = record {
  bare = λ schema base. refl;
  select = record {
    from = λ at not_null. (refl, refl, refl);
    is = λ at not_null. record { is = refl; plain = (refl, refl); suits = (refl, refl) };
  };
}

pub choice_read : {S : Type 0} (g : Ghosts S)
    → TellsRows g choice_text 4 d.choice_table stored_choice_cells choice_order
    (λ rows t. rows ≡ map choice_stored t.choice)
choice_read g =
    read_by_key g d.choice_table 10 refl stored_choice_cells choice_order
    (λ cs. record {
      release = text_in (column cs 0);
      document = number_in (column cs 1);
      package_id = text_in (column cs 2);
      term = text_in (column cs 3);
    }) (λ a. refl) choice_stored (λ t. t.choice) (λ t. refl) 4 (λ r. refl)
    (1 ∷ 2 ∷ 3 ∷ 4 ∷ []) (0 ∷ 1 ∷ 2 ∷ 3 ∷ []) 0 refl refl refl choice_is refl
    (λ r. rw (itself (column r 1)) refl) (λ r. refl) (λ r. refl) (λ x. refl)
    (λ a b. rw (
      value_cmp-Text a.release b.release,
      value_cmp-Int a.document b.document,
      value_cmp-Text a.package_id b.package_id,
      value_cmp-Text a.term b.term,
      then-Equal (slice_cmp nat_cmp a.term b.term),
    ) refl) _ (λ rows t orderly found. found (choices_rise t.choice orderly.sorted.choice))

-- ---- frozen

abbrev pub frozen_text : List ℕ
frozen_text = codes
    "SELECT release, document, package, term, rule FROM frozen ORDER BY +release, document, package, term"

frozen_is : IsBareSelect frozen_text 0 21 [] (col 1 1 ∷ col 1 2 ∷ col 1 3 ∷ col 1 4 ∷ col 1 5 ∷ [])
    (sorted_by (1 ∷ 2 ∷ 3 ∷ 4 ∷ []))
    (codes "release" ∷ codes "document" ∷ codes "package" ∷ codes "term" ∷ codes "rule" ∷ [])
unfolding first returning everything
frozen_is = record {
  bare = λ schema base. refl;
  select = record {
    from = λ at not_null. (refl, refl, refl);
    is = λ at not_null. record { is = refl; plain = (refl, refl); suits = (refl, refl) };
  };
}

pub frozen_read : {S : Type 0} (g : Ghosts S)
    → TellsRows g frozen_text 5 d.frozen_table stored_frozen_cells frozen_order
    (λ rows t. rows ≡ map frozen_stored t.frozen)
frozen_read g =
    read_by_key g d.frozen_table 11 refl stored_frozen_cells frozen_order
    (λ cs. record {
      release = text_in (column cs 0);
      document = number_in (column cs 1);
      package_id = text_in (column cs 2);
      term = text_in (column cs 3);
      rule = text_in (column cs 4);
    }) (λ a. refl) frozen_stored (λ t. t.frozen) (λ t. refl) 5 (λ r. refl)
    (1 ∷ 2 ∷ 3 ∷ 4 ∷ []) (0 ∷ 1 ∷ 2 ∷ 3 ∷ []) 0 refl refl refl frozen_is refl
    (λ r. rw (itself (column r 1)) refl) (λ r. refl) (λ r. refl) (λ x. refl)
    (λ a b. rw (
      value_cmp-Text a.release b.release,
      value_cmp-Int a.document b.document,
      value_cmp-Text a.package_id b.package_id,
      value_cmp-Text a.term b.term,
      then-Equal (slice_cmp nat_cmp a.term b.term),
    ) refl) _ (λ rows t orderly found. found (frozen_rise t.frozen orderly.sorted.frozen))
