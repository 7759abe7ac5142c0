-- Conclusions and adoptions of the office: what is shown when all of them are asked for.
use Rattle.desk_sql_layout.specs.Layout as d
use Rattle.std.proofs.Common.{◌≡◌, ℕ, List, [], ◌∷◌, map, codes, refl}
use Rattle.std.specs.Ordering.{nat_cmp}
use Rattle.std.specs.Cmp.Lexicographic.{slice_cmp}
use Rattle.sqlite_value.specs.Order.{column}
use Rattle.sqlite_value.proofs.OrderLemmas.{value_cmp-Int, value_cmp-Text, then-Equal}
use Rattle.sqlite_sql.specs.Term.{col}
use Rattle.sqlite_resolve.specs.Compile.{first, returning}
use Rattle.sqlite_tied.specs.Compute.{everything}
use Rattle.desk_snapshot.specs.Orders.{conclusion_order}
use Rattle.desk_snapshot.specs.Tables.{conclusion_stored, adoption_stored}
use Rattle.desk_sql_scan.specs.Cells.{stored_conclusion_cells, stored_adoption_cells}
use Rattle.desk_sql_scan.specs.Orders.{adoption_order}
use Rattle.desk_sql_scan.proofs.Scanning.{itself, sorted_by}
use Rattle.desk_sql_scan.proofs.Values.{number_in, text_in}
use Rattle.desk_sql_scan.proofs.Rising.{conclusions_rise, adoptions_rise}
use Rattle.desk_sql_adopt.proofs.Selecting.{IsBareSelect}
use Rattle.desk_sql_scan.specs.declared.source.Source.{Ghosts}
use Rattle.desk_sql_scan.proofs.Queries.{TellsRows, read_by_key}

-- ---- conclusion

abbrev pub conclusion_text : List ℕ
conclusion_text = codes
    "SELECT document, package, expression FROM conclusion ORDER BY +document, package"

conclusion_is : IsBareSelect conclusion_text 0 10 [] (col 1 1 ∷ col 1 2 ∷ col 1 3 ∷ [])
    (sorted_by (1 ∷ 2 ∷ [])) (codes "document" ∷ codes "package" ∷ codes "expression" ∷ [])
unfolding first returning everything
conclusion_is = record {
  bare = λ schema base. refl;
  select = record {
    from = λ at not_null. (refl, refl, refl);
    is = λ at not_null. record { is = refl; plain = (refl, refl); suits = (refl, refl) };
  };
}

pub conclusion_read : {S : Type 0} (g : Ghosts S)
    → TellsRows g conclusion_text 3 d.conclusion_table stored_conclusion_cells conclusion_order
    (λ rows t. rows ≡ map conclusion_stored t.conclusion)
conclusion_read g =
    read_by_key g d.conclusion_table 6 refl stored_conclusion_cells conclusion_order
    (λ cs. record {
      document = number_in (column cs 0);
      package_id = text_in (column cs 1);
      expression = text_in (column cs 2);
    }) (λ a. refl) conclusion_stored (λ t. t.conclusion) (λ t. refl) 3 (λ r. refl)
    (1 ∷ 2 ∷ []) (0 ∷ 1 ∷ []) 0 refl refl refl conclusion_is refl
    (λ r. rw (itself (column r 1)) refl) (λ r. refl) (λ r. refl) (λ x. refl)
    (λ a b. rw (
      value_cmp-Int a.document b.document,
      value_cmp-Text a.package_id b.package_id,
      then-Equal (slice_cmp nat_cmp a.package_id b.package_id),
    ) refl) _ (λ rows t orderly found. found
    (conclusions_rise t.conclusion orderly.sorted.conclusion))

-- ---- adoption

abbrev pub adoption_text : List ℕ
adoption_text = codes
    "SELECT document, reference, licence FROM adoption ORDER BY +document, reference"

adoption_is : IsBareSelect adoption_text 0 12 [] (col 1 1 ∷ col 1 2 ∷ col 1 3 ∷ [])
    (sorted_by (1 ∷ 2 ∷ [])) (codes "document" ∷ codes "reference" ∷ codes "licence" ∷ [])
unfolding first returning everything
adoption_is = record {
  bare = λ schema base. refl;
  select = record {
    from = λ at not_null. (refl, refl, refl);
    is = λ at not_null. record { is = refl; plain = (refl, refl); suits = (refl, refl) };
  };
}

pub adoption_read : {S : Type 0} (g : Ghosts S)
    → TellsRows g adoption_text 3 d.adoption_table stored_adoption_cells adoption_order
    (λ rows t. rows ≡ map adoption_stored t.adoption)
adoption_read g =
    read_by_key g d.adoption_table 7 refl stored_adoption_cells adoption_order
    (λ cs. record {
      document = number_in (column cs 0);
      reference = text_in (column cs 1);
      licence = text_in (column cs 2);
    }) (λ a. refl) adoption_stored (λ t. t.adoption) (λ t. refl) 3 (λ r. refl)
    (1 ∷ 2 ∷ []) (0 ∷ 1 ∷ []) 0 refl refl refl adoption_is refl (λ r. rw (itself (column r 1)) refl)
    (λ r. refl) (λ r. refl) (λ x. refl)
    (λ a b. rw (
      value_cmp-Int a.document b.document,
      value_cmp-Text a.reference b.reference,
      then-Equal (slice_cmp nat_cmp a.reference b.reference),
    ) refl) _ (λ rows t orderly found. found (adoptions_rise t.adoption orderly.sorted.adoption))
