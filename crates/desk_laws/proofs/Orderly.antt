-- The tables of a history are in the order that look-ups in a file rely on.
use Rattle.std.proofs.Common.{◌≡◌, ◌∙◌, inl, inr, ℕ, ◌+◌, ◌≤◌, Bool, true, false, List, []}
use Rattle.std.proofs.Common.{◌∷◌, map, length, refl, ap, sym, subst, arith}
use Rattle.std.specs.Prelude.{nat_lt, nat_le, ◌==◌, ◌&&◌, ◌||◌}
use Rattle.std.specs.List.{enumerate_from, flat_map}
use Rattle.std.specs.Ordering.{nat_cmp, ordering_then, is_lt}
use Rattle.std.specs.Cmp.Lexicographic.{slice_cmp}
use Rattle.std.specs.declared.cmp.Ordering.{Ordering}
use Rattle.std.proofs.lemmas.Bool.Decides.{nat_tests}
use Rattle.std.proofs.lemmas.Cmp.{nat_list_cmp_total}
use Rattle.std.proofs.lemmas.List.{length-map}
use Rattle.std.proofs.lemmas.List.Folds.{list_all-append}
use Rattle.std.proofs.lemmas.Bool.{and_from}
use Rattle.desk_base.proofs.Numbers.{three}
use Rattle.desk_model.specs.Lists.{IsIn}
use Rattle.desk_model.specs.Readings.{Readings}
use Rattle.desk_model.specs.Keys.{below_by, package_order}
use Rattle.desk_model.specs.Texts.{text_below}
use Rattle.desk_model.specs.History.{documents, packages, revisions, rule_rows, package_row}
use Rattle.desk_model.specs.Raised.{numbered, raised}
use Rattle.desk_model.specs.Moves.{all_changes, changes, change_row, change_rows, duties, duty_row, moves, place}
use Rattle.desk_model.specs.Tables.{tables}
use Rattle.desk_model.specs.declared.row.CatalogueRow.{CatalogueRow}
use Rattle.desk_model.specs.declared.row.ChangeRow.{ChangeRow}
use Rattle.desk_model.specs.declared.row.DocumentRow.{DocumentRow}
use Rattle.desk_model.specs.declared.row.DutyRow.{DutyRow}
use Rattle.desk_model.specs.declared.row.Move.{Move}
use Rattle.desk_model.specs.declared.row.Owed.{Owed}
use Rattle.desk_model.specs.declared.row.PackageRow.{PackageRow}
use Rattle.desk_model.specs.declared.command.Command.{Command}
use Rattle.desk_model.proofs.Orders.{IsOrder, order_of}
use Rattle.desk_model.proofs.Lists.{all_pass}
use Rattle.desk_history.specs.Laws.{Ascends, AreSorted, AreSortedAsListed, Rises}
use Rattle.desk_history.proofs.Members.{in_cases, in_map, from_map, from_flat_map}
use Rattle.desk_history_laws.specs.Filters.{document_row, given, imported, packages_of, revision_row, rules_of}
use Rattle.desk_model.specs.History.{loaded}
use Rattle.desk_history_laws.specs.Ids.{ListsIds}
use Rattle.desk_sql_layout.specs.Held.{AreNumbered, AreOrderly, package_below}
use Rattle.desk_sql_layout.specs.Writable.{have_words}
use Rattle.desk_sql_layout.proofs.Orderly.{at_most}
use Rattle.desk_laws.proofs.Writing.{read_have}

-- ---- numbers

numbers : {A B : Type 0} (row : ℕ × A → B) (key : B → ℕ) → ((d : ℕ × A) → key (row d) ≡ d.0)
    → (n : ℕ) (xs : List A) → AreNumbered n (map key (map row (enumerate_from n xs)))
numbers row key same n [] = tt
numbers row key same n (x ∷ xs) = (same (n, x), numbers row key same (n + 1) xs)

-- the number of a row is at most the number of rows
within : {A : Type 0} (key : A → ℕ) (row : A) (rows : List A) → AreNumbered 1 (map key rows)
    → IsIn row rows → key row ≤ length rows
within key row rows are m = omega
    (arith, at_most 1 (key row) (map key rows) are (in_map key row rows m), length-map rows key)

is_le : (a b : ℕ) → a ≤ b → nat_le a b ≡ true
is_le a b e = grind (arith, nat_tests)

-- ---- packages

text_order : IsOrder text_below
text_order = order_of nat_list_cmp_total

not_behind : (a b : ℕ) (s : Ordering) (t : Bool) → is_lt (ordering_then (nat_cmp a b) s) ≡ true
    → (is_lt s ≡ true → t ≡ false) → (nat_lt b a || ((b == a) && t)) ≡ false
not_behind a b s true e f = elim (three a b) [
  | inl less ↦ grind (arith, nat_tests)
  | inr other ↦ elim other [
    | inl more ↦ grind (arith, nat_tests)
    | inr same ↦ grind (arith, nat_tests)
  ]
]
not_behind a b s false e f = elim (three a b) [
  | inl less ↦ grind (arith, nat_tests)
  | inr other ↦ elim other [
    | inl more ↦ grind (arith, nat_tests)
    | inr same ↦ grind (arith, nat_tests)
  ]
]

packages_ascend : (rows : List PackageRow) → Rises (below_by package_order) rows
    → Ascends package_below rows
packages_ascend [] up = tt
packages_ascend (p ∷ rows) up = (
  λ q m. not_behind p.document q.document (slice_cmp nat_cmp p.id q.id) (text_below q.id p.id)
      (up.0 q m) (text_order.asym p.id q.id),
  packages_ascend rows up.1,
)

-- ---- what rows name

module _ (w : Readings) (h : List Command) where
  duty_numbers : AreNumbered 1 (map (λ (row : DutyRow). row.number) (duties w h))
  duty_numbers = numbers (λ (d : ℕ × Owed). duty_row (place w h d.0) d)
      (λ (row : DutyRow). row.number) (λ d. refl) 1 (raised w h)

  changes_name : (q : ℕ) (row : ChangeRow) (ms : List Move) → IsIn row (change_rows q ms)
      → row.duty ≡ q
  changes_name q row [] m = absurd m
  changes_name q row (move ∷ ms) m = elim (in_cases row (change_rows q ms)
      (change_row q (length ms + 1) move ∷ []) m) [
        | inl old ↦ changes_name q row ms old
        | inr new ↦ elim new [
          | inl same ↦ sym (ap (λ (r : ChangeRow). r.duty) same)
          | inr none ↦ absurd none
        ]
      ]

  changes_within : (row : ChangeRow) → IsIn row (all_changes w h) → row.duty ≤ length (duties w h)
  changes_within row m =
      let found = from_flat_map (λ (d : ℕ × Owed). changes w h d.0) row (numbered w h) m in
      let duty = in_map (λ (d : ℕ × Owed). duty_row (place w h d.0) d) found.0 (numbered w h)
      found.1 in
      let low = within (λ (r : DutyRow). r.number) (duty_row (place w h found.0.0) found.0)
      (duties w h) duty_numbers duty in
      omega (arith, low, changes_name found.0.0 row (moves w h found.0.0) found.2)

  packages_within : packages w h ≡ flat_map (packages_of w) (documents w h)
      → AreNumbered 1 (map (λ (row : DocumentRow). row.number) (documents w h))
      → (p : PackageRow) → IsIn p (packages w h) → p.document ≤ length (documents w h)
  packages_within same are p m =
      let found = from_flat_map (packages_of w) p (documents w h) (subst (IsIn p) same m) in
      let low = within (λ (r : DocumentRow). r.number) found.0 (documents w h) are found.1 in
      let own = from_map (package_row found.0.number) p _ found.2 in
      omega (arith, low, ap (λ (r : PackageRow). r.document) own.2)

words_of : (w : Readings) → ListsIds w → (rows : List CatalogueRow)
    → have_words (flat_map (rules_of w) rows) ≡ true
words_of w ids [] = refl
words_of w ids (row ∷ rows) =
    list_all-append _ (rules_of w row) (flat_map (rules_of w) rows)
    ∙ and_from (have_words (rules_of w row)) (have_words (flat_map (rules_of w) rows))
    (read_have w ids row.revision row.body (w.catalogue row.body) refl) (words_of w ids rows)

-- ---- the tables

pub record Known (w : Readings) (h : List Command) : Type 0 where
  pub sorted : AreSorted (tables w h)
  pub listed : AreSortedAsListed (tables w h)
  pub by_loads : revisions h ≡ map revision_row (enumerate_from 1 (given loaded h))
  pub by_revisions : rule_rows w h ≡ flat_map (rules_of w) (revisions h)
  pub by_imports : documents w h ≡ map (document_row w) (enumerate_from 1 (given imported h))
  pub by_documents : packages w h ≡ flat_map (packages_of w) (documents w h)

pub orderly : (w : Readings) (h : List Command) → ListsIds w → Known w h → AreOrderly (tables w h)
orderly w h ids known =
    let read = subst (λ rows. AreNumbered 1 (map (λ (row : DocumentRow). row.number) rows))
    (sym known.by_imports) (numbers (document_row w) (λ (row : DocumentRow). row.number) (λ d. refl)
    1 (given imported h)) in
    record {
      sorted = known.sorted;
      packages = packages_ascend (packages w h) known.listed.packages;
      revisions = subst (λ rows. AreNumbered 1 (map (λ (row : CatalogueRow). row.revision) rows))
          (sym known.by_loads) (numbers revision_row (λ (row : CatalogueRow). row.revision)
          (λ d. refl) 1 (given loaded h));
      documents = read;
      duties = duty_numbers w h;
      of_documents = all_pass (λ (p : PackageRow). nat_le p.document (length (documents w h)))
          (packages w h) (λ p m. is_le p.document (length (documents w h))
          (packages_within w h known.by_documents read p m));
      of_duties = all_pass (λ (row : ChangeRow). nat_le row.duty (length (duties w h)))
          (all_changes w h) (λ row m. is_le row.duty (length (duties w h))
          (changes_within w h row m));
      codes = ap have_words known.by_revisions ∙ words_of w ids (revisions h);
    }
