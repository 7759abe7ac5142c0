-- A change that continues the rows, and that the tables can hold, keeps them orderly.
use Rattle.std.proofs.Common.{◌≡◌, ◌∙◌, ◌⊎◌, inl, inr, ℕ, ◌+◌, ◌≤◌, ◌<◌, Bool, true, false, cond}
use Rattle.std.proofs.Common.{List, [], ◌∷◌, ◌++◌, map, filter, length, sym, refl, ap, subst, arith}
use Rattle.std.proofs.Common.{length-append}
use Rattle.std.specs.Prelude.{nat_lt, nat_le, ◌==◌, ◌&&◌, ◌||◌, not, find, Some, is_some}
use Rattle.std.specs.List.{list_all}
use Rattle.std.proofs.lemmas.Bool.{eqb-true, le-leb, leb-true}
use Rattle.std.proofs.lemmas.Bool.Decides.{nat_tests}
use Rattle.std.proofs.lemmas.List.{map-append, length-map}
use Rattle.desk_model.specs.Lists.{put_all, IsIn}
use Rattle.desk_model.specs.Keys.{below_by, release_below, attached_order, choice_order}
use Rattle.desk_model.specs.Keys.{frozen_order, change_below, conclusion_order, adoption_order}
use Rattle.desk_model.specs.Keys.{is_release, is_duty, is_conclusion, is_adoption}
use Rattle.desk_model.specs.States.{state_after}
use Rattle.desk_model.specs.Tables.{Tables, applied, is_other_choice, is_choice_elsewhere}
use Rattle.desk_model.specs.Tables.{with_release_state, withdrawn_release, with_duty_state}
use Rattle.desk_model.specs.Tables.{moved_by}
use Rattle.desk_model.specs.Texts.{text_below}
use Rattle.desk_model.specs.declared.row.CatalogueRow.{CatalogueRow}
use Rattle.desk_model.specs.declared.row.DocumentRow.{DocumentRow}
use Rattle.desk_model.specs.declared.row.RuleRow.{RuleRow}
use Rattle.desk_model.specs.declared.row.PackageRow.{PackageRow}
use Rattle.desk_model.specs.declared.row.ConclusionRow.{ConclusionRow}
use Rattle.desk_model.specs.declared.row.AdoptionRow.{AdoptionRow}
use Rattle.desk_model.specs.declared.row.ReleaseRow.{ReleaseRow}
use Rattle.desk_model.specs.declared.row.DutyRow.{DutyRow}
use Rattle.desk_model.specs.declared.row.ChangeRow.{ChangeRow}
use Rattle.desk_model.specs.declared.state.ReleaseState.TheVariants.{Frozen}
use Rattle.desk_model.specs.declared.command.Change.{Change}
use Rattle.desk_model.specs.declared.command.Change.TheVariants.{Loaded, Imported, Opened, Attached}
use Rattle.desk_model.specs.declared.command.Change.TheVariants.{Chosen, Froze, Moved, Withdrew}
use Rattle.desk_model.specs.declared.command.Change.TheVariants.{Concluded, Adopted}
use Rattle.desk_model.proofs.Lists.{each_passes, all_pass}
use Rattle.desk_history.specs.FromTables.{duty_found}
use Rattle.desk_history.specs.Laws.{Ascends}
use Rattle.desk_history.proofs.Members.{in_cases}
use Rattle.desk_history.proofs.Orders.{attached_is_order, choice_is_order}
use Rattle.desk_access.specs.Follows.{Follows, AreNext, are_numbered, are_first}
use Rattle.desk_sql_layout.specs.Cells.{is_word}
use Rattle.desk_sql_layout.specs.Held.{AreNumbered, AreOrderly, package_below}
use Rattle.desk_sql_layout.specs.Writable.{rise, are_of, is_writable}
use Rattle.desk_sql_layout.proofs.Ascending.{release_is_order, text_is_order, change_is_order}
use Rattle.desk_sql_layout.proofs.Ascending.{from_put, ascends_put, ascends_put_all, ascends_filter}
use Rattle.desk_sql_layout.proofs.Ascending.{by_key, same_keys, ascends_updated}
use Rattle.desk_sql_layout.proofs.Ascending.{numbers_ascend, numbered_on}
use Rattle.desk_base.proofs.Bools.{and_left, and_right}
use Rattle.desk_history.proofs.Sorting.{frozen_is_order, joined}
use Rattle.desk_history.proofs.Concluding.{conclusion_is_order, adoption_is_order}

-- ---- all of a list

all_both : {A : Type 0} (p : A → Bool) (xs ys : List A) → list_all p xs ≡ true
    → list_all p ys ≡ true → list_all p (xs ++ ys) ≡ true
all_both p xs ys old new = all_pass p (xs ++ ys)
    (λ x there. elim (in_cases x xs ys there)
    [ inl m ↦ each_passes p x xs old m | inr m ↦ each_passes p x ys new m ])

after_any : (a b : ℕ) (s : Bool) → a < b → (nat_lt b a || ((b == a) && s)) ≡ false
after_any a b true less = grind (arith, nat_tests)
after_any a b false less = grind (arith, nat_tests)

at_same : (a b : ℕ) (s : Bool) → a ≡ b → s ≡ false → (nat_lt a b || ((a == b) && s)) ≡ false
at_same a b true same off = absurd (cc)
at_same a b false same off = grind (arith, nat_tests)

-- ---- numbers

pub at_most : (n m : ℕ) (ns : List ℕ) → AreNumbered n ns → IsIn m ns → m < n + length ns
at_most n m [] are there = absurd there
at_most n m (k ∷ ks) are (inl e) = omega (arith, are.0, e)
at_most n m (k ∷ ks) are (inr there) = omega (arith, at_most (n + 1) m ks are.1 there)

one_more : {A : Type 0} (key : A → ℕ) (rows : List A) (row : A) → AreNumbered 1 (map key rows)
    → key row ≡ length rows + 1 → AreNumbered 1 (map key (rows ++ row ∷ []))
one_more key rows row are next =
    subst (AreNumbered 1) (sym (map-append key rows (row ∷ [])))
    (numbered_on 1 (map key rows) (key row ∷ []) are (omega (arith, next, length-map rows key), tt))

are_numbers : (n : ℕ) (rows : List DutyRow) → are_numbered n rows ≡ true
    → AreNumbered n (map (λ (row : DutyRow). row.number) rows)
are_numbers n [] e = tt
are_numbers n (row ∷ rows) e = (
  eqb-true row.number n (and_left (row.number == n) (are_numbered (n + 1) rows) e),
  are_numbers (n + 1) rows (and_right (row.number == n) (are_numbered (n + 1) rows) e),
)

moved_numbers : (changes : List ChangeRow) (rows : List DutyRow)
    → map (λ (row : DutyRow). row.number) (moved_by changes rows)
    ≡ map (λ (row : DutyRow). row.number) rows
moved_numbers [] rows = refl
moved_numbers (c ∷ changes) rows = same_keys (λ (row : DutyRow). row.number) (is_duty c.duty)
    (with_duty_state (state_after c.word)) (λ x. refl) (moved_by changes rows)
    ∙ moved_numbers changes rows

pub moved_length : (changes : List ChangeRow) (rows : List DutyRow)
    → length (moved_by changes rows) ≡ length rows
moved_length changes rows =
    sym (length-map (moved_by changes rows) (λ (row : DutyRow). row.number))
    ∙ ap length (moved_numbers changes rows) ∙ length-map rows (λ (row : DutyRow). row.number)

-- ---- changes

found_in : (q : ℕ) (rows : List DutyRow) → is_some (find (is_duty q) rows) ≡ true
    → IsIn q (map (λ (row : DutyRow). row.number) rows)
found_in q [] some = absurd (cc)
found_in q (row ∷ rows) some = go (found_in q rows) (row.number == q) refl some
  where
    go : (is_some (find (is_duty q) rows) ≡ true
        → IsIn q (map (λ (row : DutyRow). row.number) rows)) → (b : Bool) → (row.number == q) ≡ b
        → is_some (cond b (Some row) (find (is_duty q) rows)) ≡ true
        → IsIn q (map (λ (row : DutyRow). row.number) (row ∷ rows))
    go more true e some = inl (eqb-true row.number q e)
    go more false e some = inr (more some)

from_put_all : (z : ChangeRow) (xs ys : List ChangeRow) → IsIn z (put_all change_below xs ys)
    → IsIn z xs ⊎ IsIn z ys
from_put_all z [] ys there = inr there
from_put_all z (x ∷ xs) ys there = elim (from_put change_below z x (put_all change_below xs ys)
    there) [
      | inl e ↦ inl (inl e)
      | inr m ↦ elim (from_put_all z xs ys m) [ inl a ↦ inl (inr a) | inr b ↦ inr b ]
    ]

module _ (t : Tables) (o : AreOrderly t) where
  stands : (q : ℕ) → is_some (duty_found t q) ≡ true → q ≤ length t.duty
  stands q some = let low = at_most 1 q (map (λ (row : DutyRow). row.number) t.duty) o.duties
      (found_in q t.duty some) in
      omega (arith, low, length-map t.duty (λ (row : DutyRow). row.number))

  -- the changes are still of duties that exist
  moved_within : (changes : List ChangeRow) → AreNext t changes
      → list_all (λ (row : ChangeRow). nat_le row.duty (length (moved_by changes t.duty)))
      (put_all change_below changes t.changes) ≡ true
  moved_within changes next =
      subst (λ n. list_all (λ (row : ChangeRow). nat_le row.duty n)
      (put_all change_below changes t.changes) ≡ true) (sym (moved_length changes t.duty))
      (all_pass (λ (row : ChangeRow). nat_le row.duty (length t.duty))
      (put_all change_below changes t.changes)
      (λ row there. elim (from_put_all row changes t.changes there) [
        | inl new ↦ le-leb row.duty (length t.duty)
            (stands row.duty (each_passes (λ (row : ChangeRow). is_some (duty_found t row.duty)) row
            changes next.2 new))
        | inr old ↦ each_passes (λ (row : ChangeRow). nat_le row.duty (length t.duty)) row t.changes
            o.of_duties old
      ]))

  moved_duties : (changes : List ChangeRow)
      → AreNumbered 1 (map (λ (row : DutyRow). row.number) (moved_by changes t.duty))
  moved_duties changes = subst (AreNumbered 1) (sym (moved_numbers changes t.duty)) o.duties

first_low : (n : ℕ) (z : ChangeRow) (rows : List ChangeRow) → are_first n rows ≡ true → IsIn z rows
    → n ≤ z.duty
first_low n z [] first there = absurd there
first_low n z (row ∷ rows) first (inl e) =
    omega (
      arith,
      ap (λ (r : ChangeRow). r.duty) e,
      eqb-true row.duty n (and_left (row.duty == n) ((row.step == 1) && are_first (n + 1) rows)
          (and_out (row.duty == n) (row.step == 1) (are_first (n + 1) rows) first)),
    )
  where
    and_out : (a b c : Bool) → (a && b && c) ≡ true → (a && (b && c)) ≡ true
    and_out true b c e = e
    and_out false b c e = e
first_low n z (row ∷ rows) first (inr there) = omega (
  arith,
  first_low (n + 1) z rows (and_right ((row.duty == n) && (row.step == 1)) (are_first (n + 1) rows)
      first) there,
)

first_high : (n : ℕ) (z : ChangeRow) (rows : List ChangeRow) → are_first n rows ≡ true → IsIn z rows
    → z.duty < n + length rows
first_high n z [] first there = absurd there
first_high n z (row ∷ rows) first (inl e) =
    omega (
      arith,
      ap (λ (r : ChangeRow). r.duty) e,
      eqb-true row.duty n (and_left (row.duty == n) (row.step == 1)
          (and_left ((row.duty == n) && (row.step == 1)) (are_first (n + 1) rows) first)),
    )
first_high n z (row ∷ rows) first (inr there) = omega (
  arith,
  first_high (n + 1) z rows (and_right ((row.duty == n) && (row.step == 1)) (are_first (n + 1) rows)
      first) there,
)

first_ascend : (n : ℕ) (rows : List ChangeRow) → are_first n rows ≡ true → Ascends change_below rows
first_ascend n [] first = tt
first_ascend n (row ∷ rows) first =
    let here = eqb-true row.duty n (and_left (row.duty == n) (row.step == 1)
    (and_left ((row.duty == n) && (row.step == 1)) (are_first (n + 1) rows) first)) in
    let rest = and_right ((row.duty == n) && (row.step == 1)) (are_first (n + 1) rows) first in (
      λ z there. after_any row.duty z.duty (nat_lt z.step row.step)
          (omega (arith, here, first_low (n + 1) z rows rest there)),
      first_ascend (n + 1) rows rest,
    )

-- ---- packages

rise_all : (p z : PackageRow) (ps : List PackageRow) → rise (p ∷ ps) ≡ true → IsIn z ps
    → text_below p.id z.id ≡ true
rise_all p z [] up there = absurd there
rise_all p z (q ∷ ps) up (inl e) = subst (λ (r : PackageRow). text_below p.id r.id ≡ true) e
    (and_left (text_below p.id q.id) (rise (q ∷ ps)) up)
rise_all p z (q ∷ ps) up (inr there) =
    let next = rise_all q z ps (and_right (text_below p.id q.id) (rise (q ∷ ps)) up) there in
    text_is_order.between p.id q.id z.id (and_left (text_below p.id q.id) (rise (q ∷ ps)) up)
    (text_is_order.asym q.id z.id next)

rise_rest : (p : PackageRow) (ps : List PackageRow) → rise (p ∷ ps) ≡ true → rise ps ≡ true
rise_rest p [] up = refl
rise_rest p (q ∷ ps) up = and_right (text_below p.id q.id) (rise (q ∷ ps)) up

packages_ascend : (n : ℕ) (ps : List PackageRow) → are_of n ps ≡ true → rise ps ≡ true
    → Ascends package_below ps
packages_ascend n [] of up = tt
packages_ascend n (p ∷ ps) of up =
    let mine = eqb-true p.document n (and_left (p.document == n) (are_of n ps) of) in
    let rest = and_right (p.document == n) (are_of n ps) of in (
      λ z there. at_same z.document p.document (text_below z.id p.id)
          (eqb-true z.document n (each_passes (λ (q : PackageRow). q.document == n) z ps rest there)
          ∙ sym mine) (text_is_order.asym p.id z.id (rise_all p z ps up there)),
      packages_ascend n ps rest (rise_rest p ps up),
    )

-- ---- the changes

-- Each proof gives the facts of the tables that change; the other facts are as they were.

moved_kept : (changes : List ChangeRow) (t : Tables) → AreNext t changes → AreOrderly t
    → AreOrderly (applied (Moved changes) t)
moved_kept changes t next o =
    assumption (
      moved_duties t o changes,
      moved_within t o changes next,
      by_key (λ (row : DutyRow). row.number) nat_lt (moved_by changes t.duty)
          (numbers_ascend 1 _ (moved_duties t o changes)),
      ascends_put_all change_below change_is_order changes t.changes o.sorted.changes,
    )

pub order_kept : (change : Change) (t : Tables) → Follows change t → is_writable change ≡ true
    → AreOrderly t → AreOrderly (applied change t)
order_kept (Loaded row rules forms) t follows writable o =
    let revisions = one_more (λ (row : CatalogueRow). row.revision) t.catalogue row o.revisions
    follows in
    assumption (
      revisions,
      by_key (λ (row : CatalogueRow). row.revision) nat_lt (t.catalogue ++ row ∷ [])
          (numbers_ascend 1 _ revisions),
      all_both (λ (row : RuleRow). list_all is_word row.codes) t.rule rules o.codes writable,
    )
order_kept (Imported row packages references) t follows writable o =
    let documents = one_more (λ (row : DocumentRow). row.number) t.document row o.documents
    follows in
    let of = and_left (are_of row.number packages) (rise packages) writable in
    let up = and_right (are_of row.number packages) (rise packages) writable in
    let longer : length (t.document ++ row ∷ []) ≡ length t.document + 1 =
    length-append t.document (row ∷ []) in
    let old_low = λ (p : PackageRow) (there : IsIn p t.packages). leb-true p.document
    (length t.document) (each_passes (λ (p : PackageRow). nat_le p.document (length t.document)) p
    t.packages o.of_documents there) in
    let new_is = λ (p : PackageRow) (there : IsIn p packages). eqb-true p.document row.number
    (each_passes (λ (p : PackageRow). p.document == row.number) p packages of there) in
    assumption (
      documents,
      by_key (λ (row : DocumentRow). row.number) nat_lt (t.document ++ row ∷ [])
          (numbers_ascend 1 _ documents),
      joined package_below t.packages packages o.packages
          (packages_ascend row.number packages of up)
          (λ x y old new. after_any x.document y.document (text_below y.id x.id)
          (omega (arith, follows, old_low x old, new_is y new))),
      all_pass (λ (p : PackageRow). nat_le p.document (length (t.document ++ row ∷ [])))
          (t.packages ++ packages) (λ p there. le-leb p.document (length (t.document ++ row ∷ []))
          (elim (in_cases p t.packages packages there) [
            | inl old ↦ omega (arith, longer, old_low p old)
            | inr new ↦ omega (arith, longer, follows, new_is p new)
          ])),
    )
order_kept (Opened row) t follows writable o =
    assumption (ascends_put release_below release_is_order row t.releases o.sorted.releases)
order_kept (Attached row) t follows writable o =
    assumption (ascends_put (below_by attached_order) attached_is_order row t.attached
    o.sorted.attached)
order_kept (Chosen release document package_id rows) t follows writable o =
    assumption (ascends_put_all (below_by choice_order) choice_is_order rows
    (filter (is_other_choice release document package_id) t.choice)
    (ascends_filter (below_by choice_order) (is_other_choice release document package_id) t.choice
    o.sorted.choice))
order_kept (Froze release revision frozen duties changes) t follows writable o =
    let n = length t.duty in
    let numbers = λ (row : DutyRow). row.number in
    let numbered : AreNumbered 1 (map numbers (t.duty ++ duties)) =
    subst (AreNumbered 1) (sym (map-append numbers t.duty duties))
    (numbered_on 1 (map numbers t.duty) (map numbers duties) o.duties
    (subst (λ k. AreNumbered k (map numbers duties)) (omega (arith, length-map t.duty numbers))
    (are_numbers (n + 1) duties follows.0))) in
    let longer : length (t.duty ++ duties) ≡ n + length duties = length-append t.duty duties in
    let old_low = λ (row : ChangeRow) (there : IsIn row t.changes). leb-true row.duty n
    (each_passes (λ (row : ChangeRow). nat_le row.duty n) row t.changes o.of_duties there) in
    assumption (
      numbered,
      ascends_updated (λ (row : ReleaseRow). row.name) text_below (is_release release)
          (with_release_state Frozen revision) (λ x. refl) t.releases o.sorted.releases,
      ascends_put_all (below_by frozen_order) frozen_is_order frozen t.frozen o.sorted.frozen,
      by_key numbers nat_lt (t.duty ++ duties) (numbers_ascend 1 _ numbered),
      joined change_below t.changes changes o.sorted.changes
          (first_ascend (n + 1) changes follows.1)
          (λ x y old new. after_any x.duty y.duty (nat_lt y.step x.step)
          (omega (arith, old_low x old, first_low (n + 1) y changes follows.1 new))),
      all_pass (λ (row : ChangeRow). nat_le row.duty (length (t.duty ++ duties)))
          (t.changes ++ changes) (λ row there. le-leb row.duty (length (t.duty ++ duties))
          (elim (in_cases row t.changes changes there) [
            | inl old ↦ omega (arith, longer, old_low row old)
            | inr new ↦ omega (
              arith,
              longer,
              follows.2,
              first_high (n + 1) row changes follows.1 new,
            )
          ])),
    )
order_kept (Moved changes) t follows writable o = moved_kept changes t follows o
order_kept (Withdrew release changes) t follows writable o =
    assumption (
      moved_kept changes t follows o,
      ascends_updated (λ (row : ReleaseRow). row.name) text_below (is_release release)
          withdrawn_release (λ x. refl) t.releases o.sorted.releases,
      ascends_filter (below_by choice_order) (is_choice_elsewhere release) t.choice
          o.sorted.choice,
    )
order_kept (Concluded row) t follows writable o =
    let kept = λ (other : ConclusionRow). not (is_conclusion row.document row.package_id other) in
    assumption (ascends_put (below_by conclusion_order) conclusion_is_order row
    (filter kept t.conclusion) (ascends_filter (below_by conclusion_order) kept t.conclusion
    o.sorted.conclusion))
order_kept (Adopted row) t follows writable o =
    let kept = λ (other : AdoptionRow). not (is_adoption row.document row.reference other) in
    assumption (ascends_put (below_by adoption_order) adoption_is_order row
    (filter kept t.adoption) (ascends_filter (below_by adoption_order) kept t.adoption
    o.sorted.adoption))
