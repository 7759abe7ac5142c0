-- Lines of releases and documents, and open duties.
use Rattle.std.proofs.Common.{◌≡◌, ◌∙◌, inl, inr, ℕ, Bool, true, false, List, [], ◌∷◌, map}
use Rattle.std.proofs.Common.{Option, Some, None, refl, sym, ap, ap₂, arith}
use Rattle.std.specs.Prelude.{◌&&◌, ◌==◌, not, count_by, filter, find, is_some}
use Rattle.std.specs.Option.{option_map}
use Rattle.std.proofs.lemmas.Bool.Decides.{nat_tests}
use Rattle.std.proofs.lemmas.List.Sums.{length-filter}
use Rattle.std.proofs.lemmas.Slice.Eq.{bytes_eq-Decides}
use Rattle.std.proofs.lemmas.List.{nil_from_length}
use Rattle.desk_model.specs.Keys.{is_duty_of, is_release}
use Rattle.desk_model.specs.Lists.{IsIn}
use Rattle.desk_model.specs.Queries.{document_line, head_of, is_open_of, release_line}
use Rattle.desk_model.specs.States.{is_open}
use Rattle.desk_model.specs.Tables.{Tables}
use Rattle.desk_model.specs.declared.command.Totals.{Totals}
use Rattle.desk_model.specs.declared.row.DocumentRow.{DocumentRow}
use Rattle.desk_model.specs.declared.row.DutyRow.{DutyRow}
use Rattle.desk_model.specs.declared.row.ReleaseRow.{ReleaseRow}
use Rattle.desk_questions.specs.Lists.{counted_line, head_line}

-- a release of a list is found there
found_in : (rows : List ReleaseRow) (row : ReleaseRow) → IsIn row rows
    → is_some (find (is_release row.name) rows) ≡ true
found_in [] row there = elim there [ ]
found_in (x ∷ xs) row (inl same) = let here : is_release row.name x ≡ true =
    (bytes_eq-Decides x.name row.name).1 (ap (λ (r : ReleaseRow). r.name) same) in rw here refl
found_in (x ∷ xs) row (inr more) = go (found_in xs row more) (is_release row.name x) refl
  where
    go : is_some (find (is_release row.name) xs) ≡ true → (b : Bool) → is_release row.name x ≡ b
        → is_some (find (is_release row.name) (x ∷ xs)) ≡ true
    go rest true is = rw is refl
    go rest false is = rw is rest

all_counted : (t : Tables) (rows : List ReleaseRow)
    → ((row : ReleaseRow) → IsIn row rows → is_some (find (is_release row.name) t.releases) ≡ true)
    → map (counted_line t) rows ≡ map (release_line t.duty) rows
all_counted t [] found = refl
all_counted t (x ∷ xs) found = ap₂ (λ a b. a ∷ b) (one (find (is_release x.name) t.releases) refl)
    (all_counted t xs (λ row is. found row (inr is)))
  where
    one : (o : Option ReleaseRow) → find (is_release x.name) t.releases ≡ o
        → counted_line t x ≡ release_line t.duty x
    one (Some row) is = rw is refl
    one None is = absurd (let e = rw is at (found x (inl refl)) in cc)

-- the lines of all releases
pub counted : (t : Tables) → map (counted_line t) t.releases ≡ map (release_line t.duty) t.releases
counted t = all_counted t t.releases (found_in t.releases)

-- the lines of all documents
pub headed : (t : Tables) (rows : List DocumentRow)
    → map (head_line t) (map head_of rows) ≡ map (document_line t.packages) rows
headed t [] = refl
headed t (x ∷ xs) = ap (λ lines. document_line t.packages x ∷ lines) (headed t xs)

-- one test after another
pub filter_both : {A : Type 0} (p q : A → Bool) (xs : List A)
    → filter q (filter p xs) ≡ filter (λ x. p x && q x) xs
filter_both p q [] = refl
filter_both {A} p q (x ∷ xs) = go (filter_both p q xs) (p x) (q x) refl refl
  where
    go : filter q (filter p xs) ≡ filter (λ x. p x && q x) xs → (a b : Bool) → p x ≡ a → q x ≡ b
        → filter q (filter p (x ∷ xs)) ≡ filter (λ x. p x && q x) (x ∷ xs)
    go rest true true e f = rw (e, f) (ap (λ l. x ∷ l) rest)
    go rest true false e f = rw (e, f) rest
    go rest false b e f = rw e rest

pub none_open : (r : List ℕ) (rows : List DutyRow)
    → count_by (λ row. is_open row.state) (filter (is_duty_of r) rows) ≡ 0
    → filter (is_open_of r) rows ≡ []
none_open r rows none = sym (filter_both (is_duty_of r) (λ row. is_open row.state) rows)
    ∙ nil_from_length (filter (λ (row : DutyRow). is_open row.state) (filter (is_duty_of r) rows))
    (length-filter (λ (row : DutyRow). is_open row.state) (filter (is_duty_of r) rows) ∙ none)

-- the totals that were looked up
pub told_totals : (o : Option ReleaseRow) (told totals : Totals)
    → Some told ≡ option_map (λ row. totals) o → told ≡ totals
told_totals None told totals e = cc
told_totals (Some row) told totals e = cc

pub no_more : (n : ℕ) → not (n == 0) ≡ false → n ≡ 0
no_more n e = grind (arith, nat_tests)
