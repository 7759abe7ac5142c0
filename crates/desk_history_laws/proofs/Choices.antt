-- What is chosen is what the last decision left.
use Rattle.std.proofs.Common.{◌≡◌, ℕ, Bool, true, false, List, [], ◌∷◌, map, Option, Some, None}
use Rattle.std.proofs.Common.{sym, refl, ap, ◌∙◌, subst}
use Rattle.std.specs.Prelude.{filter, unwrap_or, if◌then◌else◌}
use Rattle.std.specs.Str.{bytes_eq}
use Rattle.desk_model.specs.Lists.{IsIn, latest, or_else}
use Rattle.desk_model.specs.Readings.{Readings}
use Rattle.desk_model.specs.Keys.{below_by, choice_order, is_choice_of}
use Rattle.desk_model.specs.History.{choice, term_set, terms_given, is_package_of}
use Rattle.desk_model.specs.Tables.{standing, choices, choice_row}
use Rattle.desk_model.specs.declared.row.ChoiceRow.{ChoiceRow}
use Rattle.desk_model.specs.declared.command.Command.{Command}
use Rattle.desk_model.specs.declared.command.Command.TheVariants.{Choose, Unchoose, Withdraw}
use Rattle.desk_base.proofs.Numbers.{same_number}
use Rattle.desk_base.proofs.Texts.{same_text}
use Rattle.desk_history.proofs.Members.{in_map, from_map}
use Rattle.desk_history_laws.specs.Filters.{decides, last_decision, terms_left}
use Rattle.desk_history_laws.proofs.Given.{last-filter}
use Rattle.desk_history_laws.proofs.Members.{in_filter, from_filter, in_sorted, from_sorted}

decided : (w : Readings) (c : Command) (terms : List (List ℕ)) (o : Option (List (List ℕ)))
    (last : Option Command) (b : Bool) → terms_left w (Some c) ≡ terms
    → unwrap_or o [] ≡ terms_left w last
    → unwrap_or (or_else (if b then Some terms else None) o) []
    ≡ terms_left w (or_else (if b then Some c else None) last)
decided w c terms o last true e rest = sym e
decided w c terms o last false e rest = rest

pub last-choice : (w : Readings) (h : List Command) (r : List ℕ) (d : ℕ) (p : List ℕ)
    → choice w h r d p ≡ terms_left w (last_decision r d p h)
last-choice w [] r d p = refl
last-choice w (Choose r' d' p' texts ∷ h) r d p =
    decided w (Choose r' d' p' texts) (term_set w texts) (latest (terms_given w r d p) h)
    (last_decision r d p h) (is_package_of r d p r' d' p') refl (last-choice w h r d p)
    ∙ ap (terms_left w) (sym (last-filter (decides r d p) (Choose r' d' p' texts) h))
last-choice w (Unchoose r' d' p' ∷ h) r d p =
    decided w (Unchoose r' d' p') [] (latest (terms_given w r d p) h) (last_decision r d p h)
    (is_package_of r d p r' d' p') refl (last-choice w h r d p)
    ∙ ap (terms_left w) (sym (last-filter (decides r d p) (Unchoose r' d' p') h))
last-choice w (Withdraw r' day text ∷ h) r d p =
    decided w (Withdraw r' day text) [] (latest (terms_given w r d p) h) (last_decision r d p h)
    (bytes_eq r' r) refl (last-choice w h r d p)
    ∙ ap (terms_left w) (sym (last-filter (decides r d p) (Withdraw r' day text) h))
last-choice w (c ∷ h) r d p = last-choice w h r d p
    ∙ ap (terms_left w) (sym (last-filter (decides r d p) c h))

-- the rows of the choices in force

abbrev pub Stands : Type 0
Stands = (w : Readings) (h : List Command) (r : List ℕ) (d : ℕ) (p : List ℕ)
    → filter (is_choice_of r d p) (standing w h) ≡ map (choice_row r d p) (choice w h r d p)

own_key : (row : ChoiceRow) → is_choice_of row.release row.document row.package_id row ≡ true
own_key row = rw (same_text row.release, same_number row.document, same_text row.package_id) refl

pub in_choices : Stands → (w : Readings) (h : List Command) (row : ChoiceRow)
    → IsIn row.term (choice w h row.release row.document row.package_id) → IsIn row (choices w h)
in_choices stands w h row m =
    let there : IsIn row (map (choice_row row.release row.document row.package_id)
    (choice w h row.release row.document row.package_id)) =
    in_map (choice_row row.release row.document row.package_id) row.term
    (choice w h row.release row.document row.package_id) m in
    in_sorted (below_by choice_order) row (standing w h)
    (from_filter (is_choice_of row.release row.document row.package_id) row (standing w h)
    (subst (λ (rows : List ChoiceRow). IsIn row rows)
    (sym (stands w h row.release row.document row.package_id)) there)).1

pub from_choices : Stands → (w : Readings) (h : List Command) (row : ChoiceRow)
    → IsIn row (choices w h) → IsIn row.term (choice w h row.release row.document row.package_id)
from_choices stands w h row m =
    let own : IsIn row (map (choice_row row.release row.document row.package_id)
    (choice w h row.release row.document row.package_id)) =
    subst (λ (rows : List ChoiceRow). IsIn row rows)
    (stands w h row.release row.document row.package_id)
    (in_filter (is_choice_of row.release row.document row.package_id) row (standing w h)
    (own_key row) (from_sorted (below_by choice_order) row (standing w h) m)) in
    let found = from_map (choice_row row.release row.document row.package_id) row
    (choice w h row.release row.document row.package_id) own in
    subst (λ (t : List ℕ). IsIn t (choice w h row.release row.document row.package_id))
    (ap (λ (u : ChoiceRow). u.term) found.2) found.1
