-- The rows of conclusions and adoptions are the last ones of each.
use Rattle.std.proofs.Common.{◌≡◌, ◌⊎◌, ℕ, Bool, true, false, List, [], ◌∷◌, Option, Some, None}
use Rattle.std.proofs.Common.{sym, refl, ap, ◌∙◌, subst, inl, inr}
use Rattle.std.proofs.lemmas.Bool.{and_from}
use Rattle.std.proofs.lemmas.Option.{same_Some}
use Rattle.std.specs.Prelude.{◌&&◌, ◌==◌, if◌then◌else◌}
use Rattle.std.specs.Str.{bytes_eq}
use Rattle.desk_model.specs.Lists.{IsIn, latest, or_else}
use Rattle.desk_model.specs.Readings.{Readings}
use Rattle.desk_model.specs.Keys.{below_by, conclusion_order, adoption_order, is_conclusion, is_adoption}
use Rattle.desk_model.specs.Conclusions.{conclusions, conclusion_row, text_given, adoptions}
use Rattle.desk_model.specs.Conclusions.{adoption_row, licence_given}
use Rattle.desk_model.specs.declared.row.AdoptionRow.{AdoptionRow}
use Rattle.desk_model.specs.declared.row.ConclusionRow.{ConclusionRow}
use Rattle.desk_model.specs.declared.command.Command.{Command}
use Rattle.desk_model.specs.declared.command.Command.TheVariants.{Conclude, Adopt}
use Rattle.desk_base.proofs.Bools.{contrary}
use Rattle.desk_base.proofs.Numbers.{same_number}
use Rattle.desk_base.proofs.Texts.{same_text}
use Rattle.desk_history.proofs.Concluding.{key_number, key_text, own_key}
use Rattle.desk_history_laws.specs.Filters.{last_given}
use Rattle.desk_history_laws.proofs.Given.{latest-last}
use Rattle.desk_history_laws.proofs.Members.{in_replaced, from_replaced}

-- one key is another one if and only if that is the first
turned : (d d' : ℕ) (p p' : List ℕ) → ((d' == d) && bytes_eq p' p) ≡ true
    → ((d == d') && bytes_eq p p') ≡ true
turned d d' p p' e =
    and_from (d == d') (bytes_eq p p')
    (subst (λ (k : ℕ). (d == k) ≡ true) (sym (key_number d d' p p' e)) (same_number d))
    (subst (λ (t : List ℕ). bytes_eq p t ≡ true) (sym (key_text d d' p p' e)) (same_text p))

apart : (d d' : ℕ) (p p' : List ℕ) (b : Bool) → ((d' == d) && bytes_eq p' p) ≡ b
    → ((d == d') && bytes_eq p p') ≡ false → b ≡ false
apart d d' p p' true e f = absurd (contrary ((d == d') && bytes_eq p p') (turned d d' p p' e) f)
apart d d' p p' false e f = refl

-- Conclusions

concluded_row : (row : ConclusionRow) (d : ℕ) (p text : List ℕ) → d ≡ row.document
    → p ≡ row.package_id → text ≡ row.expression → conclusion_row d p text ≡ row
concluded_row row d p text e f g =
    ap (λ (k : ℕ). conclusion_row k p text) e
    ∙ (ap (λ (t : List ℕ). conclusion_row row.document t text) f
    ∙ ap (λ (t : List ℕ). conclusion_row row.document row.package_id t) g)

in_step : (row : ConclusionRow) (d : ℕ) (p text : List ℕ) (h : List Command) (b : Bool)
    → is_conclusion row.document row.package_id (conclusion_row d p text) ≡ b
    → or_else (if b then Some text else None) (latest (text_given row.document row.package_id) h)
    ≡ Some row.expression → (latest (text_given row.document row.package_id) h ≡ Some row.expression
    → IsIn row (conclusions h)) → IsIn row (conclusions (Conclude d p text ∷ h))
in_step row d p text h true e is rest =
    in_replaced (below_by conclusion_order) (is_conclusion d p) (conclusion_row d p text) row
    (conclusions h)
    (inl (concluded_row row d p text (key_number row.document d row.package_id p e)
    (key_text row.document d row.package_id p e) (same_Some text row.expression is)))
in_step row d p text h false e is rest =
    in_replaced (below_by conclusion_order) (is_conclusion d p) (conclusion_row d p text) row
    (conclusions h)
    (inr (apart d row.document p row.package_id (is_conclusion d p row) refl e, rest is))

in_latest : (h : List Command) (row : ConclusionRow)
    → latest (text_given row.document row.package_id) h ≡ Some row.expression
    → IsIn row (conclusions h)
in_latest [] row e = cc
in_latest (Conclude d p text ∷ h) row e = in_step row d p text h
    (is_conclusion row.document row.package_id (conclusion_row d p text)) refl e (in_latest h row)
in_latest (_ ∷ h) row e = in_latest h row e

from_step : (row : ConclusionRow) (d : ℕ) (p text : List ℕ) (h : List Command)
    → (IsIn row (conclusions h) → latest (text_given row.document row.package_id) h
    ≡ Some row.expression)
    → (conclusion_row d p text ≡ row) ⊎ ((is_conclusion d p row ≡ false) × IsIn row (conclusions h))
    → latest (text_given row.document row.package_id) (Conclude d p text ∷ h) ≡ Some row.expression
from_step row d p text h rest at =
    let told : Bool → Option (List ℕ) =
    λ b. or_else (if b then Some text else None)
    (latest (text_given row.document row.package_id) h) in
    elim at [
      | inl same ↦
          ap told (subst (λ (u : ConclusionRow). is_conclusion row.document row.package_id u ≡ true)
          (sym same) (own_key row.document row.package_id))
          ∙ ap (λ (t : List ℕ). Some t) (ap (λ (u : ConclusionRow). u.expression) same)
      | inr other ↦ ap told (apart row.document d row.package_id p
          (is_conclusion row.document row.package_id (conclusion_row d p text)) refl other.0)
          ∙ rest other.1
    ]

from_latest : (h : List Command) (row : ConclusionRow) → IsIn row (conclusions h)
    → latest (text_given row.document row.package_id) h ≡ Some row.expression
from_latest [] row m = absurd m
from_latest (Conclude d p text ∷ h) row m = from_step row d p text h (from_latest h row)
    (from_replaced (below_by conclusion_order) (is_conclusion d p) (conclusion_row d p text) row
    (conclusions h) m)
from_latest (_ ∷ h) row m = from_latest h row m

pub in_conclusions : (h : List Command) (row : ConclusionRow)
    → last_given (text_given row.document row.package_id) h ≡ Some row.expression
    → IsIn row (conclusions h)
in_conclusions h row e = in_latest h row
    (latest-last (text_given row.document row.package_id) h ∙ e)

pub from_conclusions : (h : List Command) (row : ConclusionRow) → IsIn row (conclusions h)
    → last_given (text_given row.document row.package_id) h ≡ Some row.expression
from_conclusions h row m = sym (latest-last (text_given row.document row.package_id) h)
    ∙ from_latest h row m

-- Adoptions

adopted_row : (row at : AdoptionRow) → at.document ≡ row.document → at.reference ≡ row.reference
    → at.licence ≡ row.licence → at ≡ row
adopted_row row at e f g =
    let made : ℕ → List ℕ → List ℕ → AdoptionRow =
    λ d r l. record { document = d; reference = r; licence = l } in
    ap (λ (k : ℕ). made k at.reference at.licence) e
    ∙ (ap (λ (t : List ℕ). made row.document t at.licence) f
    ∙ ap (λ (t : List ℕ). made row.document row.reference t) g)

in_adopted : (w : Readings) (row at : AdoptionRow) (h : List Command) (b : Bool)
    → is_adoption row.document row.reference at ≡ b
    → or_else (if b then Some at.licence else None)
    (latest (licence_given w row.document row.reference) h) ≡ Some row.licence
    → (latest (licence_given w row.document row.reference) h ≡ Some row.licence
    → IsIn row (adoptions w h))
    → (at ≡ row) ⊎ ((is_adoption at.document at.reference row ≡ false) × IsIn row (adoptions w h))
in_adopted w row at h true e is rest =
    inl (adopted_row row at (key_number row.document at.document row.reference at.reference e)
    (key_text row.document at.document row.reference at.reference e)
    (same_Some at.licence row.licence is))
in_adopted w row at h false e is rest = inr (
  apart at.document row.document at.reference row.reference
      (is_adoption at.document at.reference row) refl e,
  rest is,
)

in_last : (w : Readings) (h : List Command) (row : AdoptionRow)
    → latest (licence_given w row.document row.reference) h ≡ Some row.licence
    → IsIn row (adoptions w h)
in_last w [] row e = cc
in_last w (Adopt d reference licence ∷ h) row e =
    let at : AdoptionRow = adoption_row w d reference licence in
    in_replaced (below_by adoption_order) (is_adoption d at.reference) at row (adoptions w h)
    (in_adopted w row at h (is_adoption row.document row.reference at) refl e (in_last w h row))
in_last w (_ ∷ h) row e = in_last w h row e

from_adopted : (w : Readings) (row at : AdoptionRow) (h : List Command)
    → (IsIn row (adoptions w h) → latest (licence_given w row.document row.reference) h
    ≡ Some row.licence)
    → (at ≡ row) ⊎ ((is_adoption at.document at.reference row ≡ false) × IsIn row (adoptions w h))
    → or_else (if is_adoption row.document row.reference at then Some at.licence else None)
    (latest (licence_given w row.document row.reference) h) ≡ Some row.licence
from_adopted w row at h rest is =
    let told : Bool → Option (List ℕ) =
    λ b. or_else (if b then Some at.licence else None)
    (latest (licence_given w row.document row.reference) h) in
    elim is [
      | inl same ↦
          ap told (subst (λ (u : AdoptionRow). is_adoption row.document row.reference u ≡ true)
          (sym same) (own_key row.document row.reference))
          ∙ ap (λ (t : List ℕ). Some t) (ap (λ (u : AdoptionRow). u.licence) same)
      | inr other ↦ ap told (apart row.document at.document row.reference at.reference
          (is_adoption row.document row.reference at) refl other.0) ∙ rest other.1
    ]

from_last : (w : Readings) (h : List Command) (row : AdoptionRow) → IsIn row (adoptions w h)
    → latest (licence_given w row.document row.reference) h ≡ Some row.licence
from_last w [] row m = absurd m
from_last w (Adopt d reference licence ∷ h) row m =
    let at : AdoptionRow = adoption_row w d reference licence in
    from_adopted w row at h (from_last w h row)
    (from_replaced (below_by adoption_order) (is_adoption d at.reference) at row (adoptions w h) m)
from_last w (_ ∷ h) row m = from_last w h row m

pub in_adoptions : (w : Readings) (h : List Command) (row : AdoptionRow)
    → last_given (licence_given w row.document row.reference) h ≡ Some row.licence
    → IsIn row (adoptions w h)
in_adoptions w h row e = in_last w h row
    (latest-last (licence_given w row.document row.reference) h ∙ e)

pub from_adoptions : (w : Readings) (h : List Command) (row : AdoptionRow)
    → IsIn row (adoptions w h) → last_given (licence_given w row.document row.reference) h
    ≡ Some row.licence
from_adoptions w h row m = sym (latest-last (licence_given w row.document row.reference) h)
    ∙ from_last w h row m
