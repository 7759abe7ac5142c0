-- The office's conclusions are expressions, its adoptions go from references to licences, and
-- places are those in the order of opening.
use Rattle.std.proofs.Common.{◌≡◌, ℕ, ◌+◌, Bool, true, false, List, [], ◌∷◌, ◌++◌, length, map}
use Rattle.std.proofs.Common.{Option, Some, None, refl, sym, ap, ◌∙◌, subst, add-one, arith, inl}
use Rattle.std.proofs.Common.{inr}
use Rattle.std.specs.Prelude.{ℤ, pos, IsTrue, is_some, not, filter, ◌&&◌, unwrap_or, IsPermutation}
use Rattle.std.specs.List.{list_all, flat_map}
use Rattle.std.specs.Option.{option_map, option_map_or}
use Rattle.std.specs.Str.{bytes_eq}
use Rattle.std.proofs.lemmas.List.{length-map}
use Rattle.std.proofs.lemmas.List.Concat.{flat_map_single}
use Rattle.std.proofs.lemmas.List.FromFn.{map-range_with_len_more}
use Rattle.std.proofs.lemmas.List.Sorted.{IsPermutation-append_comm, IsPermutation-cons}
use Rattle.std.proofs.lemmas.List.Sorted.{IsPermutation-refl, IsPermutation-sym}
use Rattle.std.proofs.lemmas.List.Sorted.{IsPermutation-trans}
use Rattle.std.proofs.lemmas.Bool.{and_from}
use Rattle.std.proofs.lemmas.Simd.{map-map}
use Rattle.desk_base.specs.declared.profile.Profile.TheVariants.{Capitals}
use Rattle.desk_base.proofs.Texts.{same_text, text_tells}
use Rattle.desk_model.specs.Lists.{IsIn, in_order, latest, replaced}
use Rattle.desk_model.specs.Keys.{below_by, adoption_order, conclusion_order, is_adoption, is_conclusion}
use Rattle.desk_model.specs.Readings.{Readings}
use Rattle.desk_model.specs.Texts.{text_below}
use Rattle.desk_model.specs.History.{form_given, form_of, names, opened, place_in}
use Rattle.desk_model.specs.Conclusions.{adoption_row, adoptions, conclusion_row, conclusions, is_plain, is_reference}
use Rattle.desk_model.specs.Answers.{answer, concluding, IsHistory, is_recorded, unless}
use Rattle.desk_model.specs.Tables.{release_row, release_rows}
use Rattle.desk_model.specs.declared.refusal.Refusal.TheVariants as why
use Rattle.desk_model.specs.declared.refusal.ExpressionFault.{ExpressionFault}
use Rattle.desk_model.specs.declared.row.AdoptionRow.{AdoptionRow}
use Rattle.desk_model.specs.declared.row.ConclusionRow.{ConclusionRow}
use Rattle.desk_model.specs.declared.row.ReleaseRow.{ReleaseRow}
use Rattle.desk_model.specs.declared.command.Command.{Command}
use Rattle.desk_model.specs.declared.command.Command.TheVariants.{Adopt, Conclude, OpenRelease}
use Rattle.desk_model.proofs.Lists.{all_pass, from_put}
use Rattle.desk_history.proofs.Lookups.{length-releases}
use Rattle.desk_history.proofs.Members.{from_map}
use Rattle.desk_history.proofs.Distinct.{from_filter}
use Rattle.desk_history.proofs.Recorded.{is_so, past}
use Rattle.desk_snapshot.specs.Conditions as audit
use Rattle.desk_snapshot.specs.Conditions.{is_printed, is_that, numbers_to}
use Rattle.desk_snapshot.specs.Tables.{adoption_stored, conclusion_stored, release_stored}
use Rattle.desk_snapshot.specs.declared.rows.StoredAdoption.{StoredAdoption}
use Rattle.desk_snapshot.specs.declared.rows.StoredConclusion.{StoredConclusion}
use Rattle.desk_snapshot.specs.declared.rows.StoredRelease.{StoredRelease}
use Rattle.desk_history_laws.specs.ChoicePremises.{ReadsChoices}
use Rattle.desk_history_laws.proofs.Parts.{ordered_parts}
use Rattle.desk_history_laws.proofs.Recorded.{opened_form}
use Rattle.desk_history_laws.proofs.Bills.{map_within, known_too}

-- a row in place of what had its key, or one that was there before
pub from_replaced : {A : Type 0} (below : A → A → Bool) (at : A → Bool) (x z : A) (xs : List A)
    → (P : A → Type 0) → P x → (IsIn z xs → P z) → IsIn z (replaced below at x xs) → P z
from_replaced below at x z xs P new old m =
    elim (from_put below x z (filter (λ y. not (at y)) xs) m) [
      | inl same ↦ subst P same new
      | inr n ↦ old (from_filter (λ y. not (at y)) z xs n).0
    ]

-- ---- conclusions

no_fault : (o : Option ExpressionFault)
    → option_map (λ (fault : ExpressionFault). why.BadExpression fault) o ≡ None → o ≡ None
no_fault None e = refl
no_fault (Some fault) e = cc

concluded : (w : Readings) → ReadsChoices w → (h : List Command) (d : ℕ) (p text : List ℕ)
    → IsTrue (is_recorded (answer w h (Conclude d p text))) → w.is_expression Capitals text ≡ true
concluded w reads h d p text e =
    let found = concluding w h d p text in
    reads.faultless text (no_fault found.fault
    (past (option_map (λ (fault : ExpressionFault). why.BadExpression fault) found.fault) _ e).0)

are_expressions : (w : Readings) → ReadsChoices w → (h : List Command) → IsHistory w h
    → (row : ConclusionRow) → IsIn row (conclusions h)
    → w.is_expression Capitals row.expression ≡ true
are_expressions w reads [] ok row m = absurd m
are_expressions w reads (Conclude d p text ∷ h) ok row m =
    from_replaced (below_by conclusion_order) (is_conclusion d p) (conclusion_row d p text) row
    (conclusions h) (λ (row : ConclusionRow). w.is_expression Capitals row.expression ≡ true)
    (concluded w reads h d p text ok.0) (are_expressions w reads h ok.1 row) m
are_expressions w reads (c ∷ h) ok row m = are_expressions w reads h ok.1 row m

pub expressions : (w : Readings) → ReadsChoices w → (h : List Command) → IsHistory w h
    → list_all (λ (row : StoredConclusion). w.is_expression Capitals row.expression)
    (map conclusion_stored (conclusions h)) ≡ true
expressions w reads h ok =
    all_pass (λ (row : StoredConclusion). w.is_expression Capitals row.expression)
    (map conclusion_stored (conclusions h)) (λ row m.
    let at = from_map conclusion_stored row (conclusions h) m in
    subst (λ (row : StoredConclusion). w.is_expression Capitals row.expression ≡ true) at.2
    (are_expressions w reads h ok at.0 at.1))

-- ---- adoptions

printed_reference : (w : Readings) → ReadsChoices w → (text : List ℕ) (o : Option (List ℕ))
    → w.term text ≡ o → option_map_or
    (λ (term : List ℕ). option_map_or (bytes_eq term) (w.reference term) false) o false ≡ true
    → (is_printed w (unwrap_or o []) && is_that (unwrap_or o []) (w.reference (unwrap_or o [])))
    ≡ true
printed_reference w reads text None e is = cc
printed_reference w reads text (Some term) e is = rw (reads.printed text term e, same_text term) is

printed_licence : (w : Readings) → ReadsChoices w → (text : List ℕ) (o : Option (List ℕ))
    → w.term text ≡ o → option_map_or w.is_licence o false ≡ true
    → (is_printed w (unwrap_or o []) && w.is_licence (unwrap_or o [])) ≡ true
printed_licence w reads text None e is = cc
printed_licence w reads text (Some term) e is = rw (reads.printed text term e, same_text term) is

adopted : (w : Readings) → ReadsChoices w → (h : List Command) (d : ℕ) (reference licence : List ℕ)
    → IsTrue (is_recorded (answer w h (Adopt d reference licence)))
    → audit.is_adoption w (adoption_stored (adoption_row w d reference licence)) ≡ true
adopted w reads h d reference licence e =
    let row = adoption_row w d reference licence in
    let one = past (unless (is_reference w reference) (why.BadTerm 0)) _ e in
    let two = past (unless (is_plain w licence) (why.BadTerm 1)) _ one.1 in
    and_from (is_printed w row.reference && is_that row.reference (w.reference row.reference))
    (is_printed w row.licence && w.is_licence row.licence)
    (printed_reference w reads reference (w.term reference) refl
    (is_so (is_reference w reference) (why.BadTerm 0) one.0))
    (printed_licence w reads licence (w.term licence) refl
    (is_so (is_plain w licence) (why.BadTerm 1) two.0))

are_adoptions : (w : Readings) → ReadsChoices w → (h : List Command) → IsHistory w h
    → (row : AdoptionRow) → IsIn row (adoptions w h)
    → audit.is_adoption w (adoption_stored row) ≡ true
are_adoptions w reads [] ok row m = absurd m
are_adoptions w reads (Adopt d reference licence ∷ h) ok row m =
    let new = adoption_row w d reference licence in
    from_replaced (below_by adoption_order) (is_adoption d new.reference) new row (adoptions w h)
    (λ (row : AdoptionRow). audit.is_adoption w (adoption_stored row) ≡ true)
    (adopted w reads h d reference licence ok.0) (are_adoptions w reads h ok.1 row) m
are_adoptions w reads (c ∷ h) ok row m = are_adoptions w reads h ok.1 row m

pub licences : (w : Readings) → ReadsChoices w → (h : List Command) → IsHistory w h
    → list_all (audit.is_adoption w) (map adoption_stored (adoptions w h)) ≡ true
licences w reads h ok =
    all_pass (audit.is_adoption w) (map adoption_stored (adoptions w h)) (λ row m.
    let at = from_map adoption_stored row (adoptions w h) m in
    subst (λ (row : StoredAdoption). audit.is_adoption w row ≡ true) at.2
    (are_adoptions w reads h ok at.0 at.1))

-- ---- places

pub has_form : (h : List Command) (r : List ℕ) → IsIn r (opened h) → is_some (form_of h r) ≡ true
has_form [] r m = absurd m
has_form (OpenRelease n form ∷ h) r (inl same) = let own : bytes_eq n r ≡ true =
    ap (λ k. bytes_eq k r) same ∙ same_text r in rw own refl
has_form (OpenRelease n form ∷ h) r (inr m) = known_too (bytes_eq n r) form
    (latest (form_given r) h) (has_form h r m)
has_form (c ∷ h) r m = has_form h r m

abbrev places_of : List (List ℕ) → List ℤ
places_of ns = map (λ (r : List ℕ). pos (place_in ns r)) ns

open_places : (w : Readings) (h : List Command) → IsHistory w h
    → IsPermutation (numbers_to (length (opened h))) (places_of (opened h))
open_places w [] ok = IsPermutation-refl []
open_places w (OpenRelease r form ∷ h) ok =
    let ns = opened h in
    let n = length ns in
    let rest : IsPermutation (numbers_to n) (places_of ns) = open_places w h ok.1 in
    let others : map (λ (k : List ℕ). pos (place_in (r ∷ ns) k)) ns ≡ places_of ns =
    map_within (λ (k : List ℕ). pos (place_in (r ∷ ns) k)) (λ (k : List ℕ). pos (place_in ns k)) ns
    (λ k m.
    elim (text_tells r k) [
      | inl same ↦ (let none : is_some (form_of h r) ≡ false = (opened_form w h r form ok.0).1 in
          let there : is_some (form_of h r) ≡ true = ap (λ k. is_some (form_of h k)) same.1
          ∙ has_form h k m in cc)
      | inr differ ↦ rw differ.0 refl
    ]) in
    let own : place_in (r ∷ ns) r ≡ n + 1 = rw (same_text r) refl in
    let all : places_of (r ∷ ns) ≡ pos (n + 1) ∷ places_of ns =
    ap (λ (k : ℕ). pos k ∷ map (λ (k : List ℕ). pos (place_in (r ∷ ns) k)) ns) own
    ∙ ap (λ ks. pos (n + 1) ∷ ks) others in
    let numbers : numbers_to (length (r ∷ ns)) ≡ numbers_to n ++ pos (n + 1) ∷ [] =
    ap numbers_to (sym (add-one n)) ∙ map-range_with_len_more pos 1 n (n + 1) (omega arith) in
    subst (λ ks. IsPermutation ks (places_of (r ∷ ns))) (sym numbers)
    (subst (λ ks. IsPermutation (numbers_to n ++ pos (n + 1) ∷ []) ks) (sym all)
    (IsPermutation-trans (numbers_to n ++ pos (n + 1) ∷ []) (pos (n + 1) ∷ numbers_to n)
    (pos (n + 1) ∷ places_of ns)
    (IsPermutation-append_comm (numbers_to n) (pos (n + 1) ∷ []))
    (IsPermutation-cons (pos (n + 1)) (numbers_to n) (places_of ns) rest)))
open_places w (c ∷ h) ok = open_places w h ok.1

ordered_map : {A B : Type 0} (below : A → A → Bool) (f : A → B) (xs : List A)
    → IsPermutation (map f xs) (map f (in_order below xs))
ordered_map {A} {B} below f xs =
    subst (λ ys. IsPermutation ys (map f (in_order below xs))) (flat_map_single f xs)
    (subst (λ ys. IsPermutation (flat_map (λ x. f x ∷ []) xs) ys)
    (flat_map_single f (in_order below xs))
    (IsPermutation-sym (flat_map (λ x. f x ∷ []) (in_order below xs)) (flat_map (λ x. f x ∷ []) xs)
    (ordered_parts below (λ x. f x ∷ []) xs)))

pub places : (w : Readings) (h : List Command) → IsHistory w h
    → IsPermutation (numbers_to (length (map release_stored (release_rows h))))
    (map (λ (row : StoredRelease). row.place) (map release_stored (release_rows h)))
places w h ok =
    let ns = opened h in
    let rows = release_rows h in
    let count : length (map release_stored rows) ≡ length ns = length-map rows release_stored
    ∙ length-releases h in
    let all : map (λ (row : StoredRelease). row.place) (map release_stored
    rows) ≡ map (λ (r : List ℕ). pos (place_in ns r)) (names h) =
    map-map (λ (row : StoredRelease). row.place) release_stored rows
    ∙ map-map (λ (row : ReleaseRow). pos row.place) (release_row h) (names h) in
    subst (λ (n : ℕ). IsPermutation (numbers_to n)
    (map (λ (row : StoredRelease). row.place) (map release_stored rows))) (sym count)
    (subst (λ (ks : List ℤ). IsPermutation (numbers_to (length ns)) ks) (sym all)
    (IsPermutation-trans (numbers_to (length ns)) (places_of ns)
    (map (λ (r : List ℕ). pos (place_in ns r)) (names h))
    (open_places w h ok) (ordered_map text_below (λ (r : List ℕ). pos (place_in ns r)) ns)))
