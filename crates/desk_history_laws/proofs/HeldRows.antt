-- What is held for a package: in which release, of what is attached and shipped, and for which
-- conclusion.
use Rattle.std.proofs.Common.{◌≡◌, ℕ, ◌+◌, Bool, true, false, List, [], ◌∷◌, length, map, Option}
use Rattle.std.proofs.Common.{Some, None, refl, sym, ap, ◌∙◌, subst}
use Rattle.std.specs.Prelude.{pos, IsTrue, is_some, not, filter, find, ◌&&◌, ◌||◌, ◌==◌, unwrap_or, if◌then◌else◌}
use Rattle.std.specs.List.{filter_map, list_all, list_any}
use Rattle.std.specs.Option.{option_map, option_map_or, option_or}
use Rattle.std.specs.Ordering.{int_eq}
use Rattle.std.specs.Result.{result_ok}
use Rattle.std.specs.Str.{bytes_eq}
use Rattle.std.proofs.lemmas.Cmp.{nat_cmp_total, nat_list_cmp_total, tied_itself}
use Rattle.std.proofs.lemmas.List.Folds.{find-append}
use Rattle.std.proofs.lemmas.Bool.{and_from}
use Rattle.std.proofs.lemmas.Simd.{map-map}
use Rattle.std.proofs.lemmas.List.Elements.{filter_agree}
use Rattle.desk_base.specs.declared.profile.Profile.{Profile}
use Rattle.desk_base.specs.declared.profile.Profile.TheVariants.{Capitals, Either}
use Rattle.desk_base.proofs.Bools.{and_left, and_right, together}
use Rattle.desk_base.proofs.Numbers.{numbers_equal}
use Rattle.desk_base.proofs.Texts.{texts_equal, same_text}
use Rattle.desk_model.specs.Lists.{IsIn, in_order, latest, or_else, put}
use Rattle.desk_model.specs.Keys as key
use Rattle.desk_model.specs.Keys.{attached_order, below_by, choice_order}
use Rattle.desk_model.specs.Names.{release_state_name}
use Rattle.desk_model.specs.Readings.{Readings}
use Rattle.desk_model.specs.Texts.{sorted_set, text_below}
use Rattle.desk_model.specs.History as history
use Rattle.desk_model.specs.History.{attached, choice, documents, form_of}
use Rattle.desk_model.specs.History.{is_package_of, package_row, packages, packages_in, state_given}
use Rattle.desk_model.specs.History.{state_of, term_set, terms_given}
use Rattle.desk_model.specs.Conclusions.{conclusion_by, conclusions, office_text, profile_in}
use Rattle.desk_model.specs.Answers.{answer, choosing, conclusion, gone, IsHistory}
use Rattle.desk_model.specs.Answers.{is_recorded, package_at}
use Rattle.desk_model.specs.Tables.{choice_row, choices, release_rows, standing, tables}
use Rattle.desk_model.specs.declared.reading.Conclusion.{Conclusion}
use Rattle.desk_model.specs.declared.reading.Verdict.TheVariants.{Minimal}
use Rattle.desk_model.specs.declared.row.ChoiceRow.{ChoiceRow}
use Rattle.desk_model.specs.declared.row.ConclusionRow.{ConclusionRow}
use Rattle.desk_model.specs.declared.row.DocumentRow.{DocumentRow}
use Rattle.desk_model.specs.declared.row.PackageRow.{PackageRow}
use Rattle.desk_model.specs.declared.state.ReleaseState.{ReleaseState}
use Rattle.desk_model.specs.declared.state.ReleaseState.TheVariants.{IsOpen, Frozen, Withdrawn}
use Rattle.desk_model.specs.declared.command.Command.{Command}
use Rattle.desk_model.specs.declared.command.Command.TheVariants.{Attach, Choose, Freeze, Import}
use Rattle.desk_model.specs.declared.command.Command.TheVariants.{Unchoose, Withdraw}
use Rattle.desk_model.proofs.Lists.{all_pass}
use Rattle.desk_history.specs.Laws.{IsHeldMinimal, Rises}
use Rattle.desk_history.proofs.Orders.{choice_is_order, filter-in_order}
use Rattle.desk_history.proofs.Rows.{filter-map, find-map}
use Rattle.desk_history.proofs.Members.{from_filter_map}
use Rattle.desk_history.proofs.OwnKeys.{open_by}
use Rattle.desk_history.proofs.Recorded.{chooses}
use Rattle.desk_history.proofs.Holding.{opened_stays}
use Rattle.desk_history.proofs.Rising.{rises-map}
use Rattle.desk_snapshot.specs.Conditions as audit
use Rattle.desk_snapshot.specs.Conditions.{are_minimal, conclusion_at, is_choice, is_printed}
use Rattle.desk_snapshot.specs.Conditions.{is_withdrawn, profile_at, ships_under, terms_at}
use Rattle.desk_snapshot.specs.Rows as stored
use Rattle.desk_snapshot.specs.Tables.{attached_stored, choice_stored, conclusion_stored}
use Rattle.desk_snapshot.specs.Tables.{package_stored, reading_stored, release_stored, snapshot_of}
use Rattle.desk_snapshot.specs.declared.rows.StoredChoice.{StoredChoice}
use Rattle.desk_snapshot.specs.declared.rows.StoredConclusion.{StoredConclusion}
use Rattle.desk_snapshot.specs.declared.rows.StoredPackage.{StoredPackage}
use Rattle.desk_snapshot.specs.declared.rows.StoredReading.{StoredReading}
use Rattle.desk_snapshot.specs.declared.rows.StoredRelease.{StoredRelease}
use Rattle.desk_history_laws.specs.ChoicePremises.{ReadsChoices}
use Rattle.desk_history_laws.proofs.Lists.{find_same, pos_eq}
use Rattle.desk_history_laws.proofs.Duties.{opened_release}
use Rattle.desk_history_laws.proofs.Billed.{in_order-rises}
use Rattle.desk_history_laws.proofs.Bills.{is_mapped}

-- ---- what a recorded Choose saw, and what remains of it

pub record HeldFor (w : Readings) (h : List Command) (r : List ℕ) (d : ℕ) (p : List ℕ)
    (term : List ℕ) : Type 0 where
  pub opened : is_some (form_of h r) ≡ true
  pub stands : gone (state_of h r) ≡ None
  pub attached : list_any (key.is_attachment r d) (attached h) ≡ true
  pub ships : option_map_or (λ (row : PackageRow). row.shipped) (package_at w h d p) false ≡ true
  pub text : List ℕ
  pub spelled : w.term text ≡ Some term

abbrev withdraws_it : List ℕ → Command → Bool
withdraws_it r (Withdraw r' day text) = bytes_eq r' r
withdraws_it r _ = false

frozen_stands : (b : Bool) (o : Option ReleaseState) → gone (unwrap_or o IsOpen) ≡ None
    → gone (unwrap_or (or_else (if b then Some Frozen else None) o) IsOpen) ≡ None
frozen_stands true o e = refl
frozen_stands false o e = e

withdrawn_stands : (b : Bool) (o : Option ReleaseState) → b ≡ false
    → gone (unwrap_or o IsOpen) ≡ None
    → gone (unwrap_or (or_else (if b then Some Withdrawn else None) o) IsOpen) ≡ None
withdrawn_stands true o n e = cc
withdrawn_stands false o n e = e

stands_more : (c : Command) (h : List Command) (r : List ℕ) → withdraws_it r c ≡ false
    → gone (state_of h r) ≡ None → gone (state_of (c ∷ h) r) ≡ None
stands_more (Freeze r' day) h r other e = frozen_stands (bytes_eq r' r) (latest (state_given r) h) e
stands_more (Withdraw r' day text) h r other e = withdrawn_stands (bytes_eq r' r)
    (latest (state_given r) h) other e
stands_more c h r other e = e

any_put : {A : Type 0} (below : A → A → Bool) (test : A → Bool) (x : A) (xs : List A)
    → list_any test xs ≡ true → list_any test (put below x xs) ≡ true
any_put below test x [] e = cc
any_put {A} below test x (y ∷ ys) e =
    elim (below x y) as (λ b. list_any test (if b then x ∷ y ∷ ys else y ∷ put below x ys) ≡ true) [
      | true ↦ later (test x) (list_any test (y ∷ ys)) e
      | false ↦ within (test y) e (any_put below test x ys)
    ]
  where
    later : (a b : Bool) → b ≡ true → (a || b) ≡ true
    later true b f = refl
    later false b f = f

    within : (a : Bool) → (a || list_any test ys) ≡ true
        → (list_any test ys ≡ true → list_any test (put below x ys) ≡ true)
        → (a || list_any test (put below x ys)) ≡ true
    within true f rest = refl
    within false f rest = rest f

attached_more : (c : Command) (h : List Command) (r : List ℕ) (d : ℕ)
    → list_any (key.is_attachment r d) (attached h) ≡ true
    → list_any (key.is_attachment r d) (attached (c ∷ h)) ≡ true
attached_more (Attach r' d') h r d e = any_put (below_by attached_order) (key.is_attachment r d)
    (record { release = r'; document = d' }) (attached h) e
attached_more c h r d e = e

ships_or : (o p : Option PackageRow)
    → option_map_or (λ (row : PackageRow). row.shipped) o false ≡ true
    → option_map_or (λ (row : PackageRow). row.shipped) (option_or o p) false ≡ true
ships_or None p e = cc
ships_or (Some row) p e = e

ships_more : (w : Readings) (c : Command) (h : List Command) (d : ℕ) (p : List ℕ)
    → option_map_or (λ (row : PackageRow). row.shipped) (package_at w h d p) false ≡ true
    → option_map_or (λ (row : PackageRow). row.shipped) (package_at w (c ∷ h) d p) false ≡ true
ships_more w (Import bytes profile) h d p e =
    let new = map (package_row (length (documents w h) + 1))
    (packages_in (result_ok (w.document bytes))) in
    ap (λ (o : Option PackageRow). option_map_or (λ (row : PackageRow). row.shipped) o false)
    (find-append (key.is_package d p) (packages w h) new)
    ∙ ships_or (find (key.is_package d p) (packages w h)) (find (key.is_package d p) new) e
ships_more w c h d p e = e

held_more : (w : Readings) (c : Command) (h : List Command) (r : List ℕ) (d : ℕ) (p term : List ℕ)
    → withdraws_it r c ≡ false → HeldFor w h r d p term → HeldFor w (c ∷ h) r d p term
held_more w c h r d p term other held = record {
  opened = opened_stays c h r held.opened;
  stands = stands_more c h r other held.stands;
  attached = attached_more c h r d held.attached;
  ships = ships_more w c h d p held.ships;
  text = held.text;
  spelled = held.spelled;
}

chosen : (w : Readings) (h : List Command) (r : List ℕ) (d : ℕ) (p : List ℕ) (texts : List (List ℕ))
    (term text : List ℕ) → IsTrue (is_recorded (answer w h (Choose r d p texts)))
    → w.term text ≡ Some term → HeldFor w h r d p term
chosen w h r d p texts term text e spelled =
    let is = chooses w texts (choosing w h r d p) e in
    let there = list_any (key.is_attachment r d) (attached h) in
    let ships = option_map_or (λ (row : PackageRow). row.shipped) (package_at w h d p) false in
    record {
      opened = is_mapped (λ (form : List ℕ). state_of h r) (form_of h r) is.has_release;
      stands = ap gone (open_by (state_of h r) (form_of h r) is.opened);
      attached = and_left there ships is.ships;
      ships = and_right there ships is.ships;
      text = text;
      spelled = spelled;
    }

-- ---- terms that are held

abbrev pub FromSet : Type 0
FromSet = (text : List ℕ) (texts : List (List ℕ)) → IsIn text (sorted_set texts) → IsIn text texts

dropped : (term : List ℕ) (b : Bool) (o : Option (List (List ℕ)))
    → IsIn term (unwrap_or (or_else (if b then Some [] else None) o) [])
    → (b ≡ false) × IsIn term (unwrap_or o [])
dropped term true o m = absurd m
dropped term false o m = (refl, m)

chosen_step : FromSet → (w : Readings) (h : List Command) (r r' : List ℕ) (d d' : ℕ)
    (p p' term : List ℕ) (texts : List (List ℕ)) (b : Bool) → is_package_of r d p r' d' p' ≡ b
    → IsTrue (is_recorded (answer w h (Choose r' d' p' texts)))
    → (IsIn term (choice w h r d p) → HeldFor w h r d p term)
    → IsIn term (unwrap_or (or_else (if b then Some (term_set w texts) else None)
    (latest (terms_given w r d p) h)) []) → HeldFor w h r d p term
chosen_step from_set w h r r' d d' p p' term texts false e recorded rest m = rest m
chosen_step from_set w h r r' d d' p p' term texts true e recorded rest m =
    let key = and_left (bytes_eq r' r && (d' == d)) (bytes_eq p' p) e in
    let release : r' ≡ r = texts_equal r' r (and_left (bytes_eq r' r) (d' == d) key) in
    let document : d' ≡ d = numbers_equal d' d (and_right (bytes_eq r' r) (d' == d) key) in
    let package_id : p' ≡ p = texts_equal p' p
    (and_right (bytes_eq r' r && (d' == d)) (bytes_eq p' p) e) in
    let at = from_filter_map w.term term texts (from_set term (filter_map w.term texts) m) in
    subst (λ (n : List ℕ). HeldFor w h n d p term) release
    (subst (λ (n : ℕ). HeldFor w h r' n p term) document
    (subst (λ (n : List ℕ). HeldFor w h r' d' n term) package_id
    (chosen w h r' d' p' texts term at.0 recorded at.2)))

pub held_for : FromSet → (w : Readings) (h : List Command) (r : List ℕ) (d : ℕ) (p term : List ℕ)
    → IsHistory w h → IsIn term (choice w h r d p) → HeldFor w h r d p term
held_for from_set w [] r d p term ok m = absurd m
held_for from_set w (Choose r' d' p' texts ∷ h) r d p term ok m =
    held_more w (Choose r' d' p' texts) h r d p term refl
    (chosen_step from_set w h r r' d d' p p' term texts (is_package_of r d p r' d' p') refl ok.0
    (held_for from_set w h r d p term ok.1) m)
held_for from_set w (Unchoose r' d' p' ∷ h) r d p term ok m =
    held_more w (Unchoose r' d' p') h r d p term refl
    (held_for from_set w h r d p term ok.1
    (dropped term (is_package_of r d p r' d' p') (latest (terms_given w r d p) h) m).1)
held_for from_set w (Withdraw r' day text ∷ h) r d p term ok m =
    let kept = dropped term (bytes_eq r' r) (latest (terms_given w r d p) h) m in
    held_more w (Withdraw r' day text) h r d p term kept.0
    (held_for from_set w h r d p term ok.1 kept.1)
held_for from_set w (c ∷ h) r d p term ok m = held_more w c h r d p term refl
    (held_for from_set w h r d p term ok.1 m)

-- the terms of a package are sorted

abbrev pub SetsRise : Type 0
SetsRise = (texts : List (List ℕ)) → Rises text_below (sorted_set texts)

rises_dropped : (b : Bool) (o : Option (List (List ℕ))) → Rises text_below (unwrap_or o [])
    → Rises text_below (unwrap_or (or_else (if b then Some [] else None) o) [])
rises_dropped true o up = tt
rises_dropped false o up = up

pub choice_rises : SetsRise → (w : Readings) (h : List Command) (r : List ℕ) (d : ℕ) (p : List ℕ)
    → Rises text_below (choice w h r d p)
choice_rises sets w [] r d p = tt
choice_rises sets w (Choose r' d' p' texts ∷ h) r d p =
    elim (is_package_of r d p r' d' p') as
    (λ b. Rises text_below (unwrap_or
    (or_else (if b then Some (term_set w texts) else None) (latest (terms_given w r d p) h)) [])) [
      | true ↦ sets (filter_map w.term texts)
      | false ↦ choice_rises sets w h r d p
    ]
choice_rises sets w (Unchoose r' d' p' ∷ h) r d p = rises_dropped (is_package_of r d p r' d' p')
    (latest (terms_given w r d p) h) (choice_rises sets w h r d p)
choice_rises sets w (Withdraw r' day text ∷ h) r d p = rises_dropped (bytes_eq r' r)
    (latest (terms_given w r d p) h) (choice_rises sets w h r d p)
choice_rises sets w (c ∷ h) r d p = choice_rises sets w h r d p

-- ---- the same in the tables

abbrev pub Stands : Type 0
Stands = (w : Readings) (h : List Command) (r : List ℕ) (d : ℕ) (p : List ℕ)
    → filter (key.is_choice_of r d p) (standing w h) ≡ map (choice_row r d p) (choice w h r d p)

row_below : (r : List ℕ) (d : ℕ) (p a b : List ℕ) → text_below a b ≡ true
    → below_by choice_order (choice_row r d p a) (choice_row r d p b) ≡ true
row_below r d p a b e = rw (
  tied_itself nat_list_cmp_total r,
  tied_itself nat_cmp_total d,
  tied_itself nat_list_cmp_total p,
) e

terms_of_rows : (r : List ℕ) (d : ℕ) (p : List ℕ) (terms : List (List ℕ))
    → map (λ (row : ChoiceRow). row.term) (map (choice_row r d p) terms) ≡ terms
terms_of_rows r d p [] = refl
terms_of_rows r d p (term ∷ terms) = ap (λ ts. term ∷ ts) (terms_of_rows r d p terms)

rows_held : Stands → SetsRise → (w : Readings) (h : List Command) (r : List ℕ) (d : ℕ) (p : List ℕ)
    → filter (key.is_choice_of r d p) (choices w h) ≡ map (choice_row r d p) (choice w h r d p)
rows_held stands sets w h r d p =
    filter-in_order (below_by choice_order) choice_is_order (key.is_choice_of r d p) (standing w h)
    ∙ (ap (in_order (below_by choice_order)) (stands w h r d p)
    ∙ in_order-rises (below_by choice_order) (map (choice_row r d p) (choice w h r d p))
    (rises-map (choice_row r d p) text_below (below_by choice_order) (row_below r d p)
    (choice w h r d p) (choice_rises sets w h r d p)))

terms_held : Stands → SetsRise → (w : Readings) (h : List Command) (c : ChoiceRow)
    → terms_at (snapshot_of (tables w h)) (choice_stored c)
    ≡ choice w h c.release c.document c.package_id
terms_held stands sets w h c =
    let test = stored.is_choice_of c.release (pos c.document) c.package_id in
    ap (map (λ (other : StoredChoice). other.term))
    (filter-map test choice_stored (choices w h)
    ∙ ap (map choice_stored)
    (filter_agree (λ (row : ChoiceRow). test (choice_stored row))
    (key.is_choice_of c.release c.document c.package_id)
    (λ row. rw (pos_eq row.document c.document)
    (together (bytes_eq row.release c.release) (row.document == c.document)
    (bytes_eq row.package_id c.package_id))) (choices w h)
    ∙ rows_held stands sets w h c.release c.document c.package_id))
    ∙ (map-map (λ (other : StoredChoice). other.term) choice_stored
    (map (choice_row c.release c.document c.package_id)
    (choice w h c.release c.document c.package_id))
    ∙ terms_of_rows c.release c.document c.package_id
    (choice w h c.release c.document c.package_id))

profile_stored : (o : Option DocumentRow)
    → option_map_or audit.profile_of (option_map reading_stored o) Capitals ≡ history.profile_of o
profile_stored None = refl
profile_stored (Some row) = by_profile row.profile row.number
  where
    by_profile : (p : Profile) (n : ℕ)
        → audit.profile_of (reading_stored
        (record { number = n; namespace = []; bytes = []; profile = p })) ≡ p
    by_profile Capitals n = refl
    by_profile Either n = refl

profile_found : (w : Readings) (h : List Command) (p : PackageRow)
    → profile_at (snapshot_of (tables w h)) (pos p.document) ≡ profile_in (documents w h) p
profile_found w h p =
    ap (λ (o : Option StoredReading). option_map_or audit.profile_of o Capitals)
    (find-map (stored.is_reading_of (pos p.document)) reading_stored (documents w h)
    ∙ ap (option_map reading_stored)
    (find_same (λ (row : DocumentRow). stored.is_reading_of (pos p.document) (reading_stored row))
    (key.is_document p.document) (λ row. pos_eq row.number p.document) (documents w h)))
    ∙ profile_stored (find (key.is_document p.document) (documents w h))

text_stored : (o : Option ConclusionRow)
    → option_map (λ (row : StoredConclusion). row.expression) (option_map conclusion_stored o)
    ≡ option_map (λ (row : ConclusionRow). row.expression) o
text_stored None = refl
text_stored (Some row) = refl

text_found : (h : List Command) (p : PackageRow)
    → option_map (λ (row : StoredConclusion). row.expression)
    (find (stored.is_conclusion (pos p.document) p.id) (map conclusion_stored (conclusions h)))
    ≡ office_text (conclusions h) p.document p.id
text_found h p =
    ap (option_map (λ (row : StoredConclusion). row.expression))
    (find-map (stored.is_conclusion (pos p.document) p.id) conclusion_stored (conclusions h)
    ∙ ap (option_map conclusion_stored)
    (find_same (λ (row : ConclusionRow). stored.is_conclusion (pos p.document) p.id
    (conclusion_stored row)) (key.is_conclusion p.document p.id)
    (λ row. rw (pos_eq row.document p.document) refl) (conclusions h)))
    ∙ text_stored (find (key.is_conclusion p.document p.id) (conclusions h))

conclusion_found : (w : Readings) (h : List Command) (p : PackageRow)
    → conclusion_at w (snapshot_of (tables w h)) (package_stored p) ≡ conclusion w h p
conclusion_found w h p =
    ap (λ (text : Option (List ℕ)). conclusion_by w text
    (profile_at (snapshot_of (tables w h)) (pos p.document)) p.concluded) (text_found h p)
    ∙ ap (λ (profile : Profile). conclusion_by w (office_text (conclusions h) p.document p.id)
    profile p.concluded) (profile_found w h p)

any_map : {A B : Type 0} (test : B → Bool) (other : A → Bool) (f : A → B)
    → ((x : A) → test (f x) ≡ other x) → (xs : List A)
    → list_any test (map f xs) ≡ list_any other xs
any_map test other f same [] = refl
any_map test other f same (x ∷ xs) = rw (same x, any_map test other f same xs) refl

attached_found : (h : List Command) (r : List ℕ) (d : ℕ)
    → list_any (stored.is_attachment r (pos d)) (map attached_stored (attached h))
    ≡ list_any (key.is_attachment r d) (attached h)
attached_found h r d = any_map (stored.is_attachment r (pos d)) (key.is_attachment r d)
    attached_stored (λ row. rw (pos_eq row.document d) refl) (attached h)

package_found : (w : Readings) (h : List Command) (d : ℕ) (p : List ℕ)
    → find (stored.is_package (pos d) p) (map package_stored (packages w h))
    ≡ option_map package_stored (package_at w h d p)
package_found w h d p =
    find-map (stored.is_package (pos d) p) package_stored (packages w h)
    ∙ ap (option_map package_stored)
    (find_same (λ (row : PackageRow). stored.is_package (pos d) p (package_stored row))
    (key.is_package d p) (λ row. rw (pos_eq row.document d) refl) (packages w h))

not_withdrawn : (s : ReleaseState) → gone s ≡ None
    → not (bytes_eq (release_state_name s) (release_state_name Withdrawn)) ≡ true
not_withdrawn IsOpen e = refl
not_withdrawn Frozen e = refl
not_withdrawn Withdrawn e = cc

shipped_row : (o : Option PackageRow) (row : PackageRow) → o ≡ Some row
    → option_map_or (λ (row : PackageRow). row.shipped) o false ≡ true → row.shipped ≡ true
shipped_row o row e ships = sym (ap (λ (o : Option PackageRow). option_map_or
    (λ (row : PackageRow). row.shipped) o false) e) ∙ ships

all_printed : FromSet → (w : Readings) → ReadsChoices w
    → (h : List Command) (r : List ℕ) (d : ℕ) (p : List ℕ) → IsHistory w h
    → list_all (is_printed w) (choice w h r d p) ≡ true
all_printed from_set w reads h r d p ok =
    all_pass (is_printed w) (choice w h r d p) (λ term m.
    let held = held_for from_set w h r d p term ok m in
    rw (reads.printed held.text term held.spelled) (same_text term))

-- ---- each choice

module _ (from_set : FromSet) (stands : Stands) (sets : SetsRise) (w : Readings)
    (reads : ReadsChoices w) (h : List Command) (ok : IsHistory w h) where
  minimal_for : (c : ChoiceRow)
      → IsHeldMinimal w h c.document c.package_id (choice w h c.release c.document c.package_id)
      → (terms : List (List ℕ)) (o : Option Conclusion) (concluded : Conclusion)
      → terms ≡ choice w h c.release c.document c.package_id → o ≡ Some concluded
      → w.verdict concluded.profile concluded.text (choice w h c.release c.document c.package_id)
      ≡ Minimal
      → option_map_or (are_minimal w terms) o false ≡ true
  minimal_for c is terms o concluded e f minimal =
      rw (f, e, all_printed from_set w reads h c.release c.document c.package_id ok, minimal) refl

  ships_for : (c : ChoiceRow) → HeldFor w h c.release c.document c.package_id c.term
      → IsHeldMinimal w h c.document c.package_id (choice w h c.release c.document c.package_id)
      → option_map_or (ships_under w (snapshot_of (tables w h))
      (terms_at (snapshot_of (tables w h)) (choice_stored c)))
      (find (stored.is_package (pos c.document) c.package_id) (map package_stored (packages w h)))
      false ≡ true
  ships_for c held is =
      let s = snapshot_of (tables w h) in
      let terms = terms_at s (choice_stored c) in
      let ships : int_eq (pos (if is.row.shipped then 1 else 0)) (pos 1) ≡ true =
      rw (shipped_row (package_at w h c.document c.package_id) is.row is.has held.ships) refl in
      let minimal : w.verdict is.concluded.profile is.concluded.text (choice w h c.release
      c.document c.package_id) ≡ Minimal =
      ap (w.verdict is.concluded.profile is.concluded.text) is.set
      ∙ reads.sets is.concluded.profile is.concluded.text is.listed is.minimal in
      ap (λ (o : Option StoredPackage). option_map_or (ships_under w s terms) o false)
      (package_found w h c.document c.package_id ∙ ap (option_map package_stored) is.has)
      ∙ and_from (int_eq (pos (if is.row.shipped then 1 else 0)) (pos 1))
      (option_map_or (are_minimal w terms) (conclusion_at w s (package_stored is.row)) false) ships
      (minimal_for c is terms (conclusion_at w s (package_stored is.row)) is.concluded
      (terms_held stands sets w h c) (conclusion_found w h is.row ∙ is.concludes) minimal)

  pub choice_held : (c : ChoiceRow) → HeldFor w h c.release c.document c.package_id c.term
      → IsHeldMinimal w h c.document c.package_id (choice w h c.release c.document c.package_id)
      → is_choice w (snapshot_of (tables w h)) (choice_stored c) ≡ true
  choice_held c held is =
      let s = snapshot_of (tables w h) in
      let ships = option_map_or (ships_under w s (terms_at s (choice_stored c)))
      (find (stored.is_package (pos c.document) c.package_id) (map package_stored (packages w h)))
      false in
      let there = list_any (stored.is_attachment c.release (pos c.document))
      (map attached_stored (attached h)) in
      and_from (option_map_or (λ (release : StoredRelease). not (is_withdrawn release))
      (find (stored.is_release c.release) (map release_stored (release_rows h))) false)
      (there && ships)
      (ap (λ (o : Option StoredRelease). option_map_or
      (λ (release : StoredRelease). not (is_withdrawn release)) o false)
      (opened_release w h c.release held.opened) ∙ not_withdrawn (state_of h c.release) held.stands)
      (and_from there ships (attached_found h c.release c.document ∙ held.attached)
      (ships_for c held is))
