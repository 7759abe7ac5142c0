-- A conclusion is recorded only for a package that no release holds a choice for.
use Rattle.std.proofs.Common.{◌≡◌, ℕ, Bool, true, false, cond, List, [], ◌∷◌, map, Option, Some}
use Rattle.std.proofs.Common.{None, sym, refl, ap, ◌∙◌, subst, inl, inr}
use Rattle.std.specs.Prelude.{if◌then◌else◌, filter, find, ◌||◌, nat_lt, is_some, IsTrue, unwrap_or}
use Rattle.std.specs.List.{list_any}
use Rattle.std.specs.Option.{option_map}
use Rattle.std.specs.Str.{bytes_eq}
use Rattle.desk_model.specs.Lists.{latest, or_else}
use Rattle.desk_model.specs.Readings.{Readings}
use Rattle.desk_model.specs.Keys.{is_choice_of, is_document, is_package, below_by, choice_order}
use Rattle.desk_model.specs.History.{documents, packages, choice, form_of, state_of, names}
use Rattle.desk_model.specs.History.{is_package_of, profile_of, term_set, terms_given}
use Rattle.desk_model.specs.Conclusions.{conclusions, office_text, text_given, conclusion_by, holds}
use Rattle.desk_model.specs.Conclusions.{sooner, first_opened, holder}
use Rattle.desk_model.specs.Tables.{release_row, release_rows, standing, choices, choice_row}
use Rattle.desk_model.specs.Answers.{answer, conclusion, Concluding, conclude_answer, concluding}
use Rattle.desk_model.specs.Answers.{choosing, is_recorded, IsHistory, unless}
use Rattle.desk_history.proofs.Recorded.{chooses, past}
use Rattle.desk_model.specs.declared.refusal.Refusal.TheVariants as why
use Rattle.desk_model.specs.declared.row.ChoiceRow.{ChoiceRow}
use Rattle.desk_model.specs.declared.row.DocumentRow.{DocumentRow}
use Rattle.desk_model.specs.declared.row.PackageRow.{PackageRow}
use Rattle.desk_model.specs.declared.row.ReleaseRow.{ReleaseRow}
use Rattle.desk_model.specs.declared.command.Command.{Command}
use Rattle.desk_model.specs.declared.command.Command.TheVariants.{Choose, Unchoose, Withdraw, OpenRelease, Conclude}
use Rattle.desk_history.proofs.Chosen.{same_package, standing-choice}
use Rattle.desk_history.proofs.Concluding.{office_text_after, key_number, key_text}
use Rattle.desk_history.proofs.Lookups.{names-form}
use Rattle.desk_history.proofs.Opening.{is_some-map}
use Rattle.desk_history.proofs.Rows.{list_any-in_order}
use Rattle.desk_base.proofs.Texts.{text_tells}
use Rattle.desk_base.proofs.Lists.{filter_none, found_passes}

-- What is held is in the table of choices

held_row : (w : Readings) (h : List Command) (r : List ℕ) (d : ℕ) (p t : List ℕ)
    (ts : List (List ℕ)) → choice w h r d p ≡ t ∷ ts
    → list_any (is_choice_of r d p) (choices w h) ≡ true
held_row w h r d p t ts e =
    list_any-in_order (below_by choice_order) (is_choice_of r d p) (standing w h)
    ∙ step (list_any (is_choice_of r d p) (standing w h)) refl
  where
    rows : filter (is_choice_of r d p) (standing w h) ≡ map (choice_row r d p) (t ∷ ts)
    rows = standing-choice w h r d p ∙ ap (map (choice_row r d p)) e

    step : (b : Bool) → list_any (is_choice_of r d p) (standing w h) ≡ b → b ≡ true
    step true f = refl
    step false f = let none : filter (is_choice_of r d p) (standing w h) ≡ [] =
        filter_none (is_choice_of r d p) (standing w h) f in
        let bare : choice_row r d p t ∷ map (choice_row r d p) ts ≡ [] = sym rows ∙ none in cc

-- A release that holds a choice was opened

pub opened_stays : (c : Command) (h : List Command) (r : List ℕ) → is_some (form_of h r) ≡ true
    → is_some (form_of (c ∷ h) r) ≡ true
opened_stays (OpenRelease r' form) h r e = step (bytes_eq r' r)
  where
    step : (b : Bool) → is_some (or_else (if b then Some form else None) (form_of h r)) ≡ true
    step true = refl
    step false = e
opened_stays c h r e = e

chosen_opened : (w : Readings) (h : List Command) (r p : List ℕ) (d : ℕ) (texts : List (List ℕ))
    → IsTrue (is_recorded (answer w h (Choose r d p texts))) → is_some (form_of h r) ≡ true
chosen_opened w h r p d texts recorded =
    sym (is_some-map (λ form. state_of h r) (form_of h r))
    ∙ (chooses w texts (choosing w h r d p) recorded).has_release

-- no choice is left where one was dropped
still_held : (t : List ℕ) (ts : List (List ℕ)) (b : Bool) (o : Option (List (List ℕ)))
    → unwrap_or (or_else (if b then Some [] else None) o) [] ≡ t ∷ ts → unwrap_or o [] ≡ t ∷ ts
still_held t ts true o e = absurd (cc)
still_held t ts false o e = e

held_opened : (w : Readings) (h : List Command) (r : List ℕ) (d : ℕ) (p t : List ℕ)
    (ts : List (List ℕ)) → IsHistory w h → choice w h r d p ≡ t ∷ ts → is_some (form_of h r) ≡ true
held_opened w [] r d p t ts ok e = cc
held_opened w (Choose r' d' p' texts ∷ h) r d p t ts ok e = step
    (λ f. held_opened w h r d p t ts ok.1 f) (is_package_of r d p r' d' p') refl e
  where
    step : (choice w h r d p ≡ t ∷ ts → is_some (form_of h r) ≡ true) → (b : Bool)
        → is_package_of r d p r' d' p' ≡ b
        → unwrap_or (or_else (if b then Some (term_set w texts) else None)
        (latest (terms_given w r d p) h)) [] ≡ t ∷ ts → is_some (form_of h r) ≡ true
    step rest true f e = subst (λ n. is_some (form_of h n) ≡ true)
        (same_package r p r' p' d d' f).release (chosen_opened w h r' p' d' texts ok.0)
    step rest false f e = rest e
held_opened w (Unchoose r' d' p' ∷ h) r d p t ts ok e = held_opened w h r d p t ts ok.1
    (still_held t ts (is_package_of r d p r' d' p') (latest (terms_given w r d p) h) e)
held_opened w (Withdraw r' day text ∷ h) r d p t ts ok e = held_opened w h r d p t ts ok.1
    (still_held t ts (bytes_eq r' r) (latest (terms_given w r d p) h) e)
held_opened w (c ∷ h) r d p t ts ok e = opened_stays c h r (held_opened w h r d p t ts ok.1 e)

-- So there is one that was opened first

among : (rows : List ChoiceRow) (h : List Command) (d : ℕ) (p r : List ℕ) (ns : List (List ℕ))
    → list_any (λ n. bytes_eq n r) ns ≡ true → list_any (is_choice_of r d p) rows ≡ true
    → list_any (holds rows d p) (map (release_row h) ns) ≡ true
among rows h d p r [] there held = cc
among rows h d p r (n ∷ ns) there held =
    elim (text_tells n r) [
      | inl same ↦ (let here : list_any (is_choice_of n d p) rows ≡ true =
          subst (λ x. list_any (is_choice_of x d p) rows ≡ true) (sym same.1) held in rw here refl)
      | inr differ ↦ or_later (list_any (is_choice_of n d p) rows)
          (list_any (holds rows d p) (map (release_row h) ns))
          (among rows h d p r ns (sym (ap (λ b. b || list_any (λ m. bytes_eq m r) ns) differ.0)
          ∙ there) held)
    ]
  where
    or_later : (a b : Bool) → b ≡ true → (a || b) ≡ true
    or_later true b e = refl
    or_later false b e = e

sooner_some : (row : ReleaseRow) (o : Option ReleaseRow) → is_some (sooner row o) ≡ true
sooner_some row None = refl
sooner_some row (Some other) = elim (nat_lt other.place row.place) as
    (λ b. is_some (if b then Some other else Some row) ≡ true) [ true ↦ refl | false ↦ refl ]

some_first : (test : ReleaseRow → Bool) (rows : List ReleaseRow) → list_any test rows ≡ true
    → is_some (first_opened (filter test rows)) ≡ true
some_first test [] e = cc
some_first test (row ∷ rows) e = step (some_first test rows) (test row) e
  where
    step : (list_any test rows ≡ true → is_some (first_opened (filter test rows)) ≡ true)
        → (b : Bool) → (b || list_any test rows) ≡ true
        → is_some (first_opened (cond b (row ∷ filter test rows) (filter test rows))) ≡ true
    step rest true f = sooner_some row (first_opened (filter test rows))
    step rest false f = rest f

held_by_one : (w : Readings) (h : List Command) (r : List ℕ) (d : ℕ) (p t : List ℕ)
    (ts : List (List ℕ)) → IsHistory w h → choice w h r d p ≡ t ∷ ts
    → is_some (holder (release_rows h) (choices w h) d p) ≡ true
held_by_one w h r d p t ts ok e =
    is_some-map (λ (row : ReleaseRow). row.name)
    (first_opened (filter (holds (choices w h) d p) (release_rows h)))
    ∙ some_first (holds (choices w h) d p) (release_rows h)
    (among (choices w h) h d p r (names h) (names-form h r ∙ held_opened w h r d p t ts ok e)
    (held_row w h r d p t ts e))

no_holder : (o : Option (List ℕ)) → option_map (λ r. why.Chosen r) o ≡ None → is_some o ≡ false
no_holder None e = refl
no_holder (Some release) e = cc

recorded_unheld : (found : Concluding) → IsTrue (is_recorded (conclude_answer found))
    → is_some found.holder ≡ false
recorded_unheld found e =
    let one = past (option_map (λ fault. why.BadExpression fault) found.fault) _ e in
    let two = past (unless found.has_document why.UnknownDocument) _ one.1 in
    let three = past (unless found.has_package why.UnknownPackage) _ two.1 in
    no_holder found.holder (past (option_map (λ r. why.Chosen r) found.holder) _ three.1).0

pub unheld : (w : Readings) (h : List Command) (d : ℕ) (p text r t : List ℕ) (ts : List (List ℕ))
    → IsHistory w h → IsTrue (is_recorded (answer w h (Conclude d p text)))
    → choice w h r d p ≡ t ∷ ts → ⊥
unheld w h d p text r t ts ok recorded e =
    let held = held_by_one w h r d p t ts ok e in
    let none = recorded_unheld (concluding w h d p text) recorded in
    cc

-- The conclusion in force stays if a command doesn't conclude for the package

none_of : (o : Option (List ℕ)) → is_some o ≡ false → o ≡ None
none_of None e = refl
none_of (Some x) e = cc

pub conclusion_stays : (w : Readings) (c : Command) (h : List Command) (d : ℕ) (p : List ℕ)
    (document : DocumentRow) (row : PackageRow)
    → find (is_document d) (documents w h) ≡ Some document
    → find (is_document d) (documents w (c ∷ h)) ≡ Some document
    → find (is_package d p) (packages w h) ≡ Some row → is_some (text_given d p c) ≡ false
    → conclusion w (c ∷ h) row ≡ conclusion w h row
conclusion_stays w c h d p document row of later has silent =
    let key = found_passes (is_package d p) (packages w h) row has in
    let n : row.document ≡ d = key_number d row.document p row.id key in
    let t : row.id ≡ p = key_text d row.document p row.id key in
    let quiet : text_given row.document row.id c ≡ None =
    none_of (text_given row.document row.id c)
    (subst (λ x. is_some (text_given x row.id c) ≡ false) (sym n)
    (subst (λ x. is_some (text_given d x c) ≡ false) (sym t) silent)) in
    let office : office_text (conclusions (c ∷ h)) row.document row.id ≡ office_text (conclusions
    h) row.document row.id =
    office_text_after c h row.document row.id
    ∙ ap (λ o. or_else o (office_text (conclusions h) row.document row.id)) quiet in
    let same : find (is_document row.document) (documents w (c ∷ h)) ≡ find (is_document
    row.document) (documents w h) =
    subst (λ x. find (is_document x) (documents w (c ∷ h)) ≡ find (is_document x) (documents w h))
    (sym n) (later ∙ sym of) in
    ap (λ o. conclusion_by w o (profile_of (find (is_document row.document) (documents w (c ∷ h))))
    row.concluded) office
    ∙ ap (λ o. conclusion_by w (office_text (conclusions h) row.document row.id) (profile_of o)
    row.concluded) same
