-- What is looked up in the tables of a history is what the history says.
use Rattle.std.proofs.Common.{◌≡◌, ℕ, ◌+◌, ◌<◌, Bool, true, false, List, [], ◌∷◌, ◌++◌, length, map}
use Rattle.std.proofs.Common.{Option, Some, None, refl, ap, ◌∙◌, subst, arith, inl}
use Rattle.std.proofs.Common.{inr}
use Rattle.std.specs.Prelude.{if◌then◌else◌, filter, ◌==◌, is_some, unwrap_or}
use Rattle.std.specs.List.{list_any}
use Rattle.std.specs.Option.{option_map}
use Rattle.std.specs.Result.{result_ok}
use Rattle.std.specs.Str.{bytes_eq}
use Rattle.std.proofs.lemmas.List.{length-map, length_push}
use Rattle.std.proofs.lemmas.List.Elements.{filter-append}
use Rattle.std.proofs.lemmas.Bool.Decides.{nat_tests}
use Rattle.desk_model.specs.Texts.{text_below}
use Rattle.desk_model.specs.Readings.{Readings}
use Rattle.desk_model.specs.Keys.{is_release, is_rule_of}
use Rattle.desk_model.specs.History.{revisions, in_force, rules_in, rule_row, rule_rows, opened}
use Rattle.desk_model.specs.History.{names, form_of, state_of}
use Rattle.desk_model.specs.Tables.{tables, release_row}
use Rattle.desk_model.specs.Answers.{release_state}
use Rattle.desk_history.specs.FromTables.{release_found, state_found, form_found, rules_found, rule_of}
use Rattle.desk_history.proofs.Rows.{find-map, find_text, list_any-in_order, length-in_order}
use Rattle.desk_model.specs.declared.reading.Rule.{Rule}
use Rattle.desk_model.specs.declared.row.ReleaseRow.{ReleaseRow}
use Rattle.desk_model.specs.declared.command.Command.{Command}
use Rattle.desk_model.specs.declared.command.Command.TheVariants.{LoadCatalogue, OpenRelease}
use Rattle.desk_base.proofs.Texts.{text_tells}

-- Releases

-- a name is among those opened if it has a form
opened-form : (h : List Command) (r : List ℕ)
    → list_any (λ n. bytes_eq n r) (opened h) ≡ is_some (form_of h r)
opened-form [] r = refl
opened-form (OpenRelease n form ∷ h) r =
    elim (text_tells n r) [
      | inl w ↦ rw w.0 refl
      | inr w ↦ rw w.0 (opened-form h r)
    ]
opened-form (_ ∷ h) r = opened-form h r

pub names-form : (h : List Command) (r : List ℕ)
    → list_any (λ n. bytes_eq n r) (names h) ≡ is_some (form_of h r)
names-form h r = list_any-in_order text_below (λ n. bytes_eq n r) (opened h) ∙ opened-form h r

pub release_found-tables : (w : Readings) (h : List Command) (r : List ℕ)
    → release_found (tables w h) r
    ≡ (if is_some (form_of h r) then Some (release_row h r) else None)
release_found-tables w h r =
    find-map (is_release r) (release_row h) (names h)
    ∙ (ap (option_map (release_row h)) (find_text r (names h))
    ∙ (ap (λ b. option_map (release_row h) (if b then Some r else None)) (names-form h r)
    ∙ elim (is_some (form_of h r)) as
    (λ b. option_map (release_row h) (if b then Some r else None)
    ≡ (if b then Some (release_row h r) else None)) [ true ↦ refl | false ↦ refl ]))

pub state-found : (w : Readings) (h : List Command) (r : List ℕ)
    → state_found (tables w h) r ≡ release_state h r
state-found w h r =
    ap (option_map (λ (row : ReleaseRow). row.state)) (release_found-tables w h r)
    ∙ (elim (form_of h r) as (λ o. option_map (λ (row : ReleaseRow). row.state)
    (if is_some o then Some (release_row h r) else None)
    ≡ option_map (λ (form : List ℕ). state_of h r) o) [ None ↦ refl | Some f ↦ refl ])

form_at : (h : List Command) (r : List ℕ) (o : Option (List ℕ)) → form_of h r ≡ o
    → unwrap_or (option_map (λ (row : ReleaseRow). row.form)
    (if is_some o then Some (release_row h r) else None)) [] ≡ unwrap_or o []
form_at h r None e = refl
form_at h r (Some f) e = rw e refl

pub form-found : (w : Readings) (h : List Command) (r : List ℕ)
    → form_found (tables w h) r ≡ unwrap_or (form_of h r) []
form-found w h r =
    ap (λ o. unwrap_or (option_map (λ (row : ReleaseRow). row.form) o) [])
    (release_found-tables w h r)
    ∙ form_at h r (form_of h r) refl

some_found : (h : List Command) (r : List ℕ) (b : Bool)
    → is_some (if b then Some (release_row h r) else None) ≡ b
some_found h r true = refl
some_found h r false = refl

pub is_found : (w : Readings) (h : List Command) (r : List ℕ)
    → is_some (release_found (tables w h) r) ≡ is_some (form_of h r)
is_found w h r = ap is_some (release_found-tables w h r) ∙ some_found h r (is_some (form_of h r))

pub length-releases : (h : List Command)
    → length (map (release_row h) (names h)) ≡ length (opened h)
length-releases h = length-map (names h) (release_row h) ∙ length-in_order text_below (opened h)

-- Rules

-- rules of later revisions aren't rules of an earlier one
none_of : (n m : ℕ) (rules : List Rule) → (n == m) ≡ false
    → filter (is_rule_of m) (map (rule_row n) rules) ≡ []
none_of n m [] e = refl
none_of n m (r ∷ rs) e = rw (e, none_of n m rs e) refl

all_of : (n : ℕ) (rules : List Rule)
    → map rule_of (filter (is_rule_of n) (map (rule_row n) rules)) ≡ rules
all_of n [] = refl
all_of n (r ∷ rs) = let e : (n == n) ≡ true = grind (arith, nat_tests) in
    rw e (ap (λ xs. r ∷ xs) (all_of n rs))

later_revision : (w : Readings) (h : List Command) (m : ℕ) → length (revisions h) < m
    → filter (is_rule_of m) (rule_rows w h) ≡ []
later_revision w [] m lt = refl
later_revision w (LoadCatalogue text ∷ h) m lt =
    let fewer : length (revisions h) + 1 < m =
    omega (
      arith,
      length_push (revisions h) (record { revision = length (revisions h) + 1; body = text }),
    ) in
    let differ : (length (revisions h) + 1 == m) ≡ false = grind (arith, nat_tests) in
    let before : length (revisions h) < m = omega arith in
    filter-append (is_rule_of m) (rule_rows w h)
    (map (rule_row (length (revisions h) + 1)) (rules_in (result_ok (w.catalogue text))))
    ∙ rw (
      later_revision w h m before,
      none_of (length (revisions h) + 1) m (rules_in (result_ok (w.catalogue text))) differ,
    ) refl
later_revision w (_ ∷ h) m lt = later_revision w h m lt

rules_loaded : (w : Readings) (h : List Command) (text : List ℕ) (n : ℕ)
    → n ≡ length (revisions h) + 1
    → map rule_of (filter (is_rule_of n) (rule_rows w (LoadCatalogue text ∷ h)))
    ≡ rules_in (result_ok (w.catalogue text))
rules_loaded w h text n e =
    let new = map (rule_row (length (revisions h) + 1)) (rules_in (result_ok (w.catalogue text))) in
    let old : filter (is_rule_of n) (rule_rows w h) ≡ [] = later_revision w h n (omega arith) in
    ap (map rule_of) (filter-append (is_rule_of n) (rule_rows w h) new
    ∙ ap (λ rows. rows ++ filter (is_rule_of n) new) old)
    ∙ subst (λ k. map rule_of (filter (is_rule_of n)
    (map (rule_row k) (rules_in (result_ok (w.catalogue text)))))
    ≡ rules_in (result_ok (w.catalogue text))) e
    (all_of n (rules_in (result_ok (w.catalogue text))))

pub rules-found : (w : Readings) (h : List Command)
    → rules_found (tables w h) ≡ rules_in (in_force w h)
rules-found w [] = refl
rules-found w (LoadCatalogue text ∷ h) = rules_loaded w h text
    (length (revisions h ++ record { revision = length (revisions h) + 1; body = text } ∷ []))
    (length_push (revisions h) (record { revision = length (revisions h) + 1; body = text }))
rules-found w (_ ∷ h) = rules-found w h

-- Choices
