-- The rule by which a term was frozen is found by its revision, form and spelling.
use Rattle.std.proofs.Common.{◌≡◌, ℕ, ◌+◌, Bool, true, false, cond, List, [], ◌∷◌, ◌++◌, length}
use Rattle.std.proofs.Common.{map, Option, Some, None, refl, sym, ap, ◌∙◌, subst, inl, inr}
use Rattle.std.specs.Prelude.{pos, is_some, ◌&&◌, filter, find, unwrap_or, Result, Ok, Err}
use Rattle.std.specs.List.{list_all}
use Rattle.std.specs.Option.{option_map, option_and_then}
use Rattle.std.specs.Ordering.{int_eq}
use Rattle.std.specs.Result.{result_ok}
use Rattle.std.specs.Str.{bytes_eq}
use Rattle.std.proofs.lemmas.Cmp.{nat_cmp_total, nat_list_cmp_total, tied_itself}
use Rattle.std.proofs.lemmas.Bool.{and_from}
use Rattle.desk_base.specs.Idstring.{is_idstring}
use Rattle.desk_base.proofs.Bools.{and_left, and_right}
use Rattle.desk_base.proofs.Numbers.{numbers_equal, same_number}
use Rattle.desk_base.proofs.Texts.{texts_equal, same_text}
use Rattle.desk_model.specs.Lists.{IsIn}
use Rattle.desk_model.specs.Keys.{below_by, is_rule, is_rule_of}
use Rattle.desk_model.specs.Readings.{Readings}
use Rattle.desk_model.specs.History as history
use Rattle.desk_model.specs.History.{form_of, in_force, revisions, rule_row, rule_rows, rules_in}
use Rattle.desk_model.specs.Answers.{IsHistory}
use Rattle.desk_model.specs.Tables.{tables}
use Rattle.desk_model.specs.declared.reading.Catalogue.{Catalogue}
use Rattle.desk_model.specs.declared.reading.Rule.{Rule}
use Rattle.desk_model.specs.declared.refusal.CatalogueFault.{CatalogueFault}
use Rattle.desk_model.specs.declared.row.FrozenRow.{FrozenRow}
use Rattle.desk_model.specs.declared.row.RuleRow.{RuleRow}
use Rattle.desk_model.specs.declared.command.Command.{Command}
use Rattle.desk_model.specs.declared.command.Command.TheVariants.{Freeze, LoadCatalogue}
use Rattle.desk_model.proofs.Lists.{found_in}
use Rattle.desk_history.specs.FromTables.{rule_of}
use Rattle.desk_history.specs.Laws.{Rises, rule_row_order}
use Rattle.desk_history.proofs.Lookups.{rules-found}
use Rattle.desk_history.proofs.Members.{in_cases, from_map}
use Rattle.desk_history.proofs.Distinct.{from_filter}
use Rattle.desk_history.proofs.Rows.{find-map}
use Rattle.desk_history.proofs.Minimal.{history_before}
use Rattle.desk_snapshot.specs.Conditions.{rule_for}
use Rattle.desk_snapshot.specs.Rows.{is_rule_spelled}
use Rattle.desk_snapshot.specs.Tables.{frozen_stored, rule_stored, snapshot_of}
use Rattle.desk_snapshot.specs.declared.rows.StoredRelease.{StoredRelease}
use Rattle.desk_history_laws.specs.Premises.{ReadsRules}
use Rattle.desk_history_laws.proofs.Lists.{pos_eq}
use Rattle.desk_history_laws.proofs.Duties.{opened_release}
use Rattle.desk_history_laws.proofs.Later.{form_stays, revision_stays, rules_stay}
use Rattle.desk_history_laws.proofs.Recorded.{freezes}

-- ---- rules in order, no two of which have the same key

pub one_of : {A : Type 0} (below : A → A → Bool) (xs : List A) (x y : A) → Rises below xs
    → IsIn x xs → IsIn y xs → below x y ≡ false → below y x ≡ false → x ≡ y
one_of below [] x y up m n e f = absurd m
one_of below (z ∷ zs) x y up (inl same) (inl also) e f = sym same ∙ also
one_of below (z ∷ zs) x y up (inl same) (inr n) e f = let less : below x y ≡ true =
    subst (λ u. below u y ≡ true) same (up.0 y n) in cc
one_of below (z ∷ zs) x y up (inr m) (inl also) e f = let less : below y x ≡ true =
    subst (λ u. below u x ≡ true) also (up.0 x m) in cc
one_of below (z ∷ zs) x y up (inr m) (inr n) e f = one_of below zs x y up.1 m n e f

pub find_only : {A : Type 0} (test : A → Bool) (xs : List A) (x : A) → IsIn x xs → test x ≡ true
    → ((y : A) → IsIn y xs → test y ≡ true → y ≡ x) → find test xs ≡ Some x
find_only test [] x m e only = absurd m
find_only {A} test (y ∷ ys) x m e only = by_head
    (λ n. find_only test ys x n e (λ z k f. only z (inr k) f)) (test y) refl m
  where
    by_head : (IsIn x ys → find test ys ≡ Some x) → (b : Bool) → test y ≡ b → IsIn x (y ∷ ys)
        → cond b (Some y) (find test ys) ≡ Some x
    by_head rest true is n = ap (λ (z : A). Some z) (only y (inl refl) is)
    by_head rest false is (inl same) = let yes : test y ≡ true = ap test same ∙ e in cc
    by_head rest false is (inr n) = rest n

no_less : (x y : RuleRow) → x.revision ≡ y.revision → x.term ≡ y.term → x.form ≡ y.form
    → below_by rule_row_order x y ≡ false
no_less x y e f g = rw (
  e,
  f,
  g,
  tied_itself nat_cmp_total y.revision,
  tied_itself nat_list_cmp_total y.term,
  tied_itself nat_list_cmp_total y.form,
) refl

-- ---- what each rule is

read_term : (w : Readings) → ReadsRules w
    → (text : List ℕ) (rule : Rule) (read : Result Catalogue CatalogueFault)
    → w.catalogue text ≡ read → IsIn rule (rules_in (result_ok read))
    → w.term rule.spelled ≡ Some rule.term
read_term w reads text rule (Ok catalogue) e m = reads.spelled text catalogue rule e m
read_term w reads text rule (Err fault) e m = absurd m

spelled_term : (w : Readings) → ReadsRules w → (h : List Command) (row : RuleRow)
    → IsIn row (rule_rows w h) → w.term row.spelled ≡ Some row.term
spelled_term w reads [] row m = absurd m
spelled_term w reads (LoadCatalogue text ∷ h) row m =
    let n = length (revisions h) + 1 in
    let rules = rules_in (result_ok (w.catalogue text)) in
    elim (in_cases row (rule_rows w h) (map (rule_row n) rules) m) [
      | inl old ↦ spelled_term w reads h row old
      | inr new ↦ (let at = from_map (rule_row n) row rules new in
          subst (λ (row : RuleRow). w.term row.spelled ≡ Some row.term) at.2
          (read_term w reads text at.0 (w.catalogue text) refl at.1))
    ]
spelled_term w reads (c ∷ h) row m = spelled_term w reads h row m

read_codes : (w : Readings) → ReadsRules w
    → (text : List ℕ) (rule : Rule) (read : Result Catalogue CatalogueFault)
    → w.catalogue text ≡ read → IsIn rule (rules_in (result_ok read))
    → list_all is_idstring rule.codes ≡ true
read_codes w reads text rule (Ok catalogue) e m = reads.ids text catalogue rule e m
read_codes w reads text rule (Err fault) e m = absurd m

pub codes_of : (w : Readings) → ReadsRules w → (rule : Rule) (o : Option (List ℕ))
    → IsIn rule (rules_in (option_and_then (λ text. result_ok (w.catalogue text)) o))
    → list_all is_idstring rule.codes ≡ true
codes_of w reads rule None m = absurd m
codes_of w reads rule (Some text) m = read_codes w reads text rule (w.catalogue text) refl m

-- ---- the row of a rule in force

in_rows : (w : Readings) (h : List Command) (rule : Rule) → IsIn rule (rules_in (in_force w h))
    → IsIn (rule_row (length (revisions h)) rule) (rule_rows w h)
in_rows w h rule m =
    let n = length (revisions h) in
    let at = from_map rule_of rule (filter (is_rule_of n) (rule_rows w h))
    (subst (λ (rules : List Rule). IsIn rule rules) (sym (rules-found w h)) m) in
    let row = at.0 in
    let own = from_filter (is_rule_of n) row (rule_rows w h) at.1 in
    let revision : row.revision ≡ n = numbers_equal row.revision n own.1 in
    let same : row ≡ rule_row n rule = ap (λ (k : ℕ). rule_row k (rule_of row)) revision
    ∙ ap (rule_row n) at.2 in
    subst (λ (row : RuleRow). IsIn row (rule_rows w h)) same own.0

-- the rule for an adopted form is one in force, and of this form
pub rule_form : (rules : List Rule) (form : List ℕ) (rule : Rule) (o : Option (List ℕ))
    → option_and_then (λ t. history.rule_for rules t form) o ≡ Some rule
    → IsIn rule rules × (rule.form ≡ form)
rule_form rules form rule None e = cc
rule_form rules form rule (Some t) e =
    let at = found_in (is_rule t form) rules rule e in (
      at.0,
      texts_equal rule.form form (and_right (bytes_eq rule.term t) (bytes_eq rule.form form) at.1),
    )

-- ---- it is found

module _ (w : Readings) (reads : ReadsRules w) (later : List Command) (h : List Command)
    (f : FrozenRow) (day : List ℕ) (rule : Rule) where
  abbrev all : List Command
  all = later ++ Freeze f.release day ∷ h

  abbrev n : ℕ
  n = length (revisions h)

  abbrev test : RuleRow → Bool
  test row = is_rule_spelled (pos n) rule.form f.rule (rule_stored row)

  only_rule : Rises (below_by rule_row_order) (rule_rows w all) → f.rule ≡ rule.spelled
      → IsIn (rule_row n rule) (rule_rows w all) → (row : RuleRow) → IsIn row (rule_rows w all)
      → test row ≡ true → row ≡ rule_row n rule
  only_rule up spelled there row m e =
      let revision : row.revision ≡ n =
      numbers_equal row.revision n (sym (pos_eq row.revision n)
      ∙ and_left (int_eq (pos row.revision) (pos n))
      (bytes_eq row.form rule.form && bytes_eq row.spelled f.rule) e) in
      let rest = and_right (int_eq (pos row.revision) (pos n))
      (bytes_eq row.form rule.form && bytes_eq row.spelled f.rule) e in
      let form : row.form ≡ rule.form =
      texts_equal row.form rule.form
      (and_left (bytes_eq row.form rule.form) (bytes_eq row.spelled f.rule) rest) in
      let spells : row.spelled ≡ rule.spelled =
      texts_equal row.spelled f.rule
      (and_right (bytes_eq row.form rule.form) (bytes_eq row.spelled f.rule) rest) ∙ spelled in
      let told : Some row.term ≡ Some rule.term = sym (spelled_term w reads all row m)
      ∙ (ap w.term spells ∙ spelled_term w reads all (rule_row n rule) there) in
      let term : row.term ≡ rule.term = cc in
      one_of (below_by rule_row_order) (rule_rows w all) row (rule_row n rule) up m there
      (no_less row (rule_row n rule) revision term form)
      (no_less (rule_row n rule) row (sym revision) (sym term) (sym form))

  pub rule_found : IsHistory w all → Rises (below_by rule_row_order) (rule_rows w all)
      → IsIn rule (rules_in (in_force w h)) → rule.form ≡ unwrap_or (form_of h f.release) []
      → f.rule ≡ rule.spelled
      → rule_for (snapshot_of (tables w all)) (frozen_stored f)
      ≡ Some (rule_stored (rule_row n rule))
  rule_found ok up m form spelled =
      let freeze = freezes w h f.release day
      (history_before w later (Freeze f.release day ∷ h) ok).0 in
      let forms : form_of all f.release ≡ form_of h f.release =
      form_stays w later (Freeze f.release day ∷ h) f.release ok freeze.opened in
      let opened : is_some (form_of all f.release) ≡ true = ap is_some forms ∙ freeze.opened in
      let there : IsIn (rule_row n rule) (rule_rows w all) =
      rules_stay w later (Freeze f.release day ∷ h) (rule_row n rule) (in_rows w h rule m) in
      let passes : test (rule_row n rule) ≡ true =
      and_from (int_eq (pos n) (pos n))
      (bytes_eq rule.form rule.form && bytes_eq rule.spelled f.rule)
      (pos_eq n n ∙ same_number n)
      (and_from (bytes_eq rule.form rule.form) (bytes_eq rule.spelled f.rule) (same_text rule.form)
      (ap (bytes_eq rule.spelled) spelled ∙ same_text rule.spelled)) in
      let found : find (is_rule_spelled (pos n) rule.form f.rule) (map rule_stored
      (rule_rows w all)) ≡ Some (rule_stored (rule_row n rule)) =
      find-map (is_rule_spelled (pos n) rule.form f.rule) rule_stored (rule_rows w all)
      ∙ ap (option_map rule_stored)
      (find_only test (rule_rows w all) (rule_row n rule) there passes
      (only_rule up spelled there)) in
      ap (option_and_then (λ (release : StoredRelease). find
      (is_rule_spelled release.revision release.form f.rule) (map rule_stored (rule_rows w all))))
      (opened_release w all f.release opened)
      ∙ (ap (λ (k : ℕ). find (is_rule_spelled (pos k) (unwrap_or (form_of all f.release) []) f.rule)
      (map rule_stored (rule_rows w all))) (revision_stays w later h f.release day ok)
      ∙ (ap (λ (o : List ℕ). find (is_rule_spelled (pos n) o f.rule)
      (map rule_stored (rule_rows w all)))
      (ap (λ (o : Option (List ℕ)). unwrap_or o []) forms ∙ sym form)
      ∙ found))
