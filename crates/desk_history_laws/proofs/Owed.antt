-- The duties are those that the frozen terms owe.
use Rattle.std.proofs.Common.{◌≡◌, ℕ, ◌+◌, ◌≤◌, true, List, [], ◌∷◌, ◌++◌, map, Option, Some, None}
use Rattle.std.proofs.Common.{refl, sym, ap, ◌∙◌, subst, append-nil, append_assoc}
use Rattle.std.specs.Prelude.{pos, is_some, unwrap_or, IsPermutation}
use Rattle.std.specs.List.{enumerate_from, flat_map}
use Rattle.std.specs.Option.{option_map_or}
use Rattle.std.proofs.lemmas.List.{map-append}
use Rattle.std.proofs.lemmas.List.Folds.{flat_map-map}
use Rattle.std.proofs.lemmas.List.Sorted.{IsPermutation-append, IsPermutation-append_comm}
use Rattle.std.proofs.lemmas.List.Sorted.{IsPermutation-refl, IsPermutation-trans}
use Rattle.std.proofs.lemmas.Bool.{and_from}
use Rattle.std.proofs.lemmas.Grind.{flat_map-append}
use Rattle.desk_model.specs.Lists.{IsIn, latest, in_order}
use Rattle.desk_model.specs.Keys.{below_by, frozen_order}
use Rattle.desk_model.specs.Readings.{Readings}
use Rattle.desk_model.specs.History.{form_of, in_force, loaded, rule_rows, rules_in}
use Rattle.desk_model.specs.Conclusions.{adopted, adoptions}
use Rattle.desk_model.specs.Raised.{chosen_in, frozen, frozen_at, frozen_for_terms, frozen_term}
use Rattle.desk_model.specs.Raised.{frozen_under, owed_at, owed_code, owed_for_terms, owed_under}
use Rattle.desk_model.specs.Raised.{raised, rule_adopted, shipped}
use Rattle.desk_model.specs.Moves.{duties, duty_row, place}
use Rattle.desk_model.specs.Answers.{IsHistory}
use Rattle.desk_model.specs.Tables.{tables}
use Rattle.desk_model.specs.declared.reading.Rule.{Rule}
use Rattle.desk_model.specs.declared.row.FrozenRow.{FrozenRow}
use Rattle.desk_model.specs.declared.row.Owed.{Owed}
use Rattle.desk_model.specs.declared.row.PackageRow.{PackageRow}
use Rattle.desk_model.specs.declared.command.Command.{Command}
use Rattle.desk_model.specs.declared.command.Command.TheVariants.{Freeze}
use Rattle.desk_model.proofs.Lists.{all_pass}
use Rattle.desk_history.specs.Laws.{AreSortedAsListed, IsFrozenTerm, Rises, rule_row_order}
use Rattle.desk_history.proofs.Members.{from_map}
use Rattle.desk_history.proofs.Minimal.{history_before}
use Rattle.desk_snapshot.specs.Conditions as audit
use Rattle.desk_snapshot.specs.Conditions.{AreDuties, codes_in, is_ruled, owed_by, owed_of, rule_for, was_frozen}
use Rattle.desk_snapshot.specs.Tables.{duty_stored, frozen_stored, snapshot_of}
use Rattle.desk_snapshot.specs.declared.rows.StoredFrozen.{StoredFrozen}
use Rattle.desk_snapshot.specs.declared.rows.StoredRule.{StoredRule}
use Rattle.desk_snapshot.specs.declared.snapshot.Snapshot.{Snapshot}
use Rattle.desk_history_laws.specs.Premises.{ReadsRules}
use Rattle.desk_history_laws.proofs.Duties.{found_frozen, opened_loaded, WasFrozen}
use Rattle.desk_history_laws.proofs.Parts.{from_same, ordered_parts, to_same}
use Rattle.desk_history_laws.proofs.Later.{form_stays, revision_stays}
use Rattle.desk_history_laws.proofs.Recorded.{freezes}
use Rattle.desk_history_laws.proofs.Rules.{codes_of, rule_form, rule_found}
use Rattle.desk_history_laws.proofs.Words.{codes-joined}

-- what a duty is owed for, as it is stored
abbrev owed_stored : Owed → audit.Owed
owed_stored d = record {
  release = d.release;
  document = pos d.document;
  package_id = d.package_id;
  term = d.term;
  code = d.code;
  rule = d.rule;
}

duties_owed : (w : Readings) (h : List Command) (n : ℕ) (xs : List Owed)
    → map owed_of (map duty_stored
    (map (λ (d : ℕ × Owed). duty_row (place w h d.0) d) (enumerate_from n xs))) ≡ map owed_stored xs
duties_owed w h n [] = refl
duties_owed w h n (x ∷ xs) = ap (λ ys. owed_stored x ∷ ys) (duties_owed w h (n + 1) xs)

-- ---- lists made of parts

by_parts : {A B C D E : Type 0} (g : C → List E) (f : B → C) (u : A → List B) (k : D → E)
    (v : A → List D) → ((x : A) → flat_map g (map f (u x)) ≡ map k (v x))
    → (xs : List A) → flat_map g (map f (flat_map u xs)) ≡ map k (flat_map v xs)
by_parts g f u k v each [] = refl
by_parts g f u k v each (x ∷ xs) =
    ap (flat_map g) (map-append f (u x) (flat_map u xs))
    ∙ (flat_map-append g (map f (u x)) (map f (flat_map u xs))
    ∙ (ap (λ ys. ys ++ flat_map g (map f (flat_map u xs))) (each x)
    ∙ (ap (λ ys. map k (v x) ++ ys) (by_parts g f u k v each xs)
    ∙ sym (map-append k (v x) (flat_map v xs)))))

-- ---- a freeze

module _ (w : Readings) (reads : ReadsRules w) (later : List Command) (h : List Command)
    (r day : List ℕ) where
  abbrev all : List Command
  all = later ++ Freeze r day ∷ h

  abbrev s : Snapshot
  s = snapshot_of (tables w all)

  abbrev form : List ℕ
  form = unwrap_or (form_of h r) []

  codes_owed : (p : PackageRow) (term : List ℕ) (rule : Rule) (codes : List (List ℕ))
      → map (audit.owed_for (frozen_stored (frozen_term r p term rule))) codes
      ≡ map owed_stored (map (owed_code r p term rule) codes)
  codes_owed p term rule [] = refl
  codes_owed p term rule (code ∷ codes) = ap (λ ys. owed_stored (owed_code r p term rule code) ∷ ys)
      (codes_owed p term rule codes)

  term_owed : IsHistory w all → Rises (below_by rule_row_order) (rule_rows w all)
      → (p : PackageRow) (term : List ℕ) (o : Option Rule)
      → rule_adopted w (adoptions w h) (rules_in (in_force w h)) form p.document term ≡ o
      → flat_map (owed_by s) (map frozen_stored (frozen_under r p term o))
      ≡ map owed_stored (owed_under r p term o)
  term_owed ok up p term None e = refl
  term_owed ok up p term (Some rule) e =
      let own = rule_form (rules_in (in_force w h)) form rule
      (adopted w (adoptions w h) p.document term) e in
      let f = frozen_term r p term rule in
      let found = rule_found w reads later h f day rule ok up own.0 own.1 refl in
      append-nil (owed_by s (frozen_stored f))
      ∙ (ap (λ (o : Option StoredRule). option_map_or
      (λ (rule : StoredRule). map (audit.owed_for (frozen_stored f)) (codes_in rule.codes)) o [])
      found
      ∙ (ap (map (audit.owed_for (frozen_stored f)))
      (codes-joined rule.codes (codes_of w reads rule (latest loaded h) own.0))
      ∙ codes_owed p term rule rule.codes))

  freeze_owed : IsHistory w all → Rises (below_by rule_row_order) (rule_rows w all)
      → flat_map (owed_by s) (map frozen_stored (frozen_at w h r)) ≡ map owed_stored (owed_at w h r)
  freeze_owed ok up =
      let licences = adoptions w h in
      let rules = rules_in (in_force w h) in
      by_parts (owed_by s) frozen_stored
      (λ (p : PackageRow). frozen_for_terms w licences rules form r p (chosen_in w h r p))
      owed_stored (λ (p : PackageRow). owed_for_terms w licences rules form r p (chosen_in w h r p))
      (λ p.
      by_parts (owed_by s) frozen_stored
      (λ (term : List ℕ). frozen_under r p term
      (rule_adopted w licences rules form p.document term)) owed_stored
      (λ (term : List ℕ). owed_under r p term (rule_adopted w licences rules form p.document term))
      (λ term.
      term_owed ok up p term (rule_adopted w licences rules form p.document term) refl)
      (chosen_in w h r p))
      (shipped w h r)

  -- a release that was frozen by this, and the rule of a frozen term
  frozen_so : IsHistory w all → WasFrozen all r
  frozen_so ok =
      let old = history_before w later (Freeze r day ∷ h) ok in
      let freeze = freezes w h r day old.0 in
      record {
        opened = ap is_some (form_stays w later (Freeze r day ∷ h) r ok freeze.opened)
            ∙ freeze.opened;
        revision = subst (λ (n : ℕ). 1 ≤ n) (sym (revision_stays w later h r day ok))
            (opened_loaded w h r old.1 freeze.opened);
      }

-- ---- all of them

push_later : (later : List Command) (c : Command) (h : List Command)
    → later ++ c ∷ h ≡ (later ++ c ∷ []) ++ h
push_later later c h = sym (append_assoc later (c ∷ []) h)

all_owed : (w : Readings) → ReadsRules w → (whole : List Command) → IsHistory w whole
    → Rises (below_by rule_row_order) (rule_rows w whole) → (later h : List Command)
    → whole ≡ later ++ h
    → IsPermutation (flat_map (owed_by (snapshot_of (tables w whole)))
    (map frozen_stored (frozen w h))) (map owed_stored (raised w h))
all_owed w reads whole ok up later [] e = IsPermutation-refl []
all_owed w reads whole ok up later (Freeze r day ∷ h) e =
    let g = owed_by (snapshot_of (tables w whole)) in
    let new = flat_map g (map frozen_stored (frozen_at w h r)) in
    let old = flat_map g (map frozen_stored (frozen w h)) in
    let rest : IsPermutation old (map owed_stored (raised w h)) =
    all_owed w reads whole ok up (later ++ Freeze r day ∷ []) h
    (e ∙ push_later later (Freeze r day) h) in
    let here : new ≡ map owed_stored (owed_at w h r) =
    subst (λ (whole : List Command). IsHistory w whole
    → Rises (below_by rule_row_order) (rule_rows w whole)
    → flat_map (owed_by (snapshot_of (tables w whole))) (map frozen_stored (frozen_at w h r))
    ≡ map owed_stored (owed_at w h r))
    (sym e) (freeze_owed w reads later h r day) ok up in
    from_same (flat_map g (map frozen_stored (frozen_at w h r ++ frozen w h))) (new ++ old)
    (map owed_stored (raised w h ++ owed_at w h r))
    (ap (flat_map g) (map-append frozen_stored (frozen_at w h r) (frozen w h))
    ∙ flat_map-append g (map frozen_stored (frozen_at w h r)) (map frozen_stored (frozen w h)))
    (to_same (new ++ old) (map owed_stored (raised w h) ++ map owed_stored (owed_at w h r))
    (map owed_stored (raised w h ++ owed_at w h r))
    (IsPermutation-trans (new ++ old) (old ++ new)
    (map owed_stored (raised w h) ++ map owed_stored (owed_at w h r))
    (IsPermutation-append_comm new old)
    (IsPermutation-append old (map owed_stored (raised w h)) new (map owed_stored (owed_at w h r))
    rest
    (from_same new (map owed_stored (owed_at w h r)) (map owed_stored (owed_at w h r)) here
    (IsPermutation-refl (map owed_stored (owed_at w h r))))))
    (sym (map-append owed_stored (raised w h) (owed_at w h r))))
all_owed w reads whole ok up later (c ∷ h) e = all_owed w reads whole ok up (later ++ c ∷ []) h
    (e ∙ push_later later c h)

owed : (w : Readings) → ReadsRules w → (h : List Command) → IsHistory w h
    → Rises (below_by rule_row_order) (rule_rows w h)
    → IsPermutation (flat_map (owed_by (snapshot_of (tables w h)))
    (map frozen_stored (in_order (below_by frozen_order) (frozen w h))))
    (map owed_of (map duty_stored (duties w h)))
owed w reads h ok up =
    let g = owed_by (snapshot_of (tables w h)) in
    let rows = frozen w h in
    let sorted = in_order (below_by frozen_order) rows in
    from_same (flat_map g (map frozen_stored sorted))
    (flat_map (λ (f : FrozenRow). g (frozen_stored f)) sorted)
    (map owed_of (map duty_stored (duties w h)))
    (flat_map-map g frozen_stored sorted)
    (IsPermutation-trans (flat_map (λ (f : FrozenRow). g (frozen_stored f)) sorted)
    (flat_map (λ (f : FrozenRow). g (frozen_stored f)) rows)
    (map owed_of (map duty_stored (duties w h)))
    (ordered_parts (below_by frozen_order) (λ (f : FrozenRow). g (frozen_stored f)) rows)
    (from_same (flat_map (λ (f : FrozenRow). g (frozen_stored f)) rows)
    (flat_map g (map frozen_stored rows)) (map owed_of (map duty_stored (duties w h)))
    (sym (flat_map-map g frozen_stored rows))
    (to_same (flat_map g (map frozen_stored rows)) (map owed_stored (raised w h))
    (map owed_of (map duty_stored (duties w h)))
    (all_owed w reads h ok up [] h refl) (sym (duties_owed w h 1 (raised w h))))))

-- ---- each frozen term has its rule

abbrev FromRows : Type 0
FromRows = (w : Readings) (h : List Command) (row : FrozenRow)
    → (let t = tables w h in IsIn row t.frozen) → IsFrozenTerm w h row

ruled_by : (w : Readings) → ReadsRules w → (h : List Command) → IsHistory w h
    → Rises (below_by rule_row_order) (rule_rows w h) → (f : FrozenRow) → IsFrozenTerm w h f
    → is_ruled (snapshot_of (tables w h)) (frozen_stored f) ≡ true
ruled_by w reads h ok up f is =
    let own = rule_form (rules_in (in_force w is.before))
    (unwrap_or (form_of is.before f.release) []) is.rule
    (adopted w (adoptions w is.before) is.row.document f.term) is.ruled in
    subst (λ (all : List Command). IsHistory w all
    → Rises (below_by rule_row_order) (rule_rows w all)
    → is_ruled (snapshot_of (tables w all)) (frozen_stored f) ≡ true) (sym is.split)
    (λ ok' up'.
    let all = is.later ++ Freeze f.release is.day ∷ is.before in
    and_from (was_frozen (snapshot_of (tables w all)) f.release)
    (is_some (rule_for (snapshot_of (tables w all)) (frozen_stored f)))
    (found_frozen w all f.release (frozen_so w reads is.later is.before f.release is.day ok'))
    (ap is_some (rule_found w reads is.later is.before f is.day is.rule ok' up' own.0 own.1
    is.spelled)))
    ok up

pub are_duties : FromRows → ((w : Readings) (h : List Command) → ReadsRules w
    → AreSortedAsListed (tables w h)) → (w : Readings) (h : List Command) → ReadsRules w
    → IsHistory w h → AreDuties (snapshot_of (tables w h))
are_duties from_rows listed w h reads ok =
    let sorted = listed w h reads in
    let s = snapshot_of (tables w h) in
    let rows = in_order (below_by frozen_order) (frozen w h) in
    record {
      ruled = all_pass (is_ruled s) (map frozen_stored rows) (λ row m.
          let at = from_map frozen_stored row rows m in
          subst (λ (row : StoredFrozen). is_ruled s row ≡ true) at.2
          (ruled_by w reads h ok sorted.rule at.0 (from_rows w h at.0 at.1)));
      owed = owed w reads h ok sorted.rule;
    }
