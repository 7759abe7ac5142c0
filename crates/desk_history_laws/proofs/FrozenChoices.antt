-- A frozen release holds for its packages the terms that it was frozen with.
use Rattle.std.proofs.Common.{◌≡◌, ℕ, Bool, true, false, List, [], ◌∷◌, ◌++◌, map, Option}
use Rattle.std.proofs.Common.{Some, None, sym, refl, ap, ◌∙◌, subst, inl, inr}
use Rattle.std.specs.Prelude.{◌+◌, unwrap_or, IsTrue, is_some, find, ◌&&◌, nat_lt, length}
use Rattle.std.specs.Prelude.{if◌then◌else◌, ◌==◌}
use Rattle.std.specs.List.{list_any, filter_map}
use Rattle.std.specs.Option.{option_map_or, option_and_then}
use Rattle.std.specs.Str.{bytes_eq}
use Rattle.desk_base.specs.Day.{is_day}
use Rattle.desk_base.proofs.Bools.{and_left, and_right}
use Rattle.desk_base.proofs.Numbers.{numbers_equal}
use Rattle.desk_base.proofs.Texts.{texts_equal, text_tells}
use Rattle.desk_base.proofs.Lists.{is_there}
use Rattle.desk_model.specs.Lists.{IsIn, latest, or_else}
use Rattle.desk_model.specs.Readings.{Readings}
use Rattle.desk_model.specs.Keys.{below_by, attached_order, is_attachment, is_package}
use Rattle.desk_model.specs.History.{attached, attachment, choice, form_of, in_force, is_package_of}
use Rattle.desk_model.specs.History.{package_row, packages, packages_in, documents, rules_in}
use Rattle.desk_model.specs.History.{state_of, state_given, term_set, terms_given}
use Rattle.desk_model.specs.Conclusions.{adoptions}
use Rattle.desk_model.specs.Raised.{chosen_in, rule_adopted, shipped}
use Rattle.desk_model.specs.Answers.{answer, choosing, conclusion, freeze_answer}
use Rattle.desk_model.specs.Answers.{first_refusal, first_unadopted, first_unruled, Freezing}
use Rattle.desk_model.specs.Answers.{freezing, IsHistory, is_recorded, is_shipped, package_at}
use Rattle.desk_model.specs.Answers.{package_fault, unchosen, unchoosing, unconcluded, unless}
use Rattle.desk_model.specs.Answers.{unready, unruled}
use Rattle.desk_model.specs.declared.reading.Rule.{Rule}
use Rattle.desk_model.specs.declared.refusal.Refusal.{Refusal}
use Rattle.desk_model.specs.declared.refusal.Refusal.TheVariants as why
use Rattle.desk_model.specs.declared.row.AttachedRow.{AttachedRow}
use Rattle.desk_model.specs.declared.row.FrozenRow.{FrozenRow}
use Rattle.desk_model.specs.declared.row.PackageRow.{PackageRow}
use Rattle.desk_model.specs.declared.state.ReleaseState.{ReleaseState}
use Rattle.desk_model.specs.declared.state.ReleaseState.TheVariants.{IsOpen, Frozen, Withdrawn}
use Rattle.desk_model.specs.declared.command.Command.{Command}
use Rattle.desk_model.specs.declared.command.Command.TheVariants.{Import, Attach, Choose, Unchoose, Freeze, Withdraw}
use Rattle.desk_model.proofs.Lists.{one_passes, found_in}
use Rattle.std.specs.Result.{result_ok}
use Rattle.desk_history.specs.Laws.{IsFrozenTerm}
use Rattle.desk_history.proofs.Members.{in_left, in_map}
use Rattle.desk_history.proofs.Recorded.{chooses, is_ready, is_so, past}
use Rattle.desk_history.proofs.OwnKeys.{open_by}
use Rattle.desk_history_laws.specs.Shipping.{IsShipped}
use Rattle.desk_history_laws.proofs.FrozenRows.{frozen_once}
use Rattle.desk_history_laws.proofs.Members.{from_filter_map, from_sorted}
use Rattle.desk_history_laws.proofs.Releases.{attaches}

-- ---- what a recorded command looked up

chosen_open : (w : Readings) (h : List Command) (r : List ℕ) (d : ℕ) (p : List ℕ)
    (texts : List (List ℕ)) → IsTrue (is_recorded (answer w h (Choose r d p texts)))
    → (state_of h r ≡ IsOpen) × (is_shipped (choosing w h r d p) ≡ true)
chosen_open w h r d p texts e =
    let is = chooses w texts (choosing w h r d p) e in
    (open_by (state_of h r) (form_of h r) is.opened, is.ships)

unchosen_open : (w : Readings) (h : List Command) (r : List ℕ) (d : ℕ) (p : List ℕ)
    → IsTrue (is_recorded (answer w h (Unchoose r d p))) → state_of h r ≡ IsOpen
unchosen_open w h r d p e =
    let found = unchoosing w h r d p in
    let one = past (unless (is_some found.state) why.UnknownRelease) _ e in
    let two = past (unless found.has_document why.UnknownDocument) _ one.1 in
    let three = past (unless found.has_package why.UnknownPackage) _ two.1 in
    let four = past (option_and_then unready found.state) _ three.1 in
    open_by (state_of h r) (form_of h r)
    (is_ready found.state (is_so (is_some found.state) why.UnknownRelease one.0) four.0)

no_fault : (day : List ℕ) (found : Freezing) → IsTrue (is_recorded (freeze_answer day found))
    → found.fault ≡ None
no_fault day found e =
    let one = past (unless (is_day day) why.BadDay) _ e in
    let two = past (unless (is_some found.state) why.UnknownRelease) _ one.1 in
    let three = past (option_and_then unready found.state) _ two.1 in
    let four = past (unless (nat_lt 0 found.attached) why.EmptyRelease) _ three.1 in
    (past found.fault _ four.1).0

-- ---- a choice that is held is for a package that the release ships

-- a package that the release ships, with this document and id
record Ships (w : Readings) (h : List Command) (r : List ℕ) (d : ℕ) (p : List ℕ) : Type 0 where
  row : PackageRow
  is : IsShipped w h r row
  document : row.document ≡ d
  package_id : row.id ≡ p

was_attached : (h : List Command) (r : List ℕ) (d : ℕ)
    → list_any (is_attachment r d) (attached h) ≡ true → IsIn (Attach r d) h
was_attached h r d e =
    let at = one_passes (is_attachment r d) (attached h) e in
    let row : AttachedRow = at.0 in
    let entry = from_filter_map attachment row h
    (from_sorted (below_by attached_order) row (filter_map attachment h) at.1) in
    let release : row.release ≡ r =
    texts_equal row.release r (and_left (bytes_eq row.release r) (row.document == d) at.2) in
    let document : row.document ≡ d =
    numbers_equal row.document d (and_right (bytes_eq row.release r) (row.document == d) at.2) in
    subst (λ (c : Command). IsIn c h)
    (attaches entry.0 row entry.2
    ∙ (ap (λ (n : List ℕ). Attach n row.document) release ∙ ap (λ (n : ℕ). Attach r n) document))
    entry.1

ships_row : (w : Readings) (h : List Command) (r : List ℕ) (d : ℕ) (p : List ℕ)
    (o : Option PackageRow) → find (is_package d p) (packages w h) ≡ o → IsIn (Attach r d) h
    → option_map_or (λ (row : PackageRow). row.shipped) o false ≡ true → Ships w h r d p
ships_row w h r d p None e m ships = cc
ships_row w h r d p (Some row) e m ships =
    let at = found_in (is_package d p) (packages w h) row e in
    let document : row.document ≡ d =
    numbers_equal row.document d (and_left (row.document == d) (bytes_eq row.id p) at.1) in
    record {
      row = row;
      is = record {
        attached = subst (λ (n : ℕ). IsIn (Attach r n) h) (sym document) m;
        listed = at.0;
        ships = ships;
      };
      document = document;
      package_id = texts_equal row.id p (and_right (row.document == d) (bytes_eq row.id p) at.1);
    }

chosen_ships : (w : Readings) (h : List Command) (r : List ℕ) (d : ℕ) (p : List ℕ)
    → is_shipped (choosing w h r d p) ≡ true → Ships w h r d p
chosen_ships w h r d p e =
    let there = list_any (is_attachment r d) (attached h) in
    let ships = option_map_or (λ (row : PackageRow). row.shipped) (package_at w h d p) false in
    ships_row w h r d p (package_at w h d p) refl (was_attached h r d (and_left there ships e))
    (and_right there ships e)

listed_later : (w : Readings) (c : Command) (h : List Command) (p : PackageRow)
    → IsIn p (packages w h) → IsIn p (packages w (c ∷ h))
listed_later w (Import bytes profile) h p m = in_left p (packages w h)
    (map (package_row (length (documents w h) + 1)) (packages_in (result_ok (w.document bytes)))) m
listed_later w c h p m = m

ships_later : (w : Readings) (c : Command) (h : List Command) (r : List ℕ) (d : ℕ) (p : List ℕ)
    → Ships w h r d p → Ships w (c ∷ h) r d p
ships_later w c h r d p s = record {
  row = s.row;
  is = record {
    attached = inr s.is.attached;
    listed = listed_later w c h s.row s.is.listed;
    ships = s.is.ships;
  };
  document = s.document;
  package_id = s.package_id;
}

abbrev Held : Readings → List Command → List ℕ → ℕ → List ℕ → List ℕ → Type 0
Held w h r d p term = IsIn term (choice w h r d p)

-- a later decision for another package or release
dropped : (term : List ℕ) (b : Bool) (o : Option (List (List ℕ)))
    → IsIn term (unwrap_or (or_else (if b then Some [] else None) o) [])
    → IsIn term (unwrap_or o [])
dropped term true o m = absurd m
dropped term false o m = m

held_ships : (w : Readings) (h : List Command) (r : List ℕ) (d : ℕ) (p term : List ℕ)
    → IsHistory w h → Held w h r d p term → Ships w h r d p
held_ships w [] r d p term ok m = absurd m
held_ships w (Choose r' d' p' texts ∷ h) r d p term ok m =
    by_key (λ n. held_ships w h r d p term ok.1 n) (is_package_of r d p r' d' p') refl m
  where
    by_key : (Held w h r d p term → Ships w h r d p) → (b : Bool) → is_package_of r d p r' d' p' ≡ b
        → IsIn term (unwrap_or (or_else (if b then Some (term_set w texts) else None)
        (latest (terms_given w r d p) h)) []) → Ships w (Choose r' d' p' texts ∷ h) r d p
    by_key rest true e m =
        let release : r' ≡ r = texts_equal r' r (first e) in
        let document : d' ≡ d = numbers_equal d' d (second e) in
        let package_id : p' ≡ p = texts_equal p' p
        (and_right (bytes_eq r' r && (d' == d)) (bytes_eq p' p) e) in
        ships_later w (Choose r' d' p' texts) h r d p
        (subst (λ (n : List ℕ). Ships w h n d p) release
        (subst (λ (n : ℕ). Ships w h r' n p) document
        (subst (λ (n : List ℕ). Ships w h r' d' n) package_id
        (chosen_ships w h r' d' p' (chosen_open w h r' d' p' texts ok.0).1))))
      where
        first : (bytes_eq r' r && (d' == d) && bytes_eq p' p) ≡ true → bytes_eq r' r ≡ true
        first e = and_left (bytes_eq r' r) (d' == d)
            (and_left (bytes_eq r' r && (d' == d)) (bytes_eq p' p) e)

        second : (bytes_eq r' r && (d' == d) && bytes_eq p' p) ≡ true → (d' == d) ≡ true
        second e = and_right (bytes_eq r' r) (d' == d)
            (and_left (bytes_eq r' r && (d' == d)) (bytes_eq p' p) e)
    by_key rest false e m = ships_later w (Choose r' d' p' texts) h r d p (rest m)
held_ships w (Unchoose r' d' p' ∷ h) r d p term ok m =
    ships_later w (Unchoose r' d' p') h r d p
    (held_ships w h r d p term ok.1
    (dropped term (is_package_of r d p r' d' p') (latest (terms_given w r d p) h) m))
held_ships w (Withdraw r' day text ∷ h) r d p term ok m =
    ships_later w (Withdraw r' day text) h r d p
    (held_ships w h r d p term ok.1
    (dropped term (bytes_eq r' r) (latest (terms_given w r d p) h) m))
held_ships w (c ∷ h) r d p term ok m = ships_later w c h r d p (held_ships w h r d p term ok.1 m)

-- ---- a recorded freeze had a rule for each term

none_first : (refusals : List (Option Refusal)) (o : Option Refusal) → first_refusal refusals ≡ None
    → IsIn o refusals → o ≡ None
none_first [] o e m = absurd m
none_first (None ∷ refusals) o e (inl same) = sym same
none_first (None ∷ refusals) o e (inr m) = none_first refusals o e m
none_first (Some refusal ∷ refusals) o e m = cc

pub ruled : (w : Readings) (h : List Command) (r day : List ℕ) (p : PackageRow) (term : List ℕ)
    → IsTrue (is_recorded (answer w h (Freeze r day))) → IsIn p (shipped w h r)
    → IsIn term (choice w h r p.document p.id)
    → (rule : Rule) × (rule_adopted w (adoptions w h) (rules_in (in_force w h))
    (unwrap_or (form_of h r) []) p.document term ≡ Some rule)
ruled w h r day p term recorded ships chosen =
    let licences = adoptions w h in
    let rules = rules_in (in_force w h) in
    let form = unwrap_or (form_of h r) [] in
    let terms = chosen_in w h r p in
    let fault = λ (q : PackageRow). package_fault w licences rules form (conclusion w h q)
    (chosen_in w h r q) q in
    let of_package : fault p ≡ None =
    none_first (map fault (shipped w h r)) (fault p) (no_fault day (freezing w h r) recorded)
    (in_map fault p (shipped w h r) ships) in
    let of_terms : first_unruled w licences rules form p terms ≡ None =
    none_first (unconcluded (conclusion w h p) p ∷ unchosen p terms
    ∷ first_unadopted w licences p.document terms ∷ first_unruled w licences rules form p terms
    ∷ [])
    (first_unruled w licences rules form p terms) of_package (inr (inr (inr (inl refl)))) in
    let of_term : unruled w licences rules form p term ≡ None =
    none_first (map (unruled w licences rules form p) terms) (unruled w licences rules form p term)
    of_terms (in_map (unruled w licences rules form p) term terms chosen) in
    is_there (rule_adopted w licences rules form p.document term)
    (is_so (is_some (rule_adopted w licences rules form p.document term))
    (why.NoRule p.document p.id term) of_term)

-- ---- nothing is chosen after the freeze

pub record FrozenAt (w : Readings) (h : List Command) (r : List ℕ) : Type 0 where
  pub later : List Command
  pub before : List Command
  pub day : List ℕ
  pub split : h ≡ later ++ Freeze r day ∷ before
  pub recorded : IsTrue (is_recorded (answer w before (Freeze r day)))
  pub old : IsHistory w before
  pub same : (d : ℕ) (p : List ℕ) → choice w h r d p ≡ choice w before r d p

frozen_later : (w : Readings) (c : Command) (h : List Command) (r : List ℕ)
    → ((d : ℕ) (p : List ℕ) → choice w (c ∷ h) r d p ≡ choice w h r d p) → FrozenAt w h r
    → FrozenAt w (c ∷ h) r
frozen_later w c h r stays at = record {
  later = c ∷ at.later;
  before = at.before;
  day = at.day;
  split = ap (λ hs. c ∷ hs) at.split;
  recorded = at.recorded;
  old = at.old;
  same = λ d p. stays d p ∙ at.same d p;
}

-- a release that is open isn't this one
pub other_release : (h : List Command) (r r' : List ℕ) → state_of h r' ≡ IsOpen
    → state_of h r ≡ Frozen → bytes_eq r' r ≡ false
other_release h r r' opened frozen =
    elim (text_tells r' r) [
      | inl same ↦ (let both : state_of h r' ≡ state_of h r = ap (state_of h) same.1 in
          let no : IsOpen ≡ Frozen = sym opened ∙ both ∙ frozen in cc)
      | inr differ ↦ differ.0
    ]

kept_choice : (b : Bool) (terms : List (List ℕ)) (o : Option (List (List ℕ))) → b ≡ false
    → unwrap_or (or_else (if b then Some terms else None) o) [] ≡ unwrap_or o []
kept_choice true terms o e = cc
kept_choice false terms o e = refl

another : (r r' p p' : List ℕ) (d d' : ℕ) → bytes_eq r' r ≡ false
    → is_package_of r d p r' d' p' ≡ false
another r r' p p' d d' differ = rw differ refl

pub frozen_at : (w : Readings) (h : List Command) (r : List ℕ) → IsHistory w h
    → state_of h r ≡ Frozen → FrozenAt w h r
frozen_at w [] r ok e = cc
frozen_at w (Freeze r' day ∷ h) r ok e =
    elim (text_tells r' r) [
      | inl same ↦ record {
        later = [];
        before = h;
        day = day;
        split = ap (λ (n : List ℕ). Freeze n day ∷ h) same.1;
        recorded = subst (λ (n : List ℕ). IsTrue (is_recorded (answer w h (Freeze n day)))) same.1
            ok.0;
        old = ok.1;
        same = λ d p. refl;
      }
      | inr differ ↦
          let old : state_of h r ≡ Frozen =
          kept_state (bytes_eq r' r) Frozen (latest (state_given r) h) differ.0 e in
          frozen_later w (Freeze r' day) h r (λ d p. refl) (frozen_at w h r ok.1 old)
    ]
  where
    kept_state : (b : Bool) (s : ReleaseState) (o : Option ReleaseState) → b ≡ false
        → unwrap_or (or_else (if b then Some s else None) o) IsOpen ≡ Frozen
        → unwrap_or o IsOpen ≡ Frozen
    kept_state true s o none e = cc
    kept_state false s o none e = e
frozen_at w (Withdraw r' day text ∷ h) r ok e =
    let known = withdrawn_not (bytes_eq r' r) (latest (state_given r) h) e in
    frozen_later w (Withdraw r' day text) h r
    (λ d p. kept_choice (bytes_eq r' r) [] (latest (terms_given w r d p) h) known.0)
    (frozen_at w h r ok.1 known.1)
  where
    withdrawn_not : (b : Bool) (o : Option ReleaseState)
        → unwrap_or (or_else (if b then Some Withdrawn else None) o) IsOpen ≡ Frozen
        → (b ≡ false) × (unwrap_or o IsOpen ≡ Frozen)
    withdrawn_not true o e = cc
    withdrawn_not false o e = (refl, e)
frozen_at w (Choose r' d' p' texts ∷ h) r ok e =
    let differ = other_release h r r' (chosen_open w h r' d' p' texts ok.0).0 e in
    frozen_later w (Choose r' d' p' texts) h r
    (λ d p. kept_choice (is_package_of r d p r' d' p') (term_set w texts)
    (latest (terms_given w r d p) h) (another r r' p p' d d' differ)) (frozen_at w h r ok.1 e)
frozen_at w (Unchoose r' d' p' ∷ h) r ok e =
    let differ = other_release h r r' (unchosen_open w h r' d' p' ok.0) e in
    frozen_later w (Unchoose r' d' p') h r
    (λ d p. kept_choice (is_package_of r d p r' d' p') [] (latest (terms_given w r d p) h)
    (another r r' p p' d d' differ)) (frozen_at w h r ok.1 e)
frozen_at w (c ∷ h) r ok e = frozen_later w c h r (λ d p. refl) (frozen_at w h r ok.1 e)

-- ---- both ways

pub frozen_is_held : (w : Readings) (h : List Command) (f : FrozenRow) → IsHistory w h
    → state_of h f.release ≡ Frozen → IsFrozenTerm w h f
    → IsIn f.term (choice w h f.release f.document f.package_id)
frozen_is_held w h f ok e is =
    let at = frozen_at w h f.release ok e in
    let one : at.before ≡ is.before =
    frozen_once w h at.later at.before is.later is.before f.release at.day is.day ok at.split
    is.split in
    let held : IsIn f.term (choice w at.before f.release is.row.document is.row.id) =
    subst (λ hs. IsIn f.term (choice w hs f.release is.row.document is.row.id)) (sym one)
    is.chosen in
    let here : IsIn f.term (choice w h f.release is.row.document is.row.id) =
    subst (IsIn f.term) (sym (at.same is.row.document is.row.id)) held in
    subst (λ (n : ℕ). IsIn f.term (choice w h f.release n f.package_id)) (sym is.document)
    (subst (λ (n : List ℕ). IsIn f.term (choice w h f.release is.row.document n))
    (sym is.package_id) here)

-- a term that is held, with the rule by which it was frozen
pub held_is_frozen : ((w : Readings) (h : List Command) (r : List ℕ) (p : PackageRow)
    → IsShipped w h r p → IsIn p (shipped w h r))
    → (w : Readings) (h : List Command) (r : List ℕ) (d : ℕ) (p term : List ℕ) → IsHistory w h
    → state_of h r ≡ Frozen → IsIn term (choice w h r d p)
    → (spelled : List ℕ) × IsFrozenTerm w h
    (record { release = r; document = d; package_id = p; term = term; rule = spelled })
held_is_frozen in_shipped w h r d p term ok e m =
    let at = frozen_at w h r ok e in
    let before = at.before in
    let held : IsIn term (choice w before r d p) = subst (IsIn term) (at.same d p) m in
    let ships = held_ships w before r d p term at.old held in
    let row = ships.row in
    let there : IsIn row (shipped w before r) = in_shipped w before r row ships.is in
    let own : IsIn term (choice w before r row.document row.id) =
    subst (λ (n : ℕ). IsIn term (choice w before r n row.id)) (sym ships.document)
    (subst (λ (n : List ℕ). IsIn term (choice w before r d n)) (sym ships.package_id) held) in
    let rule = ruled w before r at.day row term at.recorded there own in (
      rule.0.spelled,
      record {
        later = at.later;
        before = before;
        day = at.day;
        row = row;
        rule = rule.0;
        split = at.split;
        ships = there;
        document = sym ships.document;
        package_id = sym ships.package_id;
        chosen = own;
        ruled = rule.1;
        spelled = refl;
      },
    )
