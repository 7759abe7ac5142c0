-- No two duties have the same key.
use Rattle.std.proofs.Common.{◌≡◌, ◌≢◌, ℕ, ◌+◌, Bool, true, false, List, [], ◌∷◌, length, map}
use Rattle.std.proofs.Common.{Option, Some, None, sym, refl, ap, ◌∙◌, subst, arith}
use Rattle.std.proofs.Common.{inl, inr}
use Rattle.std.specs.Prelude.{if◌then◌else◌, filter, find, not, ◌||◌, ◌==◌, unwrap_or, Result, Ok}
use Rattle.std.specs.Prelude.{Err, IsTrue, cond, is_some}
use Rattle.std.specs.List.{list_any, enumerate_from}
use Rattle.std.specs.Option.{option_and_then, option_map}
use Rattle.std.specs.Result.{result_ok}
use Rattle.std.specs.Str.{bytes_eq}
use Rattle.std.specs.Ordering.{is_lt}
use Rattle.std.proofs.lemmas.Cmp.{nat_list_cmp_total, tied_itself}
use Rattle.std.proofs.lemmas.List.{map-append}
use Rattle.std.proofs.lemmas.Bool.Decides.{nat_tests}
use Rattle.std.proofs.lemmas.Bool.{not-true}
use Rattle.std.proofs.lemmas.Simd.{map-map}
use Rattle.desk_model.specs.Lists.{IsIn, latest, or_else}
use Rattle.desk_model.specs.Texts.{text_below}
use Rattle.desk_model.specs.Readings.{Readings}
use Rattle.desk_model.specs.Keys.{is_shipped_by, is_attached_to, is_attachment, below_by, attached_order, is_rule}
use Rattle.desk_model.specs.History.{loaded, in_force, rules_in, rule_for, documents}
use Rattle.desk_model.specs.History.{packages, packages_in, package_row, form_of, state_of}
use Rattle.desk_model.specs.History.{state_given, attached, attached_to}
use Rattle.desk_model.specs.Conclusions.{adopted, adoptions}
use Rattle.desk_model.specs.Raised.{raised, owed_at, owed_for_terms, owed_under, owed_code}
use Rattle.desk_model.specs.Raised.{rule_adopted, shipped, chosen_in}
use Rattle.desk_model.specs.Moves.{duties, duty_row, place}
use Rattle.desk_model.specs.Answers.{answer, is_recorded, IsHistory, Attaching, attach_answer}
use Rattle.desk_model.specs.Answers.{attaching, freezing, unless, unready}
use Rattle.desk_history.proofs.Recorded.{past, is_so}
use Rattle.desk_history.proofs.Opening.{frozen_open}
use Rattle.desk_history.specs.Laws.{AreDistinct, ListsOnce, key_of}
use Rattle.desk_history.proofs.Orders.{under}
use Rattle.desk_history.proofs.Chosen.{rises, rises-choice}
use Rattle.desk_history.proofs.Members.{in_cases, in_map, from_map, from_flat_map}
use Rattle.desk_history.proofs.Distinct.{distinct-append, distinct-map, from_filter}
use Rattle.desk_history.proofs.Distinct.{distinct-filter, distinct-flat_map, distinct-put}
use Rattle.desk_history.proofs.Listed.{of_document}
use Rattle.desk_model.specs.declared.reading.Catalogue.{Catalogue}
use Rattle.desk_model.specs.declared.reading.Document.{Document}
use Rattle.desk_model.specs.declared.reading.Package.{Package}
use Rattle.desk_model.specs.declared.reading.Rule.{Rule}
use Rattle.desk_model.specs.declared.refusal.CatalogueFault.{CatalogueFault}
use Rattle.desk_model.specs.declared.refusal.DocumentFault.{DocumentFault}
use Rattle.desk_model.specs.declared.refusal.Refusal.TheVariants as why
use Rattle.desk_model.specs.declared.row.AttachedRow.{AttachedRow}
use Rattle.desk_model.specs.declared.row.PackageRow.{PackageRow}
use Rattle.desk_model.specs.declared.row.Owed.{Owed}
use Rattle.desk_model.specs.declared.state.ReleaseState.{ReleaseState}
use Rattle.desk_model.specs.declared.state.ReleaseState.TheVariants.{IsOpen, Frozen, Withdrawn}
use Rattle.desk_model.specs.declared.command.Command.{Command}
use Rattle.desk_model.specs.declared.command.Command.TheVariants.{Import, Attach, Freeze, Withdraw}
use Rattle.desk_base.proofs.Bools.{and_left, and_right}
use Rattle.desk_base.proofs.Texts.{same_text, texts_equal}

abbrev pub Key : Type 0
Key = List ℕ × ℕ × List ℕ × List ℕ × List ℕ

abbrev pub owed_key : Owed → Key
owed_key d = (d.release, d.document, d.package_id, d.term, d.code)

-- Terms: those of a choice are sorted

pub not_below_itself : (x : List ℕ) → text_below x x ≡ false
not_below_itself x = ap is_lt (tied_itself nat_list_cmp_total x)

pub under_all : (x y : List ℕ) (ys : List (List ℕ)) → under text_below x ys ≡ true → IsIn y ys
    → text_below x y ≡ true
under_all x y [] all m = absurd m
under_all x y (z ∷ zs) all m =
    elim m [
      | inl same ↦ subst (λ t. text_below x t ≡ true) same
          (and_left (text_below x z) (under text_below x zs) all)
      | inr n ↦ under_all x y zs (and_right (text_below x z) (under text_below x zs) all) n
    ]

distinct-rises : (xs : List (List ℕ)) → rises xs ≡ true → AreDistinct xs
distinct-rises [] up = tt
distinct-rises (x ∷ xs) up = (
  λ m. (let yes : text_below x x ≡ true =
      under_all x x xs (and_left (under text_below x xs) (rises xs) up) m in
      let no : text_below x x ≡ false = not_below_itself x in cc),
  distinct-rises xs (and_right (under text_below x xs) (rises xs) up),
)

-- Codes: those of a rule in force are different

found_in : {A : Type 0} (test : A → Bool) (x : A) (xs : List A) → find test xs ≡ Some x → IsIn x xs
found_in test x [] e = cc
found_in test x (y ∷ ys) e =
    (elim (test y) as (λ b. cond b (Some y) (find test ys) ≡ Some x → IsIn x (y ∷ ys)) [
      | true ↦ λ f. inl (ap (λ o. unwrap_or o y) f)
      | false ↦ λ f. inr (found_in test x ys f)
    ]) e

pub rule_in : (rules : List Rule) (form : List ℕ) (rule : Rule) (o : Option (List ℕ))
    → option_and_then (λ t. rule_for rules t form) o ≡ Some rule → IsIn rule rules
rule_in rules form rule None e = cc
rule_in rules form rule (Some t) e = found_in (is_rule t form) rule rules e

codes_of : (w : Readings) → ListsOnce w
    → (text : List ℕ) (rule : Rule) (read : Result Catalogue CatalogueFault)
    → w.catalogue text ≡ read → IsIn rule (rules_in (result_ok read)) → AreDistinct rule.codes
codes_of w once text rule (Ok catalogue) e m = once.codes text catalogue rule e m
codes_of w once text rule (Err fault) e m = absurd m

codes_in : (w : Readings) → ListsOnce w → (rule : Rule) (o : Option (List ℕ))
    → IsIn rule (rules_in (option_and_then (λ text. result_ok (w.catalogue text)) o))
    → AreDistinct rule.codes
codes_in w once rule None m = absurd m
codes_in w once rule (Some text) m = codes_of w once text rule (w.catalogue text) refl m

distinct-codes : (r : List ℕ) (p : PackageRow) (term : List ℕ) (rule : Rule)
    → AreDistinct rule.codes → AreDistinct (map owed_key (map (owed_code r p term rule) rule.codes))
distinct-codes r p term rule a =
    subst AreDistinct (sym (map-map owed_key (owed_code r p term rule) rule.codes))
    (distinct-map (λ (code : List ℕ). owed_key (owed_code r p term rule code)) rule.codes
    (λ x y m n e. ap (λ (k : Key). k.4) e) a)

distinct-under : (w : Readings) → ListsOnce w
    → (h : List Command) (r : List ℕ) (p : PackageRow) (term form : List ℕ) (o : Option Rule)
    → rule_adopted w (adoptions w h) (rules_in (in_force w h)) form p.document term ≡ o
    → AreDistinct (map owed_key (owed_under r p term o))
distinct-under w once h r p term form None e = tt
distinct-under w once h r p term form (Some rule) e =
    distinct-codes r p term rule (codes_in w once rule (latest loaded h)
    (rule_in (rules_in (in_force w h)) form rule (adopted w (adoptions w h) p.document term) e))

-- Packages: their documents and ids are different

pub key_under : (r : List ℕ) (p : PackageRow) (term : List ℕ) (o : Option Rule) (d : Owed)
    → IsIn d (owed_under r p term o)
    → (d.release ≡ r) × (d.document ≡ p.document) × (d.package_id ≡ p.id) × (d.term ≡ term)
key_under r p term None d m = absurd m
key_under r p term (Some rule) d m =
    let found = from_map (owed_code r p term rule) d rule.codes m in (
      ap (λ (o : Owed). o.release) (sym found.2),
      ap (λ (o : Owed). o.document) (sym found.2),
      ap (λ (o : Owed). o.package_id) (sym found.2),
      ap (λ (o : Owed). o.term) (sym found.2),
    )

abbrev pub place_of : PackageRow → ℕ × List ℕ
place_of p = (p.document, p.id)

abbrev pub package_of : Key → ℕ × List ℕ
package_of k = (k.1, k.2)

same_place : (d : Owed) (p : PackageRow) → d.document ≡ p.document → d.package_id ≡ p.id
    → package_of (owed_key d) ≡ place_of p
same_place d p e f =
    let pair : ℕ → List ℕ → ℕ × List ℕ = λ n id. (n, id) in
    ap (λ n. pair n d.package_id) e ∙ ap (λ id. pair p.document id) f

pub key_for_terms : (w : Readings) (h : List Command) (r form : List ℕ) (p : PackageRow) (d : Owed)
    → IsIn d (owed_for_terms w (adoptions w h) (rules_in (in_force w h)) form r p
    (chosen_in w h r p)) → (d.release ≡ r) × (package_of (owed_key d) ≡ place_of p)
key_for_terms w h r form p d m =
    let rules = rules_in (in_force w h) in
    let t = from_flat_map (λ (term : List ℕ). owed_under r p term
    (rule_adopted w (adoptions w h) rules form p.document term)) d (chosen_in w h r p) m in
    let key = key_under r p t.0 (rule_adopted w (adoptions w h) rules form p.document t.0) d t.2 in
    (key.0, same_place d p key.1 key.2)

distinct-terms : (w : Readings) → ListsOnce w
    → (h : List Command) (r form : List ℕ) (p : PackageRow)
    → AreDistinct (map owed_key (owed_for_terms w (adoptions w h) (rules_in (in_force w h)) form r p
    (chosen_in w h r p)))
distinct-terms w once h r form p =
    let rules = rules_in (in_force w h) in
    let terms = chosen_in w h r p in
    distinct-flat_map (λ (term : List ℕ). owed_under r p term
    (rule_adopted w (adoptions w h) rules form p.document term)) owed_key (λ (k : Key). k.3)
    (λ (term : List ℕ). term) terms
    (λ term d m. (key_under r p term (rule_adopted w (adoptions w h) rules form p.document term) d
    m).3)
    (distinct-map (λ (term : List ℕ). term) terms (λ x y m n e. e)
    (distinct-rises terms (rises-choice w h r p.document p.id)))
    (λ term m. distinct-under w once h r p term form
    (rule_adopted w (adoptions w h) rules form p.document term) refl)

-- a reading by which no document has two packages with the same id
abbrev pub HasOwnIds : Readings → Type 0
HasOwnIds w = (bytes : List ℕ) (document : Document) → w.document bytes ≡ Ok document
    → AreDistinct (map (λ p. p.id) document.packages)

ids_of : (w : Readings) → HasOwnIds w → (bytes : List ℕ) (read : Result Document DocumentFault)
    → w.document bytes ≡ read → AreDistinct
    (map (λ (p : Package). p.id) (packages_in (result_ok read)))
ids_of w own bytes (Ok document) e = own bytes document e
ids_of w own bytes (Err fault) e = tt

distinct-from_map : {A B : Type 0} (f : A → B) (xs : List A) → AreDistinct (map f xs)
    → AreDistinct xs
distinct-from_map f [] a = tt
distinct-from_map f (x ∷ xs) a = (λ m. a.0 (in_map f x xs m), distinct-from_map f xs a.1)

distinct-pairs : (n : ℕ) (ps : List Package) → AreDistinct (map (λ (p : Package). p.id) ps)
    → AreDistinct (map place_of (map (package_row n) ps))
distinct-pairs n [] a = tt
distinct-pairs n (p ∷ ps) a = (
  λ m. (let row = from_map place_of (place_of (package_row n p)) (map (package_row n) ps) m in
      let found = from_map (package_row n) row.0 ps row.1 in
      let same : found.0.id ≡ p.id = ap (λ (q : PackageRow). q.id) found.2
      ∙ ap (λ (k : ℕ × List ℕ). k.1) row.2 in
      a.0 (subst (λ id. IsIn id (map (λ (p : Package). p.id) ps)) same
      (in_map (λ (p : Package). p.id) found.0 ps found.1))),
  distinct-pairs n ps a.1,
)

distinct-packages : (w : Readings) → HasOwnIds w → (h : List Command)
    → AreDistinct (map place_of (packages w h))
distinct-packages w own [] = tt
distinct-packages w own (Import bytes profile ∷ h) =
    let n = length (documents w h) + 1 in
    let new = map (package_row n) (packages_in (result_ok (w.document bytes))) in
    let apart : (k : ℕ × List ℕ) → IsIn k (map place_of (packages w h)) → IsIn k (map place_of
    new) → ⊥ =
    λ k a b. (let old = from_map place_of k (packages w h) a in
    let row = from_map place_of k new b in
    let found = from_map (package_row n) row.0 (packages_in (result_ok (w.document bytes))) row.1 in
    let here : n ≡ old.0.document = ap (λ (p : PackageRow). p.document) found.2
    ∙ ap (λ (k : ℕ × List ℕ). k.0) (row.2 ∙ sym old.2) in
    omega (arith, here, of_document w h old.0 old.1)) in
    subst AreDistinct (sym (map-append place_of (packages w h) new))
    (distinct-append (map place_of (packages w h)) (map place_of new) (distinct-packages w own h)
    (distinct-pairs n (packages_in (result_ok (w.document bytes)))
    (ids_of w own bytes (w.document bytes) refl)) apart)
distinct-packages w own (c ∷ h) = distinct-packages w own h

-- Attached documents: none is attached twice

pub attached_new : (found : Attaching) → IsTrue (is_recorded (attach_answer found))
    → found.is_attached ≡ false
attached_new found e =
    let one = past (unless (is_some found.state) why.UnknownRelease) _ e in
    let two = past (unless found.has_document why.UnknownDocument) _ one.1 in
    let three = past (option_and_then unready found.state) _ two.1 in
    let four = past (unless (not found.is_attached) why.AlreadyAttached) _ three.1 in
    not-true found.is_attached (is_so (not found.is_attached) why.AlreadyAttached four.0)

attachment_found : (row : AttachedRow) (rows : List AttachedRow) → IsIn row rows
    → list_any (is_attachment row.release row.document) rows ≡ true
attachment_found row [] m = absurd m
attachment_found row (x ∷ xs) m =
    elim m [
      | inl same ↦ subst (λ (z : AttachedRow). list_any (is_attachment row.release row.document)
          (z ∷ xs) ≡ true) (sym same) (rw (same_text row.release) (grind (arith, nat_tests)))
      | inr n ↦ rw (attachment_found row xs n)
          (elim (is_attachment row.release row.document x) as (λ b. (b || true) ≡ true)
          [ true ↦ refl | false ↦ refl ])
    ]

distinct-attached : (w : Readings) (h : List Command) → IsHistory w h → AreDistinct (attached h)
distinct-attached w [] ok = tt
distinct-attached w (Attach r d ∷ h) ok =
    let row : AttachedRow = record { release = r; document = d } in
    let none : list_any (is_attachment r d) (attached h) ≡ false =
    attached_new (attaching w h r d) ok.0 in
    distinct-put (below_by attached_order) row (attached h)
    (λ m. let some : list_any (is_attachment r d) (attached h) ≡ true =
    attachment_found row (attached h) m in cc) (distinct-attached w h ok.1)
distinct-attached w (c ∷ h) ok = distinct-attached w h ok.1

same_row : (x y : AttachedRow) → x.release ≡ y.release → x.document ≡ y.document → x ≡ y
same_row x y e f =
    let row : List ℕ → ℕ → AttachedRow = λ r d. record { release = r; document = d } in
    ap (λ (r : List ℕ). row r x.document) e ∙ ap (λ (d : ℕ). row y.release d) f

pub distinct-documents : (w : Readings) (h : List Command) (r : List ℕ) → IsHistory w h
    → AreDistinct (map (λ (row : AttachedRow). row.document) (attached_to (attached h) r))
distinct-documents w h r ok =
    let rows = attached_to (attached h) r in
    let release : (x : AttachedRow) → IsIn x rows → x.release ≡ r =
    λ x m. texts_equal x.release r (from_filter (is_attached_to r) x (attached h) m).1 in
    distinct-map (λ (row : AttachedRow). row.document) rows
    (λ x y m n e. same_row x y (release x m ∙ sym (release y n)) e)
    (distinct-from_map (λ (row : AttachedRow). row) rows
    (distinct-filter (λ (row : AttachedRow). row) (is_attached_to r) (attached h)
    (distinct-map (λ (row : AttachedRow). row) (attached h) (λ x y m n e. e)
    (distinct-attached w h ok))))

pub shipped_document : (d : ℕ) (p : PackageRow) → is_shipped_by d p ≡ true → p.document ≡ d
shipped_document d p e = let same : (p.document == d) ≡ true =
    and_left (p.document == d) p.shipped e in grind (arith, nat_tests)

pub distinct-shipped : (w : Readings) → HasOwnIds w → (h : List Command) (r : List ℕ)
    → IsHistory w h → AreDistinct (map place_of (shipped w h r))
distinct-shipped w own h r ok =
    distinct-flat_map (λ (row : AttachedRow). filter (is_shipped_by row.document) (packages w h))
    place_of (λ (k : ℕ × List ℕ). k.0) (λ (row : AttachedRow). row.document)
    (attached_to (attached h) r)
    (λ row p m. shipped_document row.document p
    (from_filter (is_shipped_by row.document) p (packages w h) m).1)
    (distinct-documents w h r ok)
    (λ row m. distinct-filter place_of (is_shipped_by row.document) (packages w h)
    (distinct-packages w own h))

-- Freezes: a release is frozen once

distinct-owed : (w : Readings) → ListsOnce w → (h : List Command) (r : List ℕ) → IsHistory w h
    → AreDistinct (map owed_key (owed_at w h r))
distinct-owed w once h r ok =
    let rules = rules_in (in_force w h) in
    let form = unwrap_or (form_of h r) [] in
    distinct-flat_map (λ (p : PackageRow). owed_for_terms w (adoptions w h) rules form r p
    (chosen_in w h r p)) owed_key package_of place_of (shipped w h r)
    (λ p d m. (key_for_terms w h r form p d m).1)
    (distinct-shipped w once.packages h r ok)
    (λ p m. distinct-terms w once h r form p)

pub owed_release : (w : Readings) (h : List Command) (r : List ℕ) (d : Owed)
    → IsIn d (owed_at w h r) → d.release ≡ r
owed_release w h r d m =
    let rules = rules_in (in_force w h) in
    let form = unwrap_or (form_of h r) [] in
    let p = from_flat_map (λ (p : PackageRow). owed_for_terms w (adoptions w h) rules form r p
    (chosen_in w h r p)) d (shipped w h r) m in
    (key_for_terms w h r form p.0 d p.2).0

closed_now : (r' r : List ℕ) (o : Option ReleaseState) → r' ≡ r
    → unwrap_or (or_else (if bytes_eq r' r then Some Frozen else None) o) IsOpen ≢ IsOpen
closed_now r' r o e = let same : bytes_eq r' r ≡ true =
    subst (λ n. bytes_eq r' n ≡ true) e (same_text r') in rw same (λ f. cc)

pub closed_still : (b : Bool) (s : ReleaseState) (o : Option ReleaseState) → s ≢ IsOpen
    → unwrap_or o IsOpen ≢ IsOpen
    → unwrap_or (or_else (if b then Some s else None) o) IsOpen ≢ IsOpen
closed_still true s o f e = f
closed_still false s o f e = e

-- the release of a duty that was raised is not open
pub raised_closed : (w : Readings) (h : List Command) (d : Owed) → IsIn d (raised w h)
    → state_of h d.release ≢ IsOpen
raised_closed w [] d m = absurd m
raised_closed w (Freeze r day ∷ h) d m =
    elim (in_cases d (raised w h) (owed_at w h r) m) [
      | inl l ↦ closed_still (bytes_eq r d.release) Frozen (latest (state_given d.release) h)
          (λ e. cc) (raised_closed w h d l)
      | inr n ↦ closed_now r d.release (latest (state_given d.release) h)
          (sym (owed_release w h r d n))
    ]
raised_closed w (Withdraw r day text ∷ h) d m = closed_still (bytes_eq r d.release) Withdrawn
    (latest (state_given d.release) h) (λ e. cc) (raised_closed w h d m)
raised_closed w (c ∷ h) d m = raised_closed w h d m

-- a freeze is recorded only for a release that is open
pub open_by : (s : ReleaseState) (form : Option (List ℕ))
    → option_map (λ (form : List ℕ). s) form ≡ Some IsOpen → s ≡ IsOpen
open_by s None e = cc
open_by s (Some form) e = cc

pub open_at : (w : Readings) (h : List Command) (r day : List ℕ)
    → IsTrue (is_recorded (answer w h (Freeze r day))) → state_of h r ≡ IsOpen
open_at w h r day e = open_by (state_of h r) (form_of h r) (frozen_open day (freezing w h r) e)

pub distinct-raised : (w : Readings) → ListsOnce w → (h : List Command) → IsHistory w h
    → AreDistinct (map owed_key (raised w h))
distinct-raised w once [] ok = tt
distinct-raised w once (Freeze r day ∷ h) ok =
    let here : state_of h r ≡ IsOpen = open_at w h r day ok.0 in
    let apart : (k : Key) → IsIn k (map owed_key (raised w h)) → IsIn k (map owed_key
    (owed_at w h r)) → ⊥ =
    λ k a b. (let old = from_map owed_key k (raised w h) a in
    let new = from_map owed_key k (owed_at w h r) b in
    let same : old.0.release ≡ r = ap (λ (k : Key). k.0) (old.2 ∙ sym new.2)
    ∙ owed_release w h r new.0 new.1 in
    subst (λ n. state_of h n ≢ IsOpen) same (raised_closed w h old.0 old.1) here) in
    subst AreDistinct (sym (map-append owed_key (raised w h) (owed_at w h r)))
    (distinct-append (map owed_key (raised w h)) (map owed_key (owed_at w h r))
    (distinct-raised w once h ok.1) (distinct-owed w once h r ok.1) apart)
distinct-raised w once (c ∷ h) ok = distinct-raised w once h ok.1

keys_of : (w : Readings) (h : List Command) (n : ℕ) (xs : List Owed)
    → map key_of (map (λ (d : ℕ × Owed). duty_row (place w h d.0) d) (enumerate_from n xs))
    ≡ map owed_key xs
keys_of w h n [] = refl
keys_of w h n (x ∷ xs) = ap (λ keys. owed_key x ∷ keys) (keys_of w h (n + 1) xs)

pub distinct-duties : (w : Readings) (h : List Command) → ListsOnce w → IsHistory w h
    → AreDistinct (map key_of (duties w h))
distinct-duties w h once ok = subst AreDistinct (sym (keys_of w h 1 (raised w h)))
    (distinct-raised w once h ok)
