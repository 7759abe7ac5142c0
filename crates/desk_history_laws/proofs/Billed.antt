-- What the bill of a frozen release lists, by its freeze.
use Rattle.std.proofs.Common.{◌≡◌, ◌≢◌, ℕ, ◌+◌, ◌<◌, Bool, true, false, List, [], ◌∷◌, ◌++◌, length}
use Rattle.std.proofs.Common.{map, Option, Some, None, sym, refl, ap, ◌∙◌, subst, arith}
use Rattle.std.proofs.Common.{length-append, append-nil, inl, inr}
use Rattle.std.specs.Prelude.{◌==◌, ◌&&◌, filter, find, if◌then◌else◌, unwrap_or}
use Rattle.std.specs.List.{cons_option, filter_map, flat_map}
use Rattle.std.specs.Option.{option_map, option_or}
use Rattle.std.specs.Str.{bytes_eq}
use Rattle.std.proofs.lemmas.Bool.Decides.{nat_tests}
use Rattle.std.proofs.lemmas.Cmp.{nat_list_cmp_total, nat_cmp_total, tied_itself}
use Rattle.std.proofs.lemmas.List.Elements.{filter-append}
use Rattle.std.proofs.lemmas.List.Folds.{find-append}
use Rattle.desk_base.proofs.Bools.{and_left, and_right}
use Rattle.desk_base.proofs.Numbers.{numbers_equal, same_number}
use Rattle.desk_base.proofs.Texts.{same_text, texts_equal}
use Rattle.desk_model.specs.Lists.{IsIn, in_order, latest, or_else, put}
use Rattle.desk_model.specs.Readings.{Readings}
use Rattle.desk_model.specs.Keys.{below_by, frozen_order, is_frozen_of, is_revision}
use Rattle.desk_model.specs.History.{choice, form_of, in_force, is_package_of, loaded, references}
use Rattle.desk_model.specs.History.{revision_of, revisions, rules_in, state_given, state_of}
use Rattle.desk_model.specs.History.{term_set, terms_given}
use Rattle.desk_model.specs.Conclusions.{adoptions}
use Rattle.desk_model.specs.Raised.{chosen_in, frozen, frozen_at, frozen_for_terms, frozen_term}
use Rattle.desk_model.specs.Raised.{frozen_under, rule_adopted, shipped}
use Rattle.desk_model.specs.Answers.{IsHistory}
use Rattle.desk_model.specs.Bills.{bill_answer, bill_line, bill_text, first_uses, package_texts}
use Rattle.desk_model.specs.Bills.{revision_text, texts_named}
use Rattle.desk_model.specs.Queries.{queried}
use Rattle.desk_model.specs.Texts.{text_below}
use Rattle.desk_model.specs.declared.bill.Bill.{Bill}
use Rattle.desk_model.specs.declared.bill.BillLine.{BillLine}
use Rattle.desk_model.specs.declared.bill.BillText.{BillText}
use Rattle.desk_model.specs.declared.bill.TextOf.{TextOf}
use Rattle.desk_model.specs.declared.command.Answer.TheVariants as answered
use Rattle.desk_model.specs.declared.command.Command.{Command}
use Rattle.desk_model.specs.declared.command.Command.TheVariants.{LoadCatalogue, Choose, Unchoose, Freeze, Withdraw}
use Rattle.desk_model.specs.declared.command.Query.TheVariants as query
use Rattle.desk_model.specs.declared.reading.Rule.{Rule}
use Rattle.desk_model.specs.declared.row.CatalogueRow.{CatalogueRow}
use Rattle.desk_model.specs.declared.row.FrozenRow.{FrozenRow}
use Rattle.desk_model.specs.declared.row.PackageRow.{PackageRow}
use Rattle.desk_model.specs.declared.state.ReleaseState.{ReleaseState}
use Rattle.desk_model.specs.declared.state.ReleaseState.TheVariants.{IsOpen, Frozen, Withdrawn}
use Rattle.desk_model.specs.declared.refusal.Refusal.TheVariants as why
use Rattle.desk_history.specs.Laws.{AreDistinct, Rises}
use Rattle.desk_history.proofs.Members.{from_flat_map, in_map}
use Rattle.desk_history.proofs.Orders.{filter-in_order}
use Rattle.desk_history.proofs.OwnKeys.{distinct-shipped, open_at, place_of}
use Rattle.desk_history.proofs.Sorting.{frozen_is_order}
use Rattle.desk_history.proofs.Minimal.{history_before}
use Rattle.desk_history_laws.specs.Billed.{bill_for, line_for, ListsPackagesOnce, spelled_for, texts_for}
use Rattle.desk_history_laws.specs.Filters.{last_given}
use Rattle.desk_history_laws.proofs.Bills.{bill_at, bill_stands, find_kept, flat_map_within}
use Rattle.desk_history_laws.proofs.Bills.{freeze_known, line_with, map_within, none_for_terms}
use Rattle.desk_history_laws.proofs.Bills.{none_frozen, none_made, rows_texts, terms_at}
use Rattle.desk_history_laws.proofs.FrozenChoices.{ruled}
use Rattle.desk_history_laws.proofs.Given.{latest-last}
use Rattle.desk_history_laws.proofs.Sets.{set_rises}

-- ---- the catalogue in force is the last revision

-- what isn't found among the first elements is sought among the others
pub find_behind : {A : Type 0} (test : A → Bool) (xs ys : List A) → find test xs ≡ None
    → find test (xs ++ ys) ≡ find test ys
find_behind test xs ys none = find-append test xs ys ∙ ap (λ o. option_or o (find test ys)) none

differs : (n m : ℕ) → n < m → (n == m) ≡ false
differs n m lt = grind (arith, nat_tests)

-- no revision has a higher number than there are revisions
pub no_revision : (h : List Command) (n : ℕ) → length (revisions h) < n
    → find (is_revision n) (revisions h) ≡ None
no_revision [] n lt = refl
no_revision (LoadCatalogue text ∷ h) n lt =
    let new : CatalogueRow = record { revision = length (revisions h) + 1; body = text } in
    let more : length (revisions h) + 1 < n =
    omega (arith, length-append (revisions h) (new ∷ [])) in
    find_kept (is_revision n) (revisions h) (new ∷ [])
    (rw (differs (length (revisions h) + 1) n more) refl)
    ∙ no_revision h n (omega arith)
no_revision (c ∷ h) n lt = no_revision h n lt

loaded_now : (text : List ℕ) (rows : List CatalogueRow) (n : ℕ) → n ≡ length rows + 1
    → find (is_revision n) rows ≡ None
    → revision_text (rows ++ record { revision = length rows + 1; body = text } ∷ []) n ≡ Some text
loaded_now text rows n e none =
    let new : CatalogueRow = record { revision = length rows + 1; body = text } in
    let here : (length rows + 1 == n) ≡ true = grind (arith, nat_tests) in
    let found : find (is_revision n) (new ∷ []) ≡ Some new = rw here refl in
    ap (option_map (λ (row : CatalogueRow). row.body))
    (find_behind (is_revision n) rows (new ∷ []) none ∙ found)

last_text : (h : List Command)
    → revision_text (revisions h) (length (revisions h)) ≡ latest loaded h
last_text [] = refl
last_text (LoadCatalogue text ∷ h) =
    let new : CatalogueRow = record { revision = length (revisions h) + 1; body = text } in
    let n = length (revisions h ++ new ∷ []) in
    let more : n ≡ length (revisions h) + 1 =
    omega (arith, length-append (revisions h) (new ∷ [])) in
    loaded_now text (revisions h) n more (no_revision h n (omega arith))
last_text (c ∷ h) = last_text h

-- ---- the frozen terms of a package

-- sorted rows stay as they are when they are put in order
put_first : {A : Type 0} (below : A → A → Bool) (x : A) (ys : List A)
    → ((y : A) → IsIn y ys → below x y ≡ true)
    → put below x ys ≡ x ∷ ys
put_first below x [] all = refl
put_first below x (y ∷ ys) all = rw (all y (inl refl)) refl

pub in_order-rises : {A : Type 0} (below : A → A → Bool) (xs : List A) → Rises below xs
    → in_order below xs ≡ xs
in_order-rises below [] up = refl
in_order-rises below (x ∷ xs) up = rw (in_order-rises below xs up.1) (put_first below x xs up.0)

given_rises : (b : Bool) (terms : List (List ℕ)) (o : Option (List (List ℕ)))
    → Rises text_below terms
    → Rises text_below (unwrap_or o [])
    → Rises text_below (unwrap_or (or_else (if b then Some terms else None) o) [])
given_rises true terms o up rest = up
given_rises false terms o up rest = rest

choice_rises : (w : Readings) (h : List Command) (r : List ℕ) (d : ℕ) (p : List ℕ)
    → Rises text_below (choice w h r d p)
choice_rises w [] r d p = tt
choice_rises w (Choose r' d' p' texts ∷ h) r d p =
    given_rises (is_package_of r d p r' d' p') (term_set w texts) (latest (terms_given w r d p) h)
    (set_rises (filter_map w.term texts))
    (choice_rises w h r d p)
choice_rises w (Unchoose r' d' p' ∷ h) r d p =
    given_rises (is_package_of r d p r' d' p') [] (latest (terms_given w r d p) h) tt
    (choice_rises w h r d p)
choice_rises w (Withdraw r' day text ∷ h) r d p =
    given_rises (bytes_eq r' r) [] (latest (terms_given w r d p) h) tt (choice_rises w h r d p)
choice_rises w (c ∷ h) r d p = choice_rises w h r d p

row_order : (r a b : List ℕ) (p : PackageRow) (rule other : Rule)
    → below_by frozen_order (frozen_term r p a rule) (frozen_term r p b other) ≡ text_below a b
row_order r a b p rule other =
    rw (
      tied_itself nat_list_cmp_total r,
      tied_itself nat_cmp_total p.document,
      tied_itself nat_list_cmp_total p.id,
    ) refl

from_under : (r : List ℕ) (p : PackageRow) (term : List ℕ) (o : Option Rule) (row : FrozenRow)
    → IsIn row (frozen_under r p term o) → (rule : Rule) × (frozen_term r p term rule ≡ row)
from_under r p term None row m = absurd m
from_under r p term (Some rule) row (inl same) = (rule, same)
from_under r p term (Some rule) row (inr m) = absurd m

abbrev rows_for : Readings → List Command → List ℕ → PackageRow → List (List ℕ) → List FrozenRow
rows_for w h r p terms = frozen_for_terms w (adoptions w h) (rules_in (in_force w h))
    (unwrap_or (form_of h r) []) r p terms

abbrev rule_at : Readings → List Command → List ℕ → PackageRow → List ℕ → Option Rule
rule_at w h r p term = rule_adopted w (adoptions w h) (rules_in (in_force w h))
    (unwrap_or (form_of h r) []) p.document term

rows_rise_by : (w : Readings) (h : List Command) (r : List ℕ) (p : PackageRow) (term : List ℕ)
    (terms : List (List ℕ)) (o : Option Rule)
    → ((t : List ℕ) → IsIn t terms → text_below term t ≡ true)
    → Rises (below_by frozen_order) (rows_for w h r p terms)
    → Rises (below_by frozen_order) (frozen_under r p term o ++ rows_for w h r p terms)
rows_rise_by w h r p term terms None up rest = rest
rows_rise_by w h r p term terms (Some rule) up rest = (
  λ row m. (let at = from_flat_map (λ (t : List ℕ). frozen_under r p t (rule_at w h r p t)) row
      terms m in
      let is = from_under r p at.0 (rule_at w h r p at.0) row at.2 in
      subst (λ (z : FrozenRow). below_by frozen_order (frozen_term r p term rule) z ≡ true) is.1
      (row_order r term at.0 p rule is.0 ∙ up at.0 at.1)),
  rest,
)

rows_rise : (w : Readings) (h : List Command) (r : List ℕ) (p : PackageRow) (terms : List (List ℕ))
    → Rises text_below terms
    → Rises (below_by frozen_order) (rows_for w h r p terms)
rows_rise w h r p [] up = tt
rows_rise w h r p (t ∷ ts) up = rows_rise_by w h r p t ts (rule_at w h r p t) up.0
    (rows_rise w h r p ts up.1)

-- those of a package among those of all
own_under : (test : FrozenRow → Bool) (r : List ℕ) (p : PackageRow) (term : List ℕ)
    (o : Option Rule)
    → ((rule : Rule) → test (frozen_term r p term rule) ≡ true)
    → filter test (frozen_under r p term o) ≡ frozen_under r p term o
own_under test r p term None all = refl
own_under test r p term (Some rule) all = rw (all rule) refl

own_all : (w : Readings) (h : List Command) (r : List ℕ) (p : PackageRow) (terms : List (List ℕ))
    → filter (is_frozen_of r p.document p.id) (rows_for w h r p terms) ≡ rows_for w h r p terms
own_all w h r p [] = refl
own_all w h r p (t ∷ ts) =
    let test = is_frozen_of r p.document p.id in
    let here = own_under test r p t (rule_at w h r p t)
    (λ rule. rw (same_text r, same_number p.document, same_text p.id) refl) in
    filter-append test (frozen_under r p t (rule_at w h r p t)) (rows_for w h r p ts)
    ∙ rw (here, own_all w h r p ts) refl

same_place : (p q : PackageRow) → q.document ≡ p.document → q.id ≡ p.id → place_of q ≡ place_of p
same_place p q e f =
    let pair : ℕ → List ℕ → ℕ × List ℕ = λ n id. (n, id) in
    ap (λ n. pair n q.id) e ∙ ap (λ id. pair p.document id) f

elsewhere : (r : List ℕ) (p q : PackageRow) (b : Bool) → place_of q ≢ place_of p
    → (bytes_eq r r && (q.document == p.document) && bytes_eq q.id p.id) ≡ b → b ≡ false
elsewhere r p q false differ e = refl
elsewhere r p q true differ e =
    let front = and_left (bytes_eq r r && (q.document == p.document)) (bytes_eq q.id p.id) e in
    absurd (differ (same_place p q
    (numbers_equal q.document p.document
    (and_right (bytes_eq r r) (q.document == p.document) front))
    (texts_equal q.id p.id (and_right (bytes_eq r r && (q.document == p.document))
    (bytes_eq q.id p.id) e))))

own_none : (w : Readings) (h : List Command) (r : List ℕ) (p q : PackageRow) (terms : List (List ℕ))
    → place_of q ≢ place_of p
    → filter (is_frozen_of r p.document p.id) (rows_for w h r q terms) ≡ []
own_none w h r p q terms differ =
    none_for_terms w (adoptions w h) (rules_in (in_force w h)) (unwrap_or (form_of h r) []) r q
    (is_frozen_of r p.document p.id) terms (λ term rule.
    elsewhere r p q (is_frozen_of r p.document p.id (frozen_term r q term rule)) differ refl)

own_rows : {B : Type 0} (test : B → Bool) (f : PackageRow → List B) (p : PackageRow)
    (ps : List PackageRow)
    → ((q : PackageRow) → place_of q ≢ place_of p → filter test (f q) ≡ [])
    → filter test (f p) ≡ f p → AreDistinct (map place_of ps) → IsIn p ps
    → filter test (flat_map f ps) ≡ f p
own_rows test f p [] none all apart m = absurd m
own_rows test f p (q ∷ qs) none all apart (inl same) =
    let here : filter test (f q) ≡ f p =
    subst (λ (x : PackageRow). filter test (f x) ≡ f p) (sym same) all in
    let others : filter test (flat_map f qs) ≡ [] = none_made test f qs (λ x m.
    none x (λ e. apart.0 (subst (λ k. IsIn k (map place_of qs)) (e ∙ ap place_of (sym same))
    (in_map place_of x qs m)))) in
    filter-append test (f q) (flat_map f qs) ∙ rw (here, others) (append-nil (f p))
own_rows test f p (q ∷ qs) none all apart (inr m) =
    let here : filter test (f q) ≡ [] =
    none q (λ e. apart.0 (subst (λ k. IsIn k (map place_of qs)) (sym e)
    (in_map place_of p qs m))) in
    filter-append test (f q) (flat_map f qs) ∙ rw here (own_rows test f p qs none all apart.1 m)

-- a release that is open was never frozen
open_before : (b : Bool) (s : ReleaseState) (o : Option ReleaseState) → s ≢ IsOpen
    → unwrap_or (or_else (if b then Some s else None) o) IsOpen ≡ IsOpen
    → (b ≡ false) × (unwrap_or o IsOpen ≡ IsOpen)
open_before true s o other e = absurd (other e)
open_before false s o other e = (refl, e)

none_before : (w : Readings) (h : List Command) (r : List ℕ) (d : ℕ) (p : List ℕ)
    → state_of h r ≡ IsOpen
    → filter (is_frozen_of r d p) (frozen w h) ≡ []
none_before w [] r d p e = refl
none_before w (Freeze r' day ∷ h) r d p e =
    let before = open_before (bytes_eq r' r) Frozen (latest (state_given r) h) (λ f. cc) e in
    filter-append (is_frozen_of r d p) (frozen_at w h r') (frozen w h)
    ∙ rw (none_frozen w h r r' p d before.0) (none_before w h r d p before.1)
none_before w (Withdraw r' day text ∷ h) r d p e =
    none_before w h r d p (open_before (bytes_eq r' r) Withdrawn (latest (state_given r) h)
    (λ f. cc) e).1
none_before w (c ∷ h) r d p e = none_before w h r d p e

-- at the freeze they are those for the terms that are chosen for it
terms_frozen : (w : Readings) (h : List Command) (r day : List ℕ) (p : PackageRow)
    → ListsPackagesOnce w → IsHistory w h
    → state_of h r ≡ IsOpen → IsIn p (shipped w h r)
    → terms_at w (Freeze r day ∷ h) r p ≡ rows_for w h r p (choice w h r p.document p.id)
terms_frozen w h r day p once ok opened m =
    let below = below_by frozen_order in
    let test = is_frozen_of r p.document p.id in
    let terms = choice w h r p.document p.id in
    let of_package = λ (q : PackageRow). rows_for w h r q (chosen_in w h r q) in
    let own : filter test (frozen_at w h r) ≡ rows_for w h r p terms =
    own_rows test of_package p (shipped w h r)
    (λ q differ. own_none w h r p q (chosen_in w h r q) differ) (own_all w h r p terms)
    (distinct-shipped w once h r ok) m in
    let all : filter test (frozen_at w h r ++ frozen w h) ≡ rows_for w h r p terms =
    filter-append test (frozen_at w h r) (frozen w h)
    ∙ rw (own, none_before w h r p.document p.id opened) (append-nil (rows_for w h r p terms)) in
    filter-in_order below frozen_is_order test (frozen_at w h r ++ frozen w h)
    ∙ (ap (in_order below) all
    ∙ in_order-rises below (rows_for w h r p terms)
    (rows_rise w h r p terms (choice_rises w h r p.document p.id)))

-- ---- the lines and the texts

abbrev rules_of : List FrozenRow → List (List ℕ)
rules_of rows = map (λ (row : FrozenRow). row.rule) rows

spelled_by : (r : List ℕ) (p : PackageRow) (term : List ℕ) (o : Option Rule) (rows : List FrozenRow)
    (rules : List (List ℕ)) → rules_of rows ≡ rules
    → rules_of (frozen_under r p term o ++ rows)
    ≡ cons_option (option_map (λ (rule : Rule). rule.spelled) o) rules
spelled_by r p term None rows rules rest = rest
spelled_by r p term (Some rule) rows rules rest = ap (λ spelled. rule.spelled ∷ spelled) rest

spelled_rules : (w : Readings) (h : List Command) (r : List ℕ) (p : PackageRow)
    (terms : List (List ℕ))
    → rules_of (rows_for w h r p terms) ≡ filter_map (spelled_for w h r p) terms
spelled_rules w h r p [] = refl
spelled_rules w h r p (t ∷ ts) =
    spelled_by r p t (rule_at w h r p t) (rows_for w h r p ts) (filter_map (spelled_for w h r p) ts)
    (spelled_rules w h r p ts)

named_by : (w : Readings) (r : List ℕ) (p : PackageRow) (term : List ℕ) (o : Option Rule)
    (rows : List FrozenRow) (texts : List TextOf)
    → (rule : Rule) × (o ≡ Some rule) → rows_texts w rows ≡ texts
    → rows_texts w (frozen_under r p term o ++ rows) ≡ texts_named w p.document term ++ texts
named_by w r p term None rows texts is rest = let no : None ≡ Some is.0 = is.1 in cc
named_by w r p term (Some rule) rows texts is rest = ap (λ named. texts_named w p.document term
    ++ named) rest

named_texts : (w : Readings) (h : List Command) (r : List ℕ) (p : PackageRow)
    (terms : List (List ℕ))
    → ((t : List ℕ) → IsIn t terms → (rule : Rule) × (rule_at w h r p t ≡ Some rule))
    → rows_texts w (rows_for w h r p terms) ≡ flat_map (texts_named w p.document) terms
named_texts w h r p [] has = refl
named_texts w h r p (t ∷ ts) has =
    named_by w r p t (rule_at w h r p t) (rows_for w h r p ts)
    (flat_map (texts_named w p.document) ts) (has t (inl refl))
    (named_texts w h r p ts (λ u m. has u (inr m)))

abbrev with_lines : Readings → List Command → List ℕ → List BillLine → List BillText → Bill
with_lines w h r lines texts = record {
  release = r;
  form = unwrap_or (form_of h r) [];
  lines = lines;
  texts = texts;
}

bill_made : (w : Readings) (h : List Command) (r day : List ℕ) → ListsPackagesOnce w
    → IsHistory w (Freeze r day ∷ h)
    → bill_at w (Freeze r day ∷ h) r ≡ bill_for w h r
bill_made w h r day once ok =
    let opened = open_at w h r day ok.0 in
    let rows = in_order (below_by frozen_order) (frozen w (Freeze r day ∷ h)) in
    let ps = shipped w h r in
    let terms = λ (p : PackageRow) (m : IsIn p ps). terms_frozen w h r day p once ok.1 opened m in
    let lines : map (bill_line rows r) ps ≡ map (line_for w h r) ps =
    map_within (bill_line rows r) (line_for w h r) ps (λ p m.
    ap (line_with p) (ap rules_of (terms p m)
    ∙ spelled_rules w h r p (choice w h r p.document p.id))) in
    let texts : flat_map (package_texts w rows r) ps ≡ flat_map (texts_for w h r) ps =
    flat_map_within (package_texts w rows r) (texts_for w h r) ps (λ p m.
    ap (rows_texts w) (terms p m)
    ∙ named_texts w h r p (choice w h r p.document p.id)
    (λ t chosen. ruled w h r day p t ok.0 m chosen)) in
    let frozen_by = revision_text (revisions h) (revision_of (Freeze r day ∷ h) r) in
    let text : frozen_by ≡ last_given loaded h =
    ap (λ b. revision_text (revisions h) (if b then length (revisions h) else revision_of h r))
    (same_text r)
    ∙ (last_text h ∙ latest-last loaded h) in
    let with_texts = λ (body : Option (List ℕ)) (named : List TextOf). map
    (bill_text w body (references w h)) (first_uses named) in
    ap (λ made. with_lines w h r made (with_texts frozen_by (flat_map (package_texts w rows r) ps)))
    lines
    ∙ ap (with_lines w h r (map (line_for w h r) ps))
    (ap (λ body. with_texts body (flat_map (package_texts w rows r) ps)) text
    ∙ ap (with_texts (last_given loaded h)) texts)

pub bill_lists : (w : Readings) (later before : List Command) (r day : List ℕ) → ListsPackagesOnce w
    → IsHistory w (later ++ Freeze r day ∷ before)
    → state_of (later ++ Freeze r day ∷ before) r ≡ Frozen
    → queried w (later ++ Freeze r day ∷ before) (query.Bill r)
    ≡ answered.Bill (bill_for w before r)
bill_lists w later before r day once ok still =
    let h = Freeze r day ∷ before in
    let own : IsHistory w h = history_before w later h ok in
    let now : state_of h r ≡ Frozen = rw (same_text r) refl in
    bill_stands w later h r ok now still
    ∙ (ap (λ b. if b then bill_answer (bill_at w h r) (state_of h r)
    else answered.Refused why.UnknownRelease)
    (freeze_known w before r day own.0)
    ∙ (ap (bill_answer (bill_at w h r)) now
    ∙ ap answered.Bill (bill_made w before r day once own)))
