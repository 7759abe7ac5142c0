-- What a freeze raises is sorted by document, package, term and code.
use Rattle.std.proofs.Common.{◌≡◌, ◌≢◌, ℕ, ◌+◌, Bool, true, false, cond, List, [], ◌∷◌, ◌++◌}
use Rattle.std.proofs.Common.{length, Option, Some, None, sym, refl, ap, ◌∙◌, subst, arith}
use Rattle.std.specs.Prelude.{filter, nat_lt, not, ◌||◌, ◌==◌, unwrap_or, Result, Ok, Err}
use Rattle.std.specs.List.{enumerate_from, filter_map}
use Rattle.std.specs.Option.{option_and_then}
use Rattle.std.specs.Result.{result_ok}
use Rattle.std.specs.Str.{bytes_eq}
use Rattle.std.specs.Ordering.{is_lt, nat_cmp, ordering_then}
use Rattle.std.specs.Cmp.Lexicographic.{slice_cmp}
use Rattle.std.specs.declared.cmp.Ordering.{Ordering}
use Rattle.std.specs.declared.cmp.Ordering.TheVariants.{Less, Equal, Greater}
use Rattle.std.proofs.lemmas.Cmp.{nat_cmp_total, nat_list_cmp_total, on_total, then_total, tied_itself}
use Rattle.std.proofs.lemmas.Bool.Decides.{nat_tests}
use Rattle.std.proofs.lemmas.Bool.{or_right}
use Rattle.desk_model.specs.Lists.{IsIn, latest}
use Rattle.desk_model.specs.Texts.{text_below}
use Rattle.desk_model.specs.Readings.{Readings}
use Rattle.desk_model.specs.Keys.{below_by, attached_order, is_attached_to, is_shipped_by, package_order}
use Rattle.desk_model.specs.History.{attached, attached_to, attachment, form_of, in_force, loaded}
use Rattle.desk_model.specs.History.{packages, rules_in, state_of}
use Rattle.desk_model.specs.Conclusions.{adopted, adoptions}
use Rattle.desk_model.specs.Raised.{raised, owed_at, owed_for_terms, owed_under, owed_code}
use Rattle.desk_model.specs.Raised.{rule_adopted, shipped, chosen_in, numbered}
use Rattle.desk_model.specs.Moves.{duties, duty_row, place}
use Rattle.desk_model.specs.Answers.{IsHistory}
use Rattle.desk_history.specs.Laws.{AreNumberedInOrder, Ascends, IsCounted, IsNumbered}
use Rattle.desk_history.specs.Laws.{ListsInOrder, Rises, duty_order, owed_order}
use Rattle.desk_history.proofs.Orders.{under, attached_is_order, filter-in_order}
use Rattle.desk_history.proofs.Chosen.{rises, rises-choice}
use Rattle.desk_history.proofs.Distinct.{from_filter}
use Rattle.desk_history.proofs.Listed.{rising_packages}
use Rattle.desk_history.proofs.Members.{from_map}
use Rattle.desk_history.proofs.Minimal.{history_before}
use Rattle.desk_history.proofs.Numbers.{numbered_in}
use Rattle.desk_history.proofs.OwnKeys.{under_all, rule_in, owed_key, key_under, place_of}
use Rattle.desk_history.proofs.OwnKeys.{package_of, key_for_terms, distinct-documents}
use Rattle.desk_history.proofs.OwnKeys.{shipped_document, owed_release, raised_closed, open_at}
use Rattle.desk_history.proofs.Rising.{first_less, rest_less, rises-append, rises-apart, rises-by}
use Rattle.desk_history.proofs.Rising.{rises-filter, rises-flat_map, rises-map, in_numbered}
use Rattle.desk_history.proofs.Rising.{smaller_first, counted}
use Rattle.desk_history.proofs.Sorting.{ordered}
use Rattle.desk_model.specs.declared.reading.Catalogue.{Catalogue}
use Rattle.desk_model.specs.declared.reading.Rule.{Rule}
use Rattle.desk_model.specs.declared.refusal.CatalogueFault.{CatalogueFault}
use Rattle.desk_model.specs.declared.row.AttachedRow.{AttachedRow}
use Rattle.desk_model.specs.declared.row.DutyRow.{DutyRow}
use Rattle.desk_model.specs.declared.row.Owed.{Owed}
use Rattle.desk_model.specs.declared.row.PackageRow.{PackageRow}
use Rattle.desk_model.specs.declared.command.Command.{Command}
use Rattle.desk_model.specs.declared.command.Command.TheVariants.{Freeze}
use Rattle.desk_model.proofs.Orders.{IsOrder, order_of, less_by}
use Rattle.desk_base.proofs.Bools.{and_left, and_right}
use Rattle.desk_base.proofs.Texts.{same_text, texts_equal}

-- ---- the order of what is owed

by_term : (u v : Owed) → u.document ≡ v.document → u.package_id ≡ v.package_id
    → text_below u.term v.term ≡ true → below_by owed_order u v ≡ true
by_term u v e f below =
    let codes = slice_cmp nat_cmp u.code v.code in
    let terms = ordering_then (slice_cmp nat_cmp u.term v.term) codes in
    rest_less (nat_cmp u.document v.document)
    (ordering_then (slice_cmp nat_cmp u.package_id v.package_id) terms)
    (ap (λ n. nat_cmp n v.document) e ∙ tied_itself nat_cmp_total v.document)
    (rest_less (slice_cmp nat_cmp u.package_id v.package_id) terms
    (ap (λ id. slice_cmp nat_cmp id v.package_id) f ∙ tied_itself nat_list_cmp_total v.package_id)
    (first_less (slice_cmp nat_cmp u.term v.term) codes
    (less_by (slice_cmp nat_cmp u.term v.term) below)))

by_code : (r : List ℕ) (p : PackageRow) (term : List ℕ) (rule : Rule) (a b : List ℕ)
    → text_below a b ≡ true → below_by owed_order (owed_code r p term rule a)
    (owed_code r p term rule b) ≡ true
by_code r p term rule a b e = rw (
  tied_itself nat_cmp_total p.document,
  tied_itself nat_list_cmp_total p.id,
  tied_itself nat_list_cmp_total term,
) e

two_parts : (o p q : Ordering) → is_lt (ordering_then o p) ≡ true
    → is_lt (ordering_then o (ordering_then p q)) ≡ true
two_parts Less p q e = refl
two_parts Equal p q e = first_less p q (less_by p e)
two_parts Greater p q e = cc

by_package : (p q : PackageRow) (u v : Owed) → below_by package_order p q ≡ true
    → package_of (owed_key u) ≡ place_of p → package_of (owed_key v) ≡ place_of q
    → below_by owed_order u v ≡ true
by_package p q u v below e f =
    let rest = ordering_then (slice_cmp nat_cmp u.term v.term) (slice_cmp nat_cmp u.code v.code) in
    let pair : ℕ × List ℕ → ℕ × List ℕ → Bool =
    λ a b. is_lt (ordering_then (nat_cmp a.0 b.0)
    (ordering_then (slice_cmp nat_cmp a.1 b.1) rest)) in
    (ap (λ k. pair k (package_of (owed_key v))) e ∙ ap (pair (place_of p)) f)
    ∙ two_parts (nat_cmp p.document q.document) (slice_cmp nat_cmp p.id q.id) rest below

pub owed_is_order : IsOrder (below_by owed_order)
owed_is_order =
    order_of (then_total (on_total (λ owed. owed.document) nat_cmp_total)
    (then_total (on_total (λ owed. owed.package_id) nat_list_cmp_total)
    (then_total (on_total (λ owed. owed.term) nat_list_cmp_total)
    (on_total (λ owed. owed.code) nat_list_cmp_total))))

-- ---- codes, terms and packages are sorted

codes_of : (w : Readings) → ListsInOrder w
    → (text : List ℕ) (rule : Rule) (read : Result Catalogue CatalogueFault)
    → w.catalogue text ≡ read → IsIn rule (rules_in (result_ok read)) → Rises text_below rule.codes
codes_of w lists text rule (Ok catalogue) e m = lists.codes text catalogue rule e m
codes_of w lists text rule (Err fault) e m = absurd m

codes_in : (w : Readings) → ListsInOrder w → (rule : Rule) (o : Option (List ℕ))
    → IsIn rule (rules_in (option_and_then (λ text. result_ok (w.catalogue text)) o))
    → Rises text_below rule.codes
codes_in w lists rule None m = absurd m
codes_in w lists rule (Some text) m = codes_of w lists text rule (w.catalogue text) refl m

rising_under : (w : Readings) → ListsInOrder w
    → (h : List Command) (r : List ℕ) (p : PackageRow) (term form : List ℕ) (o : Option Rule)
    → rule_adopted w (adoptions w h) (rules_in (in_force w h)) form p.document term ≡ o
    → Rises (below_by owed_order) (owed_under r p term o)
rising_under w lists h r p term form None e = tt
rising_under w lists h r p term form (Some rule) e =
    rises-map (owed_code r p term rule) text_below (below_by owed_order) (by_code r p term rule)
    rule.codes
    (codes_in w lists rule (latest loaded h)
    (rule_in (rules_in (in_force w h)) form rule (adopted w (adoptions w h) p.document term) e))

rising_texts : (xs : List (List ℕ)) → rises xs ≡ true → Rises text_below xs
rising_texts [] up = tt
rising_texts (x ∷ xs) up = (
  λ y m. under_all x y xs (and_left (under text_below x xs) (rises xs) up) m,
  rising_texts xs (and_right (under text_below x xs) (rises xs) up),
)

rising_terms : (w : Readings) → ListsInOrder w
    → (h : List Command) (r form : List ℕ) (p : PackageRow)
    → Rises (below_by owed_order)
    (owed_for_terms w (adoptions w h) (rules_in (in_force w h)) form r p (chosen_in w h r p))
rising_terms w lists h r form p =
    let rule : List ℕ → Option Rule =
    λ term. rule_adopted w (adoptions w h) (rules_in (in_force w h)) form p.document term in
    rises-flat_map (λ (term : List ℕ). owed_under r p term (rule term)) text_below
    (below_by owed_order) (chosen_in w h r p)
    (rising_texts (chosen_in w h r p) (rises-choice w h r p.document p.id))
    (λ term m. rising_under w lists h r p term form (rule term) refl)
    (λ s t u v e m n.
    let a = key_under r p s (rule s) u m in
    let b = key_under r p t (rule t) v n in
    by_term u v (a.1 ∙ sym b.1) (a.2 ∙ sym b.2)
    (ap (λ x. text_below x v.term) a.3 ∙ (ap (λ x. text_below s x) b.3 ∙ e)))

abbrev earlier : AttachedRow → AttachedRow → Bool
earlier a b = nat_lt a.document b.document

above : (a b : ℕ) (c : Bool) → nat_lt b a ≡ c
    → is_lt (cond c Less (cond (b == a) Equal Greater)) ≡ false → a ≢ b → nat_lt a b ≡ true
above a b true e f n = cc
above a b false e f n = grind (arith, nat_tests)

rest_is : (o p : Ordering) → o ≡ Equal → is_lt (ordering_then o p) ≡ is_lt p
rest_is o p e = rw e refl

behind : (x y : AttachedRow) → y.release ≡ x.release → below_by attached_order y x ≡ false
    → x.document ≢ y.document → earlier x y ≡ true
behind x y e f n =
    above x.document y.document (nat_lt y.document x.document) refl
    (sym (rest_is (slice_cmp nat_cmp y.release x.release) (nat_cmp y.document x.document)
    (ap (λ r. slice_cmp nat_cmp r x.release) e ∙ tied_itself nat_list_cmp_total x.release)) ∙ f) n

rising_attached : (w : Readings) (h : List Command) (r : List ℕ) → IsHistory w h
    → Rises earlier (attached_to (attached h) r)
rising_attached w h r ok =
    let rows = attached_to (attached h) r in
    let release : (x : AttachedRow) → IsIn x rows → x.release ≡ r =
    λ x m. texts_equal x.release r (from_filter (is_attached_to r) x (attached h) m).1 in
    let up : Ascends (below_by attached_order) rows =
    subst (Ascends (below_by attached_order))
    (sym (filter-in_order (below_by attached_order) attached_is_order (is_attached_to r)
    (filter_map attachment h)))
    (ordered (below_by attached_order) attached_is_order
    (filter (is_attached_to r) (filter_map attachment h))) in
    rises-apart (below_by attached_order) earlier (λ (row : AttachedRow). row.document) rows up
    (distinct-documents w h r ok)
    (λ x y m n e apart. behind x y (release y n ∙ sym (release x m)) e apart)

rising_shipped : (w : Readings) → ListsInOrder w → (h : List Command) (r : List ℕ) → IsHistory w h
    → Rises (below_by package_order) (shipped w h r)
rising_shipped w lists h r ok =
    rises-flat_map (λ (row : AttachedRow). filter (is_shipped_by row.document) (packages w h))
    earlier (below_by package_order) (attached_to (attached h) r)
    (rising_attached w h r ok)
    (λ row m. rises-filter (below_by package_order) (is_shipped_by row.document) (packages w h)
    (rising_packages w lists h))
    (λ a b p q e m n.
    let here : p.document ≡ a.document =
    shipped_document a.document p (from_filter (is_shipped_by a.document) p (packages w h) m).1 in
    let there : q.document ≡ b.document =
    shipped_document b.document q (from_filter (is_shipped_by b.document) q (packages w h) n).1 in
    let less : nat_cmp a.document b.document ≡ Less = rw e refl in
    first_less (nat_cmp p.document q.document) (slice_cmp nat_cmp p.id q.id)
    (ap (λ d. nat_cmp d q.document) here ∙ (ap (λ d. nat_cmp a.document d) there ∙ less)))

-- what a freeze raises
pub rising_owed : (w : Readings) (h : List Command) (r : List ℕ) → ListsInOrder w → IsHistory w h
    → Rises (below_by owed_order) (owed_at w h r)
rising_owed w h r lists ok =
    let form = unwrap_or (form_of h r) [] in
    rises-flat_map (λ (p : PackageRow). owed_for_terms w (adoptions w h) (rules_in (in_force w h))
    form r p (chosen_in w h r p)) (below_by package_order) (below_by owed_order) (shipped w h r)
    (rising_shipped w lists h r ok)
    (λ p m. rising_terms w lists h r form p)
    (λ p q u v e m n. by_package p q u v e (key_for_terms w h r form p u m).1
    (key_for_terms w h r form q v n).1)

-- ---- the duties of one release

abbrev apart_or_before : Owed → Owed → Bool
apart_or_before a b = not (bytes_eq a.release b.release) || below_by owed_order a b

apart_by : (a b : Owed) (c : Bool) → bytes_eq a.release b.release ≡ c → a.release ≢ b.release
    → (not c || below_by owed_order a b) ≡ true
apart_by a b true e n = absurd (n (texts_equal a.release b.release e))
apart_by a b false e n = refl

rising_raised : (w : Readings) → ListsInOrder w → (h : List Command) → IsHistory w h
    → Rises apart_or_before (raised w h)
rising_raised w lists [] ok = tt
rising_raised w lists (Freeze r day ∷ h) ok =
    let here = open_at w h r day ok.0 in
    rises-append apart_or_before (raised w h) (owed_at w h r) (rising_raised w lists h ok.1)
    (rises-by (below_by owed_order) apart_or_before (owed_at w h r)
    (λ x y m n e. or_right (not (bytes_eq x.release y.release)) (below_by owed_order x y) e)
    (rising_owed w h r lists ok.1))
    (λ x y old new. apart_by x y (bytes_eq x.release y.release) refl
    (λ same. raised_closed w h x old (ap (state_of h) (same ∙ owed_release w h r y new) ∙ here)))
rising_raised w lists (c ∷ h) ok = rising_raised w lists h ok.1

same_release : (a b : Owed) → a.release ≡ b.release → apart_or_before a b ≡ true
    → below_by owed_order a b ≡ true
same_release a b e f = let same : bytes_eq a.release b.release ≡ true =
    ap (λ r. bytes_eq r b.release) e ∙ same_text b.release in sym (rw same refl) ∙ f

pub numbers_rise : (w : Readings) (h : List Command) → ListsInOrder w → IsHistory w h
    → AreNumberedInOrder (duties w h)
numbers_rise w h lists ok a b m n same less =
    let row : ℕ × Owed → DutyRow = λ d. duty_row (place w h d.0) d in
    let at = from_map row a (numbered w h) m in
    let to = from_map row b (numbered w h) n in
    let order : below_by owed_order at.0.1 to.0.1 ≡ true =
    same_release at.0.1 to.0.1 (ap (λ (d : DutyRow). d.release) at.2
    ∙ (same ∙ sym (ap (λ (d : DutyRow). d.release) to.2)))
    (smaller_first apart_or_before 1 (raised w h) at.0 to.0 (rising_raised w lists h ok) at.1 to.1
    (omega (
      arith,
      less,
      ap (λ (d : DutyRow). d.number) at.2,
      ap (λ (d : DutyRow). d.number) to.2,
    ))) in
    subst (λ (d : DutyRow). below_by duty_order a d ≡ true) to.2
    (subst (λ (d : DutyRow). below_by duty_order d (row to.0) ≡ true) at.2 order)

-- ---- the number of a duty

counted_at : (w : Readings) (h later before : List Command) (r day : List ℕ) (d : ℕ × Owed)
    → ListsInOrder w → IsHistory w before → d.1.release ≡ r → h ≡ later ++ Freeze r day ∷ before
    → IsIn d (enumerate_from (1 + length (raised w before)) (owed_at w before r)) → IsCounted w h d
counted_at w h later before r day d lists ok same split raises =
    let n = 1 + length (raised w before) in
    let number = counted (below_by owed_order) owed_is_order n (owed_at w before r) d
    (rising_owed w before r lists ok) raises in
    record {
      later = later;
      before = before;
      day = day;
      split = split ∙ ap (λ x. later ++ Freeze x day ∷ before) (sym same);
      raises = subst (λ x. IsIn d.1 (owed_at w before x)) (sym same)
          (in_numbered n (owed_at w before r) d raises).1;
      number = subst (λ x. d.0 ≡ length (raised w before)
          + length (filter (λ owed. below_by owed_order owed d.1) (owed_at w before x)) + 1)
          (sym same) (omega (arith, number));
    }

pub counted_in : (w : Readings) (h : List Command) (d : ℕ × Owed) → ListsInOrder w → IsHistory w h
    → IsIn d (numbered w h) → IsCounted w h d
counted_in w h d lists ok m =
    let is : IsNumbered w h d = numbered_in w h d m in
    let at : IsHistory w (Freeze is.release is.day ∷ is.before) =
    history_before w is.later (Freeze is.release is.day ∷ is.before)
    (subst (IsHistory w) is.split ok) in
    let raises = in_numbered (1 + length (raised w is.before)) (owed_at w is.before is.release) d
    is.raises in
    counted_at w h is.later is.before is.release is.day d lists at.1
    (owed_release w is.before is.release d.1 raises.1) is.split is.raises
