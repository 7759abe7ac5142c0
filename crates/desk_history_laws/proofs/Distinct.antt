-- No two rows of a table have the same key.
use Rattle.std.proofs.Common.{◌≡◌, ℕ, ◌+◌, ◌≤◌, Bool, true, false, cond, List, [], ◌∷◌, length, map}
use Rattle.std.proofs.Common.{Option, Some, None, sym, refl, ap, ◌∙◌, subst, arith, inl, inr}
use Rattle.std.specs.Prelude.{IsTrue, is_some, filter, find, not, ◌||◌, nat_lt, if◌then◌else◌, Result, Ok, Err}
use Rattle.std.specs.List.{list_any, enumerate_from}
use Rattle.std.specs.Option.{option_and_then, option_map, option_map_or}
use Rattle.std.specs.Result.{result_err, result_ok}
use Rattle.std.specs.Str.{bytes_eq}
use Rattle.std.proofs.lemmas.Cmp.{nat_cmp_total, nat_list_cmp_total, tied_itself}
use Rattle.std.proofs.lemmas.List.{map-append}
use Rattle.std.proofs.lemmas.Bool.{not-true}
use Rattle.std.proofs.lemmas.Simd.{map-map}
use Rattle.std.specs.declared.cmp.Ordering.{Ordering}
use Rattle.std.specs.Cmp.Lexicographic.{slice_cmp}
use Rattle.std.specs.Ordering.{nat_cmp, on, then_cmp}
use Rattle.desk_base.proofs.Numbers.{same_number}
use Rattle.desk_base.proofs.Texts.{same_text, text_tells}
use Rattle.desk_base.specs.Limits as most
use Rattle.desk_base.specs.declared.profile.Profile.{Profile}
use Rattle.desk_model.specs.Lists.{IsIn, put, replaced}
use Rattle.desk_model.specs.Readings.{Readings}
use Rattle.desk_model.specs.Texts.{text_below}
use Rattle.desk_model.specs.Keys.{adoption_order, attached_order, below_by, choice_order, extracted_order}
use Rattle.desk_model.specs.Keys.{conclusion_order, frozen_order, has_namespace, is_adoption}
use Rattle.desk_model.specs.Keys.{is_attachment, is_conclusion, package_order}
use Rattle.desk_model.specs.History.{attached, documents, form_of, names, namespace_in, opened, place_in}
use Rattle.desk_model.specs.Conclusions.{adoption_row, adoptions, conclusion_row, conclusions}
use Rattle.desk_model.specs.Answers.{attaching, import_answer, importing}
use Rattle.desk_model.specs.Answers.{Importing, is_recorded, IsHistory, taken, unless}
use Rattle.desk_model.specs.Moves.{all_changes, change_row, change_rows, changes, moves}
use Rattle.desk_model.specs.Raised.{numbered, raised}
use Rattle.desk_model.specs.declared.row.Owed.{Owed}
use Rattle.desk_model.specs.Tables.{release_row, release_rows}
use Rattle.desk_model.specs.declared.command.Answer.TheVariants as answered
use Rattle.desk_model.specs.declared.command.Command.{Command}
use Rattle.desk_model.specs.declared.command.Command.TheVariants.{Adopt, Attach, Conclude, Import, OpenRelease}
use Rattle.desk_model.specs.declared.reading.Document.{Document}
use Rattle.desk_model.specs.declared.refusal.DocumentFault.{DocumentFault}
use Rattle.desk_model.specs.declared.refusal.Limit.TheVariants as limit
use Rattle.desk_model.specs.declared.refusal.Refusal.TheVariants as why
use Rattle.desk_model.specs.declared.row.AdoptionRow.{AdoptionRow}
use Rattle.desk_model.specs.declared.row.ChoiceRow.{ChoiceRow}
use Rattle.desk_model.specs.declared.row.ConclusionRow.{ConclusionRow}
use Rattle.desk_model.specs.declared.row.DocumentRow.{DocumentRow}
use Rattle.desk_model.specs.declared.row.ExtractedRow.{ExtractedRow}
use Rattle.desk_model.specs.declared.row.FrozenRow.{FrozenRow}
use Rattle.desk_model.specs.declared.row.Move.{Move}
use Rattle.desk_model.specs.declared.row.PackageRow.{PackageRow}
use Rattle.desk_model.specs.declared.row.ReleaseRow.{ReleaseRow}
use Rattle.desk_model.specs.declared.row.RuleRow.{RuleRow}
use Rattle.desk_model.proofs.Lists.{from_put}
use Rattle.desk_history.proofs.OwnKeys.{attached_new}
use Rattle.desk_history.specs.Laws.{AreDistinct, Rises, rule_row_order}
use Rattle.desk_history.proofs.Members.{from_map, in_map}
use Rattle.desk_history.proofs.Distinct.{from_filter, distinct-append, distinct-flat_map}
use Rattle.desk_history.proofs.Distinct.{distinct-map, distinct-filter}
use Rattle.desk_history.proofs.Sorting.{change_within}
use Rattle.desk_history.proofs.Recorded.{past}
use Rattle.desk_history_laws.specs.OwnKeys.{adoption_key, attached_key, change_key, choice_key}
use Rattle.desk_history_laws.specs.OwnKeys.{conclusion_key, extracted_key, frozen_key, package_key}
use Rattle.desk_history_laws.specs.OwnKeys.{rule_key}
use Rattle.desk_history_laws.proofs.Lists.{in_numbers}
use Rattle.desk_history_laws.proofs.Recorded.{opened_form}
use Rattle.desk_history_laws.proofs.Concluded.{has_form}
use Rattle.desk_history_laws.proofs.Members.{from_sorted}

-- ---- lists whose keys are distinct

distinct_put : {A B : Type 0} (key : A → B) (below : A → A → Bool) (x : A) (xs : List A)
    → (¬ IsIn (key x) (map key xs)) → AreDistinct (map key xs)
    → AreDistinct (map key (put below x xs))
distinct_put key below x [] new a = (λ m. m, tt)
distinct_put key below x (y ∷ ys) new a =
    elim (below x y) as (λ b. AreDistinct (map key (if b then x ∷ y ∷ ys else y ∷ put below x ys))) [
      | true ↦ (new, a)
      | false ↦ (
        λ m. (let at = from_map key (key y) (put below x ys) m in
            elim (from_put below x at.0 ys at.1) [
              | inl same ↦ new (inl (sym at.2 ∙ ap key (sym same)))
              | inr n ↦ a.0 (subst (λ k. IsIn k (map key ys)) at.2 (in_map key at.0 ys n))
            ]),
        distinct_put key below x ys (λ m. new (inr m)) a.1,
      )
    ]

-- a row in place of those with its key
distinct_replaced : {A B : Type 0} (key : A → B) (below : A → A → Bool) (at : A → Bool) (x : A)
    (xs : List A) → ((y : A) → key y ≡ key x → at y ≡ true) → AreDistinct (map key xs)
    → AreDistinct (map key (replaced below at x xs))
distinct_replaced key below at x xs tells a =
    distinct_put key below x (filter (λ y. not (at y)) xs)
    (λ m. let row = from_map key (key x) (filter (λ y. not (at y)) xs) m in
    let gone : not (at row.0) ≡ true = (from_filter (λ y. not (at y)) row.0 xs row.1).1 in
    let here : at row.0 ≡ true = tells row.0 row.2 in
    let apart : at row.0 ≡ false = not-true (at row.0) gone in cc)
    (distinct-filter key (λ y. not (at y)) xs a)

distinct_rises : {A B : Type 0} (key : A → B) (below : A → A → Bool) (xs : List A)
    → ((x y : A) → key x ≡ key y → below x y ≡ false) → Rises below xs → AreDistinct (map key xs)
distinct_rises key below [] never up = tt
distinct_rises key below (x ∷ xs) never up = (
  λ m. (let at = from_map key (key x) xs m in let less : below x at.0 ≡ true = up.0 at.0 at.1 in
      let none : below x at.0 ≡ false = never x at.0 (sym at.2) in cc),
  distinct_rises key below xs never up.1,
)

pub distinct_numbers : {A B : Type 0} (key : B → ℕ) (row : ℕ × A → B)
    → ((d : ℕ × A) → key (row d) ≡ d.0) → (n : ℕ) (xs : List A)
    → AreDistinct (map key (map row (enumerate_from n xs)))
distinct_numbers key row same n [] = tt
distinct_numbers key row same n (x ∷ xs) = (
  λ m. (let at = from_map key (key (row (n, x))) (map row (enumerate_from (n + 1) xs)) m in
      let d = from_map row at.0 (enumerate_from (n + 1) xs) at.1 in
      omega (arith, (in_numbers (n + 1) xs d.0 d.1).0, same d.0, same (n, x), ap key d.2, at.2)),
  distinct_numbers key row same (n + 1) xs,
)

-- ---- tables that are sorted by their keys

pub distinct_rules : (rows : List RuleRow) → Rises (below_by rule_row_order) rows
    → AreDistinct (map rule_key rows)
distinct_rules rows up = distinct_rises rule_key (below_by rule_row_order) rows never up
  where
    never : (x y : RuleRow) → rule_key x ≡ rule_key y → below_by rule_row_order x y ≡ false
    never x y e =
        let one : x.revision ≡ y.revision = ap (λ (k : ℕ × List ℕ × List ℕ). k.0) e in
        let two : x.term ≡ y.term = ap (λ (k : ℕ × List ℕ × List ℕ). k.1) e in
        let three : x.form ≡ y.form = ap (λ (k : ℕ × List ℕ × List ℕ). k.2) e in
        rw (
          one,
          two,
          three,
          tied_itself nat_cmp_total y.revision,
          tied_itself nat_list_cmp_total y.term,
          tied_itself nat_list_cmp_total y.form,
        ) refl

-- rows whose key is a number and a text
module _ {A : Type 0} (f : A → ℕ) (g : A → List ℕ) where
  abbrev pair_order : A → A → Ordering
  pair_order = then_cmp (on f nat_cmp) (on g (slice_cmp nat_cmp))

  abbrev pair_key : A → ℕ × List ℕ
  pair_key x = (f x, g x)

  not_below : (x y : A) → pair_key x ≡ pair_key y → below_by pair_order x y ≡ false
  not_below x y e =
      let one : f x ≡ f y = ap (λ (k : ℕ × List ℕ). k.0) e in
      let two : g x ≡ g y = ap (λ (k : ℕ × List ℕ). k.1) e in
      rw (one, two, tied_itself nat_cmp_total (f y), tied_itself nat_list_cmp_total (g y)) refl

  distinct_pairs : (rows : List A) → Rises (below_by pair_order) rows
      → AreDistinct (map pair_key rows)
  distinct_pairs rows up = distinct_rises pair_key (below_by pair_order) rows not_below up

pub distinct_packages : (rows : List PackageRow) → Rises (below_by package_order) rows
    → AreDistinct (map package_key rows)
distinct_packages rows up = distinct_pairs (λ (row : PackageRow). row.document)
    (λ (row : PackageRow). row.id) rows up

pub distinct_extracted : (rows : List ExtractedRow) → Rises (below_by extracted_order) rows
    → AreDistinct (map extracted_key rows)
distinct_extracted rows up = distinct_pairs (λ (row : ExtractedRow). row.document)
    (λ (row : ExtractedRow). row.reference) rows up

-- rows whose key is a term of a package of a document in a release
module _ {A : Type 0} (r : A → List ℕ) (d : A → ℕ) (p t : A → List ℕ) where
  abbrev term_order : A → A → Ordering
  term_order = then_cmp (on r (slice_cmp nat_cmp))
      (then_cmp (on d nat_cmp) (then_cmp (on p (slice_cmp nat_cmp)) (on t (slice_cmp nat_cmp))))

  abbrev term_key : A → List ℕ × ℕ × List ℕ × List ℕ
  term_key x = (r x, d x, p x, t x)

  never_below : (x y : A) → term_key x ≡ term_key y → below_by term_order x y ≡ false
  never_below x y e =
      let one : r x ≡ r y = ap (λ (k : List ℕ × ℕ × List ℕ × List ℕ). k.0) e in
      let two : d x ≡ d y = ap (λ (k : List ℕ × ℕ × List ℕ × List ℕ). k.1) e in
      let three : p x ≡ p y = ap (λ (k : List ℕ × ℕ × List ℕ × List ℕ). k.2) e in
      let four : t x ≡ t y = ap (λ (k : List ℕ × ℕ × List ℕ × List ℕ). k.3) e in
      rw (
        one,
        two,
        three,
        four,
        tied_itself nat_list_cmp_total (r y),
        tied_itself nat_cmp_total (d y),
        tied_itself nat_list_cmp_total (p y),
        tied_itself nat_list_cmp_total (t y),
      ) refl

  distinct_terms : (rows : List A) → Rises (below_by term_order) rows
      → AreDistinct (map term_key rows)
  distinct_terms rows up = distinct_rises term_key (below_by term_order) rows never_below up

pub distinct_choices : (rows : List ChoiceRow) → Rises (below_by choice_order) rows
    → AreDistinct (map choice_key rows)
distinct_choices rows up =
    distinct_terms (λ (row : ChoiceRow). row.release) (λ (row : ChoiceRow). row.document)
    (λ (row : ChoiceRow). row.package_id) (λ (row : ChoiceRow). row.term) rows up

pub distinct_frozen_terms : (rows : List FrozenRow) → Rises (below_by frozen_order) rows
    → AreDistinct (map frozen_key rows)
distinct_frozen_terms rows up =
    distinct_terms (λ (row : FrozenRow). row.release) (λ (row : FrozenRow). row.document)
    (λ (row : FrozenRow). row.package_id) (λ (row : FrozenRow). row.term) rows up

-- ---- conclusions and adoptions: the last one replaces those before it

pub distinct_conclusions : (h : List Command) → AreDistinct (map conclusion_key (conclusions h))
distinct_conclusions [] = tt
distinct_conclusions (Conclude d p text ∷ h) =
    distinct_replaced conclusion_key (below_by conclusion_order) (is_conclusion d p)
    (conclusion_row d p text) (conclusions h) tells (distinct_conclusions h)
  where
    tells : (y : ConclusionRow) → conclusion_key y ≡ conclusion_key (conclusion_row d p text)
        → is_conclusion d p y ≡ true
    tells y e =
        let one : y.document ≡ d = ap (λ (k : ℕ × List ℕ). k.0) e in
        let two : y.package_id ≡ p = ap (λ (k : ℕ × List ℕ). k.1) e in
        rw (one, two, same_number d, same_text p) refl
distinct_conclusions (c ∷ h) = distinct_conclusions h

pub distinct_adoptions : (w : Readings) (h : List Command)
    → AreDistinct (map adoption_key (adoptions w h))
distinct_adoptions w [] = tt
distinct_adoptions w (Adopt d reference licence ∷ h) =
    let row = adoption_row w d reference licence in
    distinct_replaced adoption_key (below_by adoption_order) (is_adoption d row.reference) row
    (adoptions w h) (tells row refl) (distinct_adoptions w h)
  where
    tells : (row : AdoptionRow) → row.document ≡ d → (y : AdoptionRow)
        → adoption_key y ≡ adoption_key row → is_adoption d row.reference y ≡ true
    tells row own y e =
        let one : y.document ≡ d = ap (λ (k : ℕ × List ℕ). k.0) e ∙ own in
        let two : y.reference ≡ row.reference = ap (λ (k : ℕ × List ℕ). k.1) e in
        rw (one, two, same_number d, same_text row.reference) refl
distinct_adoptions w (c ∷ h) = distinct_adoptions w h

-- ---- attached documents: none is attached twice

none_has : {A : Type 0} (test : A → Bool) (x : A) (xs : List A) → list_any test xs ≡ false
    → IsIn x xs → test x ≡ false
none_has test x [] none m = absurd m
none_has {A} test x (y ∷ ys) none m = go (test y) refl none m (none_has test x ys)
  where
    go : (b : Bool) → test y ≡ b → (b || list_any test ys) ≡ false → IsIn x (y ∷ ys)
        → (list_any test ys ≡ false → IsIn x ys → test x ≡ false) → test x ≡ false
    go true is e n later = cc
    go false is e (inl same) later = ap test (sym same) ∙ is
    go false is e (inr n) later = later e n

pub distinct_attached : (w : Readings) (h : List Command) → IsHistory w h
    → AreDistinct (map attached_key (attached h))
distinct_attached w [] ok = tt
distinct_attached w (Attach r d ∷ h) ok =
    distinct_put attached_key (below_by attached_order) (record { release = r; document = d })
    (attached h)
    (λ m. let at = from_map attached_key (r, d) (attached h) m in
    let one : at.0.release ≡ r = ap (λ (k : List ℕ × ℕ). k.0) at.2 in
    let two : at.0.document ≡ d = ap (λ (k : List ℕ × ℕ). k.1) at.2 in
    let none : is_attachment r d at.0 ≡ false =
    none_has (is_attachment r d) at.0 (attached h) (attached_new (attaching w h r d) ok.0) at.1 in
    let some : is_attachment r d at.0 ≡ true = rw (one, two, same_text r, same_number d) refl in cc)
    (distinct_attached w h ok.1)
distinct_attached w (c ∷ h) ok = distinct_attached w h ok.1

-- ---- documents: no namespace is imported twice

none_named : (name : List ℕ) (rows : List DocumentRow) → find (has_namespace name) rows ≡ None
    → ¬ IsIn name (map (λ (row : DocumentRow). row.namespace) rows)
none_named name [] none m = m
none_named name (row ∷ rows) none m = go (bytes_eq row.namespace name) refl none m
    (none_named name rows)
  where
    go : (b : Bool) → bytes_eq row.namespace name ≡ b
        → cond b (Some row) (find (has_namespace name) rows) ≡ None
        → IsIn name (map (λ (row : DocumentRow). row.namespace) (row ∷ rows))
        → (find (has_namespace name) rows ≡ None
        → ¬ IsIn name (map (λ (row : DocumentRow). row.namespace) rows)) → ⊥
    go true is e n later = cc
    go false is e (inl same) later = let own : bytes_eq row.namespace name ≡ true =
        ap (λ t. bytes_eq t name) same ∙ same_text name in cc
    go false is e (inr n) later = later e n

-- an Import that is recorded is of a new document
pub is_new : (bytes : List ℕ) (found : Importing) (read : Result Document DocumentFault)
    → IsTrue (is_recorded (import_answer read bytes found))
    → find (has_namespace (namespace_in (result_ok read))) found.documents ≡ None
is_new bytes found (Err fault) e = cc
is_new bytes found (Ok d) e =
    let old = find (has_namespace d.namespace) found.documents in
    let one = past (option_map (λ (fault : DocumentFault). why.BadDocument fault)
    (result_err (Ok d))) _ e in
    let two = past (option_and_then (taken bytes) old) _ one.1 in
    let three = past (unless (is_some old || nat_lt (length found.documents) most.documents)
    (why.Full limit.Documents)) _ two.1 in
    go old refl three.1
  where
    go : (o : Option DocumentRow) → find (has_namespace d.namespace) found.documents ≡ o
        → IsTrue (is_recorded (option_map_or (λ (row : DocumentRow). answered.Again row.number)
        (find (has_namespace d.namespace) found.documents)
        (answered.Imported (length found.documents + 1))))
        → find (has_namespace d.namespace) found.documents ≡ None
    go None is recorded = is
    go (Some row) is recorded = absurd (let no = rw is at recorded in cc)

abbrev pub row_of : Readings → List Command → List ℕ → Profile → DocumentRow
row_of w h bytes profile = record {
  number = length (documents w h) + 1;
  namespace = namespace_in (result_ok (w.document bytes));
  bytes = bytes;
  profile = profile;
}

pub distinct_namespaces : (w : Readings) (h : List Command) → IsHistory w h
    → AreDistinct (map (λ (row : DocumentRow). row.namespace) (documents w h))
distinct_namespaces w [] ok = tt
distinct_namespaces w (Import bytes profile ∷ h) ok =
    let name = λ (row : DocumentRow). row.namespace in
    let row = row_of w h bytes profile in
    subst AreDistinct (sym (map-append name (documents w h) (row ∷ [])))
    (distinct-append (map name (documents w h)) (row.namespace ∷ []) (distinct_namespaces w h ok.1)
    (λ m. m, tt)
    (λ k old new. elim new [
      | inl same ↦ none_named row.namespace (documents w h)
          (is_new bytes (importing w h) (w.document bytes) ok.0)
          (subst (λ k. IsIn k (map name (documents w h))) (sym same) old)
      | inr none ↦ absurd none
    ]))
distinct_namespaces w (c ∷ h) ok = distinct_namespaces w h ok.1

-- ---- releases: none is opened twice

distinct_names : (w : Readings) (h : List Command) → IsHistory w h → AreDistinct (names h)
distinct_names w h ok = unmapped (names h) (keyed h ok)
  where
    unmapped : (xs : List (List ℕ)) → AreDistinct (map (λ (n : List ℕ). n) xs) → AreDistinct xs
    unmapped [] a = tt
    unmapped (x ∷ xs) a = (λ m. a.0 (in_map (λ (n : List ℕ). n) x xs m), unmapped xs a.1)

    keyed : (h : List Command) → IsHistory w h → AreDistinct (map (λ (n : List ℕ). n) (names h))
    keyed [] ok = tt
    keyed (OpenRelease r form ∷ h) ok =
        distinct_put (λ (n : List ℕ). n) text_below r (names h)
        (λ m. let at = from_map (λ (n : List ℕ). n) r (names h) m in
        let none : is_some (form_of h r) ≡ false = (opened_form w h r form ok.0).1 in
        let some : is_some (form_of h r) ≡ true =
        has_form h r (from_sorted text_below r (opened h)
        (subst (λ n. IsIn n (names h)) at.2 at.1)) in cc)
        (keyed h ok.1)
    keyed (c ∷ h) ok = keyed h ok.1

pub distinct_releases : (w : Readings) (h : List Command) → IsHistory w h
    → AreDistinct (map (λ (row : ReleaseRow). row.name) (release_rows h))
distinct_releases w h ok =
    subst AreDistinct (sym (map-map (λ (row : ReleaseRow). row.name) (release_row h) (names h)))
    (distinct-map (λ (r : List ℕ). r) (names h) (λ x y m n e. e) (distinct_names w h ok))

pub place_within : (ns : List (List ℕ)) (r : List ℕ) → place_in ns r ≤ length ns
place_within [] r = omega arith
place_within (n ∷ ns) r = go (bytes_eq n r) (place_within ns r)
  where
    go : (b : Bool) → place_in ns r ≤ length ns
        → (if b then length ns + 1 else place_in ns r) ≤ length (n ∷ ns)
    go true le = omega arith
    go false le = omega (arith, le)

-- two names that were opened at the same place are equal
one_place : (ns : List (List ℕ)) (r s : List ℕ) → IsIn r ns → IsIn s ns
    → place_in ns r ≡ place_in ns s → r ≡ s
one_place [] r s a b e = absurd a
one_place (n ∷ ns) r s a b e =
    elim (text_tells n r) [
      | inl first ↦ (elim (text_tells n s) [
        | inl second ↦ sym first.1 ∙ second.1
        | inr other ↦ absurd (let at = rw (first.0, other.0) at e in
            omega (arith, at, place_within ns s))
      ])
      | inr apart ↦ (elim (text_tells n s) [
        | inl second ↦ absurd (let at = rw (apart.0, second.0) at e in
            omega (arith, at, place_within ns r))
        | inr other ↦ (let at = rw (apart.0, other.0) at e in
            one_place ns r s (later r a apart.1) (later s b other.1) at)
      ])
    ]
  where
    later : (x : List ℕ) → IsIn x (n ∷ ns) → (n ≡ x → ⊥) → IsIn x ns
    later x (inl same) apart = absurd (apart same)
    later x (inr m) apart = m

pub distinct_places : (w : Readings) (h : List Command) → IsHistory w h
    → AreDistinct (map (λ (row : ReleaseRow). row.place) (release_rows h))
distinct_places w h ok =
    subst AreDistinct (sym (map-map (λ (row : ReleaseRow). row.place) (release_row h) (names h)))
    (distinct-map (place_in (opened h)) (names h)
    (λ x y m n e. one_place (opened h) x y (from_sorted text_below x (opened h) m)
    (from_sorted text_below y (opened h) n) e) (distinct_names w h ok))

-- ---- changes: the steps of a duty are numbered

distinct_steps : (q : ℕ) (ms : List Move) → AreDistinct (map change_key (change_rows q ms))
distinct_steps q [] = tt
distinct_steps q (c ∷ ms) =
    let new = change_row q (length ms + 1) c in
    subst AreDistinct (sym (map-append change_key (change_rows q ms) (new ∷ [])))
    (distinct-append (map change_key (change_rows q ms)) (change_key new ∷ []) (distinct_steps q ms)
    (λ m. m, tt)
    (λ k old here. elim here [
      | inl same ↦ (let at = from_map change_key k (change_rows q ms) old in
          let step : at.0.step ≡ length ms + 1 = ap (λ (k : ℕ × ℕ). k.1) (at.2 ∙ sym same) in
          omega (arith, step, (change_within q ms at.0 at.1).1))
      | inr none ↦ absurd none
    ]))

pub distinct_changes : (w : Readings) (h : List Command)
    → AreDistinct (map change_key (all_changes w h))
distinct_changes w h =
    distinct-flat_map (λ (d : ℕ × Owed). changes w h d.0) change_key (λ (k : ℕ × ℕ). k.0)
    (λ (d : ℕ × Owed). d.0) (numbered w h)
    (λ d row m. (change_within d.0 (moves w h d.0) row m).0) (numbers_of 1 (raised w h))
    (λ d m. distinct_steps d.0 (moves w h d.0))
  where
    numbers_of : (n : ℕ) (xs : List Owed)
        → AreDistinct (map (λ (d : ℕ × Owed). d.0) (enumerate_from n xs))
    numbers_of n [] = tt
    numbers_of n (x ∷ xs) = (
      λ m. (let at = from_map (λ (d : ℕ × Owed). d.0) n (enumerate_from (n + 1) xs) m in
          omega (arith, (in_numbers (n + 1) xs at.0 at.1).0, at.2)),
      numbers_of (n + 1) xs,
    )
