-- The bill of a frozen release is that of its freeze: no later command changes what it is made of.
use Rattle.std.proofs.Common.{◌≡◌, ◌≢◌, ℕ, ◌+◌, ◌≤◌, Bool, true, false, cond, List, [], ◌∷◌, ◌++◌}
use Rattle.std.proofs.Common.{length, map, Option, Some, None, sym, refl, ap, ◌∙◌, subst, arith}
use Rattle.std.proofs.Common.{length-append, append-nil, inl, inr}
use Rattle.std.specs.Prelude.{◌⊎◌, ◌==◌, ◌&&◌, filter, find, IsTrue, is_some, not, if◌then◌else◌, unwrap_or}
use Rattle.std.specs.List.{flat_map, list_any, filter_map}
use Rattle.std.specs.Option.{option_map, option_map_or, option_and_then}
use Rattle.std.specs.Result.{result_ok}
use Rattle.std.specs.Str.{bytes_eq}
use Rattle.std.proofs.Math.Path.{fun_ext}
use Rattle.std.proofs.lemmas.Bool.Decides.{nat_tests}
use Rattle.std.proofs.lemmas.List.Elements.{filter-append}
use Rattle.std.proofs.lemmas.Bool.{not-true}
use Rattle.desk_base.proofs.Bools.{and_left, and_right}
use Rattle.desk_base.proofs.Numbers.{numbers_equal}
use Rattle.desk_base.proofs.Texts.{text_tells}
use Rattle.desk_model.specs.Lists.{IsIn, in_order, latest, or_else}
use Rattle.desk_model.specs.Readings.{Readings}
use Rattle.desk_model.specs.Keys.{attached_order, below_by, frozen_order, is_attached_to}
use Rattle.desk_model.specs.Keys.{is_document, is_extracted, is_frozen_of, is_revision}
use Rattle.desk_model.specs.Keys.{is_shipped_by}
use Rattle.desk_model.specs.History.{attached, attached_to, attachment, documents, extracted_row}
use Rattle.desk_model.specs.History.{form_of, in_force, namespace_in, package_row, packages}
use Rattle.desk_model.specs.History.{packages_in, references, references_in, revision_of, revisions}
use Rattle.desk_model.specs.History.{rules_in, state_given, state_of}
use Rattle.desk_model.specs.Conclusions.{adoptions}
use Rattle.desk_model.specs.Raised.{chosen_in, frozen, frozen_at, frozen_for_terms, frozen_term}
use Rattle.desk_model.specs.Raised.{frozen_under, rule_adopted, shipped, shipped_of}
use Rattle.desk_model.specs.Answers.{answer, attaching, freezing, has_document, IsHistory}
use Rattle.desk_model.specs.Answers.{is_recorded, opening, unless, unready}
use Rattle.desk_model.specs.Bills.{bill_answer, bill_of, bill_text, extracted_text, first_uses}
use Rattle.desk_model.specs.Bills.{frozen_terms, is_same_text, revision_text, texts_named}
use Rattle.desk_model.specs.Queries.{queried}
use Rattle.desk_model.specs.Tables.{release_row}
use Rattle.desk_model.specs.Texts.{is_release_name}
use Rattle.desk_base.specs.Day.{is_day}
use Rattle.desk_base.specs.declared.profile.Profile.{Profile}
use Rattle.desk_model.specs.declared.bill.Bill.{Bill}
use Rattle.desk_model.specs.declared.bill.BillLine.{BillLine}
use Rattle.desk_model.specs.declared.bill.BillText.{BillText}
use Rattle.desk_model.specs.declared.bill.TextOf.{TextOf}
use Rattle.desk_model.specs.declared.bill.TextOf.TheVariants.{Licence, Reference}
use Rattle.desk_model.specs.declared.command.Answer.TheVariants as answered
use Rattle.desk_model.specs.declared.command.Command.{Command}
use Rattle.desk_model.specs.declared.command.Command.TheVariants.{LoadCatalogue, Import}
use Rattle.desk_model.specs.declared.command.Command.TheVariants.{OpenRelease, Attach, Freeze}
use Rattle.desk_model.specs.declared.command.Command.TheVariants.{Withdraw}
use Rattle.desk_model.specs.declared.command.Query.TheVariants as query
use Rattle.desk_model.specs.declared.reading.Package.{Package}
use Rattle.desk_model.specs.declared.reading.Reference.{Reference as Extract}
use Rattle.desk_model.specs.declared.reading.Rule.{Rule}
use Rattle.desk_model.specs.declared.refusal.Refusal.TheVariants as why
use Rattle.desk_model.specs.declared.row.AdoptionRow.{AdoptionRow}
use Rattle.desk_model.specs.declared.row.AttachedRow.{AttachedRow}
use Rattle.desk_model.specs.declared.row.CatalogueRow.{CatalogueRow}
use Rattle.desk_model.specs.declared.row.DocumentRow.{DocumentRow}
use Rattle.desk_model.specs.declared.row.ExtractedRow.{ExtractedRow}
use Rattle.desk_model.specs.declared.row.FrozenRow.{FrozenRow}
use Rattle.desk_model.specs.declared.row.PackageRow.{PackageRow}
use Rattle.desk_model.specs.declared.state.ReleaseState.{ReleaseState}
use Rattle.desk_model.specs.declared.state.ReleaseState.TheVariants.{IsOpen, Frozen, Withdrawn}
use Rattle.desk_history.proofs.Members.{from_flat_map}
use Rattle.desk_history.proofs.Orders.{ascends-in_order, attached_is_order, filter-in_order, filter-put, put_if}
use Rattle.desk_history.proofs.OwnKeys.{open_at, open_by}
use Rattle.desk_history.proofs.Sorting.{frozen_is_order}
use Rattle.desk_history.proofs.Recorded.{past, is_so, is_ready}
use Rattle.desk_history_laws.proofs.FrozenChoices.{frozen_at as frozen_when, other_release}
use Rattle.desk_history_laws.proofs.FrozenRows.{still_closed}
use Rattle.desk_history_laws.proofs.Members.{from_filter, from_filter_map, from_sorted}
use Rattle.desk_history_laws.proofs.Releases.{attaches, from_shipped}

-- ---- rows after others

-- what is found, if none of its kind follows
pub find_kept : {A : Type 0} (test : A → Bool) (xs ys : List A) → find test ys ≡ None
    → find test (xs ++ ys) ≡ find test xs
find_kept test [] ys none = none
find_kept test (x ∷ xs) ys none = ap (λ o. cond (test x) (Some x) o) (find_kept test xs ys none)

filter_kept : {A : Type 0} (test : A → Bool) (xs ys : List A) → filter test ys ≡ []
    → filter test (xs ++ ys) ≡ filter test xs
filter_kept test xs ys none = filter-append test xs ys
    ∙ (ap (λ zs. filter test xs ++ zs) none ∙ append-nil (filter test xs))

pub none_made : {A B : Type 0} (test : B → Bool) (f : A → List B) (xs : List A)
    → ((x : A) → IsIn x xs → filter test (f x) ≡ [])
    → filter test (flat_map f xs) ≡ []
none_made test f [] none = refl
none_made test f (x ∷ xs) none =
    filter-append test (f x) (flat_map f xs)
    ∙ rw (none x (inl refl)) (none_made test f xs (λ y m. none y (inr m)))

pub map_within : {A B : Type 0} (f g : A → B) (xs : List A) → ((x : A) → IsIn x xs → f x ≡ g x)
    → map f xs ≡ map g xs
map_within f g [] same = refl
map_within f g (x ∷ xs) same = rw (same x (inl refl), map_within f g xs (λ y m. same y (inr m)))
    refl

pub flat_map_within : {A B : Type 0} (f g : A → List B) (xs : List A)
    → ((x : A) → IsIn x xs → f x ≡ g x)
    → flat_map f xs ≡ flat_map g xs
flat_map_within f g [] same = refl
flat_map_within f g (x ∷ xs) same = rw (
  same x (inl refl),
  flat_map_within f g xs (λ y m. same y (inr m)),
) refl

later_number : (n d : ℕ) → d ≤ n → (n + 1 == d) ≡ false
later_number n d le = grind (arith, nat_tests)

-- ---- what a frozen release depends on was recorded

-- a document that was imported
found_last : {A : Type 0} (test : A → Bool) (xs : List A) (x : A)
    → is_some (find test (xs ++ x ∷ [])) ≡ true
    → (is_some (find test xs) ≡ true) ⊎ (test x ≡ true)
found_last test [] x e = here (test x) e
  where
    here : (b : Bool) → is_some (cond b (Some x) None) ≡ true
        → (is_some (find test []) ≡ true) ⊎ (b ≡ true)
    here true e = inr refl
    here false e = cc
found_last test (y ∷ ys) x e = there (test y) (found_last test ys x) e
  where
    there : (b : Bool) → (is_some (find test (ys ++ x ∷ [])) ≡ true
        → (is_some (find test ys) ≡ true) ⊎ (test x ≡ true))
        → is_some (cond b (Some y) (find test (ys ++ x ∷ []))) ≡ true
        → (is_some (cond b (Some y) (find test ys)) ≡ true) ⊎ (test x ≡ true)
    there true rest e = inl refl
    there false rest e = rest e

abbrev next_document : Readings → List ℕ → Profile → List Command → DocumentRow
next_document w bytes profile h = record {
  number = length (documents w h) + 1;
  namespace = namespace_in (result_ok (w.document bytes));
  bytes = bytes;
  profile = profile;
}

pub document_within : (w : Readings) (h : List Command) (d : ℕ) → has_document w h d ≡ true
    → d ≤ length (documents w h)
document_within w [] d e = cc
document_within w (Import bytes profile ∷ h) d e =
    let new = next_document w bytes profile h in
    elim (found_last (is_document d) (documents w h) new e) [
      | inl old ↦ omega (arith, document_within w h d old, length-append (documents w h) (new ∷ []))
      | inr here ↦ omega (
        arith,
        numbers_equal (length (documents w h) + 1) d here,
        length-append (documents w h) (new ∷ []),
      )
    ]
document_within w (c ∷ h) d e = document_within w h d e

attached_open : (w : Readings) (h : List Command) (r : List ℕ) (d : ℕ)
    → IsTrue (is_recorded (answer w h (Attach r d)))
    → (has_document w h d ≡ true) × (state_of h r ≡ IsOpen)
attached_open w h r d e =
    let found = attaching w h r d in
    let one = past (unless (is_some found.state) why.UnknownRelease) _ e in
    let two = past (unless found.has_document why.UnknownDocument) _ one.1 in
    let three = past (option_and_then unready found.state) _ two.1 in (
      is_so found.has_document why.UnknownDocument two.0,
      open_by (state_of h r) (form_of h r)
          (is_ready found.state (is_so (is_some found.state) why.UnknownRelease one.0) three.0),
    )

pub documents_grow : (w : Readings) (c : Command) (h : List Command)
    → length (documents w h) ≤ length (documents w (c ∷ h))
documents_grow w (Import bytes profile) h =
    let new = next_document w bytes profile h in
    omega (arith, length-append (documents w h) (new ∷ []))
documents_grow w c h = omega arith

attached_within : (w : Readings) (h : List Command) (r : List ℕ) (d : ℕ) → IsHistory w h
    → IsIn (Attach r d) h
    → d ≤ length (documents w h)
attached_within w [] r d ok m = absurd m
attached_within w (c ∷ h) r d ok m =
    let more = documents_grow w c h in
    elim m [
      | inl same ↦ omega (
        arith,
        document_within w h d (attached_open w h r d
            (subst (λ e. IsTrue (is_recorded (answer w h e))) same ok.0)).0,
      )
      | inr old ↦ omega (arith, attached_within w h r d ok.1 old)
    ]

shipped_within : (w : Readings) (h : List Command) (r : List ℕ) (p : PackageRow) → IsHistory w h
    → IsIn p (shipped w h r)
    → p.document ≤ length (documents w h)
shipped_within w h r p ok m = attached_within w h r p.document ok (from_shipped w h r p m).attached

rows_within : (w : Readings) (h : List Command) (row : AttachedRow) → IsHistory w h
    → IsIn row (attached h)
    → row.document ≤ length (documents w h)
rows_within w h row ok m =
    let entry = from_filter_map attachment row h
    (from_sorted (below_by attached_order) row (filter_map attachment h) m) in
    attached_within w h row.release row.document ok
    (subst (λ (c : Command). IsIn c h) (attaches entry.0 row entry.2) entry.1)

-- a release that is frozen was opened
pub is_mapped : {A B : Type 0} (f : A → B) (o : Option A) → is_some (option_map f o) ≡ true
    → is_some o ≡ true
is_mapped f None e = e
is_mapped f (Some x) e = refl

pub freeze_known : (w : Readings) (h : List Command) (r day : List ℕ)
    → IsTrue (is_recorded (answer w h (Freeze r day)))
    → is_some (form_of h r) ≡ true
freeze_known w h r day e =
    let found = freezing w h r in
    let one = past (unless (is_day day) why.BadDay) _ e in
    let two = past (unless (is_some found.state) why.UnknownRelease) _ one.1 in
    is_mapped (λ (form : List ℕ). state_of h r) (form_of h r)
    (is_so (is_some found.state) why.UnknownRelease two.0)

pub known_too : (b : Bool) (form : List ℕ) (o : Option (List ℕ)) → is_some o ≡ true
    → is_some (or_else (if b then Some form else None) o) ≡ true
known_too true form o e = refl
known_too false form o e = e

known_later : (later h : List Command) (r : List ℕ) → is_some (form_of h r) ≡ true
    → is_some (form_of (later ++ h) r) ≡ true
known_later [] h r e = e
known_later (OpenRelease r' form ∷ later) h r e = known_too (bytes_eq r' r) form
    (form_of (later ++ h) r) (known_later later h r e)
known_later (c ∷ later) h r e = known_later later h r e

frozen_known : (w : Readings) (h : List Command) (r : List ℕ) → IsHistory w h
    → state_of h r ≡ Frozen
    → is_some (form_of h r) ≡ true
frozen_known w h r ok e =
    let at = frozen_when w h r ok e in
    subst (λ hs. is_some (form_of hs r) ≡ true) (sym at.split)
    (known_later at.later (Freeze r at.day ∷ at.before) r
    (freeze_known w at.before r at.day at.recorded))

-- ---- no later command is one of these for the release

abbrev touches : List ℕ → Command → Bool
touches r (OpenRelease r' form) = bytes_eq r' r
touches r (Attach r' d) = bytes_eq r' r
touches r (Freeze r' day) = bytes_eq r' r
touches r _ = false

open_free : (w : Readings) (h : List Command) (r form : List ℕ)
    → IsTrue (is_recorded (answer w h (OpenRelease r form)))
    → is_some (form_of h r) ≡ false
open_free w h r form e =
    let found = opening w h r in
    let one = past (unless (is_release_name r) why.BadName) _ e in
    let two = past (unless (list_any (bytes_eq form) found.forms) why.UnknownForm) _ one.1 in
    let three = past (unless (not found.is_taken) why.NameTaken) _ two.1 in
    not-true found.is_taken (is_so (not found.is_taken) why.NameTaken three.0)

untouched : (w : Readings) (c : Command) (h : List Command) (r : List ℕ) → IsHistory w h
    → IsTrue (is_recorded (answer w h c))
    → state_of h r ≡ Frozen → touches r c ≡ false
untouched w (OpenRelease r' form) h r ok recorded e =
    let free = open_free w h r' form recorded in
    let known = frozen_known w h r ok e in
    elim (text_tells r' r) [
      | inl same ↦ (let both : is_some (form_of h r') ≡ is_some (form_of h r) =
          ap (λ n. is_some (form_of h n)) same.1 in cc)
      | inr differ ↦ differ.0
    ]
untouched w (Attach r' d) h r ok recorded e = other_release h r r'
    (attached_open w h r' d recorded).1 e
untouched w (Freeze r' day) h r ok recorded e = other_release h r r' (open_at w h r' day recorded) e
untouched w c h r ok recorded e = refl

-- ---- what the bill is made of stays

form_stays : (c : Command) (h : List Command) (r : List ℕ) → touches r c ≡ false
    → form_of (c ∷ h) r ≡ form_of h r
form_stays (OpenRelease r' form) h r other = rw other refl
form_stays c h r other = refl

-- the text of the catalogue

pub revision_within : (h : List Command) (r : List ℕ) → revision_of h r ≤ length (revisions h)
revision_within [] r = omega arith
revision_within (LoadCatalogue text ∷ h) r =
    let new : CatalogueRow = record { revision = length (revisions h) + 1; body = text } in
    omega (arith, revision_within h r, length-append (revisions h) (new ∷ []))
revision_within (Freeze r' day ∷ h) r =
    elim (bytes_eq r' r) as (λ b. (if b then length (revisions h) else revision_of h r)
    ≤ length (revisions h)) [
      | true ↦ omega arith
      | false ↦ revision_within h r
    ]
revision_within (c ∷ h) r = revision_within h r

text_stays : (c : Command) (h : List Command) (r : List ℕ) → touches r c ≡ false
    → revision_text (revisions (c ∷ h)) (revision_of (c ∷ h) r)
    ≡ revision_text (revisions h) (revision_of h r)
text_stays (LoadCatalogue text) h r other =
    let new : CatalogueRow = record { revision = length (revisions h) + 1; body = text } in
    let test = is_revision (revision_of h r) in
    let none : find test (new ∷ []) ≡ None =
    rw (later_number (length (revisions h)) (revision_of h r) (revision_within h r)) refl in
    ap (option_map (λ (row : CatalogueRow). row.body))
    (find_kept test (revisions h) (new ∷ []) none)
text_stays (Freeze r' day) h r other = rw other refl
text_stays c h r other = refl

-- the packages

attached_stay : (c : Command) (h : List Command) (r : List ℕ) → touches r c ≡ false
    → attached_to (attached (c ∷ h)) r ≡ attached_to (attached h) r
attached_stay (Attach r' d) h r other =
    let below = below_by attached_order in
    let new : AttachedRow = record { release = r'; document = d } in
    filter-put below attached_is_order (is_attached_to r) new (attached h)
    (ascends-in_order below attached_is_order (filter_map attachment h))
    ∙ ap (λ b. put_if below b new (attached_to (attached h) r)) other
attached_stay c h r other = refl

none_shipped : (n d : ℕ) (ps : List Package) → (n == d) ≡ false
    → filter (is_shipped_by d) (map (package_row n) ps) ≡ []
none_shipped n d [] e = refl
none_shipped n d (p ∷ ps) e = rw (e, none_shipped n d ps e) refl

packages_stay : (w : Readings) (c : Command) (h : List Command) (d : ℕ) → d ≤ length (documents w h)
    → filter (is_shipped_by d) (packages w (c ∷ h)) ≡ filter (is_shipped_by d) (packages w h)
packages_stay w (Import bytes profile) h d le =
    let n = length (documents w h) + 1 in
    let new = packages_in (result_ok (w.document bytes)) in
    filter_kept (is_shipped_by d) (packages w h) (map (package_row n) new)
    (none_shipped n d new (later_number (length (documents w h)) d le))
packages_stay w c h d le = refl

ships_stay : (w : Readings) (c : Command) (h : List Command) (r : List ℕ) → IsHistory w h
    → touches r c ≡ false
    → shipped w (c ∷ h) r ≡ shipped w h r
ships_stay w c h r ok other =
    ap (λ rows. shipped_of rows (packages w (c ∷ h))) (attached_stay c h r other)
    ∙ flat_map_within (λ (row : AttachedRow). filter (is_shipped_by row.document)
    (packages w (c ∷ h)))
    (λ (row : AttachedRow). filter (is_shipped_by row.document) (packages w h))
    (attached_to (attached h) r)
    (λ row m. packages_stay w c h row.document
    (rows_within w h row ok (from_filter (is_attached_to r) row (attached h) m).1))

-- the frozen terms

none_under : (test : FrozenRow → Bool) (r : List ℕ) (p : PackageRow) (term : List ℕ)
    (o : Option Rule)
    → ((rule : Rule) → test (frozen_term r p term rule) ≡ false)
    → filter test (frozen_under r p term o) ≡ []
none_under test r p term None none = refl
none_under test r p term (Some rule) none = rw (none rule) refl

pub none_for_terms : (w : Readings) (licences : List AdoptionRow) (rules : List Rule)
    (form r : List ℕ) (p : PackageRow)
    (test : FrozenRow → Bool) (terms : List (List ℕ))
    → ((term : List ℕ) (rule : Rule) → test (frozen_term r p term rule) ≡ false)
    → filter test (frozen_for_terms w licences rules form r p terms) ≡ []
none_for_terms w licences rules form r p test terms none =
    none_made test (λ (term : List ℕ). frozen_under r p term
    (rule_adopted w licences rules form p.document term)) terms (λ term m.
    none_under test r p term (rule_adopted w licences rules form p.document term) (none term))

pub none_frozen : (w : Readings) (h : List Command) (r r' p : List ℕ) (d : ℕ)
    → bytes_eq r' r ≡ false
    → filter (is_frozen_of r d p) (frozen_at w h r') ≡ []
none_frozen w h r r' p d other =
    let licences = adoptions w h in
    let rules = rules_in (in_force w h) in
    let form = unwrap_or (form_of h r') [] in
    none_made (is_frozen_of r d p)
    (λ (q : PackageRow). frozen_for_terms w licences rules form r' q (chosen_in w h r' q))
    (shipped w h r') (λ q m.
    none_for_terms w licences rules form r' q (is_frozen_of r d p) (chosen_in w h r' q)
    (λ term rule. rw other refl))

abbrev pub terms_at : Readings → List Command → List ℕ → PackageRow → List FrozenRow
terms_at w h r p = frozen_terms (in_order (below_by frozen_order) (frozen w h)) r p

terms_stay : (w : Readings) (c : Command) (h : List Command) (r : List ℕ) (p : PackageRow)
    → touches r c ≡ false
    → terms_at w (c ∷ h) r p ≡ terms_at w h r p
terms_stay w (Freeze r' day) h r p other =
    let below = below_by frozen_order in
    let test = is_frozen_of r p.document p.id in
    filter-in_order below frozen_is_order test (frozen_at w h r' ++ frozen w h)
    ∙ (ap (in_order below)
    (filter-append test (frozen_at w h r') (frozen w h)
    ∙ ap (λ rows. rows ++ filter test (frozen w h)) (none_frozen w h r r' p.id p.document other))
    ∙ sym (filter-in_order below frozen_is_order test (frozen w h)))
terms_stay w c h r p other = refl

-- the texts of references

none_extracted : (n d : ℕ) (reference : List ℕ) (refs : List Extract) → (n == d) ≡ false
    → find (is_extracted d reference) (map (extracted_row n) refs) ≡ None
none_extracted n d reference [] e = refl
none_extracted n d reference (x ∷ xs) e = rw (e, none_extracted n d reference xs e) refl

extracts_stay : (w : Readings) (c : Command) (h : List Command) (d : ℕ) (reference : List ℕ)
    → d ≤ length (documents w h)
    → extracted_text (references w (c ∷ h)) d reference
    ≡ extracted_text (references w h) d reference
extracts_stay w (Import bytes profile) h d reference le =
    let n = length (documents w h) + 1 in
    let new = references_in (result_ok (w.document bytes)) in
    let none = none_extracted n d reference new (later_number (length (documents w h)) d le) in
    ap (option_and_then (λ (row : ExtractedRow). row.body))
    (find_kept (is_extracted d reference) (references w h) (map (extracted_row n) new) none)
extracts_stay w c h d reference le = refl

-- ---- the texts that a bill names are of its packages' documents

in_first_uses : (x : TextOf) (xs : List TextOf) → IsIn x (first_uses xs) → IsIn x xs
in_first_uses x [] m = absurd m
in_first_uses x (t ∷ ts) m =
    elim m [
      | inl same ↦ inl same
      | inr n ↦ inr (in_first_uses x ts
          (from_filter (λ other. not (is_same_text t other)) x (first_uses ts) n).1)
    ]

named_by : (d e : ℕ) (reference id : List ℕ) (o exception : Option (List ℕ))
    → IsIn (Reference e reference)
    (option_map_or (λ named. Reference d named) o (Licence id)
    ∷ option_map_or (λ x. Licence x ∷ []) exception []) → d ≡ e
named_by d e reference id (Some named) exception (inl same) = cc
named_by d e reference id None exception (inl same) = cc
named_by d e reference id o (Some x) (inr (inl same)) = cc
named_by d e reference id o (Some x) (inr (inr m)) = absurd m
named_by d e reference id o None (inr m) = absurd m

-- the document of a row of a package's frozen terms
row_document : (r : List ℕ) (d : ℕ) (p : List ℕ) (row : FrozenRow) → is_frozen_of r d p row ≡ true
    → row.document ≡ d
row_document r d p row e =
    let front = and_left (bytes_eq row.release r && (row.document == d)) (bytes_eq row.package_id p)
    e in
    numbers_equal row.document d (and_right (bytes_eq row.release r) (row.document == d) front)

abbrev pub rows_texts : Readings → List FrozenRow → List TextOf
rows_texts w rows = flat_map (λ (row : FrozenRow). texts_named w row.document row.term) rows

abbrev uses_of : Readings → (PackageRow → List FrozenRow) → List PackageRow → List TextOf
uses_of w terms ps = first_uses (flat_map (λ (p : PackageRow). rows_texts w (terms p)) ps)

named_within : (w : Readings) (h : List Command) (r : List ℕ) (d : ℕ) (reference : List ℕ)
    → IsHistory w h
    → IsIn (Reference d reference) (uses_of w (terms_at w h r) (shipped w h r))
    → d ≤ length (documents w h)
named_within w h r d reference ok m =
    let text = Reference d reference in
    let of_package = λ (p : PackageRow). rows_texts w (terms_at w h r p) in
    let found = from_flat_map of_package text (shipped w h r)
    (in_first_uses text (flat_map of_package (shipped w h r)) m) in
    let p : PackageRow = found.0 in
    let named = from_flat_map (λ (row : FrozenRow). texts_named w row.document row.term) text
    (terms_at w h r p) found.2 in
    let row : FrozenRow = named.0 in
    let own = from_filter (is_frozen_of r p.document p.id) row
    (in_order (below_by frozen_order) (frozen w h)) named.1 in
    let document : row.document ≡ p.document = row_document r p.document p.id row own.0 in
    let same : row.document ≡ d =
    named_by row.document d reference (w.licence_id row.term) (w.reference row.term)
    (w.exception row.term) named.2 in
    subst (λ n. n ≤ length (documents w h)) (sym document ∙ same)
    (shipped_within w h r p ok found.1)

-- ---- the bill

abbrev pub line_with : PackageRow → List (List ℕ) → BillLine
line_with p rules = record {
  name = p.name;
  version = p.version;
  rules = rules;
  copyright = p.copyright;
}

abbrev bill_with : (PackageRow → List FrozenRow) → List PackageRow → List ℕ → Option (List ℕ)
    → List BillText → Bill
bill_with terms ps r form texts = record {
  release = r;
  form = unwrap_or form [];
  lines = map (λ (p : PackageRow). line_with p (map (λ (row : FrozenRow). row.rule) (terms p))) ps;
  texts = texts;
}

abbrev pub bill_at : Readings → List Command → List ℕ → Bill
bill_at w h r =
    bill_of w (revisions h) (references w h) (in_order (below_by frozen_order) (frozen w h))
    (shipped w h r) (release_row h r)

text_same : (w : Readings) (c : Command) (h : List Command) (text : Option (List ℕ)) (t : TextOf)
    → ((d : ℕ) (reference : List ℕ) → t ≡ Reference d reference → d ≤ length (documents w h))
    → bill_text w text (references w (c ∷ h)) t ≡ bill_text w text (references w h) t
text_same w c h text (Licence id) within = refl
text_same w c h text (Reference d reference) within =
    ap (λ body. let found : BillText = record { title = reference; body = body } in found)
    (extracts_stay w c h d reference (within d reference refl))

bill_stays : (w : Readings) (c : Command) (h : List Command) (r : List ℕ) → IsHistory w h
    → touches r c ≡ false
    → bill_at w (c ∷ h) r ≡ bill_at w h r
bill_stays w c h r ok other =
    let text = revision_text (revisions h) (revision_of h r) in
    let new = references w (c ∷ h) in
    let terms = terms_at w (c ∷ h) r in
    let ps = shipped w (c ∷ h) r in
    let uses = uses_of w (terms_at w h r) (shipped w h r) in
    let made =
    λ (text : Option (List ℕ)) (terms : PackageRow → List FrozenRow) (ps : List PackageRow) (form : Option (List ℕ)).
    bill_with terms ps r form (map (bill_text w text new) (uses_of w terms ps)) in
    ap (made (revision_text (revisions (c ∷ h)) (revision_of (c ∷ h) r)) terms ps)
    (form_stays c h r other)
    ∙ (ap (λ text. made text terms ps (form_of h r)) (text_stays c h r other)
    ∙ (ap (λ terms. made text terms ps (form_of h r))
    (fun_ext (λ (p : PackageRow). terms_stay w c h r p other))
    ∙ (ap (λ ps. made text (terms_at w h r) ps (form_of h r)) (ships_stay w c h r ok other)
    ∙ ap (bill_with (terms_at w h r) (shipped w h r) r (form_of h r))
    (map_within (bill_text w text new) (bill_text w text (references w h)) uses (λ t m.
    text_same w c h text t (λ d reference e. named_within w h r d reference ok
    (subst (λ u. IsIn u uses) e m)))))))

-- ---- whatever is recorded while the release is frozen

closed_later : (later h : List Command) (r : List ℕ) → state_of h r ≢ IsOpen
    → state_of (later ++ h) r ≢ IsOpen
closed_later [] h r closed = closed
closed_later (c ∷ later) h r closed = still_closed c (later ++ h) r (closed_later later h r closed)

before_withdrawal : (b : Bool) (o : Option ReleaseState)
    → unwrap_or (or_else (if b then Some Withdrawn else None) o) IsOpen ≡ Frozen
    → unwrap_or o IsOpen ≡ Frozen
before_withdrawal true o e = cc
before_withdrawal false o e = e

before_freeze : (b : Bool) (o : Option ReleaseState) → b ≡ false
    → unwrap_or (or_else (if b then Some Frozen else None) o) IsOpen ≡ Frozen
    → unwrap_or o IsOpen ≡ Frozen
before_freeze true o other e = cc
before_freeze false o other e = e

-- a release that is frozen, and wasn't open before the last command, was frozen then
frozen_before : (w : Readings) (c : Command) (h : List Command) (r : List ℕ)
    → IsTrue (is_recorded (answer w h c))
    → state_of h r ≢ IsOpen → state_of (c ∷ h) r ≡ Frozen → state_of h r ≡ Frozen
frozen_before w (Freeze r' day) h r recorded closed e =
    elim (text_tells r' r) [
      | inl same ↦ absurd (closed (subst (λ n. state_of h n ≡ IsOpen) same.1
          (open_at w h r' day recorded)))
      | inr differ ↦ before_freeze (bytes_eq r' r) (latest (state_given r) h) differ.0 e
    ]
frozen_before w (Withdraw r' day text) h r recorded closed e = before_withdrawal (bytes_eq r' r)
    (latest (state_given r) h) e
frozen_before w c h r recorded closed e = e

pub bill_stands : (w : Readings) (later h : List Command) (r : List ℕ) → IsHistory w (later ++ h)
    → state_of h r ≡ Frozen
    → state_of (later ++ h) r ≡ Frozen
    → queried w (later ++ h) (query.Bill r) ≡ queried w h (query.Bill r)
bill_stands w [] h r ok frozen still = refl
bill_stands w (c ∷ later) h r ok frozen still =
    let hs = later ++ h in
    let closed : state_of h r ≢ IsOpen = λ e. (let no : IsOpen ≡ Frozen = sym e ∙ frozen in cc) in
    let before : state_of hs r ≡ Frozen =
    frozen_before w c hs r ok.0 (closed_later later h r closed) still in
    let other : touches r c ≡ false = untouched w c hs r ok.1 ok.0 before in
    let told = λ (form : Option (List ℕ)) (bill : Bill) (state : ReleaseState).
    if is_some form then bill_answer bill state else answered.Refused why.UnknownRelease in
    ap (λ form. told form (bill_at w (c ∷ hs) r) (state_of (c ∷ hs) r)) (form_stays c hs r other)
    ∙ (ap (λ bill. told (form_of hs r) bill (state_of (c ∷ hs) r)) (bill_stays w c hs r ok.1 other)
    ∙ (ap (told (form_of hs r) (bill_at w hs r)) (still ∙ sym before)
    ∙ bill_stands w later h r ok.1 frozen before))
