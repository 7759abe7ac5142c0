-- The cells of rows within the limits, with short texts, are small and as a desk writes them.
use Rattle.std.proofs.Common.{◌≡◌, ℕ, ◌^◌, ◌≤◌, Bool, true, false, List, [], ◌∷◌, length, map}
use Rattle.std.proofs.Common.{filter, Option, Some, None, refl, subst, arith, inl, inr}
use Rattle.std.specs.Prelude.{codes, IfSome, IsTrue, IsUtf8, ◌==◌, if◌then◌else◌, nat_lt}
use Rattle.std.specs.List.{AllByRecursion, list_all}
use Rattle.std.proofs.lemmas.Str.{IsUtf8-from_ascii}
use Rattle.desk_base.proofs.Days.{ten_bytes, written_day_is_text}
use Rattle.desk_base.proofs.Texts.{are_ascii}
use Rattle.sqlite_value.specs.declared.value.Value.{Value}
use Rattle.sqlite_value.specs.declared.value.Value.TheVariants.{Text}
use Rattle.sqlite_value.specs.Order.{Row}
use Rattle.sqlite_schema.specs.declared.schema.Table.{Table}
use Rattle.desk_base.specs.Day.{is_day}
use Rattle.desk_base.specs.Profiles.{profile_number}
use Rattle.desk_base.specs.declared.profile.Profile.{Profile}
use Rattle.desk_base.specs.declared.profile.Profile.TheVariants.{Capitals, Either}
use Rattle.desk_model.specs.Lists.{IsIn}
use Rattle.desk_model.specs.Names.{duty_state_name, release_state_name, word_name}
use Rattle.desk_model.specs.Tables.{Tables}
use Rattle.desk_model.specs.declared.row.ChangeRow.{ChangeRow}
use Rattle.desk_model.specs.declared.state.DutyState.{DutyState}
use Rattle.desk_model.specs.declared.state.DutyState.TheVariants as duty
use Rattle.desk_model.specs.declared.state.ReleaseState.{ReleaseState}
use Rattle.desk_model.specs.declared.state.ReleaseState.TheVariants as release
use Rattle.desk_model.specs.declared.state.Word.{Word}
use Rattle.desk_model.specs.declared.state.Word.TheVariants as word
use Rattle.desk_model.specs.Moves.{is_waiver}
use Rattle.desk_history_laws.specs.OwnKeys.{HaveOwnKeys}
use Rattle.desk_history_laws.specs.Within.{AreWithin}
use Rattle.desk_sql_layout.specs.Cells.{adoption_cells, attached_cells, catalogue_cells}
use Rattle.desk_sql_layout.specs.Cells.{change_cells, choice_cells, conclusion_cells}
use Rattle.desk_sql_layout.specs.Cells.{document_cells, duty_cells, extracted_cells, frozen_cells}
use Rattle.desk_sql_layout.specs.Cells.{meta_cells, number, package_cells, reading_cells}
use Rattle.desk_sql_layout.specs.Cells.{release_cells, rule_cells, text_or_null, waiver_cells}
use Rattle.desk_sql_layout.specs.Held.{rows_of}
use Rattle.desk_sql_layout.specs.Layout.{desk_schema}
use Rattle.desk_sql_layout.specs.Causes.{AreWritten, IsRow, IsWritten}
use Rattle.desk_sql_write.specs.Taking.{CanStand, IsSmall}
use Rattle.desk_laws.specs.Storable.{HaveShortTexts, IsShort}
use Rattle.desk_laws.proofs.StandOnce.{have_keys}
use Rattle.desk_history.proofs.Distinct.{from_filter}

-- ---- cells

abbrev Fits : Value → Type 0
Fits v = IsSmall v × IsWritten v

abbrev FitsRow : Row → Type 0
FitsRow = AllByRecursion Fits

number_fits : (n m : ℕ) → n ≤ m → m ≤ 10 ^ 6 → Fits (number n)
number_fits n m a b = (omega (arith, a, b), omega (arith, a, b))

text_fits : (text : List ℕ) → IsShort text → Fits (Text text)
text_fits text short = (short.1, short.0)

null_fits : (text : Option (List ℕ)) → IfSome text IsShort → Fits (text_or_null text)
null_fits None short = (tt, tt)
null_fits (Some text) short = text_fits text short

profile_fits : (p : Profile) → Fits (number (profile_number p))
profile_fits Capitals = (omega arith, omega arith)
profile_fits Either = (omega arith, omega arith)

shipped_fits : (b : Bool) → Fits (number (if b then 1 else 0))
shipped_fits true = (omega arith, omega arith)
shipped_fits false = (omega arith, omega arith)

plain : (bs : List ℕ) → list_all (λ b. nat_lt b 128) bs ≡ true → IsUtf8 bs
plain bs e = IsUtf8-from_ascii bs (are_ascii bs e)

day_short : (day : List ℕ) → IsTrue (is_day day) → IsShort day
day_short day is = (written_day_is_text day is, omega (arith, ten_bytes day is))

release_fits : (s : ReleaseState) → Fits (Text (release_state_name s))
release_fits release.IsOpen = (omega arith, plain (codes "open") refl)
release_fits release.Frozen = (omega arith, plain (codes "frozen") refl)
release_fits release.Withdrawn = (omega arith, plain (codes "withdrawn") refl)

duty_fits : (s : DutyState) → Fits (Text (duty_state_name s))
duty_fits duty.IsOpen = (omega arith, plain (codes "open") refl)
duty_fits duty.Met = (omega arith, plain (codes "met") refl)
duty_fits duty.Waived = (omega arith, plain (codes "waived") refl)
duty_fits duty.Withdrawn = (omega arith, plain (codes "withdrawn") refl)

word_fits : (w : Word) → Fits (Text (word_name w))
word_fits word.Raised = (omega arith, plain (codes "raised") refl)
word_fits word.Met = (omega arith, plain (codes "met") refl)
word_fits word.Waived = (omega arith, plain (codes "waived") refl)
word_fits word.Reopened = (omega arith, plain (codes "reopened") refl)
word_fits word.Withdrawn = (omega arith, plain (codes "withdrawn") refl)
word_fits word.Ended = (omega arith, plain (codes "ended") refl)

-- ---- rows

got : {A : Type 0} (P : A → Type 0) (xs : List A) → AllByRecursion P xs → (x : A) → IsIn x xs → P x
got P [] all x m = absurd m
got P (y ∷ ys) all x (inl same) = subst P same all.0
got P (y ∷ ys) all x (inr m) = got P ys all.1 x m

rows_fit : {A : Type 0} (cells : A → Row) (xs : List A) → ((x : A) → IsIn x xs → FitsRow (cells x))
    → AllByRecursion FitsRow (map cells xs)
rows_fit cells [] each = tt
rows_fit cells (x ∷ xs) each = (each x (inl refl), rows_fit cells xs (λ y m. each y (inr m)))

turned : {A : Type 0} (P Q : A → Type 0) (xs : List A) → ((x : A) → P x → Q x) → AllByRecursion P xs
    → AllByRecursion Q xs
turned P Q [] turn all = tt
turned P Q (x ∷ xs) turn all = (turn x all.0, turned P Q xs turn all.1)

pick : (P : List Row → Type 0) (b : Bool) (x y : List Row) → P x → P y → P (if b then x else y)
pick P true x y p q = p
pick P false x y p q = q

module _ (t : Tables) (short : HaveShortTexts t) (w : AreWithin t) where
  revision : (n : ℕ) → n ≤ length t.catalogue → Fits (number n)
  revision n le = number_fits n (length t.catalogue) le (omega (arith, w.revisions))

  document : (n : ℕ) → n ≤ length t.document → Fits (number n)
  document n le = number_fits n (length t.document) le (omega (arith, w.documents))

  meta : AllByRecursion FitsRow (meta_cells ∷ [])
  meta = (((omega arith, omega arith), tt), tt)

  catalogue : AllByRecursion FitsRow (map catalogue_cells t.catalogue)
  catalogue = rows_fit catalogue_cells t.catalogue
      (λ row m. (
        revision row.revision (got _ _ w.catalogue row m),
        (text_fits row.body (got _ _ short.catalogue row m), tt),
      ))

  rules : AllByRecursion FitsRow (map rule_cells t.rule)
  rules = rows_fit rule_cells t.rule (λ row m.
      let texts = got _ _ short.rule row m in
      (revision row.revision (got _ _ w.rule row m), (text_fits _ texts.0, (text_fits _ texts.1.0, (text_fits _ texts.1.1.0, (text_fits _ texts.1.1.1.0, tt))))))

  documents : AllByRecursion FitsRow (map document_cells t.document)
  documents = rows_fit document_cells t.document (λ row m.
      let texts = got _ _ short.document row m in (
        document row.number (got _ _ w.document row m),
        (text_fits row.namespace texts.0, ((texts.1, tt), tt)),
      ))

  packages : AllByRecursion FitsRow (map package_cells t.packages)
  packages = rows_fit package_cells t.packages (λ row m.
      let texts = got _ _ short.packages row m in (
        document row.document (got _ _ w.packages row m),
        (
          text_fits row.id texts.0.0,
          (
            text_fits row.name texts.0.1.0,
            (null_fits row.version texts.1, (null_fits row.concluded texts.2, (null_fits row.copyright texts.3, (shipped_fits row.shipped, tt)))),
          ),
        ),
      ))

  extracted : AllByRecursion FitsRow (map extracted_cells t.extracted)
  extracted = rows_fit extracted_cells t.extracted (λ row m.
      let texts = got _ _ short.extracted row m in (
        document row.document (got _ _ w.extracted row m),
        (text_fits row.reference texts.0, (null_fits row.body texts.1, tt)),
      ))

  conclusions : AllByRecursion FitsRow (map conclusion_cells t.conclusion)
  conclusions = rows_fit conclusion_cells t.conclusion (λ row m.
      let texts = got _ _ short.conclusion row m in (
        document row.document (got _ _ w.conclusion row m),
        (text_fits row.package_id texts.0, (text_fits row.expression texts.1.0, tt)),
      ))

  adoptions : AllByRecursion FitsRow (map adoption_cells t.adoption)
  adoptions = rows_fit adoption_cells t.adoption (λ row m.
      let texts = got _ _ short.adoption row m in (
        document row.document (got _ _ w.adoption row m),
        (text_fits row.reference texts.0, (text_fits row.licence texts.1.0, tt)),
      ))

  releases : AllByRecursion FitsRow (map release_cells t.releases)
  releases = rows_fit release_cells t.releases (λ row m.
      let texts = got _ _ short.releases row m in (
        text_fits row.name texts.0,
        (
          number_fits row.place (length t.releases) (got _ _ w.places row m)
              (omega (arith, w.releases)),
          (
            text_fits row.form texts.1.0,
            (release_fits row.state, (revision row.revision (got _ _ w.frozen_by row m), tt)),
          ),
        ),
      ))

  attached : AllByRecursion FitsRow (map attached_cells t.attached)
  attached = rows_fit attached_cells t.attached
      (λ row m. (
        text_fits row.release (got _ _ short.attached row m),
        (document row.document (got _ _ w.attached row m), tt),
      ))

  choices : AllByRecursion FitsRow (map choice_cells t.choice)
  choices = rows_fit choice_cells t.choice (λ row m.
      let texts = got _ _ short.choice row m in
      (text_fits row.release texts.0, (document row.document (got _ _ w.choice row m), (text_fits row.package_id texts.1.0, (text_fits row.term texts.1.1.0, tt)))))

  frozen : AllByRecursion FitsRow (map frozen_cells t.frozen)
  frozen = rows_fit frozen_cells t.frozen (λ row m.
      let texts = got _ _ short.frozen row m in
      (text_fits row.release texts.0, (document row.document (got _ _ w.frozen row m), (text_fits row.package_id texts.1.0, (text_fits row.term texts.1.1.0, (text_fits row.rule texts.1.1.1.0, tt))))))

  duties : AllByRecursion FitsRow (map duty_cells t.duty)
  duties = rows_fit duty_cells t.duty (λ row m.
      let texts = got _ _ short.duty row m in (
        number_fits row.number (length t.duty) (got _ _ w.duty row m) (omega (arith, w.duties)),
        (
          text_fits row.release texts.0,
          (
            document row.document (got _ _ w.owed row m),
            (text_fits row.package_id texts.1.0, (text_fits row.term texts.1.1.0, (text_fits row.code texts.1.1.1.0, (text_fits row.rule texts.1.1.1.1.0, (duty_fits row.state, tt))))),
          ),
        ),
      ))

  number_of : (row : ChangeRow) → IsIn row t.changes → Fits (number row.duty)
  number_of row m = number_fits row.duty (length t.duty) (got _ _ w.changes row m)
      (omega (arith, w.duties))

  step : (row : ChangeRow) → IsIn row t.changes → Fits (number row.step)
  step row m = number_fits row.step 1001 (omega (arith, got _ _ w.steps row m)) (omega arith)

  changes : AllByRecursion FitsRow (map change_cells t.changes)
  changes = rows_fit change_cells t.changes (λ row m.
      (number_of row m, (step row m, (text_fits row.day (day_short row.day (got _ _ w.days row m)), (word_fits row.word, (text_fits row.body (got _ _ short.changes row m), tt))))))

  profiles : AllByRecursion FitsRow (map reading_cells t.document)
  profiles = rows_fit reading_cells t.document
      (λ row m. (document row.number (got _ _ w.document row m), (profile_fits row.profile, tt)))

  end_short : (end : Option (List ℕ)) → IfSome end (λ day. IsTrue (is_day day)) → IfSome end IsShort
  end_short None days = tt
  end_short (Some day) days = day_short day days

  waivers : AllByRecursion FitsRow (map waiver_cells (filter is_waiver t.changes))
  waivers = rows_fit waiver_cells (filter is_waiver t.changes) (λ row m.
      let there = (from_filter is_waiver row t.changes m).0 in (
        number_of row there,
        (
          step row there,
          (null_fits row.last_day (end_short row.last_day (got _ _ w.last_days row there)), tt),
        ),
      ))

  fit : (tree : ℕ) → AllByRecursion FitsRow (rows_of t tree)
  fit tree =
      let P = AllByRecursion FitsRow in
      pick P (tree == 0) _ _ meta (pick P (tree == 1) _ _ catalogue
      (pick P (tree == 2) _ _ rules
      (pick P (tree == 4) _ _ documents (pick P (tree == 6) _ _ packages
      (pick P (tree == 8) _ _ extracted
      (pick P (tree == 10) _ _ conclusions
      (pick P (tree == 12) _ _ adoptions
      (pick P (tree == 14) _ _ releases (pick P (tree == 17) _ _ attached
      (pick P (tree == 19) _ _ choices
      (pick P (tree == 21) _ _ frozen
      (pick P (tree == 23) _ _ duties
      (pick P (tree == 25) _ _ changes (pick P (tree == 27) _ _ profiles waivers))))))))))))))

  small_rows : (rows : List Row) → AllByRecursion FitsRow rows
      → AllByRecursion (AllByRecursion IsSmall) rows
  small_rows rows = turned FitsRow (AllByRecursion IsSmall) rows
      (λ row. turned Fits IsSmall row (λ v fits. fits.0))

  all_small : (tables : List Table)
      → AllByRecursion (λ (table : Table). AllByRecursion (AllByRecursion IsSmall)
      (rows_of t table.tree)) tables
  all_small [] = tt
  all_small (table ∷ tables) = (
    small_rows (rows_of t table.tree) (fit table.tree),
    all_small tables,
  )

  pub stand : HaveOwnKeys t → CanStand (rows_of t)
  stand own = record { small = all_small desk_schema.tables; keys = have_keys t own }

  pub written : AreWritten t
  written = record {
    cells = λ tree. turned FitsRow IsRow (rows_of t tree)
        (λ row. turned Fits IsWritten row (λ v fits. fits.1)) (fit tree);
    days = w.days;
    last_days = w.last_days;
  }
