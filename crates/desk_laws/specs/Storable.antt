-- Texts that the cells of a file can hold.
use Rattle.std.specs.Prelude.{ℕ, ◌^◌, ◌≤◌, List, [], ◌∷◌, length, IfSome, IsUtf8}
use Rattle.std.specs.List.{AllByRecursion}
use Rattle.desk_model.specs.Tables.{Tables}
use Rattle.desk_sql_layout.specs.Cells.{joined}

-- a text in UTF-8 of at most a hundred million bytes
abbrev pub IsShort : List ℕ → Type 0
IsShort text = IsUtf8 text × (length text ≤ 10 ^ 8)

-- each of these texts is one
abbrev pub AreShort : List (List ℕ) → Type 0
AreShort = AllByRecursion IsShort

-- Each text of each row is as short as that, and no document has more bytes. Nothing is said of
-- optional texts that a row lacks.
pub record HaveShortTexts (t : Tables) : Type 0 where
  pub catalogue : AllByRecursion (λ row. IsShort row.body) t.catalogue
  pub rule : AllByRecursion (λ row. AreShort
      (row.term ∷ row.form ∷ row.spelled ∷ joined row.codes ∷ [])) t.rule
  pub document : AllByRecursion (λ row. IsShort row.namespace × (length row.bytes ≤ 10 ^ 8))
      t.document
  pub packages : AllByRecursion
      (λ row. AreShort (row.id ∷ row.name ∷ []) × IfSome row.version IsShort
      × IfSome row.concluded IsShort × IfSome row.copyright IsShort) t.packages
  pub extracted : AllByRecursion (λ row. IsShort row.reference × IfSome row.body IsShort)
      t.extracted
  pub conclusion : AllByRecursion (λ row. AreShort (row.package_id ∷ row.expression ∷ []))
      t.conclusion
  pub adoption : AllByRecursion (λ row. AreShort (row.reference ∷ row.licence ∷ [])) t.adoption
  pub releases : AllByRecursion (λ row. AreShort (row.name ∷ row.form ∷ [])) t.releases
  pub attached : AllByRecursion (λ row. IsShort row.release) t.attached
  pub choice : AllByRecursion (λ row. AreShort (row.release ∷ row.package_id ∷ row.term ∷ []))
      t.choice
  pub frozen : AllByRecursion (λ row. AreShort
      (row.release ∷ row.package_id ∷ row.term ∷ row.rule ∷ [])) t.frozen
  pub duty : AllByRecursion (λ row. AreShort
      (row.release ∷ row.package_id ∷ row.term ∷ row.code ∷ row.rule ∷ [])) t.duty
  pub changes : AllByRecursion (λ row. IsShort row.body) t.changes
