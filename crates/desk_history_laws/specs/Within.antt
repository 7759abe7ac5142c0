-- How many rows there are, and what they name.
use Rattle.std.specs.Prelude.{◌+◌, ◌≤◌, length, IfSome, IsTrue}
use Rattle.std.specs.List.{AllByRecursion}
use Rattle.desk_base.specs.Day.{is_day}
use Rattle.desk_base.specs.Limits as most
use Rattle.desk_model.specs.Tables.{Tables}

-- There are no more revisions, documents, releases and duties than may be, and each row names one
-- that exists, by its number. A duty has at most two changes past the limit, the end of a waiver
-- and a withdrawal. The days of changes exist.
pub record AreWithin (t : Tables) : Type 0 where
  pub revisions : length t.catalogue ≤ most.revisions
  pub documents : length t.document ≤ most.documents
  pub releases : length t.releases ≤ most.releases
  pub duties : length t.duty ≤ most.duties
  pub catalogue : AllByRecursion (λ row. row.revision ≤ length t.catalogue) t.catalogue
  pub rule : AllByRecursion (λ row. row.revision ≤ length t.catalogue) t.rule
  pub document : AllByRecursion (λ row. row.number ≤ length t.document) t.document
  pub packages : AllByRecursion (λ row. row.document ≤ length t.document) t.packages
  pub extracted : AllByRecursion (λ row. row.document ≤ length t.document) t.extracted
  pub conclusion : AllByRecursion (λ row. row.document ≤ length t.document) t.conclusion
  pub adoption : AllByRecursion (λ row. row.document ≤ length t.document) t.adoption
  pub places : AllByRecursion (λ row. row.place ≤ length t.releases) t.releases
  pub frozen_by : AllByRecursion (λ row. row.revision ≤ length t.catalogue) t.releases
  pub attached : AllByRecursion (λ row. row.document ≤ length t.document) t.attached
  pub choice : AllByRecursion (λ row. row.document ≤ length t.document) t.choice
  pub frozen : AllByRecursion (λ row. row.document ≤ length t.document) t.frozen
  pub duty : AllByRecursion (λ row. row.number ≤ length t.duty) t.duty
  pub owed : AllByRecursion (λ row. row.document ≤ length t.document) t.duty
  pub changes : AllByRecursion (λ row. row.duty ≤ length t.duty) t.changes
  pub steps : AllByRecursion (λ row. row.step ≤ most.changes + 2) t.changes
  pub days : AllByRecursion (λ row. IsTrue (is_day row.day)) t.changes
  pub last_days : AllByRecursion (λ row. IfSome row.last_day (λ day. IsTrue (is_day day))) t.changes
