-- The rows of the duty table and of the frozen terms, in the subject's own words.
use Rattle.std.specs.Prelude.{◌≡◌, ℕ, List}
use Rattle.desk_model.specs.Readings.{Readings}
use Rattle.desk_model.specs.Raised.{IsRaised}
use Rattle.desk_model.specs.Moves.{place}
use Rattle.desk_model.specs.declared.row.Owed.{Owed}
use Rattle.desk_model.specs.declared.row.DutyRow.{DutyRow}
use Rattle.desk_model.specs.declared.row.FrozenRow.{FrozenRow}
use Rattle.desk_model.specs.declared.command.Command.{Command}
use Rattle.desk_history.specs.Laws.{IsNumbered}

-- A row of the duty table: a freeze raised this duty, and it has the row's number. The row has the
-- duty's release, document, package, term and code and the rule as it is spelled, and the state in
-- which the moves of the duty with this number left it.
pub record IsDutyRow (w : Readings) (h : List Command) (row : DutyRow) : Type 0 where
  pub duty : Owed
  pub raised : IsRaised w h duty
  pub numbered : IsNumbered w h (row.number, duty)
  pub release : row.release ≡ duty.release
  pub document : row.document ≡ duty.document
  pub package_id : row.package_id ≡ duty.package_id
  pub term : row.term ≡ duty.term
  pub code : row.code ≡ duty.code
  pub rule : row.rule ≡ duty.rule
  pub state : row.state ≡ place w h row.number

-- a term that a release was frozen with for a package of a document, and its rule as it was spelled
abbrev pub frozen_row : List ℕ → ℕ → List ℕ → List ℕ → List ℕ → FrozenRow
frozen_row r d p term rule = record {
  release = r;
  document = d;
  package_id = p;
  term = term;
  rule = rule;
}
