-- The desk's tables: what is in them after a history, and what each change of rows leaves.
use Rattle.std.specs.Prelude.{ℕ, Bool, not, List, [], ◌∷◌, ◌++◌, filter, map}
use Rattle.desk_model.specs.Lists.{put, put_all, updated, replaced, in_order}
use Rattle.desk_model.specs.Readings.{Readings}
use Rattle.desk_model.specs.Keys.{release_below, choice_order, frozen_order, change_below, below_by}
use Rattle.desk_model.specs.Keys.{attached_order, conclusion_order, adoption_order, is_release}
use Rattle.desk_model.specs.Keys.{is_duty, is_choice_of, is_choice_in, is_conclusion, is_adoption}
use Rattle.desk_model.specs.History.{revisions, in_force, forms_in, rule_rows, documents, packages}
use Rattle.desk_model.specs.History.{references, opened, names, place_in, form_of, state_of}
use Rattle.desk_model.specs.History.{revision_of, attached, term_set}
use Rattle.desk_model.specs.Conclusions.{conclusions, adoptions}
use Rattle.desk_model.specs.Raised.{frozen}
use Rattle.desk_model.specs.Moves.{duties, all_changes}
use Rattle.desk_model.specs.States.{state_after}
use Rattle.std.specs.Prelude.{unwrap_or}
use Rattle.desk_model.specs.declared.row.CatalogueRow.{CatalogueRow}
use Rattle.desk_model.specs.declared.row.RuleRow.{RuleRow}
use Rattle.desk_model.specs.declared.row.DocumentRow.{DocumentRow}
use Rattle.desk_model.specs.declared.row.PackageRow.{PackageRow}
use Rattle.desk_model.specs.declared.row.ExtractedRow.{ExtractedRow}
use Rattle.desk_model.specs.declared.row.ConclusionRow.{ConclusionRow}
use Rattle.desk_model.specs.declared.row.AdoptionRow.{AdoptionRow}
use Rattle.desk_model.specs.declared.row.ReleaseRow.{ReleaseRow}
use Rattle.desk_model.specs.declared.row.AttachedRow.{AttachedRow}
use Rattle.desk_model.specs.declared.row.ChoiceRow.{ChoiceRow}
use Rattle.desk_model.specs.declared.row.FrozenRow.{FrozenRow}
use Rattle.desk_model.specs.declared.row.DutyRow.{DutyRow}
use Rattle.desk_model.specs.declared.row.ChangeRow.{ChangeRow}
use Rattle.desk_model.specs.declared.state.ReleaseState.{ReleaseState}
use Rattle.desk_model.specs.declared.state.ReleaseState.TheVariants.{Frozen, Withdrawn}
use Rattle.desk_model.specs.declared.state.DutyState.{DutyState}
use Rattle.desk_model.specs.declared.command.Change.{Change}
use Rattle.desk_model.specs.declared.command.Change.TheVariants as change
use Rattle.desk_model.specs.declared.command.Command.{Command}
use Rattle.desk_model.specs.declared.command.Command.TheVariants.{Choose, Unchoose, Withdraw}

-- all rows, each list sorted by its key; and the forms of the catalogue in force, which only its
-- body has
pub record Tables : Type 0 where
  pub catalogue : List CatalogueRow
  pub forms : List (List ℕ)
  pub rule : List RuleRow
  pub document : List DocumentRow
  pub packages : List PackageRow
  pub extracted : List ExtractedRow
  pub conclusion : List ConclusionRow
  pub adoption : List AdoptionRow
  pub releases : List ReleaseRow
  pub attached : List AttachedRow
  pub choice : List ChoiceRow
  pub frozen : List FrozenRow
  pub duty : List DutyRow
  pub changes : List ChangeRow

-- the row of a release that was opened
abbrev pub release_row : List Command → List ℕ → ReleaseRow
release_row h r = record {
  name = r;
  place = place_in (opened h) r;
  form = unwrap_or (form_of h r) [];
  state = state_of h r;
  revision = revision_of h r;
}

-- the releases by name
abbrev pub release_rows : List Command → List ReleaseRow
release_rows h = map (release_row h) (names h)

-- one chosen term of a package in a release
abbrev pub choice_row : List ℕ → ℕ → List ℕ → List ℕ → ChoiceRow
choice_row r d p term = record { release = r; document = d; package_id = p; term = term }

-- a choice for another package, or in another release
abbrev pub is_other_choice : List ℕ → ℕ → List ℕ → ChoiceRow → Bool
is_other_choice r d p row = not (is_choice_of r d p row)

-- a choice in another release
abbrev pub is_choice_elsewhere : List ℕ → ChoiceRow → Bool
is_choice_elsewhere r row = not (is_choice_in r row)

-- the choices in force: a later choice for the same package replaces an earlier one, and a
-- withdrawn release holds none
abbrev pub standing : Readings → List Command → List ChoiceRow
standing w [] = []
standing w (Choose r d p texts ∷ h) = map (choice_row r d p) (term_set w texts)
    ++ filter (is_other_choice r d p) (standing w h)
standing w (Unchoose r d p ∷ h) = filter (is_other_choice r d p) (standing w h)
standing w (Withdraw r day text ∷ h) = filter (is_choice_elsewhere r) (standing w h)
standing w (_ ∷ h) = standing w h

-- the choices in force, by release, document, package and term
abbrev pub choices : Readings → List Command → List ChoiceRow
choices w h = in_order (below_by choice_order) (standing w h)

-- what is in the tables after a history, each list sorted by its key
abbrev pub tables : Readings → List Command → Tables
tables w h = record {
  catalogue = revisions h;
  forms = forms_in (in_force w h);
  rule = rule_rows w h;
  document = documents w h;
  packages = packages w h;
  extracted = references w h;
  conclusion = conclusions h;
  adoption = adoptions w h;
  releases = release_rows h;
  attached = attached h;
  choice = choices w h;
  frozen = in_order (below_by frozen_order) (frozen w h);
  duty = duties w h;
  changes = all_changes w h;
}

-- a release in another state, with the revision of its freeze
abbrev pub with_release_state : ReleaseState → ℕ → ReleaseRow → ReleaseRow
with_release_state state revision row = record row { state = state; revision = revision }

-- a release in the state Withdrawn; the revision of its freeze stays
abbrev pub withdrawn_release : ReleaseRow → ReleaseRow
withdrawn_release row = record row { state = Withdrawn }

-- a duty in another state
abbrev pub with_duty_state : DutyState → DutyRow → DutyRow
with_duty_state state row = record row { state = state }

-- the duties, each of them that has a change in the state in which that leaves it
abbrev pub moved_by : List ChangeRow → List DutyRow → List DutyRow
moved_by [] rows = rows
moved_by (change ∷ changes) rows = updated (is_duty change.duty)
    (with_duty_state (state_after change.word)) (moved_by changes rows)

-- the tables after a change
abbrev pub applied : Change → Tables → Tables
applied (change.Loaded row rules forms) t = record t {
  catalogue = t.catalogue ++ row ∷ [];
  rule = t.rule ++ rules;
  forms = forms;
}
applied (change.Imported row ps refs) t = record t {
  document = t.document ++ row ∷ [];
  packages = t.packages ++ ps;
  extracted = t.extracted ++ refs;
}
applied (change.Opened row) t = record t { releases = put release_below row t.releases }
applied (change.Attached row) t = record t {
  attached = put (below_by attached_order) row
      t.attached;
}
applied (change.Chosen r d p rows) t = record t {
  choice = put_all (below_by choice_order) rows
      (filter (is_other_choice r d p) t.choice);
}
applied (change.Froze r revision rows new moved) t = record t {
  releases = updated (is_release r) (with_release_state Frozen revision) t.releases;
  frozen = put_all (below_by frozen_order) rows t.frozen;
  duty = t.duty ++ new;
  changes = t.changes ++ moved;
}
applied (change.Moved moved) t = record t {
  duty = moved_by moved t.duty;
  changes = put_all change_below moved t.changes;
}
applied (change.Withdrew r moved) t = record t {
  releases = updated (is_release r) withdrawn_release t.releases;
  choice = filter (is_choice_elsewhere r) t.choice;
  duty = moved_by moved t.duty;
  changes = put_all change_below moved t.changes;
}
applied (change.Concluded row) t = record t {
  conclusion = replaced (below_by conclusion_order)
      (is_conclusion row.document row.package_id) row t.conclusion;
}
applied (change.Adopted row) t = record t {
  adoption = replaced (below_by adoption_order)
      (is_adoption row.document row.reference) row t.adoption;
}
