-- What the steps of opening a release, and of attaching to it, have found.
use Rattle.std.specs.Prelude.{ℕ, List, [], ◌∷◌, length, nat_lt, not}
use Rattle.std.specs.List.{list_any}
use Rattle.desk_base.specs.Limits as most
use Rattle.desk_model.specs.Keys.{is_attachment}
use Rattle.desk_model.specs.History.{attached_to}
use Rattle.desk_model.specs.Tables.{Tables}
use Rattle.desk_model.specs.Answers.{refused_first, unless, unready}
use Rattle.desk_model.specs.declared.row.AttachedRow.{AttachedRow}
use Rattle.desk_model.specs.declared.state.ReleaseState.{ReleaseState}
use Rattle.desk_model.specs.declared.refusal.Limit.TheVariants as limit
use Rattle.desk_model.specs.declared.refusal.Refusal.TheVariants as why
use Rattle.desk_model.specs.declared.command.Answer.{Answer}
use Rattle.desk_model.specs.declared.command.Answer.TheVariants as answered

-- of a name that is free, beside so many releases
abbrev pub open_next : ℕ → Answer
open_next releases = refused_first
    (unless (nat_lt releases most.releases) (why.Full limit.Releases) ∷ []) answered.Done

-- the row that an Attach adds
abbrev pub attached_row : List ℕ → ℕ → AttachedRow
attached_row r d = record { release = r; document = d }

-- of a document that was found, to a release in this state
abbrev pub attach_in : Tables → ReleaseState → List ℕ → ℕ → Answer
attach_in t state r d = refused_first (
    unready state
    ∷ unless (not (list_any (is_attachment r d) t.attached)) why.AlreadyAttached
    ∷ unless (nat_lt (length (attached_to t.attached r)) most.attached) (why.Full limit.Attached)
    ∷ []) answered.Done
