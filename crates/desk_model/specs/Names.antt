-- The names by which replies and tables show refusals, states, words of changes, limits and the
-- parts of a catalogue.
use Rattle.std.specs.Prelude.{ℕ, List, [], ◌∷◌, Option, codes, find}
use Rattle.std.specs.Str.{bytes_eq}
use Rattle.desk_model.specs.declared.refusal.CataloguePart.{CataloguePart}
use Rattle.desk_model.specs.declared.refusal.CataloguePart.TheVariants as part
use Rattle.desk_model.specs.declared.refusal.Limit.{Limit}
use Rattle.desk_model.specs.declared.refusal.Limit.TheVariants as limit
use Rattle.desk_model.specs.declared.refusal.Refusal.{Refusal}
use Rattle.desk_model.specs.declared.refusal.Refusal.TheVariants as why
use Rattle.desk_model.specs.declared.state.DutyState.{DutyState}
use Rattle.desk_model.specs.declared.state.DutyState.TheVariants as duty
use Rattle.desk_model.specs.declared.state.ReleaseState.{ReleaseState}
use Rattle.desk_model.specs.declared.state.ReleaseState.TheVariants as release
use Rattle.desk_model.specs.declared.state.Word.{Word}
use Rattle.desk_model.specs.declared.state.Word.TheVariants as word

-- the word of a change, as change rows and replies show it
abbrev pub word_name : Word → List ℕ
word_name word.Raised = codes "raised"
word_name word.Met = codes "met"
word_name word.Waived = codes "waived"
word_name word.Reopened = codes "reopened"
word_name word.Withdrawn = codes "withdrawn"
word_name word.Ended = codes "ended"

-- the name of a refusal, as replies give it beside its number
abbrev pub refusal_name : Refusal → List ℕ
refusal_name (why.BadCatalogue a) = codes "BadCatalogue"
refusal_name (why.BadDocument a) = codes "BadDocument"
refusal_name (why.NamespaceTaken a) = codes "NamespaceTaken"
refusal_name why.UnknownDocument = codes "UnknownDocument"
refusal_name why.UnknownPackage = codes "UnknownPackage"
refusal_name (why.BadExpression a) = codes "BadExpression"
refusal_name (why.Chosen a) = codes "Chosen"
refusal_name (why.BadTerm a) = codes "BadTerm"
refusal_name why.BadName = codes "BadName"
refusal_name why.NameTaken = codes "NameTaken"
refusal_name why.UnknownForm = codes "UnknownForm"
refusal_name why.UnknownRelease = codes "UnknownRelease"
refusal_name (why.ReleaseState a) = codes "ReleaseState"
refusal_name why.AlreadyAttached = codes "AlreadyAttached"
refusal_name why.NotShipped = codes "NotShipped"
refusal_name (why.NoConclusion a b) = codes "NoConclusion"
refusal_name why.NotEnough = codes "NotEnough"
refusal_name (why.NotMinimal a) = codes "NotMinimal"
refusal_name (why.NoChoice a b) = codes "NoChoice"
refusal_name why.EmptyRelease = codes "EmptyRelease"
refusal_name (why.NotAdopted a b) = codes "NotAdopted"
refusal_name (why.NoRule a b c) = codes "NoRule"
refusal_name why.UnknownDuty = codes "UnknownDuty"
refusal_name (why.DutyState a) = codes "DutyState"
refusal_name why.BadText = codes "BadText"
refusal_name why.BadDay = codes "BadDay"
refusal_name (why.Full a) = codes "Full"
refusal_name why.TooMany = codes "TooMany"
refusal_name why.TooManyTerms = codes "TooManyTerms"
refusal_name why.BadEnd = codes "BadEnd"

-- the state of a release, as tables and replies show it
abbrev pub release_state_name : ReleaseState → List ℕ
release_state_name release.IsOpen = codes "open"
release_state_name release.Frozen = codes "frozen"
release_state_name release.Withdrawn = codes "withdrawn"

-- the state of a duty, as tables and replies show it
abbrev pub duty_state_name : DutyState → List ℕ
duty_state_name duty.IsOpen = codes "open"
duty_state_name duty.Met = codes "met"
duty_state_name duty.Waived = codes "waived"
duty_state_name duty.Withdrawn = codes "withdrawn"

-- the limit that the refusal Full names: what there is no room for
abbrev pub limit_name : Limit → List ℕ
limit_name limit.Revisions = codes "revisions"
limit_name limit.Documents = codes "documents"
limit_name limit.Releases = codes "releases"
limit_name limit.Attached = codes "attached"
limit_name limit.Adoptions = codes "adoptions"
limit_name limit.Duties = codes "duties"
limit_name limit.Changes = codes "changes"

-- the part of a catalogue that a fault names, by its key in the text
abbrev pub part_name : CataloguePart → List ℕ
part_name part.Forms = codes "forms"
part_name part.Duty = codes "duty"
part_name part.Rule = codes "rule"
part_name part.Text = codes "text"

-- ---- states and words by their names

-- the state of a release with this name, if there is one; capitals make it another name
abbrev pub release_state_named : List ℕ → Option ReleaseState
release_state_named text = find (λ state. bytes_eq (release_state_name state) text)
    (release.IsOpen ∷ release.Frozen ∷ release.Withdrawn ∷ [])

-- the state of a duty with this name
abbrev pub duty_state_named : List ℕ → Option DutyState
duty_state_named text = find (λ state. bytes_eq (duty_state_name state) text)
    (duty.IsOpen ∷ duty.Met ∷ duty.Waived ∷ duty.Withdrawn ∷ [])

-- the word with this name
abbrev pub word_named : List ℕ → Option Word
word_named text = find (λ word. bytes_eq (word_name word) text)
    (word.Raised ∷ word.Met ∷ word.Waived ∷ word.Reopened ∷ word.Withdrawn ∷ word.Ended ∷ [])
