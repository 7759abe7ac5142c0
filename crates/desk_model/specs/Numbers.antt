-- The numbers of the refusals.
use Rattle.std.specs.Prelude.{ℕ}
use Rattle.desk_model.specs.declared.refusal.Refusal.{Refusal}
use Rattle.desk_model.specs.declared.refusal.Refusal.TheVariants as why

-- the number of a refusal, by which replies and statuses go; the order in which refusals apply is
-- each command's own
abbrev pub refusal_number : Refusal → ℕ
refusal_number (why.BadCatalogue a) = 1
refusal_number (why.BadDocument a) = 2
refusal_number (why.NamespaceTaken a) = 3
refusal_number why.UnknownDocument = 4
refusal_number why.UnknownPackage = 5
refusal_number (why.BadExpression a) = 6
refusal_number (why.Chosen a) = 7
refusal_number (why.BadTerm a) = 8
refusal_number why.BadName = 9
refusal_number why.NameTaken = 10
refusal_number why.UnknownForm = 11
refusal_number why.UnknownRelease = 12
refusal_number (why.ReleaseState a) = 13
refusal_number why.AlreadyAttached = 14
refusal_number why.NotShipped = 15
refusal_number (why.NoConclusion a b) = 16
refusal_number why.NotEnough = 17
refusal_number (why.NotMinimal a) = 18
refusal_number (why.NoChoice a b) = 19
refusal_number why.EmptyRelease = 20
refusal_number (why.NotAdopted a b) = 21
refusal_number (why.NoRule a b c) = 22
refusal_number why.UnknownDuty = 23
refusal_number (why.DutyState a) = 24
refusal_number why.BadText = 25
refusal_number why.BadDay = 26
refusal_number (why.Full a) = 27
refusal_number why.TooMany = 28
refusal_number why.TooManyTerms = 29
refusal_number why.BadEnd = 30
