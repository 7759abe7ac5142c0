-- The kinds of findings: their numbers and names, and the order among those of one number.
use Rattle.std.specs.Prelude.{ℕ, List, codes}
use Rattle.desk_model.specs.declared.finding.FindingKind.{FindingKind}
use Rattle.desk_model.specs.declared.finding.FindingKind.TheVariants as kinds
use Rattle.desk_model.specs.declared.finding.MissingField.{MissingField}
use Rattle.desk_model.specs.declared.finding.MissingField.TheVariants as fields

-- the order of missing fields on one line: those of the document, then of a package, a file and an
-- extracted licence
abbrev pub missing_place : MissingField → ℕ
missing_place fields.DataLicense = 0
missing_place fields.Creator = 1
missing_place fields.Created = 2
missing_place fields.DownloadLocation = 3
missing_place fields.Checksum = 4
missing_place fields.ExtractedText = 5

-- the tag of the field that is missing
abbrev pub missing_name : MissingField → List ℕ
missing_name fields.DataLicense = codes "DataLicense"
missing_name fields.Creator = codes "Creator"
missing_name fields.Created = codes "Created"
missing_name fields.DownloadLocation = codes "PackageDownloadLocation"
missing_name fields.Checksum = codes "FileChecksum"
missing_name fields.ExtractedText = codes "ExtractedText"

-- the number of a kind, by which findings on one line are sorted
abbrev pub kind_number : FindingKind → ℕ
kind_number kinds.UnknownTag = 1
kind_number kinds.Misplaced = 2
kind_number kinds.BadExpression = 3
kind_number kinds.BadDigest = 4
kind_number kinds.BadCode = 5
kind_number kinds.CodeDiffers = 6
kind_number kinds.CodeUnwanted = 7
kind_number kinds.Dangling = 8
kind_number (kinds.MissingField field) = 9
kind_number kinds.BadFlag = 10
kind_number kinds.UndefinedRef = 11

-- the name of a kind, as it is printed
abbrev pub kind_name : FindingKind → List ℕ
kind_name kinds.UnknownTag = codes "UnknownTag"
kind_name kinds.Misplaced = codes "Misplaced"
kind_name kinds.BadExpression = codes "BadExpression"
kind_name kinds.BadDigest = codes "BadDigest"
kind_name kinds.BadCode = codes "BadCode"
kind_name kinds.CodeDiffers = codes "CodeDiffers"
kind_name kinds.CodeUnwanted = codes "CodeUnwanted"
kind_name kinds.Dangling = codes "Dangling"
kind_name (kinds.MissingField field) = codes "MissingField"
kind_name kinds.BadFlag = codes "BadFlag"
kind_name kinds.UndefinedRef = codes "UndefinedRef"

-- the stated order among findings of one kind on one line
abbrev pub place_in_kind : FindingKind → ℕ
place_in_kind (kinds.MissingField field) = missing_place field
place_in_kind _ = 0
