-- Documents, as they are read from files.
use Rattle.std.specs.Prelude.{Bool, true, false}
use Rattle.desk_spdx_files.specs.declared.idle.Files.{Files}
use Rattle.desk_spdx_files.specs.declared.idle.Files.TheVariants.{All, Needed}

-- the files that are kept of a document in JSON
abbrev pub files_kept : Bool → Files
files_kept true = Needed
files_kept false = All
