-- Covered files, which share what annotations give, with the digests of their bytes.
use Rattle.std.specs.Prelude.{List, map}
use Rattle.desk_tree_annotations.specs.declared.annotation.Annotation.{Annotation}
use Rattle.desk_tree_gather.specs.declared.telling.Digested.{Digested}
use Rattle.desk_tree_gather.specs.declared.telling.ToldFile.{ToldFile}
use Rattle.desk_tree_infos.specs.Sharing.{info_at}

-- a file's information, from the annotations that count for it, with the digest of its bytes
abbrev pub told_at : List Annotation → Digested → ToldFile
told_at all file = record { info = info_at all file.info; digest = file.digest }

-- the same for files in their order
abbrev pub all_told : List Annotation → List Digested → List ToldFile
all_told all files = map (told_at all) files
