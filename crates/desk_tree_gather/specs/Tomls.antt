-- The REUSE.toml files of a tree (REUSE Specification 3.3, "REUSE.toml").
use Rattle.std.specs.Prelude.{ℕ, List, Result, Ok, Err, if◌then◌else◌}
use Rattle.std.specs.Str.{is_utf8}
use Rattle.desk_tree_annotations.specs.declared.annotation.Annotation.{Annotation}
use Rattle.desk_tree_annotations.specs.declared.fault.AnnotationsFault.{AnnotationsFault}
use Rattle.desk_tree_annotations.specs.declared.fault.AnnotationsFault.TheVariants as why
use Rattle.desk_tree_annotations.specs.Reading.{annotations_of}
use Rattle.desk_tree_gather.specs.declared.fault.GatherFault.{GatherFault}
use Rattle.desk_tree_gather.specs.declared.fault.GatherFault.TheVariants.{BadToml, BadAnnotation}
use Rattle.desk_tree_gather.specs.declared.files.SourceFile.{SourceFile}
use Rattle.desk_tree_infos.specs.Readers.{Reader}
use Rattle.desk_tree_infos.specs.Tomls.{TomlText}
use Rattle.desk_tree_gather.specs.Paths.{is_toml, folder_of}
use Rattle.desk_tree_gather.specs.Trees.{Read, each}

-- a fault, with the path of the file
abbrev pub told_of : List ℕ → AnnotationsFault → GatherFault
told_of path why.BadToml = BadToml path
told_of path (why.BadAnnotation index kind) = BadAnnotation path index kind
told_of path (why.Memory error) = BadToml path

-- a REUSE.toml with its folder, from what its text is read as
abbrev pub toml_read : List ℕ → Result (List Annotation) AnnotationsFault → Read TomlText
toml_read path (Ok annotations) = Ok (record { folder = folder_of path; annotations = annotations })
toml_read path (Err fault) = Err (told_of path fault)

-- the annotations of a REUSE.toml; one that isn't UTF-8 can't be read
abbrev pub toml_of : Reader → SourceFile → Read TomlText
toml_of r file = if is_utf8 file.bytes
    then toml_read file.path (annotations_of r.reading file.bytes) else Err (BadToml file.path)

-- all REUSE.toml files of a tree in order, or the first fault
abbrev pub tomls_of : Reader → List SourceFile → Read (List TomlText)
tomls_of r tree = each is_toml (toml_of r) tree
