-- What is gathered from a tree: the information of each covered file, or the first fault.
use Rattle.std.specs.Prelude.{ℕ, List, [], ◌∷◌, ◌++◌, map, codes, Option, Some, None, Ok, Err, if◌then◌else◌}
use Rattle.desk_tree_annotations.specs.Tags.{TagText}
use Rattle.desk_model.specs.Texts.{sorted_set}
use Rattle.desk_tree_annotations.specs.declared.annotation.Annotation.{Annotation}
use Rattle.desk_tree_gather.specs.declared.fault.GatherFault.TheVariants.{BadExpression}
use Rattle.desk_tree_gather.specs.declared.files.SourceFile.{SourceFile}
use Rattle.desk_tree_infos.specs.declared.infos.FileInfo.{FileInfo}
use Rattle.desk_tree_infos.specs.declared.information.Subject.TheVariants.{Notices, Licences}
use Rattle.desk_tree_infos.specs.Readers.{Stated, Reader}
use Rattle.desk_tree_gather.specs.Paths.{is_covered}
use Rattle.desk_tree_gather.specs.Trees.{Read, each, bytes_at, tree_of}
use Rattle.desk_tree_infos.specs.Tomls.{TomlText}
use Rattle.desk_tree_gather.specs.Tomls.{tomls_of}
use Rattle.desk_tree_infos.specs.Information.{counting, given}
use Rattle.desk_base.specs.Results.{then_read}

-- F.license if it exists, else F itself: the file whose tags are F's own information
abbrev pub holder_by : List ℕ → SourceFile → Option (List ℕ) → SourceFile
holder_by beside file (Some bytes) = record { path = beside; bytes = bytes }
holder_by beside file None = file

-- where a file's own information is taken from (REUSE Specification 3.3, "Comment headers")
abbrev pub holder : List SourceFile → SourceFile → SourceFile
holder tree file = let beside = file.path ++ codes ".license" in
    holder_by beside file (bytes_at tree beside)

-- the line of the first licence that is no expression
abbrev pub bad_line : Reader → List TagText → Option ℕ
bad_line r [] = None
bad_line r (t ∷ ts) = if r.reading.is_expression t.value then bad_line r ts else Some t.line

-- what a file states, unless a licence on this line is no expression
abbrev pub unless_bad : List ℕ → Stated → Option ℕ → Read Stated
unless_bad path stated (Some line) = Err (BadExpression path line)
unless_bad path stated None = Ok stated

-- what a file states; its first licence that is no expression is a fault
abbrev pub stated_in : Reader → SourceFile → Read Stated
stated_in r file = let stated = r.stated file.bytes in
    unless_bad file.path stated (bad_line r stated.licences)

-- the values of tags, without their lines
abbrev pub values : List TagText → List (List ℕ)
values tags = map (λ (t : TagText). t.value) tags

-- distinct texts in byte order
abbrev pub info_with : List ℕ → List Annotation → Stated → FileInfo
info_with path annotations own = record {
  path = path;
  notices = sorted_set (given Notices (values own.notices) annotations);
  licences = sorted_set (given Licences (values own.licences) annotations);
}

-- The information of a covered file: from its tags or those of its `.license` file, and from the
-- REUSE.toml files on the way to it.
abbrev pub info_of : Reader → List TomlText → List SourceFile → SourceFile → Read FileInfo
info_of r tomls tree file = then_read (stated_in r (holder tree file))
    (λ own. Ok (info_with file.path (counting r tomls file.path) own))

-- the information of all covered files, or the first fault of what one states
abbrev pub infos_of : Reader → List SourceFile → List TomlText → Read (List FileInfo)
infos_of r tree tomls = each is_covered (info_of r tomls tree) tree

-- the paths, then the REUSE.toml files by path, then what the covered files state, by path
abbrev pub gathered : Reader → List SourceFile → Read (List FileInfo)
gathered r files =
    then_read (tree_of files) (λ tree.
    then_read (tomls_of r tree) (λ tomls.
    infos_of r tree tomls))
