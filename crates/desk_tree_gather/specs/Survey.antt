-- All that is wrong in a tree, and what is gathered from the rest of it.
use Rattle.std.specs.Prelude.{◌≡◌, ℕ, nat_lt, not, List, [], ◌∷◌, ◌++◌, length, map, filter}
use Rattle.std.specs.Prelude.{option_to_list, Option, Some, None, Ok, Err, if◌then◌else◌}
use Rattle.std.specs.List.{flat_map}
use Rattle.std.specs.Option.{is_some}
use Rattle.std.specs.Str.{is_utf8}
use Rattle.desk_base.specs.Limits as most
use Rattle.desk_tree_annotations.specs.Tags.{TagText}
use Rattle.desk_tree_annotations.specs.declared.fault.AnnotationsFault.{AnnotationsFault}
use Rattle.desk_tree_annotations.specs.declared.fault.AnnotationsFault.TheVariants as why
use Rattle.desk_tree_annotations.specs.Sifting.{good_annotations, annotation_faults}
use Rattle.desk_tree_gather.specs.declared.fault.GatherFault.{GatherFault}
use Rattle.desk_tree_gather.specs.declared.fault.GatherFault.TheVariants as first
use Rattle.desk_tree_gather.specs.declared.files.SourceFile.{SourceFile}
use Rattle.desk_tree_gather.specs.declared.flaw.Flaw.{Flaw}
use Rattle.desk_tree_gather.specs.declared.flaw.Flaw.TheVariants.{TooManyFiles, BadPath, TwicePath}
use Rattle.desk_tree_gather.specs.declared.flaw.Flaw.TheVariants.{BadToml, BadAnnotation}
use Rattle.desk_tree_gather.specs.declared.flaw.Flaw.TheVariants.{BadExpression}
use Rattle.desk_tree_infos.specs.declared.infos.FileInfo.{FileInfo}
use Rattle.desk_tree_infos.specs.Readers.{Reader}
use Rattle.desk_tree_gather.specs.Paths.{is_path, is_toml, is_covered, folder_of}
use Rattle.desk_tree_gather.specs.Trees.{Read, put_file, bytes_at}
use Rattle.desk_tree_infos.specs.Tomls.{TomlText}
use Rattle.desk_tree_infos.specs.Information.{counting}
use Rattle.desk_tree_gather.specs.Gathering.{holder, info_with}

-- ---- paths

-- what is wrong with the path of a file that is added to others
abbrev pub path_flaw : List SourceFile → List ℕ → Option Flaw
path_flaw sorted path =
    if not (is_path path) then Some (BadPath path)
    else (if is_some (bytes_at sorted path) then Some (TwicePath path)
    else None)

-- the file at its place among the others, unless its path has a flaw
abbrev pub unless_flawed : Option Flaw → SourceFile → List SourceFile → List SourceFile
unless_flawed None f sorted = put_file f sorted
unless_flawed (Some flaw) f sorted = sorted

-- others with a file added, unless something is wrong with its path
abbrev pub with_file : SourceFile → List SourceFile → List SourceFile
with_file f sorted = unless_flawed (path_flaw sorted f.path) f sorted

-- files added one after another to others that are sorted, without those whose path is wrong
abbrev pub sifted : List SourceFile → List SourceFile → List SourceFile
sifted sorted [] = sorted
sifted sorted (f ∷ fs) = sifted (with_file f sorted) fs

-- what is wrong with the paths of these files
abbrev pub path_flaws : List SourceFile → List SourceFile → List Flaw
path_flaws sorted [] = []
path_flaws sorted (f ∷ fs) = option_to_list (path_flaw sorted f.path)
    ++ path_flaws (with_file f sorted) fs

-- ---- REUSE.toml files

-- The fault of a REUSE.toml as a flaw, with the path of that file. Lack of memory is no flaw: it
-- ends the call before, and only needs some clause here.
abbrev pub flaw_of : List ℕ → AnnotationsFault → Flaw
flaw_of path why.BadToml = BadToml path
flaw_of path (why.BadAnnotation index kind) = BadAnnotation path index kind
flaw_of path (why.Memory error) = BadToml path

-- what is wrong with a REUSE.toml
abbrev pub toml_flaws : Reader → SourceFile → List Flaw
toml_flaws r file = if is_utf8 file.bytes
    then map (flaw_of file.path) (annotation_faults r.reading file.bytes)
    else BadToml file.path ∷ []

-- a REUSE.toml, with the annotations that can be read
abbrev pub toml_sifted : Reader → SourceFile → TomlText
toml_sifted r file = record {
  folder = folder_of file.path;
  annotations = if is_utf8 file.bytes then good_annotations r.reading file.bytes else [];
}

-- ---- what files state

-- the flaw of one licence that a file states, with its line and its text
abbrev pub tag_flaws : Reader → List ℕ → TagText → List Flaw
tag_flaws r path tag = if r.reading.is_expression tag.value then []
    else BadExpression path tag.line tag.value ∷ []

-- the tags of a file that are no licence expression
abbrev pub stated_flaws : Reader → SourceFile → List Flaw
stated_flaws r file = flat_map (tag_flaws r file.path) (r.stated file.bytes).licences

-- ---- the whole

-- at most 10,000 files are looked at
abbrev pub kept : List SourceFile → List SourceFile
kept files = if nat_lt most.tree_files (length files) then [] else sifted [] files

-- the flaws of the REUSE.toml files by path, then of what the covered files state, by path
abbrev pub tree_flaws : Reader → List SourceFile → List Flaw
tree_flaws r tree = flat_map (toml_flaws r) (filter is_toml tree)
    ++ flat_map (λ f. stated_flaws r (holder tree f)) (filter is_covered tree)

-- All flaws of files, in the order in which they are looked for. Beyond 10,000 files nothing else
-- is looked at.
abbrev pub flaws_of : Reader → List SourceFile → List Flaw
flaws_of r files = if nat_lt most.tree_files (length files) then TooManyFiles ∷ []
    else path_flaws [] files ++ tree_flaws r (sifted [] files)

-- the information of a covered file, whatever is wrong in it or elsewhere
abbrev pub info_sifted : Reader → List TomlText → List SourceFile → SourceFile → FileInfo
info_sifted r tomls tree file = info_with file.path (counting r tomls file.path)
    (r.stated (holder tree file).bytes)

-- the same for each covered file
abbrev pub infos_sifted : Reader → List SourceFile → List FileInfo
infos_sifted r tree = map (info_sifted r (map (toml_sifted r) (filter is_toml tree)) tree)
    (filter is_covered tree)

-- ---- what is gathered, up to the first flaw

-- The fault as which a flaw is reported where the first one ends the gathering. It has less: a path
-- that can't be there isn't named, and the text of a licence is left out.
abbrev pub gather_fault : Flaw → GatherFault
gather_fault TooManyFiles = first.TooManyFiles
gather_fault (BadPath path) = first.BadPath
gather_fault (TwicePath path) = first.TwicePath
gather_fault (BadToml path) = first.BadToml path
gather_fault (BadAnnotation path index kind) = first.BadAnnotation path index kind
gather_fault (BadExpression path line text) = first.BadExpression path line

-- the fault of the first flaw, if there is one
abbrev pub first_fault : List Flaw → Option GatherFault
first_fault [] = None
first_fault (flaw ∷ more) = Some (gather_fault flaw)

-- what is read up to the first fault, compared with all flaws and what is read despite them
abbrev pub Agrees : {A : Type 0} → Read A → List Flaw → A → Type 0
Agrees (Ok x) flaws y = (flaws ≡ []) × (y ≡ x)
Agrees (Err fault) flaws y = (flaw : Flaw) × (more : List Flaw) × (flaws ≡ flaw ∷ more)
    × (gather_fault flaw ≡ fault)
