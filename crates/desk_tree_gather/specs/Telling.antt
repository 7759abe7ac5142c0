-- What is reported about a tree: what is gathered from it, with the digests of the files' bytes.
use Rattle.std.specs.Prelude.{List, map, Ok}
use Rattle.sha1.specs.Sha1.{sha1}
use Rattle.desk_tree_gather.specs.declared.files.SourceFile.{SourceFile}
use Rattle.desk_tree_infos.specs.declared.infos.FileInfo.{FileInfo}
use Rattle.desk_tree_gather.specs.declared.telling.ToldFile.{ToldFile}
use Rattle.desk_tree_infos.specs.Readers.{Reader}
use Rattle.desk_tree_gather.specs.Paths.{is_covered}
use Rattle.desk_tree_gather.specs.Trees.{Read, each, bytes_of, tree_of}
use Rattle.desk_tree_infos.specs.Tomls.{TomlText}
use Rattle.desk_tree_gather.specs.Gathering.{info_of, gathered}
use Rattle.desk_base.specs.Results.{then_read}

-- the information of a file of a tree, with the SHA1 digest of the file's bytes
abbrev pub with_digest : List SourceFile → FileInfo → ToldFile
with_digest tree info = record { info = info; digest = sha1 (bytes_of tree info.path) }

-- what is gathered, each with its digest
abbrev pub told : Reader → List SourceFile → Read (List ToldFile)
told r files =
    then_read (gathered r files) (λ infos.
    then_read (tree_of files) (λ tree.
    Ok (map (with_digest tree) infos)))

-- what is reported about the covered files of a tree, in their order
abbrev pub told_of : Reader → List TomlText → List SourceFile → SourceFile → Read ToldFile
told_of r tomls tree file = then_read (info_of r tomls tree file)
    (λ info. Ok (with_digest tree info))

-- the same for each covered file of a tree, or the first fault
abbrev pub told_in : Reader → List TomlText → List SourceFile → Read (List ToldFile)
told_in r tomls tree = each is_covered (told_of r tomls tree) tree

-- what is reported about a file, from itself and the files that are left
abbrev pub told_beside : Reader → List TomlText → List SourceFile → SourceFile → Read ToldFile
told_beside r tomls left file = then_read (info_of r tomls left file)
    (λ info. Ok (record { info = info; digest = sha1 file.bytes }))
