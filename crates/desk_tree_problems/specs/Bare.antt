-- What a bare file lacks.
use Rattle.std.specs.Prelude.{Bool, true, false, ◌||◌, List, map, filter}
use Rattle.desk_tree_infos.specs.declared.infos.FileInfo.{FileInfo}
use Rattle.desk_tree_infos.specs.Sharing.{OutlineText, is_none}
use Rattle.desk_tree_lint.specs.Lists.{is_bare}
use Rattle.desk_tree_problems.specs.declared.bare.Bare.{Bare}
use Rattle.desk_tree_problems.specs.declared.bare.Lacking.{Lacking}
use Rattle.desk_tree_problems.specs.declared.bare.Lacking.TheVariants.{Notice, Licence, Both}

-- for a file without a notice, without a licence, or without both
abbrev pub lacking : Bool → Bool → Lacking
lacking true true = Both
lacking true false = Notice
lacking false no_licence = Licence

-- a file, with what it lacks; asked only of files that lack something
abbrev pub bare_file : FileInfo → Bare
bare_file info = record {
  path = info.path;
  lacking = lacking (is_none info.notices) (is_none info.licences);
}

-- the files without a notice or without a licence
abbrev pub bare_files : List FileInfo → List Bare
bare_files infos = map bare_file (filter is_bare infos)

-- the same from their outlines
abbrev pub bare_outline : OutlineText → Bare
bare_outline o = record { path = o.path; lacking = lacking o.no_notice o.no_licence }

-- the outlines that lack something, each with what it lacks
abbrev pub bare_in : List OutlineText → List Bare
bare_in outlines = map bare_outline
    (filter (λ (o : OutlineText). o.no_notice || o.no_licence) outlines)
