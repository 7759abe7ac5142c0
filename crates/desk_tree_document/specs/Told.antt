-- The files of a draft, from what is reported about them.
use Rattle.std.specs.Prelude.{ℕ, List, [], ◌∷◌, map, Ok}
use Rattle.desk_tagvalue.specs.declared.drafts.Draft.{Draft}
use Rattle.desk_tagvalue.specs.declared.drafts.DraftFile.{DraftFile}
use Rattle.desk_tree_infos.specs.declared.infos.FileInfo.{FileInfo}
use Rattle.desk_tree_gather.specs.declared.telling.ToldFile.{ToldFile}
use Rattle.desk_tree_infos.specs.Readers.{Reader}
use Rattle.desk_tree_gather.specs.Trees.{Read}
use Rattle.desk_tree_document.specs.Drafts.{Named, draft_with}
use Rattle.desk_tree_document.specs.Texts.{expression_read, copyright_of}
use Rattle.desk_base.specs.Results.{then_read, followed}

-- the information of a file, without its digest
abbrev pub info_in : ToldFile → FileInfo
info_in told = told.info

-- the same for several
abbrev pub infos_in : List ToldFile → List FileInfo
infos_in told = map info_in told

-- a file in the draft, from what is reported about it
abbrev pub file_told : Reader → ToldFile → Read DraftFile
file_told r told =
    then_read (expression_read r.reading told.info.licences) (λ concluded.
    Ok (record {
      path = told.info.path;
      digest = told.digest;
      concluded = concluded;
      copyright = copyright_of told.info.notices;
    }))

-- the same for files in their order, or the first fault
abbrev pub files_told : Reader → List ToldFile → Read (List DraftFile)
files_told r [] = Ok []
files_told r (t ∷ ts) = followed (file_told r t) (files_told r ts)

-- the draft from what is reported, with a verification code
abbrev pub draft_told : Reader → Named → List ToldFile → List ℕ → Read Draft
draft_told r title told code = then_read (files_told r told)
    (λ drafted. draft_with r title (infos_in told) drafted code)
