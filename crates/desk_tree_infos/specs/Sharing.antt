-- What files share: the texts of an annotation are kept once, and each file for which it counts has
-- its number, its place among all.
use Rattle.std.specs.Prelude.{ℕ, Bool, true, false, List, [], ◌∷◌, ◌++◌, map, Option, Some, None}
use Rattle.std.specs.List.{slice_get, flat_map, filter_map}
use Rattle.desk_model.specs.Texts.{sorted_set}
use Rattle.desk_tree_annotations.specs.declared.annotation.Annotation.{Annotation}
use Rattle.desk_tree_infos.specs.declared.infos.FileInfo.{FileInfo}
use Rattle.desk_tree_infos.specs.declared.information.Sources.{Sources}
use Rattle.desk_tree_infos.specs.declared.information.Subject.{Subject}
use Rattle.desk_tree_infos.specs.declared.information.Subject.TheVariants.{Notices, Licences}
use Rattle.desk_tree_infos.specs.declared.infos.Covered.{Covered}
use Rattle.desk_tree_infos.specs.declared.infos.Outline.{Outline}
use Rattle.desk_tree_infos.specs.Information.{texts_of}

-- the annotations with some numbers
abbrev pub annotations_at : List Annotation → List ℕ → List Annotation
annotations_at all numbers = filter_map (slice_get all) numbers

-- what they give
abbrev pub texts_at : List Annotation → Subject → List ℕ → List (List ℕ)
texts_at all of numbers = flat_map (texts_of of) (annotations_at all numbers)

-- that, and a file's own texts
abbrev pub all_texts : List Annotation → Subject → Sources → List (List ℕ)
all_texts all of sources = texts_at all of sources.numbers.items ++ sources.own.items

-- texts, or none
abbrev pub texts_or_none : Option (List (List ℕ)) → List (List ℕ)
texts_or_none (Some texts) = texts
texts_or_none None = []

-- where a file's texts come from
abbrev pub sources_in : Subject → Covered → Sources
sources_in Notices file = file.notices
sources_in Licences file = file.licences

-- the information of a file
abbrev pub info_at : List Annotation → Covered → FileInfo
info_at all file = record {
  path = file.path;
  notices = sorted_set (all_texts all Notices file.notices);
  licences = sorted_set (all_texts all Licences file.licences);
}

-- the information of these files, each from the annotations that count for it
abbrev pub infos_at : List Annotation → List Covered → List FileInfo
infos_at all files = map (info_at all) files

-- ---- a file in outline

-- there are no texts
abbrev pub is_none : List (List ℕ) → Bool
is_none [] = true
is_none (t ∷ ts) = false

-- a path, and what its file lacks
pub record OutlineText : Type 0 where
  pub path : List ℕ
  pub no_notice : Bool
  pub no_licence : Bool

-- what is left of a file when only the lack of texts matters
abbrev pub outline_of : FileInfo → OutlineText
outline_of info = record {
  path = info.path;
  no_notice = is_none info.notices;
  no_licence = is_none info.licences;
}

-- an outline, apart from where it is in memory
abbrev pub outline_in : Outline → OutlineText
outline_in o = record { path = o.path.now; no_notice = o.no_notice; no_licence = o.no_licence }
