-- The files that hold the texts of requests.
use Rattle.std.specs.Prelude.{ℕ, ◌==◌, ◌&&◌, List, [], ◌∷◌, Option, Some, None, option_map, if◌then◌else◌}
use Rattle.std.specs.Str.{is_utf8}
use Rattle.desk_base.specs.declared.profile.Profile.{Profile}
use Rattle.desk_json.specs.declared.request.Request.{Request}
use Rattle.desk_json.specs.declared.request.Request.TheVariants.{Act}
use Rattle.desk_model.specs.declared.command.Command.TheVariants.{Import, LoadCatalogue}
use Rattle.desk_assignments.specs.declared.source.Source.{Source}
use Rattle.desk_assignments.specs.declared.source.Source.TheVariants as source

-- a document or a catalogue, by the path of its file
pub data Filed : Type 0 where
  document : List ℕ → Profile → Filed
  catalogue : List ℕ → Filed

-- the file of a source, apart from where its path is in memory
abbrev pub seen_source : Source → Filed
seen_source (source.Document path profile) = document path.now profile
seen_source (source.Catalogue path) = catalogue path.now

-- the path behind an @, which is 64
abbrev pub at_path : List ℕ → Option (List ℕ)
at_path [] = None
at_path (first ∷ path) = if (first == 64) && is_utf8 path then Some path else None

-- the file of an import or of a catalogue whose text is an @ and a path
abbrev pub source_of : Request → Option Filed
source_of (Act (Import bytes profile)) = option_map (λ path. document path profile) (at_path bytes)
source_of (Act (LoadCatalogue text)) = option_map catalogue (at_path text)
source_of _ = None
