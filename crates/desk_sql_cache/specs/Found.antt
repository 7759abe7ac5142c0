-- What a store found of its rows and keeps beside them: the references of one document that are
-- adopted, the releases that hold a choice, and what was looked up last.
use Rattle.std.specs.Prelude.{◌≡◌, Bool, false, None, is_some}
use Rattle.std.specs.Option.{option_map}
use Rattle.desk_model.specs.Tables.{Tables}
use Rattle.desk_model.specs.declared.command.Change.{Change}
use Rattle.desk_model.specs.declared.command.Change.TheVariants as change
use Rattle.desk_sql_cache.specs.declared.found.Found.{Found}
use Rattle.desk_sql_cache.specs.References.{AreAdopted, lacks_row}
use Rattle.desk_sql_cache.specs.Holding.{AreHeld}
use Rattle.desk_sql_cache.specs.Last.{AreLast, last_after, nothing_last}

-- what was found of the rows is true of these
abbrev pub AreFound : Found → Tables → Type 0
AreFound found t = AreAdopted found.adoptions t × AreHeld found.holders t × AreLast found.last t

-- what a store keeps before it has looked anything up
abbrev pub nothing_kept : Found
nothing_kept = record { adoptions = None; holders = None; last = nothing_last }

-- by what is kept, a change adopts a reference that isn't adopted
abbrev pub adopts_first : Change → Found → Bool
adopts_first (change.Adopted row) found = lacks_row found.adoptions row
adopts_first _ found = false

-- what is still kept after a change: the adoptions of the same document, and the holders, if there
-- were some
pub record StaysKept (found after : Found) : Type 0 where
  pub adoptions : option_map (λ kept. kept.document) after.adoptions
      ≡ option_map (λ kept. kept.document) found.adoptions
  pub holders : is_some after.holders ≡ is_some found.holders
  pub last : after.last ≡ last_after found.last
