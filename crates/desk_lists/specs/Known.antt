-- What a filter of duties names that the desk doesn't know: a release, or a code.
use Rattle.std.specs.Prelude.{◌||◌, not, Bool, false, List, ℕ}
use Rattle.std.specs.List.{list_any}
use Rattle.std.specs.Option.{option_copied, option_map_or}
use Rattle.std.specs.Str.{bytes_eq}
use Rattle.desk_snapshot.specs.declared.snapshot.Snapshot.{Snapshot}
use Rattle.desk_lists.specs.Titles.{is_title_of, titles_in_force}
use Rattle.desk_lists.specs.declared.lines.DutyFilter.{DutyFilter}

-- a release was opened under this name
abbrev pub has_release : Snapshot → List ℕ → Bool
has_release s name = list_any (λ row. bytes_eq row.name name) s.releases

-- a duty of the catalogue in force has this code, or one that a release raised
abbrev pub has_code : Snapshot → List ℕ → Bool
has_code s code = list_any (is_title_of code) (titles_in_force s)
    || list_any (λ row. bytes_eq row.code code) s.duty

-- the filter names a release, and there is none of this name
abbrev pub names_unknown_release : Snapshot → DutyFilter → Bool
names_unknown_release s wanted =
    option_map_or (λ name. not (has_release s name)) (option_copied wanted.release) false

-- the filter names a code that no duty has
abbrev pub names_unknown_code : Snapshot → DutyFilter → Bool
names_unknown_code s wanted =
    option_map_or (λ code. not (has_code s code)) (option_copied wanted.code) false
