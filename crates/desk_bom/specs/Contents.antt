-- The files of a package: those between its PackageName and the next one (SPDX 2.3, clause 4.4),
-- and those that a relationship CONTAINS or CONTAINED_BY (clause 11.1) ties to it.
use Rattle.std.specs.Prelude.{◌≡◌, ◌↔◌, ℕ, ◌+◌, ◌-◌, ◌==◌, nat_lt, nat_le, ◌&&◌, List, [], ◌∷◌}
use Rattle.std.specs.Prelude.{◌++◌, length, Option, Some, None, codes, if◌then◌else◌, Contains}
use Rattle.std.specs.Prelude.{slice_get, option_and_then}
use Rattle.std.specs.List.{filter_map}
use Rattle.std.specs.List.Sorted.{IsStrictlyIncreasing}
use Rattle.std.specs.Str.{bytes_eq}
use Rattle.desk_fields.specs.declared.tag.Tag.TheVariants as tags
use Rattle.desk_fields.specs.Tags.{same_tag}
use Rattle.desk_tagvalue.specs.Entries.{EntryText}
use Rattle.desk_tagvalue.specs.Parts.{DocumentText, EdgeText, FileText}
use Rattle.desk_bom.specs.declared.arrows.Arrow.{Arrow}
use Rattle.desk_bom.specs.Elements.{element_named}
use Rattle.desk_bom.specs.Shipping.{arrow_between}

-- the file with a number belongs to the last of this many packages
abbrev pub onto_package : ℕ → ℕ → List Arrow → List Arrow
onto_package packages file more = if packages == 0 then more
    else record { from = packages - 1; to = file } ∷ more

-- the files between a PackageName and the next one, after this many packages and files
abbrev pub own_files : ℕ → ℕ → List EntryText → List Arrow
own_files packages files [] = []
own_files packages files (e ∷ es) =
    if same_tag e.tag tags.PackageName then own_files (packages + 1) files es
    else (if same_tag e.tag tags.FileName
    then onto_package packages files (own_files packages (files + 1) es)
    else own_files packages files es)

-- the package, or the file, that is an element
abbrev pub package_at : DocumentText → ℕ → Option ℕ
package_at d place = if nat_lt 0 place && nat_le place (length d.packages) then Some (place - 1)
    else None

-- files come after the packages, so the first of them is at the place behind the last package
abbrev pub file_at : DocumentText → ℕ → Option ℕ
file_at d place =
    if nat_lt (length d.packages) place && nat_le (place - length d.packages) (length d.files)
    then Some (place - length d.packages - 1) else None

-- the package with an identifier, by its place among the packages
abbrev pub package_named : DocumentText → List ℕ → Option ℕ
package_named d id = option_and_then (package_at d) (element_named d id)

-- the file with an identifier, by its place among the files
abbrev pub file_named : DocumentText → List ℕ → Option ℕ
file_named d id = option_and_then (file_at d) (element_named d id)

-- the package and the file that a relationship ties together
abbrev pub tie : DocumentText → EdgeText → Option Arrow
tie d e =
    if bytes_eq e.kind (codes "CONTAINS")
    then arrow_between (package_named d e.left) (file_named d e.right)
    else (if bytes_eq e.kind (codes "CONTAINED_BY")
    then arrow_between (package_named d e.right) (file_named d e.left)
    else None)

-- from packages to their files
abbrev pub contents : DocumentText → List Arrow
contents d = own_files 0 0 d.entries ++ filter_map (tie d) d.edges

-- the files of a package, each once, in their order
pub record AreFilesOf (d : DocumentText) (owner : ℕ) (files : List FileText) : Type 0 where
  pub places : List ℕ
  pub once : IsStrictlyIncreasing places
  pub members : (j : ℕ) → Contains places j
      ↔ Contains (contents d) (record { from = owner; to = j })
  pub are : files ≡ filter_map (slice_get d.files) places
