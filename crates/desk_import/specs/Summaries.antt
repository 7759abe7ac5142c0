-- What a desk finds in a document that it takes in.
use Rattle.std.specs.Prelude.{◌≡◌, ◌&&◌, ◌==◌, ℕ, List, [], ◌∷◌, Bool, true, false, not, Option}
use Rattle.std.specs.Prelude.{None, Some, codes, is_some, drop, count_by, slice_index_or, if◌then◌else◌}
use Rattle.std.specs.Option.{option_map_or}
use Rattle.std.specs.Str.{bytes_eq}
use Rattle.desk_expr.specs.Tree.{Tree}
use Rattle.desk_tagvalue.specs.Parts.{DocumentText, PackageText}
use Rattle.desk_bom.specs.Shipping.{AreShippingMarks}
use Rattle.desk_findings.specs.Fields.{is_no_licence}
use Rattle.desk_findings.specs.Findings.{AreFindings}
use Rattle.desk_model.specs.FindingKinds.{kind_number}
use Rattle.desk_import.specs.Elsewhere.{elsewhere_count}
use Rattle.desk_import.specs.declared.summary.Standing.{Standing}
use Rattle.desk_import.specs.declared.summary.Standing.TheVariants.{Aside, Concluded, Declared, Neither}
use Rattle.desk_import.specs.declared.summary.Summary.{Summary}

-- a value that is a licence expression, and neither NONE nor NOASSERTION
abbrev pub is_licence : (List ℕ → Option Tree) → Option (List ℕ) → Bool
is_licence reads None = false
is_licence reads (Some value) = not (is_no_licence value) && is_some (reads value)

-- npm's word, in place of a licence, for a package that nobody else may use (npm, package.json,
-- license)
abbrev pub grants_nothing : List ℕ → Bool
grants_nothing value = bytes_eq value (codes "UNLICENSED")

-- a declared value that is a licence, and not that word
abbrev pub is_declared : (List ℕ → Option Tree) → Option (List ℕ) → Bool
is_declared reads value = is_licence reads value && not (option_map_or grants_nothing value false)

-- the standing of a package, by whether it ships
abbrev pub standing_of : (List ℕ → Option Tree) → PackageText → Bool → Standing
standing_of reads p false = Aside
standing_of reads p true =
    if is_licence reads p.concluded then Concluded else if is_declared reads p.declared then Declared
    else Neither

-- the standings of packages, each by its mark
abbrev pub standings_of : (List ℕ → Option Tree) → List PackageText → List Bool → List Standing
standings_of reads [] marks = []
standings_of reads (p ∷ ps) marks = standing_of reads p (slice_index_or marks 0 false)
    ∷ standings_of reads ps (drop 1 marks)

-- a summary has the standing of each package of a document, how many elements of other documents
-- ship with it, and all findings
abbrev pub IsSummary : (List ℕ → Option Tree) → DocumentText → Summary → Type 0
IsSummary reads d s =
    ((marks : List Bool) × AreShippingMarks d marks
    × (s.standings.items ≡ standings_of reads d.packages marks)
    × (s.elsewhere ≡ elsewhere_count d marks))
    × AreFindings reads d s.findings.items

-- two standings are the same
abbrev pub same_standing : Standing → Standing → Bool
same_standing Aside Aside = true
same_standing Concluded Concluded = true
same_standing Declared Declared = true
same_standing Neither Neither = true
same_standing _ _ = false

-- how many packages have this standing
abbrev pub standing_count : Standing → Summary → ℕ
standing_count standing s = count_by (same_standing standing) s.standings.items

-- how many findings are of the kind with this number
abbrev pub kind_count : ℕ → Summary → ℕ
kind_count number s = count_by (λ f. kind_number f.kind == number) s.findings.items
