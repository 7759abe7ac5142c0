-- The conclusions that are proposed for the packages of a document, from their declared licences
-- (SPDX 2.3, clause 7.15).
use Rattle.std.specs.Prelude.{◌≡◌, ◌++◌, ℕ, List, [], ◌∷◌, Bool, Option, Some, codes, count_by, option_and_then}
use Rattle.std.specs.String.{string_bytes}
use Rattle.serde_json.specs.Data.{Data, number, unsigned, string, object, no_members, member}
use Rattle.serde_json.specs.Written.{compact_text}
use Rattle.desk_expr.specs.Printing.{printed}
use Rattle.desk_expr.specs.Spelling.{Spells}
use Rattle.desk_expr.specs.Tree.{Tree}
use Rattle.desk_tagvalue.specs.Parts.{DocumentText, PackageText}
use Rattle.desk_bom.specs.Shipping.{AreShippingMarks}
use Rattle.desk_import.specs.Summaries.{same_standing, standings_of}
use Rattle.desk_import.specs.declared.proposals.Proposals.{Proposals}
use Rattle.desk_import.specs.declared.summary.Standing.{Standing}
use Rattle.desk_import.specs.declared.summary.Standing.TheVariants.{Declared}

-- the request to conclude the licence of a package, in the document with this number
abbrev pub request : ℕ → List ℕ → List ℕ → Data
request document id expression = object
    (member (codes "do") (string (codes "conclude"))
    (member (codes "document") (number (unsigned document))
    (member (codes "expression") (string expression)
    (member (codes "package") (string id) no_members))))

-- the request as a line of a script
abbrev pub request_line : ℕ → List ℕ → List ℕ → List ℕ
request_line document id expression = compact_text (request document id expression) ++ codes "\n"

-- the tree that the declared licence of a package spells
abbrev pub declared_tree : (List ℕ → Option Tree) → PackageText → Option Tree
declared_tree reads p = option_and_then reads p.declared

-- a line that proposes the declared licence of a package: the expression in it spells the same tree
-- with operators in capitals
pub record Proposes (reads : List ℕ → Option Tree) (document : ℕ) (p : PackageText)
    (line : List ℕ) : Type 0 where
  pub tree : Tree
  pub declared : declared_tree reads p ≡ Some tree
  pub spells : Spells (printed tree) tree
  pub is_line : line ≡ request_line document p.id (printed tree)

-- the line of a package by its standing: one for a package that ships with only a declared licence,
-- and none for any other
abbrev pub IsLine : (List ℕ → Option Tree) → ℕ → PackageText → Standing → List ℕ → Type 0
IsLine reads document p Declared line = Proposes reads document p line
IsLine reads document p _ line = line ≡ []

-- the lines of packages by their standings, in order
abbrev pub AreLines : (List ℕ → Option Tree) → ℕ → List PackageText → List Standing → List ℕ
    → Type 0
AreLines reads document (p ∷ ps) (s ∷ ss) text =
    (line rest : List ℕ) × IsLine reads document p s line × AreLines reads document ps ss rest
    × (text ≡ line ++ rest)
AreLines reads document _ _ text = text ≡ []

-- proposals have the standing of each package of a document, and the lines of these packages
abbrev pub AreProposals : (List ℕ → Option Tree) → ℕ → DocumentText → Proposals → Type 0
AreProposals reads document d p =
    ((marks : List Bool) × AreShippingMarks d marks
    × (p.standings.items ≡ standings_of reads d.packages marks))
    × AreLines reads document d.packages p.standings.items (string_bytes p.lines)

-- how many packages have this standing
abbrev pub count_of : Standing → Proposals → ℕ
count_of standing p = count_by (same_standing standing) p.standings.items
