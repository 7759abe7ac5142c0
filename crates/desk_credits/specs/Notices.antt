-- The notices of a source tree, each once, in the order of first use: the covered files by path; of
-- each, first the notices that gathering finds for it (REUSE Specification 3.3), in byte order, and
-- then those of its lines by pattern.
use Rattle.std.specs.Prelude.{◌≡◌, ℕ, ◌||◌, not, Bool, List, [], ◌∷◌, ◌++◌, map, None, if◌then◌else◌}
use Rattle.std.specs.List.{list_any}
use Rattle.std.specs.Str.{bytes_eq}
use Rattle.std.specs.BTreeSet.{contains_text}
use Rattle.desk_fill.specs.Values.{says_something}
use Rattle.desk_tree_gather.specs.declared.files.SourceFile.{SourceFile}
use Rattle.desk_tree_gather.specs.Survey.{infos_sifted, kept}
use Rattle.desk_tree_gather.specs.Trees.{bytes_of}
use Rattle.desk_tree_infos.specs.declared.information.Subject.TheVariants.{Notices}
use Rattle.desk_tree_infos.specs.Firsts.{FirstTexts, firsts_of}
use Rattle.desk_tree_infos.specs.Readers.{Reader}
use Rattle.desk_credits.specs.declared.notice.Notice.{Notice}
use Rattle.desk_credits.specs.declared.notices.Known.{Known}
use Rattle.desk_credits.specs.Finding.{FindsIn}

-- a notice that a tag or a REUSE.toml states
abbrev pub stated_notice : List ℕ → Notice
stated_notice text = record { text = text; place = None }

-- the notices of a file of a tree: those that it has first, and those of its lines
abbrev pub UsesOf : List SourceFile → FirstTexts → List Notice → Type 0
UsesOf tree file uses = (found : List Notice) × FindsIn file.path (bytes_of tree file.path) found
    × (uses ≡ map stated_notice file.texts ++ found)

-- those of several files, in their order
abbrev pub UsesIn : List SourceFile → List FirstTexts → List Notice → Type 0
UsesIn tree [] uses = uses ≡ []
UsesIn tree (file ∷ files) uses = (here : List Notice) × (more : List Notice)
    × UsesOf tree file here × (uses ≡ here ++ more) × UsesIn tree files more

-- the text of a notice is that of one of some notices
abbrev pub is_known : List Notice → List ℕ → Bool
is_known notices text = list_any (λ (n : Notice). bytes_eq n.text text) notices

-- notices, and one more unless its text is among them or says nothing (NONE, NOASSERTION)
abbrev pub with_notice : List Notice → Notice → List Notice
with_notice notices n = if not (says_something n.text) || is_known notices n.text
    then notices else notices ++ n ∷ []

-- the same for several, in their order
abbrev pub with_notices : List Notice → List Notice → List Notice
with_notices notices [] = notices
with_notices notices (n ∷ ns) = with_notices (with_notice notices n) ns

-- the notices of a tree
abbrev pub AreNotices : Reader → List SourceFile → List Notice → Type 0
AreNotices r files notices = (uses : List Notice)
    × UsesIn (kept files) (firsts_of Notices (infos_sifted r (kept files))) uses
    × (notices ≡ with_notices [] uses)

-- the set has the texts of the notices, and no others
abbrev pub IsKnown : Known → Type 0
IsKnown known = (text : List ℕ)
    → contains_text known.texts text ≡ is_known known.notices.items text
