-- What a tree lacks.
use Rattle.std.specs.Prelude.{◌≡◌, ◌||◌, ℕ, Bool, not, List, map, filter, Ok}
use Rattle.desk_base.specs.TextSets.{is_among}
use Rattle.desk_tree_gather.specs.declared.files.SourceFile.{SourceFile}
use Rattle.desk_tree_infos.specs.declared.infos.FileInfo.{FileInfo}
use Rattle.desk_tree_infos.specs.Readers.{Reader}
use Rattle.desk_tree_gather.specs.Trees.{tree_of}
use Rattle.desk_tree_gather.specs.Gathering.{gathered}
use Rattle.desk_tree_infos.specs.Sharing.{OutlineText, is_none}
use Rattle.desk_tree_lint.specs.declared.lists.Lint.{Lint}
use Rattle.desk_tree_lint.specs.Texts.{TextFile, text_files}
use Rattle.desk_tree_lint.specs.Used.{AreUsed}

-- the keys that are used and have no text
abbrev pub missing : List (List ℕ) → List TextFile → List (List ℕ)
missing used texts = filter (λ key. not (is_among (map (λ (t : TextFile). t.key) texts) key)) used

-- the texts whose keys aren't used
abbrev pub unused : List (List ℕ) → List TextFile → List (List ℕ)
unused used texts = map (λ (t : TextFile). t.path)
    (filter (λ (t : TextFile). not (is_among used t.key)) texts)

-- the files without a notice or without a licence
abbrev pub is_bare : FileInfo → Bool
is_bare info = is_none info.notices || is_none info.licences

-- their paths, in the order of the files
abbrev pub bare : List FileInfo → List (List ℕ)
bare infos = map (λ (i : FileInfo). i.path) (filter is_bare infos)

-- the same from their outlines
abbrev pub bare_in : List OutlineText → List (List ℕ)
bare_in outlines = map (λ (o : OutlineText). o.path)
    (filter (λ (o : OutlineText). o.no_notice || o.no_licence) outlines)

-- the three lists of a tree: keys without a text, texts without a use, and bare files
abbrev pub lists_of : List FileInfo → List (List ℕ) → List TextFile → Lint
lists_of infos used texts = record {
  missing = missing used texts;
  unused = unused used texts;
  bare = bare infos;
}

-- the lists of a tree from which everything is gathered
pub record IsLint (r : Reader) (files : List SourceFile) (l : Lint) : Type 0 where
  pub infos : List FileInfo
  pub tree : List SourceFile
  pub used : List (List ℕ)
  pub is_gathered : gathered r files ≡ Ok infos
  pub is_tree : tree_of files ≡ Ok tree
  pub are_used : AreUsed infos used
  pub lists : l ≡ lists_of infos used (text_files tree)
