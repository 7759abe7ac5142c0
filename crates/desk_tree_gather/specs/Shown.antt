-- How the code's values correspond to those of the definitions.
use Rattle.std.specs.Prelude.{◌≡◌, ℕ, List, map, Result, Ok, Err}
use Rattle.std.specs.BTreeMap.{BTreeMap}
use Rattle.std.specs.String.{string_bytes}
use denote.Ref.{Bor}
use Rattle.desk_tree_annotations.specs.Tags.{tag_text}
use Rattle.desk_tree_annotations.specs.declared.info.Info.{Info}
use Rattle.desk_tree_infos.specs.Readers.{Stated}
use Rattle.desk_tree_gather.specs.declared.fault.GatherFault.{GatherFault}
use Rattle.desk_tree_gather.specs.declared.files.File.{File}
use Rattle.desk_tree_gather.specs.declared.files.SourceFile.{SourceFile}
use Rattle.desk_tree_gather.specs.declared.holding.Held.{Held}
use Rattle.desk_tree_gather.specs.Trees.{Read}

-- a result is what is read, as it is shown
abbrev pub Gives : {A B : Type 0} → Read B → (A → B) → Result A GatherFault → Type 0
Gives read show (Ok x) = read ≡ Ok (show x)
Gives read show (Err fault) = read ≡ Err fault

-- a file, apart from where it is in memory
abbrev pub file_of : File → SourceFile
file_of f = record { path = f.path.now; bytes = f.bytes.now }

-- the same for several
abbrev pub files_of : List File → List SourceFile
files_of fs = map file_of fs

-- borrowed files by path: the path, and the bytes
abbrev pub Tree : Type 0
Tree = BTreeMap (Bor (List ℕ)) (Bor (List ℕ))

-- an entry of such a map as a file
abbrev pub file_at : Bor (List ℕ) × Bor (List ℕ) → SourceFile
file_at e = record { path = e.0.now; bytes = e.1.now }

-- entries as files, in the map's order
abbrev pub entries_of : List (Bor (List ℕ) × Bor (List ℕ)) → List SourceFile
entries_of es = map file_at es

-- the file that states something about another
abbrev pub held_in : Held → SourceFile
held_in h = record { path = string_bytes h.path; bytes = h.bytes.now }

-- the files of a map by path
abbrev pub tree_in : Tree → List SourceFile
tree_in m = entries_of m.entries

-- files that are owned, by path
abbrev pub OwnedTree : Type 0
OwnedTree = BTreeMap (List ℕ) (List ℕ)

-- an entry of that map as a file
abbrev pub owned_at : List ℕ × List ℕ → SourceFile
owned_at e = record { path = e.0; bytes = e.1 }

-- the files of that map, in byte order of their paths
abbrev pub left_in : OwnedTree → List SourceFile
left_in m = map owned_at m.entries

-- what a file states, apart from where it is in memory
abbrev pub stated_of : Info → Stated
stated_of i = record {
  notices = map tag_text i.notices.items;
  licences = map tag_text i.licences.items;
}
