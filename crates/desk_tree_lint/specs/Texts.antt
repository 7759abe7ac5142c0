-- The licence texts that a tree has (REUSE Specification 3.3, "Licensing Information" and "License
-- Files"). 46 is `.` and 47 is `/`.
use Rattle.std.specs.Prelude.{ℕ, ◌==◌, ◌||◌, nat_eq, List, length, take, drop, codes, Option, Some}
use Rattle.std.specs.Prelude.{None, option_map, unwrap_or, if◌then◌else◌}
use Rattle.std.specs.List.{list_any, filter_map, starts_with, ends_with}
use Rattle.std.specs.Path.{rfind_below}
use Rattle.desk_base.specs.Folded.{folded}
use Rattle.desk_tokens.specs.Words.{is_reference}
use Rattle.desk_tree_gather.specs.declared.files.SourceFile.{SourceFile}

-- a name in `LICENSES/`: that of a text, unless it leads into another folder or ends with
-- `.license`
abbrev pub if_text : List ℕ → Option (List ℕ)
if_text name = if list_any (λ b. b == 47) name || ends_with nat_eq name (codes ".license") then None
    else Some name

-- the name of a licence text
abbrev pub text_name : List ℕ → Option (List ℕ)
text_name path = if starts_with nat_eq path (codes "LICENSES/") then if_text (drop 9 path) else None

-- a name without the part from its last full stop on
abbrev pub stem : List ℕ → List ℕ
stem name = unwrap_or (option_map (λ end. take end name) (rfind_below 46 name (length name))) name

-- the key by which an identifier is compared: a reference byte by byte, a licence or an exception
-- regardless of case
abbrev pub key_of : List ℕ → List ℕ
key_of id = if is_reference id then id else folded id

-- the text of a licence: its path, and the key of the identifier after which it is named
pub record TextFile : Type 0 where
  pub path : List ℕ
  pub key : List ℕ

-- the file as the text of a licence; nothing if it is none
abbrev pub text_file : SourceFile → Option TextFile
text_file f = option_map (λ name. record { path = f.path; key = key_of (stem name) })
    (text_name f.path)

-- the licence texts of a tree, in the order of its files
abbrev pub text_files : List SourceFile → List TextFile
text_files tree = filter_map text_file tree
