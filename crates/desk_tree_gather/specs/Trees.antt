-- The files of a tree in byte order of their paths, or the first path that can't be there.
use Rattle.std.specs.Prelude.{ℕ, nat_lt, not, Bool, List, [], ◌∷◌, length, Option, Some, None}
use Rattle.std.specs.Prelude.{Result, Ok, Err, if◌then◌else◌}
use Rattle.std.specs.Option.{is_some}
use Rattle.std.specs.Str.{bytes_eq}
use Rattle.desk_base.specs.Limits as most
use Rattle.desk_model.specs.Texts.{text_below}
use Rattle.desk_tree_gather.specs.declared.fault.GatherFault.{GatherFault}
use Rattle.desk_tree_gather.specs.declared.fault.GatherFault.TheVariants.{BadPath, TwicePath, TooManyFiles}
use Rattle.desk_tree_gather.specs.declared.files.SourceFile.{SourceFile}
use Rattle.desk_tree_gather.specs.Paths.{is_path}
use Rattle.desk_base.specs.Results.{followed}

-- something, or its fault
abbrev pub Read : Type 0 → Type 0
Read A = Result A GatherFault

-- each item that passes a test in turn, or the first fault
abbrev pub each : {A B : Type 0} → (A → Bool) → (A → Read B) → List A → Read (List B)
each test read [] = Ok []
each test read (x ∷ xs) = if test x then followed (read x) (each test read xs)
    else each test read xs

-- a file at its place among others that are sorted
abbrev pub put_file : SourceFile → List SourceFile → List SourceFile
put_file f [] = f ∷ []
put_file f (g ∷ gs) = if text_below f.path g.path then f ∷ g ∷ gs
    else (if bytes_eq f.path g.path then f ∷ gs else g ∷ put_file f gs)

-- the bytes of the file at a path
abbrev pub bytes_at : List SourceFile → List ℕ → Option (List ℕ)
bytes_at [] path = None
bytes_at (f ∷ fs) path = if bytes_eq path f.path then Some f.bytes else bytes_at fs path

-- the bytes at a path, and none if there is no file
abbrev pub some_bytes : Option (List ℕ) → List ℕ
some_bytes (Some bytes) = bytes
some_bytes None = []

-- the bytes of the file at a path, none if there is no such file
abbrev pub bytes_of : List SourceFile → List ℕ → List ℕ
bytes_of tree path = some_bytes (bytes_at tree path)

-- files added one after another to others that are sorted, up to the first whose path can't be
-- there, or is there already
abbrev pub placed : List SourceFile → List SourceFile → Read (List SourceFile)
placed sorted [] = Ok sorted
placed sorted (f ∷ fs) =
    if not (is_path f.path) then Err BadPath
    else (if is_some (bytes_at sorted f.path) then Err TwicePath
    else placed (put_file f sorted) fs)

-- at most 10,000
abbrev pub tree_of : List SourceFile → Read (List SourceFile)
tree_of files = if nat_lt most.tree_files (length files) then Err TooManyFiles else placed [] files
