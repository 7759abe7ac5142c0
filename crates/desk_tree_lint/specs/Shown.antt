-- How the code's values correspond to those of the definitions.
use Rattle.std.specs.Prelude.{ℕ, Bool, List, [], ◌∷◌, map, option_map, Vec, if◌then◌else◌}
use Rattle.std.specs.declared.alloc.Global.{Global}
use denote.Ref.{Bor}
use Rattle.desk_tree_lint.specs.declared.names.NameAt.{NameAt}
use Rattle.desk_tree_lint.specs.declared.naming.Name.{Name}
use Rattle.desk_tree_lint.specs.declared.texts.LicenceText.{LicenceText}
use Rattle.desk_tree_lint.specs.Texts.{TextFile}

-- a licence text, apart from where it is in memory
abbrev pub text_in : LicenceText → TextFile
text_in t = record { path = t.path.now; key = t.key }

-- the same for several
abbrev pub texts_in : List LicenceText → List TextFile
texts_in ts = map text_in ts

-- the bytes of borrowed texts
abbrev pub bytes_in : Vec (Bor (List ℕ)) Global → List (List ℕ)
bytes_in v = map (λ (text : Bor (List ℕ)). text.now) v.items

-- a text, if it belongs to a list
abbrev pub only : Bool → List ℕ → List (List ℕ)
only belongs text = if belongs then text ∷ [] else []

-- a name in a list, apart from where it is in memory
abbrev pub name_at : NameAt → Name
name_at n = record {
  id = n.id.now;
  path = option_map (λ (path : Bor (List ℕ)). path.now) n.path;
}
