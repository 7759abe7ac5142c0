-- Files by path in a map.
use Rattle.std.proofs.Common.{◌≡◌, ◌∙◌, ℕ, Bool, true, false, cond, List, [], ◌∷◌, Option, Some}
use Rattle.std.proofs.Common.{option_map, sym, ap, refl, Ordering, Less, Equal, Greater, nat_cmp}
use Rattle.std.proofs.Common.{is_eq}
use Rattle.std.specs.Ordering.{is_lt, match_ordering}
use Rattle.std.specs.Str.{bytes_eq}
use Rattle.std.specs.Cmp.Lexicographic.{slice_cmp}
use Rattle.std.specs.BTreeMap.{insert_entry}
use Rattle.std.specs.Map.{lookup}
use Rattle.std.proofs.lemmas.Map.Text.{is_eq-slice_cmp}
use Rattle.std.proofs.lemmas.Map.Lookups.{exact_bytes}
use denote.Ref.{Bor}
use Rattle.desk_model.specs.Texts.{text_below}
use Rattle.desk_tree_gather.specs.declared.files.SourceFile.{SourceFile}
use Rattle.desk_tree_gather.specs.Trees.{put_file, bytes_at}
use Rattle.desk_tree_gather.specs.Shown.{file_at, entries_of}
use Rattle.desk_base.specs.Borrowed.{borrowed_cmp}

abbrev Entries : Type 0
Entries = List (Bor (List ℕ) × Bor (List ℕ))

by_order : (o : Ordering) (b : Bool) (x y z : Entries) (y' : List SourceFile) → is_eq o ≡ b
    → (o ≡ Equal → entries_of y ≡ y')
    → entries_of (match_ordering o x y z) ≡ cond (is_lt o) (entries_of x) (cond b y' (entries_of z))
by_order Less b x y z y' is same = refl
by_order Equal true x y z y' is same = same refl
by_order Equal false x y z y' is same = absurd cc
by_order Greater true x y z y' is same = absurd cc
by_order Greater false x y z y' is same = refl

pub entries_of-insert_entry : (es : Entries) (k v : Bor (List ℕ))
    → entries_of (insert_entry borrowed_cmp es k v)
    ≡ put_file (record { path = k.now; bytes = v.now }) (entries_of es)
entries_of-insert_entry [] k v = refl
entries_of-insert_entry (e ∷ es) k v =
    by_order (borrowed_cmp k e.0) (bytes_eq k.now e.0.now) ((k, v) ∷ e ∷ es) ((e.0, v) ∷ es)
    (e ∷ insert_entry borrowed_cmp es k v) (record { path = k.now; bytes = v.now } ∷ entries_of es)
    (is_eq-slice_cmp k.now e.0.now)
    (λ is. ap (λ (p : List ℕ). record { path = p; bytes = v.now } ∷ entries_of es)
    (sym (exact_bytes k.now e.0.now is)))
    ∙ ap (λ l. cond (text_below k.now e.0.now)
    (record { path = k.now; bytes = v.now } ∷ file_at e ∷ entries_of es)
    (cond (bytes_eq k.now e.0.now) (record { path = k.now; bytes = v.now } ∷ entries_of es)
    (file_at e ∷ l))) (entries_of-insert_entry es k v)

abbrev bytes_of : Option (Bor (List ℕ)) → Option (List ℕ)
bytes_of o = option_map (λ (b : Bor (List ℕ)). b.now) o

by_test : (a b : Bool) (v : Bor (List ℕ)) (o : Option (Bor (List ℕ))) (r : Option (List ℕ)) → a ≡ b
    → bytes_of o ≡ r → bytes_of (cond a (Some v) o) ≡ cond b (Some v.now) r
by_test true true v o r is same = refl
by_test true false v o r is same = absurd cc
by_test false true v o r is same = absurd cc
by_test false false v o r is same = same

-- what is found in the map
pub bytes_at-lookup : (es : Entries) (path : List ℕ)
    → bytes_of (lookup (λ (k : Bor (List ℕ)). is_eq (slice_cmp nat_cmp path k.now)) es)
    ≡ bytes_at (entries_of es) path
bytes_at-lookup [] path = refl
bytes_at-lookup (e ∷ es) path =
    by_test (is_eq (slice_cmp nat_cmp path e.0.now)) (bytes_eq path e.0.now) e.1
    (lookup (λ (k : Bor (List ℕ)). is_eq (slice_cmp nat_cmp path k.now)) es)
    (bytes_at (entries_of es) path) (is_eq-slice_cmp path e.0.now) (bytes_at-lookup es path)
