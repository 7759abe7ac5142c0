-- Owned files by path in a map.
use Rattle.std.proofs.Common.{◌≡◌, ◌∙◌, ℕ, Bool, true, false, cond, List, [], ◌∷◌, map, Option}
use Rattle.std.proofs.Common.{Some, sym, ap, refl, Ordering, Less, Equal, Greater, nat_cmp, is_eq}
use Rattle.std.specs.Ordering.{is_lt, match_ordering}
use Rattle.std.specs.Str.{bytes_eq}
use Rattle.std.specs.Cmp.Lexicographic.{slice_cmp}
use Rattle.std.specs.BTreeMap.{insert_entry}
use Rattle.std.specs.Map.{lookup}
use Rattle.std.proofs.lemmas.Map.Text.{is_eq-slice_cmp}
use Rattle.std.proofs.lemmas.Map.Lookups.{exact_bytes}
use Rattle.desk_model.specs.Texts.{text_below}
use Rattle.desk_tree_gather.specs.declared.files.SourceFile.{SourceFile}
use Rattle.desk_tree_gather.specs.Trees.{put_file, bytes_at}
use Rattle.desk_tree_gather.specs.Shown.{owned_at}

abbrev Entries : Type 0
Entries = List (List ℕ × List ℕ)

abbrev pub files_in : Entries → List SourceFile
files_in es = map owned_at es

by_order : (o : Ordering) (b : Bool) (x y z : Entries) (y' : List SourceFile) → is_eq o ≡ b
    → (o ≡ Equal → files_in y ≡ y')
    → files_in (match_ordering o x y z) ≡ cond (is_lt o) (files_in x) (cond b y' (files_in z))
by_order Less b x y z y' is same = refl
by_order Equal true x y z y' is same = same refl
by_order Equal false x y z y' is same = absurd cc
by_order Greater true x y z y' is same = absurd cc
by_order Greater false x y z y' is same = refl

pub files_in-insert_entry : (es : Entries) (k v : List ℕ)
    → files_in (insert_entry (slice_cmp nat_cmp) es k v)
    ≡ put_file (record { path = k; bytes = v }) (files_in es)
files_in-insert_entry [] k v = refl
files_in-insert_entry (e ∷ es) k v =
    by_order (slice_cmp nat_cmp k e.0) (bytes_eq k e.0) ((k, v) ∷ e ∷ es) ((e.0, v) ∷ es)
    (e ∷ insert_entry (slice_cmp nat_cmp) es k v) (record { path = k; bytes = v } ∷ files_in es)
    (is_eq-slice_cmp k e.0)
    (λ is. ap (λ (p : List ℕ). record { path = p; bytes = v } ∷ files_in es)
    (sym (exact_bytes k e.0 is)))
    ∙ ap (λ l. cond (text_below k e.0) (record { path = k; bytes = v } ∷ owned_at e ∷ files_in es)
    (cond (bytes_eq k e.0) (record { path = k; bytes = v } ∷ files_in es) (owned_at e ∷ l)))
    (files_in-insert_entry es k v)

by_test : (a b : Bool) (v : List ℕ) (o r : Option (List ℕ)) → a ≡ b → o ≡ r
    → cond a (Some v) o ≡ cond b (Some v) r
by_test a b v o r is same = λ i. cond (is i) (Some v) (same i)

-- what is found in the map
pub bytes_at-owned : (es : Entries) (path : List ℕ)
    → lookup (λ (k : List ℕ). is_eq (slice_cmp nat_cmp path k)) es ≡ bytes_at (files_in es) path
bytes_at-owned [] path = refl
bytes_at-owned (e ∷ es) path =
    by_test (is_eq (slice_cmp nat_cmp path e.0)) (bytes_eq path e.0) e.1
    (lookup (λ (k : List ℕ). is_eq (slice_cmp nat_cmp path k)) es) (bytes_at (files_in es) path)
    (is_eq-slice_cmp path e.0) (bytes_at-owned es path)
