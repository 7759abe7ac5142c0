-- Annotations by folder in a map.
use Rattle.std.proofs.Common.{◌≡◌, ◌∙◌, inl, inr, subst, sym, ℕ, Bool, true, false, cond, List, []}
use Rattle.std.proofs.Common.{◌∷◌, ◌++◌, append_assoc, length, Some, ap, refl, nat_cmp, is_eq}
use Rattle.std.proofs.Common.{Ordering}
use Rattle.std.specs.Prelude.{Vec}
use Rattle.std.specs.Str.{bytes_eq}
use Rattle.std.specs.declared.alloc.Global.{Global}
use Rattle.std.specs.Cmp.Lexicographic.{slice_cmp}
use Rattle.std.specs.BTreeMap.{Updates, is_at}
use Rattle.std.specs.Map.{lookup, IsKeyTest, AreApart, KeepsOthers}
use Rattle.std.specs.Ordering.{eq_by_cmp}
use Rattle.std.proofs.lemmas.Bool.{cases_Bool}
use Rattle.std.proofs.lemmas.Cmp.{eq_by_cmp_equiv, nat_list_cmp_total, nat_list_eq_equiv}
use Rattle.std.proofs.lemmas.Slice.Eq.{bytes_eq-Decides}
use Rattle.std.proofs.lemmas.Map.Text.{is_eq-slice_cmp}
use Rattle.desk_tree_annotations.specs.declared.annotation.Annotation.{Annotation}
use Rattle.desk_tree_infos.specs.declared.folders.Toml.{Toml}
use Rattle.desk_tree_infos.specs.Tomls.{TomlText, annotations_in, tomls_in}
use Rattle.desk_tree_infos.specs.Folders.{Numbers, list_or_none, numbers_for}
use Rattle.desk_tree_infos.specs.Sharing.{annotations_at}

-- the annotations of a folder, or others if no file is for it
abbrev pub annotations_or : List TomlText → List ℕ → List Annotation → List Annotation
annotations_or [] folder others = others
annotations_or (t ∷ ts) folder others = cond (bytes_eq t.folder folder) t.annotations
    (annotations_or ts folder others)

pub annotations_or-none : (ts : List TomlText) (folder : List ℕ)
    → annotations_or ts folder [] ≡ annotations_in ts folder
annotations_or-none [] folder = refl
annotations_or-none (t ∷ ts) folder = ap (cond (bytes_eq t.folder folder) t.annotations)
    (annotations_or-none ts folder)

pub annotations_or-last : (ts : List Toml) (t : Toml) (folder : List ℕ) (others : List Annotation)
    → annotations_or (tomls_in (ts ++ t ∷ [])) folder others
    ≡ annotations_or (tomls_in ts) folder
    (cond (bytes_eq t.folder.now folder) t.annotations.list others)
annotations_or-last [] t folder others = refl
annotations_or-last (u ∷ us) t folder others = ap (cond (bytes_eq u.folder.now folder)
    u.annotations.list) (annotations_or-last us t folder others)

abbrev folder_cmp : Vec ℕ Global → Vec ℕ Global → Ordering
folder_cmp a b = slice_cmp nat_cmp a.items b.items

module _ (eq : Vec ℕ Global → Vec ℕ Global → Bool) (test : Vec ℕ Global → Bool) where
  other_entries : (old new : List (Vec ℕ Global × Vec ℕ Global)) → KeepsOthers eq test old new
      → (other : Vec ℕ Global → Bool) → IsKeyTest eq other → AreApart test other
      → lookup other new ≡ lookup other old
  unfolding KeepsOthers
  other_entries old new h = h

apart_in_order : (bs cs ks : List ℕ) → bytes_eq bs cs ≡ false
    → is_eq (slice_cmp nat_cmp bs ks) ≡ true → is_eq (slice_cmp nat_cmp cs ks) ≡ false
apart_in_order bs cs ks differs same =
    is_eq-slice_cmp cs ks ∙ nat_list_eq_equiv.symm cs ks
    ∙ sym (nat_list_eq_equiv.congr bs ks cs (sym (is_eq-slice_cmp bs ks) ∙ same)) ∙ differs

-- one more folder in the map
pub numbers_for-insert : (folder : Vec ℕ Global) (name : List ℕ) (x : Vec ℕ Global)
    (old new : Numbers) → folder.items ≡ name → Updates folder_cmp old new folder (Some x)
    → (q : List ℕ)
    → numbers_for new q ≡ cond (bytes_eq name q) x.items (numbers_for old q)
numbers_for-insert folder name x old new is updates q =
    elim (cases_Bool (bytes_eq folder.items q)) [
      | inl here ↦
          subst (λ l. numbers_for new l ≡ x.items) ((bytes_eq-Decides folder.items q).0 here)
          (ap list_or_none updates.1)
          ∙ sym (ap (λ b. cond b x.items (numbers_for old q))
          (ap (λ f. bytes_eq f q) (sym is) ∙ here))
      | inr away ↦
          ap list_or_none (other_entries (eq_by_cmp folder_cmp) (is_at (folder_cmp folder))
          old.entries new.entries updates.3 (λ k. is_eq (slice_cmp nat_cmp q k.items))
          (λ a b. (eq_by_cmp_equiv nat_list_cmp_total).congr q a.items b.items)
          (λ k. apart_in_order folder.items q k.items away))
          ∙ sym (ap (λ b. cond b x.items (numbers_for old q))
          (ap (λ f. bytes_eq f q) (sym is) ∙ away))
    ]

-- no file is left
pub none_left : (ts : List Toml) → length ts ≡ 0 → (folder : List ℕ) (others : List Annotation)
    → others ≡ annotations_or (tomls_in ts) folder others
none_left [] is folder others = refl
none_left (t ∷ ts) is folder others = absurd cc

-- the annotations of one more folder, whatever comes after them
pub folder_kept : (grown : List Annotation) (folder : Vec ℕ Global) (name : List ℕ)
    (x : Vec ℕ Global) (list : List Annotation) (old new : Numbers) → folder.items ≡ name
    → Updates folder_cmp old new folder (Some x) → annotations_at grown x.items ≡ list
    → (q : List ℕ)
    → annotations_at grown (numbers_for new q)
    ≡ cond (bytes_eq name q) list (annotations_at grown (numbers_for old q))
folder_kept grown folder name x list old new is updates listed q =
    ap (annotations_at grown) (numbers_for-insert folder name x old new is updates q)
    ∙ by_name (bytes_eq name q)
    ∙ ap (λ l. cond (bytes_eq name q) l (annotations_at grown (numbers_for old q))) listed
  where
    by_name : (b : Bool) → annotations_at grown (cond b x.items (numbers_for old q))
        ≡ cond b (annotations_at grown x.items) (annotations_at grown (numbers_for old q))
    by_name true = refl
    by_name false = refl

-- the last file's annotations are kept, and those of the files before it are left
pub last_kept : (ts tomls : List Toml) (toml : Toml) (old grown : List Annotation)
    (numbers more_numbers : Numbers) (folder x : Vec ℕ Global)
    (all : List ℕ → List Annotation) → tomls ≡ ts ++ toml ∷ []
    → grown ≡ old ++ toml.annotations.list → folder.items ≡ toml.folder.now
    → Updates folder_cmp numbers more_numbers folder (Some x)
    → ((more : List Annotation) → annotations_at (grown ++ more) x.items ≡ toml.annotations.list)
    → ((more : List Annotation) (q : List ℕ) → annotations_or (tomls_in tomls) q
    (annotations_at (old ++ more) (numbers_for numbers q)) ≡ all q)
    → (more : List Annotation) (q : List ℕ) → annotations_or (tomls_in ts) q
    (annotations_at (grown ++ more) (numbers_for more_numbers q)) ≡ all q
last_kept ts tomls toml old grown numbers more_numbers folder x all last grows is updates listed
    before more q =
    let others = annotations_at (grown ++ more) (numbers_for numbers q) in
    ap (annotations_or (tomls_in ts) q) (folder_kept (grown ++ more) folder toml.folder.now x
    toml.annotations.list numbers more_numbers is updates (listed more) q)
    ∙ sym (annotations_or-last ts toml q others)
    ∙ ap (λ l. annotations_or (tomls_in l) q others) (sym last)
    ∙ ap (λ l. annotations_or (tomls_in tomls) q (annotations_at l (numbers_for numbers q)))
    (ap (λ l. l ++ more) grows ∙ append_assoc old toml.annotations.list more)
    ∙ before (toml.annotations.list ++ more) q
