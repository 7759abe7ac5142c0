-- A survey's steps.
use Rattle.std.proofs.Common.{◌≡◌, ◌∙◌, inl, inr, ℕ, ◌+◌, ◌<◌, true, false, cond, List, [], ◌∷◌}
use Rattle.std.proofs.Common.{◌++◌, length, get_or, take, map, None, sym, ap, append_assoc}
use Rattle.std.specs.List.{flat_map}
use Rattle.std.specs.Str.{IsUtf8, is_utf8}
use Rattle.std.proofs.lemmas.Bool.{cases_Bool}
use Rattle.std.proofs.lemmas.List.{append-nil, flat_map_more, map-append, map_more}
use Rattle.std.proofs.lemmas.Str.{IsUtf8-from_is_utf8, is_utf8-from_IsUtf8}
use Rattle.desk_tree_annotations.specs.Tags.{TagText}
use Rattle.desk_tree_annotations.specs.declared.annotation.Annotation.{Annotation}
use Rattle.desk_tree_annotations.specs.declared.fault.AnnotationsFault.{AnnotationsFault}
use Rattle.desk_tree_annotations.specs.Sifting.{good_annotations, annotation_faults}
use Rattle.desk_tree_gather.specs.declared.files.File.{File}
use Rattle.desk_tree_gather.specs.declared.files.SourceFile.{SourceFile}
use Rattle.desk_tree_gather.specs.declared.flaw.Flaw.{Flaw}
use Rattle.desk_tree_gather.specs.declared.flaw.Flaw.TheVariants.{BadToml, BadExpression}
use Rattle.desk_tree_infos.specs.declared.infos.FileInfo.{FileInfo}
use Rattle.desk_tree_infos.specs.Readers.{Reader, Stated}
use Rattle.desk_tree_gather.specs.Paths.{folder_of}
use Rattle.desk_tree_gather.specs.Trees.{put_file}
use Rattle.desk_tree_gather.specs.Shown.{file_of, files_of}
use Rattle.desk_tree_gather.specs.Survey.{path_flaw, unless_flawed, with_file, flaw_of, toml_flaws}
use Rattle.desk_tree_gather.specs.Survey.{toml_sifted, tag_flaws, stated_flaws}

-- ---- tags

pub told_good : (r : Reader) (path : List ℕ) (t : TagText) (fs : List Flaw)
    → r.reading.is_expression t.value ≡ true → fs ≡ fs ++ tag_flaws r path t
told_good r path t fs is = sym (append-nil fs)
    ∙ ap (λ b. fs ++ cond b [] (BadExpression path t.line t.value ∷ [])) (sym is)

pub told_bad : (r : Reader) (path : List ℕ) (t : TagText) (p v : List ℕ)
    → r.reading.is_expression t.value ≡ false → p ≡ path → v ≡ t.value
    → BadExpression p t.line v ∷ [] ≡ tag_flaws r path t
told_bad r path t p v is e f = (λ i. BadExpression (e i) t.line (f i) ∷ [])
    ∙ ap (λ b. cond b [] (BadExpression path t.line t.value ∷ [])) (sym is)

pub stated_flaws_are : (r : Reader) (f : SourceFile) (s : Stated) (path : List ℕ)
    (tags : List TagText) → path ≡ f.path → tags ≡ s.licences → r.stated f.bytes ≡ s
    → flat_map (tag_flaws r path) tags ≡ stated_flaws r f
stated_flaws_are r f s path tags e k h = ap (λ p. flat_map (tag_flaws r p) tags) e
    ∙ ap (flat_map (tag_flaws r f.path)) (k ∙ ap (λ (x : Stated). x.licences) (sym h))

-- ---- paths

pub put-is : (sorted : List SourceFile) (f : SourceFile) → None ≡ path_flaw sorted f.path
    → put_file f sorted ≡ with_file f sorted
put-is sorted f is = ap (λ o. unless_flawed o f sorted) is

-- ---- REUSE.toml files

pub no_text : (f : SourceFile) → (IsUtf8 f.bytes → ⊥) → is_utf8 f.bytes ≡ false
no_text f none =
    elim (cases_Bool (is_utf8 f.bytes)) [
      | inl is ↦ absurd (none (IsUtf8-from_is_utf8 f.bytes is))
      | inr other ↦ other
    ]

pub sifted_no_text : (r : Reader) (f : SourceFile) (folder : List ℕ) (list : List Annotation)
    → (IsUtf8 f.bytes → ⊥) → folder ≡ folder_of f.path → list ≡ []
    → record { folder = folder; annotations = list } ≡ toml_sifted r f
sifted_no_text r f folder list none e k =
    (λ i. record { folder = e i; annotations = k i })
    ∙ ap (λ b. record {
      folder = folder_of f.path;
      annotations = cond b (good_annotations r.reading f.bytes) [];
    }) (sym (no_text f none))

pub flaws_no_text : (r : Reader) (f : SourceFile) (path : List ℕ) → (IsUtf8 f.bytes → ⊥)
    → path ≡ f.path → BadToml path ∷ [] ≡ toml_flaws r f
flaws_no_text r f path none e =
    ap (λ p. BadToml p ∷ []) e ∙ ap (λ b. cond b
    (map (flaw_of f.path) (annotation_faults r.reading f.bytes)) (BadToml f.path ∷ []))
    (sym (no_text f none))

pub sifted_text : (r : Reader) (f : SourceFile) (folder : List ℕ) (list : List Annotation)
    → IsUtf8 f.bytes → folder ≡ folder_of f.path → list ≡ good_annotations r.reading f.bytes
    → record { folder = folder; annotations = list } ≡ toml_sifted r f
sifted_text r f folder list text e k =
    (λ i. record { folder = e i; annotations = k i })
    ∙ ap (λ b. record {
      folder = folder_of f.path;
      annotations = cond b (good_annotations r.reading f.bytes) [];
    }) (sym (is_utf8-from_IsUtf8 f.bytes text))

pub flaws_text : (r : Reader) (f : SourceFile) (faults : List AnnotationsFault) → IsUtf8 f.bytes
    → faults ≡ annotation_faults r.reading f.bytes → map (flaw_of f.path) faults ≡ toml_flaws r f
flaws_text r f faults text k =
    ap (map (flaw_of f.path)) k ∙ ap (λ b. cond b
    (map (flaw_of f.path) (annotation_faults r.reading f.bytes)) (BadToml f.path ∷ []))
    (sym (is_utf8-from_IsUtf8 f.bytes text))

-- ---- flaws one after another

pub joined : (flaws middle new x y x' y' : List Flaw) → new ≡ middle ++ y → middle ≡ flaws ++ x
    → x ≡ x' → y ≡ y' → new ≡ flaws ++ (x' ++ y')
joined flaws middle new x y x' y' is so_far e k = is ∙ ap (λ m. m ++ y) so_far
    ∙ append_assoc flaws x y ∙ (λ i. flaws ++ (e i ++ k i))

-- ---- one more file

module _ (files : List File) (i : ℕ) (d : File) where
  files_more : i < length files
      → files_of (take (i + 1) files) ≡ files_of (take i files) ++ file_of (get_or files i d) ∷ []
  files_more within = map_more file_of files i d within

  pub infos_more : (read : SourceFile → FileInfo) (infos : List FileInfo) (info : FileInfo)
      → i < length files → infos ≡ map read (files_of (take i files))
      → info ≡ read (file_of (get_or files i d))
      → infos ++ info ∷ [] ≡ map read (files_of (take (i + 1) files))
  infos_more read infos info within so_far is =
      (λ j. so_far j ++ is j ∷ [])
      ∙ sym (ap (map read) (files_more within)
      ∙ map-append read (files_of (take i files)) (file_of (get_or files i d) ∷ []))

  pub flaws_more : (flaws : SourceFile → List Flaw) (before old new : List Flaw) → i < length files
      → old ≡ before ++ flat_map flaws (files_of (take i files))
      → new ≡ old ++ flaws (file_of (get_or files i d))
      → new ≡ before ++ flat_map flaws (files_of (take (i + 1) files))
  flaws_more flaws before old new within so_far is =
      is
      ∙ ap (λ l. l ++ flaws (file_of (get_or files i d))) so_far
      ∙ flat_map_more flaws before (files_of (take i files)) (file_of (get_or files i d))
      ∙ ap (λ fs. before ++ flat_map flaws fs) (sym (files_more within))
