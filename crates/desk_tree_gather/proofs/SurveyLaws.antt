-- What is gathered up to the first fault, compared with what a survey gives despite all of them.
use Rattle.std.proofs.Common.{◌≡◌, ◌∙◌, ℕ, Bool, true, false, cond, List, [], ◌∷◌, ◌++◌, length}
use Rattle.std.proofs.Common.{map, filter, Some, None, sym, ap, refl, subst}
use Rattle.std.specs.Prelude.{nat_lt, not, option_to_list, Result, Ok, Err}
use Rattle.std.specs.List.{flat_map}
use Rattle.std.specs.Option.{is_some}
use Rattle.std.specs.Str.{is_utf8}
use Rattle.desk_tree_annotations.specs.Tags.{TagText}
use Rattle.desk_tree_annotations.specs.declared.annotation.Annotation.{Annotation}
use Rattle.desk_tree_annotations.specs.declared.fault.AnnotationsFault.{AnnotationsFault}
use Rattle.desk_tree_annotations.specs.declared.fault.AnnotationsFault.TheVariants as why
use Rattle.desk_tree_annotations.specs.Reading.{annotations_of, entries}
use Rattle.desk_tree_annotations.specs.Sifting.{good_annotations, annotation_faults, Agrees as AgreesWithin}
use Rattle.desk_tree_annotations.proofs.SiftLemmas.{agrees_in}
use Rattle.desk_tree_gather.specs.declared.fault.GatherFault.{GatherFault}
use Rattle.desk_tree_gather.specs.declared.fault.GatherFault.TheVariants as first
use Rattle.desk_tree_gather.specs.declared.files.SourceFile.{SourceFile}
use Rattle.desk_tree_gather.specs.declared.flaw.Flaw.{Flaw}
use Rattle.desk_tree_gather.specs.declared.flaw.Flaw.TheVariants.{TooManyFiles, BadPath, TwicePath}
use Rattle.desk_tree_gather.specs.declared.flaw.Flaw.TheVariants.{BadToml, BadExpression}
use Rattle.desk_tree_infos.specs.declared.infos.FileInfo.{FileInfo}
use Rattle.desk_tree_infos.specs.Readers.{Reader, Stated}
use Rattle.desk_tree_gather.specs.Paths.{is_path, is_toml, is_covered, folder_of}
use Rattle.desk_tree_gather.specs.Trees.{Read, each, put_file, bytes_at, placed, tree_of}
use Rattle.desk_tree_infos.specs.Tomls.{TomlText}
use Rattle.desk_tree_gather.specs.Tomls.{told_of, toml_read, toml_of, tomls_of}
use Rattle.desk_tree_infos.specs.Information.{counting}
use Rattle.desk_tree_gather.specs.Gathering.{holder, bad_line, unless_bad, stated_in, info_with}
use Rattle.desk_tree_gather.specs.Gathering.{info_of, infos_of, gathered}
use Rattle.desk_tree_gather.specs.Survey.{unless_flawed, sifted, path_flaws, flaw_of, toml_flaws}
use Rattle.desk_tree_gather.specs.Survey.{toml_sifted, tag_flaws, stated_flaws, kept, tree_flaws}
use Rattle.desk_tree_gather.specs.Survey.{flaws_of, info_sifted, infos_sifted, gather_fault}
use Rattle.desk_tree_gather.specs.Survey.{first_fault, Agrees}
use Rattle.desk_base.specs.Results.{then_read, followed}

-- ---- one after another

followed_agrees : {A : Type 0} (m : Read A) (rest : Read (List A)) (fs gs : List Flaw) (y : A)
    (ys : List A) → Agrees m fs y → Agrees rest gs ys → Agrees (followed m rest) (fs ++ gs) (y ∷ ys)
followed_agrees (Ok x) (Ok xs) fs gs y ys h k = (ap (λ l. l ++ gs) h.0 ∙ k.0, λ i. h.1 i ∷ k.1 i)
followed_agrees (Ok x) (Err fault) fs gs y ys h k = (k.0, k.1, ap (λ l. l ++ gs) h.0 ∙ k.2, k.3)
followed_agrees (Err fault) rest fs gs y ys h k = (h.0, h.1 ++ gs, ap (λ l. l ++ gs) h.2, h.3)

then_agrees : {A B : Type 0} (m : Read A) (next : A → Read B) (fs gs : List Flaw) (y : A) (z : B)
    → Agrees m fs y → Agrees (next y) gs z → Agrees (then_read m next) (fs ++ gs) z
then_agrees (Ok x) next fs gs y z h k = subst (λ l. Agrees (next x) l z)
    (sym (ap (λ l. l ++ gs) h.0)) (subst (λ w. Agrees (next w) gs z) h.1 k)
then_agrees (Err fault) next fs gs y z h k = (h.0, h.1 ++ gs, ap (λ l. l ++ gs) h.2, h.3)

map_agrees : {A B : Type 0} (m : Read A) (g : A → B) (fs : List Flaw) (y : A) → Agrees m fs y
    → Agrees (then_read m (λ x. Ok (g x))) fs (g y)
map_agrees (Ok x) g fs y h = (h.0, ap g h.1)
map_agrees (Err fault) g fs y h = h

module _ {A B : Type 0} (test : A → Bool) (read : A → Read B) (flaws : A → List Flaw) (good : A → B)
    (h : (x : A) → Agrees (read x) (flaws x) (good x)) where
  each_step : (b : Bool) (x : A) (rest : Read (List B)) (passing : List A)
      → Agrees rest (flat_map flaws passing) (map good passing)
      → Agrees (cond b (followed (read x) rest) rest)
      (flat_map flaws (cond b (x ∷ passing) passing)) (map good (cond b (x ∷ passing) passing))
  each_step true x rest passing k = followed_agrees (read x) rest (flaws x) (flat_map flaws passing)
      (good x) (map good passing) (h x) k
  each_step false x rest passing k = k

  pub each_agrees : (xs : List A)
      → Agrees (each test read xs) (flat_map flaws (filter test xs)) (map good (filter test xs))
  each_agrees [] = (refl, refl)
  each_agrees (x ∷ xs) = each_step (test x) x (each test read xs) (filter test xs) (each_agrees xs)

-- ---- paths

placed_step : (can twice : Bool) (f : SourceFile) (sorted fs : List SourceFile)
    → Agrees (placed (put_file f sorted) fs) (path_flaws (put_file f sorted) fs)
    (sifted (put_file f sorted) fs)
    → let flaw = cond (not can) (Some (BadPath f.path))
    (cond twice (Some (TwicePath f.path)) None) in
    Agrees (cond (not can) (Err first.BadPath)
    (cond twice (Err first.TwicePath) (placed (put_file f sorted) fs)))
    (option_to_list flaw ++ path_flaws (unless_flawed flaw f sorted) fs)
    (sifted (unless_flawed flaw f sorted) fs)
placed_step false twice f sorted fs h = (BadPath f.path, path_flaws sorted fs, refl, refl)
placed_step true true f sorted fs h = (TwicePath f.path, path_flaws sorted fs, refl, refl)
placed_step true false f sorted fs h = h

placed_agrees : (sorted files : List SourceFile)
    → Agrees (placed sorted files) (path_flaws sorted files) (sifted sorted files)
placed_agrees sorted [] = (refl, refl)
placed_agrees sorted (f ∷ fs) = placed_step (is_path f.path) (is_some (bytes_at sorted f.path)) f
    sorted fs (placed_agrees (put_file f sorted) fs)

-- ---- REUSE.toml files

told : (path : List ℕ) (fault : AnnotationsFault)
    → gather_fault (flaw_of path fault) ≡ told_of path fault
told path why.BadToml = refl
told path (why.BadAnnotation index kind) = refl
told path (why.Memory error) = refl

read_agrees : (path : List ℕ) (x : Result (List Annotation) AnnotationsFault)
    (faults : List AnnotationsFault) (ys : List Annotation) → AgreesWithin x faults ys
    → Agrees (toml_read path x) (map (flaw_of path) faults)
    (record { folder = folder_of path; annotations = ys })
read_agrees path (Ok list) faults ys h = (
  ap (map (flaw_of path)) h.0,
  λ i. record { folder = folder_of path; annotations = h.1 i },
)
read_agrees path (Err fault) faults ys h = (
  flaw_of path fault,
  map (flaw_of path) h.0,
  ap (map (flaw_of path)) h.1,
  told path fault,
)

toml_agrees_at : (r : Reader) (f : SourceFile) (text : Bool)
    → Agrees (cond text (toml_read f.path (annotations_of r.reading f.bytes))
    (Err (first.BadToml f.path)))
    (cond text (map (flaw_of f.path) (annotation_faults r.reading f.bytes)) (BadToml f.path ∷ []))
    (record {
      folder = folder_of f.path;
      annotations = cond text (good_annotations r.reading f.bytes) [];
    })
toml_agrees_at r f true = read_agrees f.path (annotations_of r.reading f.bytes)
    (annotation_faults r.reading f.bytes) (good_annotations r.reading f.bytes)
    (agrees_in r.reading (entries f.bytes))
toml_agrees_at r f false = (BadToml f.path, [], refl, refl)

toml_agrees : (r : Reader) (f : SourceFile)
    → Agrees (toml_of r f) (toml_flaws r f) (toml_sifted r f)
toml_agrees r f = toml_agrees_at r f (is_utf8 f.bytes)

-- ---- what files state

tags_step : (b : Bool) (path : List ℕ) (s : Stated) (t : TagText) (line : _) (flaws : List Flaw)
    → Agrees (unless_bad path s line) flaws s
    → Agrees (unless_bad path s (cond b line (Some t.line)))
    (cond b [] (BadExpression path t.line t.value ∷ []) ++ flaws) s
tags_step true path s t line flaws h = h
tags_step false path s t line flaws h = (BadExpression path t.line t.value, flaws, refl, refl)

tags_agree : (r : Reader) (path : List ℕ) (s : Stated) (tags : List TagText)
    → Agrees (unless_bad path s (bad_line r tags)) (flat_map (tag_flaws r path) tags) s
tags_agree r path s [] = (refl, refl)
tags_agree r path s (t ∷ ts) = tags_step (r.reading.is_expression t.value) path s t (bad_line r ts)
    (flat_map (tag_flaws r path) ts) (tags_agree r path s ts)

info_agrees : (r : Reader) (tomls : List TomlText) (tree : List SourceFile) (f : SourceFile)
    → Agrees (info_of r tomls tree f) (stated_flaws r (holder tree f)) (info_sifted r tomls tree f)
info_agrees r tomls tree f =
    let held = holder tree f in
    map_agrees (stated_in r held) (info_with f.path (counting r tomls f.path)) (stated_flaws r held)
    (r.stated held.bytes)
    (tags_agree r held.path (r.stated held.bytes) (r.stated held.bytes).licences)

-- ---- the whole

tree_agrees : (r : Reader) (tree : List SourceFile)
    → Agrees (then_read (tomls_of r tree) (λ tomls. infos_of r tree tomls)) (tree_flaws r tree)
    (infos_sifted r tree)
tree_agrees r tree =
    let tomls = map (toml_sifted r) (filter is_toml tree) in
    then_agrees (tomls_of r tree) (infos_of r tree) (flat_map (toml_flaws r) (filter is_toml tree))
    (flat_map (λ f. stated_flaws r (holder tree f)) (filter is_covered tree)) tomls
    (infos_sifted r tree)
    (each_agrees is_toml (toml_of r) (toml_flaws r) (toml_sifted r) (toml_agrees r) tree)
    (each_agrees is_covered (info_of r tomls tree) (λ f. stated_flaws r (holder tree f))
    (info_sifted r tomls tree) (info_agrees r tomls tree) tree)

gathered_agrees_at : (r : Reader) (files : List SourceFile) (many : Bool)
    → Agrees (then_read (cond many (Err first.TooManyFiles) (placed [] files))
    (λ tree. then_read (tomls_of r tree) (λ tomls. infos_of r tree tomls)))
    (cond many (TooManyFiles ∷ []) (path_flaws [] files ++ tree_flaws r (sifted [] files)))
    (infos_sifted r (cond many [] (sifted [] files)))
gathered_agrees_at r files true = (TooManyFiles, [], refl, refl)
gathered_agrees_at r files false =
    then_agrees (placed [] files)
    (λ tree. then_read (tomls_of r tree) (λ tomls. infos_of r tree tomls)) (path_flaws [] files)
    (tree_flaws r (sifted [] files)) (sifted [] files) (infos_sifted r (sifted [] files))
    (placed_agrees [] files) (tree_agrees r (sifted [] files))

pub gathered_agrees : (r : Reader) (files : List SourceFile)
    → Agrees (gathered r files) (flaws_of r files) (infos_sifted r (kept files))
gathered_agrees r files = gathered_agrees_at r files (nat_lt 10000 (length files))

read_is : {A : Type 0} (m : Read A) (flaws : List Flaw) (x y : A) → Agrees m flaws y → m ≡ Ok x
    → y ≡ x
read_is (Ok z) flaws x y h is = let same : z ≡ x = cc in h.1 ∙ same
read_is (Err fault) flaws x y h is = absurd cc

kept_is_at : (files tree : List SourceFile) (many : Bool)
    → cond many (Err first.TooManyFiles) (placed [] files) ≡ Ok tree
    → cond many [] (sifted [] files) ≡ tree
kept_is_at files tree true is = absurd cc
kept_is_at files tree false is = read_is (placed [] files) (path_flaws [] files) tree
    (sifted [] files) (placed_agrees [] files) is

pub kept_is : (files tree : List SourceFile) → tree_of files ≡ Ok tree → kept files ≡ tree
kept_is files tree is = kept_is_at files tree (nat_lt 10000 (length files)) is

-- ---- what is gathered, by the first flaw

pub agrees_found : {A : Type 0} (m : Read A) (flaws : List Flaw) (y : A) → Agrees m flaws y
    → first_fault flaws ≡ None → m ≡ Ok y
agrees_found (Ok x) flaws y h none = ap Ok (sym h.1)
agrees_found (Err fault) flaws y h none =
    let some : first_fault flaws ≡ Some (gather_fault h.0) = ap first_fault h.2 in absurd cc

pub agrees_fails : {A : Type 0} (m : Read A) (flaws : List Flaw) (y : A) (fault : GatherFault)
    → Agrees m flaws y → first_fault flaws ≡ Some fault → m ≡ Err fault
agrees_fails (Ok x) flaws y fault h is =
    let none : first_fault flaws ≡ None = ap first_fault h.0 in absurd cc
agrees_fails (Err other) flaws y fault h is =
    let some : first_fault flaws ≡ Some (gather_fault h.0) = ap first_fault h.2 in
    let same : gather_fault h.0 ≡ fault = cc in
    ap Err (sym h.3 ∙ same)

pub no_fault : (flaws : List Flaw) → first_fault flaws ≡ None → flaws ≡ []
no_fault [] none = refl
no_fault (flaw ∷ more) none = absurd cc

tree_found_at : (r : Reader) (files : List SourceFile) (infos : List FileInfo)
    (tree : Read (List SourceFile)) → tree_of files ≡ tree
    → then_read tree (λ t. then_read (tomls_of r t) (infos_of r t)) ≡ Ok infos
    → tree_of files ≡ Ok (kept files)
tree_found_at r files infos (Ok tree) is found = is ∙ ap Ok (sym (kept_is files tree is))
tree_found_at r files infos (Err fault) is found = absurd cc

-- what is gathered from is the tree
pub tree_found : (r : Reader) (files : List SourceFile) (infos : List FileInfo)
    → gathered r files ≡ Ok infos → tree_of files ≡ Ok (kept files)
tree_found r files infos found = tree_found_at r files infos (tree_of files) refl found
