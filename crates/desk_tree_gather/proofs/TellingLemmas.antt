-- What is reported about a tree's files, which are taken out one after another.
use Rattle.std.proofs.Common.{◌≡◌, ◌∙◌, ◌<◌, ℕ, Bool, true, false, cond, List, [], ◌∷◌, ◌++◌}
use Rattle.std.proofs.Common.{length, map, arith, Some, codes, sym, ap, refl, Ordering, Less, Equal}
use Rattle.std.proofs.Common.{Greater, nat_cmp, is_eq}
use Rattle.std.specs.Prelude.{All, Ok, Err, filter}
use Rattle.std.specs.Ordering.{ordering_then, ordering_reverse}
use Rattle.std.specs.Str.{bytes_eq}
use Rattle.std.specs.Cmp.Lexicographic.{slice_cmp}
use Rattle.std.specs.Map.{keys_of}
use Rattle.std.proofs.lemmas.Cmp.{nat_cmp_total, nat_list_cmp_total, tied_itself}
use Rattle.std.proofs.lemmas.List.Elements.{All-head, All-tail}
use Rattle.std.proofs.lemmas.Map.Text.{is_eq-slice_cmp}
use Rattle.sha1.specs.Sha1.{sha1}
use Rattle.desk_tree_gather.specs.declared.fault.GatherFault.{GatherFault}
use Rattle.desk_tree_gather.specs.declared.files.SourceFile.{SourceFile}
use Rattle.desk_tree_infos.specs.declared.infos.FileInfo.{FileInfo}
use Rattle.desk_tree_gather.specs.declared.telling.ToldFile.{ToldFile}
use Rattle.desk_tree_infos.specs.Readers.{Reader, Stated}
use Rattle.desk_tree_gather.specs.Paths.{is_covered}
use Rattle.desk_tree_gather.specs.Trees.{Read, each, some_bytes, bytes_at, bytes_of, tree_of}
use Rattle.desk_tree_infos.specs.Tomls.{TomlText}
use Rattle.desk_tree_gather.specs.Tomls.{tomls_of}
use Rattle.desk_tree_infos.specs.Information.{counting}
use Rattle.desk_tree_gather.specs.Gathering.{holder, holder_by, stated_in, info_with, info_of, infos_of, gathered}
use Rattle.desk_tree_gather.specs.Telling.{with_digest, told, told_of, told_in, told_beside}
use Rattle.desk_tree_gather.proofs.GatheredLemmas.{gathered_fails, gathered_found}
use Rattle.desk_tree_gather.proofs.OwnedLemmas.{files_in}
use Rattle.desk_base.specs.Results.{then_read, followed}
use Rattle.desk_base.proofs.Results.{onto, onto-followed}
use Rattle.desk_base.proofs.Texts.{same_text}

-- ---- paths

abbrev pub IsBelow : List ℕ → List ℕ → Type 0
IsBelow a b = slice_cmp nat_cmp a b ≡ Less

below_then : (o : Ordering) (x y : Ordering) → ordering_then o x ≡ Less → (x ≡ Less → y ≡ Less)
    → ordering_then o y ≡ Less
below_then Less x y is more = refl
below_then Equal x y is more = more is
below_then Greater x y is more = is

-- what is above a path stays above it with more after it
below_more : (a b more : List ℕ) → IsBelow a b → IsBelow a (b ++ more)
below_more [] [] more is = absurd cc
below_more [] (y ∷ ys) more is = refl
below_more (x ∷ xs) [] more is = absurd cc
below_more (x ∷ xs) (y ∷ ys) more is = below_then (nat_cmp x y) (slice_cmp nat_cmp xs ys)
    (slice_cmp nat_cmp xs (ys ++ more)) is (below_more xs ys more)

-- a path with more after it is above the path
below_longer : (a : List ℕ) (x : ℕ) (more : List ℕ) → IsBelow a (a ++ x ∷ more)
below_longer [] x more = refl
below_longer (y ∷ ys) x more = ap (λ o. ordering_then o (slice_cmp nat_cmp ys (ys ++ x ∷ more)))
    (tied_itself nat_cmp_total y) ∙ below_longer ys x more

-- what is above another differs from it
apart : (a b : List ℕ) → IsBelow a b → bytes_eq b a ≡ false
apart a b is = sym (is_eq-slice_cmp b a)
    ∙ ap is_eq (nat_list_cmp_total.antisymm b a ∙ ap ordering_reverse is)

-- ---- one file

module _ (r : Reader) (tomls : List TomlText) where
  -- what is reported about a file, from its own texts and the digest of some bytes
  abbrev by_stated : SourceFile → Read Stated → List ℕ → Read ToldFile
  by_stated g s bytes = then_read
      (then_read s (λ own. Ok (info_with g.path (counting r tomls g.path) own)))
      (λ info. Ok (record { info = info; digest = sha1 bytes }))

  told_of-is_at : (g : SourceFile) (tree : List SourceFile) (s : Read Stated)
      → then_read (then_read s (λ own. Ok (info_with g.path (counting r tomls g.path) own)))
      (λ info. Ok (with_digest tree info)) ≡ by_stated g s (bytes_of tree g.path)
  told_of-is_at g tree (Ok own) = refl
  told_of-is_at g tree (Err fault) = refl

  told_of-is : (g : SourceFile) (tree : List SourceFile)
      → told_of r tomls tree g ≡ by_stated g (stated_in r (holder tree g)) (bytes_of tree g.path)
  told_of-is g tree = told_of-is_at g tree (stated_in r (holder tree g))

  -- a file before others that isn't the one beside `g`
  holder_behind : (f g : SourceFile) (fs : List SourceFile)
      → IsBelow f.path (g.path ++ codes ".license") → holder (f ∷ fs) g ≡ holder fs g
  holder_behind f g fs below =
      let beside = g.path ++ codes ".license" in
      ap (λ b. holder_by beside g (cond b (Some f.bytes) (bytes_at fs beside)))
      (apart f.path beside below)

  -- what is reported about a file after another is as if that weren't there
  told_behind : (f g : SourceFile) (fs : List SourceFile) → IsBelow f.path g.path
      → told_of r tomls (f ∷ fs) g ≡ told_of r tomls fs g
  told_behind f g fs below =
      told_of-is g (f ∷ fs)
      ∙ ap (λ h. by_stated g (stated_in r h) (bytes_of (f ∷ fs) g.path))
      (holder_behind f g fs (below_more f.path g.path (codes ".license") below))
      ∙ ap (λ b. by_stated g (stated_in r (holder fs g))
      (some_bytes (cond b (Some f.bytes) (bytes_at fs g.path)))) (apart f.path g.path below)
      ∙ sym (told_of-is g fs)

  -- what is reported about the first is from same_text and the others
  told_first : (f : SourceFile) (fs : List SourceFile)
      → told_of r tomls (f ∷ fs) f ≡ told_beside r tomls fs f
  told_first f fs =
      told_of-is f (f ∷ fs)
      ∙ ap (λ h. by_stated f (stated_in r h) (bytes_of (f ∷ fs) f.path))
      (holder_behind f f fs (below_longer f.path 46 (codes "license")))
      ∙ ap (λ b. by_stated f (stated_in r (holder fs f))
      (some_bytes (cond b (Some f.bytes) (bytes_at fs f.path)))) (same_text f.path)

  -- ---- all files

  each_behind : (f : SourceFile) (fs : List SourceFile) (es : List (List ℕ × List ℕ))
      → All (IsBelow f.path) (keys_of es)
      → each is_covered (told_of r tomls (f ∷ fs)) (files_in es)
      ≡ each is_covered (told_of r tomls fs) (files_in es)
  each_behind f fs [] above = refl
  each_behind f fs (e ∷ es) above =
      let one = told_behind f (record { path = e.0; bytes = e.1 }) fs
      (All-head (IsBelow f.path) e.0 (keys_of es) above) in
      let more = each_behind f fs es (All-tail (IsBelow f.path) e.0 (keys_of es) above) in
      λ i. cond (is_covered (record { path = e.0; bytes = e.1 })) (followed (one i) (more i))
      (more i)

  module _ (f : SourceFile) (all : List SourceFile) (es : List (List ℕ × List ℕ))
      (done : List ToldFile) (has : all ≡ f ∷ files_in es)
      (above : All (IsBelow f.path) (keys_of es)) where
    stepped : onto done (told_in r tomls all)
        ≡ onto done (cond (is_covered f)
        (followed (told_beside r tomls (files_in es) f) (told_in r tomls (files_in es)))
        (told_in r tomls (files_in es)))
    stepped =
        ap (λ l. onto done (told_in r tomls l)) has
        ∙ (λ i. onto done (cond (is_covered f)
        (followed (told_first f (files_in es) i) (each_behind f (files_in es) es above i))
        (each_behind f (files_in es) es above i)))

    -- a file that isn't covered
    pub told_skip : is_covered f ≡ false
        → onto done (told_in r tomls all) ≡ onto done (told_in r tomls (files_in es))
    told_skip is = stepped ∙ ap (λ b. onto done
        (cond b (followed (told_beside r tomls (files_in es) f) (told_in r tomls (files_in es)))
        (told_in r tomls (files_in es)))) is

    -- one that is
    pub told_item : (t : ToldFile) → is_covered f ≡ true
        → told_beside r tomls (files_in es) f ≡ Ok t
        → onto done (told_in r tomls all) ≡ onto (done ++ t ∷ []) (told_in r tomls (files_in es))
    told_item t covered is =
        stepped ∙ ap (λ b. onto done (cond b
        (followed (told_beside r tomls (files_in es) f) (told_in r tomls (files_in es)))
        (told_in r tomls (files_in es)))) covered
        ∙ ap (λ x. onto done (followed x (told_in r tomls (files_in es)))) is
        ∙ onto-followed done t (told_in r tomls (files_in es))

    -- a fault
    pub told_fault : (fault : GatherFault) → is_covered f ≡ true
        → told_beside r tomls (files_in es) f ≡ Err fault
        → onto done (told_in r tomls all) ≡ Err fault
    told_fault fault covered is =
        stepped ∙ ap (λ b. onto done (cond b
        (followed (told_beside r tomls (files_in es) f) (told_in r tomls (files_in es)))
        (told_in r tomls (files_in es)))) covered
        ∙ ap (λ x. onto done (followed x (told_in r tomls (files_in es)))) is

-- ---- what is gathered, and the digests

module _ {A B : Type 0} (test : SourceFile → Bool) (read : SourceFile → Read A) (f : A → B) where
  followed_mapped : (x : Read A) (xs : Read (List A)) (ys : Read (List B))
      → ys ≡ then_read xs (λ list. Ok (map f list))
      → followed (then_read x (λ a. Ok (f a))) ys
      ≡ then_read (followed x xs) (λ list. Ok (map f list))
  followed_mapped (Ok a) (Ok list) ys is = ap (followed (Ok (f a))) is
  followed_mapped (Ok a) (Err fault) ys is = ap (followed (Ok (f a))) is
  followed_mapped (Err fault) xs ys is = refl

  by_test : (b : Bool) (x y : Read (List B)) (x' y' : Read (List A))
      → x ≡ then_read x' (λ list. Ok (map f list)) → y ≡ then_read y' (λ list. Ok (map f list))
      → cond b x y ≡ then_read (cond b x' y') (λ list. Ok (map f list))
  by_test true x y x' y' is other = is
  by_test false x y x' y' is other = other

  each_mapped : (fs : List SourceFile)
      → each test (λ x. then_read (read x) (λ a. Ok (f a))) fs
      ≡ then_read (each test read fs) (λ list. Ok (map f list))
  each_mapped [] = refl
  each_mapped (x ∷ xs) =
      by_test (test x) (followed (then_read (read x) (λ a. Ok (f a)))
      (each test (λ y. then_read (read y) (λ a. Ok (f a))) xs))
      (each test (λ y. then_read (read y) (λ a. Ok (f a))) xs)
      (followed (read x) (each test read xs)) (each test read xs)
      (followed_mapped (read x) (each test read xs)
      (each test (λ y. then_read (read y) (λ a. Ok (f a))) xs) (each_mapped xs)) (each_mapped xs)

abbrev digested : List SourceFile → Read (List FileInfo) → Read (List ToldFile)
digested tree infos = then_read infos (λ list. Ok (map (with_digest tree) list))

abbrev told_by : Read (List FileInfo) → Read (List SourceFile) → Read (List ToldFile)
told_by infos tree = then_read infos (λ list. then_read tree (λ t. Ok (map (with_digest t) list)))

pub told_found : (r : Reader) (files tree : List SourceFile) (tomls : List TomlText)
    → tree_of files ≡ Ok tree → tomls_of r tree ≡ Ok tomls → told_in r tomls tree ≡ told r files
told_found r files tree tomls has is =
    each_mapped is_covered (info_of r tomls tree) (with_digest tree) tree
    ∙ ap (digested tree) (gathered_found r files tree tomls has is)
    ∙ ap (told_by (gathered r files)) (sym has)

pub told_fails : (r : Reader) (files tree : List SourceFile) (fault : GatherFault)
    → tree_of files ≡ Ok tree → tomls_of r tree ≡ Err fault → told r files ≡ Err fault
told_fails r files tree fault has is = ap (λ g. told_by g (tree_of files))
    (gathered_fails r files tree fault has is)

pub told_unplaced : (r : Reader) (files : List SourceFile) (fault : GatherFault)
    → tree_of files ≡ Err fault → told r files ≡ Err fault
told_unplaced r files fault is = ap (λ t. told_by
    (then_read t (λ tree. then_read (tomls_of r tree) (infos_of r tree))) (tree_of files)) is

-- ---- REUSE.toml files

kept_test : {A : Type 0} (test : SourceFile → Bool) (read : SourceFile → Read A) (f : SourceFile)
    (b : Bool) (fs : List SourceFile) (rest : Read (List A)) → test f ≡ b → each test read fs ≡ rest
    → each test read (cond b (f ∷ fs) fs) ≡ cond b (followed (read f) rest) rest
kept_test test read f true fs rest is more = ap (λ t. cond t (followed (read f) (each test read fs))
    (each test read fs)) is ∙ ap (followed (read f)) more
kept_test test read f false fs rest is more = more

-- only those that pass the test are read
pub each-filter : {A : Type 0} (test : SourceFile → Bool) (read : SourceFile → Read A)
    (fs : List SourceFile) → each test read (filter test fs) ≡ each test read fs
each-filter test read [] = refl
each-filter test read (f ∷ fs) = kept_test test read f (test f) (filter test fs) (each test read fs)
    refl (each-filter test read fs)

-- no file is left
pub none_left : (es : List (List ℕ × List ℕ)) → (0 < length es → ⊥) → es ≡ []
none_left [] none = refl
none_left (e ∷ es) none = absurd (none (omega arith))
