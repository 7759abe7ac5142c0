-- The files of a draft's package are all files of the document.
use Rattle.std.proofs.Common.{◌≡◌, ◌∙◌, ℕ, zero, suc, ◌+◌, List, [], ◌∷◌, ◌++◌, length, ap, ap₂}
use Rattle.std.proofs.Common.{sym, subst, refl, arith, add-one, append-nil, None}
use Rattle.std.specs.Prelude.{Contains, codes, cond, map, slice_get}
use Rattle.std.specs.List.{filter_map, cons_option, range_with_len}
use Rattle.std.specs.List.Sorted.{IsStrictlyIncreasing}
use Rattle.std.specs.Str.{bytes_eq}
use Rattle.std.proofs.lemmas.List.FromFn.{get_or-range_with_len, length-range_with_len}
use Rattle.desk_bom.specs.declared.arrows.Arrow.{Arrow}
use Rattle.desk_bom.specs.Contents.{own_files, package_named, file_named, tie, contents, AreFilesOf}
use Rattle.desk_bom.specs.Shipping.{arrow_between}
use Rattle.desk_tagvalue.specs.declared.drafts.Draft.{Draft}
use Rattle.desk_tagvalue.specs.declared.drafts.DraftFile.{DraftFile}
use Rattle.desk_tagvalue.specs.Entries.{EntryText}
use Rattle.desk_tagvalue.specs.Given.{AreFiles}
use Rattle.desk_tagvalue.specs.Parts.{DocumentText, FileText, EdgeText}
use Rattle.desk_tagvalue.proofs.DraftEntries.{AreFileEntries, Places, head_entries}

abbrev to_file : ℕ → Arrow
to_file j = record { from = 0; to = j }

-- ---- all items of a list, by their places

one_later : {A : Type 0} (y : A) (ys : List A) (a n : ℕ)
    → filter_map (slice_get (y ∷ ys)) (range_with_len (a + 1) n)
    ≡ filter_map (slice_get ys) (range_with_len a n)
one_later y ys a zero = refl
one_later y ys a (suc n) = ap₂ (λ o l. cons_option o l) (ap (slice_get (y ∷ ys)) (add-one a))
    (one_later y ys (a + 1) n)

all_got : {A : Type 0} (xs : List A) → filter_map (slice_get xs) (range_with_len 0 (length xs)) ≡ xs
all_got [] = refl
all_got (x ∷ xs) = ap (λ l. x ∷ l) (one_later x xs 0 (length xs) ∙ all_got xs)

rising : (n : ℕ) → IsStrictlyIncreasing (range_with_len 0 n)
rising n k within =
    let long = length-range_with_len 0 n in
    let here = get_or-range_with_len 0 n k 0 (omega arith) in
    let next = get_or-range_with_len 0 n (k + 1) 0 (omega arith) in
    omega arith

onto_arrows : (xs : List ℕ) (j : ℕ) → Contains xs j → Contains (map to_file xs) (to_file j)
onto_arrows [] j at = absurd (omega (arith, at.1))
onto_arrows (x ∷ xs) j (zero, within, is) = (zero, omega arith, ap to_file is)
onto_arrows (x ∷ xs) j (suc k, within, is) = let rest =
    onto_arrows xs j (k, omega (arith, within), is) in (suc rest.0, omega (arith, rest.1), rest.2)

from_arrows : (xs : List ℕ) (j : ℕ) → Contains (map to_file xs) (to_file j) → Contains xs j
from_arrows [] j at = absurd (omega (arith, at.1))
from_arrows (x ∷ xs) j (zero, within, is) = (zero, omega arith, ap (λ a. a.to) is)
from_arrows (x ∷ xs) j (suc k, within, is) = let rest =
    from_arrows xs j (k, omega (arith, within), is) in (suc rest.0, omega (arith, rest.1), rest.2)

-- ---- the files of a draft

own_of_files : (k j : ℕ) (fs : List DraftFile) (es : List EntryText) → AreFileEntries k fs es
    → own_files 1 j es ≡ map to_file (range_with_len j (length fs))
own_of_files k j [] es is = ap (own_files 1 j) is
own_of_files k j (f ∷ fs) es is = ap (own_files 1 j) is.6
    ∙ ap (λ l. to_file j ∷ l) (own_of_files (k + 1) (j + 1) fs is.5 is.7)

given_length : (k : ℕ) (fs : List DraftFile) (xs : List FileText) → AreFiles k fs xs
    → length fs ≡ length xs
given_length k [] [] is = refl
given_length k (f ∷ fs) (x ∷ xs) is = ap suc (given_length (k + 1) fs xs is.1)
given_length k [] (x ∷ xs) is = absurd is
given_length k (f ∷ fs) [] is = absurd is

module _ (d : Draft) (x : DocumentText) (p : Places) (rest : List EntryText) (e : EdgeText) where
  no_tie : e.kind ≡ codes "DESCRIBES" → tie x e ≡ None
  no_tie is =
      ap (λ k. cond (bytes_eq k (codes "CONTAINS"))
      (arrow_between (package_named x e.left) (file_named x e.right))
      (cond (bytes_eq k (codes "CONTAINED_BY"))
      (arrow_between (package_named x e.right) (file_named x e.left)) None)) is

  module _ (entries : x.entries ≡ head_entries d p rest) (are : AreFileEntries 1 d.files rest)
      (edges : x.edges ≡ e ∷ []) (kind : e.kind ≡ codes "DESCRIBES")
      (given : AreFiles 1 d.files x.files) where
    contents_are : contents x ≡ map to_file (range_with_len 0 (length x.files))
    contents_are =
        ap (λ es. own_files 0 0 es ++ filter_map (tie x) x.edges) entries
        ∙ ap (λ l. l ++ filter_map (tie x) x.edges) (own_of_files 1 0 d.files rest are)
        ∙ ap (λ l. map to_file (range_with_len 0 (length d.files)) ++ l)
        (ap (filter_map (tie x)) edges ∙ ap (λ o. cons_option o []) (no_tie kind))
        ∙ append-nil (map to_file (range_with_len 0 (length d.files)))
        ∙ ap (λ n. map to_file (range_with_len 0 n)) (given_length 1 d.files x.files given)

    pub files_of_package : AreFilesOf x 0 x.files
    files_of_package = record {
      places = range_with_len 0 (length x.files);
      once = rising (length x.files);
      members = λ j. (
        (λ at. subst (λ l. Contains l (to_file j)) (sym contents_are)
            (onto_arrows (range_with_len 0 (length x.files)) j at)),
        (λ at. from_arrows (range_with_len 0 (length x.files)) j
            (subst (λ l. Contains l (to_file j)) contents_are at)),
      );
      are = sym (all_got x.files);
    }
