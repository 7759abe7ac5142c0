-- Each text at the first file that has it.
use Rattle.std.specs.Prelude.{◌≡◌, ℕ, ◌&&◌, ◌||◌, not, true, List, [], ◌∷◌, ◌++◌, filter}
use Rattle.std.specs.List.{flat_map}
use Rattle.std.specs.BTreeSet.{BTreeSet, contains}
use Rattle.std.specs.Ordering.{nat_cmp}
use Rattle.desk_base.specs.TextSets.{is_among, has_text}
use denote.Ref.{Bor}
use Rattle.desk_tree_annotations.specs.declared.annotation.Annotation.{Annotation}
use Rattle.desk_tree_infos.specs.declared.firsts.First.{First}
use Rattle.desk_tree_infos.specs.declared.firsts.Seen.{Seen}
use Rattle.desk_tree_infos.specs.declared.infos.FileInfo.{FileInfo}
use Rattle.desk_tree_infos.specs.declared.information.Subject.{Subject}
use Rattle.desk_tree_infos.specs.declared.information.Subject.TheVariants.{Notices, Licences}
use Rattle.desk_tree_infos.specs.Sharing.{texts_at}

-- the notices of a file, or its licences
abbrev pub texts_in : Subject → FileInfo → List (List ℕ)
texts_in Notices info = info.notices
texts_in Licences info = info.licences

-- a file's path, and those of its texts that no file before it has
pub record FirstTexts : Type 0 where
  pub path : List ℕ
  pub texts : List (List ℕ)

-- for files that come after others with the known texts
abbrev pub firsts_behind : Subject → List (List ℕ) → List FileInfo → List FirstTexts
firsts_behind of known [] = []
firsts_behind of known (info ∷ infos) =
    record { path = info.path; texts = filter (λ t. not (is_among known t)) (texts_in of info) }
    ∷ firsts_behind of (known ++ texts_in of info) infos

-- for each file in order, those of its texts that no file before it has
abbrev pub firsts_of : Subject → List FileInfo → List FirstTexts
firsts_of of infos = firsts_behind of [] infos

-- all those texts one after another: each text that some file has is there
abbrev pub first_texts : List FirstTexts → List (List ℕ)
first_texts firsts = flat_map (λ (f : FirstTexts). f.texts) firsts

-- those of a file, apart from where its path is in memory
abbrev pub first_in : First → FirstTexts
first_in f = record { path = f.path.now; texts = f.texts }

-- ---- what was seen

-- texts are added to a set, and those that it didn't have to a list
pub record AddsUnseen (texts : List (List ℕ)) (old new : BTreeSet (Bor (List ℕ)))
    (before after : List (List ℕ)) : Type 0 where
  pub seen : (t : List ℕ) → has_text new t ≡ (is_among texts t || has_text old t)
  pub listed : (t : List ℕ) → is_among after t
      ≡ (is_among before t || (is_among texts t && not (has_text old t)))

-- the texts of the annotations that were seen are in the set
abbrev pub Knows : List Annotation → Subject → Seen → Type 0
Knows all of seen = (number : ℕ) → contains nat_cmp seen.numbers number ≡ true → (t : List ℕ)
    → is_among (texts_at all of (number ∷ [])) t ≡ true → has_text seen.texts t ≡ true
