-- The problems of a tree: all that is wrong in it, and what the rest of it lacks.
use Rattle.std.specs.Prelude.{◌≡◌, ◌||◌, ℕ, Bool, true, false, List, [], ◌∷◌, map, length, codes}
use Rattle.std.specs.Option.{is_some}
use Rattle.desk_tree_gather.specs.declared.fault.GatherFault.{GatherFault}
use Rattle.desk_tree_gather.specs.declared.files.SourceFile.{SourceFile}
use Rattle.desk_tree_gather.specs.declared.flaw.Flaw.{Flaw}
use Rattle.desk_tree_infos.specs.declared.infos.FileInfo.{FileInfo}
use Rattle.desk_tree_infos.specs.Readers.{Reader}
use Rattle.desk_tree_gather.specs.Survey.{kept, flaws_of, infos_sifted, gather_fault}
use Rattle.desk_tree_gather.specs.Trees.{bytes_at}
use Rattle.desk_tree_lint.specs.declared.lists.Lint.{Lint}
use Rattle.desk_tree_lint.specs.Lists.{missing, unused}
use Rattle.desk_tree_lint.specs.Naming.{name_of}
use Rattle.desk_tree_lint.specs.Texts.{TextFile, text_files}
use Rattle.desk_tree_lint.specs.Used.{AreUsed}
use Rattle.desk_tree_problems.specs.declared.bare.Bare.{Bare}
use Rattle.desk_tree_gather.specs.declared.blanks.Blank.{Blank}
use Rattle.desk_tree_problems.specs.declared.problems.Problems.{Problems}
use Rattle.desk_tree_problems.specs.Bare.{bare_files}
use Rattle.desk_tree_gather.specs.Blanks.{blanks_in}

-- the older file of annotations, which isn't read, is in a tree
abbrev pub has_dep5 : List SourceFile → Bool
has_dep5 tree = is_some (bytes_at tree (codes ".reuse/dep5"))

-- there is at least one flaw
abbrev pub are_some : List Flaw → Bool
are_some [] = false
are_some (flaw ∷ flaws) = true

-- texts that nothing uses; none if some use may not have been read
abbrev pub unused_unless : Bool → List (List ℕ) → List (List ℕ)
unused_unless true paths = []
unused_unless false paths = paths

-- for a tree with this information of its covered files, the licences that they use, and its
-- licence texts
abbrev pub problems_with : Bool → List Flaw → List Blank → List FileInfo → List (List ℕ)
    → List TextFile → Problems
problems_with dep5 flaws blanks infos used texts = record {
  dep5 = dep5;
  flaws = flaws;
  blanks = blanks;
  missing = missing used texts;
  names = map (name_of infos) (missing used texts);
  unused = unused_unless (dep5 || are_some flaws) (unused used texts);
  bare = bare_files infos;
  covered = length infos;
}

-- the problems of a tree: its older annotations, its flaws, licences that no document can hold, and
-- the three lists for what can be read
pub record AreProblems (r : Reader) (files : List SourceFile) (p : Problems) : Type 0 where
  pub used : List (List ℕ)
  pub are_used : AreUsed (infos_sifted r (kept files)) used
  pub is : p ≡ problems_with (has_dep5 (kept files)) (flaws_of r files)
      (blanks_in r.reading (kept files)) (infos_sifted r (kept files)) used
      (text_files (kept files))

-- only the lists
abbrev pub lists_in : Problems → Lint
lists_in p = record {
  missing = p.missing;
  unused = p.unused;
  bare = map (λ (b : Bare). b.path) p.bare;
}

-- lists, with the unused texts only if there are no older annotations
abbrev pub told_beside : Bool → Lint → Lint
told_beside dep5 l = record l { unused = unused_unless dep5 l.unused }

-- a fault is that of the first flaw
abbrev pub BeginsWith : List Flaw → GatherFault → Type 0
BeginsWith flaws fault = (flaw : Flaw) × (more : List Flaw) × (flaws ≡ flaw ∷ more)
    × (gather_fault flaw ≡ fault)
