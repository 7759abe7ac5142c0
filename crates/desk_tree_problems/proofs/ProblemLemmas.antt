-- The problems of a tree, compared with what is gathered from it.
use Rattle.std.proofs.Common.{◌≡◌, ◌∙◌, Bool, true, false, List, [], ◌∷◌, map, filter, sym, ap, refl, subst}
use Rattle.std.specs.Prelude.{◌||◌, Ok, Err}
use Rattle.desk_tree_gather.specs.declared.fault.GatherFault.{GatherFault}
use Rattle.desk_tree_gather.specs.declared.files.SourceFile.{SourceFile}
use Rattle.desk_tree_gather.specs.declared.flaw.Flaw.{Flaw}
use Rattle.desk_tree_infos.specs.declared.infos.FileInfo.{FileInfo}
use Rattle.desk_tree_infos.specs.Readers.{Reader}
use Rattle.desk_tree_gather.specs.Trees.{Read}
use Rattle.desk_tree_gather.specs.Gathering.{gathered}
use Rattle.desk_tree_gather.specs.Survey.{kept, flaws_of, infos_sifted, Agrees}
use Rattle.desk_tree_gather.proofs.SurveyLaws.{gathered_agrees, kept_is}
use Rattle.desk_tree_lint.specs.declared.lists.Lint.{Lint}
use Rattle.desk_tree_lint.specs.Lists.{is_bare, bare, lists_of, IsLint}
use Rattle.desk_tree_lint.specs.Texts.{text_files}
use Rattle.desk_tree_lint.specs.Used.{AreUsed}
use Rattle.desk_tree_lint.proofs.UsedLemmas.{used_once}
use Rattle.desk_tree_problems.specs.declared.bare.Bare.{Bare}
use Rattle.desk_tree_problems.specs.declared.problems.Problems.{Problems}
use Rattle.desk_tree_problems.specs.Bare.{bare_file, bare_files}
use Rattle.desk_tree_gather.specs.Blanks.{blanks_in}
use Rattle.desk_tree_problems.specs.Problems.{has_dep5, are_some, unused_unless, problems_with}
use Rattle.desk_tree_problems.specs.Problems.{AreProblems, lists_in, told_beside, BeginsWith}

-- if everything is gathered
if_found : {A : Type 0} (read : Read A) (flaws : List Flaw) (x y : A) → Agrees read flaws y
    → read ≡ Ok x → (flaws ≡ []) × (y ≡ x)
if_found (Ok z) flaws x y h is = let same : z ≡ x = cc in (h.0, h.1 ∙ same)
if_found (Err fault) flaws x y h is = absurd cc

-- if it isn't
if_fault : {A : Type 0} (read : Read A) (flaws : List Flaw) (y : A) (fault : GatherFault)
    → Agrees read flaws y → read ≡ Err fault → BeginsWith flaws fault
if_fault (Ok z) flaws y fault h is = absurd cc
if_fault (Err other) flaws y fault h is = let same : other ≡ fault = cc in
    (h.0, h.1, h.2, h.3 ∙ same)

paths-map : (infos : List FileInfo)
    → map (λ (b : Bare). b.path) (map bare_file infos) ≡ map (λ (i : FileInfo). i.path) infos
paths-map [] = refl
paths-map (i ∷ is) = ap (λ l. i.path ∷ l) (paths-map is)

paths-bare : (infos : List FileInfo) → map (λ (b : Bare). b.path) (bare_files infos) ≡ bare infos
paths-bare infos = paths-map (filter is_bare infos)

-- without flaws, only older annotations keep unused texts from being reported
or-none : (dep5 : Bool) (flaws : List Flaw) → flaws ≡ [] → (dep5 || are_some flaws) ≡ dep5
or-none true flaws none = refl
or-none false flaws none = ap are_some none

pub lists_agree : (r : Reader) (files : List SourceFile) (p : Problems) → AreProblems r files p
    → (l : Lint) → IsLint r files l → (p.flaws ≡ []) × (lists_in p ≡ told_beside p.dep5 l)
lists_agree r files p are l is =
    let found = if_found (gathered r files) (flaws_of r files) is.infos
    (infos_sifted r (kept files)) (gathered_agrees r files) is.is_gathered in
    let tree = kept_is files is.tree is.is_tree in
    let dep5 = has_dep5 (kept files) in
    let lists = lists_of is.infos is.used (text_files is.tree) in
    let keys = used_once is.infos are.used is.used
    (subst (λ i. AreUsed i are.used) found.1 are.are_used) is.are_used in (
      ap (λ (q : Problems). q.flaws) are.is ∙ found.0,
      ap lists_in are.is
          ∙ (λ j. lists_in (problems_with dep5 (flaws_of r files) (blanks_in r.reading (kept files))
          (found.1 j) (keys j) (text_files (tree j))))
          ∙ (λ j. record (told_beside dep5 lists) {
            unused = unused_unless (or-none dep5 (flaws_of r files) found.0 j) lists.unused;
            bare = paths-bare is.infos j;
          })
          ∙ ap (told_beside dep5) (sym is.lists)
          ∙ ap (λ d. told_beside d l) (sym (ap (λ (q : Problems). q.dep5) are.is)),
    )

pub first_agrees : (r : Reader) (files : List SourceFile) (p : Problems) → AreProblems r files p
    → (fault : GatherFault) → gathered r files ≡ Err fault → BeginsWith p.flaws fault
first_agrees r files p are fault is =
    subst (λ flaws. BeginsWith flaws fault) (sym (ap (λ (q : Problems). q.flaws) are.is))
    (if_fault (gathered r files) (flaws_of r files) (infos_sifted r (kept files)) fault
    (gathered_agrees r files) is)
