use Rattle.std.proofs.Common.{◌∙◌, ◌∷◌, [], ap, sym, subst}
use Rattle.desk_tree_gather.specs.declared.files.SourceFile.{SourceFile}
use Rattle.std.specs.Prelude.{Ok}
use Rattle.std.proofs.lemmas.Bool.{false≢true}
use Rattle.std.proofs.lemmas.List.{append-nil, map-append}
use Rattle.desk_tree_infos.specs.declared.folders.Folders.{Folders}
use Rattle.desk_tree_gather.specs.Digests.{told_at, all_told}
use Rattle.desk_tree_infos.specs.Folders.{Holds}
use Rattle.desk_tree_gather.specs.Paths.{is_covered}
use Rattle.desk_tree_gather.specs.Shown.{left_in}
use Rattle.desk_tree_gather.specs.Telling.{told_in, told_beside}
use Rattle.desk_tree_gather.proofs.OwnedLemmas.{files_in}
use Rattle.desk_tree_gather.proofs.GatheredLemmas.{gives_at, gives_fault}
use Rattle.desk_tree_gather.proofs.TellingLemmas.{none_left, told_skip, told_item, told_fault}
use Rattle.desk_tree_gather.proofs.telling.each_told.Goals as goal
use Rattle.desk_base.proofs.Results.{onto}

pub loop-path-preserved-then-not-is_covered : goal.loop-path-preserved-then-not-is_covered
loop-path-preserved-then-not-is_covered c = record {
  same = c.loop-path.invariant.same;
  told = λ r right tomls holds.
      let file : SourceFile = record { path = c.in-Some.path; bytes = c.in-Some.bytes } in
      sym (told_skip r tomls file (left_in c.loop-path.left) c.pop_first.new.self.entries
      (all_told c.args.trail.now.folders.now.all.items c.loop-path.list.items)
      (ap files_in c.in-Some.ensures.removal) c.in-Some.ensures.all_above
      ((λ i. is_covered (record {
        path = sym c.as_str.ensures i;
        bytes = sym c.as_slice.ensures i;
      })) ∙ sym c.is_covered.ensures ∙ c.if-not-is_covered.true))
      ∙ c.loop-path.invariant.told r right tomls holds;
}

pub returns-in-Err : goal.returns-in-Err
returns-in-Err c = λ r right tomls holds.
    let file : SourceFile = record { path = c.in-Some.path; bytes = c.in-Some.bytes } in
    let left = left_in c.pop_first.new.self in
    sym (c.loop-path.invariant.told r right tomls holds)
    ∙ told_fault r tomls file (left_in c.loop-path.left) c.pop_first.new.self.entries
    (all_told c.args.trail.now.folders.now.all.items c.loop-path.list.items)
    (ap files_in c.in-Some.ensures.removal) c.in-Some.ensures.all_above c.in-Err.fault
    ((λ i. is_covered (record { path = sym c.as_str.ensures i; bytes = sym c.as_slice.ensures i }))
    ∙ sym c.is_covered.ensures ∙ c.if-not-is_covered.false)
    ((λ i. told_beside r tomls left
    (record { path = sym c.as_str.ensures i; bytes = sym c.as_slice.ensures i }))
    ∙ gives_fault _ (λ (f : Folders). told_at f.all.items) c.args.trail.now.folders.now
    c.loop-path.trail.folders.now c.loop-path.invariant.same _
    (c.in_ok-told.ensures.told r right tomls
    (subst (Holds tomls) (sym c.loop-path.invariant.same) holds)) c.in-Err.fault c.in-Err.is)

pub loop-path-preserved : goal.loop-path-preserved
loop-path-preserved c = record {
  same = c.in_ok-told.ensures.same ∙ c.loop-path.invariant.same;
  told = λ r right tomls holds.
      let file : SourceFile = record { path = c.in-Some.path; bytes = c.in-Some.bytes } in
      let left = left_in c.pop_first.new.self in
      let all = c.args.trail.now.folders.now.all.items in
      ap (λ done. onto done (told_in r tomls left))
      (ap (all_told all) c.in_ok-push-in-Ok.ensures.items
      ∙ map-append (told_at all) c.loop-path.list.items (c.in-Ok.told ∷ []))
      ∙ sym (told_item r tomls file (left_in c.loop-path.left) c.pop_first.new.self.entries
      (all_told c.args.trail.now.folders.now.all.items c.loop-path.list.items)
      (ap files_in c.in-Some.ensures.removal) c.in-Some.ensures.all_above (told_at all c.in-Ok.told)
      ((λ i. is_covered (record {
        path = sym c.as_str.ensures i;
        bytes = sym c.as_slice.ensures i;
      })) ∙ sym c.is_covered.ensures ∙ c.if-not-is_covered.false)
      ((λ i. told_beside r tomls left
      (record { path = sym c.as_str.ensures i; bytes = sym c.as_slice.ensures i }))
      ∙ gives_at _ (λ (f : Folders). told_at f.all.items) c.args.trail.now.folders.now
      c.loop-path.trail.folders.now c.loop-path.invariant.same _
      (c.in_ok-told.ensures.told r right tomls
      (subst (Holds tomls) (sym c.loop-path.invariant.same) holds)) c.in-Ok.told c.in-Ok.is))
      ∙ c.loop-path.invariant.told r right tomls holds;
}

pub returns : goal.returns
returns c = λ r right tomls holds.
    let done = all_told c.args.trail.now.folders.now.all.items c.loop-path.list.items in
    sym (c.loop-path.invariant.told r right tomls holds)
    ∙ ap (λ es. onto done (told_in r tomls (files_in es)))
    (none_left c.loop-path.left.entries (λ some. false≢true (c.in_default.ensures.variant.1 some)))
    ∙ ap Ok (append-nil done)
