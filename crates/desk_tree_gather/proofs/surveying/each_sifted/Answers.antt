use Rattle.std.proofs.Common.{◌∙◌, ◌++◌, ◌∷◌, [], map, ap, sym, subst}
use Rattle.std.specs.List.{flat_map}
use Rattle.std.proofs.lemmas.List.{map-append, take_all}
use Rattle.desk_tree_infos.specs.declared.folders.Folders.{Folders}
use Rattle.desk_tree_infos.specs.Folders.{Holds}
use Rattle.desk_tree_gather.specs.Gathering.{holder}
use Rattle.desk_tree_gather.specs.Survey.{info_sifted, stated_flaws}
use Rattle.desk_tree_infos.specs.Sharing.{info_at, infos_at}
use Rattle.desk_tree_gather.specs.Shown.{files_of, tree_in}
use Rattle.desk_tree_gather.proofs.SurveyLemmas.{infos_more, flaws_more}
use Rattle.desk_tree_gather.proofs.surveying.each_sifted.Goals as goal

pub loop-file-preserved : goal.loop-file-preserved
loop-file-preserved c =
    let tree = tree_in c.args.tree.now in
    record {
      same = c.in_ok-info.ensures.same ∙ c.loop-file.invariant.same;
      infos = λ r right tomls holds.
          let all = c.args.trail.now.folders.now.all.items in
          ap (infos_at all) c.in_ok-push.ensures.items
          ∙ map-append (info_at all) c.loop-file.infos.items (c.in_ok-info.info ∷ [])
          ∙ infos_more c.args.files.now c.loop-file.file-index _ (info_sifted r tomls tree)
          (infos_at all c.loop-file.infos.items) (info_at all c.in_ok-info.info)
          c.loop-file-test.true
          (c.loop-file.invariant.infos r right tomls holds)
          (ap (λ (f : Folders). info_at f.all.items c.in_ok-info.info)
          (sym c.loop-file.invariant.same)
          ∙ c.in_ok-info.ensures.info r right tomls
          (subst (Holds tomls) (sym c.loop-file.invariant.same) holds));
      flaws = λ r right.
          flaws_more c.args.files.now c.loop-file.file-index _ (λ f. stated_flaws r (holder tree f))
          c.args.flaws.now c.loop-file.flaws c.info_sifted.new.flaws c.loop-file-test.true
          (c.loop-file.invariant.flaws r right) (c.in_ok-info.ensures.flaws r right);
    }

pub returns-clause-infos : goal.returns-clause-infos
returns-clause-infos c = λ r right tomls holds.
    c.loop-file.invariant.infos r right tomls holds
    ∙ ap (λ fs. map (info_sifted r tomls (tree_in c.args.tree.now)) (files_of fs))
    (take_all c.loop-file.file-index c.args.files.now c.loop-file-test.false)

pub returns-clause-flaws : goal.returns-clause-flaws
returns-clause-flaws c = λ r right.
    c.loop-file.invariant.flaws r right
    ∙ ap (λ fs. c.args.flaws.now ++ flat_map
    (λ f. stated_flaws r (holder (tree_in c.args.tree.now) f)) (files_of fs))
    (take_all c.loop-file.file-index c.args.files.now c.loop-file-test.false)
