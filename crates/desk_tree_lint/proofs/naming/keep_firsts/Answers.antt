use Rattle.std.proofs.Common.{◌∙◌, ◌++◌, List, [], ap, map, subst, take}
use Rattle.std.specs.List.{flat_map}
use Rattle.std.proofs.lemmas.List.{take_all}
use Rattle.desk_tree_infos.specs.declared.firsts.First.{First}
use Rattle.desk_tree_infos.specs.Firsts.{first_in}
use Rattle.desk_tree_lint.specs.Firsts.{Holds, first_mentions, mentions_of}
use Rattle.desk_tree_lint.specs.Naming.{MentionText, mentions_by}
use Rattle.desk_tree_lint.proofs.FirstLemmas.{mentions_more}
use Rattle.desk_tree_lint.proofs.naming.keep_firsts.Goals as goal

pub loop-first-preserved : goal.loop-first-preserved
loop-first-preserved c = λ keys holds.
    let before = first_mentions (map first_in (take c.loop-first.first-index c.args.listed.now)) in
    subst (λ (l : List MentionText). Holds keys l c.keep_licences.new.asked)
    ((λ j. before ++ flat_map (mentions_by (c.in_ok-path.ensures j)) (c.as_slice.ensures j))
    ∙ ap (λ (f : First). before ++ mentions_of (first_in f)) c.first-item.is
    ∙ mentions_more [] c.args.listed.now c.loop-first.first-index _ c.loop-first-test.true)
    (c.in_ok-keep_licences.ensures keys before (c.loop-first.invariant keys holds))

pub returns : goal.returns
returns c = λ keys holds.
    subst (λ fs. Holds keys (first_mentions (map first_in fs)) c.loop-first.asked)
    (take_all c.loop-first.first-index c.args.listed.now c.loop-first-test.false)
    (c.loop-first.invariant keys holds)
