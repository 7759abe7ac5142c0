use Rattle.std.proofs.Common.{◌∙◌, ◌++◌, List, ap, sym, subst, take}
use Rattle.std.specs.List.{flat_map}
use Rattle.std.proofs.lemmas.List.{append-nil, take_all}
use Rattle.desk_tree_lint.specs.Firsts.{Holds}
use Rattle.desk_tree_lint.specs.Naming.{MentionText, mentions_by}
use Rattle.desk_tree_lint.proofs.FirstLemmas.{licences_more}
use Rattle.desk_tree_lint.proofs.naming.keep_licences.Goals as goal

pub loop-licence-init : goal.loop-licence-init
loop-licence-init c = λ keys ms holds.
    subst (λ (l : List MentionText). Holds keys l c.args.asked.now) (sym (append-nil ms)) holds

pub loop-licence-preserved : goal.loop-licence-preserved
loop-licence-preserved c = λ keys ms holds.
    let before = ms ++ flat_map (mentions_by c.args.path.now)
    (take c.loop-licence.licence-index c.args.licences.now) in
    subst (λ (l : List MentionText). Holds keys l c.keep_licence.new.asked)
    (ap (λ text. before ++ mentions_by c.args.path.now text) (c.as_str.ensures ∙ c.licence-item.is)
    ∙ licences_more ms c.args.path.now c.args.licences.now c.loop-licence.licence-index _
    c.loop-licence-test.true)
    (c.in_ok-keep_licence.ensures keys before (c.loop-licence.invariant keys ms holds))

pub returns : goal.returns
returns c = λ keys ms holds.
    subst (λ licences. Holds keys (ms ++ flat_map (mentions_by c.args.path.now) licences)
    c.loop-licence.asked)
    (take_all c.loop-licence.licence-index c.args.licences.now c.loop-licence-test.false)
    (c.loop-licence.invariant keys ms holds)
