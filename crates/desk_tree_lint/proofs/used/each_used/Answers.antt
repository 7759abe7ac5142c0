use Rattle.std.proofs.Common.{◌↔◌, ◌⊎◌, ◌∙◌, ap, map, subst}
use Rattle.std.specs.Prelude.{Contains}
use Rattle.std.proofs.lemmas.List.{drop_all, drop_more}
use Rattle.desk_tree_infos.specs.declared.firsts.First.{First}
use Rattle.desk_tree_infos.specs.Firsts.{FirstTexts, first_in}
use Rattle.desk_tree_lint.specs.Used.{IsUsedIn}
use Rattle.desk_tree_lint.proofs.UsedLemmas.{some_first, some_end, some_start, along}
use Rattle.desk_tree_lint.proofs.used.each_used.Goals as goal

pub loop-first-init : goal.loop-first-init
loop-first-init c = λ key. some_start (λ (f : FirstTexts). IsUsedIn f.texts key)
    (map first_in c.args.firsts.now) key c.new-keys.result c.new-keys.ensures

pub loop-first-preserved : goal.loop-first-preserved
loop-first-preserved c = λ key.
    along (some_first (λ (f : FirstTexts). IsUsedIn f.texts key) _ _ _ _ _
    (ap (map first_in) (drop_more c.args.firsts.now c.loop-first.first-index c.first-item.result
    c.loop-first-test.true))
    (subst (λ ts. Contains c.add_each.new.keys key
    ↔ (Contains c.loop-first.keys key ⊎ IsUsedIn ts key))
    (c.as_slice.ensures ∙ ap (λ (f : First). f.texts) c.first-item.is)
    (c.in_ok-add_each.ensures key)))
    (c.loop-first.invariant key)

pub returns : goal.returns
returns c = λ key.
    along (some_end (λ (f : FirstTexts). IsUsedIn f.texts key) _ _
    (ap (map first_in) (drop_all c.loop-first.first-index c.args.firsts.now
    c.loop-first-test.false)))
    (c.loop-first.invariant key)
