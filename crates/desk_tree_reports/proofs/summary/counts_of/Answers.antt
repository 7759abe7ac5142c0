use Rattle.std.proofs.Common.{◌∙◌, ◌++◌, [], ap, sym, take}
use Rattle.std.specs.List.{flat_map}
use Rattle.std.proofs.lemmas.List.{flat_map_more, take_more}
use Rattle.desk_tree_reports.specs.Reports.{count_of, some_count}
use Rattle.desk_tree_reports.proofs.summary.counts_of.Goals as goal

pub loop-kind-preserved : goal.loop-kind-preserved
loop-kind-preserved c = λ rows are.
    let kinds = c.args.kinds.now in
    let i = c.loop-kind.kind-index in
    let words = c.as_bytes.ensures.value ∙ c.in_ok-words.ensures
    ∙ ap (some_count _) (c.count_of.ensures rows are) in
    c.in_ok-extend_from_slice.ensures.items ∙ (λ j. c.loop-kind.invariant rows are j ++ words j)
    ∙ flat_map_more (λ kind. some_count kind (count_of kind rows)) [] (take i kinds) _
    ∙ ap (flat_map (λ kind. some_count kind (count_of kind rows)))
    (sym (take_more kinds i _ c.loop-kind-test.true))
