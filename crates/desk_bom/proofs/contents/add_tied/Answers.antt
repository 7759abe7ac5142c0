use Rattle.std.proofs.Common.{◌∙◌, ◌+◌, ◌++◌, ap, sym, drop}
use Rattle.std.specs.Prelude.{map}
use Rattle.std.specs.List.{filter_map}
use Rattle.desk_tagvalue.specs.Documents.{document_text}
use Rattle.desk_tagvalue.specs.Views.{edge_text}
use Rattle.desk_bom.specs.Contents.{tie}
use Rattle.desk_bom.proofs.LoopLemmas.{kept_more, kept_over}
use Rattle.desk_bom.proofs.contents.add_tied.Goals as goal
use Rattle.desk_bom.proofs.contents.add_tied.Goals.{in-Some+in_ok-push-in-Some, in-None}

pub loop-edge-preserved : goal.loop-edge-preserved
loop-edge-preserved c =
    let d = document_text c.args.document.now in
    let edges = c.as_slice-edges.result.now in
    let i = c.loop-edge.edge-index in
    let rest = filter_map (tie d) (map edge_text (drop (i + 1) edges)) in
    record {
      same = c.loop-edge.invariant.same;
      rest = elim c.match-tie.branch [
        | in-Some+in_ok-push-in-Some w ↦
            ap (λ v. v.items ++ rest) w.found-is
            ∙ ap (λ l. l ++ rest) w.in_ok-push-in-Some.ensures.items
            ∙ kept_more edge_text edges i _ c.loop-edge-test.true (tie d) w.in-Some.arrow
            c.loop-edge.found.items (sym (c.tie.ensures d c.requires) ∙ w.in-Some.is)
            ∙ c.loop-edge.invariant.rest
        | in-None w ↦
            ap (λ v. v.items ++ rest) w.found-is
            ∙ kept_over edge_text edges i _ c.loop-edge-test.true (tie d) c.loop-edge.found.items
            (sym (c.tie.ensures d c.requires) ∙ w.in-None.is) ∙ c.loop-edge.invariant.rest
      ];
    }
