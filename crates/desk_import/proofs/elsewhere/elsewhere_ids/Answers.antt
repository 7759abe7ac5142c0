use Rattle.std.proofs.Common.{◌∙◌, ◌+◌, ◌++◌, ap, sym, drop}
use Rattle.std.specs.Prelude.{map}
use Rattle.std.specs.List.{filter_map}
use Rattle.std.specs.Option.{option_copied}
use Rattle.std.proofs.lemmas.List.{map_push}
use Rattle.desk_base.specs.Borrowed.{texts}
use Rattle.desk_tagvalue.specs.Documents.{document_text}
use Rattle.desk_tagvalue.specs.Views.{edge_text}
use Rattle.desk_bom.proofs.LoopLemmas.{kept_more, kept_over}
use Rattle.desk_import.specs.Elsewhere.{elsewhere_in}
use Rattle.desk_import.proofs.elsewhere.elsewhere_ids.Goals as goal
use Rattle.desk_import.proofs.elsewhere.elsewhere_ids.Goals.{in-Some+in_ok-push-in-Some, in-None}

pub loop-edge-preserved : goal.loop-edge-preserved
loop-edge-preserved c =
    let d = document_text c.args.document.now in
    let finds = elsewhere_in d c.args.marks.now in
    let edges = c.as_slice-edges.result.now in
    let i = c.loop-edge.edge-index in
    let rest = filter_map finds (map edge_text (drop (i + 1) edges)) in
    let is = c.elsewhere_in.ensures d c.requires in
    record {
      same = c.loop-edge.invariant.same;
      rest = elim c.match-elsewhere_in.branch [
        | in-Some+in_ok-push-in-Some w ↦
            ap (λ v. texts v.items ++ rest) w.ids-is
            ∙ ap (λ l. texts l ++ rest) w.in_ok-push-in-Some.ensures.items
            ∙ ap (λ l. l ++ rest) (map_push (λ t. t.now) c.loop-edge.ids.items w.in-Some.id)
            ∙ kept_more edge_text edges i _ c.loop-edge-test.true finds w.in-Some.id.now
            (texts c.loop-edge.ids.items) (sym is ∙ ap option_copied w.in-Some.is)
            ∙ c.loop-edge.invariant.rest
        | in-None w ↦
            ap (λ v. texts v.items ++ rest) w.ids-is
            ∙ kept_over edge_text edges i _ c.loop-edge-test.true finds
            (texts c.loop-edge.ids.items) (sym is ∙ ap option_copied w.in-None.is)
            ∙ c.loop-edge.invariant.rest
      ];
    }
