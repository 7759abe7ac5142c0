use Rattle.std.proofs.Common.{◌∙◌, ◌++◌, List, ap, append_assoc, codes, refl}
use Rattle.std.specs.String.{string_bytes}
use Rattle.serde_json.specs.Find.{as_str}
use Rattle.serde_json.specs.View.{items_view, view}
use Rattle.serde_json.specs.declared.value.Value.{Value}
use Rattle.desk_spdx_json.specs.Values.{more_names, text_or_empty}
use Rattle.desk_spdx_json.proofs.Added.{piece_more, pieces_end}
use Rattle.desk_spdx_json.proofs.composed.more_names.Goals as goal

pub loop-value-preserved : goal.loop-value-preserved
loop-value-preserved c =
    let old = string_bytes c.loop-value.text in
    let name = c.text_or_empty.result.now in
    piece_more (λ (vs : List Value). more_names (items_view vs))
    (λ (v : Value). codes ", " ++ text_or_empty (as_str (view v))) c.args.list.now
    c.loop-value.value-index c.value-item.result old
    (string_bytes c.push_str-in-loop-value.new.self) (more_names (items_view c.args.list.now))
    (λ rest. refl) c.loop-value-test.true c.value-item.is c.loop-value.invariant
    (c.in_ok-push_str-2.ensures.bytes ∙ ap (λ l. l ++ name) c.in_ok-push_str.ensures.bytes
    ∙ append_assoc old (codes ", ") name
    ∙ ap (λ t. old ++ (codes ", " ++ t)) c.text_or_empty.ensures)

pub returns : goal.returns
returns c =
    pieces_end (λ (vs : List Value). more_names (items_view vs))
    (λ (v : Value). codes ", " ++ text_or_empty (as_str (view v))) c.args.list.now
    c.loop-value.value-index (string_bytes c.loop-value.text)
    (more_names (items_view c.args.list.now)) c.loop-value-test.false refl
    c.loop-value.invariant
