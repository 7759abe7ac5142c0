use Rattle.std.proofs.Common.{◌∙◌, ◌+◌, ap, sym, drop}
use Rattle.std.specs.Prelude.{map}
use Rattle.std.specs.List.{list_any}
use Rattle.std.specs.Option.{option_map}
use Rattle.std.specs.Str.{bytes_eq}
use Rattle.desk_tagvalue.specs.Views.{file_text}
use Rattle.desk_bom.specs.Codes.{digests_of, files_at}
use Rattle.desk_bom.proofs.CodeLemmas.{behind_front, excluded_passed, digest_passed, digest_missing}
use Rattle.desk_bom.proofs.CodeLemmas.{file_next, no_file_next}
use Rattle.desk_bom.proofs.state.digests_of.Goals as goal

pub loop-arrow-preserved-in_default : goal.loop-arrow-preserved-in_default
loop-arrow-preserved-in_default c = λ names known.
    let none = sym c.file_at.ensures ∙ ap (option_map (λ f. file_text f.now)) c.in_default.is in
    ap (λ l. behind_front c.loop-arrow.digests.items (digests_of names l))
    (no_file_next (map file_text c.args.files.now) c.args.arrows.now c.loop-arrow.arrow-index _
    c.loop-arrow-test.true none)
    ∙ c.loop-arrow.invariant names known

pub loop-arrow-preserved-then-has : goal.loop-arrow-preserved-then-has
loop-arrow-preserved-then-has c = λ names known.
    let some = sym c.file_at.ensures ∙ ap (option_map (λ f. file_text f.now)) c.in-Some.is in
    let next = file_next (map file_text c.args.files.now) c.args.arrows.now c.loop-arrow.arrow-index
    _ c.loop-arrow-test.true (file_text c.in-Some.file.now) some in
    ap (behind_front c.loop-arrow.digests.items)
    (excluded_passed names (file_text c.in-Some.file.now) _ _ next
    (ap (λ q. list_any (λ name. bytes_eq name q) names) (sym c.plain.ensures)
    ∙ sym (known c.plain.result.now) ∙ sym c.has.ensures ∙ c.if-has.true))
    ∙ c.loop-arrow.invariant names known

pub returns-in-None : goal.returns-in-None
returns-in-None c = λ names known.
    let some = sym c.file_at.ensures ∙ ap (option_map (λ f. file_text f.now)) c.in-Some.is in
    let next = file_next (map file_text c.args.files.now) c.args.arrows.now c.loop-arrow.arrow-index
    _ c.loop-arrow-test.true (file_text c.in-Some.file.now) some in
    digest_missing names (file_text c.in-Some.file.now) _ _ next c.loop-arrow.digests.items
    (ap (λ q. list_any (λ name. bytes_eq name q) names) (sym c.plain.ensures)
    ∙ sym (known c.plain.result.now) ∙ sym c.has.ensures ∙ c.if-has.false)
    (sym c.digest_spelled.ensures ∙ c.in-None.is)
    ∙ c.loop-arrow.invariant names known

pub loop-arrow-preserved : goal.loop-arrow-preserved
loop-arrow-preserved c = λ names known.
    let files = map file_text c.args.files.now in
    let some = sym c.file_at.ensures ∙ ap (option_map (λ f. file_text f.now)) c.in-Some.is in
    let next = file_next files c.args.arrows.now c.loop-arrow.arrow-index _ c.loop-arrow-test.true
    (file_text c.in-Some.file.now) some in
    ap (λ l. behind_front l (digests_of names
    (files_at files (drop (c.loop-arrow.arrow-index + 1) c.args.arrows.now))))
    c.in_ok-push-in-Some-digest_spelled.ensures.items
    ∙ digest_passed names (file_text c.in-Some.file.now) _ _ next c.loop-arrow.digests.items
    c.in-Some-digest_spelled.digest
    (ap (λ q. list_any (λ name. bytes_eq name q) names) (sym c.plain.ensures)
    ∙ sym (known c.plain.result.now) ∙ sym c.has.ensures ∙ c.if-has.false)
    (sym c.digest_spelled.ensures ∙ c.in-Some-digest_spelled.is)
    ∙ c.loop-arrow.invariant names known
