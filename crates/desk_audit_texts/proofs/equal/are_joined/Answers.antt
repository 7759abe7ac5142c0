use Rattle.std.proofs.Common.{◌≡◌, ◌++◌, List, ℕ, Some, None, sym, ap, ◌∙◌}
use Rattle.std.specs.List.{join_with_byte}
use Rattle.std.proofs.lemmas.List.{append_cancel_left}
use Rattle.desk_audit_texts.proofs.Codes.{join_led, led, prefix_left}
use Rattle.desk_audit_texts.proofs.equal.are_joined.Goals as goal

pub returns-in-Some-strip_prefix : goal.returns-in-Some-strip_prefix
returns-in-Some-strip_prefix c =
    let text : List ℕ = c.args.text.now in
    let first : List ℕ = c.in-Some.first.now in
    let more : List (List ℕ) = c.in-Some.more.now in
    let rest : List ℕ = c.in-Some-strip_prefix.rest.now in
    let bytes : c.as_bytes.result.now ≡ first = c.as_bytes.ensures.value ∙ c.as_str.ensures in
    let joined : join_with_byte 32 c.args.codes.now ≡ first ++ led more =
    ap (join_with_byte 32) c.in-Some.ensures.cases.0 ∙ join_led first more in
    let here : text ≡ first ++ rest =
    prefix_left text c.as_bytes.result.now (Some c.in-Some-strip_prefix.rest)
    c.in-Some-strip_prefix.ensures.cases
    ∙ ap (λ p. p ++ rest) bytes in (
      λ h. here ∙ ap (λ l. first ++ l) (c.are_codes.ensures.0 h) ∙ sym joined,
      λ e. c.are_codes.ensures.1 (append_cancel_left first rest (led more) (sym here ∙ e ∙ joined)),
    )

pub returns-in-None : goal.returns-in-None
returns-in-None c =
    let first : List ℕ = c.in-Some.first.now in
    let more : List (List ℕ) = c.in-Some.more.now in
    let joined : join_with_byte 32 c.args.codes.now ≡ first ++ led more =
    ap (join_with_byte 32) c.in-Some.ensures.cases.0 ∙ join_led first more in
    let bytes : c.as_bytes.result.now ≡ first = c.as_bytes.ensures.value ∙ c.as_str.ensures in (
      λ h. cc,
      λ e. absurd (prefix_left c.args.text.now c.as_bytes.result.now None c.in-None.ensures.cases
          (led more)
          (e ∙ joined ∙ ap (λ p. p ++ led more) (sym bytes))),
    )
