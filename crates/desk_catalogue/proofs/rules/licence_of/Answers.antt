use Rattle.std.proofs.Common.{◌∙◌, sym, ap, Some, inl, inr}
use Rattle.std.specs.Prelude.{alloc_error}
use Rattle.desk_tokens.specs.Words.{begins_like_reference}
use Rattle.desk_catalogue.proofs.TermsRead.{tells_reference, tells_licence, tells_none}
use Rattle.desk_catalogue.proofs.rules.licence_of.Goals as goal

pub returns-then-begins_like_reference : goal.returns-then-begins_like_reference
returns-then-begins_like_reference c = λ terms h.
    tells_reference terms h c.args.text.now c.in-Ok.term c.in-Ok.ensures.spelled
    (ap begins_like_reference (sym c.in_ok-printed-in-Ok.ensures.text ∙ sym c.as_str.ensures.value)
    ∙ sym c.begins_like_reference.ensures ∙ c.if-begins_like_reference.true)

pub returns-in_ok-printed-in-Ok-2 : goal.returns-in_ok-printed-in-Ok-2
returns-in_ok-printed-in-Ok-2 c = λ terms h.
    ap Some (c.in_ok-printed-in-Ok-2.ensures ∙ c.as_str-in-Ok.ensures.value
    ∙ c.in_ok-printed-in-Ok.ensures.text)
    ∙ tells_licence terms h c.args.text.now c.in-Ok.term c.in-Ok.ensures.spelled
    (ap begins_like_reference (sym c.in_ok-printed-in-Ok.ensures.text ∙ sym c.as_str.ensures.value)
    ∙ sym c.begins_like_reference.ensures ∙ c.if-begins_like_reference.false)

pub returns-in_default : goal.returns-in_default
returns-in_default c = λ terms h. tells_none terms h c.args.text.now
    (elim c.in-Err.ensures.complete [
      | inl is ↦ absurd (c.in_default.not-Memory alloc_error is)
      | inr none ↦ none
    ])
