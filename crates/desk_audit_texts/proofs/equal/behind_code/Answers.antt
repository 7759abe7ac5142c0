use Rattle.std.proofs.Common.{◌≡◌, ◌∷◌, [], List, ℕ, Some, subst, ◌∙◌}
use Rattle.std.specs.Option.{option_copied}
use Rattle.desk_audit_texts.specs.Left.{IsLeft}
use Rattle.desk_audit_texts.proofs.Codes.{prefix_left}
use Rattle.desk_audit_texts.proofs.Behind.{left_on}
use Rattle.desk_audit_texts.proofs.equal.behind_code.Goals as goal

pub returns : goal.returns
returns c =
    let text : List ℕ = c.args.text.now in
    let rest : List ℕ = c.in_ok-strip_prefix.field-0.now in
    let blank : text ≡ 32 ∷ rest =
    prefix_left text (32 ∷ []) (Some c.in_ok-strip_prefix.field-0)
    c.in_ok-strip_prefix.ensures.cases in
    let code = prefix_left rest c.as_bytes.result.now c.strip_prefix-2.result
    c.strip_prefix-2.ensures.cases in
    subst (λ (p : List ℕ). IsLeft text (32 ∷ p) (option_copied c.strip_prefix-2.result))
    (c.as_bytes.ensures.value ∙ c.as_str.ensures)
    (left_on text (32 ∷ []) rest c.as_bytes.result.now (option_copied c.strip_prefix-2.result) blank
    code)
