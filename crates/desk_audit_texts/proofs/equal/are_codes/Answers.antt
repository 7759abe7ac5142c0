use Rattle.std.proofs.Common.{◌≡◌, ◌∷◌, ◌++◌, ◌+◌, List, ℕ, sym, ap, drop, ◌∙◌}
use Rattle.std.proofs.lemmas.List.{append_cancel_left}
use Rattle.desk_audit_texts.proofs.Codes.{led, led_by}
use Rattle.desk_audit_texts.proofs.equal.are_codes.Goals as goal

pub loop-code-preserved : goal.loop-code-preserved
loop-code-preserved c =
    let codes : List (List ℕ) = c.args.codes.now in
    let code : List ℕ = c.code-item.result in
    let behind : List ℕ = c.in-Some.behind.now in
    let more : List ℕ = led (drop (c.loop-code.code-index + 1) codes) in
    let split = led_by code codes c.loop-code.code-index c.loop-code-test.true c.code-item.is in
    let here : c.loop-code.rest.now ≡ (32 ∷ code) ++ behind = c.in-Some.ensures in (
      λ h. c.loop-code.invariant.0 (here ∙ ap (λ l. (32 ∷ code) ++ l) h ∙ sym split),
      λ all. append_cancel_left (32 ∷ code) behind more
          (sym here ∙ c.loop-code.invariant.1 all ∙ split),
    )
