use Rattle.std.proofs.Common.{◌≡◌, ◌∷◌, drop}
use Rattle.std.specs.List.{flat_map}
use Rattle.desk_audit_texts.proofs.equal.are_codes.Given as goal

-- the text is the codes if and only if the rest is the rest of the codes
abbrev pub invariant-loop-code : goal.invariant-loop-code
invariant-loop-code l =
    let rest = l.rest ≡ flat_map (λ code. 32 ∷ code) (drop l.code-index l.codes) in
    let all = l.text ≡ flat_map (λ code. 32 ∷ code) l.codes in
    (rest → all) × (all → rest)
