-- Words without a plus at their end.
use Rattle.std.proofs.Common.{◌≡◌, ◌∙◌, ℕ, ◌-◌, true, false, List, length, take, Option, Some, None}
use Rattle.std.proofs.Common.{sym, ap, subst, refl, arith}
use Rattle.std.specs.Prelude.{codes, unwrap_or, MatchOption}
use Rattle.std.specs.Str.{IsCharBoundary}
use Rattle.std.specs.Str.Pattern.{FindsTextSuffix, StripsSuffix}
use Rattle.std.proofs.lemmas.Str.Pattern.{ends_text}
use denote.Ref.{Bor}
use Rattle.desk_tokens.specs.Words.{without_plus}

-- a word, from which a plus at its end was cut off
pub plus_off : (word : Bor (List ℕ)) (r : Option (Bor (List ℕ)))
    → MatchOption r (FindsTextSuffix (codes "+") word.now None)
    (λ x. StripsSuffix (FindsTextSuffix (codes "+")) word.now x.now)
    → (unwrap_or r word).now ≡ without_plus word.now
plus_off word None h = rw (sym (ends_text false (codes "+") word.now h)) refl
plus_off word (Some x) (n, (one, ends, cut), is, counts) =
    let plus = ends_text true (codes "+") word.now (
      n,
      (one, ends, cut),
      omega (arith, counts),
      subst (λ k. IsCharBoundary word.now (length word.now - k)) (sym one) cut,
    ) in
    rw (sym plus) (is ∙ ap (λ k. take (length word.now - k) word.now) one)
