use Rattle.std.proofs.Common.{◌≡◌, ◌∙◌, ◌+◌, ℕ, ℤ, pos, List, true, false, get_or, length, ap, refl, arith}
use Rattle.std.proofs.lemmas.Int.{ints}
use Rattle.desk_audit_texts.proofs.Numbers.{counted, number_at}
use Rattle.desk_audit_texts.proofs.places.are_from_one.Goals as goal

pub returns-then-number-index : goal.returns-then-number-index
returns-then-number-index c =
    let numbers : List ℤ = c.args.numbers.now in
    let index : ℕ = c.loop-index.index in (
      (λ e. let wrong : false ≡ true = e in cc),
      (λ e.
          let at : get_or numbers index (pos 0) ≡ pos (index + 1) =
          ap (λ (xs : List ℤ). get_or xs index (pos 0)) e
          ∙ number_at (length numbers) index (pos 0) c.loop-index-test.true in
          absurd (omega (arith, ints, at))),
    )

pub returns : goal.returns
returns c = (
  (λ e. counted c.args.numbers.now (λ k d within. c.loop-index.invariant k d (omega arith))),
  (λ e. refl),
)
