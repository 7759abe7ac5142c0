use Rattle.std.proofs.Common.{◌<◌, ◌∙◌, length, sym, subst, refl, arith}
use Rattle.std.specs.Prelude.{Contains}
use Rattle.std.proofs.lemmas.Grind.{get_or_default_zero}
use Rattle.std.proofs.lemmas.Option.{slice_get_within}
use Rattle.desk_expr.specs.Meaning.{CanGo, Holds, IsFirst, IsMinimal}
use Rattle.desk_texts.proofs.ChoiceLemmas.{first_goes, holds_for_kept, none_goes}
use Rattle.desk_texts.proofs.choice.verdict_of.Goals as goal

pub returns-in-NotEnough : goal.returns-in-NotEnough
returns-in-NotEnough c = λ own chosen table first holds.
    let e = c.args.expr.now in
    let kept = c.args.kept.now in
    let lacks = subst (λ ts. Holds (Contains ts) e → ⊥) c.as_slice.ensures.value
    (c.in-NotEnough.ensures.not_enough.0 refl) in
    lacks (holds_for_kept e own chosen kept.terms.items kept.places.items table first holds)

pub returns-in-Superfluous : goal.returns-in-Superfluous
returns-in-Superfluous c = λ own chosen table first.
    let e = c.args.expr.now in
    let kept = c.args.kept.now in
    let i = c.in-Superfluous.i in
    let goes = subst (λ ts. IsFirst (CanGo ts e) i) c.as_slice.ensures.value
    (c.in-Superfluous.ensures.superfluous i refl) in
    let there = slice_get_within kept.terms.items i goes.0.0 goes.0.1 in
    let within : i < length kept.places.items = omega (arith, first.paired) in
    let place = c.index.ensures ∙ get_or_default_zero kept.places.items i c.index.result.now
    within in
    subst (IsFirst (CanGo chosen e)) (sym place)
    (first_goes e own chosen kept.terms.items kept.places.items table first i goes)

pub returns-in-Minimal : goal.returns-in-Minimal
returns-in-Minimal c = λ own chosen table first.
    let e = c.args.expr.now in
    let kept = c.args.kept.now in
    let minimal = subst (λ ts. IsMinimal ts e) c.as_slice.ensures.value
    (c.in-Minimal.ensures.minimal.0 refl) in
    none_goes e own chosen kept.terms.items kept.places.items table first minimal
