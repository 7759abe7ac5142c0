use Rattle.std.proofs.Common.{◌≡◌, ◌∙◌, ◌<◌, ℕ, List, [], ◌∷◌, ◌++◌, length, take, sym, subst, arith}
use Rattle.std.proofs.lemmas.List.{length-take-le, take_all}
use Rattle.desk_expr.specs.declared.term.Term.{Term}
use Rattle.desk_expr.specs.Spelling.{SpellsTermWithin, SpellsNoTerm}
use Rattle.desk_texts.specs.Terms.{AreTerms, IsTerm}
use Rattle.desk_texts.proofs.Terms.{bad_term, next_term, terms_length}
use Rattle.desk_texts.proofs.ChoiceLemmas.{kept_few, slot_within}
use Rattle.desk_texts.proofs.choice.kept_of.Goals as goal

pub loop-place-init : goal.loop-place-init
loop-place-init c = ([], tt, c.in_ok-kept.ensures)

pub add-requires : goal.add-requires
add-requires c =
    let slot = c.slot_of.ensures in
    let within = slot_within c.args.own.now c.in-Some.term c.slot_of.result slot in
    omega (arith, within, c.loop-place.invariant.2.slots)

pub returns-in_default : goal.returns-in_default
returns-in_default c =
    let words = c.args.words.now in
    let place : ℕ = c.loop-place.place in
    let within : place < length words = omega arith in
    let none = subst (IsTerm c.at.result.now) c.in_default.is c.in_ok-term.ensures in
    bad_term words place [] within (subst SpellsNoTerm c.at.ensures none)

pub loop-place-preserved : goal.loop-place-preserved
loop-place-preserved c =
    let words = c.args.words.now in
    let place : ℕ = c.loop-place.place in
    let chosen : List Term = c.loop-place.invariant.0 in
    let are = c.loop-place.invariant.1 in
    let term = c.in-Some.term in
    let within : place < length words = omega arith in
    let is = subst (IsTerm c.at.result.now) c.in-Some.is c.in_ok-term.ensures in
    let before : length (take place words) ≡ place = length-take-le place words (omega arith) in
    let at : place ≡ length chosen = sym (terms_length (take place words) chosen are ∙ before) in (
      chosen ++ term ∷ [],
      next_term words place [] chosen term within are
          (subst (λ x. SpellsTermWithin x term) c.at.ensures is),
      c.in_ok-add.ensures c.args.own.now chosen c.loop-place.invariant.2 c.slot_of.ensures at,
    )

pub returns : goal.returns
returns c =
    let words = c.args.words.now in
    let chosen : List Term = c.loop-place.invariant.0 in
    let kept = c.loop-place.invariant.2 in
    let all = take_all c.loop-place.place words (omega arith) in (
      (chosen, subst (λ xs. AreTerms xs chosen) all c.loop-place.invariant.1, kept.first),
      kept_few c.args.own.now chosen c.loop-place.kept kept,
    )
