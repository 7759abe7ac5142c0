use Rattle.std.proofs.Common.{◌≡◌, ◌∙◌, List, length, Some, sym, subst, ap, refl, rules}
use Rattle.std.proofs.lemmas.Option.{slice_get_read}
use Rattle.desk_expr.specs.declared.term.Term.{Term}
use Rattle.desk_alts.specs.Choices.{IsChoice}
use Rattle.desk_alts.specs.Sets.{IsTermSet}
use Rattle.desk_alts.proofs.Choosing.{terms_start, terms_more, terms_same, terms_all}
use Rattle.desk_alts.proofs.sets.TermSet.chosen.Goals as goal
use Rattle.desk_alts.proofs.sets.TermSet.chosen.Goals.{then-has+in_ok-clone+in_ok-push, else-has}

pub loop-place-init : goal.loop-place-init
loop-place-init c = terms_start c.terms-table.result.now c.args.places c.new-terms.result.items
    c.new-terms.ensures.items

pub loop-place-preserved : goal.loop-place-preserved
loop-place-preserved c =
    let table : List Term = c.terms-table.result.now in
    elim c.if-has.branch [
      | then-has+in_ok-clone+in_ok-push w ↦
          let got = w.index-table-place.result in
          let same : w.in_ok-clone.field-0 ≡ got = search rules in
          let at = slice_get_read table (length table) c.loop-place.place got refl
          c.loop-place-test.true w.index-table-place.is ∙ ap Some (sym same) in
          terms_more table c.args.places c.loop-place.place c.loop-place.terms.items
          c.if-has.terms.items w.in_ok-clone.field-0
          (subst IsTermSet (sym c.terms-table.ensures.terms) c.terms-table.ensures.ordered) at
          (c.has.ensures.0 w.if-has.true)
          (ap (λ v. v.items) w.terms-is ∙ w.in_ok-push.ensures.items) c.loop-place.invariant
      | else-has w ↦
          terms_same table c.args.places c.loop-place.place c.loop-place.terms.items
          c.if-has.terms.items (ap (λ v. v.items) w.terms-is)
          (λ has. let yes = c.has.ensures.1 has in let no_bit = w.if-has.false in cc)
          c.loop-place.invariant
    ]

pub returns : goal.returns
returns c =
    let table : List Term = c.terms-table.result.now in
    subst (λ (l : List Term). IsChoice l c.args.places c.loop-place.terms.items)
    c.terms-table.ensures.terms
    (terms_all table c.args.places c.loop-place.place c.loop-place.terms.items
    c.loop-place-test.false c.loop-place.invariant)
