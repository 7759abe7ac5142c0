use Rattle.std.proofs.Common.{◌≡◌, ◌∙◌, ◌+◌, ◌∷◌, suc, ap, sym, List, subst, drop, add-one, ℕ}
use Rattle.std.specs.Prelude.{slice_index_or}
use Rattle.desk_model.specs.declared.state.DutyState.TheVariants.{IsOpen}
use Rattle.desk_memory_rows.specs.declared.ledger.Place.{Place}
use Rattle.desk_memory_rows.proofs.Pushing.{Remains, remains_none, remains_less, drop_get, drop_over}
use Rattle.desk_memory_rows.proofs.ledger.pop_all.Goals as goal

pub loop-place-preserved : goal.loop-place-preserved
loop-place-preserved c = record {
  len = c.pop_change.ensures.len ∙ c.loop-place.invariant.len;
  undone = λ before changes told old.
      let places : List Place = c.args.places.now in
      let i : ℕ = c.loop-place.place-index in
      let none : Place = record { duty = 0; state = IsOpen } in
      let split : drop i places ≡ slice_index_or places i none ∷ drop (suc i) places =
      drop_get places i none c.loop-place-test.true in
      remains_less before c.loop-place.groups.items c.pop_change.new.groups.items
      (slice_index_or places i none) (drop (i + 1) places)
      (subst (λ (ps : List Place). Remains before ps c.loop-place.groups.items)
      (split ∙ ap (λ (k : ℕ). slice_index_or places i none ∷ drop k places) (sym (add-one i)))
      (c.loop-place.invariant.undone before changes told old))
      c.pop_change.ensures.undone;
}

pub returns-clause-undone : goal.returns-clause-undone
returns-clause-undone c = λ before changes told old.
    remains_none before c.loop-place.groups.items
    (subst (λ (ps : List Place). Remains before ps c.loop-place.groups.items)
    (drop_over c.args.places.now c.loop-place.place-index c.loop-place-test.false)
    (c.loop-place.invariant.undone before changes told old))
