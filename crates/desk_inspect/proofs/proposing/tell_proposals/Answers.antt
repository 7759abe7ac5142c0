use Rattle.std.proofs.Common.{◌≡◌, ◌≢◌, inl, refl, rules, subst}
use Rattle.std.specs.Prelude.{◌++◌, ℕ}
use Rattle.std.proofs.KnownBytes.{Appends-kept, Appends-trans}
use Rattle.desk_views.specs.Proposing.{ProposesHeld}
use Rattle.desk_inspect.proofs.ProposingLemmas.{refused}
use Rattle.desk_inspect.proofs.proposing.tell_proposals.Goals as goal

pub returns-then-status-ne0-clause-told : goal.returns-then-status-ne0-clause-told
returns-then-status-ne0-clause-told g c = λ w reads right is.
    let held = c.in_ok-status.ensures.told w reads right is in
    let some : c.in_ok-status.status ≢ 0 = search rules in (
      held.0,
      refused w reads c.args.snapshot.now c.args.document c.args.bytes.now c.args.choices.now held.0
          c.in_ok-status.status some held.1,
      held.2,
    )

pub returns-clause-told : goal.returns-clause-told
returns-clause-told g c = λ w reads right is.
    let held = c.in_ok-status.ensures.told w reads right is in
    let none : c.in_ok-status.status ≡ 0 = search rules in (
      held.0 ++ c.args.choices.now,
      inl (
        held.0,
        subst (λ (status : ℕ). ProposesHeld w reads c.args.snapshot.now c.args.document
            c.args.bytes.now held.0 status) none held.1,
        refl,
        refl,
      ),
      Appends-trans _ _ _ _ _ held.2
          (Appends-kept _ _ _ _ c.in_ok-write_all.ensures.bytes c.in_ok-flush.ensures.bytes),
    )
