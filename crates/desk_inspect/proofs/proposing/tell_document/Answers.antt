use Rattle.std.proofs.Common.{ℕ, List, Option, refl, subst}
use Rattle.std.proofs.lemmas.Result.{IfOk-weaker}
use Rattle.desk_model.specs.declared.command.Answer.TheVariants.{Refused}
use Rattle.desk_model.specs.declared.command.Outcome.TheVariants.{Answered}
use Rattle.desk_model.specs.declared.refusal.Refusal.TheVariants.{UnknownDocument}
use Rattle.desk_snapshot.specs.declared.rows.StoredDocument.{StoredDocument}
use Rattle.desk_subcommands.specs.Filing.{outcome_line}
use Rattle.desk_inspect.specs.Proposing.{ProposesBoth, ProposesRow}
use Rattle.desk_inspect.proofs.proposing.tell_document.Goals as goal

pub returns-in-Some-clause-told : goal.returns-in-Some-clause-told
returns-in-Some-clause-told g c = λ w reads right is.
    IfOk-weaker c.tell_proposals.result _ _
    (λ status told. (
      told.0,
      subst (λ (row : Option StoredDocument). ProposesRow w reads c.args.snapshot.now
          c.args.document c.args.choices.now row told.0 status) c.in-Some.ensures
          (subst (λ (bytes : List ℕ). ProposesBoth w reads c.args.snapshot.now c.args.document bytes
          c.args.choices.now told.0 status) c.as_slice-bytes.ensures told.1),
      told.2,
    ))
    (c.tell_proposals.ensures.told w reads right is)

pub returns-in-None-clause-told : goal.returns-in-None-clause-told
returns-in-None-clause-told g c = λ w reads right is.
    let reply = outcome_line (Answered (Refused UnknownDocument)) in
    IfOk-weaker c.tell_refusal.result _ _
    (λ status told. (
      reply,
      subst (λ (row : Option StoredDocument). ProposesRow w reads c.args.snapshot.now
          c.args.document c.args.choices.now row reply status) c.in-None.ensures (refl, told.0),
      told.1,
    ))
    c.tell_refusal.ensures.told
