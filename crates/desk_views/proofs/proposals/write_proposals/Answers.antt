use Rattle.std.proofs.Common.{refl}
use Rattle.desk_subcommands.proofs.WriterLemmas.{appends_kept}
use Rattle.desk_views.proofs.proposals.write_proposals.Goals as goal

pub returns-clause-told : goal.returns-clause-told
returns-clause-told g c = λ reads is. (
  c.as_bytes.result.now,
  (c.in_ok-proposals.proposals, c.in_ok-proposals.ensures reads is, c.as_bytes.ensures.value, refl),
  appends_kept _ _ _ _ c.in_ok-write_all.ensures.bytes c.in_ok-flush.ensures.bytes,
)
