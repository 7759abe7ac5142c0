use Rattle.std.proofs.Common.{◌≡◌, sym, subst, rules}
use Rattle.std.specs.List.Sorted.{IsPermutation}
use Rattle.std.proofs.lemmas.Fn.{always_returns_same}
use Rattle.desk_model.specs.declared.finding.Finding.{Finding}
use Rattle.desk_findings.specs.Fields.{IsReading}
use Rattle.desk_findings.specs.Kinds.{finding_key}
use Rattle.desk_findings.specs.Known.{state_in}
use Rattle.desk_findings.proofs.document.findings_in.Goals as goal

pub returns : goal.returns
returns c = λ reads is. record {
  state = state_in c.in_ok-known.known.states.items;
  states = c.in_ok-known.ensures.states;
  each = subst (λ l. IsPermutation l c.sort_unstable_by_key.new.self.items)
      (c.in_ok-found.ensures reads (subst (λ p. IsReading p reads)
      (sym c.in_ok-known.ensures.profile) is)) c.sort_unstable_by_key.ensures.permutation;
  ordered = c.sort_unstable_by_key.ensures.sorted (λ (f : Finding). finding_key f)
      (always_returns_same _ (λ a r. r ≡ finding_key a.0.now) _ (λ a r q k. search rules));
}
