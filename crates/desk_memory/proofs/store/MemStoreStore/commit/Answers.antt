use Rattle.std.proofs.Common.{◌≡◌, ◌∙◌, inl, ap, sym, subst, arith}
use Rattle.desk_model.specs.Tables.{Tables, applied}
use Rattle.desk_model.specs.Keys.{release_below}
use Rattle.desk_history.specs.Laws.{Ascends}
use Rattle.desk_tally.specs.Kept.{AreKept, LeadsTo}
use Rattle.desk_tally.specs.declared.tallies.Tallies.{Tallies}
use Rattle.desk_memory_rows.specs.Holders.{AreHolders, holders_after}
use Rattle.desk_memory_rows.proofs.Holding.{holders_kept}
use Rattle.desk_sorted.specs.Blocks.{rows_in}
use Rattle.desk_memory.specs.Memory.{rows_of}
use Rattle.desk_memory.specs.declared.store.MemStore.{MemStore}
use Rattle.desk_memory.proofs.Committing.{ascends_from}
use Rattle.desk_memory.proofs.store.MemStoreStore.commit.Goals as goal

pub returns-clause-wrote : goal.returns-clause-wrote
returns-clause-wrote c =
    let before = c.args.self.now in
    let planned = c.plan.new.self in
    let written = c.write.new.self in
    let leads = rw c.in-Some.is at c.in_ok-step.ensures.leads in
    let same : rows_of planned ≡ rows_of before = ap rows_of c.plan.ensures.rest in
    record {
      honest = λ h. tt;
      outlasts = record { counts = omega arith; closes = λ h o. inl tt };
      stays = λ h. tt;
      holds = λ h t held follows. (
        c.in_ok-write.ensures.ok ∙ ap (applied c.args.change) (same ∙ held.0),
        c.take.ensures (applied c.args.change t)
            (subst (λ (k : Tallies). LeadsTo c.in-Some.step k (applied c.args.change t))
            (sym c.write.ensures.tallies)
            (subst (λ (u : Tables). LeadsTo c.in-Some.step planned.tallies
            (applied c.args.change u)) held.0
            (leads
            (subst (λ (u : Tables). Ascends release_below u.releases)
            (c.in_ok-write.ensures.ok ∙ ap (applied c.args.change) same)
            (ascends_from written.releases.rows.items written.releases.ascending))
            (subst (λ (u : Tables). AreKept before.tallies u) (sym held.0) held.1)))),
        subst (λ all. AreHolders all (applied c.args.change t))
            (sym (c.in_ok-write.ensures.holders
            ∙ ap (λ (u : Tables). holders_after c.args.change u
            (rows_in planned.choices.holders.blocks.items)) (same ∙ held.0)))
            (holders_kept c.args.change t (rows_in planned.choices.holders.blocks.items)
            (subst (λ (u : Tables). Ascends release_below u.releases) (same ∙ held.0)
            (ascends_from planned.releases.rows.items planned.releases.ascending)) follows
            (subst (λ (s : MemStore). AreHolders (rows_in s.choices.holders.blocks.items) t)
            (sym c.plan.ensures.rest) held.2)),
      );
      leaves = λ h t held follows x left. absurd left;
    }
