use Rattle.std.proofs.Common.{◌≡◌, ◌∙◌, ◌++◌, ◌∷◌, [], List, ap, arith, refl}
use Rattle.std.proofs.lemmas.List.{append_assoc}
use Rattle.desk_model.specs.declared.row.ChangeRow.{ChangeRow}
use Rattle.desk_sql_write.proofs.RunLemmas.{sets_next}
use Rattle.desk_sql_write.proofs.duty.last_run.Goals as goal

pub loop-row-preserved : goal.loop-row-preserved
loop-row-preserved c =
    let is = c.loop-row.invariant.is in
    let row = c.in-Some.row.now in
    let front = c.in-Some.front.now in
    let before = c.loop-row.before.now in
    let parts : before ≡ front ++ row ∷ [] = c.in-Some.ensures.cases.0 in
    let next = c.if-not-goes_before.ensures.next refl in
    let shorter = c.in-Some.ensures.cases.1 in
    record {
      is = record {
        run = row ∷ is.run;
        whole = is.whole ∙ (ap (λ (l : List ChangeRow). l ++ is.run) parts
            ∙ append_assoc front (row ∷ []) is.run);
        some = omega (arith, shorter, is.some);
        sets = sets_next row is.run c.loop-row.first c.in_ok-last.last.now.duty
            c.state_after-to.result next c.loop-row.invariant.low
            (c.if-not-goes_before.ensures.state refl) is.sets;
      };
      low = omega (arith, next, c.loop-row.invariant.low);
    }
