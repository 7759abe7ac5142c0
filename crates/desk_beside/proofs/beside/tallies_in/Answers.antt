use Rattle.std.proofs.Common.{◌≡◌, ◌∙◌, sym}
use Rattle.std.proofs.lemmas.Result.{IfOk-weaker}
use Rattle.desk_model.specs.Tables.{Tables}
use Rattle.desk_beside.specs.Beside.{ShowsTables}
use Rattle.desk_beside.proofs.Stored.{duties_same, releases_same, uncounted}
use Rattle.desk_beside.proofs.beside.tallies_in.Goals as goal

pub returns-clause-kept : goal.returns-clause-kept
returns-clause-kept c =
    IfOk-weaker c.tallies_of.result _ _
    (λ tallies it. λ t shows. it t
    (c.deref.ensures.value ∙ releases_same c.in_ok-releases.releases.items t.releases
    (sym c.in_ok-releases.ensures.value ∙ c.as_slice.ensures ∙ shows.releases))
    (c.deref-2.ensures.value ∙ duties_same c.in_ok-duties.duties.items t.duty
    (sym c.in_ok-duties.ensures.value ∙ c.as_slice-2.ensures ∙ shows.duty)))
    c.tallies_of.ensures.kept

pub returns-clause-cause : goal.returns-clause-cause
returns-clause-cause c =
    uncounted c.tallies_of.result c.args.snapshot.now c.deref.result.now c.deref-2.result.now
    (λ t shows. (
      c.deref.ensures.value ∙ releases_same c.in_ok-releases.releases.items t.releases
          (sym c.in_ok-releases.ensures.value ∙ c.as_slice.ensures ∙ shows.releases),
      c.deref-2.ensures.value ∙ duties_same c.in_ok-duties.duties.items t.duty
          (sym c.in_ok-duties.ensures.value ∙ c.as_slice-2.ensures ∙ shows.duty),
    ))
    c.tallies_of.ensures.cause
