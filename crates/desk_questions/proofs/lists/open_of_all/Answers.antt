use Rattle.std.proofs.Common.{◌∙◌, ◌++◌, ap}
use Rattle.std.specs.List.{flat_map}
use Rattle.desk_access.proofs.Chains.{same_then_same}
use Rattle.desk_history.specs.FromTables.{open_found}
use Rattle.desk_wanting.proofs.SoFar.{fails, list_more}
use Rattle.desk_questions.proofs.lists.open_of_all.Goals as goal

pub loop-release-preserved : goal.loop-release-preserved
loop-release-preserved g c =
    let before = c.loop-release.invariant in
    let one = c.in_ok-more.ensures in
    record {
      same = same_then_same _ _ _ before.same one.kept;
      found =
          list_more open_found c.args.releases.now c.loop-release.release-index
          c.release-item.result
          c.loop-release.duties.items c.append.new.self.items
          (λ t. flat_map (open_found t) c.args.releases.now) _ _ _ c.loop-release-test.true
          c.release-item.is
          before.same one.kept (λ h t held. c.in_ok-append.ensures.items
          ∙ ap (λ more. c.loop-release.duties.items ++ more) (one.found h t held)) before.found;
    }

pub returns-in_err-more-clause-kept : goal.returns-in_err-more-clause-kept
returns-in_err-more-clause-kept g c =
    fails _ _ _ c.from_residual.result c.from_residual.ensures.0 c.loop-release.invariant.same
    c.in_err-more.ensures.kept

pub returns-in_err-append-clause-kept : goal.returns-in_err-append-clause-kept
returns-in_err-append-clause-kept g c =
    fails _ _ _ c.from_residual-in_err-append.result c.from_residual-in_err-append.ensures.0
    c.loop-release.invariant.same c.in_ok-more.ensures.kept.kept
