use Rattle.std.proofs.Common.{◌≡◌, ◌∙◌, ap}
use Rattle.std.proofs.lemmas.Result.{IfOk-weaker}
use Rattle.desk_model.specs.Tables.{tables}
use Rattle.desk_access.proofs.Chains.{same_then_kept}
use Rattle.desk_texts.specs.Right.{AreRight}
use Rattle.desk_wanting.specs.Idle.{idle_found}
use Rattle.desk_wanting.specs.Obstacles.{wanting_found}
use Rattle.desk_inspect.specs.Idle.{status_with}
use Rattle.desk_inspect.proofs.InspectLemmas.{found_before, found_then}
use Rattle.desk_inspect.proofs.freezing.wanting.Goals as goal

pub returns-clause-done : goal.returns-clause-done
returns-clause-done g c = IfOk-weaker c.tell_beside-told.result _ _
    (λ status told. (
      c.in-Ok.numbers.items,
      found_then AreRight
          (λ w h. c.in-Ok.numbers.items ≡ idle_found (tables w h) c.args.release.now) _ _ _
          c.in-Ok.ensures.kept c.tell_beside-told.ensures.kept c.in-Ok.ensures.found,
      (
        told.0,
        (
          told.1.0,
          found_before AreRight
              (λ w h. told.1.0 ≡ wanting_found w (tables w h) c.args.release.now) _ _ _
              c.in-Ok.ensures.kept c.tell_beside-told.ensures.kept told.1.1,
          told.1.2,
          told.1.3,
        ),
        told.2 ∙ ap (status_with told.0) c.as_slice.ensures.value,
      ),
    ))
    c.tell_beside-told.ensures.done

pub returns-clause-kept : goal.returns-clause-kept
returns-clause-kept g c =
    same_then_kept _ _ _ c.in-Ok.ensures.kept c.tell_beside-told.ensures.kept
