use Rattle.std.proofs.Common.{◌∙◌, ◌++◌, List, ap, append_assoc}
use Rattle.std.specs.List.{filter_map}
use Rattle.std.proofs.lemmas.Result.{on_ok_weaker}
use Rattle.desk_history.specs.FromTables.{rules_found}
use Rattle.desk_model.specs.Answers.{unadopted}
use Rattle.desk_model.specs.Obstacles.{unruled_alone}
use Rattle.desk_model.specs.declared.refusal.Refusal.{Refusal}
use Rattle.desk_wanting.proofs.Looks.{looked_after, looked_kept}
use Rattle.desk_wanting.proofs.term.add_term_refusals.Goals as goal

pub returns-clause-found : goal.returns-clause-found
returns-clause-found g c = λ w right.
    let one = c.in_ok-add_unadopted.ensures in
    let two = c.add_unruled.ensures in
    on_ok_weaker c.add_unruled.result (λ told honest t held.
    let unruled = filter_map (unruled_alone w t.adoption (rules_found t) c.args.form.now
    c.args.row.now) c.args.terms.now in
    told honest t (one.kept.kept.spared.holds t held)
    ∙ ap (λ (a : List Refusal). a ++ unruled)
    (one.found w right ((looked_kept _ _ c.add_unruled.result two.kept).spared.honest honest) t
    held)
    ∙ append_assoc c.args.refusals.now.items
    (filter_map (unadopted w t.adoption c.args.row.now.document) c.args.terms.now) unruled)
    (two.found w right)

pub returns-clause-kept : goal.returns-clause-kept
returns-clause-kept g c = looked_after _ _ _ c.add_unruled.result c.in_ok-add_unadopted.ensures.kept
    c.add_unruled.ensures.kept
