use Rattle.std.proofs.Common.{◌∙◌, ap, sym, lit<, Some, None}
use Rattle.std.proofs.lemmas.Str.Pattern.{split_parts}
use Rattle.desk_tree_infos.specs.Ways.{behind_slash, first_or}
use Rattle.desk_tree_infos.proofs.RestLemmas.{rests-none, rests-cut}
use Rattle.desk_tree_infos.proofs.covering.behind_slash.Goals as goal

pub returns-in-None-clause-value : goal.returns-in-None-clause-value
returns-in-None-clause-value c = sym (ap (first_or c.args.path.now)
    (rests-none c.args.path.now (split_parts 47 c.args.path.now None c.in-None.ensures.cases
    (lit< tt))))

pub returns-in-Some-clause-value : goal.returns-in-Some-clause-value
returns-in-Some-clause-value c =
    let parts = split_parts 47 c.args.path.now (Some (c.in-Some.field-0-0, c.in-Some.after))
    c.in-Some.ensures.cases (lit< tt) in
    sym (ap behind_slash parts.0 ∙ ap (first_or _)
    (rests-cut c.in-Some.field-0-0.now c.in-Some.after.now parts.1))
