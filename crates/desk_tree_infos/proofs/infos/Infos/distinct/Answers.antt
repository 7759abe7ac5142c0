use Rattle.std.proofs.Common.{◌≡◌, ◌∙◌, ap, map, subst}
use Rattle.std.specs.Prelude.{IfOk}
use Rattle.desk_model.specs.Texts.{sorted_set}
use Rattle.desk_tree_infos.specs.Firsts.{first_in, first_texts}
use Rattle.desk_tree_infos.proofs.FirstsLemmas.{firsts_set}
use Rattle.desk_tree_infos.proofs.infos.Infos.distinct.Goals as goal

pub returns : goal.returns
returns c =
    subst (λ l. IfOk c.distinct_in.result (λ set. set ≡ l))
    (ap (λ fs. sorted_set (first_texts (map first_in fs))) c.as_slice.ensures.value
    ∙ ap (λ fs. sorted_set (first_texts fs)) c.in_ok-firsts.ensures
    ∙ firsts_set c.args.of c.args.self.now)
    c.distinct_in.ensures
