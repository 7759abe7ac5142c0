use Rattle.std.proofs.Common.{◌↔◌, subst}
use Rattle.std.specs.Prelude.{Contains}
use Rattle.std.proofs.lemmas.Result.{IfOk-weaker}
use Rattle.desk_tree_infos.proofs.AmongLemmas.{from_set, set_sorted, to_set}
use Rattle.desk_tree_lint.specs.Used.{IsFirstUsed}
use Rattle.desk_tree_lint.proofs.UsedLemmas.{along, used_first}
use Rattle.desk_tree_lint.proofs.used.used_keys.Goals as goal

pub returns : goal.returns
returns c = λ infos are.
    IfOk-weaker c.each_used.result _ _
    (λ keys known. record {
      members = λ key. let same = along
          (subst (λ fs. Contains keys key ↔ IsFirstUsed fs key) are (known key))
          (used_first infos key) in (
            (λ at. same.0 (from_set keys key at)),
            (λ uses. to_set keys key (same.1 uses)),
          );
      ordered = set_sorted keys;
    })
    c.each_used.ensures
