use Rattle.std.proofs.Common.{◌≡◌, ◌∙◌, ◌++◌, arith, [], ap, subst, sym, map, length, drop}
use Rattle.std.specs.Prelude.{OnOk}
use Rattle.std.proofs.lemmas.List.{take_at}
use Rattle.desk_model.specs.Texts.{sorted_set}
use Rattle.desk_tree_infos.specs.declared.information.Subject.TheVariants.{Licences}
use Rattle.desk_tree_infos.specs.Firsts.{firsts_of}
use Rattle.desk_tree_infos.proofs.AmongLemmas.{among-set, set_sorted}
use Rattle.desk_tree_lint.specs.Firsts.{Holds, asked_in, first_mentions}
use Rattle.desk_tree_lint.specs.Naming.{name_by}
use Rattle.desk_tree_lint.proofs.FirstLemmas.{mentions_alike}
use Rattle.desk_tree_lint.proofs.naming.add_named.Goals as goal

pub returns : goal.returns
returns c = λ infos are.
    let keys = sorted_set c.args.keys.now in
    let none : Holds keys [] c.as_mut_slice.result.now =
    record {
      ordered = set_sorted c.args.keys.now;
      firsts = ap (map asked_in) c.as_mut_slice.ensures.value ∙ c.in_ok-asked.ensures;
    } in
    let holds = subst (λ fs. Holds keys (first_mentions fs) c.keep_firsts.new.asked) are
    (c.in_ok-keep_firsts.ensures keys none) in
    let same : c.in_ok-asked.asked.len ≡ length c.keep_firsts.new.asked =
    omega (arith, c.as_mut_slice.ensures.len, c.keep_firsts.auto.asked) in
    let back : c.as_slice.result.now ≡ c.keep_firsts.new.asked =
    c.as_slice.ensures.value ∙ take_at c.keep_firsts.new.asked
    (drop (length c.keep_firsts.new.asked) c.in_ok-asked.asked.items) c.in_ok-asked.asked.len
    (sym same) in
    subst (λ names. OnOk c.add_names.result (c.add_names.new.names ≡ c.args.names.now ++ names))
    (λ i. map (λ key. name_by key (sym (mentions_alike infos key) i)) c.args.keys.now)
    (c.add_names.ensures keys (first_mentions (firsts_of Licences infos))
    (subst (λ asked. Holds keys (first_mentions (firsts_of Licences infos)) asked) (sym back) holds)
    (λ key has. among-set c.args.keys.now key ∙ has))
