use Rattle.std.proofs.Common.{◌∙◌, sym}
use Rattle.desk_tree_infos.specs.declared.information.Subject.TheVariants.{Notices, Licences}
use Rattle.desk_tree_infos.specs.Sharing.{all_texts}
use Rattle.desk_tree_infos.proofs.AmongLemmas.{none-set}
use Rattle.desk_tree_infos.proofs.infos.outline_of.Goals as goal

pub returns : goal.returns
returns c =
    let all = c.args.all.now in
    let file = c.args.file.now in
    (λ i. record {
      path = c.as_str.ensures i;
      no_notice = (c.has_none.ensures ∙ sym (none-set (all_texts all Notices file.notices))) i;
      no_licence = (c.has_none-2.ensures ∙ sym (none-set (all_texts all Licences file.licences))) i;
    })
