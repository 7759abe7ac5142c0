use Rattle.std.proofs.Common.{◌∙◌, ap, sym, subst}
use Rattle.desk_tree_gather.specs.Paths.{is_toml}
use Rattle.desk_tree_gather.specs.Tomls.{toml_of, tomls_of}
use Rattle.desk_tree_infos.specs.Tomls.{tomls_in}
use Rattle.desk_tree_gather.specs.Shown.{Gives, files_of, left_in}
use Rattle.desk_tree_gather.proofs.TellingLemmas.{each-filter}
use Rattle.desk_tree_gather.proofs.telling.folders_of.Goals as goal

pub returns-in-Err-clause-err : goal.returns-in-Err-clause-err
returns-in-Err-clause-err c = λ r right.
    sym (ap (λ l. tomls_of r (files_of l)) c.as_slice.ensures.value
    ∙ ap (tomls_of r) c.in_ok-files.ensures
    ∙ each-filter is_toml (toml_of r) (left_in c.args.tree.now))
    ∙ subst (Gives (tomls_of r (files_of c.as_slice.result.now)) (λ v. tomls_in v.items))
    c.in-Err.is (c.in_ok-tomls.ensures r right)

pub returns-clause-ok : goal.returns-clause-ok
returns-clause-ok c = λ r right. (
  tomls_in c.in-Ok.tomls.items,
  sym (ap (λ l. tomls_of r (files_of l)) c.as_slice.ensures.value
      ∙ ap (tomls_of r) c.in_ok-files.ensures
      ∙ each-filter is_toml (toml_of r) (left_in c.args.tree.now))
      ∙ subst (Gives (tomls_of r (files_of c.as_slice.result.now)) (λ v. tomls_in v.items))
      c.in-Ok.is (c.in_ok-tomls.ensures r right),
  c.in_ok-folders.ensures,
)
