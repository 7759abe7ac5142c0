use Rattle.std.proofs.Common.{◌∙◌, ◌+◌, sym, ap, drop, subst}
use Rattle.std.proofs.lemmas.List.{map_push}
use Rattle.desk_tree_gather.specs.Paths.{is_toml}
use Rattle.desk_tree_gather.specs.Trees.{each}
use Rattle.desk_tree_gather.specs.Tomls.{toml_of}
use Rattle.desk_tree_infos.specs.Tomls.{toml_in, tomls_in}
use Rattle.desk_tree_gather.specs.Shown.{Gives, files_of}
use Rattle.desk_tree_gather.proofs.EachLemmas.{onto-item, onto-fault}
use Rattle.desk_tree_gather.proofs.tomls.tomls_of.Goals as goal
use Rattle.desk_base.proofs.Results.{onto}

pub returns-in-Err : goal.returns-in-Err
returns-in-Err c = λ r right.
    sym (c.loop-file.invariant r right)
    ∙ onto-fault is_toml (toml_of r) (tomls_in c.loop-file.tomls.items) c.args.files.now
    c.loop-file.file-index _ c.loop-file-test.true c.in-Err.fault
    (sym c.is_toml.ensures ∙ c.if-not-is_toml.false)
    (subst (Gives (toml_of r _) toml_in) c.in-Err.is (c.in_ok-toml.ensures r right))

pub loop-file-preserved : goal.loop-file-preserved
loop-file-preserved c = λ r right.
    let rest = each is_toml (toml_of r)
    (files_of (drop (c.loop-file.file-index + 1) c.args.files.now)) in
    ap (λ items. onto (tomls_in items) rest) c.in_ok-push-in-Ok.ensures.items
    ∙ ap (λ done. onto done rest) (map_push toml_in c.loop-file.tomls.items c.in-Ok.toml)
    ∙ sym (onto-item is_toml (toml_of r) (tomls_in c.loop-file.tomls.items) c.args.files.now
    c.loop-file.file-index _ c.loop-file-test.true (toml_in c.in-Ok.toml)
    (sym c.is_toml.ensures ∙ c.if-not-is_toml.false)
    (subst (Gives (toml_of r _) toml_in) c.in-Ok.is (c.in_ok-toml.ensures r right)))
    ∙ c.loop-file.invariant r right
