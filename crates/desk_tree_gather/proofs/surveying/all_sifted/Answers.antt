use Rattle.std.proofs.Common.{◌≡◌, map, sym, subst}
use Rattle.std.specs.Prelude.{IfOk, Vec}
use Rattle.std.specs.declared.alloc.Global.{Global}
use Rattle.desk_tree_infos.specs.declared.folders.Folders.{Folders}
use Rattle.desk_tree_infos.specs.declared.infos.Covered.{Covered}
use Rattle.desk_tree_infos.specs.Folders.{Holds}
use Rattle.desk_tree_infos.specs.Sharing.{infos_at}
use Rattle.desk_tree_gather.specs.Shown.{files_of, tree_in}
use Rattle.desk_tree_gather.specs.Survey.{info_sifted}
use Rattle.desk_tree_gather.proofs.surveying.all_sifted.Goals as goal

pub returns-clause-infos : goal.returns-clause-infos
returns-clause-infos c = λ r right tomls holds.
    subst (λ (f : Folders). IfOk c.each_sifted.result
    (λ (v : Vec Covered Global). infos_at f.all.items v.items
    ≡ map (info_sifted r tomls (tree_in c.args.known.now.tree)) (files_of c.args.files.now)))
    c.in_ok-trail.ensures
    (c.each_sifted.ensures.infos r right tomls
    (subst (Holds tomls) (sym c.in_ok-trail.ensures) holds))
