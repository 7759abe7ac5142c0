use Rattle.std.proofs.Common.{◌∙◌, ap, subst, sym}
use Rattle.std.specs.Prelude.{Ok, Vec}
use Rattle.std.specs.declared.alloc.Global.{Global}
use Rattle.desk_tree_gather.specs.declared.telling.Digested.{Digested}
use Rattle.desk_tree_gather.specs.Digests.{all_told}
use Rattle.desk_tree_gather.specs.Shown.{Gives, left_in}
use Rattle.desk_tree_gather.specs.Telling.{told_in}
use Rattle.desk_tree_gather.proofs.telling.told_in.Goals as goal

pub returns-in-Err : goal.returns-in-Err
returns-in-Err c = λ r right tomls holds.
    subst (Gives (told_in r tomls (left_in c.args.tree))
    (λ (v : Vec Digested Global). all_told c.args.folders.all.items v.items)) c.in-Err.is
    (c.in_ok-files.ensures r right tomls holds)

pub returns : goal.returns
returns c = λ r right tomls holds.
    subst (Gives (told_in r tomls (left_in c.args.tree))
    (λ (v : Vec Digested Global). all_told c.args.folders.all.items v.items)) c.in-Ok.is
    (c.in_ok-files.ensures r right tomls holds)
    ∙ ap Ok (sym c.of.ensures)
