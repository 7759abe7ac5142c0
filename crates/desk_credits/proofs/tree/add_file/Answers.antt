use Rattle.std.proofs.lemmas.Result.{on_ok_weaker}
use Rattle.desk_tree_gather.specs.Shown.{tree_in}
use Rattle.desk_tree_infos.specs.Firsts.{first_in}
use Rattle.desk_credits.proofs.TreeLemmas.{uses_here}
use Rattle.desk_credits.proofs.tree.add_file.Goals as goal

pub returns-clause-added : goal.returns-clause-added
returns-clause-added c = on_ok_weaker c.add_notices_in.result
    (uses_here (tree_in c.args.tree.now) (first_in c.args.file.now) c.args.known.now.notices.items
    c.add_stated.new.self.notices.items c.add_notices_in.new.known.notices.items
    c.as_slice.result.now c.bytes_of.result.now c.as_slice.ensures c.in_ok-add_stated.ensures.added
    c.bytes_of.ensures) c.add_notices_in.ensures.added
