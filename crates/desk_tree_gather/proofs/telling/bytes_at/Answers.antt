use Rattle.std.proofs.Common.{◌∙◌, ap, Some}
use Rattle.desk_tree_gather.proofs.OwnedLemmas.{bytes_at-owned}
use Rattle.desk_tree_gather.proofs.telling.bytes_at.Goals as goal

pub returns-in-Some : goal.returns-in-Some
returns-in-Some c = ap Some c.as_slice.ensures ∙ c.in-Some.ensures.value
    ∙ bytes_at-owned c.args.tree.now.entries c.args.path.now

pub returns-in-None : goal.returns-in-None
returns-in-None c = c.in-None.ensures.value ∙ bytes_at-owned c.args.tree.now.entries c.args.path.now
