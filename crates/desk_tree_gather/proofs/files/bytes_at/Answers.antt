use Rattle.std.proofs.Common.{◌∙◌, ap, option_map, Bor, List, ℕ}
use Rattle.desk_tree_gather.proofs.TreeLemmas.{bytes_at-lookup}
use Rattle.desk_tree_gather.proofs.files.bytes_at.Goals as goal

pub returns-in-Some : goal.returns-in-Some
returns-in-Some c = ap (option_map (λ (b : Bor (List ℕ)). b.now)) c.in-Some.ensures.value
    ∙ bytes_at-lookup c.args.tree.now.entries c.args.path.now

pub returns-in-None : goal.returns-in-None
returns-in-None c = ap (option_map (λ (b : Bor (List ℕ)). b.now)) c.in-None.ensures.value
    ∙ bytes_at-lookup c.args.tree.now.entries c.args.path.now
