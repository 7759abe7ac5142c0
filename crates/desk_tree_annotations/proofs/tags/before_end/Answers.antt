use Rattle.std.proofs.lemmas.Bool.Decides.{Decides-eqb}
use Rattle.std.proofs.lemmas.Slice.Eq.{strip_suffix_is}
use Rattle.desk_tree_annotations.proofs.TagLemmas.{end_none, end_some}
use Rattle.desk_tree_annotations.proofs.tags.before_end.Goals as goal

pub returns-clause-none : goal.returns-clause-none
returns-clause-none c = end_none c.args.bytes.now c.args.end.now c.strip_suffix.result
    (strip_suffix_is Decides-eqb c.args.bytes.now c.args.end.now c.strip_suffix.result
    c.strip_suffix.ensures.cases)

pub returns-clause-some : goal.returns-clause-some
returns-clause-some c = end_some c.args.bytes.now c.args.end.now c.strip_suffix.result
    (strip_suffix_is Decides-eqb c.args.bytes.now c.args.end.now c.strip_suffix.result
    c.strip_suffix.ensures.cases)
