use Rattle.std.proofs.Common.{◌∙◌, ap, sym, map, Some, None}
use Rattle.std.specs.Prelude.{Err}
use Rattle.desk_tree_annotations.specs.Tags.{tag_text}
use Rattle.desk_tree_gather.specs.declared.fault.GatherFault.TheVariants.{BadExpression}
use Rattle.desk_tree_gather.specs.Gathering.{bad_line}
use Rattle.desk_tree_gather.specs.Shown.{stated_of}
use Rattle.desk_tree_gather.proofs.ReaderLemmas.{same_stated}
use Rattle.desk_tree_gather.proofs.StatedLemmas.{stated_along}
use Rattle.desk_tree_gather.proofs.gathering.stated_in.Goals as goal

pub returns-in-Some : goal.returns-in-Some
returns-in-Some c = λ r right.
    stated_along r (record { path = c.args.path.now; bytes = c.args.bytes.now })
    (stated_of c.in_ok-info.info) (Some c.in-Some.line)
    (same_stated r right c.args.bytes.now (stated_of c.in_ok-info.info) c.in_ok-info.ensures)
    (sym c.in-Some.is ∙ c.in_ok-line.ensures r right
    ∙ ap (λ l. bad_line r (map tag_text l)) c.as_slice.ensures.value)
    ∙ ap (λ p. Err (BadExpression p c.in-Some.line)) (sym c.in_ok-of-in-Some.ensures)

pub returns : goal.returns
returns c = λ r right.
    stated_along r (record { path = c.args.path.now; bytes = c.args.bytes.now })
    (stated_of c.in_ok-info.info) None
    (same_stated r right c.args.bytes.now (stated_of c.in_ok-info.info) c.in_ok-info.ensures)
    (sym c.in-None.is ∙ c.in_ok-line.ensures r right
    ∙ ap (λ l. bad_line r (map tag_text l)) c.as_slice.ensures.value)
