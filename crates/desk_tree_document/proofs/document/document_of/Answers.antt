use Rattle.desk_tree_document.specs.Drafts.{Named}
use Rattle.desk_tree_document.proofs.Trees.{ships_tree}
use Rattle.desk_tree_document.specs.Shipping.{IsTextOf}
use Rattle.std.specs.String.{string_bytes}
use Rattle.desk_tree_document.proofs.document.document_of.Goals as goal

pub returns-in_ok-text_of-in-Ok-clause-ok : goal.returns-in_ok-text_of-in-Ok-clause-ok
returns-in_ok-text_of-in-Ok-clause-ok c = λ r right.
    let d = c.in-Ok.draft in
    let title : Named = record {
      name = c.args.name.now;
      namespace = c.args.namespace.now;
      created = c.args.created.now;
    } in
    let text = string_bytes c.in_ok-text_of-in-Ok.field-0 in
    let made = c.in-Ok.ensures.ok r right in
    let lines = c.in_ok-text_of-in-Ok.ensures.ok in
    let whole : IsTextOf d text = record { code = c.in-Ok.ensures.code; lines = lines } in (
      d,
      (made, c.in-Ok.ensures.code),
      lines,
      c.in_ok-text_of-in-Ok.ensures.read,
      ships_tree r c.args.files.items title d text made whole,
      c.gaps_of-gaps.ensures,
    )
