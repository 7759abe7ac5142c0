use Rattle.std.proofs.Common.{◌∙◌, ap, arith, Some}
use Rattle.serde_json.specs.Data.{object}
use Rattle.serde_json.specs.View.{members_view}
use Rattle.serde_json.proofs.Views.{view-Object}
use Rattle.desk_assignments.specs.Words.{object_of}
use Rattle.desk_assignments.proofs.Shallow.{words_are_shallow}
use Rattle.desk_assignments.proofs.line.request_line.Goals as goal

pub returns-clause-ok : goal.returns-clause-ok
returns-clause-ok c =
    let members = c.in_ok-members_of.field-0 in
    let ms = members_view members.entries in
    let low = words_are_shallow c.args.verb c.args.word.now c.args.operands.now ms
    c.in_ok-members_of.ensures.ok in
    let seen = view-Object members in (
      object ms,
      ap object_of c.in_ok-members_of.ensures.ok,
      c.in_ok-line.ensures.reads_back (rw seen (omega arith)) ∙ ap Some seen,
    )
