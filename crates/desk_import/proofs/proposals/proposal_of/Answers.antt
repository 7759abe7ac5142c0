use Rattle.std.proofs.Common.{◌∙◌, sym, rules}
use Rattle.std.specs.String.{string_bytes}
use Rattle.desk_tagvalue.specs.Views.{package_text}
use Rattle.desk_import.proofs.Lines.{declared_reads, no_line, proposed}
use Rattle.desk_import.proofs.proposals.proposal_of.Goals as goal

pub returns-then-not-is : goal.returns-then-not-is
returns-then-not-is c = λ reads ships is stands.
    no_line reads c.args.document (package_text c.args.text.now) c.args.standing
    (string_bytes c.new.result) (sym c.is.ensures ∙ c.if-not-is.true)
    (search rules)

pub returns-in-Some : goal.returns-in-Some
returns-in-Some c = λ reads ships is stands.
    proposed reads c.args.document (package_text c.args.text.now) c.args.standing
    c.in-Some.expression c.line_of-line.result
    (sym c.is.ensures ∙ c.if-not-is.false) (sym c.in-Some.is ∙ c.in_ok-expression.ensures reads is)
    c.line_of-line.ensures.text c.line_of-line.ensures.spells

pub returns-in-None : goal.returns-in-None
returns-in-None c = λ reads ships is stands.
    absurd (declared_reads reads (package_text c.args.text.now) ships c.args.standing
    (sym c.is.ensures ∙ c.if-not-is.false) stands
    (sym c.in-None.is ∙ c.in_ok-expression.ensures reads is))
