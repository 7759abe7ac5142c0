use Rattle.std.proofs.Common.{◌≡◌, pos, Bool, true, Option, IfOk, subst, arith}
use Rattle.std.specs.Ordering.{int_eq}
use Rattle.std.proofs.lemmas.Bool.Decides.{Decides-int_eq}
use Rattle.std.proofs.lemmas.Int.{ints}
use Rattle.desk_model.specs.declared.reading.Conclusion.{Conclusion}
use Rattle.desk_snapshot.specs.Conditions.{conclusion_at}
use Rattle.desk_audit_texts.specs.InForce.{IsRead}
use Rattle.desk_audit_texts.proofs.Reading.{read_of, ships_as}
use Rattle.desk_audit_texts.proofs.held.ships_under.Goals as goal

pub returns-in-Some : goal.returns-in-Some
returns-in-Some g c = λ w right.
    let conclusion : Option Conclusion = conclusion_at w c.args.snapshot.now c.args.row.now in
    let read = read_of g.T.Texts.is_of w conclusion c.in-Some.expression
    (subst (IsRead g.T.Texts.is_of w conclusion) c.in-Some.is
    (c.in_ok-expression.ensures w right)) in
    let shipped : int_eq c.args.row.now.shipped (pos 1) ≡ true =
    (Decides-int_eq c.args.row.now.shipped (pos 1)).1 (omega (arith, ints)) in
    subst (λ (b : Bool). IfOk c.are_minimal.result (λ ships. ships ≡ b))
    (ships_as w c.args.snapshot.now c.args.terms.now c.args.row.now read.0 shipped read.1)
    (c.are_minimal.ensures w right read.0.profile read.0.text read.2)
