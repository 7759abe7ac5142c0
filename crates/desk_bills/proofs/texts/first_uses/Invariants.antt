use Rattle.std.proofs.Common.{◌≡◌}
use Rattle.desk_model.specs.Bills.{first_uses}
use Rattle.desk_bills.specs.Billing.{HasTexts}
use Rattle.desk_bills.proofs.texts.first_uses.Given as goal

abbrev pub invariant-loop-text : goal.invariant-loop-text
invariant-loop-text l = (l.uses.items ≡ first_uses l.yielded) × HasTexts l.yielded l.seen
