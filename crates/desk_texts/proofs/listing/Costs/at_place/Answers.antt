use Rattle.std.proofs.Common.{◌≡◌, ◌∙◌, ℕ, List, Option, sym, ap, rules}
use Rattle.std.specs.Prelude.{is_some}
use Rattle.desk_texts.proofs.Costs.{cost_at_place, no_cost, entry_read, entry_past, at_some}
use Rattle.desk_texts.proofs.listing.Costs.at_place.Goals as goal

pub returns-in_err-place : goal.returns-in_err-place
returns-in_err-place c = let none =
    no_cost c.args.self.now.table.now c.args.self.now.costs.now c.args.term.now
    c.in_err-place.ensures.none in search rules

pub returns-in-Some : goal.returns-in-Some
returns-in-Some c =
    let costs : List (Option ℕ) = c.args.self.now.costs.now in
    let k : ℕ = c.in_ok-place.place in
    let there = cost_at_place c.args.self.now.table.now costs c.args.term.now k
    c.args.self.now.ordered c.in_ok-place.ensures.found in
    sym (there ∙ entry_read costs k c.in-Some.cost.now
    (sym (ap is_some c.in-Some.is) ∙ c.get.ensures.lookup.0)
    (at_some _ _ _ c.in-Some.is c.get.ensures.lookup.1))

pub returns-in-None : goal.returns-in-None
returns-in-None c =
    let costs : List (Option ℕ) = c.args.self.now.costs.now in
    let k : ℕ = c.in_ok-place.place in
    let there = cost_at_place c.args.self.now.table.now costs c.args.term.now k
    c.args.self.now.ordered c.in_ok-place.ensures.found in
    sym (there ∙ entry_past costs k (sym (ap is_some c.in-None.is) ∙ c.get.ensures.lookup.0))
