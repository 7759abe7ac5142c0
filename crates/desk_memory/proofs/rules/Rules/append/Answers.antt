use Rattle.std.proofs.Common.{◌≡◌, ap, ◌∙◌, arith, length}
use Rattle.desk_memory.specs.RulePlaces.{rule_places}
use Rattle.desk_memory.proofs.Ruling.{rules_more}
use Rattle.desk_memory.proofs.rules.Rules.append.Goals as goal

pub invariant_of-self-2 : goal.invariant_of-self-2
invariant_of-self-2 c =
    let old = c.args.self.now in
    let first : c.len.result ≡ length old.rows.items =
    omega (arith, c.len.ensures, old.rows.ok.0) in
    record {
      placed = λ revision term form. rules_more revision term form old.places.rows.items
          c.reserve.new.self.rows.items c.put_in_turn.new.self.rows.items
          c.in_ok-places.places.items old.rows.items c.append.new.self.items c.args.rules.items
          c.len.result
          old.places.ascending (old.placed revision term form)
          (c.in_ok-places.ensures ∙ ap (rule_places c.len.result) c.as_slice.ensures.value) first
          c.in_ok-reserve.ensures.items c.put_in_turn.ensures c.in_ok-append.ensures.items;
    }
