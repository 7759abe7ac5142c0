use Rattle.std.proofs.Common.{◌≡◌, ℕ, List, map}
use Rattle.std.specs.Prelude.{Option}
use Rattle.std.specs.List.{flat_map}
use Rattle.std.specs.Vec.Iter.{into_iter_items}
use Rattle.desk_model.specs.Readings.{Readings}
use Rattle.desk_model.specs.Bills.{bill_text}
use Rattle.desk_access.specs.Seen.{Same, OfRows}
use Rattle.desk_bills.specs.Billing.{AreLeft, licence_found, licence_ids}
use Rattle.desk_bills.proofs.texts.bill_texts.Given as goal

-- the texts so far have their bodies, and what remains are those of the rest
abbrev pub invariant-loop-text : goal.invariant-loop-text
invariant-loop-text g l =
    let old = g.S.Store.seen l.fn.store in
    let new = g.S.Store.seen l.store in
    record {
      same : Same old new;
      left : (w : Readings) (catalogue : Option (List ℕ))
          → l.fn.licences ≡ map (licence_found w catalogue) (flat_map licence_ids l.fn.uses.items)
          → AreLeft w catalogue (flat_map licence_ids (into_iter_items l.text-iterator)) l.licences;
      found : (w : Readings) (catalogue : Option (List ℕ))
          → l.fn.licences ≡ map (licence_found w catalogue) (flat_map licence_ids l.fn.uses.items)
          → OfRows (λ t. l.bodies ≡ map (bill_text w catalogue t.extracted) l.yielded) old new;
    }
