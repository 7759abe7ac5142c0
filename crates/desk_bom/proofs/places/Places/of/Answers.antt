use Rattle.std.proofs.Common.{◌≡◌, ◌∙◌, ◌+◌, ◌<◌, length, get_or, ap, sym, subst, arith, rules, ℕ, List, None}
use Rattle.std.proofs.lemmas.List.{length-map, take_all, length-replicate, get_or-replicate}
use denote.Ref.{Bor}
use Rattle.desk_bom.specs.Places.{slot_of, place_of, place_in, Finds}
use Rattle.desk_bom.proofs.SlotLemmas.{finds_none, back_whole}
use Rattle.desk_bom.proofs.places.Places.of.Goals as goal
use Rattle.desk_base.specs.Borrowed.{texts}

pub loop-place-init : goal.loop-place-init
loop-place-init c =
    let ids = c.args.ids.items in
    let slots = c.in_ok-slots.slots.items in
    let long = length-map ids (λ (x : Bor (List ℕ)). x.now) in
    let room : 0 < length slots = search rules in
    let all = c.in_ok-slots.ensures.items_if_clones_equal (λ y h. h) in
    let many : ℕ = c.saturating_add.result in
    let size : length slots ≡ many = ap length all ∙ length-replicate many c.len-count.result in
    let each : (s : ℕ) → s < length slots → get_or slots s 0 ≡ c.len-count.result =
    λ s within. ap (λ l. get_or l s 0) all
    ∙ get_or-replicate many s c.len-count.result 0 (omega arith) in
    let none : (q : List ℕ) → place_in c.new-tree.result q ≡ None = search rules in
    record {
      room = room;
      count = search rules;
      finds = finds_none (texts ids) slots c.new-tree.result
          (λ q. let is = each (slot_of q (length slots)) (omega arith) in omega arith) none;
    }

pub loop-place-preserved : goal.loop-place-preserved
loop-place-preserved c =
    let ids = c.args.ids.items in
    let more = c.loop-place.place + 1 in
    let whole = back_whole c.loop-place.slots.len c.add.new.slots c.loop-place.slots.items
    (c.add.ensures.count ∙ ap length c.deref_mut.ensures.value) (search rules) in
    let finds = subst (λ l. Finds more (texts l) c.add.new.slots c.add.new.tree)
    c.deref.ensures.value c.in_ok-add.ensures.finds in
    let room : 0 < length c.add.new.slots = let n = c.add.ensures.count
    ∙ ap length c.deref_mut.ensures.value in let m = c.loop-place.invariant.room in omega arith in
    record {
      room = subst (λ l. 0 < length l) (sym whole) room;
      count = c.loop-place.invariant.count;
      finds = subst (λ l. Finds more (texts ids) l c.add.new.tree) (sym whole) finds;
    }

pub invariant_of-result : goal.invariant_of-result
invariant_of-result c =
    let ids = c.args.ids.items in
    let long = length-map ids (λ (x : Bor (List ℕ)). x.now) in
    let count = c.loop-place.invariant.count in
    record {
      room = c.loop-place.invariant.room;
      finds = λ q place is. sym (c.loop-place.invariant.finds q
          ∙ ap (place_of q) (take_all c.loop-place.place (texts ids) (omega arith))) ∙ is;
    }
