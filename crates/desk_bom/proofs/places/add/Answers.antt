use Rattle.std.proofs.Common.{◌≡◌, ◌∙◌, ◌+◌, ◌<◌, ◌≤◌, [], length, get_or, set, ap, sym, subst, arith, ℕ, List}
use Rattle.std.specs.Option.{is_some}
use Rattle.std.proofs.lemmas.List.{get_or-map, length-map}
use denote.Ref.{Bor}
use Rattle.desk_bom.specs.Places.{slot_of, held_for, found, Finds}
use Rattle.desk_bom.proofs.SlotLemmas.{finds_again, finds_in_slot, finds_in_tree}
use Rattle.desk_bom.proofs.places.add.Goals as goal
use Rattle.desk_base.specs.Borrowed.{texts}

pub returns-then-is_some-clause-finds : goal.returns-then-is_some-clause-finds
returns-then-is_some-clause-finds c =
    let ids = c.args.ids.now in
    let n = c.args.place in
    let long = length-map ids (λ (x : Bor (List ℕ)). x.now) in
    let same = get_or-map (λ (x : Bor (List ℕ)). x.now) ids n
    (record { ref_ptr = (0, 0); now = [] }) [] c.requires.within in
    let looked = ap (λ t. is_some (found (texts ids) c.args.slots.now c.args.tree.now t)) same
    ∙ ap is_some (sym c.find.ensures) ∙ sym c.is_some.ensures ∙ c.if-is_some.true in
    finds_again (texts ids) n (omega arith) c.args.slots.now c.args.tree.now c.requires.before
    looked

pub returns-in_ok-insert-clause-finds : goal.returns-in_ok-insert-clause-finds
returns-in_ok-insert-clause-finds c =
    let ids = c.args.ids.now in
    let n = c.args.place in
    let long = length-map ids (λ (x : Bor (List ℕ)). x.now) in
    let same = get_or-map (λ (x : Bor (List ℕ)). x.now) ids n
    (record { ref_ptr = (0, 0); now = [] }) [] c.requires.within in
    let looked = ap (λ t. is_some (found (texts ids) c.args.slots.now c.args.tree.now t)) same
    ∙ ap is_some (sym c.find.ensures) ∙ sym c.is_some.ensures ∙ c.if-is_some.false in
    finds_in_tree (texts ids) n (omega arith) c.args.slots.now c.args.tree.now c.insert.new.self
    c.requires.before looked (rw same c.in_ok-insert.ensures.updates)

pub returns-else-slots-slot-clause-finds : goal.returns-else-slots-slot-clause-finds
returns-else-slots-slot-clause-finds c =
    let ids = c.args.ids.now in
    let n = c.args.place in
    let slots = c.args.slots.now in
    let long = length-map ids (λ (x : Bor (List ℕ)). x.now) in
    let same = get_or-map (λ (x : Bor (List ℕ)). x.now) ids n
    (record { ref_ptr = (0, 0); now = [] }) [] c.requires.within in
    let looked = ap (λ t. is_some (found (texts ids) slots c.args.tree.now t)) same
    ∙ ap is_some (sym c.find.ensures) ∙ sym c.is_some.ensures ∙ c.if-is_some.false in
    let slot : slot_of (get_or (texts ids) n []) (length slots) ≡ c.slot_of-slot.result =
    ap (λ t. slot_of t (length slots)) same ∙ sym c.slot_of-slot.ensures in
    let fits : slot_of (get_or (texts ids) n []) (length slots) < length slots = omega arith in
    let held : length ids ≤ get_or slots c.slot_of-slot.result 0 = omega arith in
    let free : length (texts ids) ≤ held_for slots (get_or (texts ids) n []) =
    subst (λ k. length (texts ids) ≤ get_or slots k 0) (sym slot) (omega arith) in
    subst (λ s. Finds (n + 1) (texts ids) (set slots s n) c.args.tree.now) slot
    (finds_in_slot (texts ids) n (omega arith) slots c.args.tree.now fits free c.requires.before
    looked)
