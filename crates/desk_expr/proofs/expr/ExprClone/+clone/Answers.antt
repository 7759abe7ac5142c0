use Rattle.std.proofs.Common.{◌≡◌, ◌∙◌, ◌++◌, ◌+◌, ◌<◌, ℕ, List, [], ◌∷◌, length, get_or, take, ap₂, rules, sym}
use Rattle.std.proofs.lemmas.List.{take_more}
use Rattle.desk_expr.specs.Tree.{Tree}
use Rattle.desk_expr.proofs.expr.ExprClone.+clone.Goals as goal

-- one more part is copied
copied_more : (parts before after : List Tree) (i : ℕ) (part copy : Tree) → i < length parts
    → part ≡ get_or parts i part → before ≡ take i parts
    → copy ≡ part → after ≡ before ++ copy ∷ [] → after ≡ take (i + 1) parts
copied_more parts before after i part copy inside at so_far is pushed =
    pushed ∙ ap₂ (λ (ts : List Tree) (t : Tree). ts ++ t ∷ []) so_far (is ∙ at)
    ∙ sym (take_more parts i part inside)

pub loop-part-preserved : goal.loop-part-preserved
loop-part-preserved t c =
    copied_more c.deref-part-items.result.now c.loop-part.copies.items c.push.new.self.items
    c.loop-part.part-index c.part-item.result
    c.in_ok-clone-in-All.field-0 c.loop-part-test.true c.part-item.is c.loop-part.invariant
    (search rules) c.in_ok-push-in-All.ensures.items

pub loop-part-2-preserved : goal.loop-part-2-preserved
loop-part-2-preserved t c =
    copied_more c.deref-part-items-in-Any.result.now c.loop-part-2.copies.items
    c.push-in-loop-part-2.new.self.items c.loop-part-2.part-index
    c.part-item-in-loop-part-2.result c.in_ok-clone-in-Any.field-0 c.loop-part-2-test.true
    c.part-item-in-loop-part-2.is c.loop-part-2.invariant
    (search rules) c.in_ok-push-in-Any.ensures.items
