use Rattle.std.proofs.Common.{◌≡◌, ◌∙◌, ℕ, ◌+◌, Bool, ◌++◌, ◌∷◌, [], ap, sym, arith}
use Rattle.std.specs.Prelude.{map}
use Rattle.std.specs.List.{range_with_len}
use Rattle.std.proofs.lemmas.List.FromFn.{map-range_with_len_more}
use Rattle.desk_bom.specs.Marks.{among}
use Rattle.desk_bom.proofs.shipping.marks_of.Goals as goal

pub loop-package-preserved : goal.loop-package-preserved
loop-package-preserved c =
    let reached = λ (k : ℕ). among c.args.reached.now.order.items (k + 1) in
    let n = c.loop-package.package in
    c.in_ok-push.ensures.items
    ∙ ap (λ marks. marks ++ c.has.result ∷ []) c.loop-package.invariant
    ∙ ap (λ (mark : Bool). map reached (range_with_len 0 n) ++ mark ∷ []) c.has.ensures
    ∙ sym (map-range_with_len_more reached 0 n n (omega arith))
