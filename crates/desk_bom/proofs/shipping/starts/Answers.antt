use Rattle.std.proofs.Common.{◌≡◌, ◌∙◌, ap, sym, arith, ℕ, true, false, ◌||◌, ◌&&◌, not}
use Rattle.std.proofs.Common.{nat_le, [], ◌∷◌, length, ◌==◌}
use Rattle.std.proofs.lemmas.Bool.Decides.{nat_tests}
use Rattle.std.proofs.lemmas.List.{length-map}
use Rattle.std.proofs.Math.Bool.{or-false}
use Rattle.desk_tagvalue.specs.Documents.{document_text}
use Rattle.desk_tagvalue.specs.Views.{package_text}
use Rattle.desk_bom.specs.Marks.{among, added}
use Rattle.desk_bom.proofs.shipping.starts.Goals as goal
use Rattle.desk_bom.proofs.shipping.starts.Goals.{then-not-is_described+in_ok-add_packages, else-not-is_described}

either_way : (a : ℕ) → (0 == a) ≡ (a == 0)
either_way a = grind (arith, nat_tests)

-- the document itself
itself : (a : ℕ) → among (0 ∷ []) a ≡ (a == 0)
itself a = or-false (0 == a) ∙ either_way a

pub returns-clause-order : goal.returns-clause-order
returns-clause-order c = λ a.
    let d = document_text c.args.document.now in
    let begun : c.add.new.self.order.items ≡ 0 ∷ [] = c.in_ok-add.ensures.order
    ∙ ap (added 0) c.in_ok-reached.ensures.order in
    let first : among c.add.new.self.order.items a ≡ (a == 0) = ap (λ l. among l a) begun
    ∙ itself a in
    elim c.if-not-is_described.branch [
      | then-not-is_described+in_ok-add_packages w ↦
          let count = ap length w.as_slice.ensures
          ∙ sym (length-map c.args.document.now.packages package_text) in
          ap (λ r. among r.order.items a) w.reached-is ∙ w.in_ok-add_packages.ensures.order a
          ∙ ap (λ b. b || nat_le 1 a && nat_le a (length w.as_slice.result.now)) first
          ∙ ap (λ n. a == 0 || nat_le 1 a && nat_le a n) count
          ∙ ap (λ b. a == 0 || not b && nat_le 1 a && nat_le a (length d.packages))
          (sym w.if-not-is_described.true ∙ c.is_described.ensures)
      | else-not-is_described w ↦
          ap (λ r. among r.order.items a) w.reached-is ∙ first ∙ sym (or-false (a == 0))
          ∙ ap (λ b. a == 0 || not b && nat_le 1 a && nat_le a (length d.packages))
          (sym w.if-not-is_described.false ∙ c.is_described.ensures)
    ]
