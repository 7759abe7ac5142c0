use Rattle.std.proofs.Common.{◌≡◌, ◌∙◌, ◌++◌, ◌+◌, ◌<◌, ℕ, List, codes, length, drop, get_or}
use Rattle.std.proofs.Common.{append_assoc, ap, sym, subst}
use Rattle.std.specs.String.{string_bytes}
use Rattle.std.proofs.lemmas.List.{drop_more}
use Rattle.desk_expr.specs.declared.printing.Place.{Place}
use Rattle.desk_expr.specs.declared.printing.Place.TheVariants.{InAll, InAny}
use Rattle.desk_expr.specs.Tree.{Tree, parts_of}
use Rattle.desk_expr.specs.Printing.{printed_in, joined_on, IsWellFormed, AreWellFormed}
use Rattle.desk_expr.proofs.expr.Expr.+add_to.Goals as goal

-- an operator and one more part
one_more : (place : Place) (between before now pushed then : List ℕ) (parts : List Tree) (i : ℕ)
    (d : Tree) → i < length parts
    → before ++ joined_on place between (parts_of parts) ≡ now
    ++ joined_on place between (parts_of (drop i parts)) → pushed ≡ now ++ between
    → then ≡ pushed ++ printed_in place (get_or parts i d)
    → before ++ joined_on place between (parts_of parts) ≡ then
    ++ joined_on place between (parts_of (drop (i + 1) parts))
one_more place between before now pushed then parts i d inside so_far is last =
    let part = printed_in place (get_or parts i d) in
    let rest = joined_on place between (parts_of (drop (i + 1) parts)) in
    so_far ∙ ap (λ (ts : List Tree). now ++ joined_on place between (parts_of ts))
    (drop_more parts i d inside)
    ∙ sym (append_assoc now between (part ++ rest)) ∙ ap (λ l. l ++ (part ++ rest)) (sym is)
    ∙ sym (append_assoc pushed part rest)
    ∙ ap (λ l. l ++ rest) (sym last)

-- one more part is well formed
formed_more : (parts : List Tree) (i : ℕ) (d : Tree) → i < length parts
    → (AreWellFormed (parts_of (drop i parts)) → AreWellFormed (parts_of parts))
    → IsWellFormed (get_or parts i d) → AreWellFormed (parts_of (drop (i + 1) parts))
    → AreWellFormed (parts_of parts)
formed_more parts i d inside so_far here rest =
    so_far (subst (λ (ts : List Tree). AreWellFormed (parts_of ts))
    (sym (drop_more parts i d inside)) (here, rest))

pub loop-part-preserved : goal.loop-part-preserved
loop-part-preserved t c =
    let parts = c.first_and_others.result.1.now in
    let told = c.in_ok-add_to-in-All-2.ensures in
    record {
      text = one_more InAll (codes " AND ") (string_bytes c.add_to.new.text)
          (string_bytes c.loop-part.text) (string_bytes c.push_str.new.self)
          (string_bytes c.add_to-in-loop-part.new.text) parts c.loop-part.part-index
          c.part-item.result c.loop-part-test.true c.loop-part.invariant.text
          c.in_ok-push_str-in-All.ensures.bytes
          (told.text ∙ ap (λ (e : Tree). string_bytes c.push_str.new.self ++ printed_in InAll e)
          c.part-item.is);
      well_formed = formed_more parts c.loop-part.part-index c.part-item.result
          c.loop-part-test.true c.loop-part.invariant.well_formed
          (subst IsWellFormed c.part-item.is told.well_formed);
    }

pub loop-part-2-preserved : goal.loop-part-2-preserved
loop-part-2-preserved t c =
    let parts = c.first_and_others-in-Any.result.1.now in
    let told = c.in_ok-add_to-in-Any-2.ensures in
    record {
      text = one_more InAny (codes " OR ") (string_bytes c.add_to-in-Any.new.text)
          (string_bytes c.loop-part-2.text)
          (string_bytes c.push_str-in-loop-part-2.new.self)
          (string_bytes c.add_to-in-loop-part-2.new.text) parts c.loop-part-2.part-index
          c.part-item-in-loop-part-2.result c.loop-part-2-test.true c.loop-part-2.invariant.text
          c.in_ok-push_str-in-Any.ensures.bytes
          (told.text ∙ ap (λ (e : Tree). string_bytes c.push_str-in-loop-part-2.new.self
          ++ printed_in InAny e) c.part-item-in-loop-part-2.is);
      well_formed = formed_more parts c.loop-part-2.part-index c.part-item-in-loop-part-2.result
          c.loop-part-2-test.true
          c.loop-part-2.invariant.well_formed
          (subst IsWellFormed c.part-item-in-loop-part-2.is told.well_formed);
    }
