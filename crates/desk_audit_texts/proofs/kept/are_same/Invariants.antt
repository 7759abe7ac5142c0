use Rattle.std.proofs.Common.{◌≡◌, List, map, filter, drop}
use Rattle.desk_snapshot.specs.Conditions.{Held}
use Rattle.desk_snapshot.specs.Rows.{is_choice_in}
use Rattle.desk_snapshot.specs.declared.rows.StoredChoice.{StoredChoice}
use Rattle.desk_audit_texts.specs.HeldAs.{chosen_as, held_in}
use Rattle.desk_audit_texts.proofs.kept.are_same.Given as goal

abbrev pub invariant-loop-row : goal.invariant-loop-row
invariant-loop-row l =
    let held : List StoredChoice → List Held =
    λ rows. map chosen_as (filter (is_choice_in l.release) rows) in
    record {
      forth : held (drop l.row-index l.choices) ≡ held_in l.release l.left
          → held l.choices ≡ held_in l.release l.fn.frozen;
      back : held l.choices ≡ held_in l.release l.fn.frozen
          → held (drop l.row-index l.choices) ≡ held_in l.release l.left;
    }
