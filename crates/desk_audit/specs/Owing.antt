-- What duties are owed for, in order.
use Rattle.std.specs.Prelude.{ℕ, ◌&&◌, Bool, true, false, List, [], ◌∷◌}
use Rattle.std.specs.Ordering.{nat_cmp, int_cmp, is_eq, on, then_cmp}
use Rattle.std.specs.Cmp.{IsTotalOrder}
use Rattle.std.specs.Cmp.Lexicographic.{slice_cmp}
use Rattle.std.specs.declared.cmp.Ordering.{Ordering}
use Rattle.std.proofs.lemmas.Cmp.{int_cmp_total, on_total, then_total, nat_list_cmp_total}
use Rattle.desk_snapshot.specs.Conditions.{Owed, owed_for, owed_of}
use Rattle.desk_audit.specs.declared.owed.OwedFor.{OwedFor}
use Rattle.desk_audit.specs.declared.owed.OwedFor.TheVariants.{Code, Duty}
use Rattle.desk_audit.specs.declared.owed.Reason.{Reason}

-- what a duty is owed for, by the row that says so
abbrev pub owed_in : OwedFor → Owed
owed_in (Code row code) = owed_for row.now code.now
owed_in (Duty row) = owed_of row.now

-- the same from borrowed texts
abbrev pub reason_in : Reason → Owed
reason_in x = record {
  release = x.release.now;
  document = x.document;
  package_id = x.package_id.now;
  term = x.term.now;
  code = x.code.now;
  rule = x.rule.now;
}

-- by one of the texts
abbrev by_text : (Owed → List ℕ) → Owed → Owed → Ordering
by_text f = on f (slice_cmp nat_cmp)

-- by release, document, package, term, code and rule
abbrev pub owed_order : Owed → Owed → Ordering
owed_order =
    then_cmp (by_text (λ x. x.release))
    (then_cmp (on (λ x. x.document) int_cmp) (then_cmp (by_text (λ x. x.package_id))
    (then_cmp (by_text (λ x. x.term)) (then_cmp (by_text (λ x. x.code)) (by_text (λ x. x.rule))))))

-- two lists have equal items at each place
abbrev pub are_alike : List OwedFor → List OwedFor → Bool
are_alike [] [] = true
are_alike (x ∷ xs) (y ∷ ys) = is_eq (owed_order (owed_in x) (owed_in y)) && are_alike xs ys
are_alike _ _ = false

-- any two can be compared by one of the texts
by_text_total : (f : Owed → List ℕ) → IsTotalOrder (by_text f)
by_text_total f = on_total f nat_list_cmp_total

-- any two can be compared
pub owed_total : IsTotalOrder owed_order
owed_total =
    then_total (by_text_total (λ x. x.release))
    (then_total (on_total (λ x. x.document) int_cmp_total)
    (then_total (by_text_total (λ x. x.package_id))
    (then_total (by_text_total (λ x. x.term))
    (then_total (by_text_total (λ x. x.code)) (by_text_total (λ x. x.rule))))))
