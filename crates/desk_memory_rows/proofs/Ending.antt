-- Duties that pass a test, found one after another.
use Rattle.std.proofs.Common.{◌≡◌, ℕ, zero, suc, ◌+◌, ◌<◌, Bool, true, false, cond, List, [], ◌∷◌}
use Rattle.std.proofs.Common.{◌++◌, length, map, drop, sym, ap, ◌∙◌, arith, append_assoc, add-one}
use Rattle.std.specs.Prelude.{filter, slice_index_or}
use Rattle.desk_model.specs.declared.row.DutyRow.{DutyRow}
use Rattle.desk_model.specs.declared.row.Standing.{Standing}

split_suc : (rows : List DutyRow) (i : ℕ) (row : DutyRow) → i < length rows
    → row ≡ slice_index_or rows i row → drop i rows ≡ row ∷ drop (suc i) rows
split_suc [] i row lt e = absurd (omega arith)
split_suc (x ∷ xs) zero row lt e = ap (λ (y : DutyRow). y ∷ xs) (sym e)
split_suc (x ∷ xs) (suc i) row lt e = split_suc xs i row (omega arith) e

pub split_at : (rows : List DutyRow) (i : ℕ) (row : DutyRow) → i < length rows
    → row ≡ slice_index_or rows i row → drop i rows ≡ row ∷ drop (i + 1) rows
split_at rows i row lt e = split_suc rows i row lt e
    ∙ ap (λ (k : ℕ). row ∷ drop k rows) (sym (add-one i))

pub found_more : (f : DutyRow → Standing) (test : DutyRow → Bool) (found later : List Standing)
    (row : DutyRow) (left rest : List DutyRow) (all : List Standing) → left ≡ row ∷ rest
    → test row ≡ true → later ≡ found ++ f row ∷ []
    → found ++ map f (filter test left) ≡ all → later ++ map f (filter test rest) ≡ all
found_more f test found later row left rest all split passes more before =
    ap (λ (xs : List Standing). xs ++ map f (filter test rest)) more
    ∙ (append_assoc found (f row ∷ []) (map f (filter test rest))
    ∙ (ap (λ (b : Bool). found ++ map f (cond b (row ∷ filter test rest) (filter test rest)))
    (sym passes)
    ∙ (ap (λ (xs : List DutyRow). found ++ map f (filter test xs)) (sym split) ∙ before)))

pub found_same : (f : DutyRow → Standing) (test : DutyRow → Bool) (found later : List Standing)
    (row : DutyRow) (left rest : List DutyRow) (all : List Standing) → left ≡ row ∷ rest
    → test row ≡ false → later ≡ found
    → found ++ map f (filter test left) ≡ all → later ++ map f (filter test rest) ≡ all
found_same f test found later row left rest all split fails same before =
    ap (λ (xs : List Standing). xs ++ map f (filter test rest)) same
    ∙ (ap (λ (b : Bool). found ++ map f (cond b (row ∷ filter test rest) (filter test rest)))
    (sym fails)
    ∙ (ap (λ (xs : List DutyRow). found ++ map f (filter test xs)) (sym split) ∙ before))
