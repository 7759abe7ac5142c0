-- What a search finds passes its test.
use Rattle.std.proofs.Common.{◌≡◌, ℕ, Bool, true, false, cond, List, Some, ap, ◌∙◌, sym}
use Rattle.std.specs.Prelude.{find}
use Rattle.desk_model.specs.Keys.{is_document, is_duty}
use Rattle.desk_model.specs.declared.row.DocumentRow.{DocumentRow}
use Rattle.desk_model.specs.declared.row.DutyRow.{DutyRow}
use Rattle.desk_base.proofs.Numbers.{numbers_equal}
use Rattle.desk_base.proofs.Lists.{found_passes}

passes : {A : Type 0} (test : A → Bool) (y : A) (ys : List A) (x : A) (b : Bool) → test y ≡ b
    → cond b (Some y) (find test ys) ≡ Some x → (find test ys ≡ Some x → test x ≡ true)
    → test x ≡ true
passes test y ys x true e f rest = let same : y ≡ x = cc in ap test (sym same) ∙ e
passes test y ys x false e f rest = rest f

pub document_number : (n : ℕ) (rows : List DocumentRow) (row : DocumentRow)
    → Some row ≡ find (is_document n) rows → row.number ≡ n
document_number n rows row e = numbers_equal row.number n
    (found_passes (is_document n) rows row (sym e))

pub duty_number : (n : ℕ) (rows : List DutyRow) (row : DutyRow) → Some row ≡ find (is_duty n) rows
    → row.number ≡ n
duty_number n rows row e = numbers_equal row.number n (found_passes (is_duty n) rows row (sym e))
