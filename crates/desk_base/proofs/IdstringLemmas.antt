-- The test for idstrings says what an idstring is.
use Rattle.std.proofs.Common.{ℕ, List, length}
use Rattle.std.specs.Bool.{Decides}
use Rattle.std.specs.Prelude.{nat_lt}
use Rattle.std.specs.List.{list_all}
use Rattle.std.proofs.lemmas.Bool.Decides.{Decides-and, Decides-ltb}
use Rattle.std.proofs.lemmas.List.Sums.{AllPass-from_list_all, list_all-from_AllPass}
use Rattle.desk_base.specs.Idstring.{is_idstring_byte, is_idstring, IsIdstring}

pub is_idstring-Decides : (text : List ℕ) → Decides (is_idstring text) (IsIdstring text)
is_idstring-Decides text =
    Decides-and (nat_lt 0 (length text)) (list_all is_idstring_byte text)
    (Decides-ltb 0 (length text))
    (AllPass-from_list_all is_idstring_byte text, list_all-from_AllPass is_idstring_byte text)
