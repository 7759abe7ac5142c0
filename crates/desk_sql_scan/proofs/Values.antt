-- What a value is, read back.
use Rattle.std.proofs.Common.{◌≡◌, ℕ, ℤ, pos, List, [], Option, Some, None, refl}
use Rattle.sqlite_value.specs.declared.value.Value.{Value}
use Rattle.sqlite_value.specs.declared.value.Value.TheVariants.{Int, Text, Blob}
use Rattle.desk_sql_layout.specs.Cells.{text_or_null}

abbrev pub number_in : Value → ℤ
number_in (Int n) = n
number_in _ = pos 0

abbrev pub text_in : Value → List ℕ
text_in (Text text) = text
text_in _ = []

abbrev pub bytes_in : Value → List ℕ
bytes_in (Blob bytes) = bytes
bytes_in _ = []

abbrev pub text_if_any : Value → Option (List ℕ)
text_if_any (Text text) = Some text
text_if_any _ = None

pub as_it_was : (text : Option (List ℕ)) → text_if_any (text_or_null text) ≡ text
as_it_was None = refl
as_it_was (Some text) = refl
