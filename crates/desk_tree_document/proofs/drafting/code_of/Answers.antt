use Rattle.std.proofs.Common.{ℕ, List, subst, sym, refl, IsUtf8}
use Rattle.std.proofs.lemmas.Str.{IsUtf8-from_ascii}
use Rattle.hex.proofs.HexLemmas.{IsAscii-encode_with}
use Rattle.hex.specs.Hex.{lower_digits}
use Rattle.desk_base.proofs.Texts.{are_ascii}
use Rattle.desk_bom.specs.Codes.{IsCode}
use Rattle.desk_tree_document.proofs.drafting.code_of.Goals as goal

code_is_text : (digests : List (List ℕ)) (code : List ℕ) → IsCode digests code → IsUtf8 code
code_is_text digests code is = subst IsUtf8 (sym is.is)
    (IsUtf8-from_ascii _ (IsAscii-encode_with lower_digits _ (are_ascii lower_digits refl)))

pub unreachable-requires : goal.unreachable-requires
unreachable-requires c = c.in-Err.ensures.cases.0
    (subst IsUtf8 (sym c.as_slice-2.ensures)
    (code_is_text _ c.in_ok-code.code c.in_ok-code.ensures))
