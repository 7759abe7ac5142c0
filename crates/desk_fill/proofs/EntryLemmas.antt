-- How many tables a part has, and how many bytes a file.
use Rattle.std.proofs.Common.{◌≡◌, ◌∙◌, ℕ, ◌+◌, ◌≤◌, true, false, cond, List, [], ◌∷◌}
use Rattle.std.proofs.Common.{length, ap, refl, add-one, arith}
use Rattle.std.proofs.lemmas.Bool.Decides.{nat_tests}
use Rattle.std.specs.Prelude.{Err, nat_lt, not}
use Rattle.std.specs.Str.{is_utf8}
use Rattle.toml.specs.View.{items_view}
use Rattle.toml.specs.declared.value.Value.{Value}
use Rattle.desk_fill.specs.declared.fault.Flaw.TheVariants.{NotUtf8, TooLarge}
use Rattle.desk_fill.specs.Reading.{count, fill_of, fill_of_text}

pub count-items_view : (vs : List Value) → count (items_view vs) ≡ length vs
count-items_view [] = refl
count-items_view (v ∷ vs) = ap (λ n. n + 1) (count-items_view vs) ∙ add-one (length vs)

-- bytes that aren't too many
pub read_text : (bytes : List ℕ) → length bytes ≤ 4194304 → is_utf8 bytes ≡ true
    → fill_of bytes ≡ fill_of_text bytes
read_text bytes fit is =
    let few : nat_lt 4194304 (length bytes) ≡ false = grind (arith, nat_tests) in
    ap (λ b. cond b (Err TooLarge) (cond (not (is_utf8 bytes)) (Err NotUtf8) (fill_of_text bytes))) few
    ∙ ap (λ b. cond (not b) (Err NotUtf8) (fill_of_text bytes)) is

pub read_no_text : (bytes : List ℕ) → length bytes ≤ 4194304 → is_utf8 bytes ≡ false
    → fill_of bytes ≡ Err NotUtf8
read_no_text bytes fit is =
    let few : nat_lt 4194304 (length bytes) ≡ false = grind (arith, nat_tests) in
    ap (λ b. cond b (Err TooLarge) (cond (not (is_utf8 bytes)) (Err NotUtf8) (fill_of_text bytes))) few
    ∙ ap (λ b. cond (not b) (Err NotUtf8) (fill_of_text bytes)) is
