-- The digits of a digest are read.
use Rattle.std.proofs.Common.{◌≡◌, ◌∙◌, ℕ, ◌/◌, ◌%◌, ◌<◌, List, [], ◌∷◌, ◌++◌, length, get_or, ap}
use Rattle.std.proofs.Common.{refl, arith, Bool, true, false, cond, Some, None}
use Rattle.std.specs.Prelude.{codes, All, IsTrue, ◌&&◌, ◌==◌}
use Rattle.std.specs.List.{list_all}
use Rattle.std.proofs.lemmas.List.Elements.{All-get_or, All-tail}
use Rattle.std.proofs.lemmas.Bool.Decides.{nat_tests}
use Rattle.desk_base.proofs.Lists.{test_all}
use Rattle.hex.specs.Hex.{encode_with, encode_lower, lower_digits}
use Rattle.hex.proofs.HexLemmas.{length-encode_with}
use Rattle.desk_tagvalue.specs.Parts.{is_hex, is_sha1, sha1_digits}

digit_hex : (n : ℕ) → n < 16 → is_hex (get_or lower_digits n 0) ≡ true
digit_hex n lt = All-get_or (λ b. IsTrue (is_hex b)) lower_digits n 0 lt
    (test_all is_hex lower_digits refl)

both_hex : (a b c : Bool) → a ≡ true → b ≡ true → c ≡ true → (a && (b && c)) ≡ true
both_hex true true true h k l = refl
both_hex false b c h k l = absurd cc
both_hex true false c h k l = absurd cc
both_hex true true false h k l = absurd cc

pub all_hex : (xs : List ℕ) → All (λ b. b < 256) xs → list_all is_hex (encode_lower xs) ≡ true
unfolding encode_with
all_hex [] h = refl
all_hex (x ∷ xs) h =
    let small : x < 256 = All-get_or (λ b. b < 256) (x ∷ xs) 0 0 (omega arith) h in
    both_hex (is_hex (get_or lower_digits (x / 16) 0)) (is_hex (get_or lower_digits (x % 16) 0))
    (list_all is_hex (encode_lower xs))
    (digit_hex (x / 16) (omega arith)) (digit_hex (x % 16) (omega arith))
    (all_hex xs (All-tail (λ b. b < 256) x xs h))

pub digest_read : (digest : List ℕ) → length digest ≡ 20 → All (λ b. b < 256) digest
    → sha1_digits (codes "SHA1: " ++ encode_lower digest) ≡ Some (encode_lower digest)
digest_read digest twenty bytes =
    let text = encode_lower digest in
    let forty = length-encode_with lower_digits digest in
    let sized : (length (codes "SHA1: " ++ text) == 46) ≡ true = grind (arith, nat_tests) in
    let fits : is_sha1 (codes "SHA1: " ++ text) ≡ true = ap (λ v. v && list_all is_hex text) sized
    ∙ all_hex digest bytes in
    ap (λ v. cond v (Some text) None) fits
