-- A written day is text: digits and hyphens are ASCII.
use Rattle.std.proofs.Common.{◌≡◌, ℕ, ◌<◌, List, [], ◌∷◌, length, true, arith, IsUtf8}
use Rattle.std.specs.Prelude.{IsTrue, ◌==◌, nat_lt}
use Rattle.std.specs.List.{list_all}
use Rattle.std.proofs.lemmas.Bool.{and_parts}
use Rattle.std.proofs.lemmas.Bool.Decides.{nat_tests}
use Rattle.std.proofs.lemmas.Str.{IsUtf8-from_ascii}
use Rattle.desk_base.specs.Day.{is_day, writes_day}
use Rattle.desk_base.proofs.Texts.{are_ascii}

-- a written day has digits and hyphens alone
day_of_ten : (y e a r f m n s d c : ℕ) → writes_day y e a r f m n s d c ≡ true
    → list_all (λ b. nat_lt b 128) (y ∷ e ∷ a ∷ r ∷ f ∷ m ∷ n ∷ s ∷ d ∷ c ∷ []) ≡ true
day_of_ten y e a r f m n s d c is = grind (arith, nat_tests)

is_ten : (n : ℕ) → (n == 10) ≡ true → n ≡ 10
is_ten n is = grind (arith, nat_tests)

pub ten_bytes : (day : List ℕ) → IsTrue (is_day day) → length day ≡ 10
ten_bytes day is = is_ten (length day) (and_parts (length day == 10) _ is).0

pub written_day_is_text : (day : List ℕ) → IsTrue (is_day day) → IsUtf8 day
written_day_is_text (y ∷ e ∷ a ∷ r ∷ f ∷ m ∷ n ∷ s ∷ d ∷ c ∷ []) is = IsUtf8-from_ascii
    (y ∷ e ∷ a ∷ r ∷ f ∷ m ∷ n ∷ s ∷ d ∷ c ∷ [])
    (are_ascii (y ∷ e ∷ a ∷ r ∷ f ∷ m ∷ n ∷ s ∷ d ∷ c ∷ []) (day_of_ten y e a r f m n s d c is))
written_day_is_text (y ∷ e ∷ a ∷ r ∷ f ∷ m ∷ n ∷ s ∷ d ∷ c ∷ x ∷ more) is =
    let ten = ten_bytes (y ∷ e ∷ a ∷ r ∷ f ∷ m ∷ n ∷ s ∷ d ∷ c ∷ x ∷ more) is in
    absurd (omega arith)
written_day_is_text _ is = absurd (cc)
