-- What a column makes of a value of its own kind, and how a test of equality compares values.
use Rattle.std.proofs.Common.{◌≡◌, ℕ, ℤ, pos, Bool, true, false, cond, List, [], ◌∷◌, Option, Some}
use Rattle.std.proofs.Common.{None, refl, ap, ◌∙◌, arith}
use Rattle.std.specs.Prelude.{◌&&◌, ◌==◌, nat_le, bytes_eq}
use Rattle.std.proofs.lemmas.Bool.Decides.{nat_tests}
use Rattle.std.proofs.lemmas.Int.{ints}
use Rattle.std.proofs.lemmas.Map.Text.{is_eq-slice_cmp}
use Rattle.std.proofs.Math.Bool.{and-true}
use Rattle.std.specs.Cmp.Lexicographic.{slice_cmp}
use Rattle.std.specs.Ordering.{is_eq, is_ge, is_le, int_cmp, nat_cmp}
use Rattle.sqlite_value.specs.declared.keys.Collation.TheVariants.{Binary}
use Rattle.sqlite_value.specs.declared.value.Value.TheVariants.{Null, Int, Text}
use Rattle.sqlite_value.specs.declared.value.Value.{Value}
use Rattle.sqlite_value.proofs.OrderLemmas.{value_cmp-Int, value_cmp-Text}
use Rattle.sqlite_sql.specs.declared.ops.BinaryOp.TheVariants.{Compare}
use Rattle.sqlite_sql.specs.declared.ops.CompareOp.TheVariants.{Eq, Ge, Le}
use Rattle.sqlite_sql.specs.Ops.{unary, binary, is_true, from_truth}
use Rattle.sqlite_sql.specs.Term.{Term, col, op2}
use Rattle.sqlite_schema.specs.declared.schema.Kind.TheVariants.{Integer, Text as Words}
use Rattle.sqlite_rules.specs.Cast.{cast}
use Rattle.desk_sql_layout.specs.Cells.{text_or_null}

pub truth_is : (b : Bool) → is_true (from_truth (Some b)) ≡ b
truth_is true = refl
truth_is false = refl

either : (b : Bool) (x : Value) → cond b x x ≡ x
either true x = refl
either false x = refl

pub cast_null : cast Integer Null ≡ Null
unfolding unary
cast_null = either _ Null

pub cast_int : (n : ℤ) → cast Integer (Int n) ≡ Int n
unfolding unary
cast_int n = either _ (Int n)

pub cast_text : (text : Option (List ℕ)) → cast Words (text_or_null text) ≡ text_or_null text
cast_text None = refl
cast_text (Some text) = refl

int_is_eq : (a b : ℕ) → is_eq (int_cmp (pos a) (pos b)) ≡ (a == b)
int_is_eq a b = grind (arith, ints, nat_tests)

pub int_test : (a b : ℕ) → is_true (binary (Compare Eq Binary) (Int (pos a)) (Int (pos b)))
    ≡ (a == b)
unfolding binary
int_test a b = rw (value_cmp-Int (pos a) (pos b))
    (truth_is (is_eq (int_cmp (pos a) (pos b))) ∙ int_is_eq a b)

pub text_test : (a b : List ℕ)
    → is_true (binary (Compare Eq Binary) (Text a) (Text b)) ≡ bytes_eq a b
unfolding binary
text_test a b = rw (value_cmp-Text a b)
    (truth_is (is_eq (slice_cmp nat_cmp a b)) ∙ is_eq-slice_cmp a b)

-- a column equals a parameter
abbrev pub same : ℕ → ℕ → Term
same at param = op2 (Compare Eq Binary) (col 1 at) (col 0 param)

int_is_ge : (a b : ℕ) → is_ge (int_cmp (pos a) (pos b)) ≡ nat_le b a
int_is_ge a b = grind (arith, ints, nat_tests)

int_is_le : (a b : ℕ) → is_le (int_cmp (pos a) (pos b)) ≡ nat_le a b
int_is_le a b = grind (arith, ints, nat_tests)

ge_test : (a b : ℕ) → is_true (binary (Compare Ge Binary) (Int (pos a)) (Int (pos b))) ≡ nat_le b a
unfolding binary
ge_test a b = rw (value_cmp-Int (pos a) (pos b))
    (truth_is (is_ge (int_cmp (pos a) (pos b))) ∙ int_is_ge a b)

le_test : (a b : ℕ) → is_true (binary (Compare Le Binary) (Int (pos a)) (Int (pos b))) ≡ nat_le a b
unfolding binary
le_test a b = rw (value_cmp-Int (pos a) (pos b))
    (truth_is (is_le (int_cmp (pos a) (pos b))) ∙ int_is_le a b)

-- a number is in a range
pub run_test : (first last n : ℕ)
    → (is_true (binary (Compare Ge Binary) (Int (pos n)) (Int (pos first)))
    && (is_true (binary (Compare Le Binary) (Int (pos n)) (Int (pos last))) && true))
    ≡ (nat_le first n && nat_le n last)
run_test first last n = (λ i. ge_test n first i && (le_test n last i && true))
    ∙ ap (λ b. nat_le first n && b) (and-true (nat_le n last))

-- a column is a number in the range from one parameter to the next
abbrev pub within : ℕ → List Term
within at = op2 (Compare Ge Binary) (col 1 at) (col 0 0)
    ∷ op2 (Compare Le Binary) (col 1 at) (col 0 1) ∷ []
