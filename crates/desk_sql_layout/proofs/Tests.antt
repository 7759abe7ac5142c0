-- What the tests of a query say about the cells of a row.
use Rattle.std.proofs.Common.{◌≡◌, ℕ, Bool, true, List, [], ◌∷◌, ap, ap₂, ◌∙◌}
use Rattle.std.specs.Prelude.{◌&&◌, ◌==◌, bytes_eq}
use Rattle.std.proofs.lemmas.Bool.{and_parts}
use Rattle.std.proofs.Math.Bool.{and-true}
use Rattle.desk_base.proofs.Numbers.{numbers_equal}
use Rattle.desk_base.proofs.Texts.{texts_equal}
use Rattle.sqlite_value.specs.declared.keys.Collation.TheVariants.{Binary}
use Rattle.sqlite_value.specs.declared.value.Value.{Value}
use Rattle.sqlite_value.specs.declared.value.Value.TheVariants.{Text}
use Rattle.sqlite_value.specs.Order.{Row, column}
use Rattle.sqlite_sql.specs.declared.ops.BinaryOp.TheVariants.{Compare}
use Rattle.sqlite_sql.specs.declared.ops.CompareOp.TheVariants.{Eq}
use Rattle.sqlite_sql.specs.Ops.{binary, is_true}
use Rattle.desk_sql_layout.specs.Cells.{number}
use Rattle.desk_sql_layout.proofs.Casts.{int_test, text_test}

-- each of these columns equals a value
abbrev pub equals : List (ℕ × Value) → Row → Bool
equals [] cs = true
equals ((at, value) ∷ more) cs = is_true (binary (Compare Eq Binary) (column cs at) value)
    && equals more cs

-- ---- the last test, and those before it

pub number_test : (a b : ℕ) → (is_true (binary (Compare Eq Binary) (number a) (number b)) && true)
    ≡ (a == b)
number_test a b = and-true _ ∙ int_test a b

pub last_text_test : (a b : List ℕ)
    → (is_true (binary (Compare Eq Binary) (Text a) (Text b)) && true) ≡ bytes_eq a b
last_text_test a b = and-true _ ∙ text_test a b

pub number_then : (a b : ℕ) {rest more : Bool} → rest ≡ more
    → (is_true (binary (Compare Eq Binary) (number a) (number b)) && rest) ≡ ((a == b) && more)
number_then a b is = ap₂ (λ x y. x && y) (int_test a b) is

pub text_then : (a b : List ℕ) {rest more : Bool} → rest ≡ more
    → (is_true (binary (Compare Eq Binary) (Text a) (Text b)) && rest) ≡ (bytes_eq a b && more)
text_then a b is = ap₂ (λ x y. x && y) (text_test a b) is

-- ---- rows that pass have the same key

pub number_key : (a b : ℕ) → (a == b) ≡ true → (number a ∷ []) ≡ (number b ∷ [])
number_key a b same = ap (λ n. number n ∷ []) (numbers_equal a b same)

pub text_key : (a b : List ℕ) → bytes_eq a b ≡ true → (Text a ∷ []) ≡ (Text b ∷ [])
text_key a b same = ap (λ text. Text text ∷ []) (texts_equal a b same)

pub number_text_key : (a b : ℕ) (s t : List ℕ) → ((a == b) && bytes_eq s t) ≡ true
    → (number a ∷ Text s ∷ []) ≡ (number b ∷ Text t ∷ [])
number_text_key a b s t same =
    let parts = and_parts (a == b) (bytes_eq s t) same in
    ap₂ (λ n text. number n ∷ Text text ∷ []) (numbers_equal a b parts.0) (texts_equal s t parts.1)
