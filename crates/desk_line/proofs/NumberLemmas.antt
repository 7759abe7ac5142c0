-- What `clap` reads as a number is the number that the digits of the value write.
use Rattle.std.proofs.Common.{◌≡◌, ◌<◌, ◌^◌, ℕ, Bool, true, false, List, [], ◌∷◌, length, Option}
use Rattle.std.proofs.Common.{Some, None, Ok, Err, refl, sym, ap, ◌∙◌}
use Rattle.std.specs.Prelude.{nat_lt, option_and_then, ◌&&◌, Result}
use Rattle.std.specs.List.{list_all}
use Rattle.std.specs.Result.{result_ok}
use Rattle.std.specs.Char.{digit_value}
use Rattle.std.specs.Str.Parse.{AllDigits, IsNumeral, ParsesUnsigned, digits_value, without_leading_plus}
use Rattle.std.proofs.lemmas.Bool.{lt-ltb, ltb-true}
use Rattle.clap.specs.declared.parser.matches.Found.{Found}
use Rattle.clap.specs.Words.{ReadsOne, one_text, rows_of}
use Rattle.clap.proofs.WalkLemmas.{one_text-rows}
use Rattle.desk_line.specs.Numbers.{is_digit, number_of, number_written}
use Rattle.desk_line.specs.Calls.{number_in}

digits_test : (digits : List ℕ) → AllDigits 10 digits → list_all is_digit digits ≡ true
digits_test [] all = refl
digits_test (digit ∷ more) all = rw (lt-ltb (digit_value digit) 10 all.0) (digits_test more all.1)

digits_of_test : (digits : List ℕ) → list_all is_digit digits ≡ true → AllDigits 10 digits
digits_of_test [] test = tt
digits_of_test (digit ∷ more) test = go (is_digit digit) refl test (digits_of_test more)
  where
    go : (first : Bool) → is_digit digit ≡ first → (first && list_all is_digit more) ≡ true
        → (list_all is_digit more ≡ true → AllDigits 10 more) → AllDigits 10 (digit ∷ more)
    go true is rest behind = (ltb-true (digit_value digit) 10 is, behind rest)
    go false is rest behind = absurd (cc)

number_is : (bits : ℕ) (digits : List ℕ) → IsNumeral 10 digits → digits_value 10 digits < 2 ^ bits
    → number_of bits digits ≡ Some (digits_value 10 digits)
number_is bits digits numeral below =
    rw (
      lt-ltb 0 (length digits) numeral.0,
      digits_test digits numeral.1,
      lt-ltb (digits_value 10 digits) (2 ^ bits) below,
    ) refl

number_is_not : (bits : ℕ) (digits : List ℕ)
    → ¬ (IsNumeral 10 digits × (digits_value 10 digits < 2 ^ bits)) → number_of bits digits ≡ None
number_is_not bits digits not_one = go (nat_lt 0 (length digits)) refl (list_all is_digit digits)
    refl (nat_lt (digits_value 10 digits) (2 ^ bits)) refl
  where
    go : (a : Bool) → nat_lt 0 (length digits) ≡ a → (b : Bool) → list_all is_digit digits ≡ b
        → (c : Bool) → nat_lt (digits_value 10 digits) (2 ^ bits) ≡ c
        → number_of bits digits ≡ None
    go true is_a true is_b true is_c =
        absurd (not_one (
          (ltb-true 0 (length digits) is_a, digits_of_test digits is_b),
          ltb-true (digits_value 10 digits) (2 ^ bits) is_c,
        ))
    go true is_a true is_b false is_c = rw (is_a, is_b, is_c) refl
    go true is_a false is_b c is_c = rw (is_a, is_b) refl
    go false is_a b is_b c is_c = rw is_a refl

pub number_read : {E : Type 0} (bits : ℕ) (text : List ℕ) (gives : List ℕ → Result ℕ E → Type 0)
    (found : Option ℕ)
    → ((t : List ℕ) (r : Result ℕ E) → gives t r → ParsesUnsigned bits 10 t r)
    → ReadsOne gives text found → found ≡ number_written bits text
number_read bits text gives (Some number) parses reads =
    let is = parses text (Ok number) reads in
    ap Some is.1 ∙ sym (number_is bits (without_leading_plus text) is.0.0 is.0.1)
number_read bits text gives None parses reads =
    sym (number_is_not bits (without_leading_plus text) (parses text (Err reads.0) reads.1))

pub number_found : {E : Type 0} (bits : ℕ) (all : Found) (id : List ℕ)
    (gives : List ℕ → Result ℕ E → Type 0) (found : Option ℕ)
    → ((t : List ℕ) (r : Result ℕ E) → gives t r → ParsesUnsigned bits 10 t r)
    → (one_text all id ≡ None → found ≡ None)
    → ((t : List ℕ) → one_text all id ≡ Some t → ReadsOne gives t found)
    → found ≡ number_in bits id (rows_of all)
number_found bits all id gives found parses none some = go (one_text all id) refl
  where
    go : (text : Option (List ℕ)) → one_text all id ≡ text → found ≡ number_in bits id (rows_of all)
    go None is = none is ∙ ap (option_and_then (number_written bits))
        (sym is ∙ one_text-rows all id)
    go (Some text) is = number_read bits text gives found parses (some text is)
        ∙ ap (option_and_then (number_written bits)) (sym is ∙ one_text-rows all id)

pub number_parsed : {E : Type 0} (bits : ℕ) (text : List ℕ) (gives : List ℕ → Result ℕ E → Type 0)
    (r : Result ℕ E)
    → ((t : List ℕ) (r : Result ℕ E) → gives t r → ParsesUnsigned bits 10 t r) → gives text r
    → result_ok r ≡ number_written bits text
number_parsed bits text gives (Ok number) parses reads = number_read bits text gives (Some number)
    parses reads
number_parsed bits text gives (Err error) parses reads = number_read bits text gives None parses
    (error, reads)
