-- What a reader gives up to a limit.
use Rattle.std.proofs.Common.{◌≡◌, ℕ, ◌∙◌, ◌<◌, ◌≤◌, List, [], ◌++◌, Option, Some, None, ap, arith}
use Rattle.std.proofs.Common.{length, min, subst, take, take_all}
use Rattle.std.proofs.lemmas.List.{length-take, take-take}
use Rattle.std.specs.Prelude.{IfSome}
use Rattle.std.specs.Option.{option_map}
use Rattle.std.specs.Io.Take.{take_inner, take_limit, take_remaining}
use Rattle.std.specs.Str.{IsUtf8}
use Rattle.std.specs.declared.io.traits.Take.{Take}
use Rattle.desk_import.specs.Inputs.{IsLastStart, IsTextRead, input_of}
use Rattle.desk_import.proofs.Cuts.{text_stays}

given : (known : Option (List ℕ)) (start items : List ℕ) → start ≡ []
    → IfSome (option_map (take 67108865) known) (λ xs. items ≡ start ++ xs)
    → IfSome known (λ all. items ≡ input_of all)
given None start items e h = tt
given (Some all) start items e h = h ∙ ap (λ s. s ++ take 67108865 all) e

-- the bytes of a reader up to the limit are what is read of an input
pub read_up_to : {R : Type 0} (remaining : R → Option (List ℕ)) (t : Take R) (reader : R)
    (start items : List ℕ) → take_limit t ≡ 67108865 → take_inner t ≡ reader → start ≡ []
    → IfSome (take_remaining remaining t) (λ xs. items ≡ start ++ xs)
    → IfSome (remaining reader) (λ all. items ≡ input_of all)
read_up_to remaining t reader start items limit inner e h =
    let P = λ (xs : List ℕ). items ≡ start ++ xs in
    let at_limit = subst (λ n. IfSome (option_map (take n) (remaining t.inner)) P) limit h in
    given (remaining reader) start items e
    (subst (λ r. IfSome (option_map (take 67108865) (remaining r)) P) inner at_limit)

length-input_of : (all read : List ℕ) → read ≡ input_of all
    → length read ≡ min 67108865 (length all)
length-input_of all read e = ap length e ∙ length-take 67108865 all

-- a text of which no more than 64 MiB are read is read whole
pub read_whole : (known : Option (List ℕ)) (read bytes : List ℕ) → length read ≤ 67108864
    → bytes ≡ read → IfSome known (λ all. read ≡ input_of all)
    → IfSome known (λ all. IsTextRead all bytes)
read_whole None read bytes few same is = tt
read_whole (Some all) read bytes few same is =
    let long = length-input_of all read is in
    let short : length all ≤ 67108865 = omega (arith, few, long) in (
      (λ _. same ∙ is ∙ take_all 67108865 all short),
      (λ more. absurd (omega (arith, few, long, more))),
    )

-- of a larger one the last character is left out
pub read_cut : (known : Option (List ℕ)) (read bytes : List ℕ) (start : ℕ)
    → 67108864 < length read → IsLastStart read start → bytes ≡ take start read
    → IfSome known (λ all. read ≡ input_of all)
    → IfSome known (λ all. IsTextRead all bytes)
read_cut None read bytes start many last same is = tt
read_cut (Some all) read bytes start many last same is =
    let long = length-input_of all read is in
    let inside = last.inside in
    let within : start ≤ 67108865 = omega (arith, inside, long) in (
      (λ few. absurd (omega (arith, many, long, few))),
      (λ _. (
        start,
        subst (λ l. IsLastStart l start) is last,
        same ∙ ap (take start) is ∙ take-take start 67108865 all within,
      )),
    )

pub if_text : (known : Option (List ℕ)) (bytes : List ℕ)
    → IfSome known (λ all. IsTextRead all bytes)
    → IfSome known (λ all. IsUtf8 all → IsUtf8 bytes)
if_text None bytes it = tt
if_text (Some all) bytes it = text_stays all bytes it
