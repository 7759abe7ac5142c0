-- Codes that are joined by one blank.
use Rattle.std.proofs.Common.{◌≡◌, ℕ, suc, ◌+◌, ◌<◌, List, [], ◌∷◌, ◌++◌, length, get_or, drop}
use Rattle.std.proofs.Common.{drop-cons, Some, None, sym, ap, ◌∙◌, append-nil, add-one, Bor}
use Rattle.std.specs.Prelude.{Option, true, false, ◌==◌, take}
use Rattle.std.specs.Cmp.Lexicographic.{pointwise}
use Rattle.std.specs.List.{flat_map, join_with_byte}
use Rattle.std.specs.Option.{MatchOption, option_copied}
use Rattle.std.proofs.lemmas.Bool.Decides.{Decides-eqb}
use Rattle.std.proofs.lemmas.List.Concat.{flat_map-cons}
use Rattle.std.proofs.lemmas.Slice.Eq.{strip_prefix_is}
use Rattle.desk_audit_texts.specs.Left.{IsLeft}

pub prefix_left : (s p : List ℕ) (left : Option (Bor (List ℕ)))
    → MatchOption left (pointwise (λ a b. a == b) (take (length p) s) p ≡ false)
    (λ x. (pointwise (λ a b. a == b) (take (length p) s) p ≡ true) × (x.now ≡ drop (length p) s)
    × (length x.now + length p ≡ length s))
    → IsLeft s p (option_copied left)
prefix_left s p None m = strip_prefix_is Decides-eqb s p None m
prefix_left s p (Some x) m = strip_prefix_is Decides-eqb s p (Some x) m

-- codes, each with a blank before it
abbrev pub led : List (List ℕ) → List ℕ
led codes = flat_map (λ code. 32 ∷ code) codes

pub led_by : (code : List ℕ) (codes : List (List ℕ)) (i : ℕ) → i < length codes
    → code ≡ get_or codes i code
    → led (drop i codes) ≡ (32 ∷ code) ++ led (drop (i + 1) codes)
led_by code codes i within is =
    let split : drop i codes ≡ code ∷ drop (i + 1) codes =
    rw add-one (drop-cons codes i code within ∙ ap (λ c. c ∷ drop (suc i) codes) (sym is)) in
    rw split (flat_map-cons (λ code. 32 ∷ code) code (drop (i + 1) codes))

pub join_led : (code : List ℕ) (codes : List (List ℕ))
    → join_with_byte 32 (code ∷ codes) ≡ code ++ led codes
join_led code [] = sym (append-nil code)
join_led code (next ∷ codes) =
    ap (λ l. code ++ (32 ∷ l)) (join_led next codes)
    ∙ ap (λ l. code ++ l) (sym (flat_map-cons (λ code. 32 ∷ code) next codes))
