-- A head ends with LF.
use Rattle.std.proofs.Common.{◌≡◌, ℕ, ◌+◌, ◌<◌, ◌≤◌, ◌++◌, ◌∷◌, ◌⊎◌, List, [], length, drop, inl}
use Rattle.std.proofs.Common.{inr, subst, refl, sym, ap, ◌∙◌, arith, append_assoc, length-append}
use Rattle.std.specs.Prelude.{◌≢◌, All}
use Rattle.std.specs.List.{flat_map}
use Rattle.std.specs.Prelude.{Bool, true, false, nat_le}
use Rattle.std.proofs.lemmas.Bool.{leb-true, leb-false, eqb-true, and_parts, or_cases}
use Rattle.std.proofs.lemmas.List.Elements.{All-head, All-tail}
use Rattle.httparse.specs.Ascii.{space}
use Rattle.httparse.specs.Grammar.{LineEnd, crlf, lf, print_end, print_blank, print_version}
use Rattle.httparse.specs.Grammar.{print_field, RequestHead, print_request}
use Rattle.httparse.specs.Grammar.{is_token_byte, IsToken}
use Rattle.httparse.proofs.GrammarLemmas.{print_request-append}
use Rattle.std.proofs.lemmas.List.Folds.{list_all-append}
use Rattle.std.specs.List.{list_all}
use Rattle.std.specs.Prelude.{◌==◌}
use Rattle.desk_http_head.specs.Heads.{BeginsWith, HasNoHead, AreLineEnds, is_line_byte}
use Rattle.desk_http_head.proofs.Stability.{BeginsWith-less}

end_by_lf : (end : LineEnd) → (front : List ℕ) × (print_end end ≡ front ++ 10 ∷ [])
end_by_lf crlf = (13 ∷ [], refl)
end_by_lf lf = ([], refl)

pub print_by_lf : (h : RequestHead) → (front : List ℕ) × (print_request h ≡ front ++ 10 ∷ [])
unfolding print_request
print_by_lf h =
    let start : List ℕ = print_blank h.blank ++ h.method ++ space ∷ h.target ++ space
    ∷ print_version h.minor ++ print_end h.line_end in
    let fields : List ℕ = flat_map print_field h.fields in
    let last = end_by_lf h.last in (
      (start ++ fields) ++ last.0,
      sym (append_assoc start fields (print_end h.last))
          ∙ (ap (λ (l : List ℕ). (start ++ fields) ++ l) last.1
          ∙ sym (append_assoc (start ++ fields) last.0 (10 ∷ []))),
    )

-- an LF that isn't in the front is in the rest
lf_past : (front rest before after : List ℕ) → front ++ rest ≡ before ++ 10 ∷ after
    → length front ≤ length before → All (λ b. b ≢ 10) rest → ⊥
lf_past [] [] [] after e few none = cc
lf_past [] [] (b ∷ before) after e few none = cc
lf_past [] (r ∷ rest) [] after e few none = All-head (λ (b : ℕ). b ≢ 10) r rest none (cc)
lf_past [] (r ∷ rest) (b ∷ before) after e few none = lf_past [] rest before after (cc)
    (omega arith) (All-tail (λ (b : ℕ). b ≢ 10) r rest none)
lf_past (f ∷ front) rest [] after e few none = absurd (omega arith)
lf_past (f ∷ front) rest (b ∷ before) after e few none = lf_past front rest before after (cc)
    (omega arith) none

no_head-cases : (front piece : List ℕ) → HasNoHead front → All (λ b. b ≢ 10) piece
    → (h : RequestHead) (after : List ℕ) → BeginsWith (front ++ piece) h after
    → (fits : Bool) → nat_le (length (print_request h)) (length front) ≡ fits → ⊥
no_head-cases front piece none no_lf h after b true e =
    none h (drop (length (print_request h)) front)
    (BeginsWith-less front piece h after b (leb-true (length (print_request h)) (length front) e))
no_head-cases front piece none no_lf h after b false e =
    let ends = print_by_lf h in
    let long : length front < length (print_request h) =
    leb-false (length (print_request h)) (length front) e in
    let size : length (print_request h) ≡ length ends.0 + 1 = ap length ends.1
    ∙ length-append ends.0 (10 ∷ []) in
    lf_past front piece ends.0 after
    (b.reads.1 ∙ (ap (λ (l : List ℕ). l ++ after) ends.1 ∙ append_assoc ends.0 (10 ∷ []) after))
    (omega arith) no_lf

-- bytes without an LF complete no head
pub HasNoHead-line : (front piece : List ℕ) → HasNoHead front → All (λ b. b ≢ 10) piece
    → HasNoHead (front ++ piece)
HasNoHead-line front piece none no_lf h after b =
    no_head-cases front piece none no_lf h after b
    (nat_le (length (print_request h)) (length front)) refl

lf_or_token : is_token_byte 10 ≡ true → ⊥
unfolding is_token_byte
lf_or_token e = cc

cr_or_token : is_token_byte 13 ≡ true → ⊥
unfolding is_token_byte
cr_or_token e = cc

line_or_token : (b : ℕ) → ((b == 10) ≡ true) ⊎ ((b == 13) ≡ true) → is_token_byte b ≡ true → ⊥
line_or_token b (inl e) token = lf_or_token
    (subst (λ (x : ℕ). is_token_byte x ≡ true) (eqb-true b 10 e) token)
line_or_token b (inr e) token = cr_or_token
    (subst (λ (x : ℕ). is_token_byte x ≡ true) (eqb-true b 13 e) token)

blank_method : (method rest : List ℕ) → IsToken method → AreLineEnds (method ++ rest) → ⊥
blank_method [] rest token ends = absurd (omega arith)
blank_method (b ∷ bs) rest token ends =
    let first = (and_parts (is_line_byte b) (list_all is_line_byte (bs ++ rest)) ends).0 in
    line_or_token b (or_cases (b == 10) (b == 13) first)
    (All-head (λ (x : ℕ). is_token_byte x ≡ true) b bs token.1)

blank_part : (bytes before method rest : List ℕ) → bytes ≡ before ++ (method ++ rest)
    → AreLineEnds bytes → IsToken method → ⊥
blank_part bytes before method rest e ends token =
    blank_method method rest token
    (and_parts (list_all is_line_byte before) (list_all is_line_byte (method ++ rest))
    (sym (list_all-append is_line_byte before (method ++ rest)) ∙ subst AreLineEnds e ends)).1

-- only line ends are no head
pub HasNoHead-ends : (bytes : List ℕ) → AreLineEnds bytes → HasNoHead bytes
HasNoHead-ends bytes ends h after b =
    blank_part bytes (print_blank h.blank) h.method _ (b.reads.1 ∙ print_request-append h after)
    ends b.reads.0.method

-- line ends after line ends
pub AreLineEnds-append : (front piece : List ℕ) → AreLineEnds front → AreLineEnds piece
    → AreLineEnds (front ++ piece)
AreLineEnds-append front piece e f = list_all-append is_line_byte front piece ∙ (rw (e, f) refl)
