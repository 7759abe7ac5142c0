-- A text that is cut where its last character begins is a text.
use Rattle.std.proofs.Common.{◌≡◌, ◌∙◌, ℕ, ◌+◌, ◌-◌, ◌<◌, ◌≤◌, true, false, List, [], ◌∷◌}
use Rattle.std.proofs.Common.{inl, inr, ap, arith, length, slice_index, subst, sym, take}
use Rattle.std.proofs.Math.Seq.{take-append-add}
use Rattle.std.proofs.lemmas.Bool.{and_from, and_parts, cases_lt, cases_order, le-leb, leb-true}
use Rattle.std.proofs.lemmas.List.{get_or-take, length-append, length-take}
use Rattle.std.proofs.lemmas.Str.{IsCharBoundary-from_take, IsUtf8-append, IsUtf8-encode}
use Rattle.std.proofs.lemmas.Str.{IsUtf8-nil, IsUtf8-take, len_utf8_bounds, length-encode}
use Rattle.std.specs.Char.{IsScalar, encode_utf8}
use Rattle.std.specs.Str.{IsCharBoundary, IsUtf8, all_scalars, encode_utf8_all}
use Rattle.desk_import.specs.Inputs.{IsLastStart, IsTextRead, continues, input_of}

-- ---- a character has at most four bytes

-- a character of the text begins at this place, or at one of the three before it
abbrev IsNear : List ℕ → ℕ → Type 0
IsNear bs i = (j : ℕ) × (j ≤ i) × (i < j + 4) × IsUtf8 (take j bs)

near_in : (cs : List ℕ) → all_scalars cs ≡ true → (i : ℕ) → i ≤ length (encode_utf8_all cs)
    → IsNear (encode_utf8_all cs) i
near_in [] are i within = (0, omega arith, omega (arith, within), IsUtf8-nil)
near_in (c ∷ cs) are i within =
    let e = encode_utf8 c in
    let rest = encode_utf8_all cs in
    let parts : IsScalar c × (all_scalars cs ≡ true) = and_parts _ _ are in
    let few : length e ≤ 4 = omega (arith, length-encode c, (len_utf8_bounds c).1) in
    elim (cases_lt i (length e)) [
      | inl before ↦ (0, omega arith, omega (arith, before, few), IsUtf8-nil)
      | inr behind ↦
          let left : i - length e ≤ length rest =
          omega (arith, within, behind, length-append e rest) in
          let it = near_in cs parts.1 (i - length e) left in (
            length e + it.0,
            omega (arith, it.1, behind),
            omega (arith, it.2, behind),
            subst IsUtf8 (sym (take-append-add e rest it.0))
                (IsUtf8-append e (take it.0 rest) (IsUtf8-encode c parts.0) it.3),
          )
    ]

near : (bs : List ℕ) → IsUtf8 bs → (i : ℕ) → i ≤ length bs → IsNear bs i
near bs text i within = subst (λ b. IsNear b i) text.1.1
    (near_in text.0 text.1.0 i (omega (arith, within, ap length text.1.1)))

-- ---- where a character begins

leads : (byte : ℕ) → continues byte ≡ false → 128 ≤ byte → 192 ≤ byte
leads byte is from = elim (cases_lt byte 192) [
  | inl below ↦ absurd (let yes : continues byte ≡ true =
      and_from _ _ (le-leb 128 byte from) (le-leb byte 191 (omega (arith, below))) in
      let no = sym is ∙ yes in cc)
  | inr above ↦ above
]

begins_at : (bs : List ℕ) (i : ℕ) → i < length bs → continues (slice_index bs i) ≡ false
    → IsCharBoundary bs i
begins_at bs i within is = (omega (arith, within), λ _ from. leads (slice_index bs i) is from)

continues_at : (bs : List ℕ) (i : ℕ) → i < length bs → continues (slice_index bs i) ≡ true
    → IsCharBoundary bs i → ⊥
continues_at bs i within is begins =
    let parts = and_parts _ _ is in
    let from = leb-true 128 (slice_index bs i) parts.0 in
    let to = leb-true (slice_index bs i) 191 parts.1 in
    let above = begins.1 within from in
    omega (arith, to, above)

-- ---- the cut

cut_text : (all : List ℕ) (start : ℕ) → 67108864 < length all → IsLastStart (input_of all) start
    → IsUtf8 all → IsUtf8 (take start all)
cut_text all start more last text =
    let long = length-take 67108865 all in
    let inside = last.inside in
    let close = last.near in
    let it = near all text 67108864 (omega (arith, more)) in
    let begins = IsCharBoundary-from_take all it.0 text (omega (arith, more, it.1)) it.3 in
    let same = λ (i : ℕ) (below : i < 67108865). get_or-take 67108865 all i 0 below in
    elim last.begins [
      | inl is ↦ IsUtf8-take all start text (begins_at all start (omega (arith, inside, long, more))
          (ap continues (sym (same start (omega (arith, inside, long)))) ∙ is))
      | inr four ↦ elim (cases_order start it.0) [
        | inl at ↦ subst (λ n. IsUtf8 (take n all)) (sym at) it.3
        | inr (inl below) ↦ absurd (continues_at all it.0 (omega (arith, more, it.1))
            (ap continues (sym (same it.0 (omega (arith, it.1))))
            ∙ last.behind it.0 below (omega (arith, it.1, long, more))) begins)
        | inr (inr above) ↦ absurd (omega (arith, four, long, more, it.2, above))
      ]
    ]

pub text_stays : (all bytes : List ℕ) → IsTextRead all bytes → IsUtf8 all → IsUtf8 bytes
text_stays all bytes it text = elim (cases_lt 67108864 (length all)) [
  | inl more ↦ let cut = it.1 more in
      subst IsUtf8 (sym cut.2) (cut_text all cut.0 more cut.1 text)
  | inr few ↦ subst IsUtf8 (sym (it.0 few)) text
]
