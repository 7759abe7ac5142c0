-- What was found is a piece.
use Rattle.std.proofs.Common.{◌≡◌, ◌≢◌, ◌∙◌, ℕ, suc, ◌+◌, ◌-◌, ◌<◌, List, [], ◌∷◌, ◌++◌, length}
use Rattle.std.proofs.Common.{get_or, take, drop, sym, ap, refl, arith, Bool, true, false, cond}
use Rattle.std.proofs.Common.{append_assoc, length-append, take-append-drop}
use Rattle.std.specs.Prelude.{codes}
use Rattle.std.specs.List.{prefix_len}
use Rattle.std.proofs.lemmas.List.Elements.{All-get_or, All-from_get_or}
use Rattle.std.proofs.Math.ListN.{get_or-append}
use Rattle.std.proofs.Math.Seq.{get_or-append_right}
use Rattle.desk_base.specs.declared.lines.LineEnd.{LineEnd}
use Rattle.desk_base.specs.declared.lines.LineEnd.TheVariants.{Lf, CrLf, Nothing}
use Rattle.desk_base.specs.Lines.{Ends}
use Rattle.desk_fields.specs.Text.{skip_blanks}
use Rattle.desk_fields.specs.Pieces.{text, bytes_of, opened, AllBlank, NoLf}
use Rattle.desk_base.specs.Bytes.{is_blank}

pub ends_append : (f l : List ℕ) (e : LineEnd) (r : List ℕ) → 0 < length l → Ends l e r
    → Ends (f ++ l) e r
ends_append f l Lf r some h =
    let len = length-append f l in
    let at : length (f ++ l) - 1 - length f ≡ length l - 1 = omega arith in
    λ is. h (ap (λ i. get_or l i 0) (sym at)
    ∙ sym (get_or-append_right f l (length (f ++ l) - 1) 0 (omega arith)) ∙ is)
ends_append f l CrLf r some h = tt
ends_append f l Nothing r some h = (h.0, let len = length-append f l in omega arith)

close_end : (tail : List ℕ) (e : LineEnd) (r : List ℕ) → Ends tail e r → Ends (62 ∷ tail) e r
close_end [] Lf r h = λ is. omega (arith, is)
close_end (b ∷ bs) Lf r h = ends_append (62 ∷ []) (b ∷ bs) Lf r (omega arith) h
close_end tail CrLf r h = tt
close_end tail Nothing r h = (h.0, omega arith)

pub ends_closed : (front gap value tail : List ℕ) (e : LineEnd) (r : List ℕ) → Ends tail e r
    → Ends (bytes_of (text front gap value tail)) e r
ends_closed front gap value tail e r h =
    let a : Ends (codes "</text>" ++ tail) e r =
    ends_append (60 ∷ 47 ∷ 116 ∷ 101 ∷ 120 ∷ 116 ∷ []) (62 ∷ tail) e r (omega arith)
    (close_end tail e r h) in
    let b = ends_append value (codes "</text>" ++ tail) e r (omega arith) a in
    let c = ends_append (codes "<text>") (value ++ (codes "</text>" ++ tail)) e r
    (let len = length-append value (codes "</text>" ++ tail) in omega arith) b in
    let d = ends_append gap (codes "<text>" ++ (value ++ (codes "</text>" ++ tail))) e r
    (omega arith) c in
    let f = ends_append (58 ∷ []) (gap ++ (codes "<text>" ++ (value ++ (codes "</text>" ++ tail))))
    e r (let len = length-append gap (codes "<text>" ++ (value ++ (codes "</text>" ++ tail))) in
    omega arith) d in
    ends_append front (58 ∷ (gap ++ (codes "<text>" ++ (value ++ (codes "</text>" ++ tail))))) e r
    (omega arith) f

pub last_closed : (front gap value : List ℕ) → Ends (bytes_of (text front gap value [])) Nothing []
last_closed front gap value = (
  refl,
  let len = length-append front (58 ∷ (gap ++ (codes "<text>" ++ (value ++ codes "</text>")))) in
      omega arith,
)

pub text_cut : (whole front gap inner value more tail rest : List ℕ)
    → whole ≡ opened front gap inner → inner ≡ value ++ (codes "</text>" ++ more)
    → more ≡ tail ++ rest → whole ≡ bytes_of (text front gap value tail) ++ rest
text_cut whole front gap inner value more tail rest a b c =
    a ∙ ap (opened front gap) (b ∙ ap (λ l. value ++ (codes "</text>" ++ l)) c)
    ∙ simp append_assoc refl

pub front_no_lf : (body front behind : List ℕ) → NoLf body → body ≡ front ++ (58 ∷ behind)
    → NoLf front
front_no_lf body front behind h e =
    All-from_get_or (λ b. b ≢ 10) front 0 (λ i lt is.
    let len = ap length e ∙ length-append front (58 ∷ behind) in
    All-get_or (λ b. b ≢ 10) body i 0 (omega arith) h
    (ap (λ l. get_or l i 0) e ∙ get_or-append front (58 ∷ behind) 0 i lt ∙ is))

pub behind_no_lf : (body front behind : List ℕ) → NoLf body → body ≡ front ++ (58 ∷ behind)
    → NoLf behind
behind_no_lf body front behind h e =
    All-from_get_or (λ b. b ≢ 10) behind 0 (λ i lt is.
    let len = ap length e ∙ length-append front (58 ∷ behind) in
    let at : length front + suc i - length front ≡ suc i = omega arith in
    All-get_or (λ b. b ≢ 10) body (length front + suc i) 0 (omega arith) h
    (ap (λ l. get_or l (length front + suc i) 0) e
    ∙ get_or-append_right front (58 ∷ behind) (length front + suc i) 0 (omega arith)
    ∙ ap (λ k. get_or (58 ∷ behind) k 0) at ∙ is))

-- the blanks at the front
abbrev pub gap_of : List ℕ → List ℕ
gap_of xs = take (prefix_len is_blank xs) xs

pub drop_next : (n b : ℕ) (xs : List ℕ) → drop (1 + n) (b ∷ xs) ≡ drop n xs
drop_next n b xs = let e : 1 + n ≡ suc n = omega arith in ap (λ k. drop k (b ∷ xs)) e

take_next : (n b : ℕ) (xs : List ℕ) → take (1 + n) (b ∷ xs) ≡ b ∷ take n xs
take_next n b xs = let e : 1 + n ≡ suc n = omega arith in ap (λ k. take k (b ∷ xs)) e

pub blank_cons : (b : ℕ) (xs : List ℕ) → is_blank b ≡ true → skip_blanks (b ∷ xs) ≡ skip_blanks xs
blank_cons b xs h = ap (λ v. drop (cond v (1 + prefix_len is_blank xs) 0) (b ∷ xs)) h
    ∙ drop_next (prefix_len is_blank xs) b xs

pub gap_blank : (xs : List ℕ) → AllBlank (gap_of xs)
gap_blank [] = refl
gap_blank (b ∷ xs) =
    let cases : (v : Bool) → is_blank b ≡ v → AllBlank (gap_of (b ∷ xs)) =
    λ v. elim v as (λ v. is_blank b ≡ v → AllBlank (gap_of (b ∷ xs))) [
      | true ↦ λ h.
          let step : gap_of (b ∷ xs) ≡ b ∷ gap_of xs =
          ap (λ w. take (cond w (1 + prefix_len is_blank xs) 0) (b ∷ xs)) h
          ∙ take_next (prefix_len is_blank xs) b xs in
          ap (λ l. length (skip_blanks l)) step ∙ ap length (blank_cons b (gap_of xs) h)
          ∙ gap_blank xs
      | false ↦ λ h.
          let step : gap_of (b ∷ xs) ≡ [] =
          ap (λ w. take (cond w (1 + prefix_len is_blank xs) 0) (b ∷ xs)) h in
          ap (λ l. length (skip_blanks l)) step
    ] in
    cases (is_blank b) refl

-- a value that begins with <text>, after its gap
pub opening_cut : (body front after inner : List ℕ) → body ≡ front ++ (58 ∷ after)
    → skip_blanks after ≡ codes "<text>" ++ inner → body ≡ opened front (gap_of after) inner
opening_cut body front after inner e s =
    e ∙ ap (λ l. front ++ (58 ∷ l))
    (sym (take-append-drop (prefix_len is_blank after) after) ∙ ap (λ l. gap_of after ++ l) s)

abbrev pub opening_front : List ℕ → List ℕ → List ℕ
opening_front front after = front ++ (58 ∷ (gap_of after ++ (60 ∷ 116 ∷ 101 ∷ 120 ∷ 116 ∷ [])))

pub opening_last : (body front after inner : List ℕ) → body ≡ front ++ (58 ∷ after)
    → skip_blanks after ≡ codes "<text>" ++ inner → body ≡ opening_front front after ++ (62 ∷ inner)
opening_last body front after inner e s = opening_cut body front after inner e s
    ∙ simp append_assoc refl

pub opening_whole : (front after inner : List ℕ)
    → opened front (gap_of after) inner ≡ opened front (gap_of after) [] ++ inner
opening_whole front after inner = simp append_assoc refl
