-- The text after the first `/` of another.
use Rattle.std.proofs.Common.{◌≡◌, ◌≢◌, ◌∙◌, ◌⊎◌, inl, inr, ℕ, ◌+◌, ◌-◌, ◌<◌, List, [], ◌∷◌, ◌++◌}
use Rattle.std.proofs.Common.{length, get_or, take, drop, sym, ap, arith, append_assoc}
use Rattle.std.proofs.Common.{take-append-drop, length-append, subst, eq-eqb, ⊎_elim}
use Rattle.std.specs.Prelude.{All, Option, Some}
use Rattle.std.proofs.Math.Seq.{get_or-append_seam}
use Rattle.std.proofs.lemmas.List.{get_or-take, length-take-le, take_more, take_rest}
use Rattle.std.proofs.lemmas.List.Elements.{All-head, All-tail, All-cons, All-from_get_or}
use Rattle.memchr.specs.Find.{Nowhere, Passes, is_byte}
use Rattle.desk_tree_patterns.specs.declared.matching.Place.{Place}
use Rattle.desk_tree_patterns.specs.Steps.{IsBehindName, NoFurther, back}
use Rattle.desk_tree_patterns.proofs.GlobOnce.{same}

-- a text without a `/`, or with a first one
abbrev pub Bounded : List ℕ → Type 0
Bounded ts = All (λ b. b ≢ 47) ts ⊎ ((rest : List ℕ) × IsBehindName ts rest)

pub bounded : (ts : List ℕ) → Bounded ts
bounded [] = inl (λ k d lt. absurd (omega arith))
bounded (c ∷ ts) =
    let slash : c ≡ 47 → Bounded (c ∷ ts) =
    λ e. inr (ts, ([], ap (λ b. b ∷ ts) e, λ k d lt. absurd (omega arith))) in
    let other : c ≢ 47 → Bounded (c ∷ ts) = λ no.
    ⊎_elim (λ all. inl (All-cons (λ b. b ≢ 47) c ts no all))
    (λ r. inr (r.0, (c ∷ r.1.0, ap (λ l. c ∷ l) r.1.1, All-cons (λ b. b ≢ 47) c r.1.0 no r.1.2)))
    (bounded ts) in
    ⊎_elim slash other (same c 47)

once : (a b r s : List ℕ) → a ++ (47 ∷ r) ≡ b ++ (47 ∷ s) → All (λ b. b ≢ 47) a
    → All (λ b. b ≢ 47) b → r ≡ s
once [] [] r s e h k = cc
once [] (c ∷ b) r s e h k =
    let is : c ≡ 47 = cc in
    absurd (All-head (λ b. b ≢ 47) c b k is)
once (c ∷ a) [] r s e h k =
    let is : c ≡ 47 = cc in
    absurd (All-head (λ b. b ≢ 47) c a h is)
once (c ∷ a) (d ∷ b) r s e h k =
    let less : a ++ (47 ∷ r) ≡ b ++ (47 ∷ s) = cc in
    once a b r s less (All-tail (λ b. b ≢ 47) c a h) (All-tail (λ b. b ≢ 47) d b k)

pub behind_once : (ts r s : List ℕ) → IsBehindName ts r → IsBehindName ts s → r ≡ s
behind_once ts r s a b = once a.0 b.0 r s (sym a.1 ∙ b.1) a.2 b.2

pub behind_shorter : (ts r : List ℕ) → IsBehindName ts r → length r < length ts
behind_shorter ts r a =
    let len = ap length a.1 ∙ length-append a.0 (47 ∷ r) in
    omega arith

-- a text with no `/` has nothing after one
pub behind_none : (ts : List ℕ) → Nowhere (Passes (is_byte 47) ts) 0 (length ts) → (rest : List ℕ)
    → IsBehindName ts rest → ⊥
behind_none ts none rest b =
    let len = ap length b.1 ∙ length-append b.0 (47 ∷ rest) in
    let is : get_or ts (length b.0) 0 ≡ 47 = ap (λ l. get_or l (length b.0) 0) b.1
    ∙ get_or-append_seam b.0 47 rest 0 in
    none (length b.0) (omega arith) (omega arith) (eq-eqb (get_or ts (length b.0) 0) 47 is)

-- what follows the first
pub behind_first : (ts : List ℕ) (at : ℕ) → at < length ts → get_or ts at 0 ≡ 47
    → Nowhere (Passes (is_byte 47) ts) 0 at
    → IsBehindName ts (take (length ts - (at + 1)) (drop (at + 1) ts))
behind_first ts at lt is none =
    let long = length-take-le at ts (omega arith) in
    let clear = All-from_get_or (λ b. b ≢ 47) (take at ts) 0
    (λ k less e. none k (omega arith) (omega arith)
    (eq-eqb (get_or ts k 0) 47 (sym (get_or-take at ts k 0 (omega arith)) ∙ e))) in
    let cut : ts ≡ take at ts ++ (47 ∷ drop (at + 1) ts) =
    sym (take-append-drop (at + 1) ts)
    ∙ ap (λ l. l ++ drop (at + 1) ts) (take_more ts at 0 lt ∙ ap (λ b. take at ts ++ (b ∷ [])) is)
    ∙ append_assoc (take at ts) (47 ∷ []) (drop (at + 1) ts) in
    (take at ts, cut ∙ ap (λ l. take at ts ++ (47 ∷ l)) (sym (take_rest ts (at + 1))), clear)

-- a place with no `/` in its text goes on to no other
pub none_further : (o : Option Place) (p : Place) → o ≡ Some p
    → ((rest : List ℕ) → IsBehindName p.text.now rest → ⊥) → NoFurther (back o)
none_further o p is none = subst (λ x. NoFurther (back x)) (sym is) (λ r f. none r.text f.1)
