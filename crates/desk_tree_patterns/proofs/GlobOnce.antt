-- Each text is a pattern, which can be read in only one way.
use Rattle.std.proofs.Common.{◌≡◌, ◌≢◌, ◌∙◌, ◌⊎◌, inl, inr, ℕ, List, [], ◌∷◌, get_or, sym, subst}
use Rattle.std.proofs.Common.{ap, refl, arith, ⊎_elim}
use Rattle.std.proofs.lemmas.Bool.Decides.{eqb_tells}
use Rattle.desk_tree_patterns.specs.declared.glob.Piece.{Piece}
use Rattle.desk_tree_patterns.specs.declared.glob.Piece.TheVariants.{Byte, InName, InPath}
use Rattle.desk_tree_patterns.specs.Glob.{Begins, Spells}

heads : (b c : ℕ) (r s : List ℕ) → b ∷ r ≡ c ∷ s → b ≡ c
heads b c r s e = cc

tails : (b c : ℕ) (r s : List ℕ) → b ∷ r ≡ c ∷ s → r ≡ s
tails b c r s e = cc

not_star : (b : ℕ) (r s p : List ℕ) → p ≡ 42 ∷ s
    → (p ≡ 92 ∷ b ∷ r) ⊎ ((p ≡ b ∷ r) × (b ≢ 42) × (b ≡ 92 → r ≡ [])) → ⊥
not_star b r s p e (inl f) = let n = heads 92 42 (b ∷ r) s (sym f ∙ e) in omega (arith, n)
not_star b r s p e (inr f) = f.1 (heads b 42 r s (sym f.0 ∙ e))

two_stars : (r s p : List ℕ) → p ≡ 42 ∷ r → get_or r 0 0 ≢ 42 → p ≡ 42 ∷ 42 ∷ s → ⊥
two_stars r s p e n f = n (ap (λ l. get_or l 0 0) (tails 42 42 r (42 ∷ s) (sym e ∙ f)))

bytes_once : (b c : ℕ) (r s p : List ℕ)
    → (p ≡ 92 ∷ b ∷ r) ⊎ ((p ≡ b ∷ r) × (b ≢ 42) × (b ≡ 92 → r ≡ []))
    → (p ≡ 92 ∷ c ∷ s) ⊎ ((p ≡ c ∷ s) × (c ≢ 42) × (c ≡ 92 → s ≡ [])) → (b ≡ c) × (r ≡ s)
bytes_once b c r s p (inl e) (inl f) =
    let t = tails 92 92 (b ∷ r) (c ∷ s) (sym e ∙ f) in (heads b c r s t, tails b c r s t)
bytes_once b c r s p (inl e) (inr f) =
    let whole : 92 ∷ b ∷ r ≡ c ∷ s = sym e ∙ f.0 in
    let none = f.2 (sym (heads 92 c (b ∷ r) s whole)) in
    let t : b ∷ r ≡ [] = tails 92 c (b ∷ r) s whole ∙ none in
    absurd cc
bytes_once b c r s p (inr e) (inl f) =
    let whole : 92 ∷ c ∷ s ≡ b ∷ r = sym f ∙ e.0 in
    let none = e.2 (sym (heads 92 b (c ∷ s) r whole)) in
    let t : c ∷ s ≡ [] = tails 92 b (c ∷ s) r whole ∙ none in
    absurd cc
bytes_once b c r s p (inr e) (inr f) = let whole : b ∷ r ≡ c ∷ s = sym e.0 ∙ f.0 in
    (heads b c r s whole, tails b c r s whole)

begins_once : (p : List ℕ) (x : Piece) (r : List ℕ) (y : Piece) (s : List ℕ) → Begins p x r
    → Begins p y s → (x ≡ y) × (r ≡ s)
begins_once p (Byte b) r (Byte c) s e f = let z = bytes_once b c r s p e f in (ap Byte z.0, z.1)
begins_once p (Byte b) r InName s e f = absurd (not_star b r s p f.0 e)
begins_once p (Byte b) r InPath s e f = absurd (not_star b r (42 ∷ s) p f e)
begins_once p InName r (Byte c) s e f = absurd (not_star c s r p e.0 f)
begins_once p InName r InName s e f = (refl, tails 42 42 r s (sym e.0 ∙ f.0))
begins_once p InName r InPath s e f = absurd (two_stars r s p e.0 e.1 f)
begins_once p InPath r (Byte c) s e f = absurd (not_star c s (42 ∷ r) p e f)
begins_once p InPath r InName s e f = absurd (two_stars s r p f.0 f.1 e)
begins_once p InPath r InPath s e f = (
  refl,
  tails 42 42 r s (tails 42 42 (42 ∷ r) (42 ∷ s) (sym e ∙ f)),
)

none_begins : (p : List ℕ) (x : Piece) (r : List ℕ) → p ≡ [] → Begins p x r → ⊥
none_begins p (Byte b) r e (inl f) = let z : 92 ∷ b ∷ r ≡ [] = sym f ∙ e in cc
none_begins p (Byte b) r e (inr f) = let z : b ∷ r ≡ [] = sym f.0 ∙ e in cc
none_begins p InName r e f = let z : 42 ∷ r ≡ [] = sym f.0 ∙ e in cc
none_begins p InPath r e f = let z : 42 ∷ 42 ∷ r ≡ [] = sym f ∙ e in cc

pub spells_once : (p : List ℕ) (a b : List Piece) → Spells p a → Spells p b → a ≡ b
spells_once p [] [] a b = refl
spells_once p [] (y ∷ ys) a b = absurd (none_begins p y b.0 a b.1)
spells_once p (x ∷ xs) [] a b = absurd (none_begins p x a.0 b a.1)
spells_once p (x ∷ xs) (y ∷ ys) a b =
    let z = begins_once p x a.0 y b.0 a.1 b.1 in
    let later = spells_once b.0 xs ys (subst (λ r. Spells r xs) z.1 a.2) b.2 in
    λ i. z.0 i ∷ later i

pub same : (b c : ℕ) → (b ≡ c) ⊎ (b ≢ c)
same b c = ⊎_elim (λ t. inl t.1) (λ t. inr t.1) (eqb_tells b c)

abbrev IsSpelled : List ℕ → Type 0
IsSpelled p = (ps : List Piece) × Spells p ps

begun : (p : List ℕ) (x : Piece) (rest : List ℕ) → Begins p x rest → IsSpelled rest → IsSpelled p
begun p x rest b s = (x ∷ s.0, (rest, b, s.1))

no_star : (l : List ℕ) → l ≡ [] → get_or l 0 0 ≢ 42
no_star l is e = let none = ap (λ k. get_or k 0 0) is in omega (arith, e, none)

pub each_spelled : (p : List ℕ) → (ps : List Piece) × Spells p ps
each_spelled [] = ([], refl)
each_spelled (b ∷ []) =
    ⊎_elim (λ star. begun (b ∷ []) InName [] (ap (λ x. x ∷ []) star, no_star [] refl) ([], refl))
    (λ other. begun (b ∷ []) (Byte b) [] (inr (refl, other, λ _. refl)) ([], refl)) (same b 42)
each_spelled (b ∷ c ∷ r) =
    let whole = b ∷ c ∷ r in
    let stars = λ (star : b ≡ 42). ⊎_elim
    (λ second. begun whole InPath r (λ i. star i ∷ second i ∷ r) (each_spelled r))
    (λ other. begun whole InName (c ∷ r) (ap (λ x. x ∷ c ∷ r) star, other) (each_spelled (c ∷ r)))
    (same c 42) in
    let bytes = λ (other : b ≢ 42). ⊎_elim
    (λ escape. begun whole (Byte c) r (inl (ap (λ x. x ∷ c ∷ r) escape)) (each_spelled r))
    (λ plain. begun whole (Byte b) (c ∷ r) (inr (refl, other, λ e. absurd (plain e)))
    (each_spelled (c ∷ r))) (same b 92) in
    ⊎_elim stars bytes (same b 42)
