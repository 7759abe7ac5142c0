-- A pattern matches a path or doesn't.
use Rattle.std.proofs.Common.{◌≡◌, ◌≢◌, ◌∙◌, ◌⊎◌, inl, inr, ℕ, List, [], ◌∷◌, ◌++◌, sym, subst, ap, refl, arith}
use Rattle.std.specs.Prelude.{All}
use Rattle.std.proofs.lemmas.Bool.{cases_eq}
use Rattle.std.proofs.lemmas.List.Elements.{All-nil, All-cons, All-tail, All-get_or}
use Rattle.desk_tree_patterns.specs.declared.glob.Piece.{Piece}
use Rattle.desk_tree_patterns.specs.declared.glob.Piece.TheVariants.{Byte, InName, InPath}
use Rattle.desk_tree_patterns.specs.Glob.{IsMatch}

abbrev pub Decided : List Piece → List ℕ → Type 0
Decided ps path = IsMatch ps path ⊎ (IsMatch ps path → ⊥)

module _ (ps : List Piece) (later : (path : List ℕ) → Decided ps path) where
  -- ---- a byte

  no_byte : (b c : ℕ) (cs : List ℕ) → (c ≡ b → IsMatch ps cs → ⊥) → IsMatch (Byte b ∷ ps) (c ∷ cs)
      → ⊥
  no_byte b c cs none h =
      let e : c ∷ cs ≡ b ∷ h.1 = h.2 ∙ ap (λ s. s ++ h.1) h.3 in
      let head : c ≡ b = cc in
      let tail : h.1 ≡ cs = cc in
      none head (subst (IsMatch ps) tail h.4)

  byte_behind : (b c : ℕ) (cs : List ℕ) → c ≡ b → Decided ps cs → Decided (Byte b ∷ ps) (c ∷ cs)
  byte_behind b c cs is (inl match) = inl (b ∷ [], cs, ap (λ x. x ∷ cs) is, refl, match)
  byte_behind b c cs is (inr none) = inr (no_byte b c cs (λ e. none))

  byte : (b : ℕ) (path : List ℕ) → Decided (Byte b ∷ ps) path
  byte b [] = inr (λ h. let e : [] ≡ b ∷ h.1 = h.2 ∙ ap (λ s. s ++ h.1) h.3 in absurd cc)
  byte b (c ∷ cs) =
      elim (cases_eq c b) [
        | inl is ↦ byte_behind b c cs is (later cs)
        | inr apart ↦ inr (no_byte b c cs (λ e m. apart e))
      ]

  -- ---- any bytes

  no_more : (stretch rest : List ℕ) → [] ≡ stretch ++ rest → [] ≡ rest
  no_more [] rest e = e
  no_more (d ∷ s) rest e = absurd cc

  no_path : (c : ℕ) (cs : List ℕ) → (IsMatch ps (c ∷ cs) → ⊥) → (IsMatch (InPath ∷ ps) cs → ⊥)
      → (stretch rest : List ℕ) → c ∷ cs ≡ stretch ++ rest → IsMatch ps rest → ⊥
  no_path c cs none behind [] rest cut match = none (subst (IsMatch ps) (sym cut) match)
  no_path c cs none behind (d ∷ s) rest cut match = let tail : cs ≡ s ++ rest = cc in
      behind (s, rest, tail, tt, match)

  in_path_on : (c : ℕ) (cs : List ℕ) → Decided ps (c ∷ cs) → Decided (InPath ∷ ps) cs
      → Decided (InPath ∷ ps) (c ∷ cs)
  in_path_on c cs (inl match) behind = inl ([], c ∷ cs, refl, tt, match)
  in_path_on c cs (inr none) (inl m) = inl (c ∷ m.0, m.1, ap (λ l. c ∷ l) m.2, tt, m.4)
  in_path_on c cs (inr none) (inr behind) = inr (λ h. no_path c cs none behind h.0 h.1 h.2 h.4)

  in_path : (path : List ℕ) → Decided (InPath ∷ ps) path
  in_path [] =
      elim (later []) [
        | inl match ↦ inl ([], [], refl, tt, match)
        | inr none ↦ inr (λ h. none (subst (IsMatch ps) (sym (no_more h.0 h.1 h.2)) h.4))
      ]
  in_path (c ∷ cs) = in_path_on c cs (later (c ∷ cs)) (in_path cs)

  -- ---- any bytes but a slash

  abbrev NoSlash : List ℕ → Type 0
  NoSlash s = All (λ b. b ≢ 47) s

  no_name : (c : ℕ) (cs : List ℕ) → (IsMatch ps (c ∷ cs) → ⊥)
      → (c ≢ 47 → IsMatch (InName ∷ ps) cs → ⊥) → (stretch rest : List ℕ) → c ∷ cs ≡ stretch ++ rest
      → NoSlash stretch → IsMatch ps rest → ⊥
  no_name c cs none behind [] rest cut apart match = none (subst (IsMatch ps) (sym cut) match)
  no_name c cs none behind (d ∷ s) rest cut apart match =
      let tail : cs ≡ s ++ rest = cc in
      let head : d ≡ c = cc in
      let first : d ≢ 47 = All-get_or (λ b. b ≢ 47) (d ∷ s) 0 0 (omega arith) apart in
      behind (subst (λ x. x ≢ 47) head first)
      (s, rest, tail, All-tail (λ b. b ≢ 47) d s apart, match)

  in_name_on : (c : ℕ) (cs : List ℕ) → (c ≡ 47) ⊎ (c ≢ 47) → Decided ps (c ∷ cs)
      → Decided (InName ∷ ps) cs → Decided (InName ∷ ps) (c ∷ cs)
  in_name_on c cs slash (inl match) behind = inl ([], c ∷ cs, refl, All-nil (λ b. b ≢ 47), match)
  in_name_on c cs (inl slash) (inr none) behind = inr (λ h. no_name c cs none
      (λ apart m. apart slash) h.0 h.1 h.2 h.3 h.4)
  in_name_on c cs (inr apart) (inr none) (inl m) = inl (
    c ∷ m.0,
    m.1,
    ap (λ l. c ∷ l) m.2,
    All-cons (λ b. b ≢ 47) c m.0 apart m.3,
    m.4,
  )
  in_name_on c cs (inr apart) (inr none) (inr behind) = inr (λ h. no_name c cs none
      (λ other. behind) h.0 h.1 h.2 h.3 h.4)

  in_name : (path : List ℕ) → Decided (InName ∷ ps) path
  in_name [] =
      elim (later []) [
        | inl match ↦ inl ([], [], refl, All-nil (λ b. b ≢ 47), match)
        | inr none ↦ inr (λ h. none (subst (IsMatch ps) (sym (no_more h.0 h.1 h.2)) h.4))
      ]
  in_name (c ∷ cs) = in_name_on c cs (cases_eq c 47) (later (c ∷ cs)) (in_name cs)

  piece : (p : Piece) (path : List ℕ) → Decided (p ∷ ps) path
  piece (Byte b) path = byte b path
  piece InName path = in_name path
  piece InPath path = in_path path

pub decided : (ps : List Piece) (path : List ℕ) → Decided ps path
decided [] [] = inl refl
decided [] (b ∷ bs) = inr (λ e. absurd cc)
decided (p ∷ ps) path = piece ps (decided ps) p path
