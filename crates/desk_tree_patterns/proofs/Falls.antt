-- Each step of a search leaves less to do.
use Rattle.std.proofs.Common.{ℕ, ◌+◌, ◌*◌, ◌<◌, ◌≤◌, List, ◌∷◌, length, arith}
use Rattle.std.specs.Prelude.{Option, Some, None, IfSome}
use Rattle.std.proofs.Math.Nat.{mul-le-mul_right}
use Rattle.desk_tree_patterns.specs.declared.glob.Piece.{Piece}
use Rattle.desk_tree_patterns.specs.declared.glob.Piece.TheVariants.{Byte, InName, InPath}
use Rattle.desk_tree_patterns.specs.Steps.{Spot, State, Steps, NoLonger, IsBehindName, Passes}
use Rattle.desk_tree_patterns.proofs.Names.{behind_shorter}
use Rattle.desk_tree_patterns.proofs.Greedy.{at, st, Fits, steps_cases}

abbrev pub text_left : ℕ → Option Spot → ℕ
text_left none None = none
text_left none (Some s) = length s.text

abbrev pub name_left : State → ℕ
name_left s = text_left (length s.here.text) s.name

abbrev pub path_left : ℕ → State → ℕ
path_left text s = text_left text s.path

-- the work left, which falls at each step: what the `**` can still take counts most, then what the
-- `*` can
abbrev pub work : ℕ → ℕ → State → ℕ
work pieces text s = path_left text s * ((text + 1) * (pieces + 1))
    + (name_left s * (pieces + 1) + length s.here.pieces)

pub record Within (pieces text : ℕ) (s : State) : Type 0 where
  pub here_pieces : length s.here.pieces ≤ pieces
  pub name_pieces : IfSome s.name (λ n. length n.pieces ≤ pieces)
  pub path_pieces : IfSome s.path (λ p. length p.pieces ≤ pieces)
  pub here_text : length s.here.text ≤ name_left s
  pub name_text : name_left s ≤ path_left text s
  pub path_text : path_left text s ≤ text

fall_here : (a b c d p q k m : ℕ) → b ≤ a → d ≤ c → q < p
    → b * m + (d * k + q) < a * m + (c * k + p)
fall_here a b c d p q k m x y z = omega (arith, mul-le-mul_right m x, mul-le-mul_right k y)

fall_name : (a b c d p q n m : ℕ) → b ≤ a → d < c → q ≤ n
    → b * m + (d * (n + 1) + q) < a * m + (c * (n + 1) + p)
fall_name a b c d p q n m x y z = omega (arith, mul-le-mul_right m x, mul-le-mul_right (n + 1) y)

fall_path : (a b c d p q n t : ℕ) → b < a → d ≤ t → q ≤ n
    → b * ((t + 1) * (n + 1)) + (d * (n + 1) + q) < a * ((t + 1) * (n + 1)) + (c * (n + 1) + p)
fall_path a b c d p q n t x y z = omega
    (arith, mul-le-mul_right ((t + 1) * (n + 1)) x, mul-le-mul_right (n + 1) y)

less_left : (a b : ℕ) (o : Option Spot) → a ≤ b → text_left a o ≤ text_left b o
less_left a b None h = h
less_left a b (Some s) h = omega arith

still_left : (a b : ℕ) (o : Option Spot) → a ≤ b → b ≤ text_left b o → a ≤ text_left a o
still_left a b None h k = omega arith
still_left a b (Some s) h k = omega arith

abbrev pub Falls : ℕ → ℕ → State → State → Type 0
Falls pieces text s n = Within pieces text s
    → Within pieces text n × (work pieces text n < work pieces text s)

module _ (pieces text : ℕ) where
  pub byte_falls : (b : ℕ) (ps : List Piece) (ts : List ℕ) (n p : Option Spot)
      → Falls pieces text (st (at (Byte b ∷ ps) (b ∷ ts)) n p) (st (at ps ts) n p)
  byte_falls b ps ts n p w =
      let h0 = w.here_pieces in
      let h1 = w.here_text in
      let h2 = w.name_text in
      let less : text_left (length ts) n ≤ text_left (length (b ∷ ts)) n =
      less_left (length ts) (length (b ∷ ts)) n (omega arith) in
      let fits : length ps < length (Byte b ∷ ps) = omega arith in (
        record {
          here_pieces = omega arith;
          name_pieces = w.name_pieces;
          path_pieces = w.path_pieces;
          here_text = still_left (length ts) (length (b ∷ ts)) n (omega arith) h1;
          name_text = omega arith;
          path_text = w.path_text;
        },
        fall_here (text_left text p) (text_left text p) (text_left (length (b ∷ ts)) n)
            (text_left (length ts) n) (length (Byte b ∷ ps)) (length ps) (pieces + 1)
            ((text + 1) * (pieces + 1)) (omega arith) less fits,
      )

  name_falls : (ps : List Piece) (ts : List ℕ) (n p : Option Spot)
      → Falls pieces text (st (at (InName ∷ ps) ts) n p) (st (at ps ts) (Some (at ps ts)) p)
  name_falls ps ts n p w =
      let h0 = w.here_pieces in
      let h1 = w.here_text in
      let h2 = w.name_text in
      let fits : length ps ≤ pieces = omega arith in
      let less : length ps < length (InName ∷ ps) = omega arith in (
        record {
          here_pieces = fits;
          name_pieces = fits;
          path_pieces = w.path_pieces;
          here_text = omega arith;
          name_text = omega arith;
          path_text = w.path_text;
        },
        fall_here (text_left text p) (text_left text p) (text_left (length ts) n) (length ts)
            (length (InName ∷ ps)) (length ps) (pieces + 1) ((text + 1) * (pieces + 1))
            (omega arith) h1 less,
      )

  path_falls : (ps : List Piece) (ts : List ℕ) (n p : Option Spot)
      → Falls pieces text (st (at (InPath ∷ ps) ts) n p)
      (st (at ps ts) (Some (at ps ts)) (Some (at ps ts)))
  path_falls ps ts n p w =
      let h0 = w.here_pieces in
      let h1 = w.here_text in
      let h2 = w.name_text in
      let h3 = w.path_text in
      let fits : length ps ≤ pieces = omega arith in
      let less : length ps < length (InPath ∷ ps) = omega arith in
      let short : length ts ≤ text_left text p = omega arith in (
        record {
          here_pieces = fits;
          name_pieces = fits;
          path_pieces = fits;
          here_text = omega arith;
          name_text = omega arith;
          path_text = omega arith;
        },
        fall_here (text_left text p) (length ts) (text_left (length ts) n) (length ts)
            (length (InPath ∷ ps)) (length ps) (pieces + 1) ((text + 1) * (pieces + 1)) short h1
            less,
      )

  longer_name_falls : (h : Spot) (qs : List Piece) (c : ℕ) (us : List ℕ) (p : Option Spot)
      → Passes InName c → (Fits h → ⊥)
      → Falls pieces text (st h (Some (at qs (c ∷ us))) p) (st (at qs us) (Some (at qs us)) p)
  longer_name_falls h qs c us p k none w =
      let h2 = w.name_text in
      let fits = w.name_pieces in
      let less : length us < length (c ∷ us) = omega arith in (
        record {
          here_pieces = fits;
          name_pieces = fits;
          path_pieces = w.path_pieces;
          here_text = omega arith;
          name_text = omega arith;
          path_text = w.path_text;
        },
        fall_name (text_left text p) (text_left text p) (length (c ∷ us)) (length us)
            (length h.pieces) (length qs) pieces ((text + 1) * (pieces + 1)) (omega arith) less
            fits,
      )

  next_name_falls : (h : Spot) (n : Option Spot) (qs : List Piece) (ts us : List ℕ)
      → IsBehindName ts us → (Fits h → ⊥) → NoLonger n
      → Falls pieces text (st h n (Some (at qs ts)))
      (st (at qs us) (Some (at qs us)) (Some (at qs us)))
  next_name_falls h n qs ts us b none short w =
      let h3 = w.path_text in
      let fits = w.path_pieces in
      let less : length us < length ts = behind_shorter ts us b in (
        record {
          here_pieces = fits;
          name_pieces = fits;
          path_pieces = fits;
          here_text = omega arith;
          name_text = omega arith;
          path_text = omega arith;
        },
        fall_path (length ts) (length us) (text_left (length h.text) n) (length us)
            (length h.pieces) (length qs) pieces text less (omega arith) fits,
      )

  pub step_falls : (s n : State) → Steps s n → Falls pieces text s n
  step_falls = steps_cases (Falls pieces text) byte_falls name_falls path_falls longer_name_falls
      next_name_falls
