-- Many steps of a search at once.
use Rattle.std.proofs.Common.{◌≡◌, ◌≢◌, ◌∙◌, inl, inr, ℕ, zero, suc, ◌+◌, ◌*◌, ◌<◌, ◌≤◌, List, []}
use Rattle.std.proofs.Common.{◌∷◌, ◌++◌, length, take, drop, sym, subst, ap, arith, ⊎_elim}
use Rattle.std.proofs.Common.{length-drop}
use Rattle.std.specs.Prelude.{All, Option, Some}
use Rattle.std.proofs.Math.Nat.{mul-le-mul_right}
use Rattle.std.proofs.lemmas.List.Elements.{All-head, All-tail, All-cons}
use Rattle.desk_tree_patterns.specs.declared.glob.Piece.{Piece}
use Rattle.desk_tree_patterns.specs.declared.glob.Piece.TheVariants.{InName, InPath}
use Rattle.desk_tree_patterns.specs.Glob.{IsMatch}
use Rattle.desk_tree_patterns.specs.Parts.{literal}
use Rattle.desk_tree_patterns.specs.Steps.{Spot, State, Passed, Settles, SettlesInName}
use Rattle.desk_tree_patterns.specs.Steps.{SettlesInPath, Goes, GoesOn, GoesBack, Stuck}
use Rattle.desk_tree_patterns.proofs.Greedy.{at, st, Holds, wild_path}
use Rattle.desk_tree_patterns.proofs.Greedy.{holds_byte, holds_new, holds_longer_name, holds_step}
use Rattle.desk_tree_patterns.proofs.Greedy.{empty_out, longer_out, join_name, join_path}
use Rattle.desk_tree_patterns.proofs.Falls.{Within, work, text_left, Falls, byte_falls}
use Rattle.desk_tree_patterns.proofs.Falls.{step_falls}

abbrev StuckBelow : ℕ → List Piece → List ℕ → Type 0
StuckBelow count qs ts = (k : ℕ) → k < count → IsMatch qs (drop k ts) → ⊥

abbrev starred : List Piece → List ℕ → Option Spot → State
starred qs ts p = st (at qs ts) (Some (at qs ts)) p

abbrev twice_starred : List Piece → List ℕ → State
twice_starred qs ts = starred qs ts (Some (at qs ts))

-- what every run passed has
passed_cases : (Q : State → State → Type 0)
    → ((run : List ℕ) (ps : List Piece) (ts : List ℕ) (n p : Option Spot)
    → Q (st (at (literal run ++ ps) (run ++ ts)) n p) (st (at ps ts) n p))
    → (s m : State) → Passed s m → Q s m
passed_cases Q each s m e =
    let from : s ≡ st (at (literal e.0 ++ m.here.pieces) (e.0 ++ m.here.text)) s.name s.path =
    λ i. record { here = record { pieces = e.1 i; text = e.2 i }; name = s.name; path = s.path } in
    let to : m ≡ st m.here s.name s.path =
    λ i. record { here = m.here; name = e.3 i; path = e.4 i } in
    subst (λ x. Q x m) (sym from)
    (subst (λ x. Q (st (at (literal e.0 ++ m.here.pieces) (e.0 ++ m.here.text)) s.name s.path) x)
    (sym to) (each e.0 m.here.pieces m.here.text s.name s.path))

-- what every place settled on has
settles_cases : (Q : State → State → Type 0)
    → ((count : ℕ) (qs : List Piece) (ts : List ℕ) (p : Option Spot) → count ≤ length ts
    → All (λ b. b ≢ 47) (take count ts) → StuckBelow count qs ts
    → Q (starred qs ts p) (starred qs (drop count ts) p))
    → ((count : ℕ) (qs : List Piece) (ts : List ℕ) → count ≤ length ts → StuckBelow count qs ts
    → Q (twice_starred qs ts) (twice_starred qs (drop count ts)))
    → (s n : State) → Settles s n → Q s n
settles_cases Q name path s n e =
    let in_name : SettlesInName s n → Q s n = λ e.
    let k = e.0 in
    let qs = s.here.pieces in
    let ts = s.here.text in
    let from : s ≡ starred qs ts s.path =
    λ i. record { here = s.here; name = e.2 i; path = s.path } in
    let spots : n.here ≡ at qs (drop k.count ts) =
    λ i. record { pieces = k.pieces i; text = k.text i } in
    let mid : n ≡ st n.here (Some n.here) s.path =
    λ i. record { here = n.here; name = e.3 i; path = e.4 i } in
    let to : n ≡ starred qs (drop k.count ts) s.path =
    mid ∙ ap (λ x. st x (Some x) s.path) spots in
    subst (λ x. Q x n) (sym from) (subst (λ x. Q (starred qs ts s.path) x) (sym to)
    (name k.count qs ts s.path k.within e.1 k.none)) in
    let in_path : SettlesInPath s n → Q s n = λ e.
    let k = e.0 in
    let qs = s.here.pieces in
    let ts = s.here.text in
    let from : s ≡ twice_starred qs ts =
    λ i. record { here = s.here; name = e.1 i; path = e.2 i } in
    let spots : n.here ≡ at qs (drop k.count ts) =
    λ i. record { pieces = k.pieces i; text = k.text i } in
    let mid : n ≡ st n.here (Some n.here) (Some n.here) =
    λ i. record { here = n.here; name = e.3 i; path = e.4 i } in
    let to : n ≡ twice_starred qs (drop k.count ts) =
    mid ∙ ap (λ x. st x (Some x) (Some x)) spots in
    subst (λ x. Q x n) (sym from) (subst (λ x. Q (twice_starred qs ts) x) (sym to)
    (path k.count qs ts k.within k.none)) in
    ⊎_elim in_name in_path e

-- what a `**` reaches from a place that was skipped to, it reaches from before
skipped_out : (count : ℕ) (qs : List Piece) (ts : List ℕ) → IsMatch (InPath ∷ qs) (drop count ts)
    → IsMatch (InPath ∷ qs) ts
skipped_out zero qs ts m = m
skipped_out (suc n) qs [] m = m
skipped_out (suc n) qs (c ∷ ts) m = longer_out InPath qs c ts wild_path tt (skipped_out n qs ts m)

skipped_one : (qs : List Piece) (c : ℕ) (ts stretch rest : List ℕ) → (IsMatch qs (c ∷ ts) → ⊥)
    → c ∷ ts ≡ stretch ++ rest → IsMatch qs rest → IsMatch (InPath ∷ qs) ts
skipped_one qs c ts [] rest none cut m = absurd (none (subst (IsMatch qs) (sym cut) m))
skipped_one qs c ts (d ∷ a) rest none cut m = let same : ts ≡ a ++ rest = cc in
    (a, rest, same, tt, m)

skipped_in : (count : ℕ) (qs : List Piece) (ts : List ℕ) → count ≤ length ts
    → StuckBelow count qs ts → IsMatch (InPath ∷ qs) ts → IsMatch (InPath ∷ qs) (drop count ts)
skipped_in zero qs ts le none m = m
skipped_in (suc n) qs [] le none m = absurd (omega arith)
skipped_in (suc n) qs (c ∷ ts) le none m =
    skipped_in n qs ts (omega arith) (λ k lt. none (suc k) (omega arith))
    (skipped_one qs c ts m.0 m.1 (none 0 (omega arith)) m.2 m.4)

module _ (all : List Piece) (whole : List ℕ) where
  holds_passed : (run : List ℕ) (ps : List Piece) (ts : List ℕ) (n p : Option Spot)
      → Holds all whole (st (at (literal run ++ ps) (run ++ ts)) n p)
      → Holds all whole (st (at ps ts) n p)
  holds_passed [] ps ts n p h = h
  holds_passed (b ∷ run) ps ts n p h = holds_passed run ps ts n p
      (holds_byte all whole b (literal run ++ ps) (run ++ ts) n p h)

  holds_in_name : (count : ℕ) (qs : List Piece) (ts : List ℕ) (p : Option Spot) → count ≤ length ts
      → All (λ b. b ≢ 47) (take count ts) → StuckBelow count qs ts
      → Holds all whole (starred qs ts p) → Holds all whole (starred qs (drop count ts) p)
  holds_in_name zero qs ts p le clear none h = h
  holds_in_name (suc n) qs [] p le clear none h = absurd (omega arith)
  holds_in_name (suc n) qs (c ∷ ts) p le clear none h =
      let passes = All-cons (λ b. b ≢ 47) c [] (All-head (λ b. b ≢ 47) c (take n ts) clear)
      (λ k d lt. absurd (omega arith)) in
      holds_in_name n qs ts p (omega arith) (All-tail (λ b. b ≢ 47) c (take n ts) clear)
      (λ k lt. none (suc k) (omega arith))
      (holds_longer_name all whole (at qs (c ∷ ts)) qs c ts p passes (none 0 (omega arith)) h)

  holds_in_path : (count : ℕ) (qs : List Piece) (ts : List ℕ) → count ≤ length ts
      → StuckBelow count qs ts → Holds all whole (twice_starred qs ts)
      → Holds all whole (twice_starred qs (drop count ts))
  holds_in_path count qs ts le none h =
      let s = at qs ts in
      let any : IsMatch (InName ∷ qs) ts → IsMatch (InPath ∷ qs) ts =
      λ m. (m.0, m.1, m.2, tt, m.4) in
      let whole_in : IsMatch all whole → IsMatch (InPath ∷ qs) ts =
      λ g. ⊎_elim (empty_out InPath qs ts wild_path)
      (λ r. ⊎_elim (λ a. any (join_name s a.0 a.1 a.2)) (λ a. join_path s a.0 a.1 a.2) r)
      (h.complete g) in
      holds_new all whole qs (drop count ts) (λ m. h.path (skipped_out count qs ts m))
      (λ g. skipped_in count qs ts le none (whole_in g))

  abbrev Keeps : State → State → Type 0
  Keeps s n = Holds all whole s → Holds all whole n

  pub holds_goes : (s n : State) → Goes s n → Holds all whole s → Holds all whole n
  holds_goes s n goes h =
      let settled = settles_cases Keeps holds_in_name holds_in_path in
      let on : GoesOn s n → Holds all whole n = λ g.
      let m = g.0 in
      let k = g.2.0 in
      settled k n g.2.2 (holds_step all whole m k (inl g.2.1)
      (passed_cases Keeps holds_passed s m g.1 h)) in
      let back : Stuck s.here × GoesBack s n → Holds all whole n = λ g.
      let k = g.1.0 in
      settled k n g.1.2 (holds_step all whole s k (inr (g.0, g.1.1)) h) in
      ⊎_elim on back goes

fall_still : (a b c d p k m : ℕ) → b ≤ a → d ≤ c → b * m + (d * k + p) ≤ a * m + (c * k + p)
fall_still a b c d p k m x y = omega (arith, mul-le-mul_right m x, mul-le-mul_right k y)

module _ (pieces text : ℕ) where
  abbrev Lessens : State → State → Type 0
  Lessens s n = Within pieces text s
      → Within pieces text n × (work pieces text n ≤ work pieces text s)

  passed_lessens : (run : List ℕ) (ps : List Piece) (ts : List ℕ) (n p : Option Spot)
      → Lessens (st (at (literal run ++ ps) (run ++ ts)) n p) (st (at ps ts) n p)
  passed_lessens [] ps ts n p w = (w, omega arith)
  passed_lessens (b ∷ run) ps ts n p w =
      let one = byte_falls pieces text b (literal run ++ ps) (run ++ ts) n p w in
      let less = one.1 in
      let rest = passed_lessens run ps ts n p one.0 in
      let fewer = rest.1 in
      (rest.0, omega arith)

  in_name_lessens : (count : ℕ) (qs : List Piece) (ts : List ℕ) (p : Option Spot)
      → count ≤ length ts → All (λ b. b ≢ 47) (take count ts) → StuckBelow count qs ts
      → Lessens (starred qs ts p) (starred qs (drop count ts) p)
  in_name_lessens count qs ts p le clear none w =
      let h = w.name_text in
      let len = length-drop count ts in
      let less : length (drop count ts) ≤ length ts = omega arith in (
        record {
          here_pieces = w.here_pieces;
          name_pieces = w.name_pieces;
          path_pieces = w.path_pieces;
          here_text = omega arith;
          name_text = omega arith;
          path_text = w.path_text;
        },
        fall_still (text_left text p) (text_left text p) (length ts) (length (drop count ts))
            (length qs) (pieces + 1) ((text + 1) * (pieces + 1)) (omega arith) less,
      )

  in_path_lessens : (count : ℕ) (qs : List Piece) (ts : List ℕ) → count ≤ length ts
      → StuckBelow count qs ts → Lessens (twice_starred qs ts) (twice_starred qs (drop count ts))
  in_path_lessens count qs ts le none w =
      let h = w.path_text in
      let len = length-drop count ts in
      let less : length (drop count ts) ≤ length ts = omega arith in (
        record {
          here_pieces = w.here_pieces;
          name_pieces = w.name_pieces;
          path_pieces = w.path_pieces;
          here_text = omega arith;
          name_text = omega arith;
          path_text = omega arith;
        },
        fall_still (length ts) (length (drop count ts)) (length ts) (length (drop count ts))
            (length qs) (pieces + 1) ((text + 1) * (pieces + 1)) less less,
      )

  pub goes_falls : (s n : State) → Goes s n → Falls pieces text s n
  goes_falls s n goes w =
      let settled = settles_cases Lessens in_name_lessens in_path_lessens in
      let on : GoesOn s n → Within pieces text n × (work pieces text n < work pieces text s) = λ g.
      let m = g.0 in
      let k = g.2.0 in
      let first = passed_cases Lessens passed_lessens s m g.1 w in
      let second = step_falls pieces text m k (inl g.2.1) first.0 in
      let third = settled k n g.2.2 second.0 in
      let a = first.1 in
      let b = second.1 in
      let c = third.1 in
      (third.0, omega arith) in
      let back : Stuck s.here × GoesBack s n → Within pieces text n
      × (work pieces text n < work pieces text s) = λ g.
      let k = g.1.0 in
      let second = step_falls pieces text s k (inr (g.0, g.1.1)) w in
      let third = settled k n g.1.2 second.0 in
      let b = second.1 in
      let c = third.1 in
      (third.0, omega arith) in
      ⊎_elim on back goes
