-- Where a match can begin with a run of literal bytes.
use Rattle.std.proofs.Common.{◌≡◌, ◌≢◌, ◌∙◌, inl, inr, ℕ, ◌+◌, ◌<◌, ◌≤◌, List, [], ◌∷◌, ◌++◌, length, take, drop}
use Rattle.std.proofs.Common.{sym, subst, ap, refl, arith, append-nil, length-drop}
use Rattle.std.proofs.Common.{get_or, length-take-le, take-append-drop, Bool, false, true, eqb}
use Rattle.std.proofs.Common.{true≢false}
use Rattle.std.specs.Prelude.{All, Some}
use Rattle.std.proofs.Math.Seq.{drop-append_seam}
use Rattle.std.proofs.lemmas.List.{length-take, get_or-take}
use Rattle.std.proofs.lemmas.Bool.Decides.{Decides-eqb}
use Rattle.std.proofs.lemmas.Slice.Eq.{starts_is}
use Rattle.std.specs.Cmp.Lexicographic.{pointwise}
use Rattle.memchr.specs.Find.{OccursAt}
use Rattle.desk_tree_patterns.specs.declared.glob.Piece.{Piece}
use Rattle.desk_tree_patterns.specs.declared.glob.Piece.TheVariants.{InName, InPath}
use Rattle.desk_tree_patterns.specs.declared.glob.Part.{Part}
use Rattle.desk_tree_patterns.specs.Glob.{IsMatch}
use Rattle.desk_tree_patterns.specs.Parts.{literal, pieces, first_run, later_bytes, star_piece}
use Rattle.desk_tree_patterns.specs.Steps.{Spot, State, Longer, NoLonger, Further, GoesOn}
use Rattle.desk_tree_patterns.specs.Steps.{GoesBack, SettlesInName, SettlesInPath}
use Rattle.desk_tree_patterns.proofs.Greedy.{at, st}
use Rattle.desk_tree_patterns.proofs.Needles.{order, occurs, cut_at}

-- a match of a run and more pieces begins with the run
pub literal_in : (run : List ℕ) (ps : List Piece) (ts : List ℕ) → IsMatch (literal run ++ ps) ts
    → (rest : List ℕ) × (ts ≡ run ++ rest) × IsMatch ps rest
literal_in [] ps ts m = (ts, refl, m)
literal_in (b ∷ run) ps ts m =
    let later = literal_in run ps m.1 m.4 in
    (later.0, m.2 ∙ ap (λ l. l ++ m.1) m.3 ∙ ap (λ l. b ∷ l) later.1, later.2)

-- a match of a run alone is the run
pub literal_all : (run ts : List ℕ) → IsMatch (literal run) ts → ts ≡ run
literal_all run ts m =
    let found = literal_in run [] ts (subst (λ ps. IsMatch ps ts) (sym (append-nil (literal run))) m)
    in
    found.1 ∙ ap (λ l. run ++ l) found.2 ∙ append-nil run

-- a match begins with the first run
run_in : (bytes : List ℕ) (parts : List Part) (ts : List ℕ) → IsMatch (pieces bytes parts) ts
    → (rest : List ℕ) × (ts ≡ first_run bytes parts ++ rest)
run_in bytes [] ts m = ([], literal_all bytes ts m ∙ sym (append-nil bytes))
run_in bytes (p ∷ ps) ts m = let found = literal_in (take p.before bytes) _ ts m in (found.0, found.1)

-- a run occurs where the text begins with it
begins_occurs : (run ts rest : List ℕ) (k : ℕ) → k ≤ length ts → drop k ts ≡ run ++ rest
    → OccursAt ts run k
begins_occurs run ts rest k le is =
    subst (OccursAt ts run) (length-take-le k ts le)
    (occurs ts (take k ts) run rest (sym (take-append-drop k ts) ∙ ap (λ l. take k ts ++ l) is))

-- so the first run does where a match begins
pub match_occurs : (bytes : List ℕ) (parts : List Part) (ts : List ℕ) (k : ℕ) → k ≤ length ts
    → IsMatch (pieces bytes parts) (drop k ts) → OccursAt ts (first_run bytes parts) k
match_occurs bytes parts ts k le m = let found = run_in bytes parts (drop k ts) m in
    begins_occurs (first_run bytes parts) ts found.0 k le found.1

-- a last run ends the text where a match begins
pub match_ends : (bytes : List ℕ) (parts : List Part) (ts : List ℕ) (k : ℕ) → k ≤ length ts
    → length parts ≡ 0 → IsMatch (pieces bytes parts) (drop k ts)
    → k + length (first_run bytes parts) ≡ length ts
match_ends bytes [] ts k le none m =
    let same = ap length (literal_all bytes (drop k ts) m) in
    let len = length-drop k ts in
    omega arith
match_ends bytes (p ∷ ps) ts k le none m = absurd (omega arith)

-- a run that occurs in a text occurs in a part of it that is long enough
pub occurs_within : (run ts window : List ℕ) (upto k : ℕ) → window ≡ take upto ts
    → k + length run ≤ upto → OccursAt ts run k → OccursAt window run k
occurs_within run ts window upto k is fits o =
    let inside = o.fits in
    let len = ap length is ∙ length-take upto ts in
    record {
      fits = omega arith;
      reads = λ j lt. ap (λ l. get_or l (k + j) 0) is
          ∙ get_or-take upto ts (k + j) 0 (omega arith) ∙ o.reads j lt;
    }

-- where a run occurs, the text begins with it
pub occurs_begins : (run ts : List ℕ) (k : ℕ) → OccursAt ts run k
    → (rest : List ℕ) × (drop k ts ≡ run ++ rest)
occurs_begins run ts k o =
    let inside = o.fits in
    let rest = drop (k + length run) ts in
    let len : length (take k ts) ≡ k = length-take-le k ts (omega arith) in (
      rest,
      ap (λ n. drop n ts) (sym len) ∙ ap (drop (length (take k ts))) (cut_at ts run k o)
          ∙ drop-append_seam (take k ts) (run ++ rest),
    )

-- no byte of a shorter front is one that none of a longer front is
pub clear_less : (ts : List ℕ) (m n : ℕ) → m ≤ n → n ≤ length ts → All (λ b. b ≢ 47) (take n ts)
    → All (λ b. b ≢ 47) (take m ts)
clear_less ts m n le fits h = λ k d lt.
    let short = length-take-le m ts (omega arith) in
    let long = length-take-le n ts fits in
    subst (λ b. b ≢ 47)
    (get_or-take n ts k d (omega arith) ∙ sym (get_or-take m ts k d (omega arith)))
    (h k d (omega arith))

-- a text that doesn't begin with the run is stuck
pub no_run : (bytes : List ℕ) (parts : List Part) (run ts : List ℕ) → run ≡ first_run bytes parts
    → ((rest : List ℕ) → ts ≢ run ++ rest) → IsMatch (pieces bytes parts) ts → ⊥
no_run bytes parts run ts is none m =
    let found = run_in bytes parts ts m in
    none found.0 (found.1 ∙ ap (λ l. l ++ found.0) (sym is))

-- a last run is all of the text, or stuck
pub no_part : (bytes : List ℕ) (parts : List Part) (ts : List ℕ) → length parts ≡ 0
    → ((parts ≡ []) × (ts ≡ bytes) → ⊥) → IsMatch (pieces bytes parts) ts → ⊥
no_part bytes [] ts is none m = none (refl, literal_all bytes ts m)
no_part bytes (p ∷ ps) ts is none m = absurd (omega arith)

-- the pieces up to the first star
pub to_star : (bytes : List ℕ) (parts : List Part) (p : Part) (ps : List Part) (run later : List ℕ)
    → parts ≡ p ∷ ps → run ≡ first_run bytes parts → later ≡ later_bytes bytes parts
    → pieces bytes parts ≡ literal run ++ (star_piece p.star ∷ pieces later ps)
to_star bytes parts p ps run later is first after =
    let front : run ≡ take p.before bytes = first ∙ ap (first_run bytes) is in
    let back : later ≡ drop p.before bytes = after ∙ ap (later_bytes bytes) is in
    ap (pieces bytes) is
    ∙ sym (ap (λ l. literal l ++ (star_piece p.star ∷ pieces later ps)) front
    ∙ ap (λ l. literal (take p.before bytes) ++ (star_piece p.star ∷ pieces l ps)) back)

-- a run and a `*` passed
pub past_star : (s n : State) (run : List ℕ) (b : Spot)
    → s.here.pieces ≡ literal run ++ (InName ∷ b.pieces) → s.here.text ≡ run ++ b.text
    → SettlesInName (st b (Some b) s.path) n → GoesOn s n
past_star s n run b pieces text settles = (
  st (at (InName ∷ b.pieces) b.text) s.name s.path,
  (run, pieces, text, refl, refl),
  (st b (Some b) s.path, inr (inl (refl, refl, refl, refl)), inl settles),
)

-- a run and a `**` passed
pub past_stars : (s n : State) (run : List ℕ) (b : Spot)
    → s.here.pieces ≡ literal run ++ (InPath ∷ b.pieces) → s.here.text ≡ run ++ b.text
    → SettlesInPath (st b (Some b) (Some b)) n → GoesOn s n
past_stars s n run b pieces text settles = (
  st (at (InPath ∷ b.pieces) b.text) s.name s.path,
  (run, pieces, text, refl, refl),
  (st b (Some b) (Some b), inr (inr (refl, refl, refl, refl)), inr settles),
)

-- back at a `*`, which takes one more byte
pub back_star : (s n : State) (b : Spot) → Longer s.name b → SettlesInName (st b (Some b) s.path) n
    → GoesBack s n
back_star s n b longer settles = (st b (Some b) s.path, inl (longer, refl, refl), inl settles)

-- back at a `**`, which goes on to the next name
pub back_stars : (s n : State) (b : Spot) → NoLonger s.name → Further s.path b
    → SettlesInPath (st b (Some b) (Some b)) n → GoesBack s n
back_stars s n b none further settles =
    (st b (Some b) (Some b), inr (none, further, refl, refl), inr settles)

run_fits : (run : List ℕ) → IsMatch (literal run) run
run_fits [] = refl
run_fits (b ∷ run) = (b ∷ [], run, refl, refl, run_fits run)

-- a last run that is all of the text matches
pub found_fits : (bytes : List ℕ) (parts : List Part) (ts : List ℕ) → (parts ≡ []) × (ts ≡ bytes)
    → IsMatch (pieces bytes parts) ts
found_fits bytes parts ts f =
    subst (λ ps. IsMatch (pieces bytes ps) ts) (sym f.0)
    (subst (IsMatch (literal bytes)) (sym f.1) (run_fits bytes))

pub no_parts : (parts : List Part) → length parts ≡ 0 → parts ≡ []
no_parts [] h = refl
no_parts (p ∷ ps) h = absurd (omega arith)

-- what is at none of the places before one, and not there, is at none before the next
pub none_upto : (P : ℕ → Type 0) (at : ℕ) → ((k : ℕ) → k < at → P k → ⊥) → (P at → ⊥) → (k : ℕ)
    → k < at + 1 → P k → ⊥
none_upto P at below here k lt p = elim (order at k) [
  | inl le ↦ let same : k ≡ at = omega arith in here (subst P same p)
  | inr less ↦ below k less p
]

-- a run doesn't occur where the text doesn't start with it
pub not_started : (run ts left : List ℕ) (k : ℕ) (told : Bool) → left ≡ drop k ts
    → told ≡ pointwise eqb run (take (length run) left) → told ≡ false → OccursAt ts run k → ⊥
not_started run ts left k told is value fails o =
    let found = occurs_begins run ts k o in
    true≢false (sym ((starts_is Decides-eqb left run told value).1 found.0 (is ∙ found.1)) ∙ fails)

-- and it does where the text starts with it
pub started : (run ts left : List ℕ) (k : ℕ) (told : Bool) → k ≤ length ts → left ≡ drop k ts
    → told ≡ pointwise eqb run (take (length run) left) → told ≡ true → OccursAt ts run k
started run ts left k told le is value holds = begins_occurs run ts (drop (length run) left) k le
    (sym is ∙ (starts_is Decides-eqb left run told value).0 holds)
