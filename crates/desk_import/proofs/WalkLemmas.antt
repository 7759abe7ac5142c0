-- The places of lines, by the steps that a walk passes.
use Rattle.std.proofs.Common.{◌≡◌, ◌∙◌, ℕ, ◌+◌, ◌-◌, ◌<◌, ◌≤◌, List, ◌∷◌, length, get_or, drop, ap, sym}
use Rattle.std.proofs.Common.{arith, cond}
use Rattle.std.specs.Prelude.{Bool, Option, Some, map, option_map}
use Rattle.std.proofs.lemmas.Bool.{le-ltb, lt-ltb}
use Rattle.std.proofs.Math.ListN.{drop_of_length-le}
use Rattle.std.proofs.Math.Seq.{drop-length}
use Rattle.std.proofs.lemmas.List.{drop_more}
use Rattle.desk_spdx_json.specs.declared.steps.Step.{Step}
use Rattle.desk_spdx_json.specs.Steps.{StepText, step_text}
use Rattle.desk_import.specs.Places.{first_place, line_count, place_of, step_of}

-- behind the lines of a step are those of the others
pub step_of_skip : (s : StepText) (steps : List StepText) (n : ℕ)
    → step_of (s ∷ steps) (line_count s + n) ≡ step_of steps n
step_of_skip s steps n =
    let back : line_count s + n - line_count s ≡ n = omega arith in
    ap (λ (b : Bool). cond b (Some s) (step_of steps (line_count s + n - line_count s)))
    (le-ltb (line_count s + n) (line_count s) (omega arith))
    ∙ ap (step_of steps) back

-- a line that the first step writes
pub step_of_stop : (s : StepText) (steps : List StepText) (left : ℕ) → left < line_count s
    → step_of (s ∷ steps) left ≡ Some s
step_of_stop s steps left lt =
    ap (λ (b : Bool). cond b (Some s) (step_of steps (left - line_count s)))
    (lt-ltb left (line_count s) lt)

skips : (s : StepText) (steps : List StepText) (n : ℕ)
    → place_of (s ∷ steps) (line_count s + n) ≡ place_of steps n
skips s steps n = ap (option_map (λ (t : StepText). t.at)) (step_of_skip s steps n)

stops : (s : StepText) (steps : List StepText) (left : ℕ) → left < line_count s
    → place_of (s ∷ steps) left ≡ Some s.at
stops s steps left lt = ap (option_map (λ (t : StepText). t.at)) (step_of_stop s steps left lt)

-- the steps from one on have the lines behind those that were passed
abbrev pub Behind : List Step → List Step → ℕ → Type 0
Behind steps rest passed = (n : ℕ)
    → place_of (map step_text steps) (passed + n) ≡ place_of (map step_text rest) n

pub behind_none : (steps : List Step) (passed : ℕ) → passed ≡ 0 → Behind steps steps passed
behind_none steps passed none n =
    let same : passed + n ≡ n = omega arith in
    ap (place_of (map step_text steps)) same

pub behind_more : (steps : List Step) (i : ℕ) (d : Step) (lines left count : ℕ) → i < length steps
    → left ≤ lines → count ≤ left → count ≡ line_count (step_text (get_or steps i d))
    → Behind steps (drop i steps) (lines - left)
    → Behind steps (drop (i + 1) steps) (lines - (left - count))
behind_more steps i d lines left count lt within few is behind n =
    let s = step_text (get_or steps i d) in
    let rest = map step_text (drop (i + 1) steps) in
    let there : lines - (left - count) + n ≡ lines - left + (count + n) = omega arith in
    ap (place_of (map step_text steps)) there ∙ behind (count + n)
    ∙ ap (λ l. place_of (map step_text l) (count + n)) (drop_more steps i d lt)
    ∙ ap (λ k. place_of (s ∷ rest) (k + n)) is ∙ skips s rest n

-- the step that writes the line is the first of the others
pub here_at : (steps : List Step) (i : ℕ) (d : Step) (lines left : ℕ) → i < length steps
    → left ≤ lines → left < line_count (step_text (get_or steps i d))
    → Behind steps (drop i steps) (lines - left)
    → place_of (map step_text steps) lines ≡ first_place (map step_text (drop i steps))
here_at steps i d lines left lt within short behind =
    let s = step_text (get_or steps i d) in
    let rest = map step_text (drop (i + 1) steps) in
    let there : lines ≡ lines - left + left = omega arith in
    ap (place_of (map step_text steps)) there ∙ behind left
    ∙ ap (λ l. place_of (map step_text l) left) (drop_more steps i d lt)
    ∙ stops s rest left short
    ∙ sym (ap (λ l. first_place (map step_text l)) (drop_more steps i d lt))

-- a walk goes on from where it is
pub behind_on : (steps rest more : List Step) (passed lines left : ℕ) → passed ≤ lines
    → left ≤ lines - passed → Behind steps rest passed → Behind rest more (lines - passed - left)
    → Behind steps more (lines - left)
behind_on steps rest more passed lines left before within first second n =
    let there : lines - left + n ≡ passed + (lines - passed - left + n) = omega arith in
    ap (place_of (map step_text steps)) there ∙ first (lines - passed - left + n) ∙ second n

pub here_on : (steps rest : List Step) (passed lines : ℕ) (found : Option (List ℕ))
    → passed ≤ lines → Behind steps rest passed
    → place_of (map step_text rest) (lines - passed) ≡ found
    → place_of (map step_text steps) lines ≡ found
here_on steps rest passed lines found before behind there =
    let at : lines ≡ passed + (lines - passed) = omega arith in
    ap (place_of (map step_text steps)) at ∙ behind (lines - passed) ∙ there

-- no step writes the line
pub past_all : (steps : List Step) (i lines left : ℕ) → length steps ≤ i → left ≤ lines
    → Behind steps (drop i steps) (lines - left)
    → place_of (map step_text steps) lines
    ≡ first_place (map step_text (drop (length steps) steps))
past_all steps i lines left past within behind =
    let there : lines ≡ lines - left + left = omega arith in
    ap (place_of (map step_text steps)) there ∙ behind left
    ∙ ap (λ l. place_of (map step_text l) left) (drop_of_length-le steps past)
    ∙ sym (ap (λ l. first_place (map step_text l)) (drop-length steps))
