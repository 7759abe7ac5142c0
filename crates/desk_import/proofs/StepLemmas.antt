-- Steps that were written, and the first one that fails.
use Rattle.std.proofs.Common.{◌≡◌, ◌∙◌, ℕ, ◌+◌, ◌<◌, ◌⊎◌, inl, inr, List, [], ◌∷◌, ◌++◌, length}
use Rattle.std.proofs.Common.{get_or, take, drop, sym, subst, ap, map, append_assoc, append-nil}
use Rattle.std.specs.Prelude.{All}
use Rattle.std.proofs.lemmas.Grind.{flat_map-append}
use Rattle.std.proofs.lemmas.List.{map_more, map-append, drop_more, take-append-drop}
use Rattle.std.proofs.lemmas.List.Elements.{All-append, All-cons, All-nil}
use Rattle.desk_tagvalue.specs.Drafts.{spelled, text_of_lines}
use Rattle.desk_spdx_json.specs.declared.steps.Step.{Step}
use Rattle.desk_import.specs.declared.faults.ConvertFault.{ConvertFault}
use Rattle.desk_import.specs.declared.faults.ConvertFault.TheVariants as faults
use Rattle.desk_spdx_json.specs.Steps.{StepText, step_text}
use Rattle.desk_import.specs.Results.{Passes, Fails, IsStopped, IsPut}
use Rattle.desk_spdx_json.specs.Steps.{lines_in, lines_of}

cut_at : (i : ℕ) (steps : List Step) (d : Step) → i < length steps
    → map step_text steps ≡ map step_text (take i steps) ++ step_text (get_or steps i d)
    ∷ map step_text (drop (i + 1) steps)
cut_at i steps d lt =
    ap (map step_text) (sym (take-append-drop i steps)
    ∙ ap (λ l. take i steps ++ l) (drop_more steps i d lt))
    ∙ map-append step_text (take i steps) (get_or steps i d ∷ drop (i + 1) steps)

pub stopped_at : (steps : List Step) (i : ℕ) (d : Step) (fault : ConvertFault) → i < length steps
    → All Passes (map step_text (take i steps))
    → (fault ≡ faults.Memory) ⊎ Fails (step_text (get_or steps i d)) fault
    → IsStopped (map step_text steps) fault
stopped_at steps i d fault lt pass (inl m) = inl m
stopped_at steps i d fault lt pass (inr f) = inr (record {
  front = map step_text (take i steps);
  failing = step_text (get_or steps i d);
  back = map step_text (drop (i + 1) steps);
  are = cut_at i steps d lt;
  pass = pass;
  fails = f;
})

lines_more : (steps : List StepText) (s : StepText)
    → lines_of steps ++ lines_in s ≡ lines_of (steps ++ s ∷ [])
lines_more steps s = sym (ap (λ l. lines_of steps ++ l) (append-nil (lines_in s)))
    ∙ sym (flat_map-append lines_in steps (s ∷ []))

-- one more step
one_more : (old mid new : List ℕ) (steps : List StepText) (s : StepText) → IsPut old steps mid
    → new ≡ mid ++ text_of_lines (lines_in s) → Passes s → IsPut old (steps ++ s ∷ []) new
one_more old mid new steps s put grown passes = record {
  text =
      grown ∙ ap (λ t. t ++ text_of_lines (lines_in s)) put.text
      ∙ append_assoc old (text_of_lines (lines_of steps)) (text_of_lines (lines_in s))
      ∙ ap (λ t. old ++ t) (sym (flat_map-append spelled (lines_of steps) (lines_in s))
      ∙ ap text_of_lines (lines_more steps s));
  pass = All-append Passes steps (s ∷ []) put.pass (All-cons Passes s [] passes (All-nil Passes));
}

pub put_more : (old mid new : List ℕ) (steps : List Step) (i : ℕ) (d : Step) → i < length steps
    → IsPut old (map step_text (take i steps)) mid
    → new ≡ mid ++ text_of_lines (lines_in (step_text (get_or steps i d)))
    → Passes (step_text (get_or steps i d))
    → IsPut old (map step_text (take (i + 1) steps)) new
put_more old mid new steps i d lt put grown passes =
    subst (λ l. IsPut old l new) (sym (map_more step_text steps i d lt))
    (one_more old mid new (map step_text (take i steps)) (step_text (get_or steps i d)) put grown
    passes)
