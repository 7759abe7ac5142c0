-- Elements that are written once.
use Rattle.std.proofs.Common.{◌≡◌, ◌∙◌, ℕ, List, [], ◌∷◌, ◌++◌, Bool, true, false, cond, map}
use Rattle.std.proofs.Common.{Option, Some, None, refl, sym, subst, ap, append_assoc}
use Rattle.std.specs.Option.{option_or}
use Rattle.std.specs.BTreeMap.{BTreeMap, get_by_text}
use Rattle.std.specs.declared.alloc.Global.{Global}
use Rattle.std.specs.Prelude.{String}
use Rattle.std.proofs.lemmas.Grind.{flat_map-append}
use Rattle.std.specs.Str.{bytes_eq}
use Rattle.desk_base.proofs.Texts.{texts_equal}
use Rattle.desk_tagvalue.specs.Drafts.{spelled, text_of_lines}
use Rattle.std.specs.String.{string_bytes}
use Rattle.std.proofs.lemmas.List.{map-append}
use Rattle.desk_spdx_json.specs.declared.elements.Element.{Element}
use Rattle.desk_spdx_json.specs.declared.elements.Seen.{Seen}
use Rattle.desk_spdx_json.specs.Steps.{StepText, lines_in, lines_of}
use Rattle.desk_spdx_json.specs.Elements.{ElementText, Keeps, Sees, element_text, first_with, kept_if, kept_of, merged_after, read_of, seen_in, seen_text, steps_beside}

-- the text of one more step
pub read_more : (s : StepText) (steps : List StepText)
    → read_of (s ∷ steps) ≡ text_of_lines (lines_in s) ++ read_of steps
read_more s steps = flat_map-append spelled (lines_in s) (lines_of steps)

option_or_assoc : {A : Type 0} (a b c : Option A) → option_or (option_or a b) c ≡ option_or a (option_or b c)
option_or_assoc None b c = refl
option_or_assoc (Some x) b c = refl

option_or_none : {A : Type 0} (a : Option A) → option_or a None ≡ a
option_or_none None = refl
option_or_none (Some x) = refl

-- one more element
pub first_more : (id : List ℕ) (before : List ElementText) (e : ElementText)
    → first_with id (before ++ e ∷ []) ≡ option_or (first_with id before) (kept_if id e)
first_more id [] e = option_or_none (kept_if id e)
first_more id (x ∷ xs) e = ap (option_or (kept_if id x)) (first_more id xs e)
    ∙ sym (option_or_assoc (kept_if id x) (first_with id xs) (kept_if id e))

pub sees_more : (before : List ElementText) (e : ElementText)
    (old new : BTreeMap (String Global) Seen) → Sees before old → Keeps e old new
    → Sees (before ++ e ∷ []) new
sees_more before e old new sees keeps id =
    keeps id ∙ ap (λ o. option_or o (kept_if id e)) (sees id) ∙ sym (first_more id before e)

-- an element that a map hasn't yet is inserted
pub keeps_new : (e : ElementText) (old new : BTreeMap (String Global) Seen) (s : Seen)
    → seen_text s ≡ kept_of e → get_by_text old e.id ≡ None
    → ((id : List ℕ) → get_by_text new id ≡ cond (bytes_eq e.id id) (Some s) (get_by_text old id))
    → Keeps e old new
keeps_new e old new s is none updates id = step (bytes_eq e.id id) refl where
  step : (b : Bool) → bytes_eq e.id id ≡ b
      → seen_in new id ≡ option_or (seen_in old id) (kept_if id e)
  step true same =
      let here : e.id ≡ id = texts_equal e.id id same in
      let gone : get_by_text old id ≡ None = subst (λ i. get_by_text old i ≡ None) here none in
      let found : get_by_text new id ≡ Some s = updates id ∙ ap (λ b. cond b (Some s) (get_by_text old id)) same in
      rw (gone, found, same, is) refl
  step false other =
      let found : get_by_text new id ≡ get_by_text old id = updates id
      ∙ ap (λ b. cond b (Some s) (get_by_text old id)) other in
      rw (found, other) (sym (option_or_none (seen_in old id)))

-- the steps of one more element, and those that are still to come
pub merged_more : (before : List ElementText) (e : ElementText) (rest : List ElementText)
    (seen : BTreeMap (String Global) Seen) (old new all : List StepText) → Sees before seen
    → old ++ merged_after before (e ∷ rest) ≡ all
    → new ≡ old ++ steps_beside e (seen_in seen e.id)
    → new ++ merged_after (before ++ e ∷ []) rest ≡ all
merged_more before e rest seen old new all sees so_far added =
    ap (λ l. l ++ merged_after (before ++ e ∷ []) rest)
    (added ∙ ap (λ s. old ++ steps_beside e s) (sees e.id))
    ∙ append_assoc old (steps_beside e (first_with e.id before))
    (merged_after (before ++ e ∷ []) rest)
    ∙ so_far

pub merged_loop : (before : List Element) (e : Element) (items rest : List Element)
    (seen_old seen_new : BTreeMap (String Global) Seen) (old new all : List StepText)
    → items ≡ e ∷ rest → Sees (map element_text before) seen_old
    → Keeps (element_text e) seen_old seen_new
    → old ++ merged_after (map element_text before) (map element_text items) ≡ all
    → new ≡ old ++ steps_beside (element_text e) (seen_in seen_old (string_bytes e.id))
    → Sees (map element_text (before ++ e ∷ [])) seen_new
    × (new ++ merged_after (map element_text (before ++ e ∷ [])) (map element_text rest) ≡ all)
merged_loop before e items rest seen_old seen_new old new all is sees keeps so_far added =
    let more : map element_text (before ++ e ∷ []) ≡ map element_text before ++ element_text e ∷ []
    = map-append element_text before (e ∷ []) in (
      subst (λ es. Sees es seen_new) (sym more)
          (sees_more (map element_text before) (element_text e) seen_old seen_new sees keeps),
      subst (λ es. new ++ merged_after es (map element_text rest) ≡ all) (sym more)
          (merged_more (map element_text before) (element_text e) (map element_text rest) seen_old
          old new all sees
          (ap (λ es. old ++ merged_after (map element_text before) (map element_text es)) (sym is)
          ∙ so_far) added),
    )
