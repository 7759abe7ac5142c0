-- Reading words as terms, one word at a time.
use Rattle.std.proofs.Common.{◌≡◌, ℕ, suc, ◌+◌, ◌<◌, List, [], ◌∷◌, ◌++◌, ◌⊎◌, length}
use Rattle.std.proofs.Common.{map, take, drop, get_or, Some, option_map, Bor, refl, sym, ap, subst}
use Rattle.std.proofs.Common.{◌∙◌, arith}
use Rattle.std.specs.Prelude.{slice_get, alloc_error}
use Rattle.std.proofs.Math.Seq.{take-suc, drop-cons}
use Rattle.std.proofs.lemmas.List.{map-append, length-map, take-append-drop}
use Rattle.std.proofs.lemmas.Option.{slice_get_within, slice_get-map, slice_get-get_or}
use Rattle.desk_expr.specs.declared.term.Term.{Term}
use Rattle.desk_expr.specs.Faults.{fault_number}
use Rattle.desk_base.specs.declared.profile.Profile.{Profile}
use Rattle.desk_expr.specs.declared.fault.ParseFault.{ParseFault}
use Rattle.desk_expr.specs.declared.fault.ParseFault.TheVariants.{Memory}
use Rattle.desk_expr.specs.Tree.{Tree}
use Rattle.desk_expr.specs.Grammar.{SpellsTree}
use Rattle.desk_expr.specs.Spelling.{SpellsWithinBy, SpellsTermWithin, IsStopBy, SpellsNoTerm}
use Rattle.desk_expr.proofs.FaultLemmas.{not_memory}
use Rattle.desk_subcommands.specs.Report.{SpellTerms, IsFirstBad, IsReport, IsVerdict, StopsWith}
use Rattle.desk_subcommands.specs.declared.report.Report.{Report}
use Rattle.desk_subcommands.specs.declared.report.Report.TheVariants.{Minimal, NotEnough, Superfluous, BadTerm, Fault}

-- the texts of borrowed words
abbrev pub texts : List (Bor (List ℕ)) → List (List ℕ)
texts words = map (λ w. w.now) words

spell_one_more : (words : List (List ℕ)) (terms : List Term) (word : List ℕ) (term : Term)
    → SpellTerms words terms → SpellsTermWithin word term
    → SpellTerms (words ++ word ∷ []) (terms ++ term ∷ [])
spell_one_more [] [] word term spell one = (one, tt)
spell_one_more [] (t ∷ ts) word term spell one = absurd spell
spell_one_more (w ∷ ws) [] word term spell one = absurd spell
spell_one_more (w ∷ ws) (t ∷ ts) word term spell one = (
  spell.0,
  spell_one_more ws ts word term spell.1 one,
)

-- there are as many words as terms
spell_same_length : (words : List (List ℕ)) (terms : List Term) → SpellTerms words terms
    → length words ≡ length terms
spell_same_length [] [] spell = refl
spell_same_length [] (t ∷ ts) spell = absurd spell
spell_same_length (w ∷ ws) [] spell = absurd spell
spell_same_length (w ∷ ws) (t ∷ ts) spell = ap suc (spell_same_length ws ts spell.1)

-- the words so far and the next one
pub spell_next : (words : List (Bor (List ℕ))) (i : ℕ) (d : Bor (List ℕ)) (terms : List Term)
    (term : Term) → i < length words
    → SpellTerms (texts (take i words)) terms → SpellsTermWithin (get_or words i d).now term
    → SpellTerms (texts (take (i + 1) words)) (terms ++ term ∷ [])
spell_next words i d terms term within spell one =
    let after : i + 1 ≡ suc i = omega arith in
    let more : texts (take (i + 1) words) ≡ texts (take i words) ++ (get_or words i d).now ∷ [] =
    ap (λ n. texts (take n words)) after
    ∙ (ap texts (take-suc words i d within)
    ∙ map-append (λ w. w.now) (take i words) (get_or words i d ∷ [])) in
    subst (λ (ws : List (List ℕ)). SpellTerms ws (terms ++ term ∷ [])) (sym more)
    (spell_one_more (texts (take i words)) terms (get_or words i d).now term spell one)

-- a bad word after words that spell terms is the first bad word
pub first_bad : (words : List (Bor (List ℕ))) (i : ℕ) (d : Bor (List ℕ)) (terms : List Term)
    → i < length words
    → SpellTerms (texts (take i words)) terms → SpellsNoTerm (get_or words i d).now
    → IsFirstBad (texts words) (get_or words i d).now
first_bad words i d terms within spell bad =
    let parts : words ≡ take i words ++ get_or words i d ∷ drop (suc i) words =
    sym (take-append-drop i words)
    ∙ ap (λ (l : List (Bor (List ℕ))). take i words ++ l) (drop-cons words i d within) in (
      texts (take i words),
      texts (drop (suc i) words),
      ap texts parts ∙ map-append (λ w. w.now) (take i words)
          (get_or words i d ∷ drop (suc i) words),
      (terms, spell),
      bad,
    )

-- the place of a term is also that of its word
pub word_at : (words : List (Bor (List ℕ))) (terms : List Term) (i : ℕ) (t : Term)
    → SpellTerms (texts words) terms → slice_get terms i ≡ Some t
    → i < length words
word_at words terms i t spell at =
    let same : length words ≡ length terms = sym (length-map words (λ w. w.now))
    ∙ spell_same_length (texts words) terms spell in
    let within : i < length terms = slice_get_within terms i t at in
    omega arith

-- the text of the word at a place
pub text_at : (words : List (Bor (List ℕ))) (i : ℕ) (d : Bor (List ℕ)) → i < length words
    → slice_get (texts words) i ≡ Some (get_or words i d).now
text_at words i d within = slice_get-map (λ w. w.now) words i
    ∙ ap (option_map (λ w. w.now)) (slice_get-get_or words i d within)

-- a fault that is reported
pub stops_with : (profile : Profile) (expression : List ℕ) (fault told : ParseFault) → told ≡ fault
    → 0 < fault_number fault → IsStopBy SpellsTree profile expression fault
    → (fault ≡ Memory alloc_error) ⊎ ((tree : Tree) → SpellsWithinBy profile expression tree → ⊥)
    → StopsWith profile expression told
stops_with profile expression fault told same is_told stop complete =
    subst (λ f. StopsWith profile expression f) (sym same)
    (not_memory fault is_told complete, is_told, stop)

-- a verdict for what the texts spell is the answer to them
pub verdict_reported : (profile : Profile) (expression : List ℕ) (words : List (List ℕ))
    (terms : List Term) (tree : Tree) (report : Report) → SpellsWithinBy profile expression tree
    → SpellTerms words terms → IsVerdict words terms tree report
    → IsReport profile expression words report
verdict_reported profile expression words terms tree Minimal spells spell is = (
  tree,
  terms,
  spells,
  spell,
  is,
)
verdict_reported profile expression words terms tree NotEnough spells spell is = (
  tree,
  terms,
  spells,
  spell,
  is,
)
verdict_reported profile expression words terms tree (Superfluous word) spells spell is = (
  tree,
  terms,
  spells,
  spell,
  is,
)
verdict_reported profile expression words terms tree (BadTerm word) spells spell is = absurd is
verdict_reported profile expression words terms tree (Fault fault) spells spell is = absurd is
