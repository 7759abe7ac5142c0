-- There is only one answer to an expression and words.
use Rattle.std.proofs.Common.{◌≡◌, ◌∙◌, inl, inr, ℕ, List, [], ◌∷◌, ◌++◌, unwrap_or, codes, Bor, sym, subst, ap, refl}
use Rattle.std.proofs.Math.Nat.{eq-or-lt_of_le}
use Rattle.std.proofs.lemmas.Bool.{cases_lt}
use Rattle.std.specs.Prelude.{slice_get, Some, Contains}
use Rattle.desk_base.specs.declared.profile.Profile.{Profile}
use Rattle.desk_base.specs.declared.profile.Profile.TheVariants.{Capitals}
use Rattle.desk_expr.specs.declared.fault.ParseFault.{ParseFault}
use Rattle.desk_expr.specs.declared.term.Term.{Term}
use Rattle.desk_expr.specs.Tree.{Tree}
use Rattle.desk_expr.specs.Spelling.{SpellsWithinBy, SpellsNoTerm}
use Rattle.desk_expr.specs.Meaning.{Holds, CanGo, IsFirst}
use Rattle.desk_expr.proofs.ParseLemmas.{one_within}
use Rattle.desk_expr.proofs.TermLemmas.{spells_term_once}
use Rattle.desk_alts.proofs.Minimal.{holds_more, not_minimal_if_can_go}
use Rattle.desk_subcommands.specs.Report.{IsFirstBad, IsReport, IsVerdict, SpellTerms}
use Rattle.desk_subcommands.specs.Report.{TellsOnce, status_of, text_of}
use Rattle.desk_subcommands.specs.declared.report.Report.{Report}
use Rattle.desk_subcommands.specs.declared.report.Report.TheVariants.{Minimal, NotEnough, Superfluous, BadTerm, Fault}
use Rattle.desk_alts.proofs.TreeStops.{one_stop}
use Rattle.desk_alts.proofs.Splits.{Cuts, two_cuts}

-- ---- the words

same_terms : (words : List (List ℕ)) (ts us : List Term) → SpellTerms words ts → SpellTerms words us
    → ts ≡ us
same_terms [] [] [] h k = refl
same_terms [] [] (u ∷ us) h k = absurd k
same_terms [] (t ∷ ts) us h k = absurd h
same_terms (w ∷ ws) [] us h k = absurd h
same_terms (w ∷ ws) (t ∷ ts) [] h k = absurd k
same_terms (w ∷ ws) (t ∷ ts) (u ∷ us) h k =
    let first = spells_term_once Capitals w t u h.0.1 k.0.1 in
    let rest = same_terms ws ts us h.1 k.1 in
    (λ i. first i ∷ rest i)

-- a word among words that spell terms spells one
no_bad_within : (front : List (List ℕ)) (bad : List ℕ) (behind : List (List ℕ)) (terms : List Term)
    → SpellTerms (front ++ bad ∷ behind) terms → SpellsNoTerm bad → ⊥
no_bad_within [] bad behind [] spell is = spell
no_bad_within [] bad behind (t ∷ ts) spell is = is t spell.0
no_bad_within (w ∷ front) bad behind [] spell is = spell
no_bad_within (w ∷ front) bad behind (t ∷ ts) spell is = no_bad_within front bad behind ts spell.1
    is

no_bad_word : (words : List (List ℕ)) (bad : List ℕ) (terms : List Term) → IsFirstBad words bad
    → SpellTerms words terms → ⊥
no_bad_word words bad terms (front, behind, parts, before, is) spell =
    no_bad_within front bad behind terms (subst (λ ws. SpellTerms ws terms) parts spell) is

one_first_bad : (words : List (List ℕ)) (a b : List ℕ) → IsFirstBad words a → IsFirstBad words b
    → a ≡ b
one_first_bad words a b (front, behind, parts, before, is) (other, rest, parts', before', is') =
    go (two_cuts front a behind other b rest (sym parts ∙ parts'))
  where
    go : Cuts front a other b → a ≡ b
    go (inl both) = both.1
    go (inr (inl (more, longer))) = absurd (no_bad_within front a more before'.0
        (subst (λ ws. SpellTerms ws before'.0) longer before'.1) is)
    go (inr (inr (more, longer))) = absurd (no_bad_within other b more before.0
        (subst (λ ws. SpellTerms ws before.0) longer before.1) is')

-- ---- the verdict

-- the lines and the statuses are the same
abbrev pub SameTold : Report → Report → Type 0
SameTold a b = (text_of a ≡ text_of b) × (status_of a ≡ status_of b)

module _ (words : List (List ℕ)) (terms : List Term) (tree : Tree) where
  enough_if_can_go : (i : ℕ) → CanGo terms tree i → Holds (Contains terms) tree
  enough_if_can_go i go = holds_more _ _ (λ t there. there.0) tree go.2

  one_first : (i j : ℕ) → IsFirst (CanGo terms tree) i → IsFirst (CanGo terms tree) j → i ≡ j
  one_first i j h k = elim (cases_lt i j) [
    | inl less ↦ absurd (k.1 i less h.0)
    | inr more ↦ elim (eq-or-lt_of_le more)
        [ inl same ↦ sym same | inr less ↦ absurd (h.1 j less k.0) ]
  ]

  one_verdict : (a b : Report) → IsVerdict words terms tree a → IsVerdict words terms tree b
      → SameTold a b
  one_verdict Minimal Minimal h k = (refl, refl)
  one_verdict Minimal NotEnough h k = absurd (k h.0)
  one_verdict Minimal (Superfluous v) h (
    j,
    at,
    first,
  ) = absurd (not_minimal_if_can_go terms tree j first.0 h)
  one_verdict Minimal (BadTerm v) h k = absurd k
  one_verdict Minimal (Fault g) h k = absurd k
  one_verdict NotEnough Minimal h k = absurd (h k.0)
  one_verdict NotEnough NotEnough h k = (refl, refl)
  one_verdict NotEnough (Superfluous v) h (j, at, first) = absurd (h (enough_if_can_go j first.0))
  one_verdict NotEnough (BadTerm v) h k = absurd k
  one_verdict NotEnough (Fault g) h k = absurd k
  one_verdict (Superfluous w) Minimal (
    i,
    at,
    first,
  ) k = absurd (not_minimal_if_can_go terms tree i first.0 k)
  one_verdict (Superfluous w) NotEnough (i, at, first) k = absurd (k (enough_if_can_go i first.0))
  one_verdict (Superfluous w) (Superfluous v) (i, at, first) (j, at', first') =
      let place : i ≡ j = one_first i j first first' in
      let found : Some w.now ≡ Some v.now = sym at ∙ (ap (λ n. slice_get words n) place ∙ at') in
      (ap (λ o. text_of (Superfluous (record w { now = unwrap_or o [] }))) found, refl)
  one_verdict (Superfluous w) (BadTerm v) h k = absurd k
  one_verdict (Superfluous w) (Fault g) h k = absurd k
  one_verdict (BadTerm w) b h k = absurd h
  one_verdict (Fault f) b h k = absurd h

-- ---- the answer

module _ (profile : Profile) (expression : List ℕ) (words : List (List ℕ)) where
  -- a verdict for what the texts spell
  abbrev Judged : Report → Type 0
  Judged report = (tree : Tree) × (terms : List Term) × SpellsWithinBy profile expression tree
      × SpellTerms words terms × IsVerdict words terms tree report

  one_judged : (a b : Report) → Judged a → Judged b → SameTold a b
  one_judged a b (tree, terms, spells, spell, is) (tree', terms', spells', spell', is') =
      let same_tree : tree' ≡ tree = one_within profile expression tree' tree spells' spells in
      let same : terms' ≡ terms = same_terms words terms' terms spell' spell in
      one_verdict words terms tree a b is
      (subst (λ t. IsVerdict words terms t b) same_tree
      (subst (λ ts. IsVerdict words ts tree' b) same is'))

  fault_or_bad : (f : ParseFault) → IsReport profile expression words (Fault f)
      → ((tree : Tree) × SpellsWithinBy profile expression tree) → ⊥
  fault_or_bad f h (tree, spells) = h.0 tree spells

  fault_or_judged : (f : ParseFault) (b : Report) → IsReport profile expression words (Fault f)
      → Judged b → ⊥
  fault_or_judged f b h (tree, terms, spells, spell, is) = h.0 tree spells

  bad_or_judged : (w : List ℕ) (b : Report) → IsFirstBad words w → Judged b → ⊥
  bad_or_judged w b bad (tree, terms, spells, spell, is) = no_bad_word words w terms bad spell

  from_fault : (f : ParseFault) (b : Report) → IsReport profile expression words (Fault f)
      → IsReport profile expression words b → SameTold (Fault f) b
  from_fault f Minimal h k = absurd (fault_or_judged f Minimal h k)
  from_fault f NotEnough h k = absurd (fault_or_judged f NotEnough h k)
  from_fault f (Superfluous v) h k = absurd (fault_or_judged f (Superfluous v) h k)
  from_fault f (BadTerm v) h k = absurd (fault_or_bad f h k.0)
  from_fault f (Fault g) h k = (
    ap (λ x. text_of (Fault x)) (one_stop profile expression f g h.1 k.1 h.2 k.2),
    refl,
  )

  from_bad : (w : Bor (List ℕ)) (b : Report) → IsReport profile expression words (BadTerm w)
      → IsReport profile expression words b → SameTold (BadTerm w) b
  from_bad w Minimal h k = absurd (bad_or_judged w.now Minimal h.1 k)
  from_bad w NotEnough h k = absurd (bad_or_judged w.now NotEnough h.1 k)
  from_bad w (Superfluous v) h k = absurd (bad_or_judged w.now (Superfluous v) h.1 k)
  from_bad w (BadTerm v) h k = (
    ap (λ x. codes "bad term: " ++ x) (one_first_bad words w.now v.now h.1 k.1),
    refl,
  )
  from_bad w (Fault g) h k = absurd (fault_or_bad g k h.0)

  from_judged : (a b : Report) → Judged a → IsReport profile expression words b → SameTold a b
  from_judged a Minimal h k = one_judged a Minimal h k
  from_judged a NotEnough h k = one_judged a NotEnough h k
  from_judged a (Superfluous v) h k = one_judged a (Superfluous v) h k
  from_judged a (BadTerm v) h k = absurd (bad_or_judged v.now a k.1 h)
  from_judged a (Fault g) h k = absurd (fault_or_judged g a k h)

  one_report : (a b : Report) → IsReport profile expression words a
      → IsReport profile expression words b → SameTold a b
  one_report Minimal b h k = from_judged Minimal b h k
  one_report NotEnough b h k = from_judged NotEnough b h k
  one_report (Superfluous w) b h k = from_judged (Superfluous w) b h k
  one_report (BadTerm w) b h k = from_bad w b h k
  one_report (Fault f) b h k = from_fault f b h k

-- there is only one line and one status
pub one_answer : (profile : Profile) (expression : List ℕ) (words : List (List ℕ))
    → TellsOnce profile expression words
one_answer profile expression words line other status another (a, is, text, number) (
  b,
  is',
  text',
  number',
) =
    let same = one_report profile expression words a b is is' in
    (text ∙ (same.0 ∙ sym text'), number ∙ (same.1 ∙ sym number'))
