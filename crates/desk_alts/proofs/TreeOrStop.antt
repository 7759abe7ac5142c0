-- A text spells a tree or stops, and never both.
use Rattle.std.proofs.Common.{◌⊎◌, inl, inr, ap, ℕ, ◌<◌, List, arith}
use Rattle.desk_base.specs.declared.profile.Profile.{Profile}
use Rattle.desk_expr.specs.declared.fault.ParseFault.{ParseFault}
use Rattle.desk_expr.specs.Faults.{fault_number}
use Rattle.desk_expr.specs.Tree.{Tree}
use Rattle.desk_expr.specs.Grammar.{SpellsTree}
use Rattle.desk_expr.specs.Spelling.{IsStopBy, SpellsWithinBy}
use Rattle.desk_expr.proofs.ParseLemmas.{stop_spells_nothing}
use Rattle.desk_alts.proofs.Texts.{tree_of_text}
use Rattle.desk_alts.proofs.TreeStops.{some_stop}

-- a stop that isn't lack of memory
abbrev pub Stop : Profile → List ℕ → Type 0
Stop profile text = (f : ParseFault) × IsStopBy SpellsTree profile text f × (0 < fault_number f)

abbrev pub TreeOrStop : Profile → List ℕ → Type 0
TreeOrStop profile text = ((e : Tree) × SpellsWithinBy profile text e) ⊎ Stop profile text

pub tree_or_stop : (profile : Profile) (text : List ℕ) → TreeOrStop profile text
tree_or_stop profile text = elim (tree_of_text profile text) [
  | inl found ↦ inl found
  | inr none ↦ (let stop = some_stop profile text none in inr (stop.0, stop.2, stop.1))
]

pub stops_spell_nothing : (profile : Profile) (text : List ℕ) (f : ParseFault) (e : Tree)
    → 0 < fault_number f → IsStopBy SpellsTree profile text f → SpellsWithinBy profile text e → ⊥
stops_spell_nothing profile text f e told stop within = elim (stop_spells_nothing profile text f
    stop) [
      | inl memory ↦ absurd (omega (arith, told, ap fault_number memory))
      | inr none ↦ none e within
    ]
