-- Which fault is reported for an expression.
use Rattle.std.specs.Prelude.{ℕ}
use Rattle.desk_base.specs.Limits.{listed_terms}
use Rattle.desk_expr.specs.Tree.{Tree}
use Rattle.desk_alts.specs.declared.fault.AltFault.{AltFault}
use Rattle.desk_alts.specs.declared.fault.AltFault.TheVariants.{TooManyTerms, TooMany, Memory}
use Rattle.desk_alts.specs.Sets.{HasMoreTerms, HasWideFront}

-- the expression can be listed: it has at most 128 distinct terms, and no front has more than 64
-- minimal sets
abbrev pub IsListable : Tree → Type 0
IsListable e = (HasMoreTerms listed_terms e → ⊥) × (HasWideFront e → ⊥)

-- the fault is the expression's, that of too many terms first; lack of memory says nothing about it
abbrev pub IsFaultOf : Tree → AltFault → Type 0
IsFaultOf e TooManyTerms = HasMoreTerms listed_terms e
IsFaultOf e TooMany = (HasMoreTerms listed_terms e → ⊥) × HasWideFront e
IsFaultOf e (Memory error) = Unit {0}

-- the same if there are few terms
abbrev pub IsWidthFaultOf : Tree → AltFault → Type 0
IsWidthFaultOf e TooManyTerms = ⊥
IsWidthFaultOf e TooMany = HasWideFront e
IsWidthFaultOf e (Memory error) = Unit {0}

-- 0 if there was no memory
abbrev pub fault_number : AltFault → ℕ
fault_number (Memory error) = 0
fault_number TooManyTerms = 1
fault_number TooMany = 2
