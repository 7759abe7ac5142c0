-- Which fault a call hands on.
use Rattle.std.proofs.Common.{◌≡◌, ◌∙◌, sym, subst, Result, Ok, Err}
use Rattle.std.specs.Prelude.{IfErr, IsErrAnd}
use Rattle.std.specs.declared.alloc.AllocError.{AllocError}
use Rattle.desk_expr.specs.Tree.{Tree}
use Rattle.desk_alts.specs.declared.fault.AltFault.{AltFault}
use Rattle.desk_alts.specs.declared.fault.AltFault.TheVariants.{TooManyTerms, TooMany, Memory}
use Rattle.desk_alts.specs.Sets.{HasMoreTerms, HasWideFront}
use Rattle.desk_alts.specs.Faults.{IsFaultOf, IsWidthFaultOf}

-- lack of memory is a fault of each expression
pub memory_only : {T : Type 0} (P : AltFault → Type 0) → ((error : AllocError) → P (Memory error))
    → (r : Result T AltFault) (error : AllocError) → IsErrAnd r (λ f. f ≡ Memory error) → IfErr r P
memory_only P holds (Ok x) error h = tt
memory_only P holds (Err f) error h = subst P (sym h) (holds error)

pub handed_on : {T : Type 0} (P Q : AltFault → Type 0) → ((f : AltFault) → P f → Q f)
    → (r : Result T AltFault) (g : AltFault) → IsErrAnd r (λ f. f ≡ g) → P g → IfErr r Q
handed_on P Q weaker (Ok x) g h p = tt
handed_on P Q weaker (Err f) g h p = weaker f (subst P (sym h) p)

-- the fault of a part is one of the whole
pub width_fault : (x e : Tree) → (HasWideFront x → HasWideFront e) → (f : AltFault)
    → IsWidthFaultOf x f → IsWidthFaultOf e f
width_fault x e wide TooManyTerms h = h
width_fault x e wide TooMany h = wide h
width_fault x e wide (Memory error) h = tt

pub width_told : {T : Type 0} (e : Tree) (r : Result T AltFault) (g : AltFault)
    → IsErrAnd r (λ f. f ≡ g) → g ≡ TooMany → HasWideFront e → IfErr r (IsWidthFaultOf e)
width_told e (Ok x) g h is wide = tt
width_told e (Err f) g h is wide = subst (IsWidthFaultOf e) (sym (h ∙ is)) wide

-- if there are few terms, only the width counts
pub few_terms_fault : (e : Tree) → (HasMoreTerms 128 e → ⊥) → (f : AltFault) → IsWidthFaultOf e f
    → IsFaultOf e f
few_terms_fault e few TooManyTerms h = absurd h
few_terms_fault e few TooMany h = (few, h)
few_terms_fault e few (Memory error) h = tt
