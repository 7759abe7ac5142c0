use Rattle.std.proofs.Common.{◌≡◌, ℕ, List, [], ◌∷◌, refl, subst, sym}
use Rattle.std.specs.Prelude.{None, Result, Ok, Err}
use Rattle.std.specs.Iterator.{Yields}
use Rattle.desk_fields.specs.declared.fault.DocFault.{DocFault}
use Rattle.desk_fields.specs.declared.scan.Field.{Field}
use Rattle.desk_fields.specs.declared.scanner.Scanner.{Scanner}
use Rattle.desk_fields.specs.Pieces.{bytes_of}
use Rattle.desk_fields.specs.Cutting.{Reads}
use Rattle.desk_fields.specs.Found.{field_text}
use Rattle.desk_fields.specs.NextField.{Skips, here, further, FieldGiven, reading, EndsAtFault}
use Rattle.desk_fields.proofs.Loops.{reads_field, reads_end, reads_fault}
use Rattle.desk_fields.proofs.OneReading.{fails_some, not_nothing}
use Rattle.desk_base.proofs.LinesOnce.{line_some}
use Rattle.desk_fields.proofs.scanner.Scanner.of.Goals as goal

-- what `next` returns until it returns none is the reading of what is left
all_given : (given : List (Result Field DocFault)) (s last after : Scanner)
    → Yields FieldGiven s given last → FieldGiven last None after
    → Reads s.line s.rest.now (reading given)
all_given [] s last after same none = subst (λ (x : Scanner). Reads x.line x.rest.now (reading []))
    (sym same) (reads_end last.line last.rest.now none.0 none.1)
all_given (Ok f ∷ given) s last after (next, step, more) none =
    reads_field s.line s.rest.now (field_text f) next.line next.rest.now step.0 (reading given)
    (all_given given next last after more none)
all_given (Err fault ∷ given) s last after (next, step, more) none = reads_fault s.line s.rest.now
    fault step.0

-- nothing is skipped if nothing is left
skips_nothing : (line : ℕ) (text : List ℕ) (at : ℕ) (whole : List ℕ) → Skips line text at whole
    → text ≡ [] → whole ≡ []
skips_nothing line text at whole here e = e
skips_nothing line text at whole (further m w p end rest skips begins none) e =
    absurd (not_nothing w (skips_nothing line text m w skips e)
    (line_some w (bytes_of p) end rest begins.cut begins.ends))

nothing_given : (given : List (Result Field DocFault)) (s last : Scanner) → s.rest.now ≡ []
    → Yields FieldGiven s given last → given ≡ []
nothing_given [] s last none yields = refl
nothing_given (Ok f ∷ given) s last none (next, step, more) =
    let n = step.0 in
    absurd (not_nothing n.whole (skips_nothing s.line s.rest.now f.line n.whole n.skips none)
    (line_some n.whole (bytes_of n.piece) n.end next.rest.now n.begins.cut n.begins.ends))
nothing_given (Err fault ∷ given) s last none (next, step, more) =
    let n = step.0 in
    absurd (not_nothing n.whole (skips_nothing s.line s.rest.now n.at n.whole n.skips none)
    (fails_some n.at n.whole fault n.fails))

ends_at_fault : (given : List (Result Field DocFault)) (s last : Scanner)
    → Yields FieldGiven s given last → EndsAtFault given
ends_at_fault [] s last yields = tt
ends_at_fault (Ok f ∷ given) s last (next, step, more) = ends_at_fault given next last more
ends_at_fault (Err fault ∷ given) s last (next, step, more) = nothing_given given next last step.1
    more

pub returns-clause-fields : goal.returns-clause-fields
returns-clause-fields c = λ given drains. subst (λ t. Reads 1 t (reading given))
    c.behind_mark.ensures (all_given given _ drains.1.0 drains.0 drains.1.1 drains.1.2)

pub returns-clause-last : goal.returns-clause-last
returns-clause-last c = λ given drains. ends_at_fault given _ drains.1.0 drains.1.1
