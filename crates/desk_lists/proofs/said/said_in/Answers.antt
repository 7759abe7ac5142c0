use Rattle.std.proofs.Common.{ℕ, List, Option, Ok, Err}
use Rattle.std.specs.Prelude.{Result, IfOk}
use Rattle.std.specs.declared.alloc.AllocError.{AllocError}
use Rattle.desk_base.specs.declared.profile.Profile.{Profile}
use Rattle.desk_expr.specs.Tree.{Tree}
use Rattle.desk_tagvalue.specs.Documents.{Spells}
use Rattle.desk_tagvalue.specs.Parts.{DocumentText}
use Rattle.desk_lists.specs.Documents.{IsSaid, SaysOf}
use Rattle.desk_lists.specs.declared.said.Said.{Said}
use Rattle.desk_lists.proofs.said.said_in.Goals as goal

whole : (reads : Profile → List ℕ → Option Tree) (profile : Profile) (bytes : List ℕ)
    (d : DocumentText) (r : Result Said AllocError)
    → Spells bytes (Ok d) → IfOk r (SaysOf reads profile d) → IfOk r (IsSaid reads profile bytes)
whole reads profile bytes d (Ok said) spells says = (Ok d, spells, says)
whole reads profile bytes d (Err error) spells says = tt

pub returns-in-Ok : goal.returns-in-Ok
returns-in-Ok c = λ reads are. whole reads c.args.profile c.args.bytes.now _ c.said_of.result
    c.in-Ok.ensures.ok (c.said_of.ensures reads are)
