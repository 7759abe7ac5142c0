use Rattle.std.proofs.Common.{◌≡◌, subst, [], ◌∷◌}
use Rattle.std.specs.Prelude.{IsTrue, ◌↔◌, map}
use Rattle.desk_fields.specs.Cutting.{behind_mark}
use Rattle.desk_fields.specs.Found.{field_text}
use Rattle.desk_tagvalue.specs.Written.{field_at}
use Rattle.desk_fields.specs.declared.fault.DocFault.TheVariants as faults
use Rattle.desk_tagvalue.proofs.WriteLemmas.{only_reading, no_reading}
use Rattle.desk_tagvalue.proofs.writing.is_read_back.Goals as goal

pub returns-in-Ok : goal.returns-in-Ok
returns-in-Ok c =
    let g = field_at 1 c.args.tag.now c.args.value.now in
    only_reading (behind_mark c.args.spelled.now) (map field_text c.in-Ok.found.items) g
    c.is_only.result c.in-Ok.ensures.ok
    (subst (λ l. IsTrue c.is_only.result ↔ (map field_text l ≡ g ∷ [])) c.deref.ensures.value
    c.is_only.ensures)

pub returns-in_default : goal.returns-in_default
returns-in_default c = no_reading (behind_mark c.args.spelled.now) c.in-Err.fault faults.Memory
    (field_at 1 c.args.tag.now c.args.value.now) c.in-Err.ensures.err c.in_default.not-Memory
