-- What the value of a licence field that was read says.
use Rattle.std.specs.Prelude.{◌≡◌, ℕ, ◌&&◌, List, Option, is_none}
use Rattle.std.specs.BTreeSet.{BTreeSet}
use denote.Ref.{Bor}
use Rattle.desk_base.specs.declared.profile.Profile.{Profile}
use Rattle.desk_expr.specs.Tree.{Tree}
use Rattle.desk_fields.specs.declared.tag.Tag.{Tag}
use Rattle.desk_fields.specs.declared.tag.Tag.TheVariants as tags
use Rattle.desk_fields.specs.Tags.{same_tag}
use Rattle.desk_tagvalue.specs.Parts.{DocumentText}
use Rattle.desk_findings.specs.declared.document.Licence.{Licence}
use Rattle.desk_findings.specs.declared.document.Told.{Told}
use Rattle.desk_findings.specs.Fields.{IsReading, uses_undefined}
use Rattle.desk_findings.specs.Known.{Defines}

-- whether it isn't an expression by the profile of operators, and whether it is a package's
-- conclusion that uses what no extracted licence defines
pub record Tells (profile : Profile) (defined : BTreeSet (Bor (List ℕ))) (tag : Tag)
    (value : List ℕ) (l : Licence) : Type 0 where
  pub bad : (reads : List ℕ → Option Tree) → IsReading profile reads
      → l.is_bad ≡ is_none (reads value)
  pub undefined : (reads : List ℕ → Option Tree) → IsReading profile reads → (d : DocumentText)
      → Defines d defined
      → l.is_undefined ≡ (same_tag tag tags.PackageConcluded && uses_undefined d (reads value))

-- the same for the one that was read last
abbrev pub IsTold : Profile → BTreeSet (Bor (List ℕ)) → Told → Type 0
IsTold profile defined t = Tells profile defined t.tag t.value.now t.licence
