use Rattle.std.proofs.Common.{◌≡◌, ◌⊎◌, ◌∙◌, ap, sym, subst}
use Rattle.std.specs.Prelude.{Ok, Err, alloc_error}
use Rattle.desk_tree_annotations.specs.Reading.{annotations_of}
use Rattle.desk_tree_annotations.specs.declared.fault.AnnotationsFault.TheVariants.{Memory}
use Rattle.desk_tree_gather.specs.declared.fault.GatherFault.TheVariants.{BadToml}
use Rattle.desk_tree_gather.specs.Paths.{folder_of}
use Rattle.desk_tree_gather.specs.Shown.{file_of}
use Rattle.desk_tree_gather.proofs.TomlLemmas.{toml_no_text, toml_good, toml_fault}
use Rattle.desk_tree_gather.proofs.tomls.toml_of.Goals as goal

pub returns-in_default : goal.returns-in_default
returns-in_default c = λ r right.
    toml_no_text r (file_of c.args.file) c.in_default.ensures.cases.0
    ∙ ap (λ p. Err (BadToml p)) (sym c.in_ok-of.ensures)

pub returns-in-Ok-read : goal.returns-in-Ok-read
returns-in-Ok-read c = λ r right.
    let list = c.in-Ok-read.annotations.list in
    toml_good r (file_of c.args.file) list c.in-Ok.ensures.cases.1
    (ap (annotations_of r.reading) (sym c.in-Ok.ensures.cases.0)
    ∙ c.in-Ok-read.ensures.ok r.reading right.reading)
    ∙ (λ i. Ok (record {
      folder = sym (c.folder_of.ensures ∙ ap folder_of c.as_bytes.ensures.value) i;
      annotations = list;
    }))

pub returns-in_ok-fault-in-Err : goal.returns-in_ok-fault-in-Err
returns-in_ok-fault-in-Err c = λ r right.
    toml_fault r (file_of c.args.file) c.in-Err.fault c.in-Ok.ensures.cases.1
    c.in_ok-fault-in-Err.ensures.other
    (subst (λ t. (c.in-Err.fault ≡ Memory alloc_error)
    ⊎ (annotations_of r.reading t ≡ Err c.in-Err.fault)) c.in-Ok.ensures.cases.0
    (c.in-Err.ensures.err r.reading right.reading))
    ∙ ap Err (sym c.in_ok-fault-in-Err.ensures.told)
