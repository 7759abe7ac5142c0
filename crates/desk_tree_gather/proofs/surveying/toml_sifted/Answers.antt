use Rattle.std.proofs.Common.{◌∙◌, ◌++◌, ap, map, subst, sym}
use Rattle.std.proofs.lemmas.List.{append-nil}
use Rattle.desk_tree_annotations.specs.Reading.{annotations_of}
use Rattle.desk_tree_annotations.specs.Sifting.{good_annotations, annotation_faults, Agrees}
use Rattle.desk_tree_gather.specs.Blanks.{blanks_read}
use Rattle.desk_tree_gather.specs.Paths.{folder_of}
use Rattle.desk_tree_gather.specs.Survey.{flaw_of}
use Rattle.desk_tree_gather.specs.Shown.{file_of}
use Rattle.desk_tree_gather.proofs.BlankLemmas.{agrees_annotations, blanks_no_text, blanks_text}
use Rattle.desk_tree_gather.proofs.SurveyLemmas.{sifted_no_text, flaws_no_text, sifted_text, flaws_text}
use Rattle.desk_tree_gather.proofs.surveying.toml_sifted.Goals as goal

pub returns-in_default-clause-toml : goal.returns-in_default-clause-toml
returns-in_default-clause-toml c = λ r right.
    sifted_no_text r (file_of c.args.file) c.folder_of-folder.result.now c.new.result
    c.in_default.ensures.cases.0 (c.folder_of-folder.ensures
    ∙ ap folder_of c.as_bytes.ensures.value) c.new.ensures

pub returns-in_default-clause-flaws : goal.returns-in_default-clause-flaws
returns-in_default-clause-flaws c = λ r right.
    c.in_ok-push.ensures.ok ∙ ap (λ l. c.args.flaws.now ++ l)
    (flaws_no_text r (file_of c.args.file) c.in_ok-of.field-0 c.in_default.ensures.cases.0
    c.in_ok-of.ensures)

pub returns-clause-toml : goal.returns-clause-toml
returns-clause-toml c = λ r right.
    sifted_text r (file_of c.args.file) c.folder_of-folder.result.now
    c.in_ok-annotations.field-0.annotations c.in-Ok.ensures.cases.1
    (c.folder_of-folder.ensures ∙ ap folder_of c.as_bytes.ensures.value)
    (c.in_ok-annotations.ensures.annotations r.reading right.reading
    ∙ ap (good_annotations r.reading) c.in-Ok.ensures.cases.0)

pub returns-clause-flaws : goal.returns-clause-flaws
returns-clause-flaws c = λ r right.
    c.in_ok-add_faults.ensures
    ∙ ap (λ p. c.args.flaws.now ++ map (flaw_of p) c.as_slice.result.now) c.in_ok-path.ensures
    ∙ ap (λ l. c.args.flaws.now ++ l)
    (ap (map (flaw_of c.args.file.path.now)) c.as_slice.ensures
    ∙ flaws_text r (file_of c.args.file) c.in_ok-annotations.field-0.faults c.in-Ok.ensures.cases.1
    (c.in_ok-annotations.ensures.faults r.reading right.reading
    ∙ ap (annotation_faults r.reading) c.in-Ok.ensures.cases.0))

pub returns-in_default-clause-blanks : goal.returns-in_default-clause-blanks
returns-in_default-clause-blanks c = λ r right.
    sym (ap (λ l. c.args.blanks.now ++ l)
    (blanks_no_text r.reading (file_of c.args.file) c.in_default.ensures.cases.0)
    ∙ append-nil c.args.blanks.now)

pub returns-clause-blanks : goal.returns-clause-blanks
returns-clause-blanks c = λ r right.
    let f = file_of c.args.file in
    let read = annotations_of r.reading f.bytes in
    let faults = c.as_slice-2.ensures ∙ c.in_ok-annotations.ensures.faults r.reading right.reading
    ∙ ap (annotation_faults r.reading) c.in-Ok.ensures.cases.0 in
    let list = c.as_slice-3.ensures
    ∙ c.in_ok-annotations.ensures.annotations r.reading right.reading
    ∙ ap (good_annotations r.reading) c.in-Ok.ensures.cases.0 in
    let agrees = subst (λ l. Agrees read l c.as_slice-3.result.now) (sym faults)
    (subst (λ l. Agrees read (annotation_faults r.reading f.bytes) l) (sym list)
    (agrees_annotations r.reading f.bytes)) in
    c.in_ok-add_blanks.ensures read agrees
    ∙ ap (λ p. c.args.blanks.now ++ blanks_read p read) c.in_ok-path.ensures
    ∙ ap (λ l. c.args.blanks.now ++ l) (blanks_text r.reading f c.in-Ok.ensures.cases.1)
