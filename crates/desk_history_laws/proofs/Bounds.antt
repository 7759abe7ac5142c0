-- Rows name what exists, and there is no more of it than may be.
use Rattle.std.proofs.Common.{◌≡◌, ℕ, ◌+◌, ◌≤◌, ◌<◌, Bool, true, List, [], ◌∷◌, ◌++◌, length}
use Rattle.std.proofs.Common.{Option, Some, None, subst, arith, inl}
use Rattle.std.proofs.Common.{inr}
use Rattle.std.proofs.lemmas.List.{length_push}
use Rattle.std.specs.Prelude.{IsTrue, is_some, Result, Ok, Err, find, nat_lt, not, ◌||◌, ◌==◌}
use Rattle.std.specs.List.{list_any}
use Rattle.std.specs.Option.{option_and_then, option_map}
use Rattle.std.specs.Result.{result_err}
use Rattle.std.specs.Str.{bytes_eq}
use Rattle.desk_base.specs.Limits as most
use Rattle.desk_base.proofs.Bools.{and_right}
use Rattle.desk_base.proofs.Numbers.{numbers_equal}
use Rattle.desk_model.specs.Lists.{IsIn}
use Rattle.desk_model.specs.Readings.{Readings}
use Rattle.desk_model.specs.Texts.{is_release_name}
use Rattle.desk_model.specs.Keys.{adoption_order, attached_order, below_by, conclusion_order}
use Rattle.desk_model.specs.Keys.{has_namespace, is_adoption, is_attachment, is_conclusion}
use Rattle.desk_model.specs.History.{attached, documents, opened}
use Rattle.desk_model.specs.History.{revisions}
use Rattle.desk_model.specs.Conclusions.{adoption_row, adoptions, conclusion_row, conclusions, is_plain, is_reference}
use Rattle.desk_model.specs.Answers.{adopting, answer, attaching, concluding, has_document}
use Rattle.desk_model.specs.Answers.{import_answer, importing, is_recorded, IsHistory, loading}
use Rattle.desk_model.specs.Answers.{opening, taken, unless}
use Rattle.desk_model.specs.declared.command.Command.{Command}
use Rattle.desk_model.specs.declared.command.Command.TheVariants.{Adopt, Attach, Conclude}
use Rattle.desk_model.specs.declared.command.Command.TheVariants.{Import, LoadCatalogue}
use Rattle.desk_model.specs.declared.command.Command.TheVariants.{OpenRelease}
use Rattle.desk_model.specs.declared.reading.Document.{Document}
use Rattle.desk_model.specs.declared.refusal.CatalogueFault.{CatalogueFault}
use Rattle.desk_model.specs.declared.refusal.DocumentFault.{DocumentFault}
use Rattle.desk_model.specs.declared.refusal.ExpressionFault.{ExpressionFault}
use Rattle.desk_model.specs.declared.refusal.Limit.TheVariants as limit
use Rattle.desk_model.specs.declared.refusal.Refusal.TheVariants as why
use Rattle.desk_model.specs.declared.row.AdoptionRow.{AdoptionRow}
use Rattle.desk_model.specs.declared.row.AttachedRow.{AttachedRow}
use Rattle.desk_model.specs.declared.row.ConclusionRow.{ConclusionRow}
use Rattle.desk_model.specs.declared.row.DocumentRow.{DocumentRow}
use Rattle.desk_model.proofs.Lists.{one_passes, from_put}
use Rattle.desk_history.proofs.Recorded.{is_so, past}
use Rattle.desk_history.proofs.Moving.{less_by}
use Rattle.desk_history_laws.proofs.Concluded.{from_replaced}
use Rattle.desk_history_laws.proofs.Distinct.{is_new, row_of}
use Rattle.desk_history_laws.proofs.Bills.{documents_grow, document_within}

-- ---- how many there are

pub few_revisions : (w : Readings) (h : List Command) → IsHistory w h
    → length (revisions h) ≤ most.revisions
few_revisions w [] ok = omega arith
few_revisions w (LoadCatalogue text ∷ h) ok =
    let found = loading h in
    let one = past (option_map (λ (fault : CatalogueFault). why.BadCatalogue fault)
    (result_err (w.catalogue text))) _ ok.0 in
    let two = past (unless (nat_lt found.revisions most.revisions) (why.Full limit.Revisions)) _
    one.1 in
    let room = less_by found.revisions most.revisions
    (is_so (nat_lt found.revisions most.revisions) (why.Full limit.Revisions) two.0) in
    omega (
      arith,
      room,
      length_push (revisions h) (record { revision = length (revisions h) + 1; body = text }),
    )
few_revisions w (c ∷ h) ok = few_revisions w h ok.1

no_other : (o : Option DocumentRow) (b : Bool) → o ≡ None → (is_some o || b) ≡ true → b ≡ true
no_other None b e f = f
no_other (Some row) b e f = cc

pub few_documents : (w : Readings) (h : List Command) → IsHistory w h
    → length (documents w h) ≤ most.documents
few_documents w [] ok = omega arith
few_documents w (Import bytes profile ∷ h) ok =
    omega (
      arith,
      room (w.document bytes) ok.0,
      length_push (documents w h)
          (row_of w h bytes profile),
    )
  where
    room : (read : Result Document DocumentFault)
        → IsTrue (is_recorded (import_answer read bytes (importing w h)))
        → length (documents w h) < most.documents
    room (Err fault) e = cc
    room (Ok d) e =
        let old = find (has_namespace d.namespace) (documents w h) in
        let one = past (option_map (λ (fault : DocumentFault). why.BadDocument fault)
        (result_err (Ok d))) _ e in
        let two = past (option_and_then (taken bytes) old) _ one.1 in
        let three = past (unless (is_some old || nat_lt (length (documents w h)) most.documents)
        (why.Full limit.Documents)) _ two.1 in
        less_by (length (documents w h)) most.documents
        (no_other old (nat_lt (length (documents w h)) most.documents)
        (is_new bytes (importing w h) (Ok d) e)
        (is_so (is_some old || nat_lt (length (documents w h)) most.documents)
        (why.Full limit.Documents) three.0))
few_documents w (c ∷ h) ok = few_documents w h ok.1

pub few_opened : (w : Readings) (h : List Command) → IsHistory w h
    → length (opened h) ≤ most.releases
few_opened w [] ok = omega arith
few_opened w (OpenRelease r form ∷ h) ok =
    let found = opening w h r in
    let one = past (unless (is_release_name r) why.BadName) _ ok.0 in
    let two = past (unless (list_any (bytes_eq form) found.forms) why.UnknownForm) _ one.1 in
    let three = past (unless (not found.is_taken) why.NameTaken) _ two.1 in
    let four = past (unless (nat_lt found.releases most.releases) (why.Full limit.Releases)) _
    three.1 in
    let room = less_by found.releases most.releases
    (is_so (nat_lt found.releases most.releases) (why.Full limit.Releases) four.0) in
    omega (arith, room)
few_opened w (c ∷ h) ok = few_opened w h ok.1

-- ---- what is loaded and imported

-- ---- what later commands leave

pub later_documents : (w : Readings) (later h : List Command)
    → length (documents w h) ≤ length (documents w (later ++ h))
later_documents w [] h = omega arith
later_documents w (c ∷ later) h = omega
    (arith, later_documents w later h, documents_grow w c (later ++ h))

-- ---- documents that commands name

attach_knows : (w : Readings) (h : List Command) (r : List ℕ) (d : ℕ)
    → IsTrue (is_recorded (answer w h (Attach r d))) → d ≤ length (documents w h)
attach_knows w h r d e =
    let found = attaching w h r d in
    let one = past (unless (is_some found.state) why.UnknownRelease) _ e in
    let two = past (unless found.has_document why.UnknownDocument) _ one.1 in
    document_within w h d (is_so found.has_document why.UnknownDocument two.0)

conclude_knows : (w : Readings) (h : List Command) (d : ℕ) (p text : List ℕ)
    → IsTrue (is_recorded (answer w h (Conclude d p text))) → d ≤ length (documents w h)
conclude_knows w h d p text e =
    let found = concluding w h d p text in
    let one = past (option_map (λ (fault : ExpressionFault). why.BadExpression fault) found.fault) _
    e in
    let two = past (unless found.has_document why.UnknownDocument) _ one.1 in
    document_within w h d (is_so found.has_document why.UnknownDocument two.0)

adopt_knows : (w : Readings) (h : List Command) (d : ℕ) (reference licence : List ℕ)
    → IsTrue (is_recorded (answer w h (Adopt d reference licence))) → d ≤ length (documents w h)
adopt_knows w h d reference licence e =
    let found = adopting w h d reference licence in
    let one = past (unless (is_reference w reference) (why.BadTerm 0)) _ e in
    let two = past (unless (is_plain w licence) (why.BadTerm 1)) _ one.1 in
    let three = past (unless found.has_document why.UnknownDocument) _ two.1 in
    document_within w h d (is_so found.has_document why.UnknownDocument three.0)

kept_documents : (w : Readings) (c : Command) (h : List Command) (n : ℕ)
    → n ≤ length (documents w h) → n ≤ length (documents w (c ∷ h))
kept_documents w c h n le = omega (arith, le, documents_grow w c h)

pub conclusions_within : (w : Readings) (h : List Command) → IsHistory w h → (row : ConclusionRow)
    → IsIn row (conclusions h) → row.document ≤ length (documents w h)
conclusions_within w [] ok row m = absurd m
conclusions_within w (Conclude d p text ∷ h) ok row m =
    from_replaced (below_by conclusion_order) (is_conclusion d p) (conclusion_row d p text) row
    (conclusions h) (λ (row : ConclusionRow). row.document ≤ length (documents w h))
    (conclude_knows w h d p text ok.0) (conclusions_within w h ok.1 row) m
conclusions_within w (c ∷ h) ok row m = kept_documents w c h row.document
    (conclusions_within w h ok.1 row m)

pub adoptions_within : (w : Readings) (h : List Command) → IsHistory w h → (row : AdoptionRow)
    → IsIn row (adoptions w h) → row.document ≤ length (documents w h)
adoptions_within w [] ok row m = absurd m
adoptions_within w (Adopt d reference licence ∷ h) ok row m =
    let new = adoption_row w d reference licence in
    from_replaced (below_by adoption_order) (is_adoption d new.reference) new row (adoptions w h)
    (λ (row : AdoptionRow). row.document ≤ length (documents w h))
    (adopt_knows w h d reference licence ok.0) (adoptions_within w h ok.1 row) m
adoptions_within w (c ∷ h) ok row m = kept_documents w c h row.document
    (adoptions_within w h ok.1 row m)

pub attached_within : (w : Readings) (h : List Command) → IsHistory w h → (row : AttachedRow)
    → IsIn row (attached h) → row.document ≤ length (documents w h)
attached_within w [] ok row m = absurd m
attached_within w (Attach r d ∷ h) ok row m =
    elim (from_put (below_by attached_order) (record { release = r; document = d }) row (attached h)
    m) [
      | inl same ↦ subst (λ (row : AttachedRow). row.document ≤ length (documents w h)) same
          (attach_knows w h r d ok.0)
      | inr old ↦ attached_within w h ok.1 row old
    ]
attached_within w (c ∷ h) ok row m = kept_documents w c h row.document
    (attached_within w h ok.1 row m)

-- a document that is attached exists
pub attachment_within : (w : Readings) (h : List Command) → IsHistory w h → (r : List ℕ) (d : ℕ)
    → list_any (is_attachment r d) (attached h) ≡ true → d ≤ length (documents w h)
attachment_within w h ok r d e =
    let at = one_passes (is_attachment r d) (attached h) e in
    let same = numbers_equal at.0.document d
    (and_right (bytes_eq at.0.release r) (at.0.document == d) at.2) in
    omega (arith, attached_within w h ok at.0 at.1, same)

-- ---- releases
