use Rattle.std.proofs.Common.{◌≡◌, ◌∙◌, ℤ, find, subst, w64}
use Rattle.std.specs.Option.{option_copied}
use Rattle.std.proofs.lemmas.Int.{to_z-of_z}
use Rattle.desk_snapshot.specs.Rows.{is_attachment}
use Rattle.desk_audit_texts.proofs.Found.{found_is_any}
use Rattle.desk_audit_texts.proofs.held.is_attached.Goals as goal

pub returns : goal.returns
returns c =
    let found : option_copied c.find.result ≡ find (is_attachment c.args.release.now
    c.args.document) c.args.snapshot.now.attached =
    subst (λ (d : ℤ). option_copied c.find.result
    ≡ find (is_attachment c.args.release.now d) c.args.snapshot.now.attached)
    (to_z-of_z w64 c.args.document c.ranges.document) c.find.ensures in
    c.is_some.ensures ∙ found_is_any (is_attachment c.args.release.now c.args.document)
    c.args.snapshot.now.attached c.find.result found
