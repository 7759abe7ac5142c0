use Rattle.std.proofs.Common.{◌≡◌, ◌∙◌, ◌++◌, ◌∷◌, [], ℕ, List, ap, ap₂, map, subst, sym}
use Rattle.std.specs.List.{flat_map}
use Rattle.std.proofs.lemmas.List.{append-nil, map-append}
use Rattle.std.proofs.lemmas.List.Concat.{flat_map-append}
use Rattle.desk_model.specs.Bills.{bill_line, package_texts, texts_named}
use Rattle.desk_model.specs.declared.bill.BillLine.{BillLine}
use Rattle.desk_model.specs.declared.bill.TextOf.{TextOf}
use Rattle.desk_model.specs.declared.row.FrozenRow.{FrozenRow}
use Rattle.desk_model.specs.declared.row.PackageRow.{PackageRow}
use Rattle.desk_bills.specs.Billing.{AreNamed, line_with}
use Rattle.desk_bills.proofs.bill.parts_of.Goals as goal

pub loop-row-init : goal.loop-row-init
loop-row-init g c = (c.new-lines.ensures, λ w right. c.new-named.ensures w)

pub loop-row-preserved : goal.loop-row-preserved
loop-row-preserved g c =
    let frozen = c.args.frozen.now.rows.items in
    let release = c.args.release.now in
    let x = c.in-Some.row in
    let terms = c.terms_near-terms.ensures ∙ c.of-key.ensures frozen in
    let rule : FrozenRow → List ℕ = λ row. row.rule in
    let line : c.line_with.result ≡ bill_line frozen release x = c.line_with.ensures
    ∙ ap (λ rs. line_with rs x) (c.in_ok-rules.ensures ∙ ap (map rule) terms) in (
      c.in_ok-push.ensures.ok ∙ (ap₂ (λ (ls : List BillLine) (l : BillLine). ls ++ l ∷ [])
          c.loop-row.invariant.0 line ∙ sym (map-append (bill_line frozen release)
          c.loop-row.yielded (x ∷ []))),
      λ w right.
          let texts : PackageRow → List TextOf = package_texts w frozen release in
          let named : FrozenRow → List TextOf = λ row. texts_named w row.document row.term in
          let these = ap (flat_map named) terms ∙ sym (append-nil (texts x)) in
          let whole = ap (λ (l : List TextOf). flat_map texts c.loop-row.yielded ++ l) these
          ∙ sym (flat_map-append texts c.loop-row.yielded (x ∷ [])) in
          subst (λ (l : List TextOf). AreNamed w l c.add_terms.new.named) whole
          (c.in_ok-add_terms.ensures w right (flat_map texts c.loop-row.yielded)
          (c.loop-row.invariant.1 w right)),
    )
