use Rattle.std.proofs.Common.{◌≡◌, List, ap, of_z, rules, sym, to_z, w64, ◌∙◌}
use Rattle.std.specs.Prelude.{map}
use Rattle.std.proofs.lemmas.Simd.{map-map}
use Rattle.desk_tagvalue.specs.Documents.{document_text}
use Rattle.desk_tagvalue.specs.Parts.{PackageText}
use Rattle.desk_tagvalue.specs.Views.{package_text}
use Rattle.desk_tagvalue.specs.declared.parts.Package.{Package}
use Rattle.desk_views.specs.Proposing.{with_conclusion}
use Rattle.desk_views.proofs.proposing.document_held.Goals as goal

pub returns : goal.returns
returns c =
    let held = with_conclusion c.args.snapshot.now c.args.number in
    let number : to_z w64 (of_z w64 c.args.number) ≡ c.args.number = search rules in
    let each = simp number at c.in-Ok.ensures in
    let packages : map package_text c.from_vec.result ≡ map held (map package_text
    c.args.document.packages) =
    ap (map package_text) c.from_vec.ensures
    ∙ (each ∙ (ap (map (λ (p : Package). held (package_text p))) c.as_slice.ensures
    ∙ sym (map-map held package_text c.args.document.packages))) in
    ap (λ (ps : List PackageText). record (document_text c.args.document) { packages = ps })
    packages
