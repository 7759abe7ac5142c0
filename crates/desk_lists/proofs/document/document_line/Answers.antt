use Rattle.std.proofs.Common.{◌≡◌, ℕ, List, rules, subst, to_z, of_z, w64}
use Rattle.desk_base.specs.declared.profile.Profile.{Profile}
use Rattle.desk_snapshot.specs.Conditions.{profile_at}
use Rattle.desk_lists.specs.Documents.{IsSaid}
use Rattle.desk_lists.proofs.document.document_line.Goals as goal

pub returns : goal.returns
returns c = λ reads are.
    let number : to_z w64 (of_z w64 c.args.row.now.number) ≡ c.args.row.now.number = search rules in
    let packages = simp number at c.package_counts-packages.ensures.all in
    let shipped = simp number at c.package_counts-packages.ensures.shipped in
    let profile = simp number at c.profile_of-profile.ensures in
    let read_by = simp number at c.profile_at.ensures in
    let said = c.in_ok-said.said in (
      said,
      subst (λ (b : List ℕ). IsSaid reads (profile_at c.args.snapshot.now c.args.row.now.number) b
          said) c.as_slice.ensures
          (subst (λ (p : Profile). IsSaid reads p c.as_slice.result.now said) read_by
          (c.in_ok-said.ensures reads are)),
      (λ i. record {
        number = number i;
        name = said.name;
        namespace = c.in_ok-namespace.ensures.cases i;
        packages = packages i;
        shipped = shipped i;
        findings = said.findings;
        profile = profile i;
      }),
    )
