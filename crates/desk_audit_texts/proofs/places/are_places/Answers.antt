use Rattle.std.proofs.Common.{◌≡◌, ℤ, Bool, List, map, length, subst}
use Rattle.std.specs.Bool.{Decides}
use Rattle.std.specs.List.Sorted.{IsPermutation}
use Rattle.std.proofs.lemmas.List.{length-map}
use Rattle.desk_snapshot.specs.Conditions.{numbers_to}
use Rattle.desk_snapshot.specs.declared.rows.StoredRelease.{StoredRelease}
use Rattle.desk_audit_texts.proofs.Numbers.{sorted_to}
use Rattle.desk_audit_texts.proofs.places.are_places.Goals as goal

pub returns : goal.returns
returns c =
    let releases : List StoredRelease = c.args.releases.now in
    let places : List ℤ = map (λ row. row.place) releases in
    let sorted : List ℤ = c.sort_unstable.new.self.items in
    let is : Bool = c.are_from_one.result in
    let same : IsPermutation places sorted =
    subst (λ (l : List ℤ). IsPermutation l sorted) c.in_ok-places.ensures
    c.sort_unstable.ensures.permutation in
    let told : Decides is (sorted ≡ numbers_to (length sorted)) =
    subst (λ (l : List ℤ). Decides is (l ≡ numbers_to (length l))) c.as_slice.ensures.value
    c.are_from_one.ensures in
    sorted_to places sorted (length releases) (length-map releases (λ row. row.place)) same
    c.sort_unstable.ensures.sorted is told
