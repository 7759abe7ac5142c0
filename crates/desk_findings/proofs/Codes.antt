-- Digests have a verification code.
use Rattle.std.proofs.Common.{ℕ, List, map, refl}
use Rattle.std.proofs.lemmas.Cmp.{nat_list_cmp_total}
use Rattle.std.specs.Cmp.Lexicographic.{slice_cmp}
use Rattle.std.specs.List.{concat}
use Rattle.std.specs.Ordering.{nat_cmp}
use Rattle.sha1.specs.Sha1.{sha1}
use Rattle.hex.specs.Hex.{encode_lower}
use Rattle.desk_bom.specs.Codes.{IsCode}
use Rattle.desk_findings.proofs.Ordered.{sorted_list}

pub code_exists : (digests : List (List ℕ)) → (code : List ℕ) × IsCode digests code
code_exists digests =
    let found = sorted_list (slice_cmp nat_cmp) nat_list_cmp_total (map encode_lower digests) in (
      encode_lower (sha1 (concat found.0)),
      record { texts = found.0; same = found.1; sorted = found.2; is = refl },
    )
