use Rattle.std.specs.Prelude.{map}
use Rattle.std.proofs.lemmas.List.Sorted.{IsPermutation-map, IsPermutation-sym, IsPermutation-trans}
use Rattle.hex.specs.Hex.{encode_lower}
use Rattle.desk_bom.proofs.codes.codes_ignore_order.Goals as goal

pub returns : goal.returns
returns c = λ digests others code moved is.
    let before = map encode_lower digests in
    let after = map encode_lower others in
    record {
      texts = is.texts;
      same = IsPermutation-trans after before is.texts
          (IsPermutation-sym before after (IsPermutation-map encode_lower digests others moved))
          is.same;
      sorted = is.sorted;
      is = is.is;
    }
