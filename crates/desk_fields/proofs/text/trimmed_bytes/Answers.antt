use Rattle.std.proofs.Common.{arith}
use Rattle.std.proofs.lemmas.List.Sums.{prefix_len-le-length}
use Rattle.desk_fields.proofs.text.trimmed_bytes.Goals as goal
use Rattle.desk_base.specs.Bytes.{is_blank}

pub split_at-requires : goal.split_at-requires
split_at-requires c = omega (
  arith,
  c.blanks.ensures,
  prefix_len-le-length is_blank c.args.bytes.now,
)
