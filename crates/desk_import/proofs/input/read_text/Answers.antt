use Rattle.std.proofs.Common.{◌≡◌, ◌∙◌, ap, arith, length, subst, vec_len}
use Rattle.desk_import.specs.Inputs.{IsLastStart}
use Rattle.desk_import.proofs.InputLemmas.{if_text, read_cut, read_whole}
use Rattle.desk_import.proofs.input.read_text.Goals as goal
use Rattle.desk_import.proofs.input.read_text.Goals.{then-len-gt-INPUT_BYTES, else-len-gt-INPUT_BYTES}

pub returns-clause-read : goal.returns-clause-read
returns-clause-read g c =
    let known = g.R.Read.remaining c.args.reader in
    let long : length c.in_ok-bytes.bytes.items ≡ vec_len c.in_ok-bytes.bytes =
    omega (arith, c.in_ok-bytes.bytes.ok.0) in
    elim c.if-len-gt-INPUT_BYTES.branch [
      | then-len-gt-INPUT_BYTES w ↦
          read_cut known c.in_ok-bytes.bytes.items c.if-len-gt-INPUT_BYTES.bytes.items
          w.last_start.result
          (omega (arith, w.if-len-gt-INPUT_BYTES.true, c.len.ensures, long))
          (subst (λ l. IsLastStart l w.last_start.result) w.as_slice.ensures.value
          w.last_start.ensures)
          (ap (λ v. v.items) w.bytes-is ∙ w.truncate.ensures.items) c.in_ok-bytes.ensures.read
      | else-len-gt-INPUT_BYTES w ↦
          read_whole known c.in_ok-bytes.bytes.items c.if-len-gt-INPUT_BYTES.bytes.items
          (omega (arith, w.if-len-gt-INPUT_BYTES.false, c.len.ensures, long))
          (ap (λ v. v.items) w.bytes-is) c.in_ok-bytes.ensures.read
    ]

pub returns-clause-text : goal.returns-clause-text
returns-clause-text g c = if_text (g.R.Read.remaining c.args.reader)
    c.if-len-gt-INPUT_BYTES.bytes.items (returns-clause-read g c)
