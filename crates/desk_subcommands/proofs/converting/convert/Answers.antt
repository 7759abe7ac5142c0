use Rattle.std.proofs.Common.{inl, refl, subst}
use Rattle.std.specs.String.{string_bytes}
use Rattle.std.specs.Io.KnownBytes.{Appends}
use Rattle.desk_report.specs.Terminal.{text_on}
use Rattle.desk_subcommands.proofs.ConvertingLemmas.{refused_told}
use Rattle.desk_subcommands.proofs.converting.convert.Goals as goal

pub returns-in_ok-write_on-in-Ok-clause-told : goal.returns-in_ok-write_on-in-Ok-clause-told
returns-in_ok-write_on-in-Ok-clause-told g c = (
  text_on c.args.is_terminal (string_bytes c.in-Ok.converted.text),
  inl (c.in-Ok.converted, c.in-Ok.ensures.ok, refl, refl),
  subst (λ text. Appends (g.W.Write.contents c.args.writer.now)
      (g.W.Write.contents c.write_on.new.writer) (text_on c.args.is_terminal text))
      c.as_str.ensures.value c.in_ok-write_on-in-Ok.ensures.ok,
)

pub returns-in-Err-clause-told : goal.returns-in-Err-clause-told
returns-in-Err-clause-told g c =
    refused_told c.args.files c.args.bytes.now c.args.is_terminal c.in-Err.fault
    (g.W.Write.contents c.args.writer.now)
    (g.W.Write.contents c.refuse_conversion.new.writer)
    c.refuse_conversion.result c.in-Err.ensures.err c.refuse_conversion.ensures.told
    c.refuse_conversion.ensures.memory_fault
