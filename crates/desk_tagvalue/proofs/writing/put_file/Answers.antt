use Rattle.std.proofs.Common.{◌≡◌, ◌∙◌, ◌++◌, subst, rules}
use Rattle.std.specs.Prelude.{IfErr, OnOk, codes}
use Rattle.std.specs.Fmt.{decimal}
use Rattle.std.specs.String.{string_bytes}
use Rattle.hex.specs.Hex.{encode_lower}
use Rattle.desk_tagvalue.specs.Written.{Adds, IsStopped}
use Rattle.desk_tagvalue.proofs.AddLemmas.{file_texts}
use Rattle.desk_tagvalue.proofs.writing.put_file.Goals as goal

pub returns : goal.returns
returns c =
    let file = c.args.file.now in
    let name : c.deref.result.now ≡ codes "./" ++ file.path = search rules in
    let id : c.deref-2.result.now ≡ codes "SPDXRef-File-" ++ decimal c.args.number = search rules in
    let checksum : c.deref-3.result.now ≡ codes "SHA1: " ++ encode_lower file.digest =
    search rules in
    let lines = c.lines_of_file-lines.ensures
    ∙ file_texts c.args.number file c.deref.result.now c.deref-2.result.now c.deref-3.result.now
    name id checksum in
    record {
      ok =
          subst (λ l. OnOk c.put_all.result
          (Adds (string_bytes c.args.out.now) l (string_bytes c.put_all.new.out)))
          lines c.put_all.ensures.ok;
      digest = search rules;
      err = subst (λ l. IfErr c.put_all.result (λ e. IsStopped l e)) lines c.put_all.ensures.err;
    }
