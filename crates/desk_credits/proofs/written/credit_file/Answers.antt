use Rattle.std.proofs.Common.{◌≡◌, ◌∙◌, ◌++◌, ap₂, false, string_bytes, subst, sym, IsUtf8}
use Rattle.std.proofs.lemmas.Str.{IsUtf8-append, is_utf8-from_IsUtf8}
use Rattle.toml.specs.Text.{IsDocumentText}
use Rattle.desk_credits.specs.Written.{IsCreditFile}
use Rattle.desk_credits.proofs.WrittenLemmas.{file_read}
use Rattle.desk_credits.proofs.written.credit_file.Goals as goal

pub returns-clause-reads_back : goal.returns-clause-reads_back
returns-clause-reads_back c says short =
    let text = string_bytes c.in_ok-text.text in
    let file = c.extend_from_slice.new.self.items in
    let same : c.as_bytes.result.now ≡ text = c.as_bytes.ensures.value ∙ c.as_str.ensures.value in
    let whole = c.in_ok-extend_from_slice.ensures.items in
    let is : IsCreditFile c.args.notices.now c.args.credit.now file = (
      text,
      subst (λ ms. IsDocumentText false ms text) c.in_ok-table.ensures c.in_ok-text.ensures.text,
      whole ∙ ap₂ (λ a b. a ++ b) c.in_ok-file.ensures.comments same,
    ) in
    let utf8 : IsUtf8 file = subst IsUtf8 (sym whole)
    (IsUtf8-append c.in_ok-file.file.items c.as_bytes.result.now c.in_ok-file.ensures.utf8
    (subst IsUtf8 (sym c.as_bytes.ensures.value) c.as_str.utf8)) in
    file_read c.args.notices.now c.args.credit.now file is says short (is_utf8-from_IsUtf8 file utf8)
