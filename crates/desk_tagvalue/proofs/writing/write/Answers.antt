use Rattle.std.proofs.Common.{subst}
use Rattle.std.specs.String.{string_bytes}
use Rattle.desk_tagvalue.specs.Drafts.{head_lines, files_lines}
use Rattle.std.specs.Prelude.{All}
use Rattle.desk_tagvalue.specs.Written.{Adds, IsDigestRead, IsStopped}
use Rattle.desk_tagvalue.proofs.AddLemmas.{draft_added, stops_front, stops_back}
use Rattle.std.proofs.lemmas.Str.{IsUtf8-string_bytes}
use Rattle.desk_tagvalue.proofs.LinesReread.{draft_again}
use Rattle.desk_tagvalue.proofs.DraftGiven.{draft_read}
use Rattle.desk_tagvalue.proofs.writing.write.Goals as goal

pub returns-in-Err-clause-err : goal.returns-in-Err-clause-err
returns-in-Err-clause-err c =
    let d = c.args.draft.now in
    stops_front (head_lines d) (files_lines 1 d.files) c.in-Err.fault
    (subst (λ l. IsStopped l c.in-Err.fault) c.head_lines.ensures c.in-Err.ensures.err)

pub returns-in-Ok-put_files-clause-ok : goal.returns-in-Ok-put_files-clause-ok
returns-in-Ok-put_files-clause-ok c =
    let d = c.args.draft.now in
    let head = subst (λ l. Adds (string_bytes c.new-out.result) l (string_bytes c.put_all.new.out))
    c.head_lines.ensures c.in-Ok.ensures.ok in
    let files = subst (λ l. Adds (string_bytes c.put_all.new.out) (files_lines 1 l)
    (string_bytes c.put_files.new.out)) c.as_slice.ensures c.in-Ok-put_files.ensures.ok in
    draft_added d (string_bytes c.new-out.result) (string_bytes c.put_all.new.out)
    (string_bytes c.put_files.new.out) c.new-out.ensures.bytes head files

pub returns-in-Ok-put_files-clause-fields : goal.returns-in-Ok-put_files-clause-fields
returns-in-Ok-put_files-clause-fields c =
    let d = c.args.draft.now in
    let head = subst (λ l. Adds (string_bytes c.new-out.result) l (string_bytes c.put_all.new.out))
    c.head_lines.ensures c.in-Ok.ensures.ok in
    let files = subst (λ l. Adds (string_bytes c.put_all.new.out) (files_lines 1 l)
    (string_bytes c.put_files.new.out)) c.as_slice.ensures c.in-Ok-put_files.ensures.ok in
    draft_again d (string_bytes c.put_files.new.out)
    (draft_added d (string_bytes c.new-out.result) (string_bytes c.put_all.new.out)
    (string_bytes c.put_files.new.out) c.new-out.ensures.bytes head files)

pub returns-in-Err-put_files-clause-err : goal.returns-in-Err-put_files-clause-err
returns-in-Err-put_files-clause-err c =
    let d = c.args.draft.now in
    stops_back (head_lines d) (files_lines 1 d.files) c.in-Err-put_files.fault
    (subst (λ l. IsStopped (files_lines 1 l) c.in-Err-put_files.fault) c.as_slice.ensures
    c.in-Err-put_files.ensures.err)

pub returns-in-Ok-put_files-clause-read : goal.returns-in-Ok-put_files-clause-read
returns-in-Ok-put_files-clause-read c = λ small few.
    let d = c.args.draft.now in
    let head = subst (λ l. Adds (string_bytes c.new-out.result) l (string_bytes c.put_all.new.out))
    c.head_lines.ensures c.in-Ok.ensures.ok in
    let files = subst (λ l. Adds (string_bytes c.put_all.new.out) (files_lines 1 l)
    (string_bytes c.put_files.new.out)) c.as_slice.ensures c.in-Ok-put_files.ensures.ok in
    draft_read d (string_bytes c.put_files.new.out)
    (draft_added d (string_bytes c.new-out.result) (string_bytes c.put_all.new.out)
    (string_bytes c.put_files.new.out) c.new-out.ensures.bytes head files)
    (IsUtf8-string_bytes c.put_files.new.out) small few
    (subst (All IsDigestRead) c.as_slice.ensures c.in-Ok-put_files.ensures.digests)
