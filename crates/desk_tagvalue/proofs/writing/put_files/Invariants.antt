use Rattle.std.proofs.Common.{◌+◌, List, ℕ, drop, take}
use Rattle.std.specs.Prelude.{All}
use Rattle.std.specs.String.{string_bytes}
use Rattle.desk_tagvalue.specs.Drafts.{files_lines}
use Rattle.desk_tagvalue.specs.Written.{Adds, IsDigestRead, Stands}
use Rattle.desk_tagvalue.proofs.writing.put_files.Given as goal

-- what the rest adds completes the text; each file so far is read back if all are, and so are their
-- digests
abbrev pub invariant-loop-i : goal.invariant-loop-i
invariant-loop-i l = record {
  goes_on : (new : List ℕ) → Adds (string_bytes l.out) (files_lines (l.i + 1) (drop l.i l.files))
      new → Adds (string_bytes l.fn.out) (files_lines 1 l.files) new;
  stand : All Stands (files_lines 1 l.files)
      → All Stands (files_lines (l.i + 1) (drop l.i l.files));
  digests : All IsDigestRead (take l.i l.files);
}
