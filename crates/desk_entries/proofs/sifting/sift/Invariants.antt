use Rattle.std.proofs.Common.{◌≡◌, drop, map}
use Rattle.desk_fill.specs.Subjects.{Knows, subject_of_text}
use Rattle.desk_entries.specs.Sifting.{sifted, with_files}
use Rattle.desk_entries.proofs.sifting.sift.Given as goal

-- the files so far, with the rest, are all files, and what the texts are for is known
abbrev pub invariant-loop-file : goal.invariant-loop-file
invariant-loop-file l = (with_files l.sifted (drop l.file-index l.files) ≡ sifted l.files)
    × Knows (map subject_of_text l.sifted.texts) l.firsts
