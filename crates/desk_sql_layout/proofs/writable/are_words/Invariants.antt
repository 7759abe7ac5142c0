use Rattle.std.proofs.Common.{◌≡◌, length}
use Rattle.std.specs.List.{list_all}
use Rattle.desk_sql_layout.specs.Cells.{is_word}
use Rattle.desk_sql_layout.proofs.writable.are_words.Given as goal

-- the codes that are left pass exactly if all do
abbrev pub invariant-loop-code : goal.invariant-loop-code
invariant-loop-code l = list_all is_word l.left ≡ list_all is_word l.fn.codes

abbrev pub decreases-loop-code : goal.decreases-loop-code
decreases-loop-code l = length l.left
