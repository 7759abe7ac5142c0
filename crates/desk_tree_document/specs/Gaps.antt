-- What a draft doesn't say about its files.
use Rattle.std.specs.Prelude.{ℕ, Bool, List, codes, count_by}
use Rattle.std.specs.Str.{bytes_eq}
use Rattle.desk_tagvalue.specs.declared.drafts.Draft.{Draft}
use Rattle.desk_tagvalue.specs.declared.drafts.DraftFile.{DraftFile}
use Rattle.desk_tree_document.specs.declared.gaps.Gaps.{Gaps}

-- nothing is said (SPDX 2.3, clauses 8.5 and 8.8)
abbrev pub is_unsaid : List ℕ → Bool
is_unsaid value = bytes_eq value (codes "NOASSERTION")

-- the draft doesn't say which licence the file has
abbrev pub has_no_licence : DraftFile → Bool
has_no_licence f = is_unsaid f.concluded

-- the draft doesn't say whose copyright the file is
abbrev pub has_no_notice : DraftFile → Bool
has_no_notice f = is_unsaid f.copyright

-- of how many files the draft says no licence, and of how many no notice
abbrev pub gaps_of : Draft → Gaps
gaps_of d = record {
  licences = count_by has_no_licence d.files;
  notices = count_by has_no_notice d.files;
}
