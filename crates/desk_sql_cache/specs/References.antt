-- The references of a document that are adopted, as a store keeps them beside its rows.
use Rattle.std.specs.Prelude.{◌≡◌, ◌==◌, ◌&&◌, ℕ, Bool, false, not, List, Option, Some, None, String}
use Rattle.std.specs.BTreeSet.{BTreeSet, contains_text}
use Rattle.std.specs.declared.alloc.Global.{Global}
use Rattle.desk_history.specs.FromTables.{adoption_count}
use Rattle.desk_model.specs.Conclusions.{licence_for}
use Rattle.desk_model.specs.Tables.{Tables}
use Rattle.desk_model.specs.declared.row.AdoptionRow.{AdoptionRow}
use Rattle.desk_sql_cache.specs.declared.adoptions.Adoptions.{Adoptions}

-- each adopted reference of a document is among these
abbrev pub AreAmong : BTreeSet (String Global) → ℕ → Tables → Type 0
AreAmong references document t = (reference : List ℕ) → contains_text references reference ≡ false
    → licence_for t.adoption document reference ≡ None

-- the document has this many adopted references, and all are among those that are kept; if none are
-- kept, nothing is said
abbrev pub AreAdopted : Option Adoptions → Tables → Type 0
AreAdopted None t = Unit {0}
AreAdopted (Some kept) t = (kept.count ≡ adoption_count t kept.document)
    × AreAmong kept.references kept.document t

-- by what is kept, a reference of a document isn't adopted
abbrev pub lacks : Adoptions → ℕ → List ℕ → Bool
lacks kept document reference = (kept.document == document)
    && not (contains_text kept.references reference)

-- the same for the reference of an adoption, if anything is kept
abbrev pub lacks_row : Option Adoptions → AdoptionRow → Bool
lacks_row None row = false
lacks_row (Some kept) row = lacks kept row.document row.reference
