-- One call after another.
use Rattle.std.proofs.Common.{Result, Ok, Err}
use Rattle.sqlite_trees.specs.Tree.{Trees}
use Rattle.desk_model.specs.Tables.{Tables}
use Rattle.desk_access.specs.Seen.{Seen, Kept, Same, Looked, OfRows}
use Rattle.desk_access.proofs.Chains.{spared_then}
use Rattle.desk_model.specs.declared.command.Fault.{Fault}

module _ (a b c : Seen Trees) (first : Same a b) where
  pub same_then_kept : Kept b c → Kept a c
  same_then_kept k = record {
    spared = spared_then a b c first.kept.spared k.spared;
    leaves = λ clean is t h x left. first.kept.leaves (k.spared.honest clean) is t h x
        (k.leaves clean (first.stays (k.spared.honest clean) is) t (first.kept.spared.holds t h) x
        left);
  }

  pub same_then_same : Same b c → Same a c
  same_then_same s = record {
    kept = same_then_kept s.kept;
    stays = λ clean is. s.stays clean (first.stays (s.kept.spared.honest clean) is);
  }

  -- what is true of the rows after the first call is true of those before it
  pub of_rows_after : (Is : Tables → Type 0) → OfRows Is b c → OfRows Is a c
  of_rows_after Is right = λ clean t h. right clean t (first.kept.spared.holds t h)

  -- what a first call found stays true
  pub of_rows_still : (Is : Tables → Type 0) → OfRows Is a b → Kept b c → OfRows Is a c
  of_rows_still Is right k = λ clean t h. right (k.spared.honest clean) t h

  pub then_looked : {A : Type 0} (r : Result A Fault) → Looked b c r → Looked a c r
  then_looked (Ok x) looked = same_then_same looked
  then_looked (Err e) looked = same_then_kept looked

pub looked_honest : (b c : Seen Trees) {A : Type 0} (r : Result A Fault) → Looked b c r
    → c.is_honest → b.is_honest
looked_honest b c (Ok x) looked clean = looked.kept.spared.honest clean
looked_honest b c (Err e) looked clean = looked.spared.honest clean
