-- A look-up that ends a function, after others.
use Rattle.std.specs.Prelude.{Result, Ok, Err}
use Rattle.desk_model.specs.declared.command.Fault.{Fault}
use Rattle.desk_access.specs.Seen.{Seen, Kept, Same, Looked}
use Rattle.desk_access.proofs.Chains.{same_then_kept, same_then_same}

module _ {Left : Type 0} where
  pub looked_kept : {A : Type 0} (a b : Seen Left) (r : Result A Fault) → Looked a b r → Kept a b
  looked_kept a b (Ok x) looked = looked.kept
  looked_kept a b (Err fault) looked = looked

  pub looked_after : {A : Type 0} (a b c : Seen Left) (r : Result A Fault) → Same a b → Looked b c r
      → Looked a c r
  looked_after a b c (Ok x) same looked = same_then_same a b c same looked
  looked_after a b c (Err fault) same looked = same_then_kept a b c same looked

  -- what only takes memory looks at nothing
  pub looked_same : {A : Type 0} (a b : Seen Left) (r : Result A Fault) → Same a b → Looked a b r
  looked_same a b (Ok x) same = same
  looked_same a b (Err fault) same = same.kept
