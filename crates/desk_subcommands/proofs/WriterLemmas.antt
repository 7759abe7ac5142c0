-- What a writer holds after bytes and a flush.
use Rattle.std.proofs.Common.{ℕ, List, Option, Some, None, ◌∙◌}
use Rattle.std.specs.Io.KnownBytes.{Appends, Keeps}

-- bytes that were appended are still appended after a call that keeps them
pub appends_kept : (old mid new : Option (List ℕ)) (bytes : List ℕ) → Appends old mid bytes
    → Keeps mid new → Appends old new bytes
appends_kept None mid new bytes appends keeps = tt
appends_kept (Some xs) None new bytes appends keeps = absurd appends
appends_kept (Some xs) (Some ys) None bytes appends keeps = absurd keeps
appends_kept (Some xs) (Some ys) (Some zs) bytes appends keeps = keeps ∙ appends
