use Rattle.std.proofs.Common.{◌≡◌, ℕ, List, take}
use Rattle.std.specs.BTreeSet.{contains_text}
use Rattle.std.specs.List.{list_any}
use Rattle.std.specs.Str.{bytes_eq}
use Rattle.desk_sql_cache.proofs.adoptions.set_of.Given as goal

-- the set has the texts so far
abbrev pub invariant-loop-text : goal.invariant-loop-text
invariant-loop-text l = (reference : List ℕ)
    → contains_text l.set reference
    ≡ list_any (λ text. bytes_eq text reference) (take l.text-index l.texts)
