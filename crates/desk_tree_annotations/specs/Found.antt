-- What the code finds on a run, and what it adds to a list.
use Rattle.std.specs.Prelude.{◌≡◌, ℕ, List, [], ◌++◌, Option, Some, None}
use denote.Ref.{Bor}
use Rattle.desk_tree_annotations.specs.Runs.{RunText}
use Rattle.desk_tree_annotations.specs.Tags.{TagText, Counts, onto, seen_after}

-- a list with what one run adds at its end, and the last line that had its tag then
abbrev pub Adds : List ℕ → ℕ → RunText → List TagText → List TagText → ℕ → Type 0
Adds tag seen run before items last =
    (o : Option (Option (List ℕ))) × Counts tag seen run o × (items ≡ before ++ onto run.line o [])
    × (last ≡ seen_after seen run.line o)

-- what the code finds, apart from where it is in memory
abbrev pub found_inner : Option (Bor (List ℕ)) → Option (List ℕ)
found_inner None = None
found_inner (Some t) = Some t.now

-- what the code finds for a run: no tag that counts, a tag without a value, or a value
abbrev pub found : Option (Option (Bor (List ℕ))) → Option (Option (List ℕ))
found None = None
found (Some o) = Some (found_inner o)
