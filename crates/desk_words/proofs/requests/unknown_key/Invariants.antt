use Rattle.std.proofs.Common.{None, string_bytes}
use Rattle.std.specs.Prelude.{◌≢◌}
use Rattle.std.specs.List.{All}
use Rattle.serde_json.specs.Find.{get}
use Rattle.serde_json.specs.View.{view}
use Rattle.desk_words.proofs.requests.unknown_key.Given as goal

-- the keys that are left are keys of members
abbrev pub invariant-loop-name : goal.invariant-loop-name
invariant-loop-name l = All (λ key. get (string_bytes key) (view l.value) ≢ None) l.name-iterator
