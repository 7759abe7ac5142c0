-- The places of documents by their namespaces.
use Rattle.std.specs.Prelude.{ℕ, Bool, List}
use Rattle.std.specs.Ordering.{nat_cmp, on}
use Rattle.std.specs.Cmp.Lexicographic.{slice_cmp}
use Rattle.std.specs.Str.{bytes_eq}
use Rattle.std.specs.declared.cmp.Ordering.{Ordering}
use Rattle.desk_memory.specs.declared.keys.NamespacePlace.{NamespacePlace}

-- the entry of the document with this namespace
abbrev pub is_named : List ℕ → NamespacePlace → Bool
is_named namespace entry = bytes_eq entry.namespace namespace

-- entries by the bytes of their namespaces
abbrev pub namespace_order : NamespacePlace → NamespacePlace → Ordering
namespace_order = on (λ entry. entry.namespace) (slice_cmp nat_cmp)

-- Less for an entry before that of this namespace, Equal for that one, Greater for an entry behind
-- it
abbrev pub namespace_side : List ℕ → NamespacePlace → Ordering
namespace_side namespace entry = slice_cmp nat_cmp entry.namespace namespace
