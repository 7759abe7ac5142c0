-- Texts, apart from where they are in memory.
use Rattle.std.specs.Prelude.{ℕ, List, map}
use Rattle.std.specs.Prelude.{Vec}
use Rattle.std.specs.Ordering.{nat_cmp}
use Rattle.std.specs.Cmp.Lexicographic.{slice_cmp}
use Rattle.std.specs.declared.cmp.Ordering.{Ordering}
use Rattle.std.specs.declared.alloc.Global.{Global}
use denote.Ref.{Bor}

-- the bytes of borrowed texts
abbrev pub texts : List (Bor (List ℕ)) → List (List ℕ)
texts borrowed = map (λ (text : Bor (List ℕ)). text.now) borrowed

-- the bytes of the borrowed texts that a vector keeps, in its order
abbrev pub texts_in : Vec (Bor (List ℕ)) Global → List (List ℕ)
texts_in v = texts v.items

-- the order of borrowed texts is that of their bytes, wherever they are in memory
abbrev pub borrowed_cmp : Bor (List ℕ) → Bor (List ℕ) → Ordering
borrowed_cmp a b = slice_cmp nat_cmp a.now b.now
