-- Where the terms of an expression are in a list. They are found by binary search; if they weren't
-- sorted, some would not be found.
use Rattle.std.specs.Prelude.{◌≡◌, ℕ, zero, suc, ◌+◌, ◌-◌, ◌/◌, ◌<◌, ◌≤◌, nat_lt, Bool, false, List}
use Rattle.std.specs.Prelude.{length, slice_get, Option, Some, None, Contains, if◌then◌else◌}
use Rattle.std.specs.Ordering.{is_lt}
use Rattle.std.proofs.Common.{Bor, get_or}
use Rattle.desk_expr.specs.declared.term.Term.{Term}
use Rattle.desk_expr.specs.Occurring.{term_order}

-- an entry of the table is there and comes before the term in the order of terms
abbrev pub is_below : Option (Bor Term) → Term → Bool
is_below None t = false
is_below (Some known) t = is_lt (term_order known.now t)

-- the entry of the table at a place; past its end there is none
abbrev pub own_at : List (Option (Bor Term)) → ℕ → Option (Bor Term)
own_at own slot = get_or own slot None

-- how many are below a term, if they are sorted, by at most this many halvings
abbrev pub lower_by : ℕ → List (Option (Bor Term)) → Term → ℕ → ℕ → ℕ
lower_by zero own t low high = low
lower_by (suc n) own t low high =
    let middle = low + (high - low) / 2 in
    if nat_lt low high then (if is_below (own_at own middle) t
    then lower_by n own t (middle + 1) high else lower_by n own t low middle) else low

-- how many of the whole table are below a term, if the table is sorted
abbrev pub lower_in : List (Option (Bor Term)) → Term → ℕ
lower_in own t = lower_by (length own) own t 0 (length own)

-- one of an expression's terms is this term
abbrev pub Names : Option (Bor Term) → Term → Type 0
Names None t = ⊥
Names (Some known) t = known.now ≡ t

-- a term that is found among the expression's terms
abbrev pub IsOwn : List (Option (Bor Term)) → Term → Type 0
IsOwn own t = Names (own_at own (lower_in own t)) t

-- the place that is noted for a term
abbrev pub noted_place : List (Option (Bor Term)) → List ℕ → Term → ℕ
noted_place own places t = get_or places (lower_in own t) 0

-- for each term that is found, the place that is noted is one where it is listed, or none if it
-- isn't listed
pub record IsNoted (chosen : List Term) (own : List (Option (Bor Term)))
    (places : List ℕ) : Type 0 where
  pub room : length own ≤ length places
  pub there : (t : Term) → IsOwn own t → noted_place own places t < length chosen
      → slice_get chosen (noted_place own places t) ≡ Some t
  pub told : (t : Term) → IsOwn own t → Contains chosen t → noted_place own places t < length chosen
