-- What a loop has found out by look-ups.
use Rattle.std.proofs.Common.{◌≡◌, ℕ, ◌+◌, ◌<◌, ◌≤◌, List, [], ◌++◌, length, drop, get_or, Option, refl}
use Rattle.std.specs.Prelude.{Result}
use Rattle.std.specs.List.{cons_option, filter_map, flat_map}
use Rattle.std.specs.Result.{IsErr}
use Rattle.desk_model.specs.Tables.{Tables}
use Rattle.desk_model.specs.declared.command.Fault.{Fault}
use Rattle.desk_access.specs.Seen.{Seen, Kept, Looked, OfRows, Same}
use Rattle.desk_access.proofs.Chains.{looked_err, same_then_kept, same_then_same}
use Rattle.desk_wanting.proofs.Lists.{ended, filter_map_step, flat_map_step}

module _ {Left : Type 0} where
  -- the store is as it was, and this was found in it
  pub record SoFar (Found : Seen Left → Seen Left → Type 0) (old new : Seen Left) : Type 0 where
    pub same : Same old new
    pub found : Found old new

  -- the next look-up fails
  pub fails : {A : Type 0} (a b c : Seen Left) (r : Result A Fault) → IsErr r → Same a b → Kept b c
      → Looked a c r
  fails a b c r is same kept = looked_err a c r is (same_then_kept a b c same kept)

  -- a turn of a loop whose look-up finds what there is for one item, if anything; `Right` is what
  -- relies on a reader of texts
  pub option_turn : {W X B : Type 0} (Right : W → Type 0) (f : W → Tables → X → Option B)
      (xs : List X) (i : ℕ) (x : X)
      (old new : List B) (all : W → Tables → List B) (o : Option B) {a b c : Seen Left}
      → i < length xs → x ≡ get_or xs i x
      → SoFar (λ a b. (w : W) → Right w
      → OfRows (λ t. old ++ filter_map (f w t) (drop i xs) ≡ all w t) a b) a b
      → Same b c → ((w : W) → Right w → OfRows (λ t. o ≡ f w t x) b c)
      → new ≡ old ++ cons_option o []
      → SoFar (λ a c. (w : W) → Right w
      → OfRows (λ t. new ++ filter_map (f w t) (drop (i + 1) xs) ≡ all w t) a c) a c
  option_turn Right f xs i x old new all o {a} {b} {c} lt is before second one grown = record {
    same = same_then_same a b c before.same second;
    found = λ w right honest t held.
        filter_map_step (f w t) xs i x old new (all w t) o lt is
        (one w right honest t (before.same.kept.spared.holds t held)) grown
        (before.found w right (second.kept.spared.honest honest) t held);
  }

  -- no item is left
  pub option_end : {W X B : Type 0} (Right : W → Type 0) (f : W → Tables → X → Option B)
      (xs : List X) (i : ℕ)
      (found : List B) (all : W → Tables → List B) {a b : Seen Left} → length xs ≤ i
      → SoFar (λ a b. (w : W) → Right w
      → OfRows (λ t. found ++ filter_map (f w t) (drop i xs) ≡ all w t) a b) a b
      → (w : W) → Right w → OfRows (λ t. found ≡ all w t) a b
  option_end Right f xs i found all out before w right honest t held =
      ended (filter_map (f w t)) xs i found (all w t) out refl (before.found w right honest t held)

  -- the next look-up adds all that there is for one item
  pub list_more : {X B : Type 0} (f : Tables → X → List B) (xs : List X) (i : ℕ) (x : X)
      (old new : List B) (all : Tables → List B) (a b c : Seen Left)
      → i < length xs → x ≡ get_or xs i x → Same a b → Same b c
      → OfRows (λ t. new ≡ old ++ f t x) b c
      → OfRows (λ t. old ++ flat_map (f t) (drop i xs) ≡ all t) a b
      → OfRows (λ t. new ++ flat_map (f t) (drop (i + 1) xs) ≡ all t) a c
  list_more f xs i x old new all a b c lt is first second grown so_far honest t held =
      flat_map_step (f t) xs i x old new (f t x) (all t) lt is refl
      (grown honest t (first.kept.spared.holds t held))
      (so_far (second.kept.spared.honest honest) t held)
