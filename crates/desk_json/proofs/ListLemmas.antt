-- A list of values made one by one.
use Rattle.std.proofs.Common.{◌≡◌, ◌∙◌, ℕ, ◌+◌, ◌<◌, ◌≤◌, List, [], ◌∷◌, ◌++◌, length, get_or, map}
use Rattle.std.proofs.Common.{take, take_all, ap, ap₂, sym}
use Rattle.std.specs.declared.alloc.Global.{Global}
use Rattle.std.specs.Prelude.{Vec}
use Rattle.std.proofs.lemmas.List.{map-append, map_more}
use Rattle.serde_json.specs.Data.{Data, array}
use Rattle.serde_json.specs.View.{items_of, view}
use Rattle.serde_json.specs.declared.value.Value.{Value}
use Rattle.serde_json.specs.declared.value.Value.TheVariants.{Array}
use Rattle.serde_json.proofs.Views.{view-Array}

module _ {X : Type 0} (f : X → Data) (xs : List X) (i : ℕ) where
  -- one more value
  pub value_more : (x : X) (before after : List Value) (v : Value) → i < length xs
      → x ≡ get_or xs i x → map view before ≡ map f (take i xs)
      → view v ≡ f x → after ≡ before ++ v ∷ [] → map view after ≡ map f (take (i + 1) xs)
  value_more x before after v inside at so_far made pushed =
      ap (map view) pushed ∙ map-append view before (v ∷ [])
      ∙ ap₂ (λ (ds : List Data) (d : Data). ds ++ d ∷ []) so_far (made ∙ ap f at)
      ∙ sym (map_more f xs i x inside)

  -- all are made
  pub all_values : (values : Vec Value Global) → length xs ≤ i
      → map view values.items ≡ map f (take i xs)
      → view (Array values) ≡ array (items_of (map f xs))
  all_values values out so_far = view-Array values
      ∙ ap (λ ds. array (items_of ds)) (so_far ∙ ap (map f) (take_all i xs out))
