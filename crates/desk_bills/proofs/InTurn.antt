-- One more line or row, looked up after those before it.
use Rattle.std.proofs.Common.{◌≡◌, ◌∙◌, Bool, cond, List, [], ◌∷◌, ◌++◌, map, sym, ap}
use Rattle.std.specs.Prelude.{filter}
use Rattle.std.proofs.lemmas.List.{map-append}
use Rattle.std.proofs.lemmas.List.Elements.{filter-append}
use Rattle.desk_model.specs.Tables.{Tables}
use Rattle.desk_access.specs.Seen.{Seen, Same, OfRows}
use Rattle.desk_access.proofs.Chains.{same_then_same}
use Rattle.desk_wanting.proofs.SoFar.{SoFar}

module _ {Left X L : Type 0} (line_of : Tables → X → L) (done : List X) (x : X)
    (lines after : List L) (line : L) (a b c : Seen Left) where
  pub line_more : Same a b → Same b c → OfRows (λ t. lines ≡ map (line_of t) done) a b
      → OfRows (λ t. line ≡ line_of t x) b c → after ≡ lines ++ line ∷ []
      → OfRows (λ t. after ≡ map (line_of t) (done ++ x ∷ [])) a c
  line_more first second told one pushed honest t held =
      pushed
      ∙ (ap (λ xs. xs ++ line ∷ []) (told (second.kept.spared.honest honest) t held)
      ∙ (ap (λ l. map (line_of t) done ++ l ∷ []) (one honest t (first.kept.spared.holds t held))
      ∙ sym (map-append (line_of t) done (x ∷ []))))

  pub one_more : SoFar (OfRows (λ t. lines ≡ map (line_of t) done)) a b → Same b c
      → OfRows (λ t. line ≡ line_of t x) b c → after ≡ lines ++ line ∷ []
      → SoFar (OfRows (λ t. after ≡ map (line_of t) (done ++ x ∷ []))) a c
  one_more before second one pushed = record {
    same = same_then_same a b c before.same second;
    found = line_more before.same second before.found one pushed;
  }

-- one more row, if it passes a test that was looked up
module _ {Left X : Type 0} (test : Tables → X → Bool) (done : List X) (x : X)
    (rows after : List X) (is : Bool) (a b c : Seen Left) where
  pub one_tested : SoFar (OfRows (λ t. rows ≡ filter (test t) done)) a b → Same b c
      → OfRows (λ t. is ≡ test t x) b c → after ≡ rows ++ cond is (x ∷ []) []
      → SoFar (OfRows (λ t. after ≡ filter (test t) (done ++ x ∷ []))) a c
  one_tested before second one pushed = record {
    same = same_then_same a b c before.same second;
    found = λ honest t held.
        pushed
        ∙ (ap (λ xs. xs ++ cond is (x ∷ []) [])
        (before.found (second.kept.spared.honest honest) t held)
        ∙ (ap (λ b. filter (test t) done ++ cond b (x ∷ []) [])
        (one honest t (before.same.kept.spared.holds t held))
        ∙ sym (filter-append (test t) done (x ∷ []))));
  }
