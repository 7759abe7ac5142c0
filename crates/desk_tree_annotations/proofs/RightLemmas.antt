-- Right readings agree.
use Rattle.std.proofs.Common.{◌≡◌, ◌∙◌, ℕ, ◌+◌, ◌<◌, Bool, true, false, List, ◌∷◌}
use Rattle.std.proofs.Common.{◌++◌, [], length, get_or, take, drop, map, refl, sym, ap}
use Rattle.std.specs.List.{list_all}
use Rattle.std.specs.Prelude.{◌&&◌}
use Rattle.std.proofs.lemmas.List.{drop_more, take_more, map_push}
use Rattle.desk_tree_patterns.specs.declared.glob.Piece.{Piece}
use Rattle.desk_tree_patterns.specs.Glob.{Spells}
use Rattle.desk_tree_patterns.proofs.GlobOnce.{spells_once}
use Rattle.desk_tree_annotations.specs.Right.{Tells, Reading, IsRight}

pub tells_once : (text : List ℕ) (a b : Bool) → Tells text a → Tells text b → a ≡ b
tells_once text true true h k = refl
tells_once text true false h k = absurd (k h.0 h.1)
tells_once text false true h k = absurd (h k.0 k.1)
tells_once text false false h k = refl

pub same_pieces : (r : Reading) → IsRight r → (pattern : List ℕ) (pieces : List Piece)
    → Spells pattern pieces → pieces ≡ r.pieces pattern
same_pieces r right pattern pieces spells = spells_once pattern pieces (r.pieces pattern) spells
    (right.patterns pattern)

pub same_test : (r : Reading) → IsRight r → (text : List ℕ) (b : Bool) → Tells text b
    → r.is_expression text ≡ b
same_test r right text b tells = tells_once text (r.is_expression text) b (right.expressions text)
    tells

pub same_reading : (r s : Reading) → IsRight r → IsRight s → r ≡ s
same_reading r s right other = λ i. record {
  pieces = λ pattern. spells_once pattern (r.pieces pattern) (s.pieces pattern)
      (right.patterns pattern) (other.patterns pattern) i;
  is_expression = λ text. tells_once text (r.is_expression text) (s.is_expression text)
      (right.expressions text) (other.expressions text) i;
}

-- an expression that is one, and one that isn't
pub all_go : (test : List ℕ → Bool) (listed : List (List ℕ)) (i : ℕ) (v : List ℕ)
    → i < length listed → test (get_or listed i v) ≡ true
    → list_all test (drop (i + 1) listed) ≡ list_all test (drop i listed)
all_go test listed i v within is =
    sym (ap (λ b. b && list_all test (drop (i + 1) listed)) is)
    ∙ ap (list_all test) (sym (drop_more listed i v within))

pub all_stop : (test : List ℕ → Bool) (listed : List (List ℕ)) (i : ℕ) (v : List ℕ)
    → i < length listed → test (get_or listed i v) ≡ false
    → false ≡ list_all test (drop i listed)
all_stop test listed i v within is =
    sym (ap (λ b. b && list_all test (drop (i + 1) listed)) is)
    ∙ ap (list_all test) (sym (drop_more listed i v within))

-- the pieces of one more pattern
pub pieces_more : (f : List ℕ → List Piece) (listed : List (List ℕ)) (i : ℕ) (v : List ℕ)
    (pieces : List Piece) (old : List (List Piece)) → i < length listed
    → pieces ≡ f (get_or listed i v) → old ≡ map f (take i listed)
    → old ++ pieces ∷ [] ≡ map f (take (i + 1) listed)
pieces_more f listed i v pieces old within is so_far =
    ap (λ o. o ++ pieces ∷ []) so_far ∙ ap (λ x. map f (take i listed) ++ x ∷ []) is
    ∙ sym (ap (map f) (take_more listed i v within)
    ∙ map_push f (take i listed) (get_or listed i v))
