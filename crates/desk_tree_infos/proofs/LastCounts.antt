-- The last annotation that covers a path counts.
use Rattle.std.proofs.Common.{◌≡◌, ◌∙◌, Bool, true, false, ℕ, List, [], ◌∷◌, ◌++◌, refl, ap, cond}
use Rattle.std.specs.Prelude.{All, Some, None}
use Rattle.std.proofs.lemmas.List.Elements.{All-head, All-tail}
use Rattle.std.proofs.lemmas.List.Folds.{Any-from_list_any, list_any-from_Any}
use Rattle.desk_tree_annotations.specs.declared.annotation.Annotation.{Annotation}
use Rattle.desk_tree_infos.specs.Counting.{Covers}
use Rattle.desk_tree_infos.specs.Information.{counting_in, covers, last_covering, or_else}
use Rattle.desk_tree_infos.specs.Readers.{Reader, IsRightReader}
use Rattle.desk_tree_infos.specs.Tomls.{TomlText, annotations_in}
use Rattle.desk_tree_infos.specs.Ways.{way}

is_covered : (r : Reader) → IsRightReader r → (path : List ℕ) (a : Annotation) → Covers path a
    → covers r a path ≡ true
is_covered r right path a h = list_any-from_Any (λ pieces. r.matches pieces path) a.paths
    (h.0, h.1, h.2, h.3, (right.matching h.1 path).1 h.4)

covered : (r : Reader) → IsRightReader r → (path : List ℕ) (a : Annotation)
    → covers r a path ≡ true → Covers path a
covered r right path a h =
    let some = Any-from_list_any (λ pieces. r.matches pieces path) a.paths h in
    (some.0, some.1, some.2, some.3, (right.matching some.1 path).0 some.4)

not_covered : (r : Reader) → IsRightReader r → (path : List ℕ) (a : Annotation) (b : Bool)
    → covers r a path ≡ b → (Covers path a → ⊥) → b ≡ false
not_covered r right path a true is missed = absurd (missed (covered r right path a is))
not_covered r right path a false is missed = refl

last_none : (r : Reader) → IsRightReader r → (path : List ℕ) (list : List Annotation)
    → All (λ b. Covers path b → ⊥) list → last_covering r path list ≡ None
last_none r right path [] missed = refl
last_none r right path (a ∷ more) missed =
    let here = not_covered r right path a (covers r a path) refl
    (All-head (λ b. Covers path b → ⊥) a more missed) in
    let later = last_none r right path more (All-tail (λ b. Covers path b → ⊥) a more missed) in
    λ i. or_else (later i) (cond (here i) (Some a) None)

last_some : (r : Reader) → IsRightReader r → (path : List ℕ) (before after : List Annotation)
    (a : Annotation) → Covers path a → All (λ b. Covers path b → ⊥) after
    → last_covering r path (before ++ (a ∷ after)) ≡ Some a
last_some r right path [] after a covering missed =
    let here = is_covered r right path a covering in
    let later = last_none r right path after missed in
    λ i. or_else (later i) (cond (here i) (Some a) None)
last_some r right path (x ∷ before) after a covering missed =
    ap (λ o. or_else o (cond (covers r x path) (Some x) None))
    (last_some r right path before after a covering missed)

pub last_counts : (r : Reader) → IsRightReader r → (tomls : List TomlText) (path rest : List ℕ)
    (before after : List Annotation) (a : Annotation)
    → annotations_in tomls (way path rest) ≡ before ++ (a ∷ after) → Covers rest a
    → All (λ b. Covers rest b → ⊥) after → counting_in r tomls path rest ≡ Some a
last_counts r right tomls path rest before after a is covering missed =
    ap (last_covering r rest) is ∙ last_some r right rest before after a covering missed

pub none_counts : (r : Reader) → IsRightReader r → (tomls : List TomlText) (path rest : List ℕ)
    → All (λ b. Covers rest b → ⊥) (annotations_in tomls (way path rest))
    → counting_in r tomls path rest ≡ None
none_counts r right tomls path rest missed =
    last_none r right rest (annotations_in tomls (way path rest)) missed
