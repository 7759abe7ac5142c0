-- The places of identifiers.
use Rattle.std.proofs.Common.{◌≡◌, ◌∙◌, ℕ, suc, ◌+◌, ◌<◌, Bool, true, false, List, [], ◌∷◌, ◌++◌}
use Rattle.std.proofs.Common.{length, drop, get_or, ap, sym, refl, cond, arith, append_assoc}
use Rattle.std.specs.Prelude.{Option, Some, None, map, codes}
use Rattle.std.proofs.lemmas.Simd.{map-map}
use Rattle.desk_tagvalue.specs.declared.parts.Package.{Package}
use Rattle.desk_tagvalue.specs.declared.parts.FileEntry.{FileEntry}
use Rattle.desk_tagvalue.specs.declared.parts.Snippet.{Snippet}
use Rattle.desk_tagvalue.specs.Parts.{PackageText, FileText, SnippetText}
use Rattle.desk_tagvalue.specs.Views.{package_text, file_text, snippet_text}
use Rattle.std.specs.BTreeMap.{BTreeMap, UpdatesBy}
use Rattle.std.specs.Ordering.{nat_cmp}
use Rattle.std.specs.Cmp.Lexicographic.{slice_cmp}
use Rattle.std.specs.Str.{bytes_eq}
use Rattle.std.proofs.lemmas.List.{drop_more, drop_all}
use Rattle.std.proofs.lemmas.Map.Text.{btree_map_updates_str}
use denote.Ref.{Bor}
use Rattle.desk_bom.specs.Places.{place_in, place_of, later}

-- the identifiers of all elements, list by list
pub ids_joined : (ps : List Package) (fs : List FileEntry) (ss : List Snippet)
    (a b c e : List (List ℕ)) → a ≡ codes "SPDXRef-DOCUMENT" ∷ []
    → b ≡ a ++ map (λ p. p.id.now) ps → c ≡ b ++ map (λ f. f.id.now) fs
    → e ≡ c ++ map (λ s. s.id.now) ss
    → e ≡ codes "SPDXRef-DOCUMENT"
    ∷ (map (λ p. p.id) (map package_text ps)
    ++ (map (λ f. f.id) (map file_text fs) ++ map (λ s. s.id) (map snippet_text ss)))
ids_joined ps fs ss a b c e is_a is_b is_c is_e =
    is_e ∙ ap (λ l. l ++ map (λ s. s.id.now) ss)
    (is_c ∙ ap (λ l. l ++ map (λ f. f.id.now) fs)
    (is_b ∙ ap (λ l. l ++ map (λ p. p.id.now) ps) is_a))
    ∙ ap (λ l. codes "SPDXRef-DOCUMENT" ∷ l)
    (append_assoc (map (λ p. p.id.now) ps) (map (λ f. f.id.now) fs) (map (λ s. s.id.now) ss))
    ∙ ap (λ l. codes "SPDXRef-DOCUMENT" ∷ (l ++ (map (λ f. f.id.now) fs ++ map (λ s. s.id.now) ss)))
    (sym (map-map (λ (p : PackageText). p.id) package_text ps))
    ∙ ap (λ l. codes "SPDXRef-DOCUMENT"
    ∷ (map (λ p. p.id) (map package_text ps) ++ (l ++ map (λ s. s.id.now) ss)))
    (sym (map-map (λ (f : FileText). f.id) file_text fs))
    ∙ ap (λ l. codes "SPDXRef-DOCUMENT"
    ∷ (map (λ p. p.id) (map package_text ps) ++ (map (λ f. f.id) (map file_text fs) ++ l)))
    (sym (map-map (λ (s : SnippetText). s.id) snippet_text ss))

-- a place is within the list
pub place_within : (id : List ℕ) (ids : List (List ℕ)) (n : ℕ) → place_of id ids ≡ Some n
    → n < length ids
place_within id [] n e = absurd cc
place_within id (x ∷ xs) n e = at (bytes_eq x id) (place_of id xs) (place_within id xs) e
  where
    at : (b : Bool) (place : Option ℕ) → ((k : ℕ) → place ≡ Some k → k < length xs)
        → cond b (Some 0) (later place) ≡ Some n → n < suc (length xs)
    at true place h e = let z : 0 ≡ n = cc in omega arith
    at false None h e = absurd cc
    at false (Some k) h e = let z : k + 1 ≡ n = cc in let lt : k < length xs = h k refl in
        omega arith
