-- The line that counts the rows, added piece by piece.
use Rattle.std.proofs.Common.{◌≡◌, ◌∙◌, ℕ, List, [], ◌∷◌, ◌++◌, ap, append_assoc}

pub summary_added : (start new words counts told a b c d : List ℕ) → words ≡ a ++ (b ++ (c ++ d))
    → counts ≡ told → new ≡ ((start ++ words) ++ counts) ++ 10 ∷ []
    → new ≡ start ++ (a ++ (b ++ (c ++ (d ++ (told ++ 10 ∷ [])))))
summary_added start new words counts told a b c d is are grown =
    let end = told ++ 10 ∷ [] in
    grown ∙ (λ j. ((start ++ is j) ++ are j) ++ 10 ∷ [])
    ∙ append_assoc (start ++ (a ++ (b ++ (c ++ d)))) told (10 ∷ [])
    ∙ append_assoc start (a ++ (b ++ (c ++ d))) end
    ∙ ap (λ l. start ++ l) (append_assoc a (b ++ (c ++ d)) end
    ∙ ap (λ l. a ++ l) (append_assoc b (c ++ d) end ∙ ap (λ l. b ++ l) (append_assoc c d end)))
