-- The tags of some runs.
use Rattle.std.proofs.Common.{◌≡◌, ◌≢◌, ◌∙◌, ℕ, ◌<◌, List, [], ◌∷◌, ◌++◌, length, sym, subst, ap}
use Rattle.std.proofs.Common.{refl, append_assoc, append-nil}
use Rattle.std.proofs.lemmas.List.{nil_from_length}
use Rattle.std.specs.Prelude.{Option, Some, None, IfNone, IfSome, MatchOption}
use denote.Ref.{Bor}
use Rattle.desk_tree_annotations.specs.Runs.{RunText, IsRun, Shows}
use Rattle.desk_tree_annotations.specs.Tags.{TagText, Gives, onto, IsInfo, notice_tag, licence_tag}
use Rattle.desk_tree_annotations.specs.Found.{Adds}

pub end_none : (s p : List ℕ) (r : Option (Bor (List ℕ)))
    → MatchOption r ((front : List ℕ) → s ≢ front ++ p) (λ x. s ≡ x.now ++ p)
    → IfNone r ((front : List ℕ) → s ≡ front ++ p → ⊥)
end_none s p None h = h
end_none s p (Some x) h = tt

pub end_some : (s p : List ℕ) (r : Option (Bor (List ℕ)))
    → MatchOption r ((front : List ℕ) → s ≢ front ++ p) (λ x. s ≡ x.now ++ p)
    → IfSome r (λ x. s ≡ x.now ++ p)
end_some s p None h = tt
end_some s p (Some x) h = h

onto_append : (line : ℕ) (o : Option (Option (List ℕ))) (ts : List TagText)
    → onto line o [] ++ ts ≡ onto line o ts
onto_append line None ts = refl
onto_append line (Some None) ts = refl
onto_append line (Some (Some v)) ts = refl

-- what a run adds to a list, and what the runs after it add
pub adds_more : (tag : List ℕ) (seen : ℕ) (r : RunText) (rs : List RunText)
    (before items : List TagText) (last : ℕ)
    → Adds tag seen r before items last → (ts : List TagText) → Gives tag last rs ts
    → (more : List TagText) × Gives tag seen (r ∷ rs) more × (before ++ more ≡ items ++ ts)
adds_more tag seen r rs before items last a ts h =
    let o = a.0 in
    let gives : Gives tag seen (r ∷ rs) (onto r.line o ts) =
    (o, ts, a.1, refl, subst (λ n. Gives tag n rs ts) a.3 h) in (
      onto r.line o ts,
      gives,
      ap (λ l. before ++ l) (sym (onto_append r.line o ts))
          ∙ sym (append_assoc before (onto r.line o []) ts) ∙ ap (λ l. l ++ ts) (sym a.2),
    )

-- whatever the bytes that are left show and give completes the file's notices and licences
abbrev pub Completes : List ℕ → ℕ → List ℕ → ℕ → List TagText → ℕ → List TagText → Type 0
Completes file line bytes noticed notices licensed licences =
    (rs : List RunText) (ns ls : List TagText) → Shows line bytes rs
    → Gives notice_tag noticed rs ns → Gives licence_tag licensed rs ls
    → IsInfo file (notices ++ ns) (licences ++ ls)

pub completes_start : (file : List ℕ) → Completes file 1 file 0 [] 0 []
completes_start file rs ns ls shows n l = (rs, shows, n, l)

pub completes_step : (file : List ℕ) (line : ℕ) (bytes text : List ℕ) (after : ℕ) (rest : List ℕ)
    → 0 < length bytes → IsRun line bytes text after rest
    → (noticed : ℕ) (notices : List TagText) (noticed2 : ℕ) (notices2 : List TagText)
    → Adds notice_tag noticed (record { line = line; text = text }) notices notices2 noticed2
    → (licensed : ℕ) (licences : List TagText) (licensed2 : ℕ) (licences2 : List TagText)
    → Adds licence_tag licensed (record { line = line; text = text }) licences licences2 licensed2
    → Completes file line bytes noticed notices licensed licences
    → Completes file after rest noticed2 notices2 licensed2 licences2
completes_step file line bytes text after rest some run noticed notices noticed2 notices2 a licensed
    licences licensed2 licences2 b inv rs ns ls shows n l =
    let r : RunText = record { line = line; text = text } in
    let x = adds_more notice_tag noticed r rs notices notices2 noticed2 a ns n in
    let y = adds_more licence_tag licensed r rs licences licences2 licensed2 b ls l in
    let whole = inv (r ∷ rs) x.0 y.0 (after, rest, some, refl, run, shows) x.1 y.1 in
    subst (λ k. IsInfo file k (licences2 ++ ls)) x.2
    (subst (λ k. IsInfo file (notices ++ x.0) k) y.2 whole)

pub completes_end : (file : List ℕ) (line : ℕ) (bytes : List ℕ) (noticed : ℕ)
    (notices : List TagText) (licensed : ℕ) (licences : List TagText)
    → length bytes ≡ 0 → Completes file line bytes noticed notices licensed licences
    → IsInfo file notices licences
completes_end file line bytes noticed notices licensed licences none inv =
    let whole = inv [] [] [] (nil_from_length bytes none) refl refl in
    subst (λ k. IsInfo file k licences) (append-nil notices)
    (subst (λ k. IsInfo file (notices ++ []) k) (append-nil licences) whole)
