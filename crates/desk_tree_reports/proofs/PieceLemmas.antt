-- Pieces one after another.
use Rattle.std.proofs.Common.{◌≡◌, ◌∙◌, ℕ, ◌+◌, ◌<◌, ◌≤◌, List, [], ◌∷◌, ◌++◌, length, get_or, take, ap}
use Rattle.std.proofs.Common.{sym, refl, arith, append_assoc, Option}
use Rattle.std.proofs.lemmas.List.{append-nil, take_more, length-take-le}
use Rattle.std.proofs.Common.{Some, None}
use Rattle.std.specs.Io.KnownBytes.{Appends}
use Rattle.desk_tree_reports.specs.Pieces.{woven}

-- one piece more
pub woven_more : (owns shares : List (List ℕ)) (own share : List ℕ) → length owns ≡ length shares
    → woven (owns ++ own ∷ []) (shares ++ share ∷ []) ≡ woven owns shares ++ (own ++ share)
woven_more [] [] own share same = ap (λ l. own ++ l) (append-nil share)
woven_more [] (s ∷ ss) own share same = absurd (omega (arith, same))
woven_more (o ∷ os) [] own share same = absurd (omega (arith, same))
woven_more (o ∷ os) (s ∷ ss) own share same =
    ap (λ l. o ++ (s ++ l)) (woven_more os ss own share (omega (arith, same)))
    ∙ ap (λ l. o ++ l) (sym (append_assoc s (woven os ss) (own ++ share)))
    ∙ sym (append_assoc o (s ++ woven os ss) (own ++ share))

pub woven_next : (owns shares : List (List ℕ)) (i : ℕ) (o s : List ℕ)
    → length owns ≡ length shares → i < length owns
    → woven (take (i + 1) owns) (take (i + 1) shares) ≡ woven (take i owns) (take i shares)
    ++ (get_or owns i o ++ get_or shares i s)
woven_next owns shares i o s same within =
    let inside : i < length shares = omega (arith, same, within) in
    let first : i ≤ length owns = omega (arith, within) in
    let second : i ≤ length shares = omega (arith, inside) in
    (λ j. woven (take_more owns i o within j) (take_more shares i s inside j))
    ∙ woven_more (take i owns) (take i shares) (get_or owns i o) (get_or shares i s)
    (length-take-le i owns first ∙ sym (length-take-le i shares second))

-- ---- what is written

pub appends_both : (a b c : Option (List ℕ)) (x y : List ℕ) → Appends a b x → Appends b c y
    → Appends a c (x ++ y)
appends_both None b c x y first second = tt
appends_both (Some a) None c x y first second = absurd first
appends_both (Some a) (Some b) None x y first second = absurd second
appends_both (Some a) (Some b) (Some c) x y first second = second ∙ ap (λ l. l ++ y) first
    ∙ append_assoc a x y
