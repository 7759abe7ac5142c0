-- One more pair of two lists.
use Rattle.std.specs.Prelude.{◌==◌}
use Rattle.std.specs.List.{list_all}
use Rattle.std.proofs.lemmas.Bool.{and_parts}
use Rattle.std.proofs.lemmas.Bool.Decides.{nat_tests}
use Rattle.sqlite_value.specs.Keys.{plain}
use Rattle.sqlite_value.specs.declared.keys.Order.{Order}
use Rattle.std.proofs.Common.{◌≡◌, ◌<◌, true, suc, List, [], ◌∷◌, ◌++◌, map, length, take, get_or}
use Rattle.std.proofs.Common.{refl, sym, ap, ap₂, ◌∙◌, arith, length-append}
use Rattle.std.proofs.Math.Seq.{take-suc}
use Rattle.std.proofs.lemmas.List.{length-map}
use Rattle.std.proofs.Math.ListN.{get_or-map}

pub more_alike : {A B P : Type 0} (f : B → A) (xs : List A) (ys : List B) (ps : List P) (p : P)
    (x : A) (y : B) → length ps < length xs → length ps < length ys → x ≡ get_or xs (length ps) x
    → y ≡ get_or ys (length ps) y → x ≡ f y
    → take (length ps) xs ≡ take (length ps) (map f ys)
    → take (length (ps ++ p ∷ [])) xs ≡ take (length (ps ++ p ∷ [])) (map f ys)
more_alike f xs ys ps p x y in_xs in_ys at_x at_y same before =
    let long : length (ps ++ p ∷ []) ≡ suc (length ps) = omega (arith, length-append ps (p ∷ [])) in
    let in_map : length ps < length (map f ys) = omega (arith, length-map ys f) in
    rw (long, take-suc xs (length ps) x in_xs, take-suc (map f ys) (length ps) (f y) in_map)
    (ap₂ (λ l (z : _). l ++ z ∷ []) before
    (sym at_x ∙ same ∙ ap f at_y ∙ sym (get_or-map f ys (length ps) y)))

one_plain : (o : Order) → (o.digits == 0) ≡ true → o ≡ plain
one_plain o h = let e : o.digits ≡ 0 = grind (arith, nat_tests) in ap (λ n. record { digits = n }) e

pub plain_alike : {K : Type 0} (orders : List Order) (keys : List K) → length orders ≡ length keys
    → (list_all (λ order. order.digits == 0) orders ≡ true → orders ≡ map (λ key. plain) keys)
    × (orders ≡ map (λ key. plain) keys → list_all (λ order. order.digits == 0) orders ≡ true)
plain_alike [] [] long = (λ _. refl, λ _. refl)
plain_alike [] (k ∷ ks) long = absurd (omega arith)
plain_alike (o ∷ os) [] long = absurd (omega arith)
plain_alike (o ∷ os) (k ∷ ks) long =
    let more = plain_alike os ks (omega arith) in (
      λ h. let a = and_parts (o.digits == 0) (list_all (λ order. order.digits == 0) os) h in
          ap₂ (λ x (l : _). x ∷ l) (one_plain o a.0) (more.0 a.1),
      λ h. let first : o ≡ plain = cc in let rest : os ≡ map (λ key. plain) ks = cc in
          rw (first, more.1 rest) refl,
    )
