-- The order of texts by their bytes.
use Rattle.std.proofs.Common.{◌≡◌, ℕ, Bool, true, false, List, sym, refl, ap, ◌∙◌}
use Rattle.std.specs.Ordering.{nat_cmp, is_lt, ordering_reverse}
use Rattle.std.specs.Cmp.Lexicographic.{slice_cmp}
use Rattle.std.specs.declared.cmp.Ordering.{Ordering}
use Rattle.std.specs.declared.cmp.Ordering.TheVariants.{Less, Equal, Greater}
use Rattle.std.proofs.lemmas.Cmp.{nat_list_cmp_total}
use Rattle.std.proofs.lemmas.Map.Lookups.{exact_bytes}
use Rattle.desk_model.specs.Texts.{text_below}
use Rattle.desk_model.proofs.Orders.{less_by}

pub below_trans : (x y z : List ℕ) → text_below x y ≡ true → text_below y z ≡ true
    → text_below x z ≡ true
below_trans x y z e f = ap is_lt
    (nat_list_cmp_total.trans x y z (less_by (slice_cmp nat_cmp x y) e)
    (less_by (slice_cmp nat_cmp y z) f))

turned : (o p : Ordering) → p ≡ ordering_reverse o → is_lt o ≡ true → is_lt p ≡ false
turned Less p e f = ap is_lt e
turned Equal p e f = cc
turned Greater p e f = cc

pub below_asym : (x y : List ℕ) → text_below x y ≡ true → text_below y x ≡ false
below_asym x y e = turned (slice_cmp nat_cmp x y) (slice_cmp nat_cmp y x)
    (nat_list_cmp_total.antisymm y x) e

equal_by : (o p : Ordering) → p ≡ ordering_reverse o → is_lt o ≡ false → is_lt p ≡ false → o ≡ Equal
equal_by Less p e f g = cc
equal_by Equal p e f g = refl
equal_by Greater p e f g = let less : is_lt p ≡ true = ap is_lt e in cc

-- texts neither of which is below the other are the same
pub same_text : (x y : List ℕ) → text_below x y ≡ false → text_below y x ≡ false → x ≡ y
same_text x y e f = exact_bytes x y
    (equal_by (slice_cmp nat_cmp x y) (slice_cmp nat_cmp y x) (nat_list_cmp_total.antisymm y x) e f)

pub below_self : (x : List ℕ) (b : Bool) → text_below x x ≡ b → b ≡ false
below_self x true e = sym e ∙ below_asym x x e
below_self x false e = refl
