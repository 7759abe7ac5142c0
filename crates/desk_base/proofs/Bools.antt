-- Facts about truth values.
use Rattle.std.proofs.Common.{◌≡◌, Bool, true, false, cond, refl, sym}
use Rattle.std.specs.Prelude.{◌&&◌, ◌||◌, not}

pub and_left : (a b : Bool) → (a && b) ≡ true → a ≡ true
and_left true b e = refl
and_left false b e = e

pub and_right : (a b : Bool) → (a && b) ≡ true → b ≡ true
and_right true b e = e
and_right false b e = cc

pub or_left : (a b : Bool) → (a || b) ≡ false → a ≡ false
or_left true b e = e
or_left false b e = refl

pub or_right : (a b : Bool) → (a || b) ≡ false → b ≡ false
or_right true b e = cc
or_right false b e = e

pub contrary : (b : Bool) → b ≡ true → b ≡ false → ⊥
contrary true e f = cc
contrary false e f = cc

pub together : (a b c : Bool) → (a && (b && c)) ≡ ((a && b) && c)
together true b c = refl
together false b c = refl

-- truth values of which each brings the other
pub same_answer : (a b : Bool) → (a ≡ true → b ≡ true) → (b ≡ true → a ≡ true) → a ≡ b
same_answer true b there back = sym (there refl)
same_answer false true there back = back refl
same_answer false false there back = refl

pub cond_or : (b c : Bool) → cond b true c ≡ (b || c)
cond_or true c = refl
cond_or false c = refl

pub cond_or_turned : (b c : Bool) → cond b true c ≡ (c || b)
cond_or_turned true true = refl
cond_or_turned true false = refl
cond_or_turned false true = refl
cond_or_turned false false = refl

pub or_moves : (a b c : Bool) → (b || (a || c)) ≡ ((a || b) || c)
or_moves true true c = refl
or_moves true false c = refl
or_moves false b c = refl

-- what an insertion tells of what was there
pub was_new : (added there : Bool) → added ≡ not there → added ≡ true → there ≡ false
was_new added true is new = cc
was_new added false is new = refl

pub was_there : (added there : Bool) → added ≡ not there → added ≡ false → there ≡ true
was_there added true is old = refl
was_there added false is old = cc
