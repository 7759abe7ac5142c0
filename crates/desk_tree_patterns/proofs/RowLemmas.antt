-- Rows of places: which texts the pieces from each place on match.
use Rattle.std.proofs.Common.{◌≡◌, ◌≢◌, ◌∙◌, ◌⊎◌, ◌↔◌, inl, inr, ℕ, ◌+◌, ◌<◌, List, [], ◌∷◌, ◌++◌, length, drop}
use Rattle.std.proofs.Common.{sym, subst, ap, refl, arith, append_assoc, ⊎_elim, Bool, true, false}
use Rattle.std.proofs.Common.{get_or, take, min, ◌-◌, ◌≤◌, append-nil, take-append-drop, length-drop}
use Rattle.std.proofs.Common.{length-take-le, length-append}
use Rattle.std.specs.Prelude.{IsTrue, ◌&&◌, ◌||◌, ◌==◌, set, replicate}
use Rattle.std.proofs.lemmas.Bool.{true≢false, cases_eq, cases_lt, and_parts, and_from, or_cases, or_left}
use Rattle.std.proofs.lemmas.Bool.{or_right, eqb-true, eq-eqb}
use Rattle.std.proofs.lemmas.List.{take-take, drop-take, drop-drop, take_min, drop_min}
use Rattle.std.proofs.lemmas.List.{get_or-set_same, get_or-set_other, drop_more, drop_all}
use Rattle.std.proofs.lemmas.List.{get_or-replicate, get_or_append_left, get_or_at, take_all, length-set}
use Rattle.std.proofs.lemmas.List.{length-replicate}
use Rattle.desk_tree_patterns.specs.declared.glob.Piece.{Piece}
use Rattle.desk_tree_patterns.specs.declared.glob.Piece.TheVariants.{Byte, InName, InPath}
use Rattle.desk_tree_patterns.specs.declared.glob.Star.{Star}
use Rattle.desk_tree_patterns.specs.declared.glob.Star.TheVariants.{Single, Double}
use Rattle.desk_tree_patterns.specs.declared.glob.Part.{Part}
use Rattle.desk_tree_patterns.specs.declared.rows.Stars.{Stars}
use Rattle.desk_tree_patterns.specs.Glob.{IsMatch, Covers}
use Rattle.desk_tree_patterns.specs.Parts.{literal, pieces, star_piece}
use Rattle.desk_tree_patterns.specs.Steps.{Passes}
use Rattle.desk_tree_patterns.specs.Rows.{star, star_at, doubled, onward, Same, IsRow}
use Rattle.desk_tree_patterns.proofs.Greedy.{Wild, wild_name, wild_path, none_covered, both_covered}
use Rattle.desk_tree_patterns.proofs.Greedy.{tail_covered, one_covered, longer_out, empty_out}

-- ---- pieces that match the same texts

pub same_refl : (ps : List Piece) → Same ps ps
same_refl ps text = (λ m. m, λ m. m)

pub same_trans : (ps qs rs : List Piece) → Same ps qs → Same qs rs → Same ps rs
same_trans ps qs rs a b text = (λ m. (b text).0 ((a text).0 m), λ m. (a text).1 ((b text).1 m))

pub same_is : (ps qs : List Piece) → ps ≡ qs → Same ps qs
same_is ps qs is = subst (Same ps) is (same_refl ps)

same_cons : (p : Piece) (ps qs : List Piece) → Same ps qs → Same (p ∷ ps) (p ∷ qs)
same_cons p ps qs a text = (
  λ m. (m.0, m.1, m.2, m.3, (a m.1).0 m.4),
  λ m. (m.0, m.1, m.2, m.3, (a m.1).1 m.4),
)

same_star : (d a : Bool) (ps qs : List Piece) → Same ps qs → Same (star d a ps) (star d a qs)
same_star true a ps qs s = same_cons InPath ps qs s
same_star false true ps qs s = same_cons InName ps qs s
same_star false false ps qs s = s

-- ---- two stars at one place

-- the stretches of two pieces are one of another
as_one : (w v r : Piece) (ps : List Piece) (text : List ℕ)
    → ((a b : List ℕ) → Covers w a → Covers v b → Covers r (a ++ b)) → IsMatch (w ∷ v ∷ ps) text
    → IsMatch (r ∷ ps) text
as_one w v r ps text join m = (
  m.0 ++ m.4.0,
  m.4.1,
  m.2 ∙ ap (λ l. m.0 ++ l) m.4.2 ∙ sym (append_assoc m.0 m.4.0 m.4.1),
  join m.0 m.4.0 m.3 m.4.3,
  m.4.4,
)

-- two stars are the first, if it also takes what the second does
first_alone : (w v : Piece) (ps : List Piece) → Wild v
    → ((a b : List ℕ) → Covers w a → Covers v b → Covers w (a ++ b)) → Same (w ∷ v ∷ ps) (w ∷ ps)
first_alone w v ps k join text =
    (as_one w v w ps text join, λ m. (m.0, m.1, m.2, m.3, empty_out v ps m.1 k m.4))

-- they are the second, if it also takes what the first does
second_alone : (w v : Piece) (ps : List Piece) → Wild w
    → ((a b : List ℕ) → Covers w a → Covers v b → Covers v (a ++ b)) → Same (w ∷ v ∷ ps) (v ∷ ps)
second_alone w v ps h join text = (as_one w v v ps text join, empty_out w (v ∷ ps) text h)

-- one `*` more at a place
pub single_joins : (d a : Bool) (ps : List Piece) → Same (star d a (InName ∷ ps)) (star d true ps)
single_joins true a ps = first_alone InPath InName ps wild_name (λ a b x y. tt)
single_joins false true ps = first_alone InName InName ps wild_name
    (λ a b x y. both_covered InName a b wild_name x y)
single_joins false false ps = same_refl (InName ∷ ps)

-- one `**` more at a place
pub double_joins : (d a : Bool) (ps : List Piece) → Same (star d a (InPath ∷ ps)) (star true true ps)
double_joins true a ps = first_alone InPath InPath ps wild_path (λ a b x y. tt)
double_joins false true ps = second_alone InName InPath ps wild_name (λ a b x y. tt)
double_joins false false ps = same_refl (InPath ∷ ps)

-- ---- the pieces from a place on

-- there is no star behind a place
abbrev pub Clear : Stars → ℕ → Type 0
Clear s n = (p : ℕ) → n < p → (get_or s.double.items p false ≡ false)
    × (get_or s.any.items p false ≡ false)

no_star : (s : Stars) (n p : ℕ) (ps : List Piece) → Clear s n → n < p → star_at s p ps ≡ ps
no_star s n p ps clear lt i = star ((clear p lt).0 i) ((clear p lt).1 i) ps

run_onward : (s : Stars) (n k : ℕ) (run : List ℕ) (ps : List Piece) → Clear s k → k < n + 1
    → onward s n run ps ≡ star_at s n (literal run ++ ps)
run_onward s n k [] ps clear lt = refl
run_onward s n k (b ∷ run) ps clear lt =
    ap (λ l. star_at s n (Byte b ∷ l))
    (run_onward s (n + 1) k run ps clear (omega arith)
    ∙ no_star s k (n + 1) (literal run ++ ps) clear (omega arith))

-- a run behind the last star is some bytes more
pub more_onward : (s : Stars) (n k : ℕ) (bs run : List ℕ) (ps : List Piece) → Clear s k
    → k < n + length bs + 1 → onward s n bs (literal run ++ ps) ≡ onward s n (bs ++ run) ps
more_onward s n k [] run ps clear lt = sym (run_onward s n k run ps clear (omega arith))
more_onward s n k (b ∷ bs) run ps clear lt =
    ap (λ l. star_at s n (Byte b ∷ l)) (more_onward s (n + 1) k bs run ps clear (omega arith))

-- the stars before a place are the same
abbrev pub Agree : Stars → Stars → ℕ → Type 0
Agree s t n = (p : ℕ) → p < n → (get_or s.double.items p false ≡ get_or t.double.items p false)
    × (get_or s.any.items p false ≡ get_or t.any.items p false)

agree_star : (s t : Stars) (n p : ℕ) (ps : List Piece) → Agree s t n → p < n
    → star_at s p ps ≡ star_at t p ps
agree_star s t n p ps same lt i = star ((same p lt).0 i) ((same p lt).1 i) ps

-- pieces that are the same from a place on are so from each place before it
pub onward_same : (s t : Stars) (n k : ℕ) (bs : List ℕ) (ps qs : List Piece) → n + length bs ≡ k
    → Agree s t k → Same (star_at s k ps) (star_at t k qs)
    → Same (onward s n bs ps) (onward t n bs qs)
onward_same s t n k [] ps qs is agree same =
    let here : k ≡ n = omega arith in
    subst (λ m. Same (star_at s m ps) (star_at t m qs)) here same
onward_same s t n k (b ∷ bs) ps qs is agree same =
    same_trans (star_at s n (Byte b ∷ onward s (n + 1) bs ps))
    (star_at s n (Byte b ∷ onward t (n + 1) bs qs)) (star_at t n (Byte b ∷ onward t (n + 1) bs qs))
    (same_star (get_or s.double.items n false) (get_or s.any.items n false)
    (Byte b ∷ onward s (n + 1) bs ps) (Byte b ∷ onward t (n + 1) bs qs)
    (same_cons (Byte b) (onward s (n + 1) bs ps) (onward t (n + 1) bs qs)
    (onward_same s t (n + 1) k bs ps qs (omega arith) agree same)))
    (same_is (star_at s n (Byte b ∷ onward t (n + 1) bs qs))
    (star_at t n (Byte b ∷ onward t (n + 1) bs qs))
    (agree_star s t k n (Byte b ∷ onward t (n + 1) bs qs) agree (omega arith)))

front_more : (bytes : List ℕ) (at n : ℕ) → take at bytes ++ take n (drop at bytes) ≡ take (at + n) bytes
front_more bytes at n =
    ap (λ l. l ++ take n (drop at bytes)) (sym (take-take at (at + n) bytes (omega arith)))
    ∙ ap (λ l. take at (take (at + n) bytes) ++ l) (sym (drop-take at n bytes))
    ∙ take-append-drop at (take (at + n) bytes)

-- a part read, and its star put at its place
part_put : (bytes : List ℕ) (p : Part) (ps : List Part) (at n : ℕ) (s t : Stars)
    → at ≤ length bytes → n ≡ min p.before (length bytes - at) → Clear s at → Agree s t (at + n)
    → ((qs : List Piece) → Same (star_at s (at + n) (star_piece p.star ∷ qs))
    (star_at t (at + n) qs))
    → Same (onward s 0 (take at bytes) (pieces (drop at bytes) (p ∷ ps)))
    (onward t 0 (take (at + n) bytes) (pieces (drop (at + n) bytes) ps))
part_put bytes p ps at n s t le is clear agree same =
    let rest = drop at bytes in
    let count : min p.before (length rest) ≡ n = ap (min p.before) (length-drop at bytes) ∙ sym is in
    let run = take n rest in
    let later = pieces (drop (at + n) bytes) ps in
    let front : take p.before rest ≡ run =
    sym (take_min p.before rest) ∙ ap (λ k. take k rest) count in
    let back : drop p.before rest ≡ drop (at + n) bytes =
    sym (drop_min p.before rest) ∙ ap (λ k. drop k rest) count ∙ drop-drop n at bytes in
    let read : pieces rest (p ∷ ps) ≡ literal run ++ (star_piece p.star ∷ later) =
    ap (λ l. literal l ++ (star_piece p.star ∷ pieces (drop p.before rest) ps)) front
    ∙ ap (λ l. literal run ++ (star_piece p.star ∷ pieces l ps)) back in
    let short : length (take at bytes) ≡ at = length-take-le at bytes le in
    let long : length (take (at + n) bytes) ≡ at + n =
    length-take-le (at + n) bytes (omega arith) in
    same_trans (onward s 0 (take at bytes) (pieces rest (p ∷ ps)))
    (onward s 0 (take (at + n) bytes) (star_piece p.star ∷ later))
    (onward t 0 (take (at + n) bytes) later)
    (same_is (onward s 0 (take at bytes) (pieces rest (p ∷ ps)))
    (onward s 0 (take (at + n) bytes) (star_piece p.star ∷ later))
    (ap (onward s 0 (take at bytes)) read
    ∙ more_onward s 0 at (take at bytes) run (star_piece p.star ∷ later) clear (omega arith)
    ∙ ap (λ l. onward s 0 l (star_piece p.star ∷ later)) (front_more bytes at n)))
    (onward_same s t 0 (at + n) (take (at + n) bytes) (star_piece p.star ∷ later) later
    (omega arith) agree (same later))

-- `mark` at a place
pub record Marks (k : Star) (at : ℕ) (s t : Stars) : Type 0 where
  pub any : t.any.items ≡ set s.any.items at true
  pub double : t.double.items ≡ doubled k at s.double.items

doubled_other : (k : Star) (at p : ℕ) (list : List Bool) → p ≢ at
    → get_or (doubled k at list) p false ≡ get_or list p false
doubled_other Single at p list ne = refl
doubled_other Double at p list ne = get_or-set_other list at p true false ne

pub doubled_places : (k : Star) (at : ℕ) (s t : Stars) → Marks k at s t
    → length t.double.items ≡ length s.double.items
doubled_places Single at s t m = ap length m.double
doubled_places Double at s t m = ap length m.double ∙ length-set s.double.items at true

any_other : (k : Star) (at p : ℕ) (s t : Stars) → Marks k at s t → p ≢ at
    → get_or t.any.items p false ≡ get_or s.any.items p false
any_other k at p s t m ne = ap (λ l. get_or l p false) m.any
    ∙ get_or-set_other s.any.items at p true false ne

double_other : (k : Star) (at p : ℕ) (s t : Stars) → Marks k at s t → p ≢ at
    → get_or t.double.items p false ≡ get_or s.double.items p false
double_other k at p s t m ne = ap (λ l. get_or l p false) m.double
    ∙ doubled_other k at p s.double.items ne

any_here : (k : Star) (at : ℕ) (s t : Stars) → Marks k at s t → at < length s.any.items
    → get_or t.any.items at false ≡ true
any_here k at s t m lt = ap (λ l. get_or l at false) m.any
    ∙ get_or-set_same s.any.items at true false lt

pub marks_clear : (k : Star) (at n : ℕ) (s t : Stars) → Marks k (at + n) s t → Clear s at
    → Clear t (at + n)
marks_clear k at n s t m clear p lt = (
  double_other k (at + n) p s t m (λ e. absurd (omega arith)) ∙ (clear p (omega arith)).0,
  any_other k (at + n) p s t m (λ e. absurd (omega arith)) ∙ (clear p (omega arith)).1,
)

marks_agree : (k : Star) (at : ℕ) (s t : Stars) → Marks k at s t → Agree s t at
marks_agree k at s t m p lt = (
  sym (double_other k at p s t m (λ e. absurd (omega arith))),
  sym (any_other k at p s t m (λ e. absurd (omega arith))),
)

pub marks_both : (k : Star) (at : ℕ) (s t : Stars) → Marks k at s t → at < length s.any.items
    → ((p : ℕ) → IsTrue (get_or s.double.items p false) → IsTrue (get_or s.any.items p false))
    → (p : ℕ) → IsTrue (get_or t.double.items p false) → IsTrue (get_or t.any.items p false)
marks_both k at s t m lt both p is = elim (cases_eq p at) [
  | inl here ↦ ap (λ n. get_or t.any.items n false) here ∙ any_here k at s t m lt
  | inr other ↦ any_other k at p s t m other
      ∙ both p (sym (double_other k at p s t m other) ∙ is)
]

marks_joins : (k : Star) (at : ℕ) (s t : Stars) → Marks k at s t → at < length s.any.items
    → at < length s.double.items → (qs : List Piece)
    → Same (star_at s at (star_piece k ∷ qs)) (star_at t at qs)
marks_joins Single at s t m lt fits qs =
    let d = get_or s.double.items at false in
    subst (Same (star_at s at (InName ∷ qs)))
    (λ i. star (sym (ap (λ l. get_or l at false) m.double) i)
    (sym (any_here Single at s t m lt) i) qs)
    (single_joins d (get_or s.any.items at false) qs)
marks_joins Double at s t m lt fits qs =
    let here : get_or t.double.items at false ≡ true = ap (λ l. get_or l at false) m.double
    ∙ get_or-set_same s.double.items at true false fits in
    subst (Same (star_at s at (InPath ∷ qs)))
    (λ i. star (sym here i) (sym (any_here Double at s t m lt) i) qs)
    (double_joins (get_or s.double.items at false) (get_or s.any.items at false) qs)

-- one part more is read
pub part_read : (whole : List Piece) (bytes : List ℕ) (p : Part) (parts ps : List Part) (at n : ℕ)
    (s t : Stars) → at ≤ length bytes → n ≡ min p.before (length bytes - at)
    → length s.any.items ≡ length bytes + 1 → length s.double.items ≡ length bytes + 1
    → Clear s at → Marks p.star (at + n) s t → parts ≡ p ∷ ps
    → Same whole (onward s 0 (take at bytes) (pieces (drop at bytes) parts))
    → Same whole (onward t 0 (take (at + n) bytes) (pieces (drop (at + n) bytes) ps))
part_read whole bytes p parts ps at n s t le is any double clear m cut same =
    let before : Same whole (onward s 0 (take at bytes) (pieces (drop at bytes) (p ∷ ps))) =
    subst (λ l. Same whole (onward s 0 (take at bytes) (pieces (drop at bytes) l))) cut same in
    same_trans whole (onward s 0 (take at bytes) (pieces (drop at bytes) (p ∷ ps)))
    (onward t 0 (take (at + n) bytes) (pieces (drop (at + n) bytes) ps)) before
    (part_put bytes p ps at n s t le is clear (marks_agree p.star (at + n) s t m)
    (marks_joins p.star (at + n) s t m (omega arith) (omega arith)))

-- all parts are read
pub all_read : (whole : List Piece) (bytes : List ℕ) (parts : List Part) (at : ℕ) (s : Stars)
    → at ≤ length bytes → Clear s at → parts ≡ []
    → Same whole (onward s 0 (take at bytes) (pieces (drop at bytes) parts))
    → Same whole (onward s 0 bytes [])
all_read whole bytes parts at s le clear none same =
    let short : length (take at bytes) ≡ at = length-take-le at bytes le in
    subst (Same whole)
    (ap (λ l. onward s 0 (take at bytes) (pieces (drop at bytes) l)) none
    ∙ ap (onward s 0 (take at bytes)) (sym (append-nil (literal (drop at bytes))))
    ∙ more_onward s 0 at (take at bytes) (drop at bytes) [] clear (omega arith)
    ∙ ap (λ l. onward s 0 l []) (take-append-drop at bytes)) same

-- ---- one byte more before a text

byte_first : (b c : ℕ) (ps : List Piece) (ts : List ℕ) → IsMatch (Byte b ∷ ps) (c ∷ ts)
    → (b ≡ c) × IsMatch ps ts
byte_first b c ps ts m =
    let whole : c ∷ ts ≡ b ∷ m.1 = m.2 ∙ ap (λ l. l ++ m.1) m.3 in
    let same : b ≡ c = cc in
    let rest : ts ≡ m.1 = cc in
    (same, subst (IsMatch ps) (sym rest) m.4)

byte_back : (b c : ℕ) (ps : List Piece) (ts : List ℕ) → b ≡ c → IsMatch ps ts
    → IsMatch (Byte b ∷ ps) (c ∷ ts)
byte_back b c ps ts is m = (b ∷ [], ts, ap (λ x. x ∷ ts) (sym is), refl, m)

wild_cut : (w : Piece) (c : ℕ) (ps : List Piece) (ts st rest : List ℕ) → Wild w
    → c ∷ ts ≡ st ++ rest → Covers w st → IsMatch ps rest
    → (Passes w c × IsMatch (w ∷ ps) ts) ⊎ IsMatch ps (c ∷ ts)
wild_cut w c ps ts [] rest h cut covers m = inr (subst (IsMatch ps) (sym cut) m)
wild_cut w c ps ts (d ∷ a) rest h cut covers m =
    let same : d ≡ c = cc in
    let later : ts ≡ a ++ rest = cc in
    inl (
      subst (Passes w) same (one_covered w d a h covers),
      (a, rest, later, tail_covered w d a h covers, m),
    )

wild_first : (w : Piece) (c : ℕ) (ps : List Piece) (ts : List ℕ) → Wild w
    → IsMatch (w ∷ ps) (c ∷ ts) → (Passes w c × IsMatch (w ∷ ps) ts) ⊎ IsMatch ps (c ∷ ts)
wild_first w c ps ts h m = wild_cut w c ps ts m.0 m.1 h m.2 m.3 m.4

-- a star at a place takes this byte
pub record Stays (d a stay : Bool) (c : ℕ) : Type 0 where
  pub both : IsTrue d → IsTrue a
  pub slash : c ≡ 47 → stay ≡ d
  pub other : c ≢ 47 → stay ≡ a

name_passes : (c : ℕ) → c ≢ 47 → Passes InName c
name_passes c is = λ k d lt. elim (cases_eq k 0) [
  | inl first ↦ subst (λ k. get_or (c ∷ []) k d ≢ 47) (sym first) is
  | inr other ↦ absurd (omega arith)
]

stays_slash : (c : ℕ) (stay a : Bool) → Stays false a stay c → IsTrue stay → c ≢ 47
stays_slash c stay a s is slash = true≢false (sym is ∙ s.slash slash)

star_first : (d a stay : Bool) (c : ℕ) (ps : List Piece) (ts : List ℕ) → Stays d a stay c
    → IsMatch (star d a ps) (c ∷ ts)
    → (IsTrue stay × IsMatch (star d a ps) ts) ⊎ IsMatch ps (c ∷ ts)
star_first true a stay c ps ts s m =
    let stays : IsTrue stay = ⊎_elim (λ e. s.slash e) (λ n. s.other n ∙ s.both refl) (cases_eq c 47) in
    ⊎_elim (λ p. inl (stays, p.1)) (λ r. inr r) (wild_first InPath c ps ts wild_path m)
star_first false true stay c ps ts s m =
    ⊎_elim (λ p. inl (s.other (p.0 0 0 (omega arith)), p.1)) (λ r. inr r)
    (wild_first InName c ps ts wild_name m)
star_first false false stay c ps ts s m = inr m

star_back : (d a stay : Bool) (c : ℕ) (ps : List Piece) (ts : List ℕ) → Stays d a stay c
    → IsTrue stay → IsMatch (star d a ps) ts → IsMatch (star d a ps) (c ∷ ts)
star_back true a stay c ps ts s is m = longer_out InPath ps c ts wild_path tt m
star_back false true stay c ps ts s is m = longer_out InName ps c ts wild_name
    (name_passes c (stays_slash c stay true s is)) m
star_back false false stay c ps ts s is m =
    absurd (true≢false (sym is ∙ s.other (stays_slash c stay false s is)))

star_empty : (d a : Bool) (ps : List Piece) (ts : List ℕ) → IsMatch ps ts → IsMatch (star d a ps) ts
star_empty true a ps ts m = empty_out InPath ps ts wild_path m
star_empty false true ps ts m = empty_out InName ps ts wild_name m
star_empty false false ps ts m = m

-- what a row has at a place once there is a byte more
new_place : (d a stay old next : Bool) (b c : ℕ) (ps : List Piece) (ts : List ℕ) → Stays d a stay c
    → (IsTrue old ↔ IsMatch (star d a (Byte b ∷ ps)) ts) → (IsTrue next ↔ IsMatch ps ts)
    → IsTrue ((old && stay) || (next && (b == c))) ↔ IsMatch (star d a (Byte b ∷ ps)) (c ∷ ts)
new_place d a stay old next b c ps ts s here behind = (
  λ is. ⊎_elim
      (λ o. let both = and_parts old stay o in
      star_back d a stay c (Byte b ∷ ps) ts s both.1 (here.0 both.0))
      (λ n. let both = and_parts next (b == c) n in
      star_empty d a (Byte b ∷ ps) (c ∷ ts)
      (byte_back b c ps ts (eqb-true b c both.1) (behind.0 both.0)))
      (or_cases (old && stay) (next && (b == c)) is),
  λ m. ⊎_elim
      (λ p. or_left (old && stay) (next && (b == c)) (and_from old stay (here.1 p.1) p.0))
      (λ r. let found = byte_first b c ps ts r in
      or_right (old && stay) (next && (b == c))
      (and_from next (b == c) (behind.1 found.1) (eq-eqb b c found.0)))
      (star_first d a stay c (Byte b ∷ ps) ts s m),
)

new_end : (d a stay old : Bool) (c : ℕ) (ts : List ℕ) → Stays d a stay c
    → (IsTrue old ↔ IsMatch (star d a []) ts)
    → IsTrue (old && stay) ↔ IsMatch (star d a []) (c ∷ ts)
new_end d a stay old c ts s here = (
  λ is. let both = and_parts old stay is in
      star_back d a stay c [] ts s both.1 (here.0 both.0),
  λ m. ⊎_elim (λ p. and_from old stay (here.1 p.1) p.0) (λ r. let none : c ∷ ts ≡ [] = r in cc)
      (star_first d a stay c [] ts s m),
)

-- ---- rows

wild_none : (ps : List Piece) (st rest : List ℕ) → [] ≡ st ++ rest → IsMatch ps rest → IsMatch ps []
wild_none ps [] rest cut m = subst (IsMatch ps) (sym cut) m
wild_none ps (d ∷ a) rest cut m = cc

star_none : (d a : Bool) (ps : List Piece) → IsMatch (star d a ps) [] → IsMatch ps []
star_none true a ps m = wild_none ps m.0 m.1 m.2 m.4
star_none false true ps m = wild_none ps m.0 m.1 m.2 m.4
star_none false false ps m = m

byte_none : (b : ℕ) (ps : List Piece) → IsMatch (Byte b ∷ ps) [] → ⊥
byte_none b ps m = let none : [] ≡ b ∷ m.1 = m.2 ∙ ap (λ l. l ++ m.1) m.3 in cc

here_on : (s : Stars) (bytes : List ℕ) (at : ℕ) → at < length bytes
    → onward s at (drop at bytes) []
    ≡ star_at s at (Byte (get_or bytes at 0) ∷ onward s (at + 1) (drop (at + 1) bytes) [])
here_on s bytes at lt = ap (λ l. onward s at l []) (drop_more bytes at 0 lt)

end_on : (s : Stars) (bytes : List ℕ) (at : ℕ) → length bytes ≤ at
    → onward s at (drop at bytes) [] ≡ star_at s at []
end_on s bytes at le = ap (λ l. onward s at l []) (drop_all at bytes le)

-- the row of no text
pub row_start : (s : Stars) (bytes : List ℕ) (row : List Bool)
    → row ≡ replicate (length bytes) false ++ (true ∷ []) → IsRow s bytes [] row
row_start s bytes row is at lt =
    let count = length bytes in
    let len : length (replicate count false) ≡ count = length-replicate count false in
    let within : at < count → IsTrue (get_or row at false)
    ↔ IsMatch (onward s at (drop at bytes) []) [] = λ less.
    let old : get_or row at false ≡ false = ap (λ l. get_or l at false) is
    ∙ get_or_append_left (replicate count false) (true ∷ []) false at (omega arith)
    ∙ get_or-replicate count at false false less in (
      λ told. absurd (true≢false (sym told ∙ old)),
      λ m. absurd (byte_none (get_or bytes at 0) (onward s (at + 1) (drop (at + 1) bytes) [])
          (star_none (get_or s.double.items at false) (get_or s.any.items at false)
          (Byte (get_or bytes at 0) ∷ onward s (at + 1) (drop (at + 1) bytes) [])
          (subst (λ ps. IsMatch ps []) (here_on s bytes at less) m))),
    ) in
    let ends : count ≤ at → IsTrue (get_or row at false)
    ↔ IsMatch (onward s at (drop at bytes) []) [] = λ le.
    let same : length (replicate count false) ≡ at = omega arith in (
      λ told. subst (λ ps. IsMatch ps []) (sym (end_on s bytes at le))
          (star_empty (get_or s.double.items at false) (get_or s.any.items at false) [] [] refl),
      λ m. ap (λ l. get_or l at false) is
          ∙ get_or_at (replicate count false) true [] false at same,
    ) in
    ⊎_elim within ends (cases_lt at count)

-- the row of a text with one more byte before it
pub row_more : (s : Stars) (bytes : List ℕ) (c : ℕ) (text : List ℕ) (row new stays : List Bool)
    → ((p : ℕ) → IsTrue (get_or s.double.items p false) → IsTrue (get_or s.any.items p false))
    → (c ≡ 47 → stays ≡ s.double.items) → (c ≢ 47 → stays ≡ s.any.items)
    → ((p : ℕ) → p < length bytes → get_or new p false
    ≡ ((get_or row p false && get_or stays p false)
    || (get_or row (p + 1) false && (get_or bytes p 0 == c))))
    → get_or new (length bytes) false
    ≡ (get_or row (length bytes) false && get_or stays (length bytes) false)
    → IsRow s bytes text row → IsRow s bytes (c ∷ text) new
row_more s bytes c text row new stays both slash other each last is at lt =
    let d = get_or s.double.items at false in
    let a = get_or s.any.items at false in
    let stay = get_or stays at false in
    let old = get_or row at false in
    let takes : Stays d a stay c = record {
      both = both at;
      slash = λ e. ap (λ l. get_or l at false) (slash e);
      other = λ e. ap (λ l. get_or l at false) (other e);
    } in
    let Place : Bool → List Piece → Type 0 = λ x ps. IsTrue x ↔ IsMatch ps (c ∷ text) in
    let within : at < length bytes → Place (get_or new at false) (onward s at (drop at bytes) []) =
    λ less.
    let b = get_or bytes at 0 in
    let ps = onward s (at + 1) (drop (at + 1) bytes) [] in
    let next = get_or row (at + 1) false in
    let here : IsTrue old ↔ IsMatch (star d a (Byte b ∷ ps)) text =
    subst (λ l. IsTrue old ↔ IsMatch l text) (here_on s bytes at less) (is at lt) in
    subst (Place (get_or new at false)) (sym (here_on s bytes at less))
    (subst (λ x. Place x (star d a (Byte b ∷ ps))) (sym (each at less))
    (new_place d a stay old next b c ps text takes here (is (at + 1) (omega arith)))) in
    let ends : length bytes ≤ at → Place (get_or new at false) (onward s at (drop at bytes) []) =
    λ le.
    let same : length bytes ≡ at = omega arith in
    let value : get_or new at false ≡ (old && stay) = subst (λ n. get_or new n false
    ≡ (get_or row n false && get_or stays n false)) same last in
    let here : IsTrue old ↔ IsMatch (star d a []) text =
    subst (λ l. IsTrue old ↔ IsMatch l text) (end_on s bytes at le) (is at lt) in
    subst (Place (get_or new at false)) (sym (end_on s bytes at le))
    (subst (λ x. Place x (star d a [])) (sym value) (new_end d a stay old c text takes here)) in
    ⊎_elim within ends (cases_lt at (length bytes))

-- what a row of the whole text has at the first place
pub row_whole : (s : Stars) (bytes : List ℕ) (parts : List Part) (path : List ℕ) (row : List Bool)
    → Same (pieces bytes parts) (onward s 0 bytes []) → IsRow s bytes path row
    → IsTrue (get_or row 0 false) ↔ IsMatch (pieces bytes parts) path
row_whole s bytes parts path row same is = (
  λ told. (same path).1 ((is 0 (omega arith)).0 told),
  λ m. (is 0 (omega arith)).1 ((same path).0 m),
)

-- a list behind a `&mut` slice of all of it
pub written : (items new : List Bool) (len : ℕ) → length items ≡ len → length new ≡ len
    → take len (new ++ drop (length new) items) ≡ new
written items new len a b =
    ap (λ l. take len (new ++ l)) (drop_all (length new) items (omega arith))
    ∙ ap (take len) (append-nil new) ∙ take_all len new (omega arith)

-- how many places a row has
pub row_places : (row : List Bool) (count : ℕ) → row ≡ replicate count false ++ (true ∷ [])
    → length row ≡ count + 1
row_places row count is =
    let len = ap length is ∙ length-append (replicate count false) (true ∷ []) in
    let old = length-replicate count false in
    omega arith
