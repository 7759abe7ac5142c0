-- Bytes that aren't empty begin with a line.
use Rattle.std.proofs.Common.{◌≡◌, ◌≢◌, ◌∙◌, ℕ, ◌-◌, ◌<◌, List, [], ◌∷◌, ◌++◌, length, get_or, sym}
use Rattle.std.proofs.Common.{ap, refl, arith, append_assoc, append-nil, length-append, inl, inr}
use Rattle.std.specs.Prelude.{All, slice_index}
use Rattle.std.proofs.lemmas.Bool.{cases_eq}
use Rattle.std.proofs.lemmas.List.Elements.{All-nil, All-cons, All-get_or, All-from_get_or}
use Rattle.std.proofs.Math.ListN.{get_or-append}
use Rattle.std.proofs.Math.Seq.{get_or-append_seam}
use Rattle.desk_base.specs.declared.lines.LineEnd.{LineEnd}
use Rattle.desk_base.specs.declared.lines.LineEnd.TheVariants.{Lf, CrLf, Nothing}
use Rattle.desk_base.specs.Lines.{IsLine, Ends, end_bytes}

-- a list is cut at the first place of a byte, or doesn't have it
pub data Cut (c : ℕ) (t : List ℕ) : Type 0 where
  never : All (λ b. b ≢ c) t → Cut c t
  first : (a b : List ℕ) → All (λ d. d ≢ c) a → t ≡ a ++ (c ∷ b) → Cut c t

cut_behind : (c d : ℕ) (t : List ℕ) → d ≢ c → Cut c t → Cut c (d ∷ t)
cut_behind c d t apart (never none) = never (All-cons (λ b. b ≢ c) d t apart none)
cut_behind c d t apart (first a b none e) = first (d ∷ a) b (All-cons (λ b. b ≢ c) d a apart none)
    (ap (λ l. d ∷ l) e)

pub cut_at : (c : ℕ) (t : List ℕ) → Cut c t
cut_at c [] = never (All-nil (λ b. b ≢ c))
cut_at c (d ∷ t) =
    elim (cases_eq d c) [
      | inl is ↦ first [] t (All-nil (λ b. b ≢ c)) (ap (λ x. x ∷ t) is)
      | inr apart ↦ cut_behind c d t apart (cut_at c t)
    ]

-- the last byte of a list
last_cut : (d : ℕ) (a : List ℕ) → (x : List ℕ) × (b : ℕ) × (d ∷ a ≡ x ++ (b ∷ []))
last_cut d [] = ([], d, refl)
last_cut d (e ∷ a) = let r = last_cut e a in (d ∷ r.0, r.1, ap (λ l. d ∷ l) r.2)

last_is : (x : List ℕ) (b : ℕ) → get_or (x ++ (b ∷ [])) (length (x ++ (b ∷ [])) - 1) 0 ≡ b
last_is x b =
    let len = length-append x (b ∷ []) in
    let at : length (x ++ (b ∷ [])) - 1 ≡ length x = omega arith in
    ap (λ i. get_or (x ++ (b ∷ [])) i 0) at ∙ get_or-append_seam x b [] 0

-- a list ends with CR or not
data CrLast (a : List ℕ) : Type 0 where
  cr : (x : List ℕ) → a ≡ x ++ (13 ∷ []) → CrLast a
  other : slice_index a (length a - 1) ≢ 13 → CrLast a

cr_last : (a : List ℕ) → CrLast a
cr_last [] = other (λ e. omega (arith, e))
cr_last (d ∷ a) =
    let r = last_cut d a in
    elim (cases_eq r.1 13) [
      | inl is ↦ cr r.0 (r.2 ∙ ap (λ b. r.0 ++ (b ∷ [])) is)
      | inr apart ↦ other (λ e. apart
          (sym (last_is r.0 r.1) ∙ ap (λ l. get_or l (length l - 1) 0) (sym r.2) ∙ e))
    ]

pub front_lacks : (c : ℕ) (a x y : List ℕ) → All (λ b. b ≢ c) a → a ≡ x ++ y → All (λ b. b ≢ c) x
front_lacks c a x y h e =
    All-from_get_or (λ b. b ≢ c) x 0 (λ i lt is.
    let len = ap length e ∙ length-append x y in
    All-get_or (λ b. b ≢ c) a i 0 (omega arith) h
    (ap (λ l. get_or l i 0) e ∙ get_or-append x y 0 i lt ∙ is))

pub record HasLine (t : List ℕ) : Type 0 where
  pub line : List ℕ
  pub end : LineEnd
  pub rest : List ℕ
  pub is : IsLine t line end rest

line_fed : (t a b : List ℕ) → All (λ d. d ≢ 10) a → t ≡ a ++ (10 ∷ b) → CrLast a → HasLine t
line_fed t a b none e (other apart) = record {
  line = a;
  end = Lf;
  rest = b;
  is = record { cut = e; no_lf = none; ends = apart };
}
line_fed t a b none e (cr x is) = record {
  line = x;
  end = CrLf;
  rest = b;
  is = record {
    cut = e ∙ ap (λ l. l ++ (10 ∷ b)) is ∙ append_assoc x (13 ∷ []) (10 ∷ b);
    no_lf = front_lacks 10 a x (13 ∷ []) none is;
    ends = tt;
  };
}

line_of : (t : List ℕ) → 0 < length t → Cut 10 t → HasLine t
line_of t some (never none) = record {
  line = t;
  end = Nothing;
  rest = [];
  is = record { cut = sym (append-nil t); no_lf = none; ends = (refl, some) };
}
line_of t some (first a b none e) = line_fed t a b none e (cr_last a)

pub has_line : (t : List ℕ) → 0 < length t → HasLine t
has_line t some = line_of t some (cut_at 10 t)

-- what follows a line is shorter
pub line_shorter : (t l : List ℕ) (e : LineEnd) (r : List ℕ) → t ≡ l ++ (end_bytes e ++ r)
    → Ends l e r → length r < length t
line_shorter t l Lf r cut ends = let a = ap length cut ∙ length-append l (10 ∷ r) in omega arith
line_shorter t l CrLf r cut ends = let a = ap length cut ∙ length-append l (13 ∷ 10 ∷ r) in
    omega arith
line_shorter t l Nothing r cut ends = let a = ap length cut ∙ length-append l r in
    let some = ends.1 in omega arith
