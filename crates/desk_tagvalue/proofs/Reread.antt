-- A reading followed by a reading is a reading.
use Rattle.std.proofs.Common.{◌≡◌, ◌≢◌, ◌∙◌, ◌⊎◌, inl, inr, ℕ, ◌+◌, ◌-◌, ◌<◌, List, [], ◌∷◌, ◌++◌}
use Rattle.std.proofs.Common.{length, get_or, sym, subst, ap, refl, arith, false, cond, Result, Ok}
use Rattle.std.proofs.Common.{Err, append_assoc, append-nil, length-append}
use Rattle.std.specs.Prelude.{codes, map, ◌==◌}
use Rattle.std.proofs.Math.Seq.{get_or-append_seam, get_or-append_right}
use Rattle.std.proofs.lemmas.List.Elements.{All-append, All-cons, All-get_or, All-tail}
use Rattle.std.proofs.lemmas.List.Sums.{sum_by-cons, sum_by-append}
use Rattle.std.proofs.lemmas.Bool.Decides.{nat_tests}
use Rattle.desk_base.specs.declared.lines.LineEnd.{LineEnd}
use Rattle.desk_base.specs.declared.lines.LineEnd.TheVariants.{Lf, CrLf, Nothing}
use Rattle.desk_base.specs.Lines.{end_bytes}
use Rattle.desk_fields.specs.declared.fault.DocFault.{DocFault}
use Rattle.desk_fields.specs.Pieces.{Piece, bare, one_line, text, bytes_of, given, IsPiece, NoLf}
use Rattle.desk_fields.specs.Cutting.{Begins, Reads, done, more, fails, FieldText, with_piece}
use Rattle.desk_fields.specs.Cutting.{with_front, onto, line_after, feeds_in}
use Rattle.desk_fields.proofs.Once.{gap_no_lf}
use Rattle.desk_tagvalue.specs.Written.{feeds}

abbrev pub Res : Type 0
Res = Result (List FieldText) DocFault

-- a text that is empty or ends with a line feed
abbrev pub EndsLf : List ℕ → Type 0
EndsLf s = (s ≡ []) ⊎ ((front : List ℕ) × (s ≡ front ++ (10 ∷ [])))

last_lf : (front : List ℕ) → get_or (front ++ (10 ∷ [])) (length (front ++ (10 ∷ [])) - 1) 0 ≡ 10
last_lf front =
    let len = length-append front (10 ∷ []) in
    let at : length (front ++ (10 ∷ [])) - 1 ≡ length front = omega arith in
    ap (λ i. get_or (front ++ (10 ∷ [])) i 0) at ∙ get_or-append_seam front 10 [] 0

-- what ends with other bytes doesn't end with a line feed
back_apart : (a l front : List ℕ) → 0 < length l → NoLf l → a ++ l ≡ front ++ (10 ∷ []) → ⊥
back_apart a l front some no_lf e =
    let len = length-append a l in
    let at : length (a ++ l) - 1 - length a ≡ length l - 1 = omega arith in
    All-get_or (λ b. b ≢ 10) l (length l - 1) 0 (omega arith) no_lf
    (ap (λ i. get_or l i 0) (sym at)
    ∙ sym (get_or-append_right a l (length (a ++ l) - 1) 0 (omega arith))
    ∙ ap (λ m. get_or m (length m - 1) 0) e ∙ last_lf front)

colon_no_lf : (f a : List ℕ) → NoLf f → NoLf a → NoLf (f ++ (58 ∷ a))
colon_no_lf f a h k = All-append (λ b. b ≢ 10) f (58 ∷ a) h
    (All-cons (λ b. b ≢ 10) 58 a (λ e. omega (arith, e)) k)

abbrev close_front : List ℕ → List ℕ → List ℕ → List ℕ
close_front f g v = f ++ (58 ∷ (g
    ++ (codes "<text>" ++ (v ++ (60 ∷ 47 ∷ 116 ∷ 101 ∷ 120 ∷ 116 ∷ [])))))

piece_apart : (p : Piece) (front : List ℕ) → IsPiece p → bytes_of p ≡ front ++ (10 ∷ []) → ⊥
piece_apart (bare []) front h e = let len = ap length e ∙ length-append front (10 ∷ []) in
    omega arith
piece_apart (bare (b ∷ l)) front h e = back_apart [] (b ∷ l) front (omega arith) h.0 e
piece_apart (one_line f a) front h e = back_apart f (58 ∷ a) front (omega arith)
    (All-cons (λ b. b ≢ 10) 58 a (λ e. omega (arith, e)) h.1) e
piece_apart (text f g v x) front h e =
    let regroup : bytes_of (text f g v x) ≡ close_front f g v ++ (62 ∷ x) =
    simp append_assoc refl in
    back_apart (close_front f g v) (62 ∷ x) front (omega arith)
    (All-cons (λ b. b ≢ 10) 62 x (λ e. omega (arith, e)) (gap_no_lf x h.3)) (sym regroup ∙ e)

-- how many line feeds a piece has
pub feeds-append : (a b : List ℕ) → feeds (a ++ b) ≡ feeds a + feeds b
feeds-append a b = sum_by-append (λ x. cond (x == 10) 1 0) a b

feeds_cons : (x : ℕ) (xs : List ℕ) → x ≢ 10 → feeds (x ∷ xs) ≡ feeds xs
feeds_cons x xs h =
    let not_lf : (x == 10) ≡ false = grind (arith, nat_tests) in
    let step = sum_by-cons (λ x. cond (x == 10) 1 0) x xs
    ∙ ap (λ v. cond v 1 0 + feeds xs) not_lf in
    omega (arith, step)

no_feeds : (l : List ℕ) → NoLf l → feeds l ≡ 0
no_feeds [] h = refl
no_feeds (x ∷ xs) h = feeds_cons x xs (All-get_or (λ b. b ≢ 10) (x ∷ xs) 0 0 (omega arith) h)
    ∙ no_feeds xs (All-tail (λ b. b ≢ 10) x xs h)

piece_feeds : (p : Piece) → IsPiece p → feeds (bytes_of p) ≡ feeds_in p
piece_feeds (bare l) h = no_feeds l h.0
piece_feeds (one_line f a) h = no_feeds (f ++ (58 ∷ a)) (colon_no_lf f a h.0.no_lf h.1)
piece_feeds (text f g v x) h =
    let a = feeds-append f (58 ∷ (g ++ (codes "<text>" ++ (v ++ (codes "</text>" ++ x))))) in
    let b = feeds-append g (codes "<text>" ++ (v ++ (codes "</text>" ++ x))) in
    let c = feeds-append v (codes "</text>" ++ x) in
    let colon = feeds_cons 58 (g ++ (codes "<text>" ++ (v ++ (codes "</text>" ++ x))))
    (λ e. omega (arith, e)) in
    let open_tag = feeds-append (codes "<text>") (v ++ (codes "</text>" ++ x)) in
    let close_tag = feeds-append (codes "</text>") x in
    let opened_none : feeds (codes "<text>") ≡ 0 = refl in
    let closed_none : feeds (codes "</text>") ≡ 0 = refl in
    let front = no_feeds f h.0.no_lf in
    let gap = no_feeds g (gap_no_lf g h.1) in
    let tail = no_feeds x (gap_no_lf x h.3) in
    omega arith

end_feeds : (w : List ℕ) (p : Piece) (e : LineEnd) (rest : List ℕ) → Begins w p e rest
    → (e ≡ Nothing → ⊥) → feeds w ≡ feeds_in p + 1 + feeds rest
end_feeds w p Nothing rest begins some = absurd (some refl)
end_feeds w p Lf rest begins some =
    let cut = ap feeds begins.cut ∙ feeds-append (bytes_of p) (10 ∷ rest) in
    let end = feeds-append (10 ∷ []) rest in
    let one : feeds (10 ∷ []) ≡ 1 = refl in
    let piece = piece_feeds p begins.piece in
    omega arith
end_feeds w p CrLf rest begins some =
    let cut = ap feeds begins.cut ∙ feeds-append (bytes_of p) (13 ∷ 10 ∷ rest) in
    let end = feeds-append (13 ∷ 10 ∷ []) rest in
    let one : feeds (13 ∷ 10 ∷ []) ≡ 1 = refl in
    let piece = piece_feeds p begins.piece in
    omega arith

begins_more : (w : List ℕ) (p : Piece) (e : LineEnd) (rest b : List ℕ) → Begins w p e rest
    → (e ≡ Nothing → ⊥) → Begins (w ++ b) p e (rest ++ b)
begins_more w p Nothing rest b begins some = absurd (some refl)
begins_more w p Lf rest b begins some = record {
  cut = ap (λ l. l ++ b) begins.cut
      ∙ append_assoc (bytes_of p) (10 ∷ rest) b;
  ends = begins.ends;
  piece = begins.piece;
}
begins_more w p CrLf rest b begins some = record {
  cut = ap (λ l. l ++ b) begins.cut
      ∙ append_assoc (bytes_of p) (13 ∷ 10 ∷ rest) b;
  ends = tt;
  piece = begins.piece;
}

piece_some : (w : List ℕ) (p : Piece) (e : LineEnd) (rest : List ℕ) → Begins w p e rest → w ≡ [] → ⊥
piece_some w p Lf rest begins none = let len = sym (ap length none) ∙ ap length begins.cut
    ∙ length-append (bytes_of p) (10 ∷ rest) in omega arith
piece_some w p CrLf rest begins none = let len = sym (ap length none) ∙ ap length begins.cut
    ∙ length-append (bytes_of p) (13 ∷ 10 ∷ rest) in omega arith
piece_some w p Nothing rest begins none = let len = sym (ap length none) ∙ ap length begins.cut
    ∙ length-append (bytes_of p) rest in let some = begins.ends.1 in omega arith

-- a text that ends with a line feed has no piece without an end
no_last : (w : List ℕ) (p : Piece) (e : LineEnd) (rest : List ℕ) → Begins w p e rest → EndsLf w
    → e ≡ Nothing → ⊥
no_last w p e rest begins (inl none) is = piece_some w p e rest begins none
no_last w p e rest begins (inr f) is =
    let last = subst (λ d. Begins w p d rest) is begins in
    piece_apart p f.0 begins.piece
    (sym (last.cut ∙ ap (λ r. bytes_of p ++ r) last.ends.0 ∙ append-nil (bytes_of p)) ∙ f.1)

rest_lf : (w : List ℕ) (p : Piece) (e : LineEnd) (rest : List ℕ) → Begins w p e rest → EndsLf w
    → EndsLf rest
rest_lf w p e [] begins h = inl refl
rest_lf w p e (c ∷ rest) begins (inl none) = absurd (piece_some w p e (c ∷ rest) begins none)
rest_lf w p e (c ∷ rest) begins (inr f) = inr (split_back (bytes_of p ++ end_bytes e) c rest f.0
    (append_assoc (bytes_of p) (end_bytes e) (c ∷ rest) ∙ sym begins.cut ∙ f.1))
  where
    split_back : (a : List ℕ) (c : ℕ) (rest front : List ℕ) → a ++ (c ∷ rest) ≡ front ++ (10 ∷ [])
        → (back : List ℕ) × (c ∷ rest ≡ back ++ (10 ∷ []))
    split_back [] c rest front h = (front, h)
    split_back (x ∷ a) c rest [] h = absurd (let len = ap length h in
        let l2 = length-append a (c ∷ rest) in omega arith)
    split_back (x ∷ a) c rest (y ∷ front) h = let tail : a ++ (c ∷ rest) ≡ front ++ (10 ∷ []) =
        cc in split_back a c rest front tail

front_none : (q : Res) → with_front [] q ≡ q
front_none (Ok fs) = refl
front_none (Err f) = refl

piece_front : (n : ℕ) (p : Piece) (gs : List FieldText) (q : Res)
    → with_piece n p (with_front gs q) ≡ with_front (onto n (given p) gs) q
piece_front n p gs (Err f) = refl
piece_front n (bare l) gs (Ok fs) = refl
piece_front n (one_line f a) gs (Ok fs) = refl
piece_front n (text f g v x) gs (Ok fs) = refl

pub reads_append : (n : ℕ) (s : List ℕ) (r : Res) → Reads n s r → (fs : List FieldText) → r ≡ Ok fs
    → EndsLf s → (b : List ℕ) (q : Res) → Reads (n + feeds s) b q
    → Reads n (s ++ b) (with_front fs q)
reads_append n s r (done line) fs is ends b q h =
    let none : [] ≡ fs = cc in
    let at : n + feeds [] ≡ n = omega arith in
    subst (Reads n b) (sym (front_none q) ∙ ap (λ l. with_front l q) none)
    (subst (λ k. Reads k b q) at h)
reads_append n s r (more line w p e rest (Ok gs) begins later) fs is ends b q h =
    let some = no_last w p e rest begins ends in
    let lines = end_feeds w p e rest begins some in
    let at : n + feeds w ≡ line_after n p + feeds rest = omega arith in
    let goes = reads_append (line_after n p) rest (Ok gs) later gs refl
    (rest_lf w p e rest begins ends) b q (subst (λ k. Reads k b q) at h) in
    let same : onto n (given p) gs ≡ fs = cc in
    subst (Reads n (w ++ b)) (piece_front n p gs q ∙ ap (λ l. with_front l q) same)
    (more n (w ++ b) p e (rest ++ b) (with_front gs q) (begins_more w p e rest b begins some) goes)
reads_append n s r (more line w p e rest (Err f) begins later) fs is ends b q h = absurd cc
reads_append n s r (fails line w f bad) fs is ends b q h = absurd cc

-- a reading that starts on another line
abbrev pub shift : ℕ → FieldText → FieldText
shift k f = record { line = f.line + k; tag = f.tag; value = f.value }

onto_shift : (m k : ℕ) (p : Piece) (gs : List FieldText)
    → onto (m + k) (given p) (map (shift k) gs) ≡ map (shift k) (onto m (given p) gs)
onto_shift m k (bare l) gs = refl
onto_shift m k (one_line f a) gs = refl
onto_shift m k (text f g v x) gs = refl

pub reads_shift : (m k : ℕ) (s : List ℕ) (r : Res) → Reads m s r → (fs : List FieldText) → r ≡ Ok fs
    → Reads (m + k) s (Ok (map (shift k) fs))
reads_shift m k s r (done line) fs is = let none : [] ≡ fs = cc in
    subst (λ l. Reads (m + k) [] (Ok (map (shift k) l))) none (done (m + k))
reads_shift m k s r (more line w p e rest (Ok gs) begins later) fs is =
    let goes = reads_shift (line_after m p) k rest (Ok gs) later gs refl in
    let at : line_after m p + k ≡ line_after (m + k) p = omega arith in
    let same : onto m (given p) gs ≡ fs = cc in
    subst (λ l. Reads (m + k) w (Ok l)) (onto_shift m k p gs ∙ ap (map (shift k)) same)
    (more (m + k) w p e rest (Ok (map (shift k) gs)) begins
    (subst (λ l. Reads l rest (Ok (map (shift k) gs))) at goes))
reads_shift m k s r (more line w p e rest (Err f) begins later) fs is = absurd cc
reads_shift m k s r (fails line w f bad) fs is = absurd cc
