-- More bytes of a line.
use Rattle.std.proofs.Common.{◌≡◌, ◌≢◌, ℕ, ◌+◌, ◌-◌, ◌<◌, ◌≤◌, Bool, true, false, List, [], ◌∷◌}
use Rattle.std.proofs.Common.{◌++◌, length, take, refl, sym, ap, ◌∙◌, subst, arith, append_assoc}
use Rattle.std.proofs.Common.{append-nil, ⊎_elim}
use Rattle.std.specs.Prelude.{All, slice_index, nat_lt, min, ◌&&◌}
use Rattle.std.proofs.lemmas.List.{take_all, take-append-le, length-append, length-take, nil_from_length}
use Rattle.std.proofs.lemmas.List.Folds.{list_all-append}
use Rattle.std.proofs.lemmas.Bool.{lt-ltb, cases_lt}
use Rattle.std.proofs.Math.Seq.{get_or-append_seam, take-append_seam, take-append-add}
use Rattle.std.proofs.lemmas.List.Elements.{All-take}
use Rattle.desk_base.specs.Lines.{IsLine}
use Rattle.desk_base.specs.declared.lines.LineEnd.{LineEnd}
use Rattle.desk_base.specs.declared.lines.LineEnd.TheVariants.{Lf, CrLf, Nothing}
use Rattle.desk_script.specs.Gathered.{HasCome, Shows, with_cr}
use Rattle.desk_base.specs.Limits.{line_bytes}
use Rattle.desk_script.specs.Lines.{is_blank_line}
use Rattle.desk_script.specs.declared.line.Line.{Line}
use Rattle.desk_base.specs.Bytes.{is_blank}

-- the first bytes that are kept, and more
pub kept_more : (n : ℕ) (text kept run : List ℕ) → kept ≡ take n text
    → kept ++ take (n - length kept) run ≡ take n (text ++ run)
kept_more n text kept run is = ⊎_elim (λ lt. full lt) (λ le. room le) (cases_lt n (length text))
  where
    room : length text ≤ n → kept ++ take (n - length kept) run ≡ take n (text ++ run)
    room le =
        let whole : kept ≡ text = is ∙ take_all n text le in
        let all : length text + (n - length text) ≡ n = omega arith in
        ap (λ (l : List ℕ). l ++ take (n - length l) run) whole
        ∙ (sym (take-append-add text run (n - length text))
        ∙ ap (λ (k : ℕ). take k (text ++ run)) all)

    full : n < length text → kept ++ take (n - length kept) run ≡ take n (text ++ run)
    full lt =
        let len : length (take n text) ≡ min n (length text) = length-take n text in
        let same : length kept ≡ length (take n text) = ap length is in
        let none : n - length kept ≡ 0 = omega arith in
        ap (λ (k : ℕ). kept ++ take k run) none
        ∙ (append-nil kept ∙ (is ∙ sym (take-append-le n text run (omega arith))))

-- more bytes, if there is room for all
pub kept_all : (n : ℕ) (text kept run : List ℕ) → kept ≡ take n text → length run ≤ n - length kept
    → kept ++ run ≡ take n (text ++ run)
kept_all n text kept run is few =
    ap (λ (l : List ℕ). kept ++ l) (sym (take_all (n - length kept) run few))
    ∙ kept_more n text kept run is

pub long_more : (n : ℕ) (text kept run : List ℕ) (long : Bool) → kept ≡ take n text
    → length run ≤ n - length kept → long ≡ nat_lt n (length text)
    → long ≡ nat_lt n (length (text ++ run))
long_more n text kept run long is few at = at
    ∙ ⊎_elim (λ lt. full lt) (λ le. room le) (cases_lt n (length text))
  where
    same : length kept ≡ length (take n text)
    same = ap length is

    len : length (take n text) ≡ min n (length text)
    len = length-take n text

    all : length (text ++ run) ≡ length text + length run
    all = length-append text run

    room : length text ≤ n → nat_lt n (length text) ≡ nat_lt n (length (text ++ run))
    room le =
        let more : length (text ++ run) ≤ n = omega (arith, same, len, all) in
        grind (arith, le, more)

    full : n < length text → nat_lt n (length text) ≡ nat_lt n (length (text ++ run))
    full lt =
        let none : length text ≡ length (text ++ run) = omega (arith, same, len, all) in
        ap (λ (k : ℕ). nat_lt n k) none

pub long_full : (n : ℕ) (text kept run : List ℕ) → kept ≡ take n text → n - length kept < length run
    → true ≡ nat_lt n (length (text ++ run))
long_full n text kept run is many =
    let same : length kept ≡ length (take n text) = ap length is in
    let len : length (take n text) ≡ min n (length text) = length-take n text in
    let all : length (text ++ run) ≡ length text + length run = length-append text run in
    sym (lt-ltb n (length (text ++ run)) (omega arith))

pub blank_more : (text run : List ℕ) (was : Bool) → was ≡ is_blank_line text
    → (was && is_blank_line run) ≡ is_blank_line (text ++ run)
blank_more text run was at = ap (λ (c : Bool). c && is_blank_line run) at
    ∙ sym (list_all-append is_blank text run)

-- bytes are kept if there is room for all
pub HasCome-all : (line next : Line) (text run : List ℕ) → HasCome line text
    → length run ≤ line_bytes - length line.kept.items
    → next.kept.items ≡ line.kept.items ++ run → next.is_long ≡ line.is_long
    → next.is_blank ≡ (line.is_blank && is_blank_line run)
    → HasCome next (text ++ run)
HasCome-all line next text run h few kept long blank = record {
  kept = kept ∙ kept_all line_bytes text line.kept.items run h.kept few;
  long = long ∙ long_more line_bytes text line.kept.items run line.is_long h.kept few h.long;
  blank = blank ∙ blank_more text run line.is_blank h.blank;
}

-- if there isn't room for all bytes, as many as there is room for are kept
pub HasCome-front : (line next : Line) (text run : List ℕ) → HasCome line text
    → line_bytes - length line.kept.items < length run
    → next.kept.items ≡ line.kept.items ++ take (line_bytes - length line.kept.items) run
    → next.is_long ≡ true
    → next.is_blank ≡ (line.is_blank && is_blank_line run) → HasCome next (text ++ run)
HasCome-front line next text run h many kept long blank = record {
  kept = kept ∙ kept_more line_bytes text line.kept.items run h.kept;
  long = long ∙ long_full line_bytes text line.kept.items run h.kept many;
  blank = blank ∙ blank_more text run line.is_blank h.blank;
}

-- the last byte
pub last_of : (text : List ℕ) (b : ℕ)
    → slice_index (text ++ b ∷ []) (length (text ++ b ∷ []) - 1) ≡ b
last_of text b =
    let len : length (text ++ b ∷ []) ≡ length text + 1 = length-append text (b ∷ []) in
    let at : length (text ++ b ∷ []) - 1 ≡ length text = omega arith in
    ap (λ (k : ℕ). slice_index (text ++ b ∷ []) k) at ∙ get_or-append_seam text b [] 0

-- the bytes of a line so far and an LF are a line
pub IsLine-of : (cr : Bool) (came text more : List ℕ) → came ≡ with_cr cr text
    → (cr ≡ false → slice_index text (length text - 1) ≢ 13) → All (λ b. b ≢ 10) text
    → (end : LineEnd) × (end ≢ Nothing) × IsLine (came ++ 10 ∷ more) text end more
IsLine-of true came text more is ends no_lf = (
  CrLf,
  (λ e. cc),
  record {
    cut = ap (λ (l : List ℕ). l ++ 10 ∷ more) is ∙ append_assoc text (13 ∷ []) (10 ∷ more);
    no_lf = no_lf;
    ends = tt;
  },
)
IsLine-of false came text more is ends no_lf = (
  Lf,
  (λ e. cc),
  record {
    cut = ap (λ (l : List ℕ). l ++ 10 ∷ more) is;
    no_lf = no_lf;
    ends = ends refl;
  },
)

-- what came, without a CR at its end, has no LF
pub no_lf-of : (cr : Bool) (came text : List ℕ) → came ≡ with_cr cr text → All (λ b. b ≢ 10) came
    → All (λ b. b ≢ 10) text
no_lf-of true came text is no_lf =
    subst (All (λ (b : ℕ). b ≢ 10)) (take-append_seam text (13 ∷ []))
    (All-take (λ (b : ℕ). b ≢ 10) (length text) (text ++ 13 ∷ [])
    (subst (All (λ (b : ℕ). b ≢ 10)) is no_lf))
no_lf-of false came text is no_lf = subst (All (λ (b : ℕ). b ≢ 10)) is no_lf

-- a line if no CR is kept apart
pub HasCome-whole : (line : Line) (came : List ℕ) → Shows line came → line.ends_by_cr ≡ false
    → HasCome line came
HasCome-whole line came h none =
    subst (HasCome line) (sym (h.2 ∙ ap (λ (b : Bool). with_cr b h.0) none)) h.1

-- if bytes end with a CR, it is kept apart
pub Shows-cr : (line : Line) (came front run : List ℕ) → HasCome line (came ++ front)
    → run ≡ front ++ 13 ∷ []
    → Shows (record {
      kept = line.kept;
      is_long = line.is_long;
      is_blank = line.is_blank;
      ends_by_cr = true;
    }) (came ++ run)
Shows-cr line came front run has is = (
  came ++ front,
  record { kept = has.kept; long = has.long; blank = has.blank },
  ap (λ (l : List ℕ). came ++ l) is ∙ sym (append_assoc came front (13 ∷ [])),
  (λ e. cc),
)

-- if they don't, nothing is
pub Shows-run : (line : Line) (came front run : List ℕ) (last : ℕ) → HasCome line (came ++ run)
    → line.ends_by_cr ≡ false → run ≡ front ++ last ∷ []
    → (last ≡ 13 → ⊥) → Shows line (came ++ run)
Shows-run line came front run last has none is ne =
    let whole : came ++ run ≡ (came ++ front) ++ last ∷ [] =
    ap (λ (l : List ℕ). came ++ l) is ∙ sym (append_assoc came front (last ∷ [])) in (
      came ++ run,
      has,
      sym (ap (λ (b : Bool). with_cr b (came ++ run)) none),
      λ e at. ne (sym (last_of (came ++ front) last)
          ∙ (sym (ap (λ (l : List ℕ). slice_index l (length l - 1)) whole) ∙ at)),
    )

-- nothing came
pub Shows-nothing : (line : Line) (came run : List ℕ) → Shows line came → length run ≡ 0
    → Shows line (came ++ run)
Shows-nothing line came run h none =
    subst (Shows line) (sym (ap (λ (l : List ℕ). came ++ l) (nil_from_length run none)
    ∙ append-nil came)) h
