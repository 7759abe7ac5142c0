-- A text has tokens, and only one list of them.
use Rattle.std.proofs.Common.{◌≡◌, ◌∙◌, ◌⊎◌, inl, inr, ℕ, zero, suc, ◌+◌, ◌<◌, ◌≤◌, List, [], ◌∷◌}
use Rattle.std.proofs.Common.{◌++◌, length, sym, subst, ap, refl, arith, Bool, true, false}
use Rattle.std.proofs.Common.{length-append}
use Rattle.std.specs.Prelude.{IsTrue, All}
use Rattle.std.proofs.lemmas.Bool.Decides.{nat_tests}
use Rattle.std.proofs.lemmas.List.{append-nil}
use Rattle.std.proofs.lemmas.List.Elements.{All-nil, All-cons, All-head, All-tail}
use Rattle.desk_base.specs.declared.profile.Profile.{Profile}
use Rattle.desk_tokens.specs.Words.{kind_by}
use Rattle.desk_tokens.specs.Tokens.{is_parenthesis, is_run_byte, NoRunBegins, IsPiece, Lexeme, IsFirstToken, AreTokensBy}
use Rattle.desk_base.specs.Bytes.{is_blank}

-- ---- all of a list

abbrev Blank : ℕ → Type 0
Blank b = IsTrue (is_blank b)

abbrev RunByte : ℕ → Type 0
RunByte b = IsTrue (is_run_byte b)

-- ---- bytes are of one sort

blank_or_not : (b : ℕ) → (is_blank b ≡ true) ⊎ (is_blank b ≡ false)
blank_or_not b = elim (is_blank b) as (λ v. (v ≡ true) ⊎ (v ≡ false))
    [ true ↦ inl refl | false ↦ inr refl ]

run_or_not : (b : ℕ) → (is_run_byte b ≡ true) ⊎ (is_run_byte b ≡ false)
run_or_not b = elim (is_run_byte b) as (λ v. (v ≡ true) ⊎ (v ≡ false))
    [ true ↦ inl refl | false ↦ inr refl ]

no_run : (b : ℕ) → is_blank b ≡ false → is_run_byte b ≡ false → is_parenthesis b ≡ true
no_run b no_blank not_run = grind (arith, nat_tests)

parenthesis_no_blank : (b : ℕ) → is_parenthesis b ≡ true → is_blank b ≡ false
parenthesis_no_blank b h = grind (arith, nat_tests)

parenthesis_no_run : (b : ℕ) → is_parenthesis b ≡ true → is_run_byte b ≡ false
parenthesis_no_run b h = grind (arith, nat_tests)

run_no_blank : (b : ℕ) → is_run_byte b ≡ true → is_blank b ≡ false
run_no_blank b h = grind (arith, nat_tests)

clash : {A : Type 0} (b : Bool) → b ≡ true → b ≡ false → A
clash b is is_not = absurd (cc)

-- ---- a text has tokens

record FirstBlanks (bytes : List ℕ) : Type 0 where
  blanks : List ℕ
  from : List ℕ
  only : All Blank blanks
  cut : bytes ≡ blanks ++ from
  stops : (b : ℕ) (bs : List ℕ) → from ≡ b ∷ bs → is_blank b ≡ false

first_blanks : (bytes : List ℕ) → FirstBlanks bytes
first_blanks [] = record {
  blanks = [];
  from = [];
  only = All-nil Blank;
  cut = refl;
  stops = λ b bs is. absurd (cc);
}
first_blanks (b ∷ bs) =
    elim (blank_or_not b) [
      | inl is_so ↦
          let rest = first_blanks bs in
          record {
            blanks = b ∷ rest.blanks;
            from = rest.from;
            only = All-cons Blank b rest.blanks is_so rest.only;
            cut = ap (λ l. b ∷ l) rest.cut;
            stops = rest.stops;
          }
      | inr is_not ↦ record {
        blanks = [];
        from = b ∷ bs;
        only = All-nil Blank;
        cut = refl;
        stops = λ c cs is. let same : b ≡ c = cc in subst (λ x. is_blank x ≡ false) same is_not;
      }
    ]

record FirstRun (bytes : List ℕ) : Type 0 where
  run : List ℕ
  rest : List ℕ
  only : All RunByte run
  cut : bytes ≡ run ++ rest
  stops : NoRunBegins rest

first_run : (bytes : List ℕ) → FirstRun bytes
first_run [] = record { run = []; rest = []; only = All-nil RunByte; cut = refl; stops = tt }
first_run (b ∷ bs) =
    elim (run_or_not b) [
      | inl is_so ↦
          let more = first_run bs in
          record {
            run = b ∷ more.run;
            rest = more.rest;
            only = All-cons RunByte b more.run is_so more.only;
            cut = ap (λ l. b ∷ l) more.cut;
            stops = more.stops;
          }
      | inr is_not ↦ record {
        run = [];
        rest = b ∷ bs;
        only = All-nil RunByte;
        cut = refl;
        stops = is_not;
      }
    ]

record FirstPiece (bytes : List ℕ) : Type 0 where
  text : List ℕ
  rest : List ℕ
  piece : IsPiece text rest
  cut : bytes ≡ text ++ rest
  some : 0 < length text

first_piece : (b : ℕ) (bs : List ℕ) → is_blank b ≡ false → FirstPiece (b ∷ bs)
first_piece b bs no_blank =
    elim (run_or_not b) [
      | inl is_so ↦
          let more = first_run bs in
          record {
            text = b ∷ more.run;
            rest = more.rest;
            piece = inr (All-cons RunByte b more.run is_so more.only, more.stops);
            cut = ap (λ l. b ∷ l) more.cut;
            some = omega arith;
          }
      | inr is_not ↦ record {
        text = b ∷ [];
        rest = bs;
        piece = inl (no_run b no_blank is_not, refl);
        cut = refl;
        some = omega arith;
      }
    ]

-- only blanks, or a first token with fewer bytes after it
first_exists : (profile : Profile) (place : ℕ) (bytes : List ℕ)
    → All Blank bytes ⊎ ((t : Lexeme) × (rest : List ℕ) × IsFirstToken profile place bytes t rest
    × (length rest < length bytes))
first_exists profile place bytes = let skipped = first_blanks bytes in
    by_from profile place bytes skipped skipped.from refl
  where
    by_from : (profile : Profile) (place : ℕ) (bytes : List ℕ) (skipped : FirstBlanks bytes)
        (from : List ℕ) → skipped.from ≡ from
        → All Blank bytes ⊎ ((t : Lexeme) × (rest : List ℕ)
        × IsFirstToken profile place bytes t rest × (length rest < length bytes))
    by_from profile place bytes skipped [] is =
        inl (subst (All Blank) (sym (skipped.cut ∙ ap (λ l. skipped.blanks ++ l) is
        ∙ append-nil skipped.blanks)) skipped.only)
    by_from profile place bytes skipped (b ∷ bs) is =
        let first = first_piece b bs (skipped.stops b bs is) in
        let cut : bytes ≡ skipped.blanks ++ (first.text ++ first.rest) = skipped.cut
        ∙ ap (λ l. skipped.blanks ++ l) (is ∙ first.cut) in
        inr (
          record {
            text = first.text;
            start = place + length skipped.blanks;
            end = place + length skipped.blanks + length first.text;
            kind = kind_by profile first.text;
          },
          first.rest,
          record {
            blanks = skipped.blanks;
            only_blanks = skipped.only;
            cut = cut;
            start = refl;
            end = refl;
            piece = first.piece;
            kind = refl;
          },
          (let some = first.some in
              omega (
                arith,
                ap length cut,
                length-append skipped.blanks (first.text ++ first.rest),
                length-append first.text first.rest,
              )),
        )

tokens_exist_in : (profile : Profile) (n : ℕ) (place : ℕ) (bytes : List ℕ) → length bytes ≤ n
    → (ts : List Lexeme) × AreTokensBy profile place bytes ts
tokens_exist_in profile zero place bytes few =
    elim (first_exists profile place bytes) [
      | inl none ↦ ([], none)
      | inr (t, rest, first, shorter) ↦ absurd (omega arith)
    ]
tokens_exist_in profile (suc n) place bytes few =
    elim (first_exists profile place bytes) [
      | inl none ↦ ([], none)
      | inr (t, rest, first, shorter) ↦ let more =
          tokens_exist_in profile n t.end rest (omega arith) in (t ∷ more.0, (rest, first, more.1))
    ]

pub tokens_exist : (profile : Profile) (place : ℕ) (bytes : List ℕ)
    → (ts : List Lexeme) × AreTokensBy profile place bytes ts
tokens_exist profile place bytes = tokens_exist_in profile (length bytes) place bytes (omega arith)

-- ---- and only one list of them

-- what follows doesn't begin with a blank
abbrev NoBlankBegins : List ℕ → Type 0
NoBlankBegins [] = Unit {0}
NoBlankBegins (b ∷ bs) = is_blank b ≡ false

-- there is only one longest front of bytes that pass a test
same_front : (test : ℕ → Bool) (xs ys x y : List ℕ) → All (λ b. IsTrue (test b)) xs
    → All (λ b. IsTrue (test b)) ys
    → ((b : ℕ) (bs : List ℕ) → x ≡ b ∷ bs → test b ≡ false)
    → ((b : ℕ) (bs : List ℕ) → y ≡ b ∷ bs → test b ≡ false) → xs ++ x ≡ ys ++ y
    → (xs ≡ ys) × (x ≡ y)
same_front test [] [] x y only only' stops stops' is = (refl, is)
same_front test [] (b ∷ ys) x y only only' stops stops' is = clash (test b)
    (All-head (λ b. IsTrue (test b)) b ys only') (stops b (ys ++ y) is)
same_front test (b ∷ xs) [] x y only only' stops stops' is = clash (test b)
    (All-head (λ b. IsTrue (test b)) b xs only) (stops' b (xs ++ x) (sym is))
same_front test (b ∷ xs) (c ∷ ys) x y only only' stops stops' is =
    let head : b ≡ c = cc in
    let tail : xs ++ x ≡ ys ++ y = cc in
    let rest = same_front test xs ys x y (All-tail (λ b. IsTrue (test b)) b xs only)
    (All-tail (λ b. IsTrue (test b)) c ys only') stops stops' tail in
    ((λ i. head i ∷ rest.0 i), rest.1)

same_run : (xs ys x y : List ℕ) → All RunByte xs → All RunByte ys → NoRunBegins x → NoRunBegins y
    → xs ++ x ≡ ys ++ y → (xs ≡ ys) × (x ≡ y)
same_run xs ys x y only only' free free' is =
    same_front is_run_byte xs ys x y only only' (λ b bs begins. subst NoRunBegins begins free)
    (λ b bs begins. subst NoRunBegins begins free') is

piece_no_blank : (text rest : List ℕ) → IsPiece text rest → NoBlankBegins (text ++ rest)
piece_no_blank [] rest p = absurd p
piece_no_blank (b ∷ bs) rest (inl (h, is)) = parenthesis_no_blank b h
piece_no_blank (b ∷ bs) rest (inr (only, stops)) = run_no_blank b (All-head RunByte b bs only)

same_piece : (t u x y : List ℕ) → IsPiece t x → IsPiece u y → t ++ x ≡ u ++ y → (t ≡ u) × (x ≡ y)
same_piece [] u x y p q is = absurd p
same_piece (b ∷ bs) [] x y p q is = absurd q
same_piece (b ∷ bs) (c ∷ cs) x y (inl (h, none)) (inl (k, none')) is =
    let head : b ≡ c = cc in
    let tail : bs ++ x ≡ cs ++ y = cc in
    let same : bs ≡ cs = none ∙ sym none' in
    ((λ i. head i ∷ same i), sym (ap (λ l. l ++ x) none) ∙ tail ∙ ap (λ l. l ++ y) none')
same_piece (b ∷ bs) (c ∷ cs) x y (inl (h, none)) (inr (only, stops)) is =
    let head : c ≡ b = cc in
    clash (is_run_byte b) (subst (λ v. is_run_byte v ≡ true) head (All-head RunByte c cs only))
    (parenthesis_no_run b h)
same_piece (b ∷ bs) (c ∷ cs) x y (inr (only, stops)) (inl (k, none)) is =
    let head : b ≡ c = cc in
    clash (is_run_byte c) (subst (λ v. is_run_byte v ≡ true) head (All-head RunByte b bs only))
    (parenthesis_no_run c k)
same_piece (b ∷ bs) (c ∷ cs) x y (inr (only, stops)) (inr (only', stops')) is = same_run (b ∷ bs)
    (c ∷ cs) x y only only' stops stops' is

same_first : (profile : Profile) (place : ℕ) (bytes : List ℕ) (t u : Lexeme) (x y : List ℕ)
    → IsFirstToken profile place bytes t x → IsFirstToken profile place bytes u y
    → (t ≡ u) × (x ≡ y)
same_first profile place bytes t u x y f g =
    let outer = same_front is_blank f.blanks g.blanks (t.text ++ x) (u.text ++ y) f.only_blanks
    g.only_blanks
    (λ b bs begins. subst NoBlankBegins begins (piece_no_blank t.text x f.piece))
    (λ b bs begins. subst NoBlankBegins begins (piece_no_blank u.text y g.piece))
    (sym f.cut ∙ g.cut) in
    let inner = same_piece t.text u.text x y f.piece g.piece outer.1 in
    let start : t.start ≡ u.start = f.start ∙ ap (λ l. place + length l) outer.0 ∙ sym g.start in
    let end : t.end ≡ u.end = f.end ∙ (λ i. start i + length (inner.0 i)) ∙ sym g.end in
    let kind : t.kind ≡ u.kind = f.kind ∙ ap (kind_by profile) inner.0 ∙ sym g.kind in
    ((λ i. record { text = inner.0 i; start = start i; end = end i; kind = kind i }), inner.1)

no_token_of_blanks : (profile : Profile) (place : ℕ) (bytes : List ℕ) (t : Lexeme) (rest : List ℕ)
    → All Blank bytes → IsFirstToken profile place bytes t rest → ⊥
no_token_of_blanks profile place bytes t rest only f = starts t.text f.piece f.cut
  where
    behind : (front : List ℕ) (b : ℕ) (bs : List ℕ) → All Blank (front ++ b ∷ bs)
        → is_blank b ≡ true
    behind [] b bs h = All-head Blank b bs h
    behind (c ∷ front) b bs h = behind front b bs (All-tail Blank c (front ++ b ∷ bs) h)

    starts : (text : List ℕ) → IsPiece text rest → bytes ≡ f.blanks ++ (text ++ rest) → ⊥
    starts [] p cut = p
    starts (b ∷ bs) p cut =
        let there : All Blank (f.blanks ++ (b ∷ bs ++ rest)) = subst (All Blank) cut only in
        let is : is_blank b ≡ true = behind f.blanks b (bs ++ rest) there in
        clash (is_blank b) is (piece_no_blank (b ∷ bs) rest p)

pub same_tokens : (profile : Profile) (place : ℕ) (bytes : List ℕ) (ts us : List Lexeme)
    → AreTokensBy profile place bytes ts → AreTokensBy profile place bytes us → ts ≡ us
same_tokens profile place bytes [] [] h k = refl
same_tokens profile place bytes [] (u ∷ us) h (
  y,
  g,
  k,
) = absurd (no_token_of_blanks profile place bytes u y h g)
same_tokens profile place bytes (t ∷ ts) [] (
  x,
  f,
  h,
) k = absurd (no_token_of_blanks profile place bytes t x k f)
same_tokens profile place bytes (t ∷ ts) (u ∷ us) (x, f, h) (y, g, k) =
    let first = same_first profile place bytes t u x y f g in
    let moved : AreTokensBy profile t.end x us =
    subst (λ p. AreTokensBy profile p x us) (ap (λ (l : Lexeme). l.end) (sym first.0))
    (subst (λ r. AreTokensBy profile u.end r us) (sym first.1) k) in
    let rest = same_tokens profile t.end x ts us h moved in
    (λ i. first.0 i ∷ rest i)
