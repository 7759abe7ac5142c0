-- Texts that spell trees, each in parentheses and joined by AND.
use Rattle.std.proofs.Common.{◌≡◌, ◌∙◌, inl, inr, ℕ, ◌+◌, List, [], ◌∷◌, ◌++◌, length, sym, subst}
use Rattle.std.proofs.Common.{ap, refl, arith, true, codes, length-append, append_assoc}
use Rattle.std.specs.Prelude.{IsTrue, All}
use Rattle.std.proofs.lemmas.List.Elements.{All-cons, All-head, All-tail}
use Rattle.desk_base.specs.Bytes.{is_blank}
use Rattle.desk_tokens.specs.Tokens.{NoRunBegins, IsPiece, Lexeme, AreTokens}
use Rattle.desk_expr.specs.Grammar.{and_word, all_of, Operand, AndList}
use Rattle.desk_expr.specs.Grammar.{one_operand, and_more, one_list, SpellsTree}
use Rattle.desk_expr.specs.Listed.{EachSpells}
use Rattle.desk_expr.specs.Printing.{enclosed}
use Rattle.desk_expr.specs.Spelling.{symbol, symbols, Spells}
use Rattle.desk_expr.specs.Tree.{Tree}
use Rattle.desk_expr.proofs.Lexes.{Follows}
use Rattle.desk_expr.proofs.Prints.{Prints, lexes_and, prints_group, prints_more, whole}

-- ---- a text is lexed alike wherever it is

blank_before : (b place : ℕ) (y : List ℕ) (us : List Lexeme) → IsTrue (is_blank b)
    → AreTokens (place + 1) y us → AreTokens place (b ∷ y) us
blank_before b place y [] blank are = All-cons (λ c. IsTrue (is_blank c)) b y blank are
blank_before b place y (t ∷ us) blank (rest, first, more) = (
  rest,
  record {
    blanks = b ∷ first.blanks;
    only_blanks = All-cons (λ c. IsTrue (is_blank c)) b first.blanks blank first.only_blanks;
    cut = ap (λ l. b ∷ l) first.cut;
    start = (let is = first.start in omega (arith, is));
    end = first.end;
    piece = first.piece;
    kind = first.kind;
  },
  more,
)

blanks_before : (x : List ℕ) (place : ℕ) (y : List ℕ) (us : List Lexeme)
    → All (λ b. IsTrue (is_blank b)) x → AreTokens (place + length x) y us
    → AreTokens place (x ++ y) us
blanks_before [] place y us blank are = subst (λ p. AreTokens p y us) (omega arith) are
blanks_before (b ∷ x) place y us blank are =
    blank_before b place (x ++ y) us (All-head (λ c. IsTrue (is_blank c)) b x blank)
    (blanks_before x (place + 1) y us (All-tail (λ c. IsTrue (is_blank c)) b x blank)
    (subst (λ p. AreTokens p y us) (omega arith) are))

still_stops : (rest y : List ℕ) → NoRunBegins rest → NoRunBegins y → NoRunBegins (rest ++ y)
still_stops [] y stops after = after
still_stops (b ∷ rest) y stops after = stops

still_piece : (w rest y : List ℕ) → IsPiece w rest → NoRunBegins y → IsPiece w (rest ++ y)
still_piece [] rest y piece after = piece
still_piece (b ∷ bs) rest y (inl one) after = inl one
still_piece (b ∷ bs) rest y (inr run) after = inr (run.0, still_stops rest y run.1 after)

follows : (ts : List Lexeme) (from place : ℕ) (x y : List ℕ) (us : List Lexeme)
    → AreTokens from x ts → NoRunBegins y → AreTokens (place + length x) y us
    → Follows place x (symbols ts) y us
follows [] from place x y us blank after are = (us, blanks_before x place y us blank are, refl)
follows (t ∷ ts) from place x y us (rest, first, more) after are =
    let end = place + length first.blanks + length t.text in
    let long : place + length x ≡ end + length rest = omega (
      arith,
      ap length first.cut,
      length-append first.blanks (t.text ++ rest),
      length-append t.text rest,
    ) in
    let later = follows ts t.end end rest y us more after
    (subst (λ p. AreTokens p y us) long are) in
    let front : Lexeme = record {
      text = t.text;
      start = place + length first.blanks;
      end = end;
      kind = t.kind;
    } in (
      front ∷ later.0,
      (
        rest ++ y,
        record {
          blanks = first.blanks;
          only_blanks = first.only_blanks;
          cut = ap (λ l. l ++ y) first.cut ∙ append_assoc first.blanks (t.text ++ rest) y
              ∙ ap (λ l. first.blanks ++ l) (append_assoc t.text rest y);
          start = refl;
          end = refl;
          piece = still_piece t.text rest y first.piece after;
          kind = first.kind;
        },
        later.1,
      ),
      ap (λ ss. symbol t.kind t.text ∷ ss) later.2,
    )

spelled : (text : List ℕ) (e : Tree) → Spells text e → Prints text (λ ss. SpellsTree ss e)
spelled text e s = record {
  ss = symbols s.0;
  lexes = λ place y us after are. follows s.0 0 place text y us s.1 after are;
  spells = s.2;
}

-- ---- in parentheses

operand : (text : List ℕ) (e : Tree) → Spells text e
    → Prints (enclosed true text) (λ ss. Operand ss e)
operand text e s =
    let p = spelled text e s in
    subst (λ tree. Prints (enclosed true text) (λ ss. Operand ss tree)) p.spells.2
    (prints_group text p.spells.0
    (record { ss = p.ss; lexes = p.lexes; spells = p.spells.1 }))

-- some texts, each in parentheses
abbrev pub groups : List ℕ → List (List ℕ) → List ℕ
groups t [] = enclosed true t
groups t (u ∷ us) = enclosed true t ++ (codes " AND " ++ groups u us)

list : (t : List ℕ) (ts : List (List ℕ)) (e : Tree) (es : List Tree) → Spells t e
    → EachSpells ts es → Prints (groups t ts) (λ ss. AndList ss (e ∷ es))
list t [] e [] s more =
    let p = operand t e s in
    record { ss = p.ss; lexes = p.lexes; spells = one_operand p.ss e p.spells }
list t [] e (f ∷ es) s more = absurd more
list t (u ∷ us) e [] s more = absurd more
list t (u ∷ us) e (f ∷ es) s more =
    let p = operand t e s in
    let q = list u us f es more.0 more.1 in
    record {
      ss = p.ss ++ and_word ∷ q.ss;
      lexes = prints_more (enclosed true t) (codes " AND ") (groups u us) p.ss q.ss and_word p.lexes
          (λ y. refl) lexes_and q.lexes;
      spells = and_more p.ss q.ss e (f ∷ es) p.spells q.spells;
    }

-- joined by AND, they spell All of the trees
pub groups_spell : (t : List ℕ) (ts : List (List ℕ)) (e : Tree) (es : List Tree) → Spells t e
    → EachSpells ts es → Spells (groups t ts) (all_of (e ∷ es))
groups_spell t ts e es s more =
    let p = list t ts e es s more in
    let text = whole (groups t ts) p.ss p.lexes in (
      text.0,
      text.1,
      subst (λ ss. SpellsTree ss (all_of (e ∷ es))) (sym text.2)
          (all_of (e ∷ es) ∷ [], one_list p.ss (e ∷ es) p.spells, refl),
    )
