-- A spelled list has no bad token, and closes each parenthesis that it opens.
use Rattle.std.proofs.Common.{◌≡◌, ℕ, zero, suc, ◌+◌, ◌-◌, ◌<◌, ◌≤◌, List, [], ◌∷◌, ◌++◌, length}
use Rattle.std.proofs.Common.{refl, arith, length-append, length-take}
use Rattle.std.specs.Prelude.{fold}
use Rattle.desk_tokens.specs.declared.token.Kind.{Kind}
use Rattle.desk_tokens.specs.declared.token.Kind.TheVariants.{Opening, Closing, And, Or, With}
use Rattle.desk_tokens.specs.declared.token.Kind.TheVariants.{Licence, LicenceOrLater, Reference, Bad}
use Rattle.desk_expr.specs.declared.term.Term.{Term}
use Rattle.desk_expr.specs.Tree.{Tree}
use Rattle.desk_tokens.specs.Tokens.{Lexeme}
use Rattle.desk_expr.specs.Grammar.{Symbol, opening, closing, and_word, or_word, bad, SpellsTerm}
use Rattle.desk_expr.specs.Grammar.{bare, excepted, Operand, a_term, a_group, AndList, one_operand}
use Rattle.desk_expr.specs.Grammar.{and_more, OrList, one_list, or_more, SpellsTree}
use Rattle.desk_expr.specs.Spelling.{symbol_of, symbols, open_after, still_open, closings}

-- how many parentheses a symbol opens or closes, and whether it is bad
abbrev pub opens : Symbol → ℕ
opens opening = 1
opens _ = 0

abbrev pub closes : Symbol → ℕ
closes closing = 1
closes _ = 0

abbrev pub bads : Symbol → ℕ
bads bad = 1
bads _ = 0

abbrev pub total : (Symbol → ℕ) → List Symbol → ℕ
total f [] = 0
total f (s ∷ ss) = f s + total f ss

total-append : (f : Symbol → ℕ) (xs ys : List Symbol) → total f (xs ++ ys) ≡ total f xs + total f ys
total-append f [] ys = omega arith
total-append f (x ∷ xs) ys = omega (arith, total-append f xs ys)

-- what a spelled list has: as many closing as opening parentheses, and no bad token
pub record Even (ss : List Symbol) : Type 0 where
  pub closed : total opens ss ≡ total closes ss
  pub good : total bads ss ≡ 0

even_term : {ss : List Symbol} {t : Term} → SpellsTerm ss t → Even ss
even_term (bare t o) = record { closed = refl; good = refl }
even_term (excepted t u o x) = record { closed = refl; good = refl }

even_join : (s : Symbol) (xs ys : List Symbol) → opens s ≡ closes s → bads s ≡ 0 → Even xs → Even ys
    → Even (xs ++ s ∷ ys)
even_join s xs ys even_here good_here h k = record {
  closed = omega (
    arith,
    total-append opens xs (s ∷ ys),
    total-append closes xs (s ∷ ys),
    h.closed,
    k.closed,
  );
  good = omega (arith, total-append bads xs (s ∷ ys), h.good, k.good);
}

mutual
  even_operand : {ss : List Symbol} {e : Tree} → Operand ss e → Even ss
  even_operand (a_term ss t h) = even_term h
  even_operand (a_group ss es h) =
      let inner = even_or h in
      record {
        closed = omega (
          arith,
          total-append opens ss (closing ∷ []),
          total-append closes ss (closing ∷ []),
          inner.closed,
        );
        good = omega (arith, total-append bads ss (closing ∷ []), inner.good);
      }

  even_and : {ss : List Symbol} {es : List Tree} → AndList ss es → Even ss
  even_and (one_operand ss e h) = even_operand h
  even_and (and_more ss us e es h k) = even_join and_word ss us refl refl (even_operand h)
      (even_and k)

  pub even_or : {ss : List Symbol} {es : List Tree} → OrList ss es → Even ss
  even_or (one_list ss es h) = even_and h
  even_or (or_more ss us es fs h k) = even_join or_word ss us refl refl (even_and h) (even_or k)

-- a spelled list has no bad token
pub no_bad : (front behind : List Symbol) (e : Tree) → SpellsTree (front ++ bad ∷ behind) e → ⊥
no_bad front behind e h =
    let even = even_or h.1 in
    absurd (omega (arith, even.good, total-append bads front (bad ∷ behind)))

-- the number of open parentheses is at least that of those opened less those closed
open_one : (k : Kind) (w : List ℕ) (start end : ℕ) (places : List ℕ)
    → let t : Lexeme = record { text = w; start = start; end = end; kind = k } in
    opens (symbol_of t) + length places ≤ closes (symbol_of t) + length (open_after places t)
open_one Opening w start end places = omega (arith, length-append places (start ∷ []))
open_one Closing w start end places = omega (arith, length-take (length places - 1) places)
open_one And w start end places = omega arith
open_one Or w start end places = omega arith
open_one With w start end places = omega arith
open_one Licence w start end places = omega arith
open_one LicenceOrLater w start end places = omega arith
open_one Reference w start end places = omega arith
open_one Bad w start end places = omega arith

opened : (ts : List Lexeme) (places : List ℕ)
    → total opens (symbols ts) + length places
    ≤ total closes (symbols ts) + length (fold open_after places ts)
opened [] places = omega arith
opened (t ∷ ts) places =
    let here = open_one t.kind t.text t.start t.end places in
    omega (arith, here, opened ts (open_after places t))

closings_total : (n : ℕ) → total closes (closings n) ≡ n
closings_total zero = refl
closings_total (suc n) = omega (arith, closings_total n)

closings_opens : (n : ℕ) → total opens (closings n) ≡ 0
closings_opens zero = refl
closings_opens (suc n) = omega (arith, closings_opens n)

-- if closing parentheses complete a list, at least as many are open
pub completed_open : (ts : List Lexeme) (n : ℕ) (e : Tree) → SpellsTree (symbols ts ++ closings n) e
    → n ≤ length (still_open ts)
completed_open ts n e h =
    let even = even_or h.1 in
    omega (
      arith,
      even.closed,
      total-append opens (symbols ts) (closings n),
      total-append closes (symbols ts) (closings n),
      closings_total n,
      closings_opens n,
      opened ts [],
    )

-- ---- no empty list is spelled

mutual
  some_operand : {ss : List Symbol} {e : Tree} → Operand ss e → 0 < length ss
  some_operand (a_term ss t (bare u o)) = omega arith
  some_operand (a_term ss t (excepted u v o x)) = omega arith
  some_operand (a_group ss es h) = omega arith

  some_and : {ss : List Symbol} {es : List Tree} → AndList ss es → 0 < length ss
  some_and (one_operand ss e h) = some_operand h
  some_and (and_more ss us e es h k) = omega (arith, length-append ss (and_word ∷ us))

  some_or : {ss : List Symbol} {es : List Tree} → OrList ss es → 0 < length ss
  some_or (one_list ss es h) = some_and h
  some_or (or_more ss us es fs h k) = omega (arith, length-append ss (or_word ∷ us))

pub something : (e : Tree) → SpellsTree [] e → ⊥
something e h = let some = some_or h.1 in absurd (omega (arith, some))
