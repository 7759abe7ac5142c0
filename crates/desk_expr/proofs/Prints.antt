-- A printed tree spells itself.
use Rattle.std.proofs.Common.{◌≡◌, ◌∙◌, ℕ, List, [], ◌∷◌, ◌++◌, sym, subst, ap, refl, true, false}
use Rattle.std.proofs.Common.{Option, Some, None, codes, append_assoc, arith, lit<}
use Rattle.std.specs.Prelude.{◌&&◌, ◌||◌, not}
use Rattle.std.proofs.lemmas.List.{append-nil}
use Rattle.std.proofs.lemmas.Bool.{and_parts}
use Rattle.desk_expr.specs.declared.printing.Place.TheVariants.{InAll, InAny}
use Rattle.desk_expr.specs.declared.term.Term.{Term}
use Rattle.desk_expr.specs.Tree.{Tree, Trees, one, all, any, no_more, more, parts_of}
use Rattle.desk_tokens.specs.Words.{is_reference}
use Rattle.desk_expr.specs.Words.{is_folded_id, is_exception, is_term, with_exception}
use Rattle.desk_tokens.specs.Tokens.{NoRunBegins as NoRun, Lexeme, AreTokens}
use Rattle.desk_expr.specs.Grammar.{Symbol, opening, closing, and_word, or_word, with_word, word}
use Rattle.desk_expr.specs.Grammar.{all_of, any_of, SpellsTerm, bare, excepted, Operand, a_term}
use Rattle.desk_expr.specs.Grammar.{a_group, AndList, one_operand, and_more, OrList, one_list}
use Rattle.desk_expr.specs.Grammar.{or_more, SpellsTree}
use Rattle.desk_expr.specs.Spelling.{symbols, Spells, SpellsTermAlone}
use Rattle.desk_expr.specs.Printing.{printed_exception, printed_word, printed_term, enclosed}
use Rattle.desk_expr.specs.Printing.{printed_in, joined, printed, IsSeveral, IsWellFormed}
use Rattle.desk_expr.specs.Printing.{AreWellFormed}
use Rattle.desk_expr.proofs.WordKinds.{IsWord, id_word, plain_word, all_run}
use Rattle.desk_expr.proofs.Lexes.{Lexes, LexesAlone, EndsRuns, lexes_alone, lexes_then, alone_then}
use Rattle.desk_expr.proofs.Lexes.{alone_then_alone, then_alone, lexes_blank, lexes_parenthesis}
use Rattle.desk_expr.proofs.Lexes.{lexes_run}

-- ---- operators and parentheses

lexes_opening : Lexes (codes "(") (opening ∷ [])
lexes_opening = lexes_parenthesis 40 refl

lexes_closing : Lexes (codes ")") (closing ∷ [])
lexes_closing = lexes_parenthesis 41 refl

closing_ends : EndsRuns (codes ")")
closing_ends y = refl

-- an operator between blanks
between : (w : List ℕ) (s : Symbol) → LexesAlone w (s ∷ []) → Lexes (32 ∷ (w ++ 32 ∷ [])) (s ∷ [])
between w s h = lexes_then (32 ∷ []) (w ++ 32 ∷ []) [] (s ∷ []) lexes_blank
    (alone_then w (32 ∷ []) (s ∷ []) [] h (λ y. refl) lexes_blank)

-- bytes that are all bytes of a run, by their test
run_of : (w : List ℕ) (s : Symbol) → IsWord w s → LexesAlone w (s ∷ [])
run_of w s h = subst (λ t. LexesAlone w (t ∷ [])) h.is (lexes_run w h.some h.run)

pub lexes_and : Lexes (codes " AND ") (and_word ∷ [])
lexes_and = between (codes "AND") and_word
    (lexes_run (codes "AND") (lit< tt) (all_run (codes "AND") refl))

lexes_or : Lexes (codes " OR ") (or_word ∷ [])
lexes_or = between (codes "OR") or_word
    (lexes_run (codes "OR") (lit< tt) (all_run (codes "OR") refl))

lexes_with : Lexes (codes " WITH ") (with_word ∷ [])
lexes_with = between (codes "WITH") with_word
    (lexes_run (codes "WITH") (lit< tt) (all_run (codes "WITH") refl))

-- ---- terms

pub record PrintsTerm (t : Term) : Type 0 where
  pub ss : List Symbol
  pub lexes : LexesAlone (printed_term t) ss
  pub spells : SpellsTerm ss t

pub prints_term : (t : Term) → is_term t ≡ true → PrintsTerm t
prints_term t h = by_exception t.exception refl
  where
    plain : Term
    plain = record t { exception = None }

    parts : ((is_folded_id t.key || (is_reference t.key && not t.plus)) ≡ true)
        × (is_exception t.exception ≡ true)
    parts = and_parts (is_folded_id t.key || (is_reference t.key && not t.plus))
        (is_exception t.exception) h

    w : (o : Option (List ℕ)) × IsWord (printed_word t) (word plain o)
    w = plain_word t h

    by_exception : (x : Option (List ℕ)) → t.exception ≡ x → PrintsTerm t
    by_exception None is =
        let same : plain ≡ t = (λ i. record t { exception = sym is i }) in
        record {
          ss = word plain w.0 ∷ [];
          lexes = subst (λ l. LexesAlone l (word plain w.0 ∷ []))
              (sym (append-nil (printed_word t))
              ∙ ap (λ y. printed_word t ++ printed_exception y) (sym is))
              (run_of (printed_word t) (word plain w.0) w.1);
          spells = subst (λ v. SpellsTerm (word plain w.0 ∷ []) v) same (bare plain w.0);
        }
    by_exception (Some x) is =
        let id : is_folded_id x ≡ true = subst (λ y. is_exception y ≡ true) is parts.1 in
        let exception = id_word x id in
        let u : Term = record { key = x; plus = false; exception = None } in
        let same : with_exception plain x ≡ t = (λ i. record t { exception = sym is i }) in
        record {
          ss = word plain w.0 ∷ with_word ∷ word u (Some x) ∷ [];
          lexes = subst (λ l. LexesAlone l (word plain w.0 ∷ with_word ∷ word u (Some x) ∷ []))
              (ap (λ y. printed_word t ++ printed_exception y) (sym is))
              (alone_then_alone (printed_word t) (codes " WITH " ++ x) (word plain w.0 ∷ [])
              (with_word ∷ word u (Some x) ∷ []) (run_of (printed_word t) (word plain w.0) w.1)
              (λ y. refl)
              (then_alone (codes " WITH ") x (with_word ∷ []) (word u (Some x) ∷ []) lexes_with
              (run_of x (word u (Some x)) exception)));
          spells = subst (λ v. SpellsTerm (word plain w.0 ∷ with_word ∷ word u (Some x) ∷ []) v)
              same (excepted plain u w.0 x);
        }

-- ---- trees

-- the parts of a node as a list
abbrev list_of : Trees → List Tree
list_of no_more = []
list_of (more t ts) = t ∷ list_of ts

parts_of_list : (ts : Trees) → parts_of (list_of ts) ≡ ts
parts_of_list no_more = refl
parts_of_list (more t ts) = ap (more t) (parts_of_list ts)

all_parts : (ts : Trees) → IsSeveral ts → all_of (list_of ts) ≡ all ts
all_parts no_more h = absurd h
all_parts (more t no_more) h = absurd h
all_parts (more t (more u ts)) h = ap (λ us. all (more t (more u us))) (parts_of_list ts)

any_parts : (ts : Trees) → IsSeveral ts → any_of (list_of ts) ≡ any ts
any_parts no_more h = absurd h
any_parts (more t no_more) h = absurd h
any_parts (more t (more u ts)) h = ap (λ us. any (more t (more u us))) (parts_of_list ts)

-- a text of symbols that are in a language
pub record Prints (text : List ℕ) (P : List Symbol → Type 0) : Type 0 where
  pub ss : List Symbol
  pub lexes : LexesAlone text ss
  pub spells : P ss

pub prints_group : (text : List ℕ) (es : List Tree) → Prints text (λ ss. OrList ss es)
    → Prints (enclosed true text) (λ ss. Operand ss (any_of es))
prints_group text es p = record {
  ss = opening ∷ p.ss ++ closing ∷ [];
  lexes = then_alone (codes "(") (text ++ codes ")") (opening ∷ []) (p.ss ++ closing ∷ [])
      lexes_opening
      (lexes_alone (text ++ codes ")") (p.ss ++ closing ∷ [])
      (alone_then text (codes ")") p.ss (closing ∷ []) p.lexes closing_ends lexes_closing));
  spells = a_group p.ss es p.spells;
}

prints_open : (text : List ℕ) (P : List Symbol → Type 0) → Prints text P
    → Prints (enclosed false text) P
prints_open text P p = subst (λ l. Prints l P) (sym (append-nil text)) p

-- one part, an operator and more
pub prints_more : (first op rest : List ℕ) (ss tt : List Symbol) (s : Symbol) → LexesAlone first ss
    → EndsRuns op → Lexes op (s ∷ []) → LexesAlone rest tt
    → LexesAlone (first ++ (op ++ rest)) (ss ++ s ∷ tt)
prints_more first op rest ss tt s h ends k l =
    alone_then_alone first (op ++ rest) ss (s ∷ tt) h
    (λ y. subst NoRun (sym (append_assoc op rest y)) (ends (rest ++ y)))
    (then_alone op rest (s ∷ []) tt k l)

abbrev IsSome : Trees → Type 0
IsSome no_more = ⊥
IsSome (more t ts) = Unit {0}

several_some : (ts : Trees) → IsSeveral ts → IsSome ts
several_some no_more h = h
several_some (more t ts) h = tt

abbrev PrintsAnd : Trees → Type 0
PrintsAnd ts = Prints (joined InAll (codes " AND ") ts) (λ ss. AndList ss (list_of ts))

abbrev PrintsOr : Trees → Type 0
PrintsOr ts = Prints (joined InAny (codes " OR ") ts) (λ ss. OrList ss (list_of ts))

-- an operand, and the AND list after it if there is one
and_join : (t : Tree) (ts : Trees) → Prints (printed_in InAll t) (λ ss. Operand ss t)
    → (IsSome ts → PrintsAnd ts) → PrintsAnd (more t ts)
and_join t no_more p more_of =
    record {
      ss = p.ss;
      lexes = subst (λ l. LexesAlone l p.ss) (sym (append-nil (printed_in InAll t))) p.lexes;
      spells = one_operand p.ss t p.spells;
    }
and_join t (more u ts) p more_of =
    let q = more_of tt in
    record {
      ss = p.ss ++ and_word ∷ q.ss;
      lexes = prints_more (printed_in InAll t) (codes " AND ")
          (joined InAll (codes " AND ") (more u ts)) p.ss q.ss and_word p.lexes (λ y. refl)
          lexes_and q.lexes;
      spells = and_more p.ss q.ss t (u ∷ list_of ts) p.spells q.spells;
    }

-- a part of an Any: an AND list
abbrev PrintsList : Tree → Type 0
PrintsList e = (es : List Tree) × (all_of es ≡ e)
    × Prints (printed_in InAny e) (λ ss. AndList ss es)

or_join : (t : Tree) (ts : Trees) → PrintsList t → (IsSome ts → PrintsOr ts) → PrintsOr (more t ts)
or_join t no_more p more_of = record {
  ss = p.2.ss;
  lexes = subst (λ l. LexesAlone l p.2.ss) (sym (append-nil (printed_in InAny t))) p.2.lexes;
  spells = subst (λ e. OrList p.2.ss (e ∷ [])) p.1 (one_list p.2.ss p.0 p.2.spells);
}
or_join t (more u ts) p more_of =
    let q = more_of tt in
    record {
      ss = p.2.ss ++ or_word ∷ q.ss;
      lexes = prints_more (printed_in InAny t) (codes " OR ")
          (joined InAny (codes " OR ") (more u ts)) p.2.ss q.ss or_word p.2.lexes (λ y. refl)
          lexes_or q.lexes;
      spells = subst (λ e. OrList (p.2.ss ++ or_word ∷ q.ss) (e ∷ u ∷ list_of ts)) p.1
          (or_more p.2.ss q.ss p.0 (u ∷ list_of ts) p.2.spells q.spells);
    }

all_operand : (ts : Trees) → IsSeveral ts → PrintsAnd ts
    → Prints (printed_in InAll (all ts)) (λ ss. Operand ss (all ts))
all_operand ts several list =
    subst (λ e. Prints (printed_in InAll (all ts)) (λ ss. Operand ss e)) (all_parts ts several)
    (prints_group (joined InAll (codes " AND ") ts) (all_of (list_of ts) ∷ [])
    (record {
      ss = list.ss;
      lexes = list.lexes;
      spells = one_list list.ss (list_of ts) list.spells;
    }))

-- an Any in parentheses
any_operand : (ts : Trees) → IsSeveral ts → PrintsOr ts
    → Prints (enclosed true (joined InAny (codes " OR ") ts)) (λ ss. Operand ss (any ts))
any_operand ts several list =
    subst (λ e. Prints (enclosed true (joined InAny (codes " OR ") ts)) (λ ss. Operand ss e))
    (any_parts ts several) (prints_group (joined InAny (codes " OR ") ts) (list_of ts) list)

any_list : (ts : Trees) → IsSeveral ts → PrintsOr ts → PrintsList (any ts)
any_list ts several list =
    let p = any_operand ts several list in (
      any ts ∷ [],
      refl,
      record {
        ss = p.ss;
        lexes = p.lexes;
        spells = one_operand p.ss (any ts) p.spells;
      },
    )

mutual
  as_operand : (e : Tree) → IsWellFormed e → Prints (printed_in InAll e) (λ ss. Operand ss e)
  as_operand (one t) h = let p = prints_term t h in
      record { ss = p.ss; lexes = p.lexes; spells = a_term p.ss t p.spells }
  as_operand (all ts) h = all_operand ts h.0 (as_and_list ts (several_some ts h.0) h.1)
  as_operand (any ts) h = any_operand ts h.0 (as_or_list ts (several_some ts h.0) h.1)

  as_list : (e : Tree) → IsWellFormed e → PrintsList e
  as_list (one t) h =
      let p = prints_term t h in (
        one t ∷ [],
        refl,
        record {
          ss = p.ss;
          lexes = p.lexes;
          spells = one_operand p.ss (one t) (a_term p.ss t p.spells);
        },
      )
  as_list (all ts) h = (
    list_of ts,
    all_parts ts h.0,
    prints_open (joined InAll (codes " AND ") ts) (λ ss. AndList ss (list_of ts))
        (as_and_list ts (several_some ts h.0) h.1),
  )
  as_list (any ts) h = any_list ts h.0 (as_or_list ts (several_some ts h.0) h.1)

  as_and_list : (ts : Trees) → IsSome ts → AreWellFormed ts → PrintsAnd ts
  as_and_list no_more some h = absurd some
  as_and_list (more t ts) some h = and_join t ts (as_operand t h.0) (λ is. as_and_list ts is h.1)

  as_or_list : (ts : Trees) → IsSome ts → AreWellFormed ts → PrintsOr ts
  as_or_list no_more some h = absurd some
  as_or_list (more t ts) some h = or_join t ts (as_list t h.0) (λ is. as_or_list ts is h.1)

prints_tree : (e : Tree) → IsWellFormed e → Prints (printed e) (λ ss. SpellsTree ss e)
prints_tree (one t) h =
    let p = prints_term t h in
    record {
      ss = p.ss;
      lexes = p.lexes;
      spells = (
        one t ∷ [],
        one_list p.ss (one t ∷ []) (one_operand p.ss (one t) (a_term p.ss t p.spells)),
        refl,
      );
    }
prints_tree (all ts) h =
    let list = as_and_list ts (several_some ts h.0) h.1 in
    prints_open (joined InAll (codes " AND ") ts) (λ ss. SpellsTree ss (all ts))
    (record {
      ss = list.ss;
      lexes = list.lexes;
      spells = (
        all_of (list_of ts) ∷ [],
        one_list list.ss (list_of ts) list.spells,
        all_parts ts h.0,
      );
    })
prints_tree (any ts) h =
    let list = as_or_list ts (several_some ts h.0) h.1 in
    prints_open (joined InAny (codes " OR ") ts) (λ ss. SpellsTree ss (any ts))
    (record {
      ss = list.ss;
      lexes = list.lexes;
      spells = (list_of ts, list.spells, any_parts ts h.0);
    })

-- ---- whole texts

pub whole : (text : List ℕ) (ss : List Symbol) → LexesAlone text ss
    → (ts : List Lexeme) × AreTokens 0 text ts × (symbols ts ≡ ss)
whole text ss h =
    let all = h 0 [] [] tt (λ k d within. absurd (omega arith)) in
    (all.0, subst (λ l. AreTokens 0 l all.0) (append-nil text) all.1, all.2 ∙ append-nil ss)

pub printed_spells : (e : Tree) → IsWellFormed e → Spells (printed e) e
printed_spells e h =
    let p = prints_tree e h in
    let all = whole (printed e) p.ss p.lexes in
    (all.0, all.1, subst (λ ss. SpellsTree ss e) (sym all.2) p.spells)

pub printed_term_spells : (t : Term) → is_term t ≡ true → SpellsTermAlone (printed_term t) t
printed_term_spells t h =
    let p = prints_term t h in
    let all = whole (printed_term t) p.ss p.lexes in
    (all.0, all.1, subst (λ ss. SpellsTerm ss t) (sym all.2) p.spells)
