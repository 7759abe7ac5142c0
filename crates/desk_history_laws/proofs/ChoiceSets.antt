-- The set of some texts spells the set of the terms that these spell.
use Rattle.std.proofs.Common.{◌≡◌, ◌↔◌, ◌∙◌, ℕ, Bool, true, false, List, [], ◌∷◌, sym, subst, refl, inl, inr}
use Rattle.std.specs.Prelude.{if◌then◌else◌, Contains}
use Rattle.std.specs.Str.{bytes_eq}
use Rattle.desk_base.proofs.Texts.{texts_equal}
use Rattle.desk_base.proofs.SortedOnce.{is_later}
use Rattle.desk_base.specs.declared.profile.Profile.TheVariants.{Capitals}
use Rattle.desk_expr.specs.declared.term.Term.{Term}
use Rattle.desk_expr.specs.Tree.{Tree}
use Rattle.desk_expr.specs.Spelling.{SpellsTermWithin}
use Rattle.desk_expr.specs.Meaning.{IsMinimal}
use Rattle.desk_alts.proofs.Minimal.{holds_more}
use Rattle.desk_alts.proofs.SameTerms.{contains_cases, contains_here}
use Rattle.desk_expr.proofs.TermLemmas.{spells_term_once}
use Rattle.desk_model.specs.Texts.{text_below, put_new, sorted_set}
use Rattle.desk_texts.specs.Terms.{AreTerms}
use Rattle.desk_base.specs.declared.profile.Profile.{Profile}
use Rattle.desk_model.specs.Readings.{Readings}
use Rattle.desk_model.specs.declared.command.Command.{Command}
use Rattle.desk_model.specs.declared.reading.Verdict.TheVariants.{Minimal}
use Rattle.desk_history.specs.Laws.{IsHeldMinimal}
use Rattle.desk_history_laws.specs.Held.{AreMinimalFor}
use Rattle.desk_texts.specs.Expressions.{IsExpression}

-- the same terms, in any order and any number of times
abbrev AreSame : List Term → List Term → Type 0
AreSame ts us = (t : Term) → Contains ts t ↔ Contains us t

with_first : (t : Term) (ts us : List Term) → AreSame ts us → AreSame (t ∷ ts) (t ∷ us)
with_first t ts us same u = (
  (λ at. elim (contains_cases t ts u at)
      [ inl e ↦ contains_here t us u e | inr m ↦ is_later t us u ((same u).0 m) ]),
  (λ at. elim (contains_cases t us u at)
      [ inl e ↦ contains_here t ts u e | inr m ↦ is_later t ts u ((same u).1 m) ]),
)

turned : (t u : Term) (ts : List Term) → AreSame (u ∷ t ∷ ts) (t ∷ u ∷ ts)
turned t u ts v = (swap t u, swap u t)
  where
    swap : (a b : Term) → Contains (b ∷ a ∷ ts) v → Contains (a ∷ b ∷ ts) v
    swap a b at = elim (contains_cases b (a ∷ ts) v at) [
      | inl e ↦ is_later a (b ∷ ts) v (contains_here b ts v e)
      | inr m ↦ elim (contains_cases a ts v m) [
        | inl e ↦ contains_here a (b ∷ ts) v e
        | inr n ↦ is_later a (b ∷ ts) v (is_later b ts v n)
      ]
    ]

once : (t u : Term) (ts : List Term) → t ≡ u → AreSame (u ∷ ts) (t ∷ u ∷ ts)
once t u ts e v = (
  is_later t (u ∷ ts) v,
  (λ at. elim (contains_cases t (u ∷ ts) v at)
      [ inl f ↦ contains_here u ts v (sym e ∙ f) | inr m ↦ m ]),
)

chained : (ts us vs : List Term) → AreSame ts us → AreSame us vs → AreSame ts vs
chained ts us vs a b t = ((λ at. (b t).0 ((a t).0 at)), (λ at. (a t).1 ((b t).1 at)))

-- the texts spell terms, which are these
abbrev Spell : List (List ℕ) → List Term → Type 0
Spell texts ts = (us : List Term) × AreTerms texts us × AreSame us ts

put_spells : (x : List ℕ) (t : Term) (xs : List (List ℕ)) (ts : List Term) → SpellsTermWithin x t
    → AreTerms xs ts → Spell (put_new x xs) (t ∷ ts)
put_spells x t [] [] spells are = (t ∷ [], (spells, tt), λ u. ((λ at. at), (λ at. at)))
put_spells x t [] (u ∷ ts) spells are = absurd are
put_spells x t (y ∷ ys) [] spells are = absurd are
put_spells x t (y ∷ ys) (u ∷ ts) spells are = by_place (put_spells x t ys ts spells are.1)
    (text_below x y) (bytes_eq x y) refl
  where
    by_place : Spell (put_new x ys) (t ∷ ts) → (a b : Bool) → bytes_eq x y ≡ b
        → Spell (if a then x ∷ y ∷ ys else (if b then y ∷ ys else y ∷ put_new x ys)) (t ∷ u ∷ ts)
    by_place rest true b e = (t ∷ u ∷ ts, (spells, are), λ v. ((λ at. at), (λ at. at)))
    by_place rest false true e =
        let same : t ≡ u = spells_term_once Capitals y t u
        (subst (λ z. SpellsTermWithin z t) (texts_equal x y e) spells).1 are.0.1 in
        (u ∷ ts, are, once t u ts same)
    by_place (vs, spelled, same) false false e = (
      u ∷ vs,
      (are.0, spelled),
      chained (u ∷ vs) (u ∷ t ∷ ts) (t ∷ u ∷ ts) (with_first u vs (t ∷ ts) same) (turned t u ts),
    )

pub set_spells : (texts : List (List ℕ)) (ts : List Term) → AreTerms texts ts
    → Spell (sorted_set texts) ts
set_spells [] [] are = ([], tt, λ t. ((λ at. at), (λ at. at)))
set_spells [] (t ∷ ts) are = absurd are
set_spells (x ∷ xs) [] are = absurd are
set_spells (x ∷ xs) (t ∷ ts) are =
    let rest = set_spells xs ts are.1 in
    let put = put_spells x t (sorted_set xs) rest.0 are.0 rest.1 in
    (put.0, put.1, chained put.0 (t ∷ rest.0) (t ∷ ts) put.2 (with_first t rest.0 ts rest.2))

-- what is minimal is also minimal as any other list of the same terms
pub minimal_alike : (ts us : List Term) (e : Tree) → AreSame us ts → IsMinimal ts e → IsMinimal us e
minimal_alike ts us e same minimal = (
  holds_more (Contains ts) (Contains us) (λ t at. (same t).1 at) e minimal.0,
  λ few proper h. minimal.1 few
      ((λ t at. (same t).0 (proper.0 t at)), proper.1, (same proper.1).0 proper.2, proper.3) h,
)

-- The terms that are held for a package are minimal as a set.

-- what a verdict says, which a right reading gives
abbrev pub Means : Readings → Type 0
Means w = (profile : Profile) (text : List ℕ) (words : List (List ℕ))
    → w.verdict profile text words ≡ Minimal
    → (e : Tree) × (ts : List Term) × IsExpression profile text e × AreTerms words ts
    × IsMinimal ts e

pub held_set : (w : Readings) → Means w
    → (h : List Command) (d : ℕ) (p : List ℕ) (held : List (List ℕ)) → IsHeldMinimal w h d p held
    → AreMinimalFor w h d p held
held_set w means h d p held is =
    let found = means is.concluded.profile is.concluded.text is.listed is.minimal in
    let set = set_spells is.listed found.1 found.3 in
    record {
      row = is.row;
      concluded = is.concluded;
      tree = found.0;
      terms = set.0;
      has = is.has;
      concludes = is.concludes;
      expression = found.2;
      spelled = subst (λ texts. AreTerms texts set.0) (sym is.set) set.1;
      minimal = minimal_alike found.1 set.0 found.0 set.2 found.4;
    }
