-- What a right reading says of the text of an expression is what the standard's definitions say of
-- the expression.
use Rattle.std.proofs.Common.{◌≡◌, ℕ, List, Option, Some, None, map, true, false, inl, inr, refl, sym}
use Rattle.std.specs.Prelude.{Result}
use Rattle.desk_base.specs.declared.profile.Profile.{Profile}
use Rattle.desk_expr.specs.Tree.{Tree}
use Rattle.desk_access.specs.Reading.{TellsExpression}
use Rattle.desk_model.specs.Readings.{Readings}
use Rattle.desk_model.specs.declared.reading.Cheapest.{Cheapest}
use Rattle.desk_model.specs.declared.reading.ListFault.{ListFault}
use Rattle.desk_model.specs.declared.reading.Verdict.{Verdict}
use Rattle.desk_model.specs.declared.reading.Verdict.TheVariants.{NotEnough}
use Rattle.desk_texts.specs.Expressions.{IsExpression, IsRead, Judges, JudgesTerms}
use Rattle.desk_texts.specs.Listings.{AreTermTexts, IsListing, IsPriced}
use Rattle.desk_texts.specs.Right.{AreRight}
use Rattle.std.specs.Prelude.{Ok, []}

judged : (profile : Profile) (text : List ℕ) (words : List (List ℕ)) (e : Tree) (v : Verdict)
    → IsExpression profile text e → JudgesTerms e words v → Judges profile text words v
judged profile text words e v is (inl (ts, are, verdict)) = inl (e, ts, is, are, verdict)
judged profile text words e v is (inr (none, told)) = inr (λ f ts other are. none ts are, told)

module _ (w : Readings) (right : AreRight w) (profile : Profile) (text : List ℕ) where
  pub tells_expression : (o : Option Tree) → IsRead profile text o
      → TellsExpression IsExpression w profile text o
  tells_expression (Some e) is = (right.expression profile text true (e, is), is)
  tells_expression None none = record {
    unread = right.expression profile text false none;
    verdict = λ terms. right.verdict profile text terms NotEnough
        (inr (λ e ts is are. none e is, refl));
    alternatives = right.alternatives profile text (Ok []) (inr (none, refl));
    cheapest = λ cost. right.cheapest profile text cost (Ok None) (inr (none, refl));
  }

  module _ (e : Tree) (is : IsExpression profile text e) where
    pub tells_verdict : (words : List (List ℕ)) (v : Verdict) → JudgesTerms e words v
        → v ≡ w.verdict profile text words
    tells_verdict words v judges = sym (right.verdict profile text words v
        (judged profile text words e v is judges))

    pub tells_alternatives : (r : Result (List (List (List ℕ))) ListFault) → IsListing e r
        → r ≡ w.alternatives profile text
    tells_alternatives r lists = sym (right.alternatives profile text r (inl (e, is, lists)))

    pub tells_terms : (terms : List (List ℕ)) → AreTermTexts e terms → terms ≡ w.terms profile text
    tells_terms terms (
      ts,
      are,
      printed,
    ) = sym (right.terms profile text terms (inl (e, ts, is, are, printed)))

    pub tells_cheapest : (cost : List ℕ → Option ℕ) (r : Result (Option Cheapest) ListFault)
        → IsPriced cost e r → r ≡ w.cheapest profile text cost
    tells_cheapest cost r priced = sym (right.cheapest profile text cost r (inl (e, is, priced)))
