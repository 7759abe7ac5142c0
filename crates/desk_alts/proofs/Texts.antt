-- Each text spells a tree within the limits, or none.
use Rattle.std.proofs.Common.{inl, inr, ℕ, ◌≤◌, List, length, subst}
use Rattle.desk_base.specs.declared.profile.Profile.{Profile}
use Rattle.desk_base.specs.Limits as limit
use Rattle.desk_tokens.specs.Tokens.{Lexeme, AreTokensBy}
use Rattle.desk_expr.specs.Grammar.{SpellsTree}
use Rattle.desk_expr.specs.Spelling.{symbols, KeepsLimits, AllFronts, SpellsWithinBy}
use Rattle.desk_tokens.proofs.Lexing.{tokens_exist, same_tokens}
use Rattle.desk_alts.proofs.Decide.{Decided, SomeOrNone, decided_le}
use Rattle.desk_alts.proofs.Trees.{tree_or_none}
use Rattle.desk_alts.proofs.Limits.{fronts_keep_or_not}

of_tokens : (profile : Profile) (text : List ℕ) → length text ≤ limit.expression_bytes
    → (ts : List Lexeme) → AreTokensBy profile 0 text ts
    → SomeOrNone (SpellsTree (symbols ts)) → Decided (AllFronts KeepsLimits ts)
    → SomeOrNone (SpellsWithinBy profile text)
of_tokens profile text short ts are (inl (e, spells)) (inl keeps) = inl (
  e,
  (short, ts, are, spells, keeps),
)
of_tokens profile text short ts are (inl (e, spells)) (inr breaks) =
    inr (λ f (low, us, are', h, keeps). breaks
    (subst (AllFronts KeepsLimits) (same_tokens profile 0 text us ts are' are) keeps))
of_tokens profile text short ts are (inr none) limits =
    inr (λ f (low, us, are', h, keeps). none f
    (subst (λ l. SpellsTree (symbols l) f) (same_tokens profile 0 text us ts are' are) h))

pub tree_of_text : (profile : Profile) (text : List ℕ) → SomeOrNone (SpellsWithinBy profile text)
tree_of_text profile text =
    elim (decided_le (length text) limit.expression_bytes) [
      | inr long ↦ inr (λ e h. long h.0)
      | inl short ↦ let tokens = tokens_exist profile 0 text in
          of_tokens profile text short tokens.0 tokens.1 (tree_or_none (symbols tokens.0))
          (fronts_keep_or_not tokens.0)
    ]
