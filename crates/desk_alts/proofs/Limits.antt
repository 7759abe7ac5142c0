-- Whether each front of some tokens is within the limits: no front is longer than the tokens.
use Rattle.std.proofs.Common.{◌∙◌, inl, inr, List, length, take, sym, subst}
use Rattle.std.proofs.lemmas.List.{take_all}
use Rattle.std.proofs.Math.Seq.{take-length}
use Rattle.desk_base.specs.Limits as limit
use Rattle.desk_tokens.specs.Tokens.{Lexeme}
use Rattle.desk_expr.specs.Spelling.{symbols, still_open, operand_words, KeepsLimits, AllFronts}
use Rattle.desk_alts.proofs.Decide.{Decided, decided_le, decided_all}

keeps_or_not : (ts : List Lexeme) → Decided (KeepsLimits ts)
keeps_or_not ts =
    elim (decided_le (length (still_open ts)) limit.open_parentheses) [
      | inr deep ↦ inr (λ keeps. deep keeps.depth)
      | inl depth ↦ elim (decided_le (operand_words (symbols ts)) limit.expression_terms) [
        | inr many ↦ inr (λ keeps. many keeps.terms)
        | inl terms ↦ inl (record { depth = depth; terms = terms })
      ]
    ]

pub fronts_keep_or_not : (ts : List Lexeme) → Decided (AllFronts KeepsLimits ts)
fronts_keep_or_not ts =
    decided_all (λ n. KeepsLimits (take n ts)) (λ n. keeps_or_not (take n ts)) (length ts)
    (λ n long keeps. subst KeepsLimits (take-length ts ∙ sym (take_all n ts long)) keeps)
