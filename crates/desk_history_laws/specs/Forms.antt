-- What a right reading says about printed terms, by the terms themselves (SPDX 2.3, Annex D.2 to
-- D.4).
use Rattle.std.specs.Prelude.{ℕ, ◌&&◌, not, Bool, false, List, Option, Some, None, is_none, if◌then◌else◌}
use Rattle.desk_expr.specs.declared.term.Term.{Term}
use Rattle.desk_tokens.specs.Words.{is_reference}
use Rattle.desk_expr.specs.Words.{is_folded_id}

-- the reference that a term names, without its exception
abbrev pub reference_of : Term → Option (List ℕ)
reference_of t = if is_reference t.key then Some t.key else None

-- a licence id alone: no reference, no plus, no exception
abbrev pub is_plain_licence : Term → Bool
is_plain_licence t = is_folded_id t.key && not t.plus && is_none t.exception

-- a term adopted as a licence: that id, no plus, and the term's exception
abbrev pub adopted_form : Term → Term → Term
adopted_form licence t = record { key = licence.key; plus = false; exception = t.exception }
