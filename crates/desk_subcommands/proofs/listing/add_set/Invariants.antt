use Rattle.std.proofs.Common.{◌≡◌, ◌++◌, take}
use Rattle.std.specs.String.{string_bytes}
use Rattle.desk_subcommands.specs.Listing.{set_text}
use Rattle.desk_subcommands.proofs.ListingLemmas.{between}
use Rattle.desk_subcommands.proofs.listing.add_set.Given as goal

-- the terms before the index are added
abbrev pub invariant-loop-term : goal.invariant-loop-term
invariant-loop-term l = record {
  text : string_bytes l.text ≡ string_bytes l.initial.text ++ set_text (take l.term-index l.terms);
  between : l.between ≡ between (take l.term-index l.terms);
}
