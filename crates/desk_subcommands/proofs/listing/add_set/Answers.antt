use Rattle.std.proofs.Common.{◌++◌, ◌∙◌, ℕ, List, ap}
use Rattle.std.specs.String.{string_bytes}
use Rattle.desk_expr.specs.declared.term.Term.{Term}
use Rattle.desk_subcommands.proofs.ListingLemmas.{between_next, set_more}
use Rattle.desk_subcommands.proofs.listing.add_set.Goals as goal

pub loop-term-preserved : goal.loop-term-preserved
loop-term-preserved c =
    let terms : List Term = c.terms-terms.result.now in
    let i : ℕ = c.loop-term.term-index in
    let old : List ℕ = string_bytes c.loop-term.text in
    let mid : List ℕ = string_bytes c.push_str.new.self in
    record {
      text = set_more terms i c.term-item.result (string_bytes c.args.text.now) old mid
          (string_bytes c.push_str-in-loop-term.new.self) c.loop-term-test.true c.term-item.is
          c.loop-term.invariant.text
          (c.in_ok-push_str.ensures.bytes
          ∙ ap (λ (l : List ℕ). old ++ l) c.loop-term.invariant.between)
          (c.in_ok-push_str-2.ensures.bytes
          ∙ ap (λ (l : List ℕ). mid ++ l) (c.deref.ensures ∙ c.in_ok-print_term.ensures.text));
      between = between_next terms i c.loop-term-test.true;
    }
