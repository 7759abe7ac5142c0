use Rattle.std.proofs.Common.{◌≡◌, ◌≢◌, ◌∙◌, ℕ, List, ◌∷◌, ◌++◌, ap, subst}
use Rattle.std.specs.Prelude.{MatchOption}
use Rattle.std.proofs.lemmas.Bool.Decides.{Decides-eqb}
use Rattle.std.proofs.lemmas.Slice.Eq.{strip_prefix_is}
use Rattle.desk_tree_patterns.specs.Parts.{literal, pieces, star_piece}
use Rattle.desk_tree_patterns.specs.Steps.{state}
use Rattle.desk_tree_patterns.proofs.Greedy.{at}
use Rattle.desk_tree_patterns.proofs.PlaceLemmas.{no_run, no_part, to_star, past_star, past_stars}
use Rattle.desk_tree_patterns.proofs.matching.forward.Goals as goal

pub returns-in_default-clause-none : goal.returns-in_default-clause-none
returns-in_default-clause-none c =
    let here = c.args.search.here in
    let run = c.split_run.result.0.now in
    let text = here.text.now in
    no_run here.bytes.now here.parts.now run text c.split_run.ensures.run
    (subst (λ r. MatchOption r ((rest : List ℕ) → text ≢ run ++ rest) (λ x. text ≡ run ++ x.now))
    c.in_default.is (strip_prefix_is Decides-eqb text run c.strip_prefix.result
    c.strip_prefix.ensures.cases))

pub returns-in_default-split_first-clause-none : goal.returns-in_default-split_first-clause-none
returns-in_default-split_first-clause-none c =
    let here = c.args.search.here in
    no_part here.bytes.now here.parts.now here.text.now c.in_default-split_first.ensures.cases
    c.requires

pub returns-in-Single-clause-some : goal.returns-in-Single-clause-some
returns-in-Single-clause-some c =
    let here = c.args.search.here in
    let run = c.split_run.result.0.now in
    let later = c.split_run.result.1.now in
    let part = c.in-Some-split_first.part.now in
    let parts = c.in-Some-split_first.parts.now in
    let text = here.text.now in
    past_star (state c.args.search) (state c.behind_star.result) run
    (at (pieces later parts) c.in-Some.text.now)
    (to_star here.bytes.now here.parts.now part parts run later
    c.in-Some-split_first.ensures.cases.0 c.split_run.ensures.run c.split_run.ensures.later
    ∙ ap (λ s. literal run ++ (star_piece s ∷ pieces later parts)) c.in-Single.is)
    (subst (λ r. MatchOption r ((rest : List ℕ) → text ≢ run ++ rest) (λ x. text ≡ run ++ x.now))
    c.in-Some.is (strip_prefix_is Decides-eqb text run c.strip_prefix.result
    c.strip_prefix.ensures.cases)) c.behind_star.ensures

pub returns-in-Double-clause-some : goal.returns-in-Double-clause-some
returns-in-Double-clause-some c =
    let here = c.args.search.here in
    let run = c.split_run.result.0.now in
    let later = c.split_run.result.1.now in
    let part = c.in-Some-split_first.part.now in
    let parts = c.in-Some-split_first.parts.now in
    let text = here.text.now in
    past_stars (state c.args.search) (state c.behind_stars.result) run
    (at (pieces later parts) c.in-Some.text.now)
    (to_star here.bytes.now here.parts.now part parts run later
    c.in-Some-split_first.ensures.cases.0 c.split_run.ensures.run c.split_run.ensures.later
    ∙ ap (λ s. literal run ++ (star_piece s ∷ pieces later parts)) c.in-Double.is)
    (subst (λ r. MatchOption r ((rest : List ℕ) → text ≢ run ++ rest) (λ x. text ≡ run ++ x.now))
    c.in-Some.is (strip_prefix_is Decides-eqb text run c.strip_prefix.result
    c.strip_prefix.ensures.cases)) c.behind_stars.ensures
