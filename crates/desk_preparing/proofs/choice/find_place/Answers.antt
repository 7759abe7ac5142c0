use Rattle.std.proofs.Common.{◌≡◌, ◌∙◌, sym, ap, subst, ℕ}
use Rattle.std.specs.Prelude.{IfSome, Option, is_some}
use Rattle.desk_access.proofs.Chains.{same_then_same}
use Rattle.desk_preparing.proofs.Places.{found_after}
use Rattle.desk_preparing.proofs.choice.find_place.Goals as goal

pub returns-clause-found : goal.returns-clause-found
returns-clause-found g c =
    let one = c.in_ok-state.ensures in
    let two = c.in_ok-number.ensures in
    let d = c.args.document in
    found_after (g.S.Store.seen c.args.store.now) (g.S.Store.seen c.number_of.new.store)
    (g.S.Store.seen c.find_in.new.store)
    c.args.release.now c.in-Some-2.number d c.args.package_id.now c.in-Some.state c.find_in.result
    (same_then_same _ _ _ one.kept two.kept) c.find_in.ensures.kept
    (subst (λ (o : Option ℕ). IfSome o (λ n. n ≡ d)) c.in-Some-2.is two.same)
    (λ h t held. (
      sym (one.found (two.kept.kept.spared.honest h) t held) ∙ c.in-Some.is,
      sym (two.found h t (one.kept.kept.spared.holds t held)) ∙ ap is_some c.in-Some-2.is,
    ))
    c.find_in.ensures.found
