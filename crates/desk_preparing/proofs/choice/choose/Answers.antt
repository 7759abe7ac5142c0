use Rattle.std.proofs.Common.{subst}
use Rattle.desk_preparing.specs.Choosing.{AreTermsOf}
use Rattle.desk_preparing.specs.declared.choice.TermsRead.TheVariants.{Terms}
use Rattle.desk_preparing.proofs.Places.{chosen_plan}
use Rattle.desk_preparing.proofs.choice.choose.Goals as goal

pub returns-in-Terms-clause-plan : goal.returns-in-Terms-clause-plan
returns-in-Terms-clause-plan g c = λ w right.
    chosen_plan (g.S.Store.seen c.args.store.now) (g.S.Store.seen c.choose_terms.new.store) w
    c.args.release.now c.args.document c.args.package_id.now c.args.words.now c.in-Terms.terms
    c.choose_terms.result
    (subst (AreTermsOf w c.args.words.now) c.in-Terms.is (c.in_ok-i.ensures w right))
    (c.choose_terms.ensures.plan w right)
