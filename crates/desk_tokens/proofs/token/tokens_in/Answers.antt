use Rattle.std.proofs.Common.{List, [], ◌∷◌, subst, sym, None}
use Rattle.std.specs.Prelude.{map}
use Rattle.std.specs.Iterator.{Yields}
use Rattle.desk_tokens.specs.declared.cut.TokenCuts.{TokenCuts}
use Rattle.desk_tokens.specs.declared.token.Token.{Token}
use Rattle.desk_tokens.specs.Tokens.{AreTokensBy, lexeme}
use Rattle.desk_tokens.specs.Given.{TokenGiven}
use Rattle.desk_tokens.proofs.token.tokens_in.Goals as goal

-- what `next` returns until it returns none are the tokens of what is left
all_given : (given : List Token) (cuts last after : TokenCuts) → Yields TokenGiven cuts given last
    → TokenGiven last None after → AreTokensBy cuts.profile cuts.place cuts.rest.now
    (map lexeme given)
all_given [] cuts last after same none = subst (λ (c : TokenCuts). AreTokensBy c.profile c.place
    c.rest.now []) (sym same) none.0
all_given (t ∷ given) cuts last after (next, step, more) none =
    let behind : AreTokensBy next.profile next.place next.rest.now (map lexeme given) =
    all_given given next last after more none in (
      next.rest.now,
      step.0,
      subst (λ o. AreTokensBy o t.end next.rest.now (map lexeme given)) step.2
          (subst (λ p. AreTokensBy next.profile p next.rest.now (map lexeme given)) step.1 behind),
    )

pub returns-clause-tokens : goal.returns-clause-tokens
returns-clause-tokens c = λ given drains. all_given given _ drains.1.0 drains.0 drains.1.1
    drains.1.2
