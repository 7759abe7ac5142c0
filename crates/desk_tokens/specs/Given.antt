-- Which token comes next.
use Rattle.std.specs.Prelude.{◌≡◌, Option, Some, None, All, IsTrue}
use Rattle.desk_tokens.specs.declared.token.Token.{Token}
use Rattle.desk_tokens.specs.declared.cut.TokenCuts.{TokenCuts}
use Rattle.desk_tokens.specs.Tokens.{IsFirstToken, lexeme}
use Rattle.desk_base.specs.Bytes.{is_blank}

-- the first token of what is left, and what follows it; or only blanks are left, and stay, so the
-- next call returns none either
abbrev pub TokenGiven : TokenCuts → Option Token → TokenCuts → Type 0
TokenGiven s None new = All (λ b. IsTrue (is_blank b)) s.rest.now × (new.rest.now ≡ s.rest.now)
TokenGiven s (Some t) new = IsFirstToken s.profile s.place s.rest.now (lexeme t) new.rest.now
    × (new.place ≡ t.end) × (new.profile ≡ s.profile)
