-- What a limit does to an answer.
use Rattle.std.specs.Prelude.{◌≡◌, ◌<◌, ℕ}
use Rattle.desk_model.specs.declared.command.Answer.{Answer}
use Rattle.desk_model.specs.declared.command.Answer.TheVariants as answered
use Rattle.desk_model.specs.declared.refusal.Limit.{Limit}
use Rattle.desk_model.specs.declared.refusal.Refusal.TheVariants as why

-- as long as there are fewer than this many, the answer is what was done; the first command past
-- them is refused as Full
abbrev pub IsFullAt : ℕ → Limit → ℕ → Answer → Answer → Type 0
IsFullAt most limit count done answer = (count < most → answer ≡ done)
    × (count ≡ most → answer ≡ answered.Refused (why.Full limit))
