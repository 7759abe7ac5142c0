-- Profiles of operators, by their numbers.
use Rattle.std.specs.Prelude.{ℕ, ◌==◌, [], ◌∷◌, Option, find}
use Rattle.desk_base.specs.declared.profile.Profile.{Profile}
use Rattle.desk_base.specs.declared.profile.Profile.TheVariants.{Capitals, Either}

-- the number that stands for a profile: 1 if AND, OR and WITH are operators in capitals alone, 2 if
-- they are also in small letters
abbrev pub profile_number : Profile → ℕ
profile_number Capitals = 1
profile_number Either = 2

-- the profile with a number, if there is one
abbrev pub profile_numbered : ℕ → Option Profile
profile_numbered n = find (λ profile. profile_number profile == n) (Capitals ∷ Either ∷ [])
