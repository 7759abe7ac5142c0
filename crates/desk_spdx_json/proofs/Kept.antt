-- What is kept of a document, by which identifiers are idle.
use Rattle.std.proofs.Common.{◌≡◌, ℕ, List, Bool, false, ap}
use Rattle.serde_json.specs.Data.{Data}
use Rattle.desk_spdx_files.specs.declared.idle.Files.{Files}
use Rattle.desk_spdx_files.specs.declared.idle.Files.TheVariants as files
use Rattle.desk_spdx_files.specs.Files.{idle_by}
use Rattle.desk_spdx_json.specs.Files.{steps_in}
use Rattle.desk_spdx_json.specs.Kept.{kept_at}

-- what is kept depends on nothing but which identifiers are idle
pub kept_same : (few many : List ℕ → Bool) → ((id : List ℕ) → few id ≡ many id) → (at : List ℕ)
    (d : Data) → kept_at few at d ≡ kept_at many at d
kept_same few many same at d = let e : few ≡ many = λ i id. same id i in
    ap (λ idle. kept_at idle at d) e

pub kept_in : (which : Files) (idle : List ℕ → Bool) (at : List ℕ) (d : Data)
    → ((id : List ℕ) → idle id ≡ idle_by which d id) → kept_at idle at d ≡ steps_in which at d
kept_in files.All idle at d same = kept_same idle (λ id. false) same at d
kept_in files.Needed idle at d same = kept_same idle (idle_by files.Needed d) same at d
