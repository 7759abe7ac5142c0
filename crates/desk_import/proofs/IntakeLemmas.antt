-- What is imported of a document in JSON.
use Rattle.std.proofs.Common.{List, ℕ}
use Rattle.serde_json.specs.Data.{Data}
use Rattle.desk_spdx_files.specs.declared.idle.Files.{Files}
use Rattle.desk_import.specs.Results.{IsJson, steps_of}
use Rattle.desk_import.specs.Intakes.{IsNoDocument, Takes, TakesSteps}
use Rattle.desk_import.specs.declared.intake.Origin.{Origin}
use Rattle.desk_import.specs.declared.intake.Origin.TheVariants.{TagValue, Json, Neither}

pub takes_json : (wanted : Files) (bytes : List ℕ) (d : Data) (taken : List ℕ) (origin : Origin)
    → IsNoDocument bytes → IsJson bytes d → TakesSteps wanted (steps_of wanted d) taken origin
    → Takes wanted bytes taken origin
takes_json wanted bytes d taken TagValue none json h = absurd h
takes_json wanted bytes d taken (Json skipped) none json h =
    (none, h.0, (json.0, d, json.1, h.1), h.2, h.3)
takes_json wanted bytes d taken (Neither fault look) none json h = absurd h
