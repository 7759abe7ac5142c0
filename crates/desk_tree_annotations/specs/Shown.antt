-- How the code's values correspond to those of the definitions.
use Rattle.std.specs.Prelude.{◌≡◌, Result, Ok, Err}
use Rattle.desk_tree_annotations.specs.declared.fault.AnnotationsFault.{AnnotationsFault}
use Rattle.desk_tree_annotations.specs.declared.entries.Written.{Written}
use Rattle.desk_tree_annotations.specs.Reading.{Read, WrittenTexts}

-- a result is what is read, as it is shown
abbrev pub Gives : {A B : Type 0} → Read B → (A → B) → Result A AnnotationsFault → Type 0
Gives read show (Ok x) = read ≡ Ok (show x)
Gives read show (Err fault) = read ≡ Err fault

-- what the code keeps of an annotation as it is written
abbrev pub written_in : Written → WrittenTexts
written_in w = record {
  paths = w.paths;
  precedence = w.precedence.now;
  notices = w.notices;
  licences = w.licences;
}
