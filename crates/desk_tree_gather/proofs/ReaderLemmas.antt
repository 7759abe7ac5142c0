-- There is only one right reader.
use Rattle.std.proofs.Common.{◌≡◌, ℕ, Bool, List}
use Rattle.std.specs.Bool.{Decides}
use Rattle.std.proofs.lemmas.Bool.Decides.{same_from_decides}
use Rattle.desk_tree_patterns.specs.declared.glob.Piece.{Piece}
use Rattle.desk_tree_patterns.specs.Glob.{IsMatch}
use Rattle.desk_tree_annotations.specs.Tags.{IsInfo}
use Rattle.desk_tree_annotations.proofs.TagOnce.{info_once}
use Rattle.desk_tree_annotations.proofs.RightLemmas.{same_reading, same_test}
use Rattle.desk_tree_annotations.specs.Right.{Tells}
use Rattle.desk_tree_infos.specs.Readers.{Reader, IsRightReader, Stated}

pub same_match : (r : Reader) → IsRightReader r → (pieces : List Piece) (path : List ℕ) (b : Bool)
    → Decides b (IsMatch pieces path) → b ≡ r.matches pieces path
same_match r right pieces path b tells = same_from_decides b (r.matches pieces path) tells
    (right.matching pieces path)

pub same_stated : (r : Reader) → IsRightReader r → (file : List ℕ) (s : Stated)
    → IsInfo file s.notices s.licences → r.stated file ≡ s
same_stated r right file s is =
    let same = info_once file (r.stated file).notices (r.stated file).licences s.notices s.licences
    (right.stating file) is in
    λ i. record { notices = same.0 i; licences = same.1 i }

pub same_expression : (r : Reader) → IsRightReader r → (text : List ℕ) (b : Bool) → Tells text b
    → r.reading.is_expression text ≡ b
same_expression r right text b tells = same_test r.reading right.reading text b tells

pub same_reader : (r s : Reader) → IsRightReader r → IsRightReader s → r ≡ s
same_reader r s right other = λ i. record {
  reading = same_reading r.reading s.reading right.reading other.reading i;
  matches = λ pieces path. same_match s other pieces path (r.matches pieces path)
      (right.matching pieces path) i;
  stated = λ file. same_stated r right file (s.stated file) (other.stating file) i;
}
