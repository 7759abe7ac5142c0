use Rattle.std.proofs.Common.{◌≡◌, ◌++◌, take, map}
use Rattle.std.specs.List.{flat_map}
use Rattle.desk_tree_infos.specs.Readers.{Reader, IsRightReader}
use Rattle.desk_tree_gather.specs.Blanks.{blanks_of}
use Rattle.desk_tree_gather.specs.Survey.{toml_sifted, toml_flaws}
use Rattle.desk_tree_infos.specs.Tomls.{tomls_in}
use Rattle.desk_tree_gather.specs.Shown.{files_of}
use Rattle.desk_tree_gather.proofs.surveying.tomls_sifted.Given as goal

abbrev pub invariant-loop-file : goal.invariant-loop-file
invariant-loop-file l = record {
  tomls : (r : Reader) → IsRightReader r
      → tomls_in l.tomls.items ≡ map (toml_sifted r) (files_of (take l.file-index l.files));
  flaws : (r : Reader) → IsRightReader r
      → l.flaws ≡ l.initial.flaws ++ flat_map (toml_flaws r) (files_of (take l.file-index l.files));
  blanks : (r : Reader) → IsRightReader r → l.blanks
      ≡ l.initial.blanks ++ flat_map (blanks_of r.reading) (files_of (take l.file-index l.files));
}
