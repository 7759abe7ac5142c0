use Rattle.std.proofs.Common.{ap}
use Rattle.desk_tree_gather.specs.Gathering.{gathered}
use Rattle.desk_tree_gather.specs.Survey.{flaws_of, infos_sifted, kept}
use Rattle.desk_laws.proofs.trees.each_tree_is_gathered_once.Goals as goal

pub returns : goal.returns
returns c =
    let one = c.right_reader_exists.ensures in
    record {
      gathering = λ files. (
        gathered one.0 files,
        λ r right. ap (λ s. gathered s files) (c.one_reader.ensures r one.0 right one.1),
      );
      survey = λ files. (
        flaws_of one.0 files,
        infos_sifted one.0 (kept files),
        λ r right. (
          ap (λ s. flaws_of s files) (c.one_reader.ensures r one.0 right one.1),
          ap (λ s. infos_sifted s (kept files)) (c.one_reader.ensures r one.0 right one.1),
        ),
      );
    }
