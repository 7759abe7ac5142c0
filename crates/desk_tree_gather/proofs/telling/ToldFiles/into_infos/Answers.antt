use Rattle.std.proofs.Common.{◌∙◌, map, ap, sym}
use Rattle.std.proofs.lemmas.Simd.{map-map}
use Rattle.desk_tree_gather.specs.declared.telling.Digested.{Digested}
use Rattle.desk_tree_gather.specs.declared.telling.ToldFile.{ToldFile}
use Rattle.desk_tree_gather.specs.Digests.{told_at}
use Rattle.desk_tree_infos.specs.Sharing.{info_at, infos_at}
use Rattle.desk_tree_gather.proofs.telling.ToldFiles.into_infos.Goals as goal

pub returns : goal.returns
returns c =
    let all = c.self.inside.annotations.items in
    let files = c.self.inside.files.items in
    c.of.ensures
    ∙ ap (infos_at all) c.in_ok-covered.ensures
    ∙ map-map (info_at all) (λ (f : Digested). f.info) files
    ∙ sym (map-map (λ (t : ToldFile). t.info) (told_at all) files)
    ∙ ap (map (λ (t : ToldFile). t.info)) c.self.view_is
