use Rattle.std.proofs.Common.{◌≡◌, ◌++◌, List, map, take}
use Rattle.desk_tree_infos.specs.declared.infos.FileInfo.{FileInfo}
use Rattle.desk_tree_infos.specs.declared.information.Subject.TheVariants.{Licences}
use Rattle.desk_tree_infos.specs.Firsts.{first_in, firsts_of}
use Rattle.desk_tree_lint.specs.Naming.{name_of}
use Rattle.desk_tree_lint.proofs.naming.add_parts.Given as goal

abbrev pub invariant-loop-place : goal.invariant-loop-place
invariant-loop-place l = (infos : List FileInfo)
    → map first_in l.firsts ≡ firsts_of Licences infos
    → l.names ++ map (name_of infos) l.part
    ≡ l.initial.names ++ map (name_of infos) (take l.place l.keys)
