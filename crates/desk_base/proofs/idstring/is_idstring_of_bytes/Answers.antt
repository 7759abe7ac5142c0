use Rattle.std.proofs.Common.{rules}
use Rattle.std.specs.Bool.{Decides}
use Rattle.std.proofs.lemmas.Bool.Decides.{same_from_decides}
use Rattle.desk_base.specs.Idstring.{IsIdstring}
use Rattle.desk_base.proofs.IdstringLemmas.{is_idstring-Decides}
use Rattle.desk_base.proofs.idstring.is_idstring_of_bytes.Goals as goal

pub returns-then-not-is_empty-clause-test : goal.returns-then-not-is_empty-clause-test
returns-then-not-is_empty-clause-test c =
    let means : Decides c.all.result (IsIdstring c.args.bytes.now) = search rules in
    same_from_decides _ _ means (is_idstring-Decides c.args.bytes.now)
