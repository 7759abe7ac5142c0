-- What a release holds for a package, in terms of expressions.
use Rattle.std.specs.Prelude.{◌≡◌, ℕ, List, find, Some}
use Rattle.desk_expr.specs.declared.term.Term.{Term}
use Rattle.desk_expr.specs.Meaning.{IsMinimal}
use Rattle.desk_expr.specs.Tree.{Tree}
use Rattle.desk_model.specs.Answers.{conclusion}
use Rattle.desk_model.specs.History.{packages}
use Rattle.desk_model.specs.Keys.{is_package}
use Rattle.desk_model.specs.Readings.{Readings}
use Rattle.desk_model.specs.declared.command.Command.{Command}
use Rattle.desk_model.specs.declared.reading.Conclusion.{Conclusion}
use Rattle.desk_model.specs.declared.row.PackageRow.{PackageRow}
use Rattle.desk_texts.specs.Expressions.{IsExpression}
use Rattle.desk_texts.specs.Terms.{AreTerms}

-- Texts that are held for a package after these commands: the package has a conclusion now, its
-- text spells a tree, and the texts spell terms that are, as a set, minimal for it.
pub record AreMinimalFor (w : Readings) (h : List Command) (d : ℕ) (p : List ℕ)
    (held : List (List ℕ)) : Type 0 where
  pub row : PackageRow
  pub concluded : Conclusion
  pub tree : Tree
  pub terms : List Term
  pub has : find (is_package d p) (packages w h) ≡ Some row
  pub concludes : conclusion w h row ≡ Some concluded
  pub expression : IsExpression concluded.profile concluded.text tree
  pub spelled : AreTerms held terms
  pub minimal : IsMinimal terms tree
