-- What is written of a text that several rows may have.
use Rattle.std.specs.Prelude.{ℕ, List, Some}
use Rattle.json.specs.Print.{escape}
use Rattle.desk_tree_reports.specs.declared.ways.Way.{Way}
use Rattle.desk_tree_reports.specs.declared.ways.Way.TheVariants as way
use Rattle.desk_tree_reports.specs.Items.{path_member, missing_front, missing_end}
use Rattle.desk_base.specs.Terminal.{shown}
use Rattle.desk_tree_problems.specs.Rows.{named_words}

-- the bytes that are written of the text in each of these ways
abbrev pub rendered : Way → List ℕ → List ℕ
rendered way.Line text = shown text
rendered way.Member text = path_member text
rendered way.NamedLine text = shown (named_words (Some text))
rendered way.NamedItem text = escape (named_words (Some text))
rendered way.Front text = missing_front
rendered way.End text = missing_end

-- a text, and the way in which it is written
pub record ShownText : Type 0 where
  pub way : Way
  pub text : List ℕ
