-- Rows as the items of a JSON array (RFC 8259).
use Rattle.std.specs.Prelude.{ℕ, List, ◌++◌, codes, decimal, Option, Some, None}
use Rattle.json.specs.Print.{quoted}
use Rattle.json.specs.Token.{Token, null, number}
use Rattle.serde_json.specs.Data.{Data, null as null_value, number as number_value, unsigned, string, object, no_members}
use Rattle.serde_json.specs.Data.{member}
use Rattle.serde_json.specs.Written.{compact_text}
use Rattle.desk_tree_problems.specs.declared.row.Row.{Row}
use Rattle.desk_tree_problems.specs.Rows.{kind_name}

-- the line of a row as a JSON value: `null` if the row is about no line
abbrev pub line_value : Option ℕ → Data
line_value None = null_value
line_value (Some line) = number_value (unsigned line)

-- a row as an object; its keys are in alphabetical order
abbrev pub row_value : Row → Data
row_value row = object
    (member (codes "kind") (string (kind_name row.kind))
    (member (codes "line") (line_value row.line)
    (member (codes "message") (string row.message)
    (member (codes "path") (string row.path) no_members))))

-- the object as it is printed, without blanks
unfoldable pub row_json : Row → List ℕ
row_json row = compact_text (row_value row)

-- the token of a line's number
abbrev pub line_token : Option ℕ → Token
line_token None = null
line_token (Some line) = number (decimal line)

-- the number of a line as it is printed
abbrev pub line_text : Option ℕ → List ℕ
line_text None = codes "null"
line_text (Some line) = decimal line

-- an item up to its path, and from there on
unfoldable pub row_front : Row → List ℕ
row_front row = codes "{\"kind\":" ++ (quoted (kind_name row.kind) ++ (codes ",\"line\":"
    ++ (line_text row.line ++ (codes ",\"message\":" ++ quoted row.message))))

-- the last member of an item, and the end of its object
unfoldable pub path_member : List ℕ → List ℕ
path_member path = codes ",\"path\":" ++ (quoted path ++ codes "}")

-- what stands before the licence and behind the last words in the item of a text that is missing, if
-- other items come before it
unfoldable pub missing_front : List ℕ
missing_front = codes ",{\"kind\":\"Missing\",\"line\":null,\"message\":\"no text of "

-- the same words behind the licence: the end of the message, and the path
unfoldable pub missing_end : List ℕ
missing_end = codes "\",\"path\":\"LICENSES/\"}"
