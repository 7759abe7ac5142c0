-- The lines of a script, and the request of each.
use Rattle.std.specs.Prelude.{◌≡◌, ℕ, ◌+◌, Bool, List, [], ◌∷◌, nat_lt, length, if◌then◌else◌}
use Rattle.std.specs.List.{list_all}
use Rattle.desk_base.specs.Limits.{line_bytes}
use Rattle.desk_base.specs.Lines.{IsLine, LineText}
use Rattle.desk_json.specs.Requests.{request_in}
use Rattle.desk_json.specs.declared.request.Request.{Request}
use Rattle.desk_json.specs.declared.request.Request.TheVariants.{BadCommand}
use Rattle.desk_base.specs.Bytes.{is_blank}

-- a line of only spaces and tabs, or of nothing
abbrev pub is_blank_line : List ℕ → Bool
is_blank_line text = list_all is_blank text

-- the request of a line; a line that is too long is no request
abbrev pub request_of : List ℕ → Request
request_of text = if nat_lt line_bytes (length text) then BadCommand else request_in text

-- a line that isn't blank has a request
abbrev pub request_at : List ℕ → List Request
request_at text = if is_blank_line text then [] else request_of text ∷ []

-- the requests of lines; a blank line has none
abbrev pub requests_of : List LineText → List Request
requests_of [] = []
requests_of (line ∷ lines) = if is_blank_line line.text then requests_of lines
    else request_of line.text ∷ requests_of lines

-- bytes begin with these lines, numbered from a number on, and a rest follows
abbrev pub BeginsWith : ℕ → List ℕ → List LineText → List ℕ → Type 0
BeginsWith number bytes [] rest = bytes ≡ rest
BeginsWith number bytes (line ∷ lines) rest =
    (more : List ℕ) × (line.number ≡ number) × IsLine bytes line.text line.end more
    × BeginsWith (number + 1) more lines rest
