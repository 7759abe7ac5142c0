-- The value and the request of a text.
use Rattle.std.proofs.Common.{◌≡◌, ℕ, List, Option, Some, ap, IsUtf8}
use Rattle.std.specs.Prelude.{option_map, unwrap_or}
use Rattle.std.proofs.lemmas.Str.{is_utf8-from_IsUtf8}
use Rattle.serde_json.specs.Data.{Data}
use Rattle.serde_json.specs.Read.{read}
use Rattle.desk_json.specs.declared.request.Request.{Request}
use Rattle.desk_json.specs.declared.request.Request.TheVariants.{BadCommand}
use Rattle.desk_json.specs.Requests.{request_of, value_of, request_in}

value_of-json : (bytes : List ℕ) (d : Data) → IsUtf8 bytes → read bytes ≡ Some d
    → value_of bytes ≡ Some d
value_of-json bytes d utf8 is = rw (is_utf8-from_IsUtf8 bytes utf8) is

abbrev request_from : Option Data → Request
request_from d = unwrap_or (option_map request_of d) BadCommand

pub request_in-json : (bytes : List ℕ) (d : Data) → IsUtf8 bytes → read bytes ≡ Some d
    → request_in bytes ≡ request_of d
request_in-json bytes d utf8 is = ap request_from (value_of-json bytes d utf8 is)
