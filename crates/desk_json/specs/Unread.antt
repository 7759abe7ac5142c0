-- What a reader of members returns, or why it returns nothing.
use Rattle.std.specs.Prelude.{◌≡◌, ⊤, IsSome, Option, Some, None, Result, Ok, Err}
use Rattle.desk_json.specs.declared.fields.Unread.{Unread}
use Rattle.desk_json.specs.declared.fields.Unread.TheVariants as why
use Rattle.desk_json.specs.declared.request.Request.{Request}
use Rattle.desk_json.specs.declared.request.Request.TheVariants.{BadCommand}

-- the request, or none if it isn't one; if there is no memory, this says nothing
abbrev pub IsRead : Request → Result Request Unread → Type 0
IsRead request (Ok read) = read ≡ request
IsRead request (Err why.BadCommand) = request ≡ BadCommand
IsRead request (Err why.Memory) = ⊤

-- what is there, if anything is; memory is only wanted for what is there
abbrev pub IsFound : {X : Type 0} → Option X → Result X Unread → Type 0
IsFound found (Ok x) = found ≡ Some x
IsFound found (Err why.BadCommand) = found ≡ None
IsFound found (Err why.Memory) = IsSome found
