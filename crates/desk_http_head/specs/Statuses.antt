-- The statuses of replies (RFC 9110, section 15).
use Rattle.std.specs.Prelude.{ℕ, List, codes}
use Rattle.desk_http_head.specs.declared.status.Status.{Status}
use Rattle.desk_http_head.specs.declared.status.Status.TheVariants as status

-- the number of a status and its reason
abbrev pub status_line : Status → List ℕ
status_line status.Ok = codes "200 OK"
status_line status.BadRequest = codes "400 Bad Request"
status_line status.Forbidden = codes "403 Forbidden"
status_line status.NotFound = codes "404 Not Found"
status_line status.Conflict = codes "409 Conflict"
status_line status.ContentTooLarge = codes "413 Content Too Large"
status_line status.UnprocessableContent = codes "422 Unprocessable Content"
status_line status.InternalServerError = codes "500 Internal Server Error"
status_line status.NotImplemented = codes "501 Not Implemented"
status_line status.ServiceUnavailable = codes "503 Service Unavailable"
