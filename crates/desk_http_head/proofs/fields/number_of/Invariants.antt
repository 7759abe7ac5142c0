-- the number so far, which has no more digits than were read
use Rattle.std.proofs.Common.{◌≡◌, ◌<◌, ◌^◌, drop}
use Rattle.desk_http_head.specs.Fields.{number_from}
use Rattle.desk_http_head.proofs.fields.number_of.Given as goal

abbrev pub invariant-loop-b : goal.invariant-loop-b
invariant-loop-b l = record {
  same : number_from l.n (drop l.b-index l.text) ≡ number_from 0 l.text;
  small : l.n < 10 ^ l.b-index;
}
