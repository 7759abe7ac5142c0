use Rattle.std.proofs.Common.{◌≡◌, drop}
use Rattle.desk_json.specs.Forms.{form_named}
use Rattle.desk_json.proofs.forms.form_named.Given as goal

abbrev pub invariant-loop-name : goal.invariant-loop-name
invariant-loop-name l = form_named l.word (drop l.name-index l.names) ≡ form_named l.word l.names
