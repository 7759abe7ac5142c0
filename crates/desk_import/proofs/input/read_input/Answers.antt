use Rattle.desk_import.proofs.InputLemmas.{read_up_to}
use Rattle.desk_import.proofs.input.read_input.Goals as goal

pub returns-clause-read : goal.returns-clause-read
returns-clause-read g c = read_up_to g.R.Read.remaining c.take.result c.args.reader _ _
    c.take.ensures.limit c.take.ensures.inner c.new-bytes.ensures.items
    c.in_ok-read_to_end.ensures.bytes
