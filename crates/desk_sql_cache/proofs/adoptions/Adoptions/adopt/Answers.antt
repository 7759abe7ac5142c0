use Rattle.std.proofs.Common.{◌∙◌, ap, string_bytes, true, cond}
use Rattle.std.specs.BTreeSet.{contains_text}
use Rattle.std.specs.Str.{bytes_eq}
use Rattle.std.proofs.lemmas.Map.Text.{btree_set_updates_text}
use Rattle.desk_base.proofs.Bools.{cond_or}
use Rattle.desk_sql_cache.proofs.adoptions.Adoptions.adopt.Goals as goal

pub returns-clause-references : goal.returns-clause-references
returns-clause-references c = λ other.
    let old = c.args.self.now.references in
    btree_set_updates_text (string_bytes c.in_ok-key.key) old c.insert.new.self true
    c.in_ok-insert.ensures.updates other
    ∙ (ap (λ text. cond (bytes_eq text other) true (contains_text old other)) c.in_ok-key.ensures.ok
    ∙ cond_or (bytes_eq c.args.reference.now other) (contains_text old other))
