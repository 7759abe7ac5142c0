use Rattle.std.proofs.Common.{◌≡◌, ◌∙◌, ℕ, List, rules, map, length, sym, ap}
use Rattle.std.specs.Prelude.{unwrap_or}
use Rattle.std.proofs.lemmas.List.{length-map}
use denote.Ref.{Bor}
use Rattle.desk_fill.proofs.SubjectLemmas.{place_or_length}
use Rattle.desk_fill.specs.Subjects.{Entry, is_of}
use Rattle.desk_fill.proofs.index.Index.place.Goals as goal

pub returns : goal.returns
returns c entries has =
    let texts = c.args.self.now.texts.items in
    let long : c.len.result ≡ length texts = search rules in
    let count : length texts ≡ length (map (λ (e : Entry). e.0) entries) =
    sym (length-map texts (λ (t : Bor (List ℕ)). t.now)) ∙ ap length has.texts
    ∙ length-map entries (λ (e : Entry). e.1) ∙ sym (length-map entries (λ (e : Entry). e.0)) in
    c.unwrap_or.ensures
    ∙ (λ i. unwrap_or ((c.copied.ensures ∙ c.get.ensures.value ∙ has.firsts c.args.subject.now) i)
    ((long ∙ count) i))
    ∙ place_or_length (is_of c.args.subject.now) (map (λ (e : Entry). e.0) entries)
