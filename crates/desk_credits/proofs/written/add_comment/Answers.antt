use Rattle.std.proofs.Common.{◌≡◌, ◌∙◌, ℕ, List, ◌++◌, Ok, Err, IsUtf8, subst}
use Rattle.std.specs.Prelude.{Result, if◌then◌else◌}
use Rattle.std.specs.Result.{OnOk, is_ok}
use Rattle.std.proofs.lemmas.Result.{on_ok_weaker}
use Rattle.desk_credits.proofs.CommentLemmas.{comment_added, still_utf8}
use Rattle.desk_credits.proofs.written.add_comment.Goals as goal

appended : {T E : Type 0} (r : Result T E) (new all behind : List ℕ)
    → new ≡ (if is_ok r then all ++ behind else all) → OnOk r (new ≡ all ++ behind)
appended (Ok done) new all behind is = is
appended (Err fault) new all behind is = tt

pub returns-clause-added : goal.returns-clause-added
returns-clause-added c = on_ok_weaker c.extend_from_slice-2.result
    (comment_added c.args.place.now c.args.bytes.now.items c.extend_from_slice.new.self.items
    c.add_shown.new.bytes.items c.extend_from_slice-2.new.self.items c.as_str.result.now
    c.as_bytes.result.now c.in_ok-extend_from_slice.ensures.items c.in_ok-add_shown.ensures
    c.as_str.ensures (c.as_bytes.ensures.value ∙ c.as_str-2.ensures.value ∙ c.in_ok-behind.ensures.ok))
    (appended c.extend_from_slice-2.result c.extend_from_slice-2.new.self.items
    c.add_shown.new.bytes.items c.as_bytes.result.now c.extend_from_slice-2.ensures.items)

pub returns-clause-utf8 : goal.returns-clause-utf8
returns-clause-utf8 c utf8 = on_ok_weaker c.extend_from_slice-2.result
    (still_utf8 c.args.place.now c.args.bytes.now.items c.extend_from_slice-2.new.self.items
    c.as_str-2.result.now utf8 (subst IsUtf8 c.as_str.ensures c.as_str.utf8) c.as_str-2.utf8
    (c.as_str-2.ensures.value ∙ c.in_ok-behind.ensures.ok))
    (returns-clause-added c)
