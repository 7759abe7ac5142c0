use Rattle.std.proofs.Common.{◌≡◌, drop, map}
use Rattle.desk_credits.specs.Notices.{IsKnown, stated_notice, with_notices}
use Rattle.desk_credits.proofs.notices.Known.add_stated.Given as goal

-- those so far, with the rest, are all
abbrev pub invariant-loop-text : goal.invariant-loop-text
invariant-loop-text l = IsKnown l.self
    × (with_notices l.self.notices.items (map stated_notice (drop l.text-index l.texts))
    ≡ with_notices l.initial.self.notices.items (map stated_notice l.texts))
