use Rattle.std.proofs.Common.{◌≡◌, ◌++◌, take}
use Rattle.std.specs.List.{flat_map}
use Rattle.std.specs.String.{string_bytes}
use Rattle.desk_report.specs.Notices.{text_notice}
use Rattle.desk_report.proofs.notice.add_texts.Given as goal

-- each text before the index
abbrev pub invariant-loop-given : goal.invariant-loop-given
invariant-loop-given l = string_bytes l.text ≡ string_bytes l.initial.text
    ++ flat_map text_notice (take l.given-index l.texts)
