use Rattle.std.proofs.Common.{◌≡◌, ◌++◌, take}
use Rattle.std.specs.List.{flat_map}
use Rattle.std.specs.String.{string_bytes}
use Rattle.desk_page.specs.Page.{notice}
use Rattle.desk_page.proofs.html.add_texts.Given as goal

-- a notice for each text before the index
abbrev pub invariant-loop-given : goal.invariant-loop-given
invariant-loop-given l = string_bytes l.text ≡ string_bytes l.initial.text
    ++ flat_map notice (take l.given-index l.texts)
