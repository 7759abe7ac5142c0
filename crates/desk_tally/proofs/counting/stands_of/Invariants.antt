use denote.Shadow.{shadow}
use denote.Text.{Utf8}
use Rattle.std.proofs.Common.{◌≡◌, ◌++◌, map, drop}
use Rattle.std.specs.Prelude.{unwrap_or}
use Rattle.desk_tally.specs.Kept.{place_found, stand_of}
use Rattle.desk_tally.proofs.counting.stands_of.Given as goal

abbrev pub invariant-loop-duty : goal.invariant-loop-duty
invariant-loop-duty l = record {
  text : shadow (Utf8 l.last);
  at : l.place ≡ unwrap_or (place_found l.releases l.last) 0;
  stands : l.stands.items ++ map (stand_of l.releases) (drop l.duty-index l.duties)
      ≡ map (stand_of l.releases) l.duties;
}
