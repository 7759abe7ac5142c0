-- Members by their names, and the data that they represent.
use Rattle.std.proofs.Common.{◌≡◌, ℕ, List, [], ◌∷◌, length, Option, Some, None, option_map, String}
use Rattle.std.proofs.Common.{Global, Ordering, Less, Equal, Greater, string_bytes, string_cmp}
use Rattle.std.proofs.Common.{nat_cmp, is_eq, cond, suc, Bor, refl, ap, ◌∙◌}
use Rattle.std.specs.Cmp.Lexicographic.{slice_cmp}
use Rattle.std.specs.Map.{lookup}
use Rattle.std.specs.Ordering.{match_ordering}
use Rattle.std.specs.BTreeMap.{insert_entry, is_at}
use Rattle.serde_json.specs.Data.{Data, put}
use Rattle.serde_json.specs.Events.{members_len}
use Rattle.serde_json.specs.Find.{get_member}
use Rattle.desk_json_object.specs.Seen.{member_seen, members_seen}
use Rattle.desk_json_object.specs.declared.members.Member.{Member}

abbrev Entry : Type 0
Entry = String Global × Member

members_seen-match_ordering : (o : Ordering) (a b c : List Entry)
    → members_seen (match_ordering o a b c) ≡ match_ordering o (members_seen a) (members_seen b)
    (members_seen c)
members_seen-match_ordering Less a b c = refl
members_seen-match_ordering Equal a b c = refl
members_seen-match_ordering Greater a b c = refl

pub members_seen-insert_entry : (es : List Entry) (k : String Global) (m : Member)
    → members_seen (insert_entry string_cmp es k m) ≡ put (string_bytes k) (member_seen m)
    (members_seen es)
members_seen-insert_entry [] k m = refl
members_seen-insert_entry (e ∷ es) k m = members_seen-match_ordering (string_cmp k e.0) _ _ _
    ∙ rw (members_seen-insert_entry es k m)

pub len_seen : (es : List Entry) → members_len (members_seen es) ≡ length es
len_seen [] = refl
len_seen (e ∷ es) = ap suc (len_seen es)

found_or : (o : Ordering) (m : Member) (rest : Option Member) (d : Option Data)
    → option_map member_seen rest ≡ d
    → option_map member_seen (cond (is_eq o) (Some m) rest) ≡ match_ordering o d
    (Some (member_seen m)) d
found_or Less m rest d e = e
found_or Equal m rest d e = refl
found_or Greater m rest d e = e

pub found : (name : List ℕ) (es : List Entry)
    → option_map member_seen (lookup (is_at (λ k. slice_cmp nat_cmp name (string_bytes k))) es) ≡
    get_member name (members_seen es)
found name [] = refl
found name (e ∷ es) = found_or (slice_cmp nat_cmp name (string_bytes e.0)) e.1 _ _ (found name es)

pub seen_of_ref : (r : Option (Bor Member))
    → option_map (λ m. member_seen m.now) r ≡ option_map member_seen (option_map (λ m. m.now) r)
seen_of_ref None = refl
seen_of_ref (Some m) = refl
