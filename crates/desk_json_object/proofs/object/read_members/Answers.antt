use Rattle.std.proofs.Common.{◌≡◌, ℕ, ◌-◌, ◌<◌, ◌≤◌, List, length, Some, None, refl, sym, ◌∙◌}
use Rattle.std.proofs.Common.{arith}
use Rattle.json.specs.Json.{read_key}
use Rattle.json.proofs.Grammar.{read_key-shorter}
use Rattle.json.specs.Token.{Token}
use Rattle.serde_json.specs.Data.{Data, Members, no_members, put}
use Rattle.serde_json.specs.Events.{members_len}
use Rattle.desk_json_object.specs.Seen.{member_seen, members_seen}
use Rattle.desk_json_object.specs.Spared.{spared, spared_members}
use Rattle.desk_json_object.specs.Taken.{data_at, members_at}
use Rattle.desk_json_object.proofs.Sparing.{kept_on, kept_len, too_many}
use Rattle.desk_json_object.proofs.Taking.{key_refused, member_refused, members_ended, member_taken}
use Rattle.desk_json_object.proofs.Taking.{members_in}
use Rattle.desk_json_object.proofs.object.read_members.Goals as goal

-- one more member comes to those found before it
one_more : (n : ℕ) (found : Members) (key : List ℕ) (ts inner left : List Token) (d seen : Data)
    (kept more : Members) → length ts ≤ n → read_key ts ≡ Some (Some key, inner)
    → data_at 126 inner ≡ Some (d, left) → spared_members found ≡ kept → spared d ≡ seen
    → more ≡ put key seen kept
    → (members_in found 126 n ts ≡ members_in (put key d found) 126 (n - 1) left)
    × (spared_members (put key d found) ≡ more)
    × (members_len (put key d found) ≡ members_len more)
one_more n found key ts inner left d seen kept more few named is same shown grown =
    let less = read_key-shorter ts (Some key) inner named in
    let spares = kept_on key d seen found kept same shown ∙ sym grown in (
      member_taken 126 n found key ts inner left d (omega (arith, less, few)) named is,
      spares,
      kept_len (put key d found) more spares,
    )

pub members-init : goal.members-init
members-init c = (
  length c.args.reader.now,
  omega arith,
  no_members,
  refl,
  sym c.new-found.ensures,
  omega arith,
  omega arith,
)

pub returns-in_err-name-clause-err : goal.returns-in_err-name-clause-err
returns-in_err-name-clause-err c = λ refused ms rest is.
    let l = c.members in
    let none : members_at no_members 126 c.args.reader.now ≡ None = l.invariant.3
    ∙ key_refused 126 l.invariant.0 l.invariant.2 l.reader c.in_err-name.ensures.value in
    absurd (cc)

pub returns-in_err-member-clause-err : goal.returns-in_err-member-clause-err
returns-in_err-member-clause-err c = λ refused ms rest is.
    let l = c.members in
    let key = c.in-Some.name.now in
    let named : read_key l.reader ≡ Some (Some key, c.next_key.new.self) = grind arith in
    let none : members_at no_members 126 c.args.reader.now ≡ None = l.invariant.3
    ∙ member_refused 126 l.invariant.0 l.invariant.2 key l.reader c.next_key.new.self named
    (c.in_err-member.ensures.err (grind arith)) in
    absurd (cc)

pub returns-then-len-most-clause-err : goal.returns-then-len-most-clause-err
returns-then-len-most-clause-err c = λ refused ms rest is.
    let l = c.members in
    let key = c.in-Some.name.now in
    let named : read_key l.reader ≡ Some (Some key, c.next_key.new.self) = grind arith in
    let taken = c.in_ok-member.ensures.ok in
    let more = one_more l.invariant.0 l.invariant.2 key l.reader c.next_key.new.self
    c.read_member.new.reader taken.0 (member_seen c.in_ok-member.member)
    (members_seen l.found.members.entries) (members_seen c.put.new.self.members.entries)
    l.invariant.1 named taken.1 l.invariant.4 taken.2 c.in_ok-put.ensures in
    let full : c.args.most < members_len (put key taken.0 l.invariant.2) =
    omega (arith, more.2, c.len.ensures, c.if-len-most.true) in
    too_many c.args.most 126 (l.invariant.0 - 1) c.read_member.new.reader rest
    (put key taken.0 l.invariant.2) ms full (sym (l.invariant.3 ∙ more.0) ∙ is)

pub members-preserved : goal.members-preserved
members-preserved c =
    let l = c.members in
    let key = c.in-Some.name.now in
    let inner = c.next_key.new.self in
    let named : read_key l.reader ≡ Some (Some key, inner) = grind arith in
    let taken = c.in_ok-member.ensures.ok in
    let less = read_key-shorter l.reader (Some key) inner named in
    let lesser = c.in_ok-member.ensures.left in
    let more = one_more l.invariant.0 l.invariant.2 key l.reader inner c.read_member.new.reader
    taken.0 (member_seen c.in_ok-member.member) (members_seen l.found.members.entries)
    (members_seen c.put.new.self.members.entries) l.invariant.1 named taken.1 l.invariant.4 taken.2
    c.in_ok-put.ensures in (
      l.invariant.0 - 1,
      omega (arith, l.invariant.1),
      put key taken.0 l.invariant.2,
      l.invariant.3 ∙ more.0,
      more.1,
      omega (arith, more.2, c.len.ensures, c.if-len-most.false),
      omega (arith, l.invariant.6),
    )

pub returns-clause-ok : goal.returns-clause-ok
returns-clause-ok c =
    let l = c.members in (
      l.invariant.2,
      l.invariant.3
          ∙ members_ended 126 l.invariant.0 l.invariant.2 l.reader c.next_key.new.self l.invariant.1
          (grind arith),
      l.invariant.5,
      l.invariant.4,
    )
