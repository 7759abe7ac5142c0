-- What words spell is nested two deep at most.
use Rattle.std.proofs.Common.{◌≡◌, ◌≤◌, ◌+◌, ℕ, suc, Bool, true, false, List, [], ◌∷◌, Option}
use Rattle.std.proofs.Common.{Some, None, Ordering, Less, Equal, Greater, nat_cmp, refl, subst}
use Rattle.std.proofs.Common.{arith, cond, length}
use Rattle.std.specs.Prelude.{Result, Ok, Err, ◌==◌, is_some, if◌then◌else◌, codes}
use Rattle.std.specs.Prelude.{not, ◌||◌}
use Rattle.std.specs.Str.{bytes_eq}
use Rattle.std.specs.List.{list_any, position_or_len, slice_split}
use Rattle.std.specs.Cmp.Lexicographic.{slice_cmp}
use Rattle.std.specs.Ordering.{match_ordering}
use Rattle.serde_json.specs.Data.{Data, string, Members, no_members, member, put, items_depth}
use Rattle.serde_json.specs.Data.{members_depth, depth}
use Rattle.serde_json.specs.Find.{get_member}
use Rattle.desk_line.specs.Numbers.{number_written}
use Rattle.desk_assignments.specs.Values.{assigned_value, is_number_key, number_if, text_items}
use Rattle.desk_assignments.specs.Values.{text_list}
use Rattle.desk_assignments.specs.Words.{and_then, assignment, members_from, members_in, verb_key}
use Rattle.desk_assignments.specs.Words.{with_assignment, with_operand}
use Rattle.desk_assignments.specs.declared.line.WordsFault.{WordsFault}
use Rattle.desk_assignments.specs.declared.line.WordsFault.TheVariants as fault
use Rattle.desk_assignments.specs.declared.verb.Verb.{Verb}

-- if the first byte that passes is none of them, none passes
none_more : (b : Bool) (first more : ℕ) (any : Bool) → (first ≡ more → any ≡ false)
    → cond (not b) (1 + first) 0 ≡ suc more → (b || any) ≡ false
none_more true first more any behind none = absurd (omega arith)
none_more false first more any behind none = behind (omega arith)

pub none_at : (test : ℕ → Bool) (xs : List ℕ) → position_or_len test xs ≡ length xs
    → list_any test xs ≡ false
none_at test [] none = refl
none_at test (x ∷ xs) none = none_more (test x) (position_or_len test xs) (length xs)
    (list_any test xs) (none_at test xs) none

texts_are_flat : (texts : List (List ℕ)) → items_depth (text_items texts) ≡ 0
texts_are_flat [] = refl
texts_are_flat (text ∷ texts) = let flat = texts_are_flat texts in omega arith

number_is_flat : (found : Option ℕ) (text : List ℕ) → depth (number_if found text) ≡ 0
number_is_flat None text = refl
number_is_flat (Some n) text = refl

-- a value is a text, a number or a list of texts
list_or_text : (is : Bool) (text : List ℕ)
    → depth (if is then text_list text else string text) ≤ 1
list_or_text true text =
    let flat : items_depth (text_items (slice_split (λ b. b == 44) text)) ≡ 0 =
    texts_are_flat (slice_split (λ b. b == 44) text) in omega arith
list_or_text false text = omega arith

value_is_shallow : (is_number : Bool) (found : Option ℕ) (is_list : Bool) (text : List ℕ)
    → depth (if is_number then number_if found text else if is_list then text_list text
    else string text) ≤ 1
value_is_shallow true found is_list text =
    let flat = number_is_flat found text in omega arith
value_is_shallow false found is_list text = list_or_text is_list text

put_at : (o : Ordering) (a b c : Members) → members_depth a ≤ 1 → members_depth b ≤ 1
    → members_depth c ≤ 1 → members_depth (match_ordering o a b c) ≤ 1
put_at Less a b c low-a low-b low-c = low-a
put_at Equal a b c low-a low-b low-c = low-b
put_at Greater a b c low-a low-b low-c = low-c

put_is_shallow : (k : List ℕ) (d : Data) (ms : Members) → depth d ≤ 1 → members_depth ms ≤ 1
    → members_depth (put k d ms) ≤ 1
put_is_shallow k d no_members low so_far = omega arith
put_is_shallow k d (member l e ms) low so_far =
    put_at (slice_cmp nat_cmp k l) (member k d (member l e ms)) (member l d ms)
    (member l e (put k d ms)) (omega arith) (omega arith)
    (let behind = put_is_shallow k d ms low (omega arith) in omega arith)

-- each list of members that is made has values that are so
abbrev IsShallow : Result Members WordsFault → Type 0
IsShallow (Ok ms) = members_depth ms ≤ 1
IsShallow (Err why) = 0 ≤ 1

with_is_shallow : (there : Bool) (place : ℕ) (k : List ℕ) (d : Data) (ms : Members)
    → depth d ≤ 1 → members_depth ms ≤ 1
    → IsShallow (if there then Err (fault.Repeated place) else Ok (put k d ms))
with_is_shallow true place k d ms low so_far = omega arith
with_is_shallow false place k d ms low so_far = put_is_shallow k d ms low so_far

assignment_is_shallow : (place : ℕ) (ms : Members) (a : Option (List ℕ × List ℕ))
    → members_depth ms ≤ 1 → IsShallow (with_assignment place ms a)
assignment_is_shallow place ms None so_far = omega arith
assignment_is_shallow place ms (Some a) so_far =
    with_is_shallow (is_some (get_member a.0 ms)) place a.0 (assigned_value a.0 a.1) ms
    (value_is_shallow (is_number_key a.0) (number_written 64 a.1) (bytes_eq a.0 (codes "terms")) a.1)
    so_far

then_is_shallow : (with : Result Members WordsFault)
    (next : Members → Result Members WordsFault)
    → ((ms : Members) → members_depth ms ≤ 1 → IsShallow (next ms)) → IsShallow with
    → IsShallow (and_then with next)
then_is_shallow (Ok ms) next behind so_far = behind ms so_far
then_is_shallow (Err why) next behind so_far = omega arith

from_is_shallow : (place : ℕ) (ms : Members) (operands : List (List ℕ)) → members_depth ms ≤ 1
    → IsShallow (members_from place ms operands)
from_is_shallow place ms [] so_far = so_far
from_is_shallow place ms (operand ∷ more) so_far =
    then_is_shallow (with_operand place ms operand) (λ with. members_from (place + 1) with more)
    (λ with low. from_is_shallow (place + 1) with more low)
    (assignment_is_shallow place ms (assignment operand) so_far)

pub words_are_shallow : (v : Verb) (word : List ℕ) (operands : List (List ℕ)) (ms : Members)
    → members_in v word operands ≡ Ok ms → members_depth ms ≤ 1
words_are_shallow v word operands ms is = subst IsShallow is
    (from_is_shallow 0 (put (verb_key v) (string word) no_members) operands (omega arith))
