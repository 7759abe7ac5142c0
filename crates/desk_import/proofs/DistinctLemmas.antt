-- The different texts of a list are counted by a set of those before.
use Rattle.std.proofs.Common.{◌≡◌, ◌∙◌, ℕ, ◌+◌, ◌<◌, Bool, true, false, List, [], ◌∷◌, length, get_or}
use Rattle.std.proofs.Common.{drop, ap, arith}
use Rattle.std.specs.Prelude.{not, ◌||◌, if◌then◌else◌}
use Rattle.std.specs.Str.{bytes_eq}
use Rattle.std.specs.BTreeSet.{BTreeSet, UpdatesBy, btree_set_len}
use Rattle.std.proofs.lemmas.List.{drop_more}
use denote.Ref.{Bor}
use Rattle.desk_base.specs.Borrowed.{texts, borrowed_cmp}
use Rattle.desk_base.specs.TextSets.{IsSetOf, has_text, is_among}
use Rattle.desk_base.proofs.SetLemmas.{one_more}
use Rattle.desk_import.specs.Elsewhere.{count_new, if_new}

-- the set has the texts so far, and the new ones of what is left are those that it still lacks
pub record Counts (listed : List (Bor (List ℕ))) (i : ℕ)
    (seen : BTreeSet (Bor (List ℕ))) : Type 0 where
  pub before : List (List ℕ)
  pub has : IsSetOf before seen
  pub all : btree_set_len seen + count_new before (texts (drop i listed))
      ≡ count_new [] (texts listed)

if_added : (added among : Bool) → added ≡ not among
    → ◌≡◌ {A = ℕ} (if added then 1 else 0) (if among then 0 else 1)
if_added added true is = ap (λ (b : Bool). if b then 1 else 0) is
if_added added false is = ap (λ (b : Bool). if b then 1 else 0) is

pub counted : (listed : List (Bor (List ℕ))) (i : ℕ) (v : Bor (List ℕ))
    (old new : BTreeSet (Bor (List ℕ))) (added : Bool) → i < length listed
    → added ≡ not (has_text old (get_or listed i v).now)
    → UpdatesBy borrowed_cmp (borrowed_cmp (get_or listed i v)) old new true
    → btree_set_len new ≡ btree_set_len old + (if added then 1 else 0) → Counts listed i old
    → Counts listed (i + 1) new
counted listed i v old new added lt is updates grown before =
    let x = (get_or listed i v).now in
    let rest = texts (drop (i + 1) listed) in
    let cut : count_new before.before (texts (drop i listed))
    ≡ if_new before.before x + count_new (x ∷ before.before) rest =
    ap (λ l. count_new before.before (texts l)) (drop_more listed i v lt) in
    let one : ◌≡◌ {A = ℕ} (if added then 1 else 0) (if_new before.before x) =
    if_added added (is_among before.before x) (is ∙ ap not (before.has x)) in
    let all = before.all in
    record {
      before = x ∷ before.before;
      has = λ q. one_more (get_or listed i v) old new updates q
          ∙ ap (λ b. bytes_eq x q || b) (before.has q);
      all = omega arith;
    }
