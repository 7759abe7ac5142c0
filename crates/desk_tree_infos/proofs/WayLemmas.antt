-- The folders on the way to a path.
use Rattle.std.proofs.Common.{◌≡◌, ◌≢◌, ◌∙◌, ◌+◌, ◌-◌, ◌<◌, ◌==◌, ℕ, Bool, true, false, cond, List}
use Rattle.std.proofs.Common.{[], ◌∷◌, ◌++◌, length, take, drop, map, get_or, sym, ap, refl, arith}
use Rattle.std.proofs.Math.Seq.{take-append_seam}
use Rattle.std.proofs.lemmas.Bool.Decides.{nat_tests}
use Rattle.std.proofs.lemmas.Simd.{map-map}
use Rattle.std.proofs.lemmas.List.{append_assoc, length-append, map-append, take-map, drop_more}
use Rattle.std.specs.Prelude.{Option, Some, None, option_and_then, option_to_list}
use Rattle.std.specs.List.{cons_option, filter_map, slice_get}
use Rattle.std.proofs.lemmas.List.Elements.{filter_map-append}
use Rattle.desk_tree_infos.specs.Readers.{Reader}
use Rattle.desk_tree_infos.specs.Tomls.{TomlText, annotations_in}
use Rattle.desk_tree_infos.specs.Information.{rests, last_covering, counting_in, counting}
use Rattle.desk_tree_infos.specs.Ways.{way, ways, Shares, lists_of, first_or, behind_slash}
use Rattle.desk_tree_annotations.specs.declared.annotation.Annotation.{Annotation}
use Rattle.desk_tree_infos.specs.Sharing.{annotations_at}
use Rattle.desk_tree_infos.proofs.SharingLemmas.{annotations_at-option}
use denote.Ref.{Bor}

-- the folders in the rest of a path, after what is done of it
abbrev pub ways_from : List ℕ → List ℕ → List (List ℕ)
ways_from done [] = []
ways_from done (b ∷ bs) = cond (b == 47) ((done ++ b ∷ []) ∷ ways_from (done ++ b ∷ []) bs)
    (ways_from (done ++ b ∷ []) bs)

-- the folder before a rest
pub way_before : (done rest : List ℕ) → way (done ++ rest) rest ≡ done
way_before done rest =
    let size : length (done ++ rest) - length rest ≡ length done = let added =
    length-append done rest in omega (arith, added) in
    ap (λ n. take n (done ++ rest)) size ∙ take-append_seam done rest

map_cond : {A B : Type 0} (f : A → B) (t : Bool) (x : A) (xs : List A)
    → map f (cond t (x ∷ xs) xs) ≡ cond t (f x ∷ map f xs) (map f xs)
map_cond f true x xs = refl
map_cond f false x xs = refl

pub ways_from-are : (path done rest : List ℕ) → path ≡ done ++ rest
    → map (way path) (rests rest) ≡ ways_from done rest
ways_from-are path done [] is = refl
ways_from-are path done (b ∷ bs) is =
    let on : path ≡ (done ++ b ∷ []) ++ bs = is ∙ sym (append_assoc done (b ∷ []) bs) in
    let first : way path bs ≡ done ++ b ∷ [] = ap (λ p. way p bs) on
    ∙ way_before (done ++ b ∷ []) bs in
    map_cond (way path) (b == 47) bs (rests bs)
    ∙ (λ i. cond (b == 47) (first i ∷ ways_from-are path (done ++ b ∷ []) bs on i)
    (ways_from-are path (done ++ b ∷ []) bs on i))

-- all of them: the root, and those in the path
pub ways-are : (path : List ℕ) → ways path ≡ [] ∷ ways_from [] path
ways-are path = λ i. way_before [] path i ∷ ways_from-are path [] path refl i

-- ---- what two paths share

-- so far: the part of both that is done, and the folders in it
pub record IsShared (before path old new rest : List ℕ) (folders : ℕ) : Type 0 where
  pub done : List ℕ
  pub both : List (List ℕ)
  pub in_before : before ≡ done ++ old
  pub in_path : path ≡ done ++ new
  pub many : length both ≡ folders
  pub to_before : ways before ≡ both ++ ways_from done old
  pub to_path : ways path ≡ both ++ ways_from done new
  pub behind : rests rest ≡ rests new

pub shared-start : (before path : List ℕ) → IsShared before path before path path 1
shared-start before path = record {
  done = [];
  both = [] ∷ [];
  in_before = refl;
  in_path = refl;
  many = refl;
  to_before = ways-are before;
  to_path = ways-are path;
  behind = refl;
}

no_eqb : (b : ℕ) → b ≢ 47 → (b == 47) ≡ false
no_eqb b isnt = grind (arith, nat_tests)

module _ (before path old new behind after rest : List ℕ) (b folders : ℕ) (one : old ≡ b ∷ behind)
    (other : new ≡ b ∷ after) (so_far : IsShared before path old new rest folders) where
  abbrev next : List ℕ
  next = so_far.done ++ b ∷ []

  on : (whole part more : List ℕ) → whole ≡ so_far.done ++ part → part ≡ b ∷ more
      → whole ≡ next ++ more
  on whole part more in_whole is = in_whole ∙ ap (λ l. so_far.done ++ l) is
      ∙ sym (append_assoc so_far.done (b ∷ []) more)

  to_slash : (whole part more : List ℕ) → whole ≡ so_far.done ++ part → part ≡ b ∷ more
      → (b == 47) ≡ true → ways whole ≡ so_far.both ++ ways_from so_far.done part
      → ways whole ≡ (so_far.both ++ next ∷ []) ++ ways_from next more
  to_slash whole part more in_whole is slash to =
      to ∙ ap (λ l. so_far.both ++ ways_from so_far.done l) is
      ∙ ap (λ t. so_far.both ++ cond t (next ∷ ways_from next more) (ways_from next more)) slash
      ∙ sym (append_assoc so_far.both (next ∷ []) (ways_from next more))

  to_other : (whole part more : List ℕ) → part ≡ b ∷ more → (b == 47) ≡ false
      → ways whole ≡ so_far.both ++ ways_from so_far.done part
      → ways whole ≡ so_far.both ++ ways_from next more
  to_other whole part more is other_byte to =
      to ∙ ap (λ l. so_far.both ++ ways_from so_far.done l) is
      ∙ ap (λ t. so_far.both ++ cond t (next ∷ ways_from next more) (ways_from next more))
      other_byte

  -- after a slash
  pub shared-slash : b ≡ 47 → IsShared before path behind after after (folders + 1)
  shared-slash is = let slash : (b == 47) ≡ true = ap (λ x. x == 47) is in record {
    done = next;
    both = so_far.both ++ next ∷ [];
    in_before = on before old behind so_far.in_before one;
    in_path = on path new after so_far.in_path other;
    many = length-append so_far.both (next ∷ []) ∙ ap (λ n. n + 1) so_far.many;
    to_before = to_slash before old behind so_far.in_before one slash so_far.to_before;
    to_path = to_slash path new after so_far.in_path other slash so_far.to_path;
    behind = refl;
  }

  -- after another byte
  pub shared-other : b ≢ 47 → IsShared before path behind after rest folders
  shared-other isnt = let other_byte = no_eqb b isnt in record {
    done = next;
    both = so_far.both;
    in_before = on before old behind so_far.in_before one;
    in_path = on path new after so_far.in_path other;
    many = so_far.many;
    to_before = to_other before old behind one other_byte so_far.to_before;
    to_path = to_other path new after other other_byte so_far.to_path;
    behind = so_far.behind ∙ ap rests other
        ∙ ap (λ t. cond t (after ∷ rests after) (rests after)) other_byte;
  }

pub shared-end : (before path old new rest : List ℕ) (folders : ℕ)
    → IsShared before path old new rest folders → Shares before path folders rest
shared-end before path old new rest folders so_far = (
  so_far.both,
  ways_from so_far.done old,
  so_far.many,
  so_far.to_before,
  so_far.to_path ∙ ap (λ l. so_far.both ++ l)
      (sym (ways_from-are path so_far.done new so_far.in_path)
      ∙ ap (map (way path)) (sym so_far.behind)),
)

-- what is kept for the folders on the way to the path before, with what is found for the others, is
-- that for all
pub kept-along : (f : List ℕ → List ℕ) (lists : List (Bor (List ℕ))) (before path rest : List ℕ)
    (folders : ℕ) → Shares before path folders rest
    → lists_of lists ≡ map f (ways before)
    → lists_of (take folders lists) ++ map f (map (way path) (rests rest)) ≡ map f (ways path)
kept-along f lists before path rest folders (both, others, many, to_before, to_path) along =
    let kept =
    sym (take-map (λ (l : Bor (List ℕ)). l.now) folders lists)
    ∙ ap (take folders) along
    ∙ take-map f folders (ways before)
    ∙ (λ i. map f (take (sym many i) (to_before i)))
    ∙ ap (map f) (take-append_seam both others) in
    ap (λ l. l ++ map f (map (way path) (rests rest))) kept
    ∙ sym (map-append f both (map (way path) (rests rest)))
    ∙ ap (map f) (sym to_path)

-- ---- what counts in them

-- what counts in folders, the first of which sees the rest of a path
abbrev pub along : Reader → List (List Annotation) → List ℕ → List Annotation
along r [] rest = []
along r (l ∷ ls) rest = option_to_list (last_covering r rest l) ++ along r ls (behind_slash rest)

one_more : {A : Type 0} (o : Option A) (more : List A)
    → option_to_list o ++ more ≡ cons_option o more
one_more None more = refl
one_more (Some x) more = refl

module _ (r : Reader) (f : List ℕ → List Annotation) where
  abbrev counted : List ℕ → Option Annotation
  counted rest = last_covering r rest (f rest)

  by_byte : (t : Bool) (other bs : List ℕ)
      → ((seen : List ℕ) → along r (map f (rests bs)) (first_or seen (rests bs))
      ≡ filter_map counted (rests bs))
      → along r (map f (cond t (bs ∷ rests bs) (rests bs)))
      (first_or other (cond t (bs ∷ rests bs) (rests bs)))
      ≡ filter_map counted (cond t (bs ∷ rests bs) (rests bs))
  by_byte true other bs more = ap (λ l. option_to_list (counted bs) ++ l) (more bs)
      ∙ one_more (counted bs) (filter_map counted (rests bs))
  by_byte false other bs more = more other

  rests-counted : (bs seen : List ℕ)
      → along r (map f (rests bs)) (first_or seen (rests bs)) ≡ filter_map counted (rests bs)
  rests-counted [] seen = refl
  rests-counted (b ∷ bs) seen = by_byte (b == 47) seen bs (rests-counted bs)

-- the annotations of the folders on the way give what counts
pub along-counts : (r : Reader) (tomls : List TomlText) (path : List ℕ)
    → along r (map (annotations_in tomls) (ways path)) path ≡ counting r tomls path
along-counts r tomls path =
    let f : List ℕ → List Annotation = λ rest. annotations_in tomls (way path rest) in
    ap (λ ls. along r (f path ∷ ls) path) (map-map (annotations_in tomls) (way path) (rests path))
    ∙ ap (λ l. option_to_list (counting_in r tomls path path) ++ l) (rests-counted r f path path)
    ∙ one_more (counting_in r tomls path path) (filter_map (counting_in r tomls path) (rests path))

-- one more folder: the number that was found in it, and those that follow
pub along-more : (r : Reader) (all : List Annotation) (done : List ℕ) (found : Option ℕ)
    (lists : List (Bor (List ℕ))) (i : ℕ) (d : Bor (List ℕ)) (rest : List ℕ) → i < length lists
    → option_and_then (slice_get all) found
    ≡ last_covering r rest (annotations_at all (get_or lists i d).now)
    → annotations_at all (done ++ option_to_list found)
    ++ along r (map (annotations_at all) (lists_of (drop (i + 1) lists))) (behind_slash rest)
    ≡ annotations_at all done ++ along r (map (annotations_at all) (lists_of (drop i lists))) rest
along-more r all done found lists i d rest within is =
    let last = option_to_list (last_covering r rest (annotations_at all (get_or lists i d).now)) in
    let others = along r (map (annotations_at all) (lists_of (drop (i + 1) lists)))
    (behind_slash rest) in
    ap (λ l. l ++ others) (filter_map-append (slice_get all) done (option_to_list found))
    ∙ ap (λ l. (annotations_at all done ++ l) ++ others)
    (annotations_at-option all found ∙ ap option_to_list is)
    ∙ append_assoc (annotations_at all done) last others
    ∙ ap (λ ls. annotations_at all done ++ along r (map (annotations_at all) (lists_of ls)) rest)
    (sym (drop_more lists i d within))
