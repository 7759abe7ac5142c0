-- The texts that no earlier file has.
use Rattle.std.proofs.Common.{◌≡◌, ◌∙◌, ℕ, ◌+◌, ◌<◌, Bool, true, false, List, [], ◌∷◌, ◌++◌}
use Rattle.std.proofs.Common.{length, get_or, take, drop, map, sym, ap, refl, filter, append_assoc}
use Rattle.std.specs.Prelude.{◌||◌, ◌&&◌, not}
use Rattle.std.specs.Str.{bytes_eq}
use Rattle.std.specs.List.{flat_map}
use Rattle.std.specs.BTreeSet.{BTreeSet}
use Rattle.std.proofs.lemmas.Bool.{false≢true}
use Rattle.std.proofs.lemmas.List.{drop_more, flat_map_more, map_more, map-append, take_more}
use Rattle.std.proofs.Math.Bool.{or-false, or-true, or_comm}
use Rattle.desk_base.specs.TextSets.{is_among, has_text}
use Rattle.desk_base.proofs.Texts.{texts_equal}
use denote.Ref.{Bor}
use Rattle.desk_model.specs.Texts.{sorted_set}
use Rattle.desk_tree_annotations.specs.declared.annotation.Annotation.{Annotation}
use Rattle.desk_tree_infos.specs.declared.firsts.First.{First}
use Rattle.desk_tree_infos.specs.declared.infos.FileInfo.{FileInfo}
use Rattle.desk_tree_infos.specs.declared.information.Sources.{Sources}
use Rattle.desk_tree_infos.specs.declared.information.Subject.{Subject}
use Rattle.desk_tree_infos.specs.declared.information.Subject.TheVariants.{Notices, Licences}
use Rattle.desk_tree_infos.specs.declared.infos.Covered.{Covered}
use Rattle.desk_tree_infos.specs.Firsts.{FirstTexts, AddsUnseen, firsts_behind}
use Rattle.desk_tree_infos.specs.Firsts.{firsts_of, first_in, first_texts, texts_in}
use Rattle.desk_tree_infos.specs.Sharing.{all_texts, sources_in, info_at, infos_at}
use Rattle.desk_tree_infos.proofs.AmongLemmas.{among-append, among-set, among-filter}
use Rattle.desk_tree_infos.proofs.AmongLemmas.{set_filtered, set_once}

-- ---- one more text in a set

-- ---- tests: a text is the next one, it is among those so far, it was in the set, it was listed

listed_known : (a T S L : Bool) → (a ≡ true → (T || S) ≡ true)
    → (L || (T && not S)) ≡ (L || ((T || a) && not S))
listed_known a true S L is = refl
listed_known false false S L is = refl
listed_known true false true L is = refl
listed_known true false false L is = absurd (false≢true (is refl))

seen_new : (a T S : Bool) → (a || (T || S)) ≡ ((T || a) || S)
seen_new true true S = refl
seen_new true false S = refl
seen_new false true S = refl
seen_new false false S = refl

listed_new : (a T S L : Bool) → (a ≡ true → (T || S) ≡ false)
    → ((L || (T && not S)) || (a || false)) ≡ (L || ((T || a) && not S))
listed_new false true S L is = or-false (L || not S)
listed_new false false S L is = or-false (L || false)
listed_new true true S L is = absurd (false≢true (sym (is refl)))
listed_new true false true L is = absurd (false≢true (sym (is refl)))
listed_new true false false L is = or-true (L || false) ∙ sym (or-true L)

listed_both : (X Y S L : Bool)
    → ((L || (X && not S)) || (Y && not (X || S))) ≡ (L || ((X || Y) && not S))
listed_both true true S L = or-false (L || not S)
listed_both true false S L = or-false (L || not S)
listed_both false Y S L = ap (λ b. b || (Y && not S)) (or-false L)

skip_seen : (Y S : Bool) → (Y ≡ true → S ≡ true) → S ≡ (Y || S)
skip_seen true S is = is refl
skip_seen false S is = refl

skip_listed : (Y S L : Bool) → (Y ≡ true → S ≡ true) → L ≡ (L || (Y && not S))
skip_listed true true L is = sym (or-false L)
skip_listed true false L is = absurd (false≢true (is refl))
skip_listed false S L is = sym (or-false L)

-- ---- texts one after another

pub adds_nothing : (s : BTreeSet (Bor (List ℕ))) (l : List (List ℕ)) → AddsUnseen [] s s l l
adds_nothing s l = record { seen = λ t. refl; listed = λ t. sym (or-false (is_among l t)) }

-- if all of them were in the set
pub adds_none : (ys : List (List ℕ)) (s : BTreeSet (Bor (List ℕ))) (l : List (List ℕ))
    → ((t : List ℕ) → is_among ys t ≡ true → has_text s t ≡ true) → AddsUnseen ys s s l l
adds_none ys s l known = record {
  seen = λ t. skip_seen (is_among ys t) (has_text s t) (known t);
  listed = λ t. skip_listed (is_among ys t) (has_text s t) (is_among l t) (known t);
}

pub adds_both : (xs ys : List (List ℕ)) (s0 s1 s2 : BTreeSet (Bor (List ℕ)))
    (l0 l1 l2 : List (List ℕ)) → AddsUnseen xs s0 s1 l0 l1 → AddsUnseen ys s1 s2 l1 l2
    → AddsUnseen (xs ++ ys) s0 s2 l0 l2
adds_both xs ys s0 s1 s2 l0 l1 l2 one other = record {
  seen = λ t.
      other.seen t ∙ ap (λ b. is_among ys t || b) (one.seen t)
      ∙ seen_new (is_among ys t) (is_among xs t) (has_text s0 t)
      ∙ ap (λ b. b || has_text s0 t) (sym (among-append xs ys t));
  listed = λ t.
      other.listed t
      ∙ (λ i. one.listed t i || (is_among ys t && not (one.seen t i)))
      ∙ listed_both (is_among xs t) (is_among ys t) (has_text s0 t) (is_among l0 t)
      ∙ ap (λ b. is_among l0 t || (b && not (has_text s0 t))) (sym (among-append xs ys t));
}

module _ (texts : List (List ℕ)) (i : ℕ) (d : List ℕ) (s0 s : BTreeSet (Bor (List ℕ)))
    (l0 l : List (List ℕ)) (within : i < length texts)
    (so_far : AddsUnseen (take i texts) s0 s l0 l) where
  abbrev here : List ℕ → Bool
  here t = bytes_eq (get_or texts i d) t

  among-more : (t : List ℕ) → is_among (take (i + 1) texts) t
      ≡ (is_among (take i texts) t || here t)
  among-more t =
      ap (λ l. is_among l t) (take_more texts i d within)
      ∙ among-append (take i texts) (get_or texts i d ∷ []) t
      ∙ ap (λ b. is_among (take i texts) t || b) (or-false (here t))

  at_here : (b : Bool) → has_text s (get_or texts i d) ≡ b → (t : List ℕ) → here t ≡ true
      → (is_among (take i texts) t || has_text s0 t) ≡ b
  at_here b is t same = sym (so_far.seen t)
      ∙ ap (has_text s) (sym (texts_equal (get_or texts i d) t same)) ∙ is

  pub adds_known : (new : BTreeSet (Bor (List ℕ))) → has_text s (get_or texts i d) ≡ true
      → ((q : List ℕ) → has_text new q ≡ (here q || has_text s q))
      → AddsUnseen (take (i + 1) texts) s0 new l0 l
  adds_known new known grown = record {
    seen = λ t.
        grown t ∙ ap (λ b. here t || b) (so_far.seen t)
        ∙ seen_new (here t) (is_among (take i texts) t) (has_text s0 t)
        ∙ ap (λ b. b || has_text s0 t) (sym (among-more t));
    listed = λ t.
        so_far.listed t
        ∙ listed_known (here t) (is_among (take i texts) t) (has_text s0 t) (is_among l0 t)
        (at_here true known t)
        ∙ ap (λ b. is_among l0 t || (b && not (has_text s0 t))) (sym (among-more t));
  }

  pub adds_new : (new : BTreeSet (Bor (List ℕ))) (after : List (List ℕ))
      → has_text s (get_or texts i d) ≡ false
      → ((q : List ℕ) → has_text new q ≡ (here q || has_text s q))
      → after ≡ l ++ get_or texts i d ∷ []
      → AddsUnseen (take (i + 1) texts) s0 new l0 after
  adds_new new after unknown more is = record {
    seen = λ t.
        more t ∙ ap (λ b. here t || b) (so_far.seen t)
        ∙ seen_new (here t) (is_among (take i texts) t) (has_text s0 t)
        ∙ ap (λ b. b || has_text s0 t) (sym (among-more t));
    listed = λ t.
        ap (λ x. is_among x t) is
        ∙ among-append l (get_or texts i d ∷ []) t
        ∙ ap (λ b. b || (here t || false)) (so_far.listed t)
        ∙ listed_new (here t) (is_among (take i texts) t) (has_text s0 t) (is_among l0 t)
        (at_here false unknown t)
        ∙ ap (λ b. is_among l0 t || (b && not (has_text s0 t))) (sym (among-more t));
  }

-- the list, which was empty before, has the texts that weren't in the set
pub unseen_set : (xs : List (List ℕ)) (s0 s : BTreeSet (Bor (List ℕ))) (l : List (List ℕ))
    → AddsUnseen xs s0 s [] l → sorted_set l ≡ filter (λ t. not (has_text s0 t)) (sorted_set xs)
unseen_set xs s0 s l adds = set_filtered (λ t. not (has_text s0 t)) xs l adds.listed

-- what was in the set stays there
pub still_seen : (ys : List (List ℕ)) (s new : BTreeSet (Bor (List ℕ))) (l after : List (List ℕ))
    → AddsUnseen ys s new l after → (t : List ℕ) → has_text s t ≡ true → has_text new t ≡ true
still_seen ys s new l after adds t has = adds.seen t ∙ ap (λ b. is_among ys t || b) has
    ∙ or-true (is_among ys t)

-- ---- files one after another

pub texts_in-at : (all : List Annotation) (of : Subject) (file : Covered)
    → texts_in of (info_at all file) ≡ sorted_set (all_texts all of (sources_in of file))
texts_in-at all Notices file = refl
texts_in-at all Licences file = refl

module _ (all : List Annotation) (of : Subject) (files : List Covered) (i : ℕ) (d : Covered)
    (within : i < length files) where
  abbrev pub known_before : List (List ℕ)
  known_before = flat_map (texts_in of) (infos_at all (take i files))

  abbrev info : FileInfo
  info = info_at all (get_or files i d)

  known_more : flat_map (texts_in of) (infos_at all (take (i + 1) files)) ≡ known_before
      ++ texts_in of info
  known_more = ap (flat_map (texts_in of)) (map_more (info_at all) files i d within)
      ∙ sym (flat_map_more (texts_in of) [] (infos_at all (take i files)) info)

  -- what is known after one more file
  pub seen_more : (old new : BTreeSet (Bor (List ℕ))) (sources : Sources)
      → sources ≡ sources_in of (get_or files i d)
      → ((t : List ℕ) → has_text old t ≡ is_among known_before t)
      → ((t : List ℕ) → has_text new t ≡ (is_among (all_texts all of sources) t || has_text old t))
      → (t : List ℕ) → has_text new t
      ≡ is_among (flat_map (texts_in of) (infos_at all (take (i + 1) files))) t
  seen_more old new sources are was is t =
      is t
      ∙ (λ j. is_among (all_texts all of (are j)) t || was t j)
      ∙ or_comm (is_among (all_texts all of (sources_in of (get_or files i d))) t)
      (is_among known_before t)
      ∙ ap (λ b. is_among known_before t || b)
      (sym (ap (λ l. is_among l t) (texts_in-at all of (get_or files i d))
      ∙ among-set (all_texts all of (sources_in of (get_or files i d))) t))
      ∙ sym (among-append known_before (texts_in of info) t)
      ∙ ap (λ l. is_among l t) (sym known_more)

  pub firsts_more : (done after : List First) (one : First) (old : BTreeSet (Bor (List ℕ)))
      (sources : Sources) → after ≡ done ++ one ∷ [] → one.path.now ≡ (get_or files i d).path
      → sources ≡ sources_in of (get_or files i d)
      → ((t : List ℕ) → has_text old t ≡ is_among known_before t)
      → one.texts ≡ filter (λ t. not (has_text old t)) (sorted_set (all_texts all of sources))
      → map first_in after ++ firsts_behind of
      (flat_map (texts_in of) (infos_at all (take (i + 1) files)))
      (infos_at all (drop (i + 1) files)) ≡ map first_in done
      ++ firsts_behind of known_before (infos_at all (drop i files))
  firsts_more done after one old sources pushed at are was is =
      let texts : one.texts ≡ filter (λ t. not (is_among known_before t)) (texts_in of info) =
      is
      ∙ (λ j. filter (λ t. not (was t j)) (sorted_set (all_texts all of (are j))))
      ∙ ap (filter (λ t. not (is_among known_before t)))
      (sym (texts_in-at all of (get_or files i d))) in
      let behind = firsts_behind of (known_before ++ texts_in of info)
      (infos_at all (drop (i + 1) files)) in
      let first : FirstTexts = record {
        path = info.path;
        texts = filter (λ t. not (is_among known_before t)) (texts_in of info);
      } in
      ap (λ k. map first_in after ++ firsts_behind of k (infos_at all (drop (i + 1) files)))
      known_more
      ∙ ap (λ l. l ++ behind) (ap (map first_in) pushed ∙ map-append first_in done (one ∷ []))
      ∙ append_assoc (map first_in done) (first_in one ∷ []) behind
      ∙ (λ j. map first_in done ++ (record { path = at j; texts = texts j } ∷ behind))
      ∙ ap (λ l. map first_in done ++ firsts_behind of known_before (infos_at all l))
      (sym (drop_more files i d within))

-- ---- all of them

rest_kept : (k x f n : Bool) → n ≡ (x && not k) → (k || (n || f)) ≡ ((k || x) || f)
rest_kept true x f n is = refl
rest_kept false true f n is = ap (λ b. b || f) is
rest_kept false false f n is = ap (λ b. b || f) is

among_firsts : (of : Subject) (infos : List FileInfo) (known : List (List ℕ)) (t : List ℕ)
    → (is_among known t || is_among (first_texts (firsts_behind of known infos)) t)
    ≡ (is_among known t || is_among (flat_map (texts_in of) infos) t)
among_firsts of [] known t = refl
among_firsts of (info ∷ infos) known t =
    let own = texts_in of info in
    let new = filter (λ u. not (is_among known u)) own in
    let more = first_texts (firsts_behind of (known ++ own) infos) in
    ap (λ b. is_among known t || b) (among-append new more t)
    ∙ rest_kept (is_among known t) (is_among own t) (is_among more t) (is_among new t)
    (among-filter (λ u. not (is_among known u)) own t)
    ∙ ap (λ b. b || is_among more t) (sym (among-append known own t))
    ∙ among_firsts of infos (known ++ own) t
    ∙ ap (λ b. b || is_among (flat_map (texts_in of) infos) t) (among-append known own t)
    ∙ or_assoc (is_among known t) (is_among own t) (is_among (flat_map (texts_in of) infos) t)
    ∙ ap (λ b. is_among known t || b) (sym (among-append own (flat_map (texts_in of) infos) t))
  where
    or_assoc : (a b c : Bool) → ((a || b) || c) ≡ (a || (b || c))
    or_assoc true b c = refl
    or_assoc false b c = refl

-- the texts that files have first are those of all files
pub firsts_set : (of : Subject) (infos : List FileInfo)
    → sorted_set (first_texts (firsts_of of infos)) ≡ sorted_set (flat_map (texts_in of) infos)
firsts_set of infos = set_once (first_texts (firsts_of of infos)) (flat_map (texts_in of) infos)
    (among_firsts of infos [])
