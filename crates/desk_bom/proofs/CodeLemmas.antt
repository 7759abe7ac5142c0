-- Codes and what they exclude.
use Rattle.std.proofs.Common.{◌≡◌, ◌∙◌, ℕ, ◌+◌, ◌<◌, Bool, true, false, cond, List, [], ◌∷◌, ◌++◌}
use Rattle.std.proofs.Common.{length, take, drop, get_or, ap, sym, subst, refl, arith, eqb, Option}
use Rattle.std.proofs.Common.{Some, None}
use Rattle.std.specs.Prelude.{◌&&◌, ◌||◌, IfNone, MatchOption, codes, nat_le, map, slice_get}
use Rattle.std.specs.List.{starts_with, ends_with, list_all, list_any, filter_map, cons_option}
use Rattle.std.specs.Option.{is_some}
use Rattle.std.specs.Str.Pattern.{FindsTextSuffix, StripsSuffix}
use Rattle.std.specs.Str.{IsCharBoundary, IsUtf8, bytes_eq}
use Rattle.std.proofs.lemmas.Str.Pattern.{ends_text}
use denote.Ref.{Bor}
use Rattle.std.specs.Char.{to_ascii_lowercase}
use Rattle.std.proofs.lemmas.Str.{IsCharBoundary-after_ascii}
use Rattle.std.proofs.lemmas.Bool.{leb-true, and_right}
use Rattle.std.proofs.lemmas.Bool.Decides.{nat_tests}
use Rattle.std.proofs.lemmas.List.Folds.{list_all_at}
use Rattle.std.proofs.Common.{zero, suc, ◌/◌, ◌%◌, lit<, length-take, get_or-take}
use Rattle.hex.specs.Hex.{encode_lower, encode_with, lower_digits}
use Rattle.desk_base.specs.Folded.{folded}
use Rattle.desk_tagvalue.specs.Parts.{is_hex, DocumentText, PackageText, FileText}
use Rattle.std.proofs.Common.{append_assoc}
use Rattle.desk_bom.proofs.LoopLemmas.{seen_more}
use Rattle.desk_bom.specs.declared.arrows.Arrow.{Arrow}
use Rattle.desk_bom.specs.Places.{place_of, later}
use Rattle.desk_bom.specs.Codes.{is_list, is_code, is_excluded, digest_spelled, digests_of, both}
use Rattle.desk_bom.specs.Codes.{files_at, IsStateOf, IsStateAt}
use Rattle.desk_bom.specs.Contents.{AreFilesOf}
use Rattle.desk_bom.specs.declared.state.CodeState.{CodeState}
use Rattle.desk_bom.specs.declared.state.CodeState.TheVariants.{Absent, Unchecked, Agrees, Differs}

pub not_list : (text rest : List ℕ) (r : Option (Bor (List ℕ))) → rest ≡ drop 1 text
    → MatchOption r (FindsTextSuffix (codes ")") rest None)
    (λ x. StripsSuffix (FindsTextSuffix (codes ")")) rest x.now) → IfNone r (is_list text ≡ false)
not_list text rest None is h = and_right (starts_with eqb text (codes "("))
    (ends_with eqb (drop 1 text) (codes ")"))
    (ap (λ l. ends_with eqb l (codes ")")) (sym is) ∙ sym (ends_text false (codes ")") rest h))
not_list text rest (Some x) is h = tt

-- digests before others, if those are there
abbrev pub behind_front : List (List ℕ) → Option (List (List ℕ)) → Option (List (List ℕ))
behind_front xs None = None
behind_front xs (Some ys) = Some (xs ++ ys)

hex_is_ascii : (b : ℕ) → is_hex b ≡ true → b < 128
hex_is_ascii b h = grind (arith, nat_tests)

and_parts3 : (a b c : Bool) → (a && b && c) ≡ true → (a ≡ true) × (b ≡ true)
and_parts3 true true c h = (refl, refl)
and_parts3 true false c h = absurd cc
and_parts3 false b c h = absurd cc

hex_at : (xs : List ℕ) (i : ℕ) → i < length xs → list_all is_hex xs ≡ true
    → is_hex (get_or xs i 0) ≡ true
hex_at xs i inside all = at (is_hex (get_or xs i 0)) refl
  where
    at : (b : Bool) → is_hex (get_or xs i 0) ≡ b → is_hex (get_or xs i 0) ≡ true
    at true e = e
    at false e = let f = list_all_at is_hex xs i 0 inside e in absurd cc

-- if the text can't be cut after 40 bytes, it doesn't begin with 40 digits
pub not_cut : (value : List ℕ) → IsUtf8 value → (IsCharBoundary value 40 → ⊥)
    → is_code value ≡ false
not_cut value utf8 uncut = at (is_code value) refl
  where
    at : (b : Bool) → is_code value ≡ b → is_code value ≡ false
    at false e = e
    at true e =
        let parts = and_parts3 (nat_le 40 (length value)) (list_all is_hex (take 40 value)) _ e in
        let long = leb-true 40 (length value) parts.0 in
        let taken = length-take 40 value in
        let digit = hex_at (take 40 value) 39 (omega arith) parts.1 in
        let ascii : get_or value 39 0 < 128 =
        subst (λ b. b < 128) (get_or-take 40 value 39 0 (lit< tt))
        (hex_is_ascii (get_or (take 40 value) 39 0) digit) in
        absurd (uncut (IsCharBoundary-after_ascii value 39 utf8 (omega arith) ascii))

small_at : (xs : List ℕ) (k : ℕ) → map to_ascii_lowercase xs ≡ xs
    → to_ascii_lowercase (get_or xs k 0) ≡ get_or xs k 0
small_at [] k h = refl
small_at (x ∷ xs) zero h = cc
small_at (x ∷ xs) (suc k) h = small_at xs k cc

-- digits in lower case stay as they are
pub folded-encode : (ds : List ℕ) → folded (encode_lower ds) ≡ encode_lower ds
unfolding encode_with
folded-encode [] = refl
folded-encode (d ∷ ds) =
    ap (λ c. c ∷ to_ascii_lowercase (get_or lower_digits (d % 16) 0) ∷ folded (encode_lower ds))
    (small_at lower_digits (d / 16) refl)
    ∙ ap (λ c. get_or lower_digits (d / 16) 0 ∷ c ∷ folded (encode_lower ds))
    (small_at lower_digits (d % 16) refl)
    ∙ ap (λ l. get_or lower_digits (d / 16) 0 ∷ get_or lower_digits (d % 16) 0 ∷ l)
    (folded-encode ds)

one_behind : (found : List (List ℕ)) (x : List ℕ) (rest : Option (List (List ℕ)))
    → behind_front (found ++ x ∷ []) rest ≡ behind_front found (both (Some x) rest)
one_behind found x None = refl
one_behind found x (Some ys) = ap (λ l. Some l) (append_assoc found (x ∷ []) ys)

-- what the next file adds to the digests
module _ (names : List (List ℕ)) (f : FileText) (rest whole : List FileText)
    (parted : whole ≡ f ∷ rest) where
  split : digests_of names whole
      ≡ cond (is_excluded names f) (digests_of names rest)
      (both (digest_spelled f.sha1) (digests_of names rest))
  split = ap (digests_of names) parted

  pub excluded_passed : is_excluded names f ≡ true → digests_of names rest ≡ digests_of names whole
  excluded_passed is = sym (split ∙ rw is)

  counted : (digest : Option (List ℕ)) → is_excluded names f ≡ false
      → digest_spelled f.sha1 ≡ digest
      → both digest (digests_of names rest) ≡ digests_of names whole
  counted digest other is = ap (λ o. both o (digests_of names rest)) (sym is)
      ∙ ap (λ b. cond b (digests_of names rest)
      (both (digest_spelled f.sha1) (digests_of names rest))) (sym other) ∙ sym split

  pub digest_passed : (found : List (List ℕ)) (digest : List ℕ) → is_excluded names f ≡ false
      → digest_spelled f.sha1 ≡ Some digest
      → behind_front (found ++ digest ∷ []) (digests_of names rest)
      ≡ behind_front found (digests_of names whole)
  digest_passed found digest other is = one_behind found digest (digests_of names rest)
      ∙ ap (behind_front found) (counted (Some digest) other is)

  pub digest_missing : (found : List (List ℕ)) → is_excluded names f ≡ false
      → digest_spelled f.sha1 ≡ None
      → ◌≡◌ {A = Option (List (List ℕ))} None (behind_front found (digests_of names whole))
  digest_missing found other is = ap (behind_front found) (counted None other is)

-- the files at the ends of arrows, from one arrow on
module _ (files : List FileText) (xs : List Arrow) (i : ℕ) (d : Arrow)
    (inside : i < length xs) where
  next_file : files_at files (drop i xs)
      ≡ cons_option (slice_get files (get_or xs i d).to) (files_at files (drop (i + 1) xs))
  next_file = ap (filter_map (slice_get files)) (seen_more (λ (x : Arrow). x.to) xs i d inside)

  pub file_next : (f : FileText) → slice_get files (get_or xs i d).to ≡ Some f
      → files_at files (drop i xs) ≡ f ∷ files_at files (drop (i + 1) xs)
  file_next f is = next_file ∙ ap (λ o. cons_option o (files_at files (drop (i + 1) xs))) is

  pub no_file_next : slice_get files (get_or xs i d).to ≡ None
      → files_at files (drop (i + 1) xs) ≡ files_at files (drop i xs)
  no_file_next is = sym (next_file ∙ ap (λ o. cons_option o (files_at files (drop (i + 1) xs))) is)

-- a name that has a place is one of those
pub is_some_place : (q : List ℕ) (names : List (List ℕ))
    → is_some (place_of q names) ≡ list_any (λ name. bytes_eq name q) names
is_some_place q [] = refl
is_some_place q (x ∷ xs) = either (bytes_eq x q) (place_of q xs)
    ∙ ap (λ b. bytes_eq x q || b) (is_some_place q xs)
  where
    either : (b : Bool) (place : Option ℕ)
        → is_some (cond b (Some 0) (later place)) ≡ (b || is_some place)
    either true place = refl
    either false None = refl
    either false (Some n) = refl

pub state_at : (d : DocumentText) (k : ℕ) (p : PackageText) (fs : List FileText) (state : CodeState)
    → AreFilesOf d k fs → IsStateOf p fs state → IsStateAt d k p state
state_at d k p fs Absent files is = is
state_at d k p fs Unchecked files is = (fs, files, is)
state_at d k p fs Agrees files is = (fs, files, is)
state_at d k p fs Differs files is = (fs, files, is)
