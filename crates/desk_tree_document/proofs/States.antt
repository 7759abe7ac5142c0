-- The code of a draft's package agrees.
use Rattle.std.proofs.Common.{◌≡◌, ◌∙◌, inl, inr, ℕ, ◌+◌, ◌<◌, true, cond, List, [], ◌∷◌, length}
use Rattle.std.proofs.Common.{take, ap, sym, refl, arith, Some, None}
use Rattle.std.specs.Prelude.{All, ◌||◌, ◌&&◌, ◌==◌, not, nat_le, codes, map}
use Rattle.std.specs.List.{concat, list_all}
use Rattle.std.specs.Result.{result_ok}
use Rattle.std.proofs.lemmas.Bool.{cases_lt}
use Rattle.std.proofs.lemmas.List.{get_or_past, take_all}
use Rattle.std.proofs.lemmas.List.Elements.{All-head, All-tail}
use Rattle.hex.specs.Hex.{IsBytes, encode_lower, lower_digits}
use Rattle.hex.proofs.HexLemmas.{length-encode_with, decode_sized-encode_lower}
use Rattle.sha1.specs.Sha1.{sha1}
use Rattle.desk_base.specs.Folded.{folded}
use Rattle.desk_bom.specs.Codes.{IsCode, IsStateOf, both, checked_digests, code_digits, code_list}
use Rattle.desk_bom.specs.Codes.{digest_spelled, digests_of, excluded_by, inner_of, is_code}
use Rattle.desk_bom.specs.Codes.{is_list, is_unanalyzed, names_in, names_of}
use Rattle.desk_bom.specs.declared.state.CodeState.TheVariants as states
use Rattle.desk_bom.proofs.CodeLemmas.{folded-encode}
use Rattle.desk_tree_document.proofs.Digests.{length-sha1, sha1_bytes}
use Rattle.desk_tree_document.specs.Shipping.{IsDigest}
use Rattle.desk_tagvalue.specs.declared.drafts.DraftFile.{DraftFile}
use Rattle.desk_tagvalue.specs.Given.{AreFiles}
use Rattle.desk_tagvalue.specs.Parts.{PackageText, FileText, is_hex}
use Rattle.desk_tagvalue.proofs.Digests.{all_hex}

bytes_anywhere : (xs : List ℕ) → All (λ b. b < 256) xs → IsBytes xs
bytes_anywhere xs bytes i =
    elim (cases_lt i (length xs)) [
      | inl within ↦ bytes i 0 within
      | inr past ↦ let none = get_or_past xs i 0 past in omega arith
    ]

digest_back : (f : DraftFile) → IsDigest f
    → digest_spelled (Some (encode_lower f.digest)) ≡ Some f.digest
digest_back f is = ap result_ok
    (decode_sized-encode_lower f.digest 20 is.0 (bytes_anywhere f.digest is.1))

digests_given : (k : ℕ) (fs : List DraftFile) (xs : List FileText) → AreFiles k fs xs
    → All IsDigest fs → digests_of [] xs ≡ Some (map (λ (f : DraftFile). f.digest) fs)
digests_given k [] [] is digests = refl
digests_given k (f ∷ fs) (x ∷ xs) is digests =
    ap (λ o. both (digest_spelled o) (digests_of [] xs)) is.0.sha1
    ∙ ap (λ o. both o (digests_of [] xs)) (digest_back f (All-head IsDigest f fs digests))
    ∙ ap (both (Some f.digest)) (digests_given (k + 1) fs xs is.1 (All-tail IsDigest f fs digests))
digests_given k [] (x ∷ xs) is digests = absurd is
digests_given k (f ∷ fs) [] is digests = absurd is

-- ---- a code

module _ (sha : List ℕ) (sized : length sha ≡ 20) (bytes : All (λ b. b < 256) sha) (value : List ℕ)
    (is : value ≡ encode_lower sha) where
  forty : length value ≡ 40
  forty = let long = ap length is ∙ length-encode_with lower_digits sha in omega arith

  digits : code_digits value ≡ value
  digits = take_all 40 value (let long = forty in omega arith)

  pub code_read : is_code value ≡ true
  code_read =
      ap (λ n. nat_le 40 n && list_all is_hex (take 40 value)
      && (n == 40 || is_list (code_list value))) forty
      ∙ ap (λ l. list_all is_hex l && true) (digits ∙ is) ∙ ap (λ b. b && true) (all_hex sha bytes)

  pub none_excluded : excluded_by value ≡ []
  none_excluded = ap (λ n. cond (n == 40) [] (names_of (names_in (inner_of (code_list value)))))
      forty

  pub digits_small : folded (code_digits value) ≡ value
  digits_small = ap folded (digits ∙ is) ∙ folded-encode sha ∙ sym is

pub code_agrees : (p : PackageText) (code : List ℕ) (fs : List DraftFile) (xs : List FileText)
    → p.verification_code ≡ Some code → p.files_analyzed ≡ Some (codes "true")
    → AreFiles 1 fs xs → All IsDigest fs → IsCode (map (λ (f : DraftFile). f.digest) fs) code
    → IsStateOf p xs states.Agrees
code_agrees p code fs xs has analyzed are digests is =
    let sha = sha1 (concat is.texts) in
    let sized = length-sha1 (concat is.texts) in
    let bytes = sha1_bytes (concat is.texts) in
    let checked : checked_digests p.files_analyzed code xs ≡ Some (map (λ (f : DraftFile). f.digest)
    fs) =
    ap (λ o. cond (is_unanalyzed o || not (is_code code)) None (digests_of (excluded_by code) xs))
    analyzed
    ∙ ap (λ b. cond (not b) None (digests_of (excluded_by code) xs))
    (code_read sha sized bytes code is.is)
    ∙ ap (λ names. digests_of names xs) (none_excluded sha sized bytes code is.is)
    ∙ digests_given 1 fs xs are digests in (
      code,
      map (λ (f : DraftFile). f.digest) fs,
      code,
      has,
      checked,
      is,
      digits_small sha sized bytes code is.is,
    )
