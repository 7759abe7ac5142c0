-- Documents without idle files.
use Rattle.std.proofs.Common.{◌≡◌, ℕ, ◌+◌, List, [], ◌∷◌, ◌++◌, Bool, true, false, Option, Some, None}
use Rattle.std.proofs.Common.{refl, inl, inr}
use Rattle.std.specs.Prelude.{codes, is_some, unwrap_or, if◌then◌else◌}
use Rattle.serde_json.specs.Data.{Data, Items, no_items, item}
use Rattle.serde_json.specs.Find.{as_array, as_str, get}
use Rattle.desk_base.proofs.Bools.{contrary}
use Rattle.desk_tagvalue.specs.Drafts.{blank}
use Rattle.desk_spdx_files.specs.Files.{is_idle}
use Rattle.desk_spdx_files.proofs.IdleIds.{empty_stays}
use Rattle.desk_spdx_json.specs.declared.parts.Part.TheVariants as parts
use Rattle.desk_spdx_json.specs.Documents.{document_steps, from_member, steps_at}
use Rattle.desk_spdx_json.specs.Files.{needed_steps}
use Rattle.desk_spdx_json.specs.Kept.{kept_at, kept_contained, kept_steps}
use Rattle.desk_spdx_json.specs.Losses.{ContainsIdle, IsWithout, document_in}
use Rattle.desk_spdx_json.specs.Members.{package_members}
use Rattle.desk_spdx_json.specs.Parts.{contained_steps, object_steps, part_steps, tie_step}
use Rattle.desk_spdx_json.specs.Steps.{StepText, item_at, member_at, put, step}
use Rattle.desk_spdx_json.specs.Values.{if_array, in_array, items_steps, text_or_empty, word_in}
use Rattle.desk_spdx_json.proofs.Kept.{kept_same}

-- ---- nothing is idle

in_place : (d : Data) (b : Bool) (inner : Option Data)
    → ((id : List ℕ) → is_idle (if b then d else unwrap_or inner d) id ≡ false)
    → (if b then kept_at (is_idle d) [] d
    else from_member (λ at x. kept_at (is_idle x) at x) d inner)
    ≡ (if b then steps_at [] d else from_member steps_at d inner)
in_place d true inner none = kept_same (is_idle d) (λ id. false) none [] d
in_place d false None none = kept_same (is_idle d) (λ id. false) none [] d
in_place d false (Some x) none = kept_same (is_idle x) (λ id. false) none (codes "/sbom") x

pub nothing_idle : (d : Data) → ((id : List ℕ) → is_idle (document_in d) id ≡ false)
    → needed_steps d ≡ document_steps d
nothing_idle d none =
    in_place d (is_some (get (codes "spdxVersion") d)) (get (codes "sbom") d) none

-- ---- elements that are no files

front_stays : (MayGo : StepText → Type 0) (front many few : List StepText)
    → IsWithout MayGo many few → IsWithout MayGo (front ++ many) (front ++ few)
front_stays MayGo [] many few without = without
front_stays MayGo (s ∷ ss) many few without =
    inr (ss ++ few, refl, front_stays MayGo ss many few without)

module _ (idle : List ℕ → Bool) (none : idle [] ≡ false) (owner : List ℕ) where
  listed_without : (place : List ℕ) (o : Option (List ℕ)) (many few : List StepText) (b : Bool)
      → idle (text_or_empty o) ≡ b → IsWithout (ContainsIdle idle owner) many few
      → IsWithout (ContainsIdle idle owner) (tie_step place owner (codes "CONTAINS") o ∷ many)
      ((if b then [] else tie_step place owner (codes "CONTAINS") o ∷ []) ++ few)
  listed_without place o many few false is without = inr (few, refl, without)
  listed_without place (Some id) many few true is without = inl ((place, id, is, refl), without)
  listed_without place None many few true is without = absurd (contrary (idle []) is none)

  items_without : (at : List ℕ) (i : ℕ) (ds : Items)
      → IsWithout (ContainsIdle idle owner) (items_steps (contained_steps owner) at i ds)
      (items_steps (kept_contained idle owner) at i ds)
  items_without at i no_items = refl
  items_without at i (item d ds) =
      listed_without (item_at at i) (as_str d) (items_steps (contained_steps owner) at (i + 1) ds)
      (items_steps (kept_contained idle owner) at (i + 1) ds) (idle (text_or_empty (as_str d))) refl
      (items_without at (i + 1) ds)

  list_without : (at : List ℕ) (o : Option Items)
      → IsWithout (ContainsIdle idle owner) (in_array (contained_steps owner) at o)
      (in_array (kept_contained idle owner) at o)
  list_without at None = inr ([], refl, refl)
  list_without at (Some ds) = items_without at 0 ds

  found_without : (at : List ℕ) (o : Option Data)
      → IsWithout (ContainsIdle idle owner) (if_array (contained_steps owner) at o)
      (if_array (kept_contained idle owner) at o)
  found_without at None = refl
  found_without at (Some d) = list_without at (as_array d)

pub package_stays : (d p : Data) (at : List ℕ)
    → IsWithout (ContainsIdle (is_idle d) (word_in (codes "SPDXID") p))
    (part_steps parts.Package at p) (kept_steps (is_idle d) parts.Package at p)
package_stays d p at =
    let owner = word_in (codes "SPDXID") p in
    let place = member_at at (codes "hasFiles") in
    let files = get (codes "hasFiles") p in
    front_stays (ContainsIdle (is_idle d) owner)
    (step [] (put blank) ∷ object_steps at package_members p)
    (if_array (contained_steps owner) place files)
    (if_array (kept_contained (is_idle d) owner) place files)
    (found_without (is_idle d) (empty_stays d) owner place files)
