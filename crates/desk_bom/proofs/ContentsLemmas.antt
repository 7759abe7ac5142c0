-- The files between a PackageName and the next one, field by field.
use Rattle.std.proofs.Common.{◌≡◌, ◌∙◌, ℕ, ◌+◌, ◌<◌, true, false, cond, List, length, drop, get_or, ap, sym}
use Rattle.std.specs.Prelude.{map}
use Rattle.desk_fields.specs.declared.tag.Tag.TheVariants as tags
use Rattle.desk_fields.specs.Tags.{same_tag}
use Rattle.desk_tagvalue.specs.declared.entries.Entry.{Entry}
use Rattle.desk_tagvalue.specs.Entries.{entry_text}
use Rattle.desk_bom.specs.Contents.{own_files, onto_package}
use Rattle.desk_bom.proofs.LoopLemmas.{seen_more}

module _ (xs : List Entry) (i : ℕ) (d : Entry) (inside : i < length xs) (p f : ℕ) where
  parted : own_files p f (map entry_text (drop i xs))
      ≡ cond (same_tag (get_or xs i d).tag tags.PackageName)
      (own_files (p + 1) f (map entry_text (drop (i + 1) xs)))
      (cond (same_tag (get_or xs i d).tag tags.FileName)
      (onto_package p f (own_files p (f + 1) (map entry_text (drop (i + 1) xs))))
      (own_files p f (map entry_text (drop (i + 1) xs))))
  parted = ap (own_files p f) (seen_more entry_text xs i d inside)

  pub package_passed : same_tag (get_or xs i d).tag tags.PackageName ≡ true
      → own_files (p + 1) f (map entry_text (drop (i + 1) xs))
      ≡ own_files p f (map entry_text (drop i xs))
  package_passed is = sym (parted ∙ rw is)

  pub file_passed : same_tag (get_or xs i d).tag tags.PackageName ≡ false
      → same_tag (get_or xs i d).tag tags.FileName ≡ true
      → onto_package p f (own_files p (f + 1) (map entry_text (drop (i + 1) xs)))
      ≡ own_files p f (map entry_text (drop i xs))
  file_passed other is = sym (parted ∙ rw (other, is))

  pub other_passed : same_tag (get_or xs i d).tag tags.PackageName ≡ false
      → same_tag (get_or xs i d).tag tags.FileName ≡ false
      → own_files p f (map entry_text (drop (i + 1) xs))
      ≡ own_files p f (map entry_text (drop i xs))
  other_passed other also = sym (parted ∙ rw (other, also))
