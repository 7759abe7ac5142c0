-- What entries are for, and which of some are the first for a subject.
use Rattle.std.specs.Prelude.{◌≡◌, ℕ, ◌&&◌, Bool, List, map, None, if◌then◌else◌}
use Rattle.std.specs.List.{flat_map, position_from}
use Rattle.std.specs.BTreeMap.{BTreeMap, get}
use Rattle.std.specs.Cmp.Lexicographic.{slice_cmp}
use Rattle.std.specs.Option.{option_cmp}
use Rattle.std.specs.Ordering.{nat_cmp, on, then_cmp}
use Rattle.std.specs.declared.cmp.Ordering.{Ordering}
use Rattle.std.specs.Str.{bytes_eq}
use Rattle.desk_base.specs.Folded.{folded}
use Rattle.desk_tokens.specs.Words.{is_reference}
use Rattle.desk_model.specs.declared.reading.LicenceText.{LicenceText}
use Rattle.desk_fill.specs.declared.fill.Credit.{Credit}
use Rattle.desk_fill.specs.declared.fill.Fill.{Fill}
use Rattle.desk_fill.specs.declared.index.Index.{Index}
use Rattle.desk_fill.specs.declared.subjects.Subject.{Subject}
use Rattle.desk_fill.specs.Values.{is_same_version}

-- what a credit is for: a package, and its version or any
abbrev pub subject_of_credit : Credit → Subject
subject_of_credit credit = record { name = credit.name; version = credit.version }

-- what a text is for: a reference, or an id, whose case doesn't count (SPDX 2.3, Annex D.2)
abbrev pub subject_of_title : List ℕ → Subject
subject_of_title title =
    record { name = if is_reference title then title else folded title; version = None }

-- what the text of an entry is for
abbrev pub subject_of_text : LicenceText → Subject
subject_of_text text = subject_of_title text.title

-- the same name, and the same version or both any
abbrev pub is_of : Subject → Subject → Bool
is_of a b = bytes_eq a.name b.name && is_same_version a.version b.version

-- the order of names, then of versions, any first
abbrev pub subject_cmp : Subject → Subject → Ordering
subject_cmp = then_cmp (on (λ s. s.name) (slice_cmp nat_cmp))
    (on (λ s. s.version) (option_cmp (slice_cmp nat_cmp)))

-- a map has the place of the first of each subject among some, and of no others
abbrev pub Knows : List Subject → BTreeMap Subject ℕ → Type 0
Knows subjects firsts = (subject : Subject)
    → get subject_cmp firsts subject ≡ position_from (is_of subject) 0 subjects

-- what an entry is for, and what it says
abbrev pub Entry : Type 0
Entry = Subject × List ℕ

-- a credit as an entry
abbrev pub credit_entry : Credit → Entry
credit_entry credit = (subject_of_credit credit, credit.text)

-- a text as an entry
abbrev pub text_entry : LicenceText → Entry
text_entry text = (subject_of_text text, text.body)

-- the credits of files, in their order
abbrev pub credit_entries : List Fill → List Entry
credit_entries fills = flat_map (λ fill. map credit_entry fill.credits) fills

-- their texts
abbrev pub text_entries : List Fill → List Entry
text_entries fills = flat_map (λ fill. map text_entry fill.texts) fills

-- an index has these entries
pub record Indexes (entries : List Entry) (index : Index) : Type 0 where
  pub texts : map (λ text. text.now) index.texts.items ≡ map (λ (e : Entry). e.1) entries
  pub firsts : Knows (map (λ (e : Entry). e.0) entries) index.firsts
