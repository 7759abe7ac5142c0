use Rattle.std.proofs.Common.{◌≡◌, ◌≢◌, ◌∙◌, ℕ, true, false, List, [], ◌∷◌, ap, arith, codes, refl, subst, sym, Some}
use Rattle.std.specs.Prelude.{◌==◌, All, nat_lt, not, option_map}
use Rattle.std.specs.List.{cons_option, list_all}
use Rattle.std.specs.Str.{is_utf8}
use Rattle.std.proofs.lemmas.List.Elements.{All-cons}
use Rattle.std.proofs.lemmas.Str.{IsUtf8-from_ascii, is_utf8-from_IsUtf8}
use Rattle.desk_base.specs.Lines.{CutsInto, LineText}
use Rattle.desk_base.specs.declared.lines.LineEnd.TheVariants.{Lf}
use Rattle.desk_base.proofs.Bools.{and_left, and_right}
use Rattle.desk_base.proofs.LinesOnce.{cuts_once}
use Rattle.desk_base.proofs.Texts.{are_ascii}
use Rattle.desk_credits.specs.Finding.{FindsIf, found_notice, found_on, place_of}
use Rattle.desk_credits.specs.Patterns.{notice_in}
use Rattle.desk_credits.proofs.laws.patterns_are_these.Goals as goal

ascii_utf8 : (bs : List ℕ) → list_all (λ b. nat_lt b 128) bs ≡ true → is_utf8 bs ≡ true
ascii_utf8 bs are = is_utf8-from_IsUtf8 bs (IsUtf8-from_ascii bs (are_ascii bs are))

firm : is_utf8 (codes "Copyright 2024 Firm") ≡ true
firm = ascii_utf8 (codes "Copyright 2024 Firm") refl

marked : is_utf8 (codes "(c) Firm") ≡ true
marked = ascii_utf8 (codes "(c) Firm") refl

both : is_utf8 (codes "// Copyright 2024 Firm\nCopyright 2025 Other\n") ≡ true
both = ascii_utf8 (codes "// Copyright 2024 Firm\nCopyright 2025 Other\n") refl

word : notice_in (codes "// Copyright 2024 Firm") ≡ Some (codes "Copyright 2024 Firm")
word = rw firm refl

mark : notice_in (codes "\t/* (c) Firm */ ") ≡ Some (codes "(c) Firm")
mark = rw marked refl

-- ---- the lines of the file

not_ten : (b : ℕ) → not (b == 10) ≡ true → b ≢ 10
not_ten b is e = let never : false ≡ true = sym (ap (λ n. not (n == 10)) e) ∙ is in cc

no_lf : (bs : List ℕ) → list_all (λ b. not (b == 10)) bs ≡ true → All (λ b. b ≢ 10) bs
no_lf [] are = λ k d lt. absurd (omega arith)
no_lf (b ∷ bs) are = All-cons (λ b. b ≢ 10) b bs
    (not_ten b (and_left (not (b == 10)) (list_all (λ b. not (b == 10)) bs) are))
    (no_lf bs (and_right (not (b == 10)) (list_all (λ b. not (b == 10)) bs) are))

abbrev the_lines : List LineText
the_lines = record { number = 1; text = codes "// Copyright 2024 Firm"; end = Lf }
    ∷ record { number = 2; text = codes "Copyright 2025 Other"; end = Lf } ∷ []

cut : CutsInto 1 (codes "// Copyright 2024 Firm\nCopyright 2025 Other\n") the_lines
cut = (
  codes "Copyright 2025 Other\n",
  refl,
  record {
    cut = refl;
    no_lf = no_lf (codes "// Copyright 2024 Firm") refl;
    ends = λ e. omega (arith, e);
  },
  (
    [],
    refl,
    record {
      cut = refl;
      no_lf = no_lf (codes "Copyright 2025 Other") refl;
      ends = λ e. omega (arith, e);
    },
    refl,
  ),
)

found : (path : List ℕ)
    → found_on path the_lines ≡ found_notice (place_of path 1) (codes "Copyright 2024 Firm") ∷ []
found path = ap (λ o. cons_option (option_map (found_notice (place_of path 1)) o) []) word

pub returns-clause-word : goal.returns-clause-word
returns-clause-word c = word

pub returns-clause-mark : goal.returns-clause-mark
returns-clause-mark c = mark

pub returns-clause-file : goal.returns-clause-file
returns-clause-file c path notices finds =
    let bytes = codes "// Copyright 2024 Firm\nCopyright 2025 Other\n" in
    let told : FindsIf true path bytes notices = subst (λ b. FindsIf b path bytes notices) both finds in
    told.2 ∙ ap (found_on path) (cuts_once 1 bytes told.0 the_lines told.1 cut) ∙ found path
