-- How many rows of problems there are, and of each kind.
use Rattle.std.proofs.Common.{◌≡◌, ◌∙◌, ℕ, zero, suc, ◌+◌, Bool, true, false, cond, List, [], ◌∷◌}
use Rattle.std.proofs.Common.{◌++◌, length, map, sym, ap, refl, arith, Option}
use Rattle.std.specs.Int.{from_bool}
use Rattle.std.specs.Prelude.{nat_eq, ◌==◌, count_by}
use Rattle.std.proofs.lemmas.Bool.Decides.{nat_tests}
use Rattle.std.proofs.lemmas.List.{length-map, length-append}
use Rattle.std.proofs.lemmas.List.Sums.{sum_by-append, sum_by-cons}
use Rattle.desk_expr.specs.declared.fault.ParseFault.{ParseFault}
use Rattle.desk_tree_gather.specs.declared.flaw.Flaw.{Flaw}
use Rattle.desk_tree_gather.specs.declared.flaw.Flaw.TheVariants.{TooManyFiles, BadPath, TwicePath}
use Rattle.desk_tree_gather.specs.declared.flaw.Flaw.TheVariants.{BadToml, BadAnnotation}
use Rattle.desk_tree_gather.specs.declared.flaw.Flaw.TheVariants.{BadExpression}
use Rattle.desk_tree_problems.specs.declared.problems.Problems.{Problems}
use Rattle.desk_tree_problems.specs.declared.row.Kind.{Kind}
use Rattle.desk_tree_problems.specs.declared.row.Kind.TheVariants as kind
use Rattle.desk_tree_problems.specs.declared.row.Row.{Row}
use Rattle.desk_tree_reports.specs.Reports.{count_of, is_none}
use Rattle.desk_tree_problems.specs.Rows.{kind_number, flaw_kind, flaw_row, IsFlawRow, AreFlawRows}
use Rattle.desk_tree_problems.specs.Rows.{dep5_rows, blank_row, missing_row, unused_row, bare_row}
use Rattle.desk_tree_problems.specs.Rows.{AreRows}

-- ---- all

told_each : (flaws : List Flaw) (told : List Row) → AreFlawRows flaws told
    → length told ≡ length flaws
told_each [] [] are = refl
told_each [] (r ∷ rs) are = absurd are
told_each (f ∷ fs) [] are = absurd are
told_each (f ∷ fs) (r ∷ rs) are = ap suc (told_each fs rs are.1)

abbrev pub dep5_count : Bool → ℕ
dep5_count dep5 = from_bool dep5

dep5_length : (dep5 : Bool) → length (dep5_rows dep5) ≡ dep5_count dep5
dep5_length true = refl
dep5_length false = refl

pub all_counted : (p : Problems) (rows : List Row) → AreRows p rows
    → dep5_count p.dep5 + (length p.flaws
    + (length p.blanks + (length p.names + (length p.unused + length p.bare)))) ≡ length rows
all_counted p rows are =
    let D = dep5_rows p.dep5 in
    let told = are.0 in
    let B = map blank_row p.blanks in
    let N = map missing_row p.names in
    let U = map unused_row p.unused in
    let A = map bare_row p.bare in
    sym (ap length are.2
    ∙ length-append D (told ++ (B ++ (N ++ (U ++ A))))
    ∙ ap (λ n. length D + n) (length-append told (B ++ (N ++ (U ++ A)))
    ∙ ap (λ n. length told + n) (length-append B (N ++ (U ++ A))
    ∙ ap (λ n. length B + n) (length-append N (U ++ A)
    ∙ ap (λ n. length N + n) (length-append U A))))
    ∙ (λ j. dep5_length p.dep5 j + (told_each p.flaws told are.1 j
    + (length-map p.blanks blank_row j
    + (length-map p.names missing_row j
    + (length-map p.unused unused_row j + length-map p.bare bare_row j))))))

pub not_none : (n : ℕ) → (n ≡ 0 → ⊥) → (n == 0) ≡ false
not_none zero some = absurd (some refl)
not_none (suc n) some = grind (arith, nat_tests)

pub none_counted : (rows : List Row) → (length rows == 0) ≡ is_none rows
none_counted [] = refl
none_counted (r ∷ rs) = let some : (suc (length rs) == 0) ≡ false = grind (arith, nat_tests) in some

-- ---- of a kind

abbrev is_of : Kind → Row → Bool
is_of k row = nat_eq (kind_number row.kind) (kind_number k)

abbrev pub of_kind : Kind → Flaw → Bool
of_kind k flaw = nat_eq (kind_number (flaw_kind flaw)) (kind_number k)

kind_told : (flaw : Flaw) (stop : Option ParseFault) → (flaw_row flaw stop).kind ≡ flaw_kind flaw
kind_told TooManyFiles stop = refl
kind_told (BadPath path) stop = refl
kind_told (TwicePath path) stop = refl
kind_told (BadToml path) stop = refl
kind_told (BadAnnotation path index fault) stop = refl
kind_told (BadExpression path line text) stop = refl

kind_of_row : (flaw : Flaw) (row : Row) → IsFlawRow flaw row → row.kind ≡ flaw_kind flaw
kind_of_row flaw row is = ap (λ (r : Row). r.kind) is.2 ∙ kind_told flaw is.0

flaws_counted : (k : Kind) (flaws : List Flaw) (told : List Row) → AreFlawRows flaws told
    → count_of k told ≡ count_by (of_kind k) flaws
flaws_counted k [] [] are = refl
flaws_counted k [] (r ∷ rs) are = absurd are
flaws_counted k (f ∷ fs) [] are = absurd are
flaws_counted k (f ∷ fs) (r ∷ rs) are =
    sum_by-cons (λ (row : Row). cond (is_of k row) 1 0) r rs
    ∙ (λ j. cond (nat_eq (kind_number (kind_of_row f r are.0 j)) (kind_number k)) 1 0
    + flaws_counted k fs rs are.1 j)
    ∙ sym (sum_by-cons (λ flaw. cond (of_kind k flaw) 1 0) f fs)

-- rows of one kind
each_counted : {A : Type 0} (row_of : A → Row) (k : Kind) → ((x : A) → is_of k (row_of x) ≡ true)
    → (xs : List A) → count_of k (map row_of xs) ≡ length xs
each_counted row_of k is [] = refl
each_counted row_of k is (x ∷ xs) =
    let one : 1 + length xs ≡ suc (length xs) = omega arith in
    sum_by-cons (λ (row : Row). cond (is_of k row) 1 0) (row_of x) (map row_of xs)
    ∙ (λ j. cond (is x j) 1 0 + each_counted row_of k is xs j) ∙ one

none_of : {A : Type 0} (row_of : A → Row) (k : Kind) → ((x : A) → is_of k (row_of x) ≡ false)
    → (xs : List A) → count_of k (map row_of xs) ≡ 0
none_of row_of k is [] = refl
none_of row_of k is (x ∷ xs) = sum_by-cons (λ (row : Row). cond (is_of k row) 1 0) (row_of x)
    (map row_of xs) ∙ (λ j. cond (is x j) 1 0 + none_of row_of k is xs j)

no_flaw_of : (k : Kind) → ((f : Flaw) → of_kind k f ≡ false) → (flaws : List Flaw)
    → count_by (of_kind k) flaws ≡ 0
no_flaw_of k is [] = refl
no_flaw_of k is (f ∷ fs) = sum_by-cons (λ flaw. cond (of_kind k flaw) 1 0) f fs
    ∙ (λ j. cond (is f j) 1 0 + no_flaw_of k is fs j)

module _ (k : Kind) where
  none_of_dep5 : nat_eq 0 (kind_number k) ≡ false → (dep5 : Bool) → count_of k (dep5_rows dep5) ≡ 0
  none_of_dep5 is true = λ j. 0 + cond (is j) 1 0
  none_of_dep5 is false = refl

  flaw_apart : nat_eq 1 (kind_number k) ≡ false → nat_eq 2 (kind_number k) ≡ false
      → nat_eq 3 (kind_number k) ≡ false → nat_eq 4 (kind_number k) ≡ false
      → nat_eq 5 (kind_number k) ≡ false → nat_eq 6 (kind_number k) ≡ false
      → (f : Flaw) → of_kind k f ≡ false
  flaw_apart a b c d e g TooManyFiles = a
  flaw_apart a b c d e g (BadPath path) = b
  flaw_apart a b c d e g (TwicePath path) = c
  flaw_apart a b c d e g (BadToml path) = d
  flaw_apart a b c d e g (BadAnnotation path index fault) = e
  flaw_apart a b c d e g (BadExpression path line text) = g

  abbrev test : Row → ℕ
  test row = cond (is_of k row) 1 0

  -- a kind is counted in each part
  by_parts : (p : Problems) (rows : List Row) → AreRows p rows → (d f b n u a total : ℕ)
      → count_of k (dep5_rows p.dep5) ≡ d → count_by (of_kind k) p.flaws ≡ f
      → count_of k (map blank_row p.blanks) ≡ b
      → count_of k (map missing_row p.names) ≡ n → count_of k (map unused_row p.unused) ≡ u
      → count_of k (map bare_row p.bare) ≡ a → d + (f + (b + (n + (u + a)))) ≡ total
      → total ≡ count_of k rows
  by_parts p rows are d f b n u a total is_d is_f is_b is_n is_u is_a is =
      let D = dep5_rows p.dep5 in
      let told = are.0 in
      let B = map blank_row p.blanks in
      let N = map missing_row p.names in
      let U = map unused_row p.unused in
      let A = map bare_row p.bare in
      sym (ap (count_of k) are.2
      ∙ sum_by-append test D (told ++ (B ++ (N ++ (U ++ A))))
      ∙ ap (λ m. count_of k D + m) (sum_by-append test told (B ++ (N ++ (U ++ A)))
      ∙ ap (λ m. count_of k told + m)
      (sum_by-append test B (N ++ (U ++ A))
      ∙ ap (λ m. count_of k B + m) (sum_by-append test N (U ++ A)
      ∙ ap (λ m. count_of k N + m) (sum_by-append test U A))))
      ∙ (λ j. is_d j + ((flaws_counted k p.flaws told are.1 ∙ is_f) j
      + (is_b j + (is_n j + (is_u j + is_a j)))))
      ∙ is)

  -- one of the flaws' kinds
  flaw_kind_counted : nat_eq 0 (kind_number k) ≡ false → nat_eq 7 (kind_number k) ≡ false
      → nat_eq 8 (kind_number k) ≡ false → nat_eq 9 (kind_number k) ≡ false
      → nat_eq 10 (kind_number k) ≡ false
      → (p : Problems) (rows : List Row) → AreRows p rows
      → count_by (of_kind k) p.flaws ≡ count_of k rows
  flaw_kind_counted d b n u a p rows are =
      by_parts p rows are 0 (count_by (of_kind k) p.flaws) 0 0 0 0 (count_by (of_kind k) p.flaws)
      (none_of_dep5 d p.dep5) refl (none_of blank_row k (λ x. b) p.blanks)
      (none_of missing_row k (λ x. n) p.names)
      (none_of unused_row k (λ x. u) p.unused) (none_of bare_row k (λ x. a) p.bare) (omega arith)

dep5_counted : (dep5 : Bool) → count_of kind.Dep5 (dep5_rows dep5) ≡ dep5_count dep5
dep5_counted true = refl
dep5_counted false = refl

-- how many problems of a kind there are
abbrev pub told_of : Problems → Kind → ℕ
told_of p kind.Dep5 = dep5_count p.dep5
told_of p kind.TooManyFiles = count_by (of_kind kind.TooManyFiles) p.flaws
told_of p kind.BadPath = count_by (of_kind kind.BadPath) p.flaws
told_of p kind.TwicePath = count_by (of_kind kind.TwicePath) p.flaws
told_of p kind.BadToml = count_by (of_kind kind.BadToml) p.flaws
told_of p kind.BadAnnotation = count_by (of_kind kind.BadAnnotation) p.flaws
told_of p kind.BadExpression = count_by (of_kind kind.BadExpression) p.flaws
told_of p kind.BlankAtEnd = length p.blanks
told_of p kind.Missing = length p.names
told_of p kind.Unused = length p.unused
told_of p kind.Bare = length p.bare

no_flaws : (k : Kind) → ((f : Flaw) → of_kind k f ≡ false) → (p : Problems)
    → count_by (of_kind k) p.flaws ≡ 0
no_flaws k is p = no_flaw_of k is p.flaws

pub kind_counted : (p : Problems) (rows : List Row) (k : Kind) → AreRows p rows
    → told_of p k ≡ count_of k rows
kind_counted p rows kind.Dep5 are =
    by_parts kind.Dep5 p rows are (dep5_count p.dep5) 0 0 0 0 0 (dep5_count p.dep5)
    (dep5_counted p.dep5) (no_flaws kind.Dep5 (flaw_apart kind.Dep5 refl refl refl refl refl refl)
    p)
    (none_of blank_row kind.Dep5 (λ x. refl) p.blanks)
    (none_of missing_row kind.Dep5 (λ x. refl) p.names)
    (none_of unused_row kind.Dep5 (λ x. refl) p.unused)
    (none_of bare_row kind.Dep5 (λ x. refl) p.bare) (omega arith)
kind_counted p rows kind.TooManyFiles are = flaw_kind_counted kind.TooManyFiles refl refl refl refl
    refl p rows are
kind_counted p rows kind.BadPath are = flaw_kind_counted kind.BadPath refl refl refl refl refl p
    rows are
kind_counted p rows kind.TwicePath are = flaw_kind_counted kind.TwicePath refl refl refl refl refl p
    rows are
kind_counted p rows kind.BadToml are = flaw_kind_counted kind.BadToml refl refl refl refl refl p
    rows are
kind_counted p rows kind.BadAnnotation are = flaw_kind_counted kind.BadAnnotation refl refl refl
    refl refl p rows are
kind_counted p rows kind.BadExpression are = flaw_kind_counted kind.BadExpression refl refl refl
    refl refl p rows are
kind_counted p rows kind.BlankAtEnd are =
    by_parts kind.BlankAtEnd p rows are 0 0 (length p.blanks) 0 0 0 (length p.blanks)
    (none_of_dep5 kind.BlankAtEnd refl p.dep5)
    (no_flaws kind.BlankAtEnd (flaw_apart kind.BlankAtEnd refl refl refl refl refl refl) p)
    (each_counted blank_row kind.BlankAtEnd (λ x. refl) p.blanks)
    (none_of missing_row kind.BlankAtEnd (λ x. refl) p.names)
    (none_of unused_row kind.BlankAtEnd (λ x. refl) p.unused)
    (none_of bare_row kind.BlankAtEnd (λ x. refl) p.bare) (omega arith)
kind_counted p rows kind.Missing are =
    by_parts kind.Missing p rows are 0 0 0 (length p.names) 0 0 (length p.names)
    (none_of_dep5 kind.Missing refl p.dep5)
    (no_flaws kind.Missing (flaw_apart kind.Missing refl refl refl refl refl refl) p)
    (none_of blank_row kind.Missing (λ x. refl) p.blanks)
    (each_counted missing_row kind.Missing (λ x. refl) p.names)
    (none_of unused_row kind.Missing (λ x. refl) p.unused)
    (none_of bare_row kind.Missing (λ x. refl) p.bare) (omega arith)
kind_counted p rows kind.Unused are =
    by_parts kind.Unused p rows are 0 0 0 0 (length p.unused) 0 (length p.unused)
    (none_of_dep5 kind.Unused refl p.dep5)
    (no_flaws kind.Unused (flaw_apart kind.Unused refl refl refl refl refl refl) p)
    (none_of blank_row kind.Unused (λ x. refl) p.blanks)
    (none_of missing_row kind.Unused (λ x. refl) p.names)
    (each_counted unused_row kind.Unused (λ x. refl) p.unused)
    (none_of bare_row kind.Unused (λ x. refl) p.bare) (omega arith)
kind_counted p rows kind.Bare are =
    by_parts kind.Bare p rows are 0 0 0 0 0 (length p.bare) (length p.bare)
    (none_of_dep5 kind.Bare refl p.dep5)
    (no_flaws kind.Bare (flaw_apart kind.Bare refl refl refl refl refl refl) p)
    (none_of blank_row kind.Bare (λ x. refl) p.blanks)
    (none_of missing_row kind.Bare (λ x. refl) p.names)
    (none_of unused_row kind.Bare (λ x. refl) p.unused)
    (each_counted bare_row kind.Bare (λ x. refl) p.bare) (omega arith)

-- a kind of flaws
pub flaws_kind_counted : (p : Problems) (rows : List Row) (k : Kind) → (k ≡ kind.Dep5 → ⊥)
    → (k ≡ kind.BlankAtEnd → ⊥) → (k ≡ kind.Missing → ⊥) → (k ≡ kind.Unused → ⊥)
    → (k ≡ kind.Bare → ⊥) → AreRows p rows
    → count_by (of_kind k) p.flaws ≡ count_of k rows
flaws_kind_counted p rows kind.Dep5 d b m u a are = absurd (d refl)
flaws_kind_counted p rows kind.TooManyFiles d b m u a are = kind_counted p rows kind.TooManyFiles
    are
flaws_kind_counted p rows kind.BadPath d b m u a are = kind_counted p rows kind.BadPath are
flaws_kind_counted p rows kind.TwicePath d b m u a are = kind_counted p rows kind.TwicePath are
flaws_kind_counted p rows kind.BadToml d b m u a are = kind_counted p rows kind.BadToml are
flaws_kind_counted p rows kind.BadAnnotation d b m u a are = kind_counted p rows kind.BadAnnotation
    are
flaws_kind_counted p rows kind.BadExpression d b m u a are = kind_counted p rows kind.BadExpression
    are
flaws_kind_counted p rows kind.BlankAtEnd d b m u a are = absurd (b refl)
flaws_kind_counted p rows kind.Missing d b m u a are = absurd (m refl)
flaws_kind_counted p rows kind.Unused d b m u a are = absurd (u refl)
flaws_kind_counted p rows kind.Bare d b m u a are = absurd (a refl)
