-- The lines of packages, one more at a time.
use Rattle.std.proofs.Common.{◌≡◌, ◌∙◌, ◌+◌, ◌<◌, ◌≤◌, ℕ, Bool, true, false, List, [], ◌∷◌, ◌++◌}
use Rattle.std.proofs.Common.{Option, Some, None, length, drop, drop-cons, get_or, add-one}
use Rattle.std.proofs.Common.{append_assoc, sym, ap, subst, refl}
use Rattle.std.specs.Prelude.{◌&&◌, not, is_some, map, option_and_then, slice_index_or}
use Rattle.std.specs.Prelude.{if◌then◌else◌, Result, Ok, Err, String, IfOk, OnOk}
use Rattle.std.specs.String.{string_bytes}
use Rattle.std.specs.declared.alloc.AllocError.{AllocError}
use Rattle.std.specs.declared.alloc.Global.{Global}
use Rattle.std.proofs.lemmas.List.{append-nil, drop_all}
use Rattle.desk_expr.specs.Tree.{Tree}
use Rattle.desk_findings.specs.Fields.{is_no_licence}
use Rattle.desk_tagvalue.specs.Parts.{PackageText}
use Rattle.desk_expr.specs.Printing.{printed}
use Rattle.desk_expr.specs.Spelling.{Spells}
use Rattle.desk_import.specs.Proposals.{AreLines, IsLine, declared_tree, request_line}
use Rattle.desk_import.specs.Summaries.{grants_nothing, is_declared, is_licence, same_standing, standing_of, standings_of}
use Rattle.desk_import.specs.declared.summary.Standing.{Standing}
use Rattle.desk_import.specs.declared.summary.Standing.TheVariants.{Aside, Concluded, Declared, Neither}

other : (s t : Standing) → same_standing s Declared ≡ true → s ≡ t → same_standing t Declared ≡ true
other s t is e = subst (λ u. same_standing u Declared ≡ true) e is

unread : (b : Bool) (o : Option Tree) → None ≡ o → (b && is_some o) ≡ false
unread true o none = ap is_some (sym none)
unread false o none = refl

also_false : (b : Bool) {a : Bool} → a ≡ false → (a && b) ≡ false
also_false b e = ap (λ (a : Bool). a && b) e

declared_by : (reads : List ℕ → Option Tree) (is_concluded : Bool) (declared : Option (List ℕ))
    (s : Standing) → same_standing s Declared ≡ true
    → s ≡ (if is_concluded then Concluded else if is_declared reads declared then Declared
    else Neither) → None ≡ option_and_then reads declared → ⊥
declared_by reads true declared s is e none = absurd (cc (other s Concluded is e))
declared_by reads false None s is e none = absurd (cc (other s Neither is e))
declared_by reads false (Some value) s is e none =
    let known = also_false (not (grants_nothing value))
    (unread (not (is_no_licence value)) (reads value) none) in
    let neither : s ≡ Neither = e ∙ ap (λ (b : Bool). if b then Declared else Neither) known in
    absurd (cc (other s Neither is neither))

-- if only a declared licence is given for a package, it is an expression
pub declared_reads : (reads : List ℕ → Option Tree) (p : PackageText) (ships : Bool) (s : Standing)
    → same_standing s Declared ≡ true
    → s ≡ standing_of reads p ships → None ≡ declared_tree reads p → ⊥
declared_reads reads p true s is e none = declared_by reads (is_licence reads p.concluded)
    p.declared s is e none
declared_reads reads p false s is e none = absurd (cc (other s _ is e))

-- a package with any other standing has no line
pub no_line : (reads : List ℕ → Option Tree) (document : ℕ) (p : PackageText) (s : Standing)
    (line : List ℕ) → same_standing s Declared ≡ false
    → line ≡ [] → IsLine reads document p s line
no_line reads document p Declared line is e = absurd (cc)
no_line reads document p Aside line is e = e
no_line reads document p Concluded line is e = e
no_line reads document p Neither line is e = e

-- and a package with only a declared licence has this one
pub proposed : (reads : List ℕ → Option Tree) (document : ℕ) (p : PackageText) (s : Standing)
    (tree : Tree) (result : Result (String Global) AllocError)
    → same_standing s Declared ≡ true → Some tree ≡ declared_tree reads p
    → IfOk result (λ line. string_bytes line ≡ request_line document p.id (printed tree))
    → OnOk result (Spells (printed tree) tree)
    → IfOk result (λ line. IsLine reads document p s (string_bytes line))
proposed reads document p s tree (Err error) is declared text spells = tt
proposed reads document p Declared tree (Ok line) is declared text spells =
    record { tree = tree; declared = sym declared; spells = spells; is_line = text }
proposed reads document p Aside tree (Ok line) is declared text spells = absurd (cc)
proposed reads document p Concluded tree (Ok line) is declared text spells = absurd (cc)
proposed reads document p Neither tree (Ok line) is declared text spells = absurd (cc)

pub one_line : {P : Type 0} (f : P → PackageText) (reads : List ℕ → Option Tree) (document : ℕ)
    (packages : List P) (i : ℕ) (p : P) (mark : Bool) (marks behind : List Bool)
    (s : Standing) (line done more : List ℕ) (ps : List PackageText) (ss : List Standing)
    → i < length packages → mark ≡ slice_index_or marks 0 false → behind ≡ drop 1 marks
    → s ≡ standing_of reads (f (get_or packages i p)) mark
    → IsLine reads document (f (get_or packages i p)) s line → more ≡ done ++ line
    → ((rest : List ℕ) → AreLines reads document (map f (drop i packages))
    (standings_of reads (map f (drop i packages)) marks) rest
    → AreLines reads document ps ss (done ++ rest))
    → (rest : List ℕ) → AreLines reads document (map f (drop (i + 1) packages))
    (standings_of reads (map f (drop (i + 1) packages)) behind) rest
    → AreLines reads document ps ss (more ++ rest)
one_line f reads document packages i p mark marks behind s line done more ps ss within is_mark
    is_behind is_s is_line is_more before rest are =
    let x = f (get_or packages i p) in
    let tail = map f (drop (i + 1) packages) in
    let cut : drop i packages ≡ get_or packages i p ∷ drop (i + 1) packages =
    rw (add-one i) (drop-cons packages i p within) in
    let first : IsLine reads document x (standing_of reads x (slice_index_or marks 0 false)) line =
    subst (λ (t : Standing). IsLine reads document x t line)
    (is_s ∙ ap (λ (b : Bool). standing_of reads x b) is_mark) is_line in
    let others : AreLines reads document tail (standings_of reads tail (drop 1 marks)) rest =
    subst (λ (bs : List Bool). AreLines reads document tail (standings_of reads tail bs) rest)
    is_behind are in
    let here : AreLines reads document (x ∷ tail) (standings_of reads (x ∷ tail) marks) (line
    ++ rest) = (
      line,
      rest,
      first,
      others,
      refl,
    ) in
    let there : AreLines reads document (map f (drop i packages)) (standings_of reads
    (map f (drop i packages)) marks) (line ++ rest) =
    subst (λ qs. AreLines reads document (map f qs) (standings_of reads (map f qs) marks)
    (line ++ rest)) (sym cut) here in
    subst (λ (t : List ℕ). AreLines reads document ps ss t)
    (sym (append_assoc done line rest) ∙ ap (λ l. l ++ rest) (sym is_more))
    (before (line ++ rest) there)

-- at the end no package is left, and these are all lines
pub no_more : {P : Type 0} (f : P → PackageText) (reads : List ℕ → Option Tree) (document : ℕ)
    (packages : List P) (i : ℕ) (rest : List Bool) (lines : List ℕ) (ps : List PackageText)
    (ss : List Standing)
    → length packages ≤ i
    → ((behind : List ℕ) → AreLines reads document (map f (drop i packages))
    (standings_of reads (map f (drop i packages)) rest) behind
    → AreLines reads document ps ss (lines ++ behind))
    → AreLines reads document ps ss lines
no_more f reads document packages i rest lines ps ss end before =
    let none : AreLines reads document (map f (drop i packages)) (standings_of reads
    (map f (drop i packages)) rest) [] =
    subst (λ qs. AreLines reads document (map f qs) (standings_of reads (map f qs) rest) [])
    (sym (drop_all i packages end)) refl in
    subst (λ (t : List ℕ). AreLines reads document ps ss t) (append-nil lines) (before [] none)
