-- What more bytes do to a script.
use Rattle.std.proofs.Common.{◌≡◌, ◌≢◌, ℕ, ◌+◌, true, false, List, [], ◌∷◌, ◌++◌, Option, None}
use Rattle.std.proofs.Common.{Some, length, refl, sym, ap, ◌∙◌, subst, arith, append_assoc}
use Rattle.std.proofs.Common.{append-nil}
use Rattle.std.specs.Prelude.{All, if◌then◌else◌}
use Rattle.std.specs.Io.KnownBytes.{Consumes, IsAtEnd}
use Rattle.std.proofs.lemmas.List.Elements.{All-nil, All-cons, All-append}
use Rattle.desk_base.specs.Lines.{CutsInto, IsLine, LineText}
use Rattle.desk_base.specs.declared.lines.LineEnd.{LineEnd}
use Rattle.desk_base.specs.declared.lines.LineEnd.TheVariants.{Nothing}
use Rattle.desk_model.specs.Readings.{Readings}
use Rattle.desk_model.specs.Tables.{Tables}
use Rattle.desk_model.specs.declared.command.StoreFault.{StoreFault}
use Rattle.desk_access.specs.Seen.{Seen}
use Rattle.desk_json.specs.declared.request.Request.{Request}
use Rattle.desk_script.specs.Gathered.{Shows}
use Rattle.desk_script.specs.Lines.{BeginsWith, is_blank_line, request_at, request_of, requests_of}
use Rattle.desk_script.specs.Losses.{IfStop, IsOfLine}
use Rattle.desk_script.specs.Script.{AreLeft, HasServed, IsCutOff, IsFront, IsFrontAt, IsPart}
use Rattle.desk_script.specs.Script.{IsScript, IsUncounted, Serves, ServesUntil}
use Rattle.desk_script.specs.declared.line.Line.{Line}
use Rattle.desk_script.specs.declared.serving.ScriptEnd.{ScriptEnd}
use Rattle.desk_script.specs.declared.serving.ScriptStop.{ScriptStop}
use Rattle.desk_script.proofs.Cutting.{BeginsWith-more, BeginsWith-append, CutsInto-append, requests_of-append}
use Rattle.desk_script.proofs.Chains.{HasRun-of, IsRun-of, Serves-none, Serves-then, ServesUntil-line, ServesUntil-then}
use Rattle.desk_script.proofs.Gathering.{IsLine-of, no_lf-of}

no_lines : All (λ (l : LineText). l.end ≢ Nothing) []
no_lines = All-nil (λ (l : LineText). l.end ≢ Nothing)

-- the requests of one line
requests_of-one : (number : ℕ) (text : List ℕ) (end : LineEnd)
    → requests_of (record { number = number; text = text; end = end } ∷ []) ≡ request_at text
requests_of-one number text end = elim (is_blank_line text) as
    (λ b. (if b then [] else request_of text ∷ []) ≡ (if b then [] else request_of text ∷ []))
    [ true ↦ refl | false ↦ refl ]

-- the line that an LF ends
line_of_came : (number : ℕ) (came more : List ℕ) (line : Line) → (shows : Shows line came)
    → All (λ b. b ≢ 10) came
    → (end : LineEnd) × (end ≢ Nothing)
    × BeginsWith number (came ++ 10 ∷ more)
    (record { number = number; text = shows.0; end = end } ∷ []) more
line_of_came number came more line shows no_lf =
    let is = IsLine-of line.ends_by_cr came shows.0 more shows.2 shows.3
    (no_lf-of line.ends_by_cr came shows.0 shows.2 no_lf) in
    (is.0, is.1, (more, refl, is.2, refl))

-- the last line, which may be none
last_line : (number : ℕ) (came : List ℕ) → All (λ b. b ≢ 10) came
    → (lines : List LineText) × CutsInto number came lines × BeginsWith number came lines []
    × (requests_of lines ≡ request_at came)
last_line number [] no_lf = ([], refl, refl, refl)
last_line number (b ∷ bs) no_lf =
    let line : IsLine (b ∷ bs) (b ∷ bs) Nothing [] =
    record { cut = sym (append-nil (b ∷ bs)); no_lf = no_lf; ends = (refl, omega arith) } in (
      record { number = number; text = b ∷ bs; end = Nothing } ∷ [],
      ([], refl, line, refl),
      ([], refl, line, refl),
      requests_of-one number (b ∷ bs) Nothing,
    )

module _ (is_right : Readings → Type 0) (tells : StoreFault → Type 0) {Left Desk : Type 0}
    (stands : Left → Tables → Type 0) (seen : Desk → Seen Left) where
  -- nothing came but a line so far
  pub HasServed-came : (number : ℕ) (came : List ℕ) (now : Desk) (w : Option (List ℕ))
      (from : ScriptEnd) (line : Line) → Shows line came → All (λ b. b ≢ 10) came
      → HasServed is_right tells stands seen number came now now w w from from line
  HasServed-came number came now w from line shows no_lf = record {
    lines = [];
    came = came;
    begins = refl;
    fed = no_lines;
    no_lf = no_lf;
    shows = shows;
    serves = Serves-none is_right tells stands seen now w from;
  }

  -- bytes that contain no LF
  pub HasServed-run : (number : ℕ) (front run : List ℕ) (before now : Desk) (u v : Option (List ℕ))
      (from to : ScriptEnd) (line next : Line)
      → (h : HasServed is_right tells stands seen number front before now u v from to line)
      → All (λ b. b ≢ 10) run → Shows next (h.came ++ run)
      → HasServed is_right tells stands seen number (front ++ run) before now u v from to next
  HasServed-run number front run before now u v from to line next h no_lf shows = record {
    lines = h.lines;
    came = h.came ++ run;
    begins = BeginsWith-more number front h.lines h.came run h.begins h.fed;
    fed = h.fed;
    no_lf = All-append (λ (b : ℕ). b ≢ 10) h.came run h.no_lf no_lf;
    shows = shows;
    serves = h.serves;
  }

  both_served : (lines more : List LineText) (a b c : Desk) (u v w : Option (List ℕ))
      (from mid to : ScriptEnd) → Serves is_right tells stands seen (requests_of lines) a b u v from
      mid
      → Serves is_right tells stands seen (requests_of more) b c v w mid to
      → Serves is_right tells stands seen (requests_of (lines ++ more)) a c u w from to
  both_served lines more a b c u v w from mid to h k =
      subst (λ (rs : List Request). Serves is_right tells stands seen rs a c u w from to)
      (sym (requests_of-append lines more))
      (Serves-then is_right tells stands seen a b c (requests_of lines) (requests_of more) u v w
      from mid to h k)

  served_until : (fault : ScriptStop) (lines more : List LineText) (a b c : Desk)
      (u v w : Option (List ℕ)) (from mid : ScriptEnd)
      → IfStop (IsUncounted from mid) fault
      → Serves is_right tells stands seen (requests_of lines) a b u v from mid
      → ServesUntil is_right tells stands seen fault (requests_of more) b c v w
      → ServesUntil is_right tells stands seen fault (requests_of (lines ++ more)) a c u w
  served_until fault lines more a b c u v w from mid still h k =
      subst (λ (rs : List Request). ServesUntil is_right tells stands seen fault rs a c u w)
      (sym (requests_of-append lines more))
      (ServesUntil-then is_right tells stands seen fault a b c (requests_of lines)
      (requests_of more) u v w from mid still h k)

  -- more bytes, after the line so far
  pub HasServed-then : (number : ℕ) (front more : List ℕ) (a b c : Desk) (u v w : Option (List ℕ))
      (from mid to : ScriptEnd) (line next : Line)
      → (h : HasServed is_right tells stands seen number front a b u v from mid line)
      → HasServed is_right tells stands seen (number + length h.lines) (h.came ++ more) b c v w mid
      to next
      → HasServed is_right tells stands seen number (front ++ more) a c u w from to next
  HasServed-then number front more a b c u v w from mid to line next h k = record {
    lines = h.lines ++ k.lines;
    came = k.came;
    begins = BeginsWith-append number (front ++ more) h.lines k.lines (h.came ++ more) k.came
        (BeginsWith-more number front h.lines h.came more h.begins h.fed) k.begins;
    fed = All-append (λ (l : LineText). l.end ≢ Nothing) h.lines k.lines h.fed k.fed;
    no_lf = k.no_lf;
    shows = k.shows;
    serves = both_served h.lines k.lines a b c u v w from mid to h.serves k.serves;
  }

  pub IsFrontAt-then : (number : ℕ) (fault : ScriptStop) (front more : List ℕ) (a b c : Desk)
      (u v w : Option (List ℕ)) (from mid : ScriptEnd) (line : Line)
      → IfStop (IsUncounted from mid) fault
      → (h : HasServed is_right tells stands seen number front a b u v from mid line)
      → IsFrontAt is_right tells stands seen (number + length h.lines) fault (h.came ++ more) b c v
      w
      → IsFrontAt is_right tells stands seen number fault (front ++ more) a c u w
  IsFrontAt-then number fault front more a b c u v w from mid line still h k = record {
    lines = h.lines ++ k.lines;
    rest = k.rest;
    begins = BeginsWith-append number (front ++ more) h.lines k.lines (h.came ++ more) k.rest
        (BeginsWith-more number front h.lines h.came more h.begins h.fed) k.begins;
    serves = served_until fault h.lines k.lines a b c u v w from mid still h.serves k.serves;
  }

  -- a fault that isn't that of a reply
  pub IsFrontAt-of : (number : ℕ) (fault : ScriptStop) (front more : List ℕ) (a b : Desk)
      (u v : Option (List ℕ)) (from to : ScriptEnd) (line : Line)
      → IsOfLine fault → HasServed is_right tells stands seen number front a b u v from to line
      → IsFrontAt is_right tells stands seen number fault (front ++ more) a b u v
  IsFrontAt-of number fault front more a b u v from to line of_line h = record {
    lines = h.lines;
    rest = h.came ++ more;
    begins = BeginsWith-more number front h.lines h.came more h.begins h.fed;
    serves = ServesUntil-line is_right tells stands seen fault a b (requests_of h.lines) u v from to
        of_line h.serves;
  }

  pub IsFront-at : (fault : ScriptStop) (bytes : List ℕ) (a b : Desk) (u v : Option (List ℕ))
      → IsFrontAt is_right tells stands seen 1 fault bytes a b u v
      → IsFront is_right tells stands seen fault bytes a b u v
  IsFront-at fault bytes a b u v f = record {
    lines = f.lines;
    rest = f.rest;
    replies = f.serves.replies;
    begins = f.begins;
    replied = f.serves.replied;
    run = IsRun-of is_right tells stands seen a b (requests_of f.lines) f.serves.replies
        f.serves.replied;
    fronts = HasRun-of is_right tells stands seen a b (requests_of f.lines) f.serves.replies
        f.serves.replied;
    told = f.serves.told;
  }

  pub IsCutOff-of : (front : List ℕ) (a b : Desk) (u v : Option (List ℕ)) (from to : ScriptEnd)
      (line : Line)
      → HasServed is_right tells stands seen 1 front a b u v from to line
      → IsCutOff is_right tells stands seen front a b u v
  IsCutOff-of front a b u v from to line h = record {
    lines = h.lines;
    rest = h.came;
    replies = h.serves.replies;
    begins = h.begins;
    fed = h.fed;
    no_lf = h.no_lf;
    replied = h.serves.replied;
    run = IsRun-of is_right tells stands seen a b (requests_of h.lines) h.serves.replies
        h.serves.replied;
    fronts = HasRun-of is_right tells stands seen a b (requests_of h.lines) h.serves.replies
        h.serves.replied;
    written = h.serves.written;
  }

  pub HasServed-line : (number : ℕ) (came : List ℕ) (a b : Desk) (u v : Option (List ℕ))
      (from to : ScriptEnd) (line next : Line) → (shows : Shows line came) → All (λ b. b ≢ 10) came
      → Serves is_right tells stands seen (request_at shows.0) a b u v from to → Shows next []
      → HasServed is_right tells stands seen number (came ++ 10 ∷ []) a b u v from to next
  HasServed-line number came a b u v from to line next shows no_lf serves none =
      let at = line_of_came number came [] line shows no_lf in
      let one : LineText = record { number = number; text = shows.0; end = at.0 } in
      record {
        lines = one ∷ [];
        came = [];
        begins = at.2;
        fed = All-cons (λ (l : LineText). l.end ≢ Nothing) one [] at.1 no_lines;
        no_lf = All-nil (λ (b : ℕ). b ≢ 10);
        shows = none;
        serves = subst (λ (rs : List Request). Serves is_right tells stands seen rs a b u v from to)
            (sym (requests_of-one number shows.0 at.0)) serves;
      }

  pub IsFrontAt-line : (number : ℕ) (fault : ScriptStop) (came more : List ℕ) (a b : Desk)
      (u v : Option (List ℕ)) (line : Line) → (shows : Shows line came)
      → All (λ b. b ≢ 10) came → ServesUntil is_right tells stands seen fault (request_at shows.0) a
      b u v
      → IsFrontAt is_right tells stands seen number fault (came ++ 10 ∷ more) a b u v
  IsFrontAt-line number fault came more a b u v line shows no_lf serves =
      let at = line_of_came number came more line shows no_lf in
      record {
        lines = record { number = number; text = shows.0; end = at.0 } ∷ [];
        rest = more;
        begins = at.2;
        serves = subst (λ (rs : List Request). ServesUntil is_right tells stands seen fault rs a b u
            v) (sym (requests_of-one number shows.0 at.0)) serves;
      }

  -- nothing was answered
  pub IsFrontAt-none : (number : ℕ) (fault : ScriptStop) (bytes : List ℕ) (a : Desk)
      (w : Option (List ℕ)) (from : ScriptEnd) → IsOfLine fault
      → IsFrontAt is_right tells stands seen number fault bytes a a w w
  IsFrontAt-none number fault bytes a w from of_line = record {
    lines = [];
    rest = bytes;
    begins = refl;
    serves = ServesUntil-line is_right tells stands seen fault a a [] w w from from of_line
        (Serves-none is_right tells stands seen a w from);
  }

  pub IsFrontAt-last : (number : ℕ) (fault : ScriptStop) (came : List ℕ) (a b : Desk)
      (u v : Option (List ℕ)) → All (λ b. b ≢ 10) came
      → ServesUntil is_right tells stands seen fault (request_at came) a b u v
      → IsFrontAt is_right tells stands seen number fault came a b u v
  IsFrontAt-last number fault came a b u v no_lf serves =
      let at = last_line number came no_lf in
      record {
        lines = at.0;
        rest = [];
        begins = at.2;
        serves = subst (λ (rs : List Request). ServesUntil is_right tells stands seen fault rs a b u
            v) (sym at.3) serves;
      }

  pub IsPart-last : (number : ℕ) (came : List ℕ) (a b : Desk) (u v : Option (List ℕ))
      (from to : ScriptEnd) → All (λ b. b ≢ 10) came
      → Serves is_right tells stands seen (request_at came) a b u v from to
      → IsPart is_right tells stands seen number came a b u v from to
  IsPart-last number came a b u v from to no_lf serves =
      let at = last_line number came no_lf in
      record {
        lines = at.0;
        cut = at.1;
        serves = subst (λ (rs : List Request). Serves is_right tells stands seen rs a b u v from to)
            (sym at.3) serves;
      }

  pub IsScript-of : (front : List ℕ) (a b c : Desk) (u v w : Option (List ℕ)) (mid to : ScriptEnd)
      (line : Line)
      → (h : HasServed is_right tells stands seen 1 front a b u v
      (record { refused = 0; failed = 0 }) mid line)
      → IsPart is_right tells stands seen (1 + length h.lines) h.came b c v w mid to
      → IsScript is_right tells stands seen front a c u w to
  IsScript-of front a b c u v w mid to line h k =
      let all : Serves is_right tells stands seen (requests_of
      (h.lines ++ k.lines)) a c u w (record { refused = 0; failed = 0 }) to =
      both_served h.lines k.lines a b c u v w (record { refused = 0; failed = 0 }) mid to h.serves
      k.serves in
      record {
        lines = h.lines ++ k.lines;
        replies = all.replies;
        cut = CutsInto-append 1 front h.lines k.lines h.came h.begins k.cut;
        replied = all.replied;
        run = IsRun-of is_right tells stands seen a c (requests_of (h.lines ++ k.lines)) all.replies
            all.replied;
        fronts = HasRun-of is_right tells stands seen a c (requests_of (h.lines ++ k.lines))
            all.replies all.replied;
        written = all.written;
        refused = omega (arith, all.refused);
        failed = omega (arith, all.failed);
      }

-- ---- the bytes of the reader

-- all that is left at the end was read
pub AreLeft-all : (old mid new : Option (List ℕ)) (front got : List ℕ) → Consumes old mid front
    → Consumes mid new got → got ≡ [] → IsAtEnd new → AreLeft old front
AreLeft-all None mid new front got h k none end = tt
AreLeft-all (Some xs) None new front got h k none end = absurd h
AreLeft-all (Some xs) (Some ys) None front got h k none end = absurd k
AreLeft-all (Some xs) (Some ys) (Some zs) front got h k none end =
    h ∙ (ap (λ (l : List ℕ). front ++ l) (k ∙ (ap (λ (l : List ℕ). l ++ zs) none ∙ end))
    ∙ append-nil front)

-- what was read and what wasn't is all that was left
pub AreLeft-front : (old mid : Option (List ℕ)) (front : List ℕ) → Consumes old mid front
    → (more : List ℕ) × AreLeft old (front ++ more)
AreLeft-front None mid front h = ([], tt)
AreLeft-front (Some xs) None front h = absurd h
AreLeft-front (Some xs) (Some ys) front h = (ys, h)

-- what came before the rest of a piece, and the rest
pub piece_rest : (front taken rest piece more : List ℕ) → piece ≡ taken ++ rest
    → (front ++ taken) ++ (rest ++ more) ≡ front ++ (piece ++ more)
piece_rest front taken rest piece more is =
    append_assoc front taken (rest ++ more)
    ∙ ap (λ (l : List ℕ). front ++ l)
    (sym (append_assoc taken rest more) ∙ sym (ap (λ (l : List ℕ). l ++ more) is))

-- the bytes before this piece and those taken of it were served
pub IsFrontAt-piece : (is_right : Readings → Type 0) (tells : StoreFault → Type 0)
    {Left Desk : Type 0} (stands : Left → Tables → Type 0) (seen : Desk → Seen Left) (number : ℕ)
    (fault : ScriptStop) (front taken rest piece more : List ℕ) (a b : Desk)
    (u v : Option (List ℕ)) (from to : ScriptEnd) (line : Line) → piece ≡ taken ++ rest
    → IsOfLine fault
    → HasServed is_right tells stands seen number (front ++ taken) a b u v from to line
    → IsFrontAt is_right tells stands seen number fault (front ++ (piece ++ more)) a b u v
IsFrontAt-piece is_right tells stands seen number fault front taken rest piece more a b u v from to
    line is of_line h =
    subst (λ (bs : List ℕ). IsFrontAt is_right tells stands seen number fault bs a b u v)
    (piece_rest front taken rest piece more is)
    (IsFrontAt-of is_right tells stands seen number fault (front ++ taken) (rest ++ more) a b u v
    from to line of_line h)

-- one more line of a piece
pub piece_cut : (taken text after rest piece : List ℕ) → piece ≡ taken ++ rest
    → rest ≡ text ++ 10 ∷ after → piece ≡ (taken ++ (text ++ 10 ∷ [])) ++ after
piece_cut taken text after rest piece is cut =
    is ∙ (ap (λ (l : List ℕ). taken ++ l) (cut ∙ sym (append_assoc text (10 ∷ []) after))
    ∙ sym (append_assoc taken (text ++ 10 ∷ []) after))

pub front_line : (front taken text : List ℕ)
    → ((front ++ taken) ++ text) ++ 10 ∷ [] ≡ front ++ (taken ++ (text ++ 10 ∷ []))
front_line front taken text = append_assoc (front ++ taken) text (10 ∷ [])
    ∙ append_assoc front taken (text ++ 10 ∷ [])

-- what came before a line of a piece, the line, and what follows it
pub piece_line : (front taken text after rest piece more : List ℕ) → piece ≡ taken ++ rest
    → rest ≡ text ++ 10 ∷ after
    → ((front ++ taken) ++ text) ++ 10 ∷ (after ++ more) ≡ front ++ (piece ++ more)
piece_line front taken text after rest piece more is cut =
    append_assoc (front ++ taken) text (10 ∷ (after ++ more))
    ∙ (ap (λ (l : List ℕ). (front ++ taken) ++ l)
    (sym (append_assoc text (10 ∷ after) more) ∙ sym (ap (λ (l : List ℕ). l ++ more) cut))
    ∙ piece_rest front taken rest piece more is)
