-- The last `*` and the last `**` are enough to go back to.
use Rattle.std.proofs.Common.{◌≡◌, ◌≢◌, ◌∙◌, ◌⊎◌, inl, inr, ℕ, List, [], ◌∷◌, ◌++◌, length, sym}
use Rattle.std.proofs.Common.{subst, ap, refl, arith, append_assoc, ⊎_elim}
use Rattle.std.specs.Prelude.{Option, Some, None, IfSome}
use Rattle.std.proofs.lemmas.List.Elements.{All-get_or, All-tail, All-append, All-cons}
use Rattle.std.proofs.lemmas.List.{nil_from_length}
use Rattle.desk_tree_patterns.specs.declared.glob.Piece.{Piece}
use Rattle.desk_tree_patterns.specs.declared.glob.Piece.TheVariants.{Byte, InName, InPath}
use Rattle.desk_tree_patterns.specs.Glob.{IsMatch, Covers}
use Rattle.desk_tree_patterns.specs.Steps.{Spot, State, Passes, Longer, NoLonger, IsBehindName}
use Rattle.desk_tree_patterns.specs.Steps.{Further, ByByte, ByName, ByPath, ByLongerName}
use Rattle.desk_tree_patterns.specs.Steps.{ByNextName, Steps, Ends}
use Rattle.desk_tree_patterns.proofs.Names.{bounded, behind_once}

-- the pieces that take stretches of many lengths
pub data Wild : Piece → Type 0 where
  wild_name : Wild InName
  wild_path : Wild InPath

-- a text after a stretch of another
pub record Later (w : Piece) (text rest : List ℕ) : Type 0 where
  pub stretch : List ℕ
  pub cut : text ≡ stretch ++ rest
  pub covers : Covers w stretch

pub none_covered : (w : Piece) → Wild w → Covers w []
none_covered (Byte _) x = elim x [ ]
none_covered InName wild_name = λ k d lt. absurd (omega arith)
none_covered InPath wild_path = tt

pub both_covered : (w : Piece) (a b : List ℕ) → Wild w → Covers w a → Covers w b → Covers w (a ++ b)
both_covered (Byte _) a b x h k = elim x [ ]
both_covered InName a b wild_name h k = All-append (λ c. c ≢ 47) a b h k
both_covered InPath a b wild_path h k = tt

pub tail_covered : (w : Piece) (c : ℕ) (a : List ℕ) → Wild w → Covers w (c ∷ a) → Covers w a
tail_covered (Byte _) c a x h = elim x [ ]
tail_covered InName c a wild_name h = All-tail (λ c. c ≢ 47) c a h
tail_covered InPath c a wild_path h = tt

pub one_covered : (w : Piece) (c : ℕ) (a : List ℕ) → Wild w → Covers w (c ∷ a) → Passes w c
one_covered (Byte _) c a x h = elim x [ ]
one_covered InName c a wild_name h = All-cons (λ c. c ≢ 47) c []
    (All-get_or (λ c. c ≢ 47) (c ∷ a) 0 0 (omega arith) h) (λ k d lt. absurd (omega arith))
one_covered InPath c a wild_path h = tt

later_here : (w : Piece) (t : List ℕ) → Wild w → Later w t t
later_here w t h = record { stretch = []; cut = refl; covers = none_covered w h }

later_later : (w : Piece) (t u v : List ℕ) → Wild w → Later w t u → Later w u v → Later w t v
later_later w t u v h a b =
    record {
      stretch = a.stretch ++ b.stretch;
      cut = a.cut ∙ ap (λ l. a.stretch ++ l) b.cut
          ∙ sym (append_assoc a.stretch b.stretch v);
      covers = both_covered w a.stretch b.stretch h a.covers b.covers;
    }

-- any stretch is one of `**`
later_any : (w : Piece) (t u : List ℕ) → Later w t u → Later InPath t u
later_any w t u a = record { stretch = a.stretch; cut = a.cut; covers = tt }

-- a place later in the text at which the pieces match
pub record Reached (w : Piece) (s : Spot) : Type 0 where
  pub rest : List ℕ
  pub later : Later w s.text rest
  pub match : IsMatch s.pieces rest

-- if the pieces of one place match, there or later, so do those of the other
abbrev pub Leads : Piece → Spot → Spot → Type 0
Leads w a b = Reached w a → Reached w b

abbrev pub at : List Piece → List ℕ → Spot
at ps ts = record { pieces = ps; text = ts }

abbrev pub Fits : Spot → Type 0
Fits s = IsMatch s.pieces s.text

-- a match in which the last `*` takes more
abbrev pub Again : Option Spot → Type 0
Again o = (r : Spot) × Longer o r × IsMatch (InName ∷ r.pieces) r.text

-- one in which the last `**` comes to a later name
abbrev pub InLaterName : Option Spot → Type 0
InLaterName o = (r : Spot) × Further o r × IsMatch (InPath ∷ r.pieces) r.text

apart : (s : Spot) (a rest : List ℕ) → s.text ≡ a ++ rest → Covers InName a → IsMatch s.pieces rest
    → Fits s ⊎ Again (Some s)
apart s [] rest cut covers m = inl (subst (IsMatch s.pieces) (sym cut) m)
apart s (c ∷ a) rest cut covers m =
    inr (
      at s.pieces (a ++ rest),
      (c, refl, cut, one_covered InName c a wild_name covers),
      (a, rest, refl, tail_covered InName c a wild_name covers, m),
    )

-- in a match a first `*` takes nothing, or more
split_name : (s : Spot) → IsMatch (InName ∷ s.pieces) s.text → Fits s ⊎ Again (Some s)
split_name s m = apart s m.0 m.1 m.2 m.3 m.4

-- a first `**` stays in the name, as a `*` does, or comes to a later one
split_path : (s : Spot) → IsMatch (InPath ∷ s.pieces) s.text
    → Fits s ⊎ (Again (Some s) ⊎ InLaterName (Some s))
split_path s m =
    let within : Covers InName m.0 → Fits s ⊎ (Again (Some s) ⊎ InLaterName (Some s)) =
    λ covers. ⊎_elim (λ f. inl f) (λ a. inr (inl a)) (split_name s (m.0, m.1, m.2, covers, m.4)) in
    let beyond : (rest : List ℕ) × IsBehindName m.0 rest → Fits s ⊎ (Again (Some s)
    ⊎ InLaterName (Some s)) = λ b.
    let name = b.1.0 in
    let cut = m.2 ∙ ap (λ l. l ++ m.1) b.1.1 ∙ append_assoc name (47 ∷ b.0) m.1 in
    inr (inr (at s.pieces (b.0 ++ m.1), (refl, (name, cut, b.1.2)), (b.0, m.1, refl, tt, m.4))) in
    ⊎_elim within beyond (bounded m.0)

pub longer_out : (w : Piece) (qs : List Piece) (c : ℕ) (us : List ℕ) → Wild w → Passes w c
    → IsMatch (w ∷ qs) us → IsMatch (w ∷ qs) (c ∷ us)
longer_out w qs c us h k m = (
  c ∷ m.0,
  m.1,
  ap (λ t. c ∷ t) m.2,
  both_covered w (c ∷ []) m.0 h k m.3,
  m.4,
)

pub join_name : (s r : Spot) → Longer (Some s) r → IsMatch (InName ∷ r.pieces) r.text
    → IsMatch (InName ∷ s.pieces) s.text
join_name s r l m =
    let same : s ≡ at r.pieces (l.0 ∷ r.text) = λ i. record { pieces = l.1 i; text = l.2 i } in
    subst (λ x. IsMatch (InName ∷ x.pieces) x.text) (sym same)
    (longer_out InName r.pieces l.0 r.text wild_name l.3 m)

further_out : (ps : List Piece) (ts us : List ℕ) → IsBehindName ts us → IsMatch (InPath ∷ ps) us
    → IsMatch (InPath ∷ ps) ts
further_out ps ts us b m =
    let cut = b.1 ∙ ap (λ l. b.0 ++ (47 ∷ l)) m.2 ∙ sym (append_assoc b.0 (47 ∷ m.0) m.1) in
    (b.0 ++ (47 ∷ m.0), m.1, cut, tt, m.4)

pub join_path : (s r : Spot) → Further (Some s) r → IsMatch (InPath ∷ r.pieces) r.text
    → IsMatch (InPath ∷ s.pieces) s.text
join_path s r f m = further_out s.pieces s.text r.text f.1
    (subst (λ x. IsMatch (InPath ∷ x) r.text) (sym f.0) m)

taken : (w : Piece) (s : Spot) → IsMatch (w ∷ s.pieces) s.text → Reached w s
taken w s m = record {
  rest = m.1;
  later = record { stretch = m.0; cut = m.2; covers = m.3 };
  match = m.4;
}

again_reached : (s : Spot) → Again (Some s) → Reached InName s
again_reached s a = taken InName s (join_name s a.0 a.1 a.2)

later_reached : (s : Spot) → InLaterName (Some s) → Reached InPath s
later_reached s a = taken InPath s (join_path s a.0 a.1 a.2)

reached_match : (w : Piece) (ps : List Piece) (ts : List ℕ) → Wild w → Reached w (at (w ∷ ps) ts)
    → IsMatch (w ∷ ps) ts
reached_match w ps ts h r =
    let m = r.match in
    let l = later_later w ts r.rest m.1 h r.later
    (record { stretch = m.0; cut = m.2; covers = m.3 }) in
    (l.stretch, m.1, l.cut, l.covers, m.4)

reached_any : (w : Piece) (s : Spot) → Reached w s → Reached InPath s
reached_any w s r = record {
  rest = r.rest;
  later = later_any w s.text r.rest r.later;
  match = r.match;
}

by_byte : (w : Piece) (b : ℕ) (ts st rest r : List ℕ) → Wild w → b ∷ ts ≡ st ++ rest → Covers w st
    → rest ≡ b ∷ r → Later w ts r
by_byte w b ts [] rest r h cut covers is =
    let same : ts ≡ r = cc in
    subst (λ x. Later w ts x) same (later_here w ts h)
by_byte w b ts (c ∷ a) rest r h cut covers is =
    let same : ts ≡ a ++ rest = cc in
    let head : c ≡ b = cc in
    record {
      stretch = a ++ (b ∷ []);
      cut = same ∙ ap (λ l. a ++ l) is ∙ sym (append_assoc a (b ∷ []) r);
      covers = both_covered w a (b ∷ []) h (tail_covered w c a h covers)
          (subst (λ x. Passes w x) head (one_covered w c a h covers));
    }

leads_byte : (w : Piece) (b : ℕ) (ps : List Piece) (ts : List ℕ) → Wild w
    → Leads w (at (Byte b ∷ ps) (b ∷ ts)) (at ps ts)
leads_byte w b ps ts h r =
    let m = r.match in
    let is : r.rest ≡ b ∷ m.1 = m.2 ∙ ap (λ l. l ++ m.1) m.3 in
    record {
      rest = m.1;
      later = by_byte w b ts r.later.stretch r.rest m.1 h r.later.cut r.later.covers is;
      match = m.4;
    }

leads_wild : (w : Piece) (ps : List Piece) (ts : List ℕ) → Leads InPath (at (w ∷ ps) ts) (at ps ts)
leads_wild w ps ts r =
    let m = r.match in
    record {
      rest = m.1;
      later = later_later InPath ts r.rest m.1 wild_path r.later
          (record { stretch = m.0; cut = m.2; covers = tt });
      match = m.4;
    }

past : (w : Piece) (qs : List Piece) (c : ℕ) (us st rest : List ℕ) → Wild w
    → (IsMatch qs (c ∷ us) → ⊥) → c ∷ us ≡ st ++ rest → Covers w st → IsMatch qs rest
    → Reached w (at qs us)
past w qs c us [] rest h none cut covers m = absurd (none (subst (IsMatch qs) (sym cut) m))
past w qs c us (d ∷ a) rest h none cut covers m =
    let same : us ≡ a ++ rest = cc in
    record {
      rest = rest;
      later = record {
        stretch = a;
        cut = same;
        covers = tail_covered w d a h covers;
      };
      match = m;
    }

leads_past : (w : Piece) (qs : List Piece) (c : ℕ) (us : List ℕ) → Wild w
    → (IsMatch qs (c ∷ us) → ⊥) → Leads w (at qs (c ∷ us)) (at qs us)
leads_past w qs c us h none r = past w qs c us r.later.stretch r.rest h none r.later.cut
    r.later.covers r.match

byte_in : (b : ℕ) (ps : List Piece) (ts : List ℕ) → IsMatch (Byte b ∷ ps) (b ∷ ts) → IsMatch ps ts
byte_in b ps ts m =
    let whole : b ∷ ts ≡ b ∷ m.1 = m.2 ∙ ap (λ l. l ++ m.1) m.3 in
    let same : ts ≡ m.1 = cc in
    subst (IsMatch ps) (sym same) m.4

byte_out : (b : ℕ) (ps : List Piece) (ts : List ℕ) → IsMatch ps ts → IsMatch (Byte b ∷ ps) (b ∷ ts)
byte_out b ps ts m = (b ∷ [], ts, refl, refl, m)

pub empty_out : (w : Piece) (ps : List Piece) (ts : List ℕ) → Wild w → IsMatch ps ts
    → IsMatch (w ∷ ps) ts
empty_out w ps ts h m = ([], ts, refl, none_covered w h, m)

pub record Holds (all : List Piece) (whole : List ℕ) (s : State) : Type 0 where
  pub here : Fits s.here → IsMatch all whole
  pub name : IfSome s.name (λ n. IsMatch (InName ∷ n.pieces) n.text → IsMatch all whole)
  pub path : IfSome s.path (λ p. IsMatch (InPath ∷ p.pieces) p.text → IsMatch all whole)
  pub complete : IsMatch all whole → Fits s.here ⊎ (Again s.name ⊎ InLaterName s.path)
  pub name_leads : IfSome s.name (λ n. Leads InName n s.here)
  pub name_first : IfSome s.name (λ n. Fits n → Fits s.here)
  pub path_leads : IfSome s.path (λ p. Leads InPath p s.here)
  pub path_name : IfSome s.path (λ p. IfSome s.name (λ n. Leads InPath p n))

some_more : (o : Option Spot) (P Q : Spot → Type 0) → ((s : Spot) → P s → Q s) → IfSome o P
    → IfSome o Q
some_more None P Q f h = tt
some_more (Some s) P Q f h = f s h

abbrev pub st : Spot → Option Spot → Option Spot → State
st h n p = record { here = h; name = n; path = p }

pub holds_byte : (all : List Piece) (whole : List ℕ) (b : ℕ) (ps : List Piece) (ts : List ℕ)
    (n p : Option Spot) → Holds all whole (st (at (Byte b ∷ ps) (b ∷ ts)) n p)
    → Holds all whole (st (at ps ts) n p)
holds_byte all whole b ps ts n p h = record {
  here = λ m. h.here (byte_out b ps ts m);
  name = h.name;
  path = h.path;
  complete = λ g. ⊎_elim (λ m. inl (byte_in b ps ts m)) (λ r. inr r) (h.complete g);
  name_leads = some_more n _ (λ x. Leads InName x (at ps ts))
      (λ x l r. leads_byte InName b ps ts wild_name (l r)) h.name_leads;
  name_first = some_more n _ (λ x. Fits x → IsMatch ps ts) (λ x l m. byte_in b ps ts (l m))
      h.name_first;
  path_leads = some_more p _ (λ x. Leads InPath x (at ps ts))
      (λ x l r. leads_byte InPath b ps ts wild_path (l r)) h.path_leads;
  path_name = h.path_name;
}

name_again : (ps : List Piece) (ts : List ℕ) (n : Option Spot)
    → IfSome n (λ x. Leads InName x (at (InName ∷ ps) ts)) → Again n → IsMatch (InName ∷ ps) ts
name_again ps ts None l a = absurd a.1
name_again ps ts (Some x) l a = reached_match InName ps ts wild_name (l (again_reached x a))

holds_name : (all : List Piece) (whole : List ℕ) (ps : List Piece) (ts : List ℕ) (n p : Option Spot)
    → Holds all whole (st (at (InName ∷ ps) ts) n p)
    → Holds all whole (st (at ps ts) (Some (at ps ts)) p)
holds_name all whole ps ts n p h =
    let whole_or : IsMatch (InName ∷ ps) ts → IsMatch ps ts ⊎ (Again (Some (at ps ts))
    ⊎ InLaterName p) = λ m. ⊎_elim (λ f. inl f) (λ a. inr (inl a)) (split_name (at ps ts) m) in
    record {
      here = λ m. h.here (empty_out InName ps ts wild_name m);
      name = h.here;
      path = h.path;
      complete = λ g. ⊎_elim whole_or
          (λ r. ⊎_elim (λ a. whole_or (name_again ps ts n h.name_leads a)) (λ a. inr (inr a)) r)
          (h.complete g);
      name_leads = λ r. r;
      name_first = λ m. m;
      path_leads = some_more p _ (λ x. Leads InPath x (at ps ts))
          (λ x l r. leads_wild InName ps ts (l r)) h.path_leads;
      path_name = some_more p _ (λ x. Leads InPath x (at ps ts))
          (λ x l r. leads_wild InName ps ts (l r)) h.path_leads;
    }

path_again_name : (ps : List Piece) (ts : List ℕ) (n : Option Spot)
    → IfSome n (λ x. Leads InName x (at (InPath ∷ ps) ts)) → Again n → IsMatch (InPath ∷ ps) ts
path_again_name ps ts None l a = absurd a.1
path_again_name ps ts (Some x) l a = reached_match InPath ps ts wild_path
    (reached_any InName (at (InPath ∷ ps) ts) (l (again_reached x a)))

path_again : (ps : List Piece) (ts : List ℕ) (p : Option Spot)
    → IfSome p (λ x. Leads InPath x (at (InPath ∷ ps) ts)) → InLaterName p
    → IsMatch (InPath ∷ ps) ts
path_again ps ts None l a = absurd a.1
path_again ps ts (Some x) l a = reached_match InPath ps ts wild_path (l (later_reached x a))

-- a search that begins after a `**`
pub holds_new : (all : List Piece) (whole : List ℕ) (ps : List Piece) (ts : List ℕ)
    → (IsMatch (InPath ∷ ps) ts → IsMatch all whole)
    → (IsMatch all whole → IsMatch (InPath ∷ ps) ts)
    → Holds all whole (st (at ps ts) (Some (at ps ts)) (Some (at ps ts)))
holds_new all whole ps ts out in_ = record {
  here = λ m. out (empty_out InPath ps ts wild_path m);
  name = λ m. out (m.0, m.1, m.2, tt, m.4);
  path = out;
  complete = λ g. split_path (at ps ts) (in_ g);
  name_leads = λ r. r;
  name_first = λ m. m;
  path_leads = λ r. r;
  path_name = λ r. r;
}

holds_path : (all : List Piece) (whole : List ℕ) (ps : List Piece) (ts : List ℕ) (n p : Option Spot)
    → Holds all whole (st (at (InPath ∷ ps) ts) n p)
    → Holds all whole (st (at ps ts) (Some (at ps ts)) (Some (at ps ts)))
holds_path all whole ps ts n p h =
    holds_new all whole ps ts h.here
    (λ g. ⊎_elim (λ m. m) (λ r. ⊎_elim (path_again_name ps ts n h.name_leads)
    (path_again ps ts p h.path_leads) r) (h.complete g))

-- nothing else is left of a longer stretch
again_in : (qs : List Piece) (c : ℕ) (us : List ℕ) → Again (Some (at qs (c ∷ us)))
    → IsMatch (InName ∷ qs) us
again_in qs c us a =
    let l = a.1 in
    let same : us ≡ a.0.text = let e = l.2 in cc in
    let pieces = l.1 in
    let spots : at qs us ≡ a.0 = λ i. record { pieces = pieces i; text = same i } in
    subst (λ x. IsMatch (InName ∷ x.pieces) x.text) (sym spots) a.2

later_in : (qs : List Piece) (ts us : List ℕ) → IsBehindName ts us → InLaterName (Some (at qs ts))
    → IsMatch (InPath ∷ qs) us
later_in qs ts us b a =
    let f = a.1 in
    let same = behind_once ts us a.0.text b f.1 in
    let pieces = f.0 in
    let spots : at qs us ≡ a.0 = λ i. record { pieces = pieces i; text = same i } in
    subst (λ x. IsMatch (InPath ∷ x.pieces) x.text) (sym spots) a.2

pub holds_longer_name : (all : List Piece) (whole : List ℕ) (h : Spot) (qs : List Piece) (c : ℕ)
    (us : List ℕ) (p : Option Spot) → Passes InName c → (Fits h → ⊥)
    → Holds all whole (st h (Some (at qs (c ∷ us))) p)
    → Holds all whole (st (at qs us) (Some (at qs us)) p)
holds_longer_name all whole h qs c us p k none old =
    let fails : IsMatch qs (c ∷ us) → ⊥ = λ m. none (old.name_first m) in
    let leads = some_more p _ (λ x. Leads InPath x (at qs us))
    (λ x l r. leads_past InPath qs c us wild_path fails (l r)) old.path_name in
    record {
      here = λ m. old.name (longer_out InName qs c us wild_name k
          (empty_out InName qs us wild_name m));
      name = λ m. old.name (longer_out InName qs c us wild_name k m);
      path = old.path;
      complete = λ g. ⊎_elim (λ m. absurd (none m))
          (λ r. ⊎_elim (λ a. ⊎_elim (λ f. inl f) (λ b. inr (inl b))
          (split_name (at qs us) (again_in qs c us a))) (λ a. inr (inr a)) r) (old.complete g);
      name_leads = λ r. r;
      name_first = λ m. m;
      path_leads = leads;
      path_name = leads;
    }

holds_next_name : (all : List Piece) (whole : List ℕ) (h : Spot) (n : Option Spot) (qs : List Piece)
    (ts us : List ℕ) → IsBehindName ts us → (Fits h → ⊥) → NoLonger n
    → Holds all whole (st h n (Some (at qs ts)))
    → Holds all whole (st (at qs us) (Some (at qs us)) (Some (at qs us)))
holds_next_name all whole h n qs ts us b none short old =
    holds_new all whole qs us (λ m. old.path (further_out qs ts us b m))
    (λ g. ⊎_elim (λ m. absurd (none m))
    (λ r. ⊎_elim (λ a. absurd (short a.0 a.1)) (λ a. later_in qs ts us b a) r) (old.complete g))

pub holds_start : (all : List Piece) (whole : List ℕ)
    → Holds all whole (st (at all whole) None None)
holds_start all whole = record {
  here = λ m. m;
  name = tt;
  path = tt;
  complete = λ m. inl m;
  name_leads = tt;
  name_first = tt;
  path_leads = tt;
  path_name = tt;
}

pub holds_ends : (all : List Piece) (whole : List ℕ) (s : State) → Holds all whole s → Ends s
    → IsMatch all whole → ⊥
holds_ends all whole s h e g =
    ⊎_elim (λ m. e.0 m) (λ r. ⊎_elim (λ a. e.1 a.0 a.1) (λ a. e.2 a.0 a.1) r) (h.complete g)

-- a step is one of five
pub steps_cases : (Q : State → State → Type 0)
    → ((b : ℕ) (ps : List Piece) (ts : List ℕ) (n p : Option Spot)
    → Q (st (at (Byte b ∷ ps) (b ∷ ts)) n p) (st (at ps ts) n p))
    → ((ps : List Piece) (ts : List ℕ) (n p : Option Spot)
    → Q (st (at (InName ∷ ps) ts) n p) (st (at ps ts) (Some (at ps ts)) p))
    → ((ps : List Piece) (ts : List ℕ) (n p : Option Spot)
    → Q (st (at (InPath ∷ ps) ts) n p) (st (at ps ts) (Some (at ps ts)) (Some (at ps ts))))
    → ((h : Spot) (qs : List Piece) (c : ℕ) (us : List ℕ) (p : Option Spot) → Passes InName c
    → (Fits h → ⊥) → Q (st h (Some (at qs (c ∷ us))) p) (st (at qs us) (Some (at qs us)) p))
    → ((h : Spot) (n : Option Spot) (qs : List Piece) (ts us : List ℕ) → IsBehindName ts us
    → (Fits h → ⊥) → NoLonger n → Q (st h n (Some (at qs ts)))
    (st (at qs us) (Some (at qs us)) (Some (at qs us))))
    → (s n : State) → Steps s n → Q s n
steps_cases Q byte name path longer_name next_name s n step =
    let by_byte : ByByte s n → Q s n = λ e.
    let from : s ≡ st (at (Byte e.0 ∷ n.here.pieces) (e.0 ∷ n.here.text)) s.name s.path =
    λ i. record { here = record { pieces = e.1 i; text = e.2 i }; name = s.name; path = s.path } in
    let to : n ≡ st n.here s.name s.path =
    λ i. record { here = n.here; name = e.3 i; path = e.4 i } in
    subst (λ x. Q x n) (sym from)
    (subst (λ x. Q (st (at (Byte e.0 ∷ n.here.pieces) (e.0 ∷ n.here.text)) s.name s.path) x)
    (sym to) (byte e.0 n.here.pieces n.here.text s.name s.path)) in
    let by_name : ByName s n → Q s n = λ e.
    let from : s ≡ st (at (InName ∷ n.here.pieces) n.here.text) s.name s.path =
    λ i. record { here = record { pieces = e.0 i; text = e.1 i }; name = s.name; path = s.path } in
    let to : n ≡ st n.here (Some n.here) s.path =
    λ i. record { here = n.here; name = e.2 i; path = e.3 i } in
    subst (λ x. Q x n) (sym from)
    (subst (λ x. Q (st (at (InName ∷ n.here.pieces) n.here.text) s.name s.path) x) (sym to)
    (name n.here.pieces n.here.text s.name s.path)) in
    let by_path : ByPath s n → Q s n = λ e.
    let from : s ≡ st (at (InPath ∷ n.here.pieces) n.here.text) s.name s.path =
    λ i. record { here = record { pieces = e.0 i; text = e.1 i }; name = s.name; path = s.path } in
    let to : n ≡ st n.here (Some n.here) (Some n.here) =
    λ i. record { here = n.here; name = e.2 i; path = e.3 i } in
    subst (λ x. Q x n) (sym from)
    (subst (λ x. Q (st (at (InPath ∷ n.here.pieces) n.here.text) s.name s.path) x) (sym to)
    (path n.here.pieces n.here.text s.name s.path)) in
    let by_longer_name : (Fits s.here → ⊥) → ByLongerName s n → Q s n = λ none e.
    let to : n ≡ st n.here (Some n.here) s.path =
    λ i. record { here = n.here; name = e.1 i; path = e.2 i } in
    let cases : (o : Option Spot) → Longer o n.here → Q (st s.here o s.path) (st n.here
    (Some n.here) s.path) = λ o. elim o as
    (λ o. Longer o n.here → Q (st s.here o s.path) (st n.here (Some n.here) s.path)) [
      | None ↦ λ l. absurd l
      | Some x ↦ λ l.
          let same : x ≡ at n.here.pieces (l.0 ∷ n.here.text) =
          λ i. record { pieces = l.1 i; text = l.2 i } in
          subst (λ y. Q (st s.here (Some y) s.path) (st n.here (Some n.here) s.path)) (sym same)
          (longer_name s.here n.here.pieces l.0 n.here.text s.path l.3 none)
    ] in
    subst (λ x. Q s x) (sym to) (cases s.name e.0) in
    let by_next_name : (Fits s.here → ⊥) → ByNextName s n → Q s n = λ none e.
    let to : n ≡ st n.here (Some n.here) (Some n.here) =
    λ i. record { here = n.here; name = e.2 i; path = e.3 i } in
    let cases : (o : Option Spot) → Further o n.here → Q (st s.here s.name o) (st n.here
    (Some n.here) (Some n.here)) = λ o. elim o as
    (λ o. Further o n.here → Q (st s.here s.name o) (st n.here (Some n.here) (Some n.here))) [
      | None ↦ λ f. absurd f
      | Some x ↦ λ f.
          let same : x ≡ at n.here.pieces x.text = λ i. record { pieces = f.0 i; text = x.text } in
          subst (λ y. Q (st s.here s.name (Some y)) (st n.here (Some n.here) (Some n.here)))
          (sym same) (next_name s.here s.name n.here.pieces x.text n.here.text f.1 none e.0)
    ] in
    subst (λ x. Q s x) (sym to) (cases s.path e.1) in
    ⊎_elim (λ f. ⊎_elim by_byte (λ r. ⊎_elim by_name by_path r) f)
    (λ r. ⊎_elim (by_longer_name r.0) (by_next_name r.0) r.1) step

pub holds_step : (all : List Piece) (whole : List ℕ) (s n : State) → Steps s n → Holds all whole s
    → Holds all whole n
holds_step all whole =
    steps_cases (λ s n. Holds all whole s → Holds all whole n) (holds_byte all whole)
    (holds_name all whole) (holds_path all whole) (holds_longer_name all whole)
    (holds_next_name all whole)

pub holds_done : (all : List Piece) (whole : List ℕ) (s : State) → Holds all whole s
    → length s.here.pieces ≡ 0 → length s.here.text ≡ 0 → IsMatch all whole
holds_done all whole s h a b =
    let cases : (ps : List Piece) (ts : List ℕ) → length ps ≡ 0 → length ts ≡ 0 → IsMatch ps ts =
    λ ps ts. elim ps as (λ ps. length ps ≡ 0 → length ts ≡ 0 → IsMatch ps ts) [
      | [] ↦ λ a b. nil_from_length ts b
      | q ∷ qs ↦ λ a b. absurd (omega arith)
    ] in
    h.here (cases s.here.pieces s.here.text a b)
