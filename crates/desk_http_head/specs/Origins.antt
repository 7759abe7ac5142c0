-- Whether a browser sent a request for a page of elsewhere: one whose origin isn't the desk's own
-- address (Fetch Standard, section 3.1, on `Origin`; Fetch Metadata Request Headers, section 2;
-- RFC 9110, section 7.2, on `Host`). A page can't change these fields, and what is no browser
-- sends no `Origin` and no `Sec-Fetch-` fields.
use Rattle.std.specs.Prelude.{◌≡◌, ℕ, Bool, true, false, not, ◌||◌, ◌&&◌, ◌==◌, nat_lt, List, [], ◌∷◌, length}
use Rattle.std.specs.Prelude.{take, drop, map, codes, if◌then◌else◌, Option, Some, None, is_some}
use Rattle.std.specs.List.{list_any}
use Rattle.std.specs.Str.{bytes_eq}
use Rattle.httparse.specs.Grammar.{RequestHead}
use Rattle.httparse.specs.Spans.{name_and_value}
use Rattle.desk_http_head.specs.Fields.{Field, is_named, number_text}
use Rattle.desk_http_head.specs.Heads.{BeginsWith}

-- what follows some bytes at the beginning of a text, in which case doesn't count, if it has them
abbrev pub rest_after : List ℕ → List ℕ → Option (List ℕ)
rest_after front text = if is_named front (take (length front) text)
    then Some (drop (length front) text) else None

-- some text is there and passes
abbrev pub if_some : Option (List ℕ) → (List ℕ → Bool) → Bool
if_some None passes = false
if_some (Some text) passes = passes text

-- this number is there
abbrev pub is_number : ℕ → Option ℕ → Bool
is_number n None = false
is_number n (Some m) = m == n

-- the first of two texts that is there
abbrev pub first_of : Option (List ℕ) → Option (List ℕ) → Option (List ℕ)
first_of (Some text) other = Some text
first_of None other = other

-- what follows a host of the desk at the beginning of a text: hosts compare without case (RFC 9110,
-- section 4.2.3)
abbrev pub after_own : List ℕ → Option (List ℕ)
after_own text = first_of (rest_after (codes "127.0.0.1") text)
    (first_of (rest_after (codes "localhost") text) (rest_after (codes "[::1]") text))

-- this port, after a colon; port 80 may be left out (RFC 9110, section 4.2.1)
abbrev pub is_port : ℕ → List ℕ → Bool
is_port port [] = port == 80
is_port port (c ∷ digits) = (c == 58) && is_number port (number_text digits)

-- the desk's own address: its host and its port
abbrev pub is_own : ℕ → List ℕ → Bool
is_own port text = if_some (after_own text) (is_port port)

-- any port, after a colon, or none
abbrev pub begins_port : List ℕ → Bool
begins_port [] = true
begins_port (c ∷ digits) = c == 58

-- an origin that isn't the desk's own, such as `null`
abbrev pub is_foreign_origin : ℕ → List ℕ → Bool
is_foreign_origin port value =
    not (if_some (rest_after (codes "http://") value) (is_own port))

-- the site of the page is neither that of the desk nor left open by a user who typed the address
abbrev pub is_foreign_site : List ℕ → Bool
is_foreign_site value = not (bytes_eq value (codes "same-origin") || bytes_eq value (codes "none"))

-- a host that isn't one of the desk, by which a name that was bound to its address later is known
abbrev pub is_foreign_host : List ℕ → Bool
is_foreign_host value = nat_lt 0 (length value) && not (if_some (after_own value) begins_port)

-- this field alone shows a page of elsewhere
abbrev pub is_foreign : ℕ → Field → Bool
is_foreign port field =
    (is_named (codes "origin") field.0 && is_foreign_origin port field.1)
    || ((is_named (codes "sec-fetch-site") field.0 && is_foreign_site field.1)
    || (is_named (codes "host") field.0 && is_foreign_host field.1))

-- a field that only browsers send
abbrev pub is_of_browser : Field → Bool
is_of_browser field = is_some (rest_after (codes "sec-fetch-") field.0)

-- a host that isn't the desk's own address: another host, or another port
abbrev pub is_other_address : ℕ → Field → Bool
is_other_address port field = is_named (codes "host") field.0 && not (is_own port field.1)

-- the fields of a request of elsewhere to a desk at this port
abbrev pub are_foreign : ℕ → List Field → Bool
are_foreign port fields = list_any (is_foreign port) fields
    || (list_any is_of_browser fields && list_any (is_other_address port) fields)

-- these bytes begin with the head of such a request
abbrev pub IsFromElsewhere : ℕ → List ℕ → Type 0
IsFromElsewhere port bytes =
    (h : RequestHead) × (after : List ℕ) × BeginsWith bytes h after
    × (are_foreign port (map name_and_value h.fields) ≡ true)
