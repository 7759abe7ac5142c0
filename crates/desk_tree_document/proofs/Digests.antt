-- A SHA1 is 20 bytes.
use Rattle.std.proofs.Common.{◌≡◌, ℕ, zero, suc, ◌*◌, ◌<◌, ◌/◌, List, length, get_or, refl, arith, length-append}
use Rattle.std.specs.Prelude.{All}
use Rattle.std.specs.Int.{w32, byte_at, bytes_high_first, to_be_bytes}
use Rattle.std.proofs.lemmas.List.Elements.{All-nil, All-cons, All-append}
use Rattle.sha1.specs.Sha1.{digest_bytes, hash_after, padded_message, sha1}

abbrev pub IsByte : ℕ → Type 0
IsByte b = b < 256

one_byte : (i n : ℕ) → IsByte (byte_at i n)
one_byte zero n = omega arith
one_byte (suc i) n = omega arith

length-bytes_high_first : (k n : ℕ) → length (bytes_high_first k n) ≡ k
length-bytes_high_first zero n = refl
length-bytes_high_first (suc k) n = let rest = length-bytes_high_first k n in omega arith

all_bytes : (k n : ℕ) → All IsByte (bytes_high_first k n)
all_bytes zero n = All-nil IsByte
all_bytes (suc k) n = All-cons IsByte (byte_at k n) (bytes_high_first k n) (one_byte k n)
    (all_bytes k n)

length-digest_bytes : (h : List ℕ) (n : ℕ) → length (digest_bytes h n) ≡ 4 * n
unfolding digest_bytes
length-digest_bytes h zero = refl
length-digest_bytes h (suc n) =
    let front = length-digest_bytes h n in
    let word = length-bytes_high_first 4 (get_or h n 0) in
    let both = length-append (digest_bytes h n) (to_be_bytes w32 (get_or h n 0)) in
    omega arith

digest_bytes_all : (h : List ℕ) (n : ℕ) → All IsByte (digest_bytes h n)
unfolding digest_bytes
digest_bytes_all h zero = All-nil IsByte
digest_bytes_all h (suc n) = All-append IsByte (digest_bytes h n) (to_be_bytes w32 (get_or h n 0))
    (digest_bytes_all h n) (all_bytes 4 (get_or h n 0))

pub length-sha1 : (m : List ℕ) → length (sha1 m) ≡ 20
unfolding sha1
length-sha1 m = length-digest_bytes (hash_after (padded_message m) (length (padded_message m) / 64))
    5

pub sha1_bytes : (m : List ℕ) → All IsByte (sha1 m)
unfolding sha1
sha1_bytes m = digest_bytes_all (hash_after (padded_message m) (length (padded_message m) / 64)) 5
