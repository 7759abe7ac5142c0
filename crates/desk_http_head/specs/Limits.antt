-- The limits of a request, as the definitions use them.
use Rattle.std.specs.Prelude.{ℕ}

-- how many bytes a head may have, including its last line end
abbrev pub head_bytes : ℕ
head_bytes = 16384

-- how many fields a head may have
abbrev pub head_fields : ℕ
head_fields = 64

-- how many bytes a body may have
abbrev pub body_bytes : ℕ
body_bytes = 8388608

-- how many bytes a request may have
abbrev pub request_bytes : ℕ
request_bytes = 8404992
