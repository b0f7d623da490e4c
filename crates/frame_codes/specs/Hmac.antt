-- HMAC-SHA-256 (RFC 2104), over lists of bytes.
use Rattle.std.specs.Prelude.{◌-◌, ℕ, List, ◌++◌, length, map, nat_le, replicate, bit_xor, if◌then◌else◌}
use Rattle.sha2.specs.Sha256.{sha256}

-- a secret that is longer than a block is hashed first
abbrev pub short_of : List ℕ → List ℕ
short_of secret = if nat_le (length secret) 64 then secret else sha256 secret

-- the secret, filled up with zeros to the 64 bytes of a block
abbrev pub block_of : List ℕ → List ℕ
block_of secret = short_of secret ++ replicate (64 - length (short_of secret)) 0

-- each byte of the block of a secret, with the bits of a mask turned
abbrev pub masked : ℕ → List ℕ → List ℕ
masked mask secret = map (λ b. bit_xor b mask) (block_of secret)

-- the bytes that are hashed before a message, and before the digest of both
abbrev pub inner_of : List ℕ → List ℕ
inner_of secret = masked 0x36 secret

abbrev pub outer_of : List ℕ → List ℕ
outer_of secret = masked 0x5c secret

-- the HMAC of a message under a secret
abbrev pub hmac : List ℕ → List ℕ → List ℕ
hmac secret message = sha256 (outer_of secret ++ sha256 (inner_of secret ++ message))
