-- Whose requests a peer takes: those for a host that is it, and no writes of another origin.
use Rattle.std.specs.Prelude.{◌≡◌, ℕ, ◌+◌, ◌-◌, ◌<◌, ◌⊎◌, Bool, true, false, not, ◌&&◌, ◌||◌, List, [], ◌∷◌, length, take, drop, slice_index, Option, Some, None, Result, Ok, Err, nat_lt, IsTrue, IsFalse, ◌==◌, bytes_eq, codes, if◌then◌else◌}
use Rattle.std.specs.List.{prefix_len, list_any}
use Rattle.std.specs.Char.{is_ascii_digit}
use Rattle.std.specs.Net.Grammar.{IsIpv4Text, IsIpv6Text}
use Rattle.std.specs.declared.net.ipv4_addr.Ipv4Addr.{Ipv4Addr}
use Rattle.std.specs.declared.net.ipv6_addr.Ipv6Addr.{Ipv6Addr}
use Rattle.http1.specs.Fields.{Header}
use Rattle.http1.specs.Text.{eq_ignore_case}
use Rattle.http_calls.specs.declared.method.Method.{Method}
use Rattle.http_calls.specs.declared.problem.Problem.{Problem}
use Rattle.http_calls.specs.declared.problem.Problem.TheVariants.{RepeatedField, ForeignOrigin, UnknownHost}
use Rattle.http_calls.specs.Fields.{field_of}
use Rattle.http_calls.specs.Methods.{is_unknown, is_write}

-- nothing, or a colon and digits
abbrev pub is_port : List ℕ → Bool
is_port s = (length s == 0) || ((slice_index s 0 == 58) && (prefix_len is_ascii_digit (drop 1 s) == length s - 1))

-- how much comes before the first colon
abbrev pub name_len : List ℕ → ℕ
name_len s = prefix_len (λ b. not (b == 58)) s

-- how much comes before the first `]`
abbrev pub literal_len : List ℕ → ℕ
literal_len s = prefix_len (λ b. not (b == 93)) s

-- what follows `[`: an IPv6 address, `]` and a port
pub record IsBracketedHost (s : List ℕ) : Type 0 where
  pub closed : literal_len s < length s
  pub port : is_port (drop (literal_len s + 1) s) ≡ true
  pub address : Ipv6Addr
  pub text : IsIpv6Text (take (literal_len s) s) address

-- the name is one of the known ones, whose case does not count
abbrev pub is_known_name : List (List ℕ) → List ℕ → Bool
is_known_name names name = list_any (λ known. eq_ignore_case name known) names

abbrev pub IsIpv4 : List ℕ → Type 0
IsIpv4 text = (a : Ipv4Addr) × IsIpv4Text text a

-- a known name or an IPv4 address, and a port
abbrev pub IsNamedHost : List (List ℕ) → List ℕ → Type 0
IsNamedHost names s =
    IsTrue (is_port (drop (name_len s) s))
    × (IsTrue (is_known_name names (take (name_len s) s)) ⊎ IsIpv4 (take (name_len s) s))

abbrev pub HostAt : Bool → List (List ℕ) → ℕ → List ℕ → Type 0
HostAt true names b rest = IsBracketedHost rest
HostAt false names b rest = IsNamedHost names (b ∷ rest)

-- an address or a known name, with a port or without (RFC 9110, section 7.2)
abbrev pub IsKnownHost : List (List ℕ) → List ℕ → Type 0
IsKnownHost names [] = IsNamedHost names []
IsKnownHost names (b ∷ rest) = HostAt (b == 91) names b rest

-- the origin is the scheme and then the host, whose case does not count
abbrev pub is_origin : List ℕ → List ℕ → List ℕ → Bool
is_origin origin scheme host =
    if nat_lt (length origin) (length scheme) || not (bytes_eq (take (length scheme) origin) scheme) then false
    else eq_ignore_case (drop (length scheme) origin) host

-- the origin is that of the host, by http or https (RFC 6454, section 6.2)
abbrev pub is_own_origin : List ℕ → List ℕ → Bool
is_own_origin origin host = is_origin origin (codes "http://") host || is_origin origin (codes "https://") host

abbrev pub IsKnownIfAny : List (List ℕ) → Option (List ℕ) → Type 0
IsKnownIfAny names None = Unit {0}
IsKnownIfAny names (Some host) = IsKnownHost names host

abbrev pub IsOwnOrigin : Option (List ℕ) → Option (List ℕ) → Type 0
IsOwnOrigin None host = Unit {0}
IsOwnOrigin (Some origin) None = ⊥
IsOwnOrigin (Some origin) (Some host) = IsTrue (is_own_origin origin host)

-- the host, where there is one, is known, and a write has no origin but that of the host
pub record IsWelcome (names : List (List ℕ)) (method : Method) (fields : List Header) : Type 0 where
  pub host : Option (List ℕ)
  pub found : field_of (codes "host") fields ≡ Ok host
  pub known : IsKnownIfAny names host
  pub own : IsTrue (is_write method) → (origin : Option (List ℕ)) × (field_of (codes "origin") fields ≡ Ok origin) × IsOwnOrigin origin host

-- the sender is welcome; or no path has the method, so that the request is refused in any case
abbrev pub IsTaken : List (List ℕ) → Method → List Header → Type 0
IsTaken names method fields = IsTrue (is_unknown method) ⊎ IsWelcome names method fields

-- why a request is not taken
abbrev pub IsUnwelcome : Problem → List (List ℕ) → Method → List Header → Type 0
IsUnwelcome UnknownHost names method fields =
    (host : List ℕ) × (field_of (codes "host") fields ≡ Ok (Some host)) × ¬ (IsKnownHost names host)
IsUnwelcome ForeignOrigin names method fields =
    IsTrue (is_write method) × (host : Option (List ℕ)) × (origin : List ℕ) × (field_of (codes "host") fields ≡ Ok host)
    × (field_of (codes "origin") fields ≡ Ok (Some origin)) × ¬ (IsOwnOrigin (Some origin) host)
IsUnwelcome RepeatedField names method fields =
    (field_of (codes "host") fields ≡ Err RepeatedField) ⊎ (field_of (codes "origin") fields ≡ Err RepeatedField)
IsUnwelcome other names method fields = ⊥

-- a request that a path might take is refused
abbrev pub IsRefused : Problem → List (List ℕ) → Method → List Header → Type 0
IsRefused p names method fields = IsFalse (is_unknown method) × IsUnwelcome p names method fields

abbrev pub ChecksSender : List (List ℕ) → Method → List Header → Result (Unit {0}) Problem → Type 0
ChecksSender names method fields (Ok done) = IsTaken names method fields
ChecksSender names method fields (Err p) = IsRefused p names method fields
