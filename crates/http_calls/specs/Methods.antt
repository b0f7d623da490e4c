-- Methods of requests.
use Rattle.std.specs.Prelude.{ℕ, Bool, true, false, List, bytes_eq, codes, if◌then◌else◌}
use Rattle.http_calls.specs.declared.method.Method.{Method}
use Rattle.http_calls.specs.declared.method.Method.TheVariants.{Get, Head, Put, Delete, Post, Other}

abbrev pub method_of : List ℕ → Method
method_of text =
    if bytes_eq text (codes "GET") then Get
    else (if bytes_eq text (codes "HEAD") then Head
    else (if bytes_eq text (codes "PUT") then Put
    else (if bytes_eq text (codes "DELETE") then Delete
    else (if bytes_eq text (codes "POST") then Post else Other))))

-- a request with the method may change something
abbrev pub is_write : Method → Bool
is_write Get = false
is_write Head = false
is_write Put = true
is_write Delete = true
is_write Post = true
is_write Other = true

-- no path has the method
abbrev pub is_unknown : Method → Bool
is_unknown Get = false
is_unknown Head = false
is_unknown Put = false
is_unknown Delete = false
is_unknown Post = false
is_unknown Other = true
