-- What the spans of a head cover, in the head alone.
use Rattle.std.proofs.Common.{◌≡◌, ℕ, ◌+◌, ◌-◌, ◌≤◌, List, [], ◌∷◌, map, take, drop, All, refl, ap, ◌∙◌, arith, take-take}
use Rattle.std.proofs.lemmas.List.{drop-take}
use Rattle.std.proofs.lemmas.List.Elements.{All-head, All-tail}
use Rattle.httparse.specs.declared.spans.Span.{Span}
use Rattle.httparse.specs.declared.spans.HeaderSpan.{HeaderSpan}
use Rattle.httparse.specs.Spans.{span_bytes, header_bytes, IsWithin, IsHeaderWithin}

pub span_bytes-take : (n : ℕ) (u : List ℕ) (s : Span) → IsWithin n s → span_bytes (take n u) s ≡ span_bytes u s
span_bytes-take n u s within =
    let sum : n ≡ s.start + (n - s.start) = omega arith in
    let fits : s.end - s.start ≤ n - s.start = omega arith in
    ap (λ (j : ℕ). take (s.end - s.start) (drop s.start (take j u))) sum ∙ rw (drop-take, take-take)

pub headers-take : (n : ℕ) (u : List ℕ) (hs : List HeaderSpan) → All (IsHeaderWithin n) hs → map (header_bytes (take n u)) hs ≡ map (header_bytes u) hs
headers-take n u [] all = refl
headers-take n u (h ∷ hs) all =
    let within = All-head (IsHeaderWithin n) h hs all in
    λ i. (span_bytes-take n u h.name within.0 i, span_bytes-take n u h.value within.1 i)
    ∷ headers-take n u hs (All-tail (IsHeaderWithin n) h hs all) i
