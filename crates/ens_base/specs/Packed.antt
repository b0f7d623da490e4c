-- The layout of a view in memory: its members at the front, zeros after them.
use Rattle.std.specs.Prelude.{◌≡◌, ◌-◌, ◌≤◌, ℕ, List, ◌++◌, length, take, drop, replicate}
use Rattle.std.proofs.Common.{sym, ap, ◌∙◌, arith, take-append-drop}
use Rattle.std.proofs.lemmas.List.{length-take}
use Rattle.ens_base.specs.View.{IsView}
use Rattle.ens_base.specs.declared.view.View.TheInside.{Inside}

pub record IsPacked (v : Inside) : Type 0 where
  pub size : length v.buf ≡ 9
  pub view : IsView (take v.len v.buf)
  pub within : v.len ≤ 9
  pub padded : drop v.len v.buf ≡ replicate (9 - v.len) 0

abbrev pub packed : List ℕ → Inside
packed xs = record { buf = xs ++ replicate (9 - length xs) 0; len = length xs }

pub packed_again : (v : Inside) → IsPacked v → packed (take v.len v.buf) ≡ v
packed_again v h =
    let long : length (take v.len v.buf) ≡ v.len = omega (arith, length-take v.len v.buf, h.size, h.within) in
    let whole : take v.len v.buf ++ replicate (9 - length (take v.len v.buf)) 0 ≡ v.buf =
    ap (λ (n : ℕ). take v.len v.buf ++ replicate (9 - n) 0) long ∙ ap (λ (l : List ℕ). take v.len v.buf ++ l) (sym h.padded) ∙ take-append-drop v.len v.buf in
    λ i. record { buf = whole i; len = long i }
