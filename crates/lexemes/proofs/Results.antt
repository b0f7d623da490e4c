-- What is known of two readings in a row.
use Rattle.std.proofs.Common.{◌≡◌, Option, Some, None, Result, Ok, Err, refl}
use Rattle.ens_base.specs.Results.{◌>>=◌}
use Rattle.lexemes.specs.Causes.{or_cause}
use Rattle.lexemes.specs.declared.cause.Cause.{Cause}

-- where two readings gave a value, each of them did
pub bind_ok : {A B : Type 0} (r : Result A Cause) (f : A → Result B Cause) (y : B) → (r >>= f) ≡ Ok y → (x : A) × (r ≡ Ok x) × (f x ≡ Ok y)
bind_ok (Ok x) f y h = (x, refl, h)
bind_ok (Err e) f y h = cc h

pub or_cause_ok : {A : Type 0} (cause : Cause) (o : Option A) (x : A) → or_cause cause o ≡ Ok x → o ≡ Some x
or_cause_ok cause (Some y) x h = cc h
or_cause_ok cause None x h = cc h

pub ok_same : {A : Type 0} {x y : A} → ◌≡◌ {A = Result A Cause} (Ok x) (Ok y) → x ≡ y
ok_same h = cc h
