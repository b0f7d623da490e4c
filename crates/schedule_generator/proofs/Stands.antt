-- What is drawn may stand in a schedule of five peers.
use Rattle.std.proofs.Common.{◌≡◌, ℕ, zero, suc, ◌+◌, ◌/◌, ◌%◌, ◌^◌, ◌<◌, ◌≤◌, Bool, true, false, List, [], ◌∷◌, ◌++◌, length, refl, arith, lit<, lit≤}
use Rattle.std.specs.Prelude.{if◌then◌else◌, ◌==◌, nat_le}
use Rattle.ens_base.specs.Limits.{IsBytes, IsKey, IsValue, IsCommand}
use Rattle.ens_base.specs.declared.command.Command.TheVariants as does
use Rattle.lexemes.specs.Spelling.{IsAmong}
use Rattle.schedule_text.specs.Spelling.{AllMayStand}
use Rattle.schedule_text.specs.declared.event.ScheduleEvent.{ScheduleEvent}
use Rattle.schedule_generator.specs.Drawing.{gives, draw_bytes, moved, ◌>>=◌}
use Rattle.schedule_generator.specs.Generated.{two_bytes, draw_key, draw_value, draw_choice, draw_call, restart_lines, draw_restart, draw_leader, draw_lines, draw_calls}

two_are_bytes : (a b : ℕ) → a < 256 → b < 256 → IsBytes (a ∷ b ∷ [])
two_are_bytes a b p q zero = p
two_are_bytes a b p q (suc zero) = q
two_are_bytes a b p q (suc (suc i)) = omega arith

pub key_is : (k : ℕ) → k < 300 → IsKey (two_bytes k)
key_is k few = record { size = (omega arith, omega arith); bytes = two_are_bytes (k / 256) (k % 256) (omega arith) (omega arith) }

pub key_drawn : (x : ℕ) → IsKey (draw_key x).1
key_drawn x = key_is (moved x / 2 ^ 33 % 300) (omega arith)

more_bytes : (a : ℕ) (bytes : List ℕ) → a < 256 → IsBytes bytes → IsBytes (a ∷ bytes)
more_bytes a bytes p q zero = p
more_bytes a bytes p q (suc i) = q i

no_bytes : IsBytes []
no_bytes i = omega arith

bytes_drawn : (count x : ℕ) → (length (draw_bytes count x).1 ≡ count) × IsBytes (draw_bytes count x).1
bytes_drawn zero x = (refl, no_bytes)
bytes_drawn (suc count) x =
    let rest = bytes_drawn count (moved x) in
    (omega (arith, rest.0), more_bytes (moved x / 2 ^ 33 % 256) (draw_bytes count (moved x)).1 (omega arith) rest.1)

value_is : (count x : ℕ) → count ≤ 1024 → IsValue (draw_bytes count x).1
value_is count x few = record { size = (let long = (bytes_drawn count x).0 in omega (arith, long)); bytes = (bytes_drawn count x).1 }

value_drawn : (x : ℕ) → IsValue (draw_value x).1
value_drawn x = value_is (moved x / 2 ^ 33 % 33) (moved x) (omega arith)

choice_drawn : (c x : ℕ) → IsCommand (draw_choice c x).1
choice_drawn c x = get (nat_le c 3) where
  add : (b : Bool) → IsCommand ((if b then gives does.Delete else gives (does.Add 1)) x).1
  add true = tt
  add false = lit< tt

  append : (b : Bool) → IsCommand ((if b then (draw_bytes 1 >>= λ tail. gives (does.Append tail)) else (if c == 8 then gives does.Delete else gives (does.Add 1))) x).1
  append true = value_is 1 x (omega arith)
  append false = add (c == 8)

  once : (b : Bool) → IsCommand ((if b then (draw_value >>= λ value. gives (does.PutOnce value)) else (if c == 7 then (draw_bytes 1 >>= λ tail. gives (does.Append tail)) else (if c == 8 then gives does.Delete else gives (does.Add 1)))) x).1
  once true = value_drawn x
  once false = append (c == 7)

  over : (b : Bool) → IsCommand ((if b then (draw_value >>= λ value. gives (does.Over value)) else (if c == 6 then (draw_value >>= λ value. gives (does.PutOnce value)) else (if c == 7 then (draw_bytes 1 >>= λ tail. gives (does.Append tail)) else (if c == 8 then gives does.Delete else gives (does.Add 1))))) x).1
  over true = value_drawn x
  over false = once (c == 6)

  get : (b : Bool) → IsCommand ((if b then gives does.Get else (if nat_le c 5 then (draw_value >>= λ value. gives (does.Over value)) else (if c == 6 then (draw_value >>= λ value. gives (does.PutOnce value)) else (if c == 7 then (draw_bytes 1 >>= λ tail. gives (does.Append tail)) else (if c == 8 then gives does.Delete else gives (does.Add 1)))))) x).1
  get true = tt
  get false = over (nat_le c 5)

stand_both : (peers : ℕ) (xs ys : List ScheduleEvent) → AllMayStand peers xs → AllMayStand peers ys → AllMayStand peers (xs ++ ys)
stand_both peers [] ys h k = k
stand_both peers (x ∷ xs) ys h k = (h.0, stand_both peers xs ys h.1 k)

call_stands : (peer id x : ℕ) → IsAmong 5 peer → id < 2 ^ 64 → AllMayStand 5 (draw_call peer id x).1
call_stands peer id x among small = ((among, small, key_drawn x, choice_drawn (moved (moved x) / 2 ^ 33 % 10) (moved (moved x))), (tt, tt))

restart_stands : (peer : ℕ) (key : List ℕ) → IsAmong 5 peer → IsKey key → AllMayStand 5 (restart_lines peer key)
restart_stands peer key among is =
    (among, ((among, is, record { least = lit≤ tt; most = lit≤ tt; each = more_bytes 0 [] (lit< tt) no_bytes }), (among, ((among, lit≤ tt, lit≤ tt), (tt, tt)))))

-- the peer that leads is one of the five, and the lines may stand
abbrev pub LedWell : ℕ × List ScheduleEvent → Type 0
LedWell led = IsAmong 5 led.0 × AllMayStand 5 led.1

leader_stands : (b : Bool) (peer x : ℕ) → IsAmong 5 peer → LedWell ((if b then draw_restart else gives (peer, [])) x).1
leader_stands true peer x among =
    let q : IsAmong 5 (1 + moved x / 2 ^ 33 % 5) = record { first = omega arith; last = omega arith } in
    (q, restart_stands (1 + moved x / 2 ^ 33 % 5) (draw_key (moved x)).1 q (key_drawn (moved x)))
leader_stands false peer x among = (among, tt)

lines_stand : (peer id x : ℕ) → IsAmong 5 peer → id < 2 ^ 64 → LedWell (draw_lines peer id x).1
lines_stand peer id x among small =
    let led = leader_stands (id % 500 == 0) peer x among in
    (led.0, stand_both 5 (draw_leader peer id x).1.1 (draw_call (draw_leader peer id x).1.0 id (draw_leader peer id x).0).1 led.1 (call_stands (draw_leader peer id x).1.0 id (draw_leader peer id x).0 led.0 small))

pub calls_stand : (count peer id x : ℕ) → IsAmong 5 peer → id + count ≤ 2 ^ 64 → AllMayStand 5 (draw_calls count peer id x).1
calls_stand zero peer id x among small = tt
calls_stand (suc count) peer id x among small =
    let first = lines_stand peer id x among (omega arith) in
    let d = draw_lines peer id x in
    stand_both 5 d.1.1 (draw_calls count d.1.0 (id + 1) d.0).1 first.1 (calls_stand count d.1.0 (id + 1) d.0 first.0 (omega arith))
