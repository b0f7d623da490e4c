-- The calls of the ensembles are those of the script.
use Rattle.std.proofs.Common.{◌≡◌, ℕ, zero, suc, ◌+◌, ◌≤◌, ◌==◌, inl, inr, Bool, true, false, if◌then◌else◌, List, [], ◌∷◌, map, drop, refl, sym, ap, subst, ◌∙◌, arith}
use Rattle.std.proofs.lemmas.Bool.{eqb-true}
use Rattle.ens_base.specs.Lists.{◌∈◌, AreDistinct}
use Rattle.ens_base.specs.declared.command.Command.TheVariants.{Get, PutOnce}
use Rattle.fields.specs.Views.{view_spelling}
use Rattle.history_record.specs.Calls.{call_at}
use Rattle.register_model.specs.declared.call.Call.{Call}
use Rattle.schedule_text.specs.declared.event.ScheduleEvent.{ScheduleEvent}
use Rattle.schedule_text.specs.declared.event.ScheduleEvent.TheVariants as schedule
use Rattle.scripts.specs.Spelling.{AllMayStand, MayFollowAt, ids_of}
use Rattle.scripts.specs.declared.slots.Ensemble.TheVariants.{Root, Slot}
use Rattle.scripts.specs.declared.event.RootEvent.{RootEvent}
use Rattle.scripts.specs.declared.event.RootEvent.TheVariants.{At, Open, Look, Route}
use Rattle.root_laws.specs.Legal.{routed_calls_from, slot_calls_from}
use Rattle.root_laws.specs.Lines.{Line, lines_from}
use Rattle.root_laws.specs.Slots.{slot_key, slot_of}
use Rattle.root_laws.proofs.Lines.{Ascend, line_calls}

no_call : (event : ScheduleEvent) (n : ℕ) (rest : List Call) → MayFollowAt event → call_at event n rest ≡ rest
no_call (schedule.Call peer id key command) n rest h = absurd h
no_call (schedule.Upgrade peer) n rest h = absurd h
no_call schedule.Deepen n rest h = absurd h
no_call _ n rest h = refl

-- the calls of the root are the openings and the looks
pub root_calls : (peers n : ℕ) (events : List RootEvent) → AllMayStand peers events → line_calls (lines_from n Root events) ≡ slot_calls_from n events
root_calls peers n [] h = refl
root_calls peers n (At Root event ∷ more) h = no_call event n (line_calls (lines_from (n + 1) Root more)) h.0.1 ∙ root_calls peers (n + 1) more h.1
root_calls peers n (At (Slot s) event ∷ more) h = root_calls peers (n + 1) more h.1
root_calls peers n (Open peer id slot view ∷ more) h =
    let first : Call = record { id = id; key = slot_key slot; command = PutOnce (view_spelling view); event = n } in
    ap (λ (cs : List Call). first ∷ cs) (root_calls peers (n + 1) more h.1)
root_calls peers n (Look peer id slot ∷ more) h =
    let first : Call = record { id = id; key = slot_key slot; command = Get; event = n } in
    ap (λ (cs : List Call). first ∷ cs) (root_calls peers (n + 1) more h.1)
root_calls peers n (Route peer id key command ∷ more) h = root_calls peers (n + 1) more h.1

-- those of a slot are the calls that are routed to it
pub slot_calls : (peers n slot : ℕ) (events : List RootEvent) (c : Call) → AllMayStand peers events → c ∈ line_calls (lines_from n (Slot slot) events) → (c ∈ routed_calls_from n events) × (slot_of c.key ≡ slot)
slot_calls peers n slot [] c h m = absurd m
slot_calls peers n slot (At Root event ∷ more) c h m = slot_calls peers (n + 1) slot more c h.1 m
slot_calls peers n slot (At (Slot s) event ∷ more) c h m = by (s == slot) m (λ k. slot_calls peers (n + 1) slot more c h.1 k)
  where
    by : (b : Bool) → c ∈ line_calls (if b then record { number = n; event = event } ∷ lines_from (n + 1) (Slot slot) more else lines_from (n + 1) (Slot slot) more)
        → (c ∈ line_calls (lines_from (n + 1) (Slot slot) more) → (c ∈ routed_calls_from (n + 1) more) × (slot_of c.key ≡ slot)) → (c ∈ routed_calls_from (n + 1) more) × (slot_of c.key ≡ slot)
    by true m later =
        let In : List Call → Type 0 = λ cs. c ∈ cs in
        later (subst In (no_call event n (line_calls (lines_from (n + 1) (Slot slot) more)) h.0.1) m)
    by false m later = later m
slot_calls peers n slot (Open peer id s view ∷ more) c h m = slot_calls peers (n + 1) slot more c h.1 m
slot_calls peers n slot (Look peer id s ∷ more) c h m = slot_calls peers (n + 1) slot more c h.1 m
slot_calls peers n slot (Route peer id key command ∷ more) c h m = by (slot_of key == slot) refl m (λ k. slot_calls peers (n + 1) slot more c h.1 k)
  where
    by : (b : Bool) → (slot_of key == slot) ≡ b
        → c ∈ line_calls (if b then record { number = n; event = schedule.Call peer id key command } ∷ lines_from (n + 1) (Slot slot) more else lines_from (n + 1) (Slot slot) more)
        → (c ∈ line_calls (lines_from (n + 1) (Slot slot) more) → (c ∈ routed_calls_from (n + 1) more) × (slot_of c.key ≡ slot))
        → (c ∈ routed_calls_from n (Route peer id key command ∷ more)) × (slot_of c.key ≡ slot)
    by true e (inl is) later = (inl is, ap (λ (d : Call). slot_of d.key) is ∙ eqb-true (slot_of key) slot e)
    by true e (inr k) later = let there = later k in (inr there.0, there.1)
    by false e k later = let there = later k in (inr there.0, there.1)

-- no call comes before the lines
pub calls_above : (low : ℕ) (lines : List Line) (c : Call) → Ascend low lines → c ∈ line_calls lines → low ≤ c.event
calls_above low [] c h m = absurd m
calls_above low (l ∷ ls) c h m =
    let first : low ≤ l.number = h.0 in
    by l.event m first (λ k. let after : l.number + 1 ≤ c.event = calls_above (l.number + 1) ls c h.1 k in omega (arith, first))
  where
    by : (event : ScheduleEvent) → c ∈ call_at event l.number (line_calls ls) → low ≤ l.number → (c ∈ line_calls ls → low ≤ c.event) → low ≤ c.event
    by (schedule.Call peer id key command) (inl is) first later = let at : c.event ≡ l.number = ap (λ (d : Call). d.event) is in omega arith
    by (schedule.Call peer id key command) (inr k) first later = later k
    by _ k first later = later k

-- ---- calls behind some events

pub stand_behind : (peers k : ℕ) (events : List RootEvent) → AllMayStand peers events → AllMayStand peers (drop k events)
stand_behind peers zero events h = h
stand_behind peers (suc k) [] h = tt
stand_behind peers (suc k) (event ∷ more) h = stand_behind peers k more h.1

pub routed_more : (n : ℕ) (event : RootEvent) (more : List RootEvent) (c : Call) → c ∈ routed_calls_from (n + 1) more → c ∈ routed_calls_from n (event ∷ more)
routed_more n (At ensemble event) more c m = m
routed_more n (Open peer id slot view) more c m = m
routed_more n (Look peer id slot) more c m = m
routed_more n (Route peer id key command) more c m = inr m

pub routed_behind : (n k : ℕ) (events : List RootEvent) (c : Call) → c ∈ routed_calls_from (n + k) (drop k events) → c ∈ routed_calls_from n events
routed_behind n zero events c m =
    let In : ℕ → Type 0 = λ i. c ∈ routed_calls_from i events in
    let same : n + 0 ≡ n = omega arith in
    subst In same m
routed_behind n (suc k) [] c m = m
routed_behind n (suc k) (event ∷ more) c m =
    let In : ℕ → Type 0 = λ i. c ∈ routed_calls_from i (drop k more) in
    let same : n + suc k ≡ n + 1 + k = omega arith in
    routed_more n event more c (routed_behind (n + 1) k more c (subst In same m))

-- ---- ids

pub slot_id : (n : ℕ) (events : List RootEvent) (c : Call) → c ∈ slot_calls_from n events → c.id ∈ ids_of events
slot_id n [] c m = m
slot_id n (At ensemble event ∷ more) c m = slot_id (n + 1) more c m
slot_id n (Open peer id slot view ∷ more) c (inl is) = inl (ap (λ (d : Call). d.id) is)
slot_id n (Open peer id slot view ∷ more) c (inr m) = inr (slot_id (n + 1) more c m)
slot_id n (Look peer id slot ∷ more) c (inl is) = inl (ap (λ (d : Call). d.id) is)
slot_id n (Look peer id slot ∷ more) c (inr m) = inr (slot_id (n + 1) more c m)
slot_id n (Route peer id key command ∷ more) c m = inr (slot_id (n + 1) more c m)

pub routed_id : (n : ℕ) (events : List RootEvent) (c : Call) → c ∈ routed_calls_from n events → c.id ∈ ids_of events
routed_id n [] c m = m
routed_id n (At ensemble event ∷ more) c m = routed_id (n + 1) more c m
routed_id n (Open peer id slot view ∷ more) c m = inr (routed_id (n + 1) more c m)
routed_id n (Look peer id slot ∷ more) c m = inr (routed_id (n + 1) more c m)
routed_id n (Route peer id key command ∷ more) c (inl is) = inl (ap (λ (d : Call). d.id) is)
routed_id n (Route peer id key command ∷ more) c (inr m) = inr (routed_id (n + 1) more c m)

abbrev Ids : List Call → List ℕ
Ids calls = map (λ (c : Call). c.id) calls

from_ids : (calls : List Call) (id : ℕ) → id ∈ Ids calls → (c : Call) × (c ∈ calls) × (id ≡ c.id)
from_ids [] id m = absurd m
from_ids (c ∷ cs) id (inl is) = (c, inl refl, is)
from_ids (c ∷ cs) id (inr m) = let there = from_ids cs id m in (there.0, inr there.1, there.2)

-- an id among the calls is an id of the script
new_id : (ids : List ℕ) (calls : List Call) (id : ℕ) → ((c : Call) → c ∈ calls → c.id ∈ ids) → ¬ (id ∈ ids) → ¬ (id ∈ Ids calls)
new_id ids calls id each h m =
    let c = from_ids calls id m in
    let In : ℕ → Type 0 = λ i. i ∈ ids in
    h (subst In (sym c.2) (each c.0 c.1))

pub slot_calls_apart : (n : ℕ) (events : List RootEvent) → AreDistinct (ids_of events) → AreDistinct (Ids (slot_calls_from n events))
slot_calls_apart n [] h = tt
slot_calls_apart n (At ensemble event ∷ more) h = slot_calls_apart (n + 1) more h
slot_calls_apart n (Open peer id slot view ∷ more) h = (new_id (ids_of more) (slot_calls_from (n + 1) more) id (λ c m. slot_id (n + 1) more c m) h.0, slot_calls_apart (n + 1) more h.1)
slot_calls_apart n (Look peer id slot ∷ more) h = (new_id (ids_of more) (slot_calls_from (n + 1) more) id (λ c m. slot_id (n + 1) more c m) h.0, slot_calls_apart (n + 1) more h.1)
slot_calls_apart n (Route peer id key command ∷ more) h = slot_calls_apart (n + 1) more h.1

pub routed_calls_apart : (n : ℕ) (events : List RootEvent) → AreDistinct (ids_of events) → AreDistinct (Ids (routed_calls_from n events))
routed_calls_apart n [] h = tt
routed_calls_apart n (At ensemble event ∷ more) h = routed_calls_apart (n + 1) more h
routed_calls_apart n (Open peer id slot view ∷ more) h = routed_calls_apart (n + 1) more h.1
routed_calls_apart n (Look peer id slot ∷ more) h = routed_calls_apart (n + 1) more h.1
routed_calls_apart n (Route peer id key command ∷ more) h =
    (new_id (ids_of more) (routed_calls_from (n + 1) more) id (λ c m. routed_id (n + 1) more c m) h.0, routed_calls_apart (n + 1) more h.1)

-- no call is both one of the root and routed
pub not_both : (n m : ℕ) (events : List RootEvent) (c d : Call) → AreDistinct (ids_of events) → c ∈ slot_calls_from n events → d ∈ routed_calls_from m events → c.id ≡ d.id → ⊥
not_both n m [] c d h p q e = p
not_both n m (At ensemble event ∷ more) c d h p q e = not_both (n + 1) (m + 1) more c d h p q e
not_both n m (Open peer id slot view ∷ more) c d h (inl is) q e =
    let In : ℕ → Type 0 = λ i. i ∈ ids_of more in
    h.0 (subst In (sym e ∙ ap (λ (x : Call). x.id) is) (routed_id (m + 1) more d q))
not_both n m (Open peer id slot view ∷ more) c d h (inr p) q e = not_both (n + 1) (m + 1) more c d h.1 p q e
not_both n m (Look peer id slot ∷ more) c d h (inl is) q e =
    let In : ℕ → Type 0 = λ i. i ∈ ids_of more in
    h.0 (subst In (sym e ∙ ap (λ (x : Call). x.id) is) (routed_id (m + 1) more d q))
not_both n m (Look peer id slot ∷ more) c d h (inr p) q e = not_both (n + 1) (m + 1) more c d h.1 p q e
not_both n m (Route peer id key command ∷ more) c d h p (inl is) e =
    let In : ℕ → Type 0 = λ i. i ∈ ids_of more in
    h.0 (subst In (e ∙ ap (λ (x : Call). x.id) is) (slot_id (n + 1) more c p))
not_both n m (Route peer id key command ∷ more) c d h p (inr q) e = not_both (n + 1) (m + 1) more c d h.1 p q e
