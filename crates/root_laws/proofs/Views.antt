-- The view that an answer tells is the value that the key of the slot has.
use Rattle.std.proofs.Common.{◌≡◌, ℕ, ◌+◌, ◌==◌, inl, inr, Bool, true, false, if◌then◌else◌, List, [], ◌∷◌, length, Option, Some, None, Ok, refl, sym, ap, ◌∙◌, arith, append-nil}
use Rattle.std.specs.Prelude.{find}
use Rattle.std.proofs.lemmas.Bool.Decides.{nat_tests}
use Rattle.std.proofs.lemmas.Bool.{eqb-true}
use Rattle.ens_base.specs.Lists.{◌∈◌}
use Rattle.ens_base.specs.View.{IsView}
use Rattle.ens_base.specs.declared.command.Command.TheVariants.{Get, PutOnce}
use Rattle.ens_base.specs.declared.reply.Reply.{Reply}
use Rattle.fields.specs.Views.{view_at as read_view, view_spelling}
use Rattle.fields.proofs.ViewLaws.{view_grammar}
use Rattle.register_model.specs.Openings.{told as told_value}
use Rattle.register_model.specs.declared.answer.Answer.{Answer}
use Rattle.register_model.specs.declared.call.Call.{Call}
use Rattle.scripts.specs.Progress.{has_id}
use Rattle.scripts.specs.Spelling.{AllMayStand, MayStand}
use Rattle.scripts.specs.declared.event.RootEvent.{RootEvent}
use Rattle.scripts.specs.declared.event.RootEvent.TheVariants.{At, Open, Look, Route}
use Rattle.root_laws.specs.Legal.{slot_calls_from}
use Rattle.root_laws.specs.Openings.{Opening, of_slot, opening_in, or_later, told, told_to, view_at, view_in}
use Rattle.root_laws.specs.Slots.{slot_key, view_of_bytes, whole_view}

is_whole : (n : ℕ) → (0 + n == n) ≡ true
is_whole n = grind (arith, nat_tests)

-- the spelling of a view spells it
spelled_view : (view : List ℕ) → IsView view → view_of_bytes (view_spelling view) ≡ Some view
spelled_view view h =
    let read : read_view (view_spelling view) 0 ≡ Ok (view, 0 + length (view_spelling view)) = view_grammar.again (view_spelling view) 0 view [] h (sym (append-nil (view_spelling view))) in
    ap (whole_view (length (view_spelling view))) read ∙ rw (is_whole (length (view_spelling view))) refl

-- a call on the key of the slot, an answer to which tells bytes that spell the view
abbrev pub Tells : List Call → ℕ → Answer → List ℕ → Type 0
Tells calls slot a view = (c : Call) × (bytes : List ℕ) × (c ∈ calls) × (a.id ≡ c.id) × (c.key ≡ slot_key slot) × (told_value c.command a.reply ≡ Some bytes) × (view_of_bytes bytes ≡ Some view)

if_some : {A : Type 0} (b : Bool) (o : Option A) (x : A) → (if b then o else None) ≡ Some x → (b ≡ true) × (o ≡ Some x)
if_some true o x h = (refl, h)
if_some false o x h = cc h

of_slot_some : (s slot : ℕ) (o : Option (List ℕ)) (view : List ℕ) → view_at slot (of_slot s o) ≡ Some view → ((s == slot) ≡ true) × (o ≡ Some view)
of_slot_some s slot None view h = cc h
of_slot_some s slot (Some v) view h = if_some (s == slot) (Some v) view h

open_tells : (peers n peer id s slot : ℕ) (view new : List ℕ) (more : List RootEvent) (a : Answer) (reply : Reply) → a.reply ≡ reply → MayStand peers (Open peer id s view) → (id == a.id) ≡ true
    → view_at slot (told (Open peer id s view) reply) ≡ Some new → Tells (slot_calls_from n (Open peer id s view ∷ more)) slot a new
open_tells peers n peer id s slot view new more a (Reply.Ok stamp) is h same tells =
    let t = if_some (s == slot) (Some view) new tells in (
      record { id = id; key = slot_key s; command = PutOnce (view_spelling view); event = n },
      view_spelling view,
      inl refl,
      sym (eqb-true id a.id same),
      ap slot_key (eqb-true s slot t.0),
      ap (told_value (PutOnce (view_spelling view))) is,
      spelled_view view h.4 ∙ t.1,
    )
open_tells peers n peer id s slot view new more a _ is h same tells = cc tells

look_tells : (n peer id s slot : ℕ) (new : List ℕ) (more : List RootEvent) (a : Answer) (reply : Reply) → a.reply ≡ reply → (id == a.id) ≡ true
    → view_at slot (told (Look peer id s) reply) ≡ Some new → Tells (slot_calls_from n (Look peer id s ∷ more)) slot a new
look_tells n peer id s slot new more a (Reply.Value stamp bytes) is same tells =
    let t = of_slot_some s slot (view_of_bytes bytes) new tells in (
      record { id = id; key = slot_key s; command = Get; event = n },
      bytes,
      inl refl,
      sym (eqb-true id a.id same),
      ap slot_key (eqb-true s slot t.0),
      ap (told_value Get) is,
      t.1,
    )
look_tells n peer id s slot new more a _ is same tells = cc tells

event_tells : (peers n slot : ℕ) (new : List ℕ) (event : RootEvent) (more : List RootEvent) (a : Answer) → MayStand peers event → has_id a.id event ≡ true → view_at slot (told event a.reply) ≡ Some new
    → Tells (slot_calls_from n (event ∷ more)) slot a new
event_tells peers n slot new (At ensemble event) more a h same tells = cc same
event_tells peers n slot new (Open peer id s view) more a h same tells = open_tells peers n peer id s slot view new more a a.reply refl h same tells
event_tells peers n slot new (Look peer id s) more a h same tells = look_tells n peer id s slot new more a a.reply refl same tells
event_tells peers n slot new (Route peer id key command) more a h same tells = cc tells

slot_more : (n : ℕ) (event : RootEvent) (more : List RootEvent) (c : Call) → c ∈ slot_calls_from (n + 1) more → c ∈ slot_calls_from n (event ∷ more)
slot_more n (At ensemble event) more c m = m
slot_more n (Open peer id slot view) more c m = inr m
slot_more n (Look peer id slot) more c m = inr m
slot_more n (Route peer id key command) more c m = m

-- an answer that tells the view of a slot is to a call on its key
pub view_call : (peers n : ℕ) (events : List RootEvent) (slot : ℕ) (a : Answer) (view : List ℕ) → AllMayStand peers events → view_at slot (told_to (find (has_id a.id) events) a.reply) ≡ Some view
    → Tells (slot_calls_from n events) slot a view
view_call peers n [] slot a view h tells = cc tells
view_call peers n (event ∷ more) slot a view h tells = choose (has_id a.id event) refl tells (λ t. view_call peers (n + 1) more slot a view h.1 t)
  where
    choose : (b : Bool) → has_id a.id event ≡ b → view_at slot (told_to (if b then Some event else find (has_id a.id) more) a.reply) ≡ Some view
        → (view_at slot (told_to (find (has_id a.id) more) a.reply) ≡ Some view → Tells (slot_calls_from (n + 1) more) slot a view) → Tells (slot_calls_from n (event ∷ more)) slot a view
    choose true e t later = event_tells peers n slot view event more a h.0 e t
    choose false e t later = let rest = later t in (rest.0, rest.1, slot_more n event more rest.0 rest.2, rest.3, rest.4, rest.5, rest.6)

-- where an answer tells the view of a slot, the first such answer opens it
pub opens : (events : List RootEvent) (slot : ℕ) (answers : List Answer) (a : Answer) (view : List ℕ) → a ∈ answers → view_in events slot a ≡ Some view
    → (o : Opening) × (b : Answer) × (opening_in events slot answers ≡ Some o) × (b ∈ answers) × (view_in events slot b ≡ Some o.view)
opens events slot [] a view m tells = absurd m
opens events slot (x ∷ xs) a view m tells = choose (view_in events slot x) refl m (λ k. opens events slot xs a view k tells)
  where
    choose : (v : Option (List ℕ)) → view_in events slot x ≡ v → a ∈ (x ∷ xs)
        → (a ∈ xs → (o : Opening) × (b : Answer) × (opening_in events slot xs ≡ Some o) × (b ∈ xs) × (view_in events slot b ≡ Some o.view))
        → (o : Opening) × (b : Answer) × (or_later x.event v (opening_in events slot xs) ≡ Some o) × (b ∈ (x ∷ xs)) × (view_in events slot b ≡ Some o.view)
    choose (Some first) e m later = (record { event = x.event; view = first }, x, refl, inl refl, e)
    choose None e (inl is) later =
        let none : view_in events slot a ≡ None = ap (view_in events slot) is ∙ e in
        absurd (cc (none, tells))
    choose None e (inr k) later = let rest = later k in (rest.0, rest.1, rest.2, inr rest.3, rest.4)
