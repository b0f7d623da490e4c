-- The views with which slots open are views.
use Rattle.std.proofs.Common.{◌≡◌, ℕ, zero, suc, ◌<◌, ◌≤◌, ◌==◌, Bool, true, false, if◌then◌else◌, List, [], ◌∷◌, length, Option, None, Some, Result, Ok, Err, refl, ap, subst, arith}
use Rattle.std.specs.Prelude.{find, nat_le, nat_lt, ◌&&◌}
use Rattle.std.proofs.lemmas.Bool.Decides.{nat_tests}
use Rattle.ens_base.specs.View.{IsView}
use Rattle.ens_base.specs.declared.reply.Reply.{Reply}
use Rattle.fields.proofs.ViewLaws.{IsAbove, view_of_above}
use Rattle.fields.proofs.GrammarLaws.{bind_ok}
use Rattle.fields.specs.Numbers.{byte_at, number_at}
use Rattle.fields.specs.Views.{member_at, members_at, view_at}
use Rattle.fields.specs.declared.field_error.FieldError.{FieldError}
use Rattle.fields.specs.declared.field_error.FieldError.TheVariants.{Rule}
use Rattle.register_model.specs.declared.answer.Answer.{Answer}
use Rattle.root_laws.specs.Openings.{Opening, of_slot, opening_in, or_later, told, told_to, view_at as told_at, view_in}
use Rattle.root_laws.specs.Slots.{view_of_bytes, whole_view}
use Rattle.scripts.specs.Progress.{has_id}
use Rattle.scripts.specs.Spelling.{AllMayStand, MayStand}
use Rattle.scripts.specs.declared.event.RootEvent.{RootEvent}
use Rattle.scripts.specs.declared.event.RootEvent.TheVariants.{At, Open, Look, Route}

if_ok : {A E : Type 0} (b : Bool) (x y : A) (e : E) → (let r : Result A E = if b then Ok x else Err e in r ≡ Ok y) → (b ≡ true) × (x ≡ y)
if_ok true x y e h = (refl, cc h)
if_ok false x y e h = absurd cc

passes_ok : {A E : Type 0} (b : Bool) (r : Result A E) (y : A) (e : E) → (if b then r else Err e) ≡ Ok y → (b ≡ true) × (r ≡ Ok y)
passes_ok true r y e h = (refl, h)
passes_ok false r y e h = absurd cc

from_test : (low m : ℕ) → (nat_lt low m && nat_le m 31) ≡ true → (low < m) × (m ≤ 31)
from_test low m h = grind (arith, nat_tests)

from_limits : (n : ℕ) → (nat_le 1 n && nat_le n 9) ≡ true → (1 ≤ n) × (n ≤ 9)
from_limits n h = grind (arith, nat_tests)

member_above : (low : ℕ) (bytes : List ℕ) (at : ℕ) (m : ℕ × ℕ) → member_at low bytes at ≡ Ok m → (low < m.0) × (m.0 ≤ 31)
unfolding member_at
member_above low bytes at m h =
    let r = bind_ok (number_at 4 bytes at) _ m h in
    let t = if_ok (nat_lt low r.0.0 && nat_le r.0.0 31) r.0 m (Rule at) r.2 in
    let above = from_test low r.0.0 t.0 in
    subst (λ (x : ℕ × ℕ). (low < x.0) × (x.0 ≤ 31)) t.1 above

members_above : (n low : ℕ) (bytes : List ℕ) (at : ℕ) (ms : List ℕ × ℕ) → members_at n low bytes at ≡ Ok ms → IsAbove low ms.0 × (length ms.0 ≡ n)
unfolding members_at
members_above zero low bytes at ms h = let none : ([], at) ≡ ms = cc h in subst (λ (x : List ℕ × ℕ). IsAbove low x.0 × (length x.0 ≡ 0)) none (tt, refl)
members_above (suc n) low bytes at ms h =
    let first = bind_ok (member_at low bytes at) _ ms h in
    let rest = bind_ok (members_at n first.0.0 bytes first.0.1) _ ms first.2 in
    let is : (first.0.0 ∷ rest.0.0, rest.0.1) ≡ ms = cc rest.2 in
    let above = member_above low bytes at first.0 first.1 in
    let others = members_above n first.0.0 bytes first.0.1 rest.0 rest.1 in
    subst (λ (x : List ℕ × ℕ). IsAbove low x.0 × (length x.0 ≡ suc n)) is ((above.0, above.1, others.0), ap suc others.1)

view_read : (bytes : List ℕ) (at : ℕ) (x : List ℕ × ℕ) → view_at bytes at ≡ Ok x → IsView x.0
unfolding view_at
view_read bytes at x h =
    let size = bind_ok (byte_at bytes at) _ x h in
    let t = passes_ok (nat_le 1 size.0.0 && nat_le size.0.0 9) (members_at size.0.0 0 bytes size.0.1) x (Rule at) size.2 in
    let limits = from_limits size.0.0 t.0 in
    let above = members_above size.0.0 0 bytes size.0.1 x t.1 in
    view_of_above x.0 (omega (arith, above.1, limits.0), omega (arith, above.1, limits.1)) above.0

spelled : (bytes : List ℕ) (view : List ℕ) → view_of_bytes bytes ≡ Some view → IsView view
spelled bytes view h = by (view_at bytes 0) refl h
  where
    by : (r : Result (List ℕ × ℕ) FieldError) → view_at bytes 0 ≡ r → whole_view (length bytes) r ≡ Some view → IsView view
    by (Err e) is h = absurd cc
    by (Ok (v, end)) is h = at (end == length bytes) h
      where
        at : (b : Bool) → (let o : Option (List ℕ) = if b then Some v else None in o ≡ Some view) → IsView view
        at true k = let same : v ≡ view = cc k in subst IsView same (view_read bytes 0 (v, end) is)
        at false k = absurd cc

-- the view that a reply tells
if_some : {A : Type 0} (b : Bool) (x y : A) → (let o : Option A = if b then Some x else None in o ≡ Some y) → x ≡ y
if_some true x y h = cc h
if_some false x y h = absurd cc

look_view : (s slot : ℕ) (o : Option (List ℕ)) (view : List ℕ) → told_at slot (of_slot s o) ≡ Some view → o ≡ Some view
look_view s slot None view h = absurd cc
look_view s slot (Some v) view h = ap (λ (x : List ℕ). Some x) (if_some (s == slot) v view h)

reply_view : (peers slot : ℕ) (event : RootEvent) (reply : Reply) (view : List ℕ) → MayStand peers event → told_at slot (told event reply) ≡ Some view → IsView view
reply_view peers slot (Open peer id s v) (Reply.Ok stamp) view h tells = subst IsView (if_some (s == slot) v view tells) h.4
reply_view peers slot (Look peer id s) (Reply.Value stamp bytes) view h tells = spelled bytes view (look_view s slot (view_of_bytes bytes) view tells)
reply_view peers slot (At ensemble event) reply view h tells = absurd cc
reply_view peers slot (Route peer id key command) reply view h tells = absurd cc
reply_view peers slot (Open peer id s v) reply view h tells = absurd cc
reply_view peers slot (Look peer id s) reply view h tells = absurd cc

told_view : (peers slot id : ℕ) (events : List RootEvent) (reply : Reply) (view : List ℕ) → AllMayStand peers events → told_at slot (told_to (find (has_id id) events) reply) ≡ Some view → IsView view
told_view peers slot id [] reply view h tells = absurd cc
told_view peers slot id (event ∷ more) reply view h tells = by (has_id id event) tells (told_view peers slot id more reply view h.1)
  where
    by : (b : Bool) → told_at slot (told_to (if b then Some event else find (has_id id) more) reply) ≡ Some view → (told_at slot (told_to (find (has_id id) more) reply) ≡ Some view → IsView view) → IsView view
    by true k later = reply_view peers slot event reply view h.0 k
    by false k later = later k

pub opening_view : (peers slot : ℕ) (events : List RootEvent) (answers : List Answer) (o : Opening) → AllMayStand peers events → opening_in events slot answers ≡ Some o → IsView o.view
opening_view peers slot events [] o h is = absurd cc
opening_view peers slot events (a ∷ more) o h is = by (view_in events slot a) refl is (opening_view peers slot events more o h)
  where
    by : (v : Option (List ℕ)) → view_in events slot a ≡ v → or_later a.event v (opening_in events slot more) ≡ Some o → (opening_in events slot more ≡ Some o → IsView o.view) → IsView o.view
    by None e k later = later k
    by (Some view) e k later =
        let same : record { event = a.event; view = view } ≡ o = cc k in
        subst (λ (x : Opening). IsView x.view) same (told_view peers slot a.id events a.reply view h e)
