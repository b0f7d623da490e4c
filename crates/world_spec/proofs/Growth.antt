-- Messages, hashed strings and peers are never removed.
use Rattle.std.proofs.Common.{◌≡◌, ◌≤◌, ◌+◌, ◌-◌, ◌∙◌, ℕ, zero, suc, Option, None, Some, List, [], ◌∷◌, ◌++◌, length, refl, sym, ap, subst, map, arith}
use Rattle.std.proofs.lemmas.List.{append_assoc, length-append, length-set, append-nil}
use Rattle.std.specs.Prelude.{Bool, true, false, nat_lt, if◌then◌else◌, slice_get}
use Rattle.network.specs.Mail.{Mail, posted, settled, goes, is_among, oldest, most_messages, IsMail}
use Rattle.network.proofs.MailLaws.{is_mail_posted}
use Rattle.peer_state.specs.declared.event.Event.{Event}
use Rattle.peer_state.specs.declared.event.Event.TheVariants as events
use Rattle.schedule_text.specs.declared.event.ScheduleEvent.{ScheduleEvent}
use Rattle.schedule_text.specs.declared.event.ScheduleEvent.TheVariants.{Call, Tick, Deliver, Pass, Lose, Calm, CalmAmong, Change, Stop, Start, Upgrade, Deepen, Spoil, Damage, Inner, Revert, Fail}
use Rattle.phase_rows.specs.WireFrames.{Frame}
use Rattle.world_spec.proofs.Taken.{starts_here, starts_later}
use Rattle.world_spec.specs.Held.{StartsWith}
use Rattle.world_spec.specs.Lines.{call_of, everyone, set_of, with_damage, effect, applied, run_from}
use Rattle.world_spec.specs.Messages.{sent_in}
use Rattle.world_spec.specs.Nodes.{Node, Taken, taken, started, stopped, over_stores, while_down}
use Rattle.world_spec.specs.Runs.{Run, in_front, repeated, place_of, frame_from, posted_all, with_taken, stepped_at, stepped, changed_at, changed, mode_at, start_strings, with_start, may_deepen, deepened, with_deepening, ticked, received, without_waiting, received_if, delivered, delivered_if, going_on, calmed}
use Rattle.world_spec.specs.Stores.{failing, leaves_of, spoiled, segment_spoiled, inner_spoiled, taken_back}

length_posted : (m : Mail) (f : Frame) → length (posted m f).sent ≡ length m.sent + 1
length_posted m f = length-append m.sent (f ∷ [])

pub length_posted_all : (fs : List Frame) (m : Mail) → length (posted_all fs m).sent ≡ length m.sent + length fs
length_posted_all [] m = omega arith
length_posted_all (f ∷ fs) m = rw (length_posted_all fs (posted m f)) (rw (length_posted m f) (omega arith))

pub sent_after : (frames : List Frame) (m : Mail) → (posted_all frames m).sent ≡ m.sent ++ frames
sent_after [] m = sym (append-nil m.sent)
sent_after (f ∷ frames) m = sent_after frames (posted m f) ∙ append_assoc m.sent (f ∷ []) frames

pub posted_mail : (frames : List Frame) (m : Mail) → IsMail m → IsMail (posted_all frames m)
posted_mail [] m is = is
posted_mail (f ∷ frames) m is = posted_mail frames (posted m f) (is_mail_posted m f is)

-- one run goes on from another: no message and no hashed string was removed
pub record IsFurther (near far : Run) : Type 0 where
  pub sent : sent_in near ≤ sent_in far
  pub hashed : StartsWith near.hashed far.hashed

pub further_same : (w : Run) → IsFurther w w
further_same w = record { sent = omega arith; hashed = starts_here w.hashed }

pub further_later : (a b c : Run) → IsFurther a b → IsFurther b c → IsFurther a c
further_later a b c first last = record { sent = omega (arith, first.sent, last.sent); hashed = starts_later a.hashed b.hashed c.hashed first.hashed last.hashed }

pub taken_grows : (peer : ℕ) (t : Taken) (w : Run) → IsFurther w (with_taken peer t w)
taken_grows peer t w = record { sent = rw (length_posted_all (map (frame_from peer) t.out.sends) w.mail) (omega arith); hashed = (t.hashed, refl) }

stepped_at_grows : (node : Option Node) (peer : ℕ) (event : Event) (w : Run) → IsFurther w (stepped_at node peer event w)
stepped_at_grows None peer event w = further_same w
stepped_at_grows (Some node) peer event w = taken_grows peer (taken peer event node) w

pub stepped_grows : (peer : ℕ) (event : Event) (w : Run) → IsFurther w (stepped peer event w)
stepped_grows peer event w = stepped_at_grows (slice_get w.nodes (place_of peer)) peer event w

pub ticked_grows : (peer n : ℕ) (w : Run) → IsFurther w (ticked peer n w)
unfolding ticked
ticked_grows peer zero w = further_same w
ticked_grows peer (suc n) w = further_later w (stepped peer events.Tick w) (ticked peer n (stepped peer events.Tick w)) (stepped_grows peer events.Tick w) (ticked_grows peer n (stepped peer events.Tick w))

pub received_grows : (f : Option Frame) (n : ℕ) (w : Run) → IsFurther w (received_if f n w)
received_grows None n w = further_same w
received_grows (Some f) n w = by (nat_lt n w.first_alive)
  where
    by : (lost : Bool) → IsFurther w (if lost then without_waiting n w else received f n w)
    by true = record { sent = omega arith; hashed = starts_here w.hashed }
    by false =
        let step = stepped_grows f.to (events.Deliver f.from f.message) (record w { mail = settled w.mail n }) in
        record { sent = step.sent; hashed = step.hashed }

pub delivered_grows : (n : ℕ) (w : Run) → IsFurther w (delivered n w)
delivered_grows n w = received_grows (slice_get w.mail.sent n) n w

pub calmed_grows : (peers : List Bool) (n : ℕ) (w : Run) → IsFurther w (calmed peers n w)
unfolding calmed
calmed_grows peers zero w = further_same w
calmed_grows peers (suc n) w = going (oldest (is_among peers) w.mail) (λ v. calmed_grows peers n v) where
  going : (k : Option ℕ) → ((v : Run) → IsFurther v (calmed peers n v)) → IsFurther w (going_on k (λ v. calmed peers n v) w)
  going None later = further_same w
  going (Some k) later = further_later w (delivered k w) (calmed peers n (delivered k w)) (delivered_grows k w) (later (delivered k w))

-- a change of a node sends no message
changed_at_mail : (node : Option Node) (peer : ℕ) (change : Node → Node) (w : Run) → (changed_at node peer change w).mail ≡ w.mail
changed_at_mail None peer change w = refl
changed_at_mail (Some node) peer change w = refl

pub changed_mail : (peer : ℕ) (change : Node → Node) (w : Run) → (changed peer change w).mail ≡ w.mail
changed_mail peer change w = changed_at_mail (slice_get w.nodes (place_of peer)) peer change w

changed_at_hashed : (node : Option Node) (peer : ℕ) (change : Node → Node) (w : Run) → (changed_at node peer change w).hashed ≡ w.hashed
changed_at_hashed None peer change w = refl
changed_at_hashed (Some node) peer change w = refl

-- a change of a node hashes no string
pub changed_hashed : (peer : ℕ) (change : Node → Node) (w : Run) → (changed peer change w).hashed ≡ w.hashed
changed_hashed peer change w = changed_at_hashed (slice_get w.nodes (place_of peer)) peer change w

pub changed_at_grows : (node : Option Node) (peer : ℕ) (change : Node → Node) (w : Run) → IsFurther w (changed_at node peer change w)
changed_at_grows None peer change w = further_same w
changed_at_grows (Some node) peer change w = record { sent = omega arith; hashed = starts_here w.hashed }

changed_grows : (peer : ℕ) (change : Node → Node) (w : Run) → IsFurther w (changed peer change w)
changed_grows peer change w = changed_at_grows (slice_get w.nodes (place_of peer)) peer change w

pub start_grows : (peer : ℕ) (w : Run) → IsFurther w (with_start peer w)
start_grows peer w =
    let change = changed_grows peer (started (mode_at peer w) w.view) w in
    let strings = start_strings (mode_at peer w) w.view (slice_get w.nodes (place_of peer)) in
    record { sent = change.sent; hashed = starts_later w.hashed (changed peer (started (mode_at peer w) w.view) w).hashed (with_start peer w).hashed change.hashed (strings, refl) }

-- the number of peers
abbrev pub peers_in : Run → ℕ
peers_in w = length w.nodes

same_at : (node : Option Node) (peer : ℕ) (event : Event) (w : Run) → peers_in (stepped_at node peer event w) ≡ peers_in w
same_at None peer event w = refl
same_at (Some node) peer event w = length-set w.nodes (place_of peer) (taken peer event node).node

pub stepped_same : (peer : ℕ) (event : Event) (w : Run) → peers_in (stepped peer event w) ≡ peers_in w
stepped_same peer event w = same_at (slice_get w.nodes (place_of peer)) peer event w

changed_at_same : (node : Option Node) (peer : ℕ) (change : Node → Node) (w : Run) → peers_in (changed_at node peer change w) ≡ peers_in w
changed_at_same None peer change w = refl
changed_at_same (Some node) peer change w = length-set w.nodes (place_of peer) (change node)

changed_same : (peer : ℕ) (change : Node → Node) (w : Run) → peers_in (changed peer change w) ≡ peers_in w
changed_same peer change w = changed_at_same (slice_get w.nodes (place_of peer)) peer change w

ticked_same : (peer n : ℕ) (w : Run) → peers_in (ticked peer n w) ≡ peers_in w
unfolding ticked
ticked_same peer zero w = refl
ticked_same peer (suc n) w = ticked_same peer n (stepped peer events.Tick w) ∙ stepped_same peer events.Tick w

received_same : (f : Option Frame) (n : ℕ) (w : Run) → peers_in (received_if f n w) ≡ peers_in w
received_same None n w = refl
received_same (Some f) n w = by (nat_lt n w.first_alive)
  where
    by : (lost : Bool) → peers_in (if lost then without_waiting n w else received f n w) ≡ peers_in w
    by true = refl
    by false = stepped_same f.to (events.Deliver f.from f.message) (record w { mail = settled w.mail n })

delivered_same : (n : ℕ) (w : Run) → peers_in (delivered n w) ≡ peers_in w
delivered_same n w = received_same (slice_get w.mail.sent n) n w

passed_same : (n : Option ℕ) (w : Run) → peers_in (delivered_if n w) ≡ peers_in w
passed_same None w = refl
passed_same (Some n) w = delivered_same n w

calmed_same : (peers : List Bool) (n : ℕ) (w : Run) → peers_in (calmed peers n w) ≡ peers_in w
unfolding calmed
calmed_same peers zero w = refl
calmed_same peers (suc n) w = going (oldest (is_among peers) w.mail) (λ v. calmed_same peers n v) where
  going : (k : Option ℕ) → ((v : Run) → peers_in (calmed peers n v) ≡ peers_in v) → peers_in (going_on k (λ v. calmed peers n v) w) ≡ peers_in w
  going None later = refl
  going (Some k) later = later (delivered k w) ∙ delivered_same k w

deepening_same : (w : Run) → peers_in (with_deepening w) ≡ peers_in w
deepening_same w = by (may_deepen w)
  where
    by : (may : Bool) → peers_in (if may then deepened w else w) ≡ peers_in w
    by true = refl
    by false = refl

-- a line `deepen` sends no message and hashes no string
pub deepening_mail : (w : Run) → (with_deepening w).mail ≡ w.mail
deepening_mail w = by (may_deepen w)
  where
    by : (may : Bool) → (if may then deepened w else w).mail ≡ w.mail
    by true = refl
    by false = refl

pub deepening_hashed : (w : Run) → (with_deepening w).hashed ≡ w.hashed
deepening_hashed w = by (may_deepen w)
  where
    by : (may : Bool) → (if may then deepened w else w).hashed ≡ w.hashed
    by true = refl
    by false = refl

-- no line changes the number of peers
pub applied_same : (event : ScheduleEvent) (w : Run) → peers_in (applied event w) ≡ peers_in w
applied_same (Call peer id key command) w = stepped_same peer (events.Call (call_of id key command)) w
applied_same (Tick peer ticks) w = ticked_same peer ticks w
applied_same (Deliver message) w = delivered_same (message - 1) w
applied_same (Pass sender receiver) w = passed_same (oldest (goes sender receiver) w.mail) w
applied_same (Lose sender receiver) w = refl
applied_same Calm w = calmed_same everyone most_messages w
applied_same (CalmAmong members) w = calmed_same (set_of members) most_messages w
applied_same (Change peer view) w = stepped_same peer (events.Change view) w
applied_same (Stop peer) w = changed_same peer stopped w
applied_same (Start peer) w = changed_same peer (started (mode_at peer w) w.view) w
applied_same (Upgrade peer) w = refl
applied_same Deepen w = deepening_same w
applied_same (Spoil peer key bytes) w = changed_same peer (over_stores (spoiled key bytes)) w
applied_same (Damage peer key bytes) w = changed_same peer (over_stores (segment_spoiled key bytes)) w
applied_same (Inner peer level index bytes) w = changed_same peer (over_stores (inner_spoiled level index bytes)) w
applied_same (Revert peer changes) w = changed_same peer (while_down (taken_back changes)) w
applied_same (Fail peer store survivor) w = changed_same peer (over_stores (failing store (leaves_of survivor))) w

damage_grows : (peer : ℕ) (key : List ℕ) (bytes : Option (List ℕ)) (w : Run) → IsFurther w (with_damage peer key bytes w)
damage_grows peer key bytes w =
    let v = changed peer (over_stores (segment_spoiled key bytes)) w in
    let change = changed_grows peer (over_stores (segment_spoiled key bytes)) w in
    record { sent = change.sent; hashed = starts_later w.hashed v.hashed (with_damage peer key bytes w).hashed change.hashed (key ∷ [], refl) }

pub passed_grows : (n : Option ℕ) (w : Run) → IsFurther w (delivered_if n w)
passed_grows None w = further_same w
passed_grows (Some n) w = delivered_grows n w

pub deepening_grows : (w : Run) → IsFurther w (with_deepening w)
deepening_grows w = by (may_deepen w)
  where
    by : (may : Bool) → IsFurther w (if may then deepened w else w)
    by true = record { sent = omega arith; hashed = starts_here w.hashed }
    by false = further_same w

-- no line removes a message or a hashed string
pub effect_grows : (event : ScheduleEvent) (w : Run) → IsFurther w (effect event w)
effect_grows (Call peer id key command) w = stepped_grows peer (events.Call (call_of id key command)) w
effect_grows (Tick peer ticks) w = ticked_grows peer ticks w
effect_grows (Deliver message) w = delivered_grows (message - 1) w
effect_grows (Pass sender receiver) w = passed_grows (oldest (goes sender receiver) w.mail) w
effect_grows (Lose sender receiver) w = record { sent = omega arith; hashed = starts_here w.hashed }
effect_grows Calm w = calmed_grows everyone most_messages w
effect_grows (CalmAmong members) w = calmed_grows (set_of members) most_messages w
effect_grows (Change peer view) w = stepped_grows peer (events.Change view) w
effect_grows (Stop peer) w = changed_grows peer stopped w
effect_grows (Start peer) w = start_grows peer w
effect_grows (Upgrade peer) w = record { sent = omega arith; hashed = starts_here w.hashed }
effect_grows Deepen w = deepening_grows w
effect_grows (Spoil peer key bytes) w = changed_grows peer (over_stores (spoiled key bytes)) w
effect_grows (Damage peer key bytes) w = damage_grows peer key bytes w
effect_grows (Inner peer level index bytes) w = changed_grows peer (over_stores (inner_spoiled level index bytes)) w
effect_grows (Revert peer changes) w = changed_grows peer (while_down (taken_back changes)) w
effect_grows (Fail peer store survivor) w = changed_grows peer (over_stores (failing store (leaves_of survivor))) w

-- counting a line sends and hashes nothing
pub counted_grows : (event : ScheduleEvent) (w : Run) → IsFurther (effect event w) (applied event w)
counted_grows event w = record { sent = omega arith; hashed = starts_here (effect event w).hashed }

pub applied_grows : (event : ScheduleEvent) (w : Run) → IsFurther w (applied event w)
applied_grows event w = further_later w (effect event w) (applied event w) (effect_grows event w) (counted_grows event w)

pub run_grows : (events : List ScheduleEvent) (w : Run) → IsFurther w (run_from events w)
run_grows [] w = further_same w
run_grows (event ∷ more) w = further_later w (applied event w) (run_from more (applied event w)) (applied_grows event w) (run_grows more (applied event w))

-- the same strings in front of both runs
pub further_prefix : (xs : List (List ℕ)) (near far : Run) → IsFurther near far → IsFurther (in_front xs near) (in_front xs far)
further_prefix xs near far further = record {
  sent = further.sent;
  hashed = (further.hashed.0, ap (λ h. xs ++ h) further.hashed.1 ∙ sym (append_assoc xs near.hashed further.hashed.0));
}

-- the strings of fewer starts come first
pub fewer_first : (d n m : ℕ) (strings : List (List ℕ)) → m ≡ d + n → StartsWith (repeated n strings) (repeated m strings)
fewer_first zero n m strings is = subst (λ k. StartsWith (repeated n strings) (repeated k strings)) (same n m is) (starts_here (repeated n strings)) where
  same : (n m : ℕ) → m ≡ 0 + n → n ≡ m
  same n m is = omega (arith, is)
fewer_first (suc d) n zero strings is = absurd (none d n is) where
  none : (d n : ℕ) → 0 ≡ suc d + n → ⊥
  none d n is = omega (arith, is)
fewer_first (suc d) n (suc m) strings is =
    starts_later (repeated n strings) (repeated m strings) (repeated (suc m) strings) (fewer_first d n m strings (less d n m is)) (strings, refl)
  where
    less : (d n m : ℕ) → suc m ≡ suc d + n → m ≡ d + n
    less d n m is = omega (arith, is)
