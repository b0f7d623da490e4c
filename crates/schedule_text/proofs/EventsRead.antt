-- What is read as an event is spelled so, and may stand in a schedule.
use Rattle.std.proofs.Common.{◌≡◌, ℕ, zero, suc, ◌-◌, ◌<◌, ◌≤◌, ◌^◌, Bool, true, false, if◌then◌else◌, List, [], ◌∷◌, length, Option, Result, Ok, Err, refl, sym, ap, ◌∙◌, arith, lit<}
use Rattle.std.proofs.lemmas.List.{length-map}
use Rattle.std.proofs.lemmas.List.Splits.{join_with_byte-slice_split}
use Rattle.std.specs.List.{join_with_byte}
use Rattle.ens_base.specs.declared.command.Command.{Command}
use Rattle.ens_base.specs.declared.command.Command.TheVariants as does
use Rattle.ens_base.specs.Words.{bytes_word, value_word}
use Rattle.std.specs.Fmt.{decimal}
use Rattle.ens_base.specs.Results.{◌>>=◌}
use Rattle.lexemes.specs.Causes.{or_cause}
use Rattle.lexemes.specs.Spelling.{IsAmong, IsContent, content_word}
use Rattle.lexemes.specs.Words.{words_of, number_of, peer_of, key_of, value_of, content_of, version_of, members_of, view_of}
use Rattle.lexemes.specs.declared.cause.Cause.{Cause}
use Rattle.lexemes.specs.declared.cause.Cause.TheVariants.{TooLong, Unknown, Words, Number}
use Rattle.lexemes.proofs.Ascending.{members_from-ok, view_of-ok}
use Rattle.lexemes.proofs.Dotted.{number_of-ok, version_of-ok}
use Rattle.lexemes.proofs.Fields.{peer_of-ok, key_of-ok, value_of-ok, content_of-ok}
use Rattle.lexemes.proofs.Results.{bind_ok, ok_same, or_cause_ok}
use Rattle.schedule_text.specs.Arguments.{none_of, one_of, two_of, three_of, four_of, first_of, some_of}
use Rattle.schedule_text.specs.Events.{operation_of, call_from, call_named, call_of, tick_of, deliver_of, one_peer_of, two_peers_of, calm_of, change_of, placed_of, inner_of, revert_of, fail_of, keyword_event, words_event, event_of}
use Rattle.schedule_text.specs.Keywords.{command_word, command_of, commands, keyword_of, keyword_word, keywords, store_of, store_word, stores, survivor_of, survivor_word, survivors}
use Rattle.ens_base.specs.Limits.{IsKey, IsValue, IsCommand}
use Rattle.schedule_text.specs.Spelling.{event_line, event_words, name_of, operand_words, MayStand}
use Rattle.schedule_text.specs.declared.keyword.Keyword.{Keyword}
use Rattle.schedule_text.specs.declared.keyword.Keyword.TheVariants as line
use Rattle.schedule_text.specs.declared.keyword.CommandName.{CommandName}
use Rattle.schedule_text.specs.declared.keyword.CommandName.TheVariants as name
use Rattle.schedule_text.specs.declared.event.ScheduleEvent.{ScheduleEvent}
use Rattle.schedule_text.proofs.Counted.{none_of-ok, one_of-ok, two_of-ok, three_of-ok, four_of-ok, some_of-ok, first_of-ok}
use Rattle.schedule_text.proofs.Lookups.{find_word}

-- words behind a keyword are those of an event that may stand
abbrev Reads : ℕ → Keyword → List (List ℕ) → ScheduleEvent → Type 0
Reads peers keyword words event = (keyword_word keyword ∷ words ≡ event_words event) × MayStand peers event

-- ---- lists of words, word by word

list_1 : {a p : List ℕ} → a ≡ p → a ∷ [] ≡ p ∷ []
list_1 e = λ i. e i ∷ []

list_2 : {a b p q : List ℕ} → a ≡ p → b ≡ q → a ∷ b ∷ [] ≡ p ∷ q ∷ []
list_2 e f = λ i. e i ∷ f i ∷ []

list_3 : {a b c p q r : List ℕ} → a ≡ p → b ≡ q → c ≡ r → a ∷ b ∷ c ∷ [] ≡ p ∷ q ∷ r ∷ []
list_3 e f g = λ i. e i ∷ f i ∷ g i ∷ []

list_4 : {a b c d p q r s : List ℕ} → a ≡ p → b ≡ q → c ≡ r → d ≡ s → a ∷ b ∷ c ∷ d ∷ [] ≡ p ∷ q ∷ r ∷ s ∷ []
list_4 e f g h = λ i. e i ∷ f i ∷ g i ∷ h i ∷ []

behind : (keyword : Keyword) {words others : List (List ℕ)} → words ≡ others → keyword_word keyword ∷ words ≡ keyword_word keyword ∷ others
behind keyword e = λ i. keyword_word keyword ∷ e i

few_indexes : (level : ℕ) → level ≤ 4 → (16 ^ level - 1 < 2 ^ 64) × (0 < 16 ^ level)
few_indexes zero h = (lit< tt, lit< tt)
few_indexes (suc zero) h = (lit< tt, lit< tt)
few_indexes (suc (suc zero)) h = (lit< tt, lit< tt)
few_indexes (suc (suc (suc zero))) h = (lit< tt, lit< tt)
few_indexes (suc (suc (suc (suc zero)))) h = (lit< tt, lit< tt)
few_indexes (suc (suc (suc (suc (suc n))))) h = absurd (omega arith)

-- ---- each line

tick_read : (peers : ℕ) (words : List (List ℕ)) (event : ScheduleEvent) → peers ≤ 31 → tick_of peers words ≡ Ok event → Reads peers line.Tick words event
tick_read peers words event few h =
    let w = bind_ok (two_of words) _ event h in
    let p = bind_ok (peer_of peers w.0.0) _ event w.2 in
    let n = bind_ok (number_of 1 100 w.0.1) _ event p.2 in
    let peer = peer_of-ok peers w.0.0 p.0 few p.1 in
    let ticks = number_of-ok 1 100 w.0.1 n.0 (lit< tt) n.1 in
    rw (← (ok_same n.2)) (behind line.Tick (two_of-ok words w.0 w.1 ∙ list_2 peer.0 ticks.0), (peer.1, ticks.1, ticks.2))

deliver_read : (peers : ℕ) (words : List (List ℕ)) (event : ScheduleEvent) → deliver_of words ≡ Ok event → Reads peers line.Deliver words event
deliver_read peers words event h =
    let w = bind_ok (one_of words) _ event h in
    let n = bind_ok (number_of 1 (2 ^ 64 - 1) w.0) _ event w.2 in
    let message = number_of-ok 1 (2 ^ 64 - 1) w.0 n.0 (lit< tt) n.1 in
    rw (← (ok_same n.2)) (behind line.Deliver (one_of-ok words w.0 w.1 ∙ list_1 message.0), (message.1, omega (arith, message.2)))

one_peer_read : (peers : ℕ) (words : List (List ℕ)) (peer : ℕ) → peers ≤ 31 → one_peer_of peers words ≡ Ok peer → (words ≡ decimal peer ∷ []) × IsAmong peers peer
one_peer_read peers words peer few h =
    let w = bind_ok (one_of words) _ peer h in
    let read = peer_of-ok peers w.0 peer few w.2 in
    (one_of-ok words w.0 w.1 ∙ list_1 read.0, read.1)

two_peers_read : (peers : ℕ) (words : List (List ℕ)) (x : ℕ × ℕ) → peers ≤ 31 → two_peers_of peers words ≡ Ok x
    → (words ≡ decimal x.0 ∷ decimal x.1 ∷ []) × (IsAmong peers x.0 × IsAmong peers x.1)
two_peers_read peers words x few h =
    let w = bind_ok (two_of words) _ x h in
    let p = bind_ok (peer_of peers w.0.0) _ x w.2 in
    let q = bind_ok (peer_of peers w.0.1) _ x p.2 in
    let sender = peer_of-ok peers w.0.0 p.0 few p.1 in
    let receiver = peer_of-ok peers w.0.1 q.0 few q.1 in
    rw (← (ok_same q.2)) (two_of-ok words w.0 w.1 ∙ list_2 sender.0 receiver.0, (sender.1, receiver.1))

placed_read : (peers : ℕ) (words : List (List ℕ)) (x : ℕ × List ℕ × Option (List ℕ)) → peers ≤ 31 → placed_of peers words ≡ Ok x
    → (words ≡ decimal x.0 ∷ bytes_word x.1 ∷ content_word x.2 ∷ []) × (IsAmong peers x.0 × IsKey x.1 × IsContent x.2)
placed_read peers words x few h =
    let w = bind_ok (three_of words) _ x h in
    let p = bind_ok (peer_of peers w.0.0) _ x w.2 in
    let k = bind_ok (key_of w.0.1) _ x p.2 in
    let b = bind_ok (content_of w.0.2) _ x k.2 in
    let peer = peer_of-ok peers w.0.0 p.0 few p.1 in
    let key = key_of-ok w.0.1 k.0 k.1 in
    let bytes = content_of-ok w.0.2 b.0 b.1 in
    rw (← (ok_same b.2)) (three_of-ok words w.0 w.1 ∙ list_3 peer.0 key.0 bytes.0, (peer.1, key.1, bytes.1))

calm_read : (peers : ℕ) (words : List (List ℕ)) (event : ScheduleEvent) → peers ≤ 31 → calm_of peers words ≡ Ok event → Reads peers line.Calm words event
calm_read peers [] event few h = rw (← (ok_same h)) (refl, tt)
calm_read peers (a ∷ more) event few h =
    let w = bind_ok (some_of (a ∷ more)) _ event h in
    let m = bind_ok (members_of peers w.0) _ event w.2 in
    let some = some_of-ok (a ∷ more) w.0 w.1 in
    let members = members_from-ok 1 peers w.0 m.0 (omega arith) m.1 in
    let many : 1 ≤ length m.0 = omega (arith, some.1, ap length members.1, length-map m.0 decimal) in
    rw (← (ok_same m.2)) (behind line.Calm (some.0 ∙ members.1), (many, members.0))

change_read : (peers : ℕ) (words : List (List ℕ)) (event : ScheduleEvent) → peers ≤ 31 → change_of peers words ≡ Ok event → Reads peers line.Change words event
change_read peers words event few h =
    let w = bind_ok (first_of words) _ event h in
    let p = bind_ok (peer_of peers w.0.0) _ event w.2 in
    let v = bind_ok (view_of peers w.0.1) _ event p.2 in
    let peer = peer_of-ok peers w.0.0 p.0 few p.1 in
    let view = view_of-ok peers w.0.1 v.0 few v.1 in
    rw (← (ok_same v.2)) (behind line.Change (first_of-ok words w.0 w.1 ∙ (λ i. peer.0 i ∷ view.2 i)), (peer.1, view.0, view.1))

inner_read : (peers : ℕ) (words : List (List ℕ)) (event : ScheduleEvent) → peers ≤ 31 → inner_of peers words ≡ Ok event → Reads peers line.Inner words event
inner_read peers words event few h =
    let w = bind_ok (four_of words) _ event h in
    let p = bind_ok (peer_of peers w.0.0) _ event w.2 in
    let l = bind_ok (number_of 0 4 w.0.1) _ event p.2 in
    let n = bind_ok (number_of 0 (16 ^ l.0 - 1) w.0.2) _ event l.2 in
    let b = bind_ok (content_of w.0.3) _ event n.2 in
    let peer = peer_of-ok peers w.0.0 p.0 few p.1 in
    let level = number_of-ok 0 4 w.0.1 l.0 (lit< tt) l.1 in
    let index = number_of-ok 0 (16 ^ l.0 - 1) w.0.2 n.0 (few_indexes l.0 level.2).0 n.1 in
    let bytes = content_of-ok w.0.3 b.0 b.1 in
    rw (← (ok_same b.2)) (behind line.Inner (four_of-ok words w.0 w.1 ∙ list_4 peer.0 level.0 index.0 bytes.0), (peer.1, level.2, omega (arith, index.2, (few_indexes l.0 level.2).1), bytes.1))

revert_read : (peers : ℕ) (words : List (List ℕ)) (event : ScheduleEvent) → peers ≤ 31 → revert_of peers words ≡ Ok event → Reads peers line.Revert words event
revert_read peers words event few h =
    let w = bind_ok (two_of words) _ event h in
    let p = bind_ok (peer_of peers w.0.0) _ event w.2 in
    let n = bind_ok (number_of 1 1000000 w.0.1) _ event p.2 in
    let peer = peer_of-ok peers w.0.0 p.0 few p.1 in
    let changes = number_of-ok 1 1000000 w.0.1 n.0 (lit< tt) n.1 in
    rw (← (ok_same n.2)) (behind line.Revert (two_of-ok words w.0 w.1 ∙ list_2 peer.0 changes.0), (peer.1, changes.1, changes.2))

fail_read : (peers : ℕ) (words : List (List ℕ)) (event : ScheduleEvent) → peers ≤ 31 → fail_of peers words ≡ Ok event → Reads peers line.Fail words event
fail_read peers words event few h =
    let w = bind_ok (three_of words) _ event h in
    let p = bind_ok (peer_of peers w.0.0) _ event w.2 in
    let s = bind_ok (or_cause Number (store_of w.0.1)) _ event p.2 in
    let o = bind_ok (or_cause Number (survivor_of w.0.2)) _ event s.2 in
    let peer = peer_of-ok peers w.0.0 p.0 few p.1 in
    let store = find_word store_word stores w.0.1 s.0 (or_cause_ok Number (store_of w.0.1) s.0 s.1) in
    let survivor = find_word survivor_word survivors w.0.2 o.0 (or_cause_ok Number (survivor_of w.0.2) o.0 o.1) in
    rw (← (ok_same o.2)) (behind line.Fail (three_of-ok words w.0 w.1 ∙ list_3 peer.0 store survivor), peer.1)

-- ---- calls

-- the operands of a command are its words, and the command has its name
OperandsRead : CommandName → List (List ℕ) → Command → Type 0
OperandsRead named words command = (words ≡ operand_words command) × (named ≡ name_of command) × IsCommand command

value_operand : (named : CommandName) (make : List ℕ → Command) (words : List (List ℕ)) (command : Command)
    → ((value : List ℕ) → IsValue value → OperandsRead named (value_word value ∷ []) (make value))
    → (one_of words >>= λ w. value_of w >>= λ value. Ok (make value)) ≡ Ok command → OperandsRead named words command
unfolding OperandsRead
value_operand named make words command each h =
    let w = bind_ok (one_of words) _ command h in
    let v = bind_ok (value_of w.0) _ command w.2 in
    let value = value_of-ok w.0 v.0 v.1 in
    let read = each v.0 value.1 in
    rw (← (ok_same v.2)) (one_of-ok words w.0 w.1 ∙ list_1 value.0 ∙ read.0, read.1, read.2)

operation_read : (named : CommandName) (words : List (List ℕ)) (command : Command) → operation_of named words ≡ Ok command → OperandsRead named words command
unfolding OperandsRead
operation_read name.Get words command h =
    let w = bind_ok (none_of words) _ command h in
    rw (← (ok_same w.2)) (none_of-ok words w.0 w.1, refl, tt)
operation_read name.Once words command h = value_operand name.Once does.PutOnce words command (λ value has. (refl, refl, has)) h
operation_read name.Update words command h =
    let w = bind_ok (two_of words) _ command h in
    let s = bind_ok (version_of w.0.0) _ command w.2 in
    let v = bind_ok (value_of w.0.1) _ command s.2 in
    let stamp = version_of-ok w.0.0 s.0 s.1 in
    let value = value_of-ok w.0.1 v.0 v.1 in
    rw (← (ok_same v.2)) (two_of-ok words w.0 w.1 ∙ list_2 stamp.0 value.0, refl, (stamp.1, value.1))
operation_read name.Append words command h = value_operand name.Append does.Append words command (λ value has. (refl, refl, has)) h
operation_read name.Add words command h =
    let w = bind_ok (one_of words) _ command h in
    let n = bind_ok (number_of 0 (2 ^ 64 - 1) w.0) _ command w.2 in
    let amount = number_of-ok 0 (2 ^ 64 - 1) w.0 n.0 (lit< tt) n.1 in
    rw (← (ok_same n.2)) (one_of-ok words w.0 w.1 ∙ list_1 amount.0, refl, omega (arith, amount.2))
operation_read name.Swap words command h =
    let w = bind_ok (two_of words) _ command h in
    let o = bind_ok (value_of w.0.0) _ command w.2 in
    let n = bind_ok (value_of w.0.1) _ command o.2 in
    let old = value_of-ok w.0.0 o.0 o.1 in
    let new = value_of-ok w.0.1 n.0 n.1 in
    rw (← (ok_same n.2)) (two_of-ok words w.0 w.1 ∙ list_2 old.0 new.0, refl, (old.1, new.1))
operation_read name.Over words command h = value_operand name.Over does.Over words command (λ value has. (refl, refl, has)) h
operation_read name.Delete words command h =
    let w = bind_ok (none_of words) _ command h in
    rw (← (ok_same w.2)) (none_of-ok words w.0 w.1, refl, tt)

call_from_read : (peers : ℕ) (p i c k : List ℕ) (named : CommandName) (operands : List (List ℕ)) (event : ScheduleEvent) → peers ≤ 31
    → c ≡ command_word named → call_from peers p i named k operands ≡ Ok event → Reads peers line.Call (p ∷ i ∷ c ∷ k ∷ operands) event
unfolding OperandsRead
call_from_read peers p i c k named operands event few word h =
    let q = bind_ok (peer_of peers p) _ event h in
    let n = bind_ok (number_of 0 (2 ^ 64 - 1) i) _ event q.2 in
    let t = bind_ok (key_of k) _ event n.2 in
    let o = bind_ok (operation_of named operands) _ event t.2 in
    let peer = peer_of-ok peers p q.0 few q.1 in
    let id = number_of-ok 0 (2 ^ 64 - 1) i n.0 (lit< tt) n.1 in
    let key = key_of-ok k t.0 t.1 in
    let command = operation_read named operands o.0 o.1 in
    let named_word : c ≡ command_word (name_of o.0) = word ∙ ap command_word command.1 in
    rw (← (ok_same o.2)) (behind line.Call (λ j. peer.0 j ∷ id.0 j ∷ named_word j ∷ key.0 j ∷ command.0 j), (peer.1, omega (arith, id.2), key.1, command.2))

unless_ok : {A : Type 0} (b : Bool) (r : Result A Cause) (y : A) → (if b then Err Words else r) ≡ Ok y → r ≡ Ok y
unless_ok true r y h = cc h
unless_ok false r y h = h

call_named_read : (peers : ℕ) (p i c : List ℕ) (more : List (List ℕ)) (named : CommandName) (event : ScheduleEvent) → peers ≤ 31
    → c ≡ command_word named → call_named peers named (p ∷ i ∷ c ∷ more) ≡ Ok event → Reads peers line.Call (p ∷ i ∷ c ∷ more) event
call_named_read peers p i c [] named event few word h = cc h
call_named_read peers p i c (k ∷ operands) named event few word h =
    call_from_read peers p i c k named operands event few word (unless_ok _ (call_from peers p i named k operands) event h)

call_read : (peers : ℕ) (words : List (List ℕ)) (event : ScheduleEvent) → peers ≤ 31 → call_of peers words ≡ Ok event → Reads peers line.Call words event
call_read peers [] event few h = cc h
call_read peers (p ∷ []) event few h = cc h
call_read peers (p ∷ i ∷ []) event few h = cc h
call_read peers (p ∷ i ∷ c ∷ more) event few h =
    let n = bind_ok (or_cause Unknown (command_of c)) _ event h in
    let word = find_word command_word commands c n.0 (or_cause_ok Unknown (command_of c) n.0 n.1) in
    call_named_read peers p i c more n.0 event few word n.2

-- ---- whole lines

keyword_read : (peers : ℕ) (keyword : Keyword) (words : List (List ℕ)) (event : ScheduleEvent) → peers ≤ 31
    → keyword_event peers keyword words ≡ Ok event → Reads peers keyword words event
keyword_read peers line.Call words event few h = call_read peers words event few h
keyword_read peers line.Tick words event few h = tick_read peers words event few h
keyword_read peers line.Deliver words event few h = deliver_read peers words event h
keyword_read peers line.Pass words event few h =
    let x = bind_ok (two_peers_of peers words) _ event h in
    let read = two_peers_read peers words x.0 few x.1 in
    rw (← (ok_same x.2)) (behind line.Pass read.0, read.1)
keyword_read peers line.Lose words event few h =
    let x = bind_ok (two_peers_of peers words) _ event h in
    let read = two_peers_read peers words x.0 few x.1 in
    rw (← (ok_same x.2)) (behind line.Lose read.0, read.1)
keyword_read peers line.Calm words event few h = calm_read peers words event few h
keyword_read peers line.Change words event few h = change_read peers words event few h
keyword_read peers line.Stop words event few h =
    let x = bind_ok (one_peer_of peers words) _ event h in
    let read = one_peer_read peers words x.0 few x.1 in
    rw (← (ok_same x.2)) (behind line.Stop read.0, read.1)
keyword_read peers line.Start words event few h =
    let x = bind_ok (one_peer_of peers words) _ event h in
    let read = one_peer_read peers words x.0 few x.1 in
    rw (← (ok_same x.2)) (behind line.Start read.0, read.1)
keyword_read peers line.Upgrade words event few h =
    let x = bind_ok (one_peer_of peers words) _ event h in
    let read = one_peer_read peers words x.0 few x.1 in
    rw (← (ok_same x.2)) (behind line.Upgrade read.0, read.1)
keyword_read peers line.Deepen words event few h =
    let w = bind_ok (none_of words) _ event h in
    rw (← (ok_same w.2)) (behind line.Deepen (none_of-ok words w.0 w.1), tt)
keyword_read peers line.Spoil words event few h =
    let x = bind_ok (placed_of peers words) _ event h in
    let read = placed_read peers words x.0 few x.1 in
    rw (← (ok_same x.2)) (behind line.Spoil read.0, read.1)
keyword_read peers line.Damage words event few h =
    let x = bind_ok (placed_of peers words) _ event h in
    let read = placed_read peers words x.0 few x.1 in
    rw (← (ok_same x.2)) (behind line.Damage read.0, read.1)
keyword_read peers line.Inner words event few h = inner_read peers words event few h
keyword_read peers line.Revert words event few h = revert_read peers words event few h
keyword_read peers line.Fail words event few h = fail_read peers words event few h

words_read : (peers : ℕ) (words : List (List ℕ)) (event : ScheduleEvent) → peers ≤ 31 → words_event peers words ≡ Ok event
    → (words ≡ event_words event) × MayStand peers event
words_read peers [] event few h = cc h
words_read peers (first ∷ words) event few h =
    let k = bind_ok (or_cause Unknown (keyword_of first)) _ event h in
    let word = find_word keyword_word keywords first k.0 (or_cause_ok Unknown (keyword_of first) k.0 k.1) in
    let read = keyword_read peers k.0 words event few k.2 in
    ((λ i. word i ∷ words) ∙ read.0, read.1)

pub short_enough : {A : Type 0} (b : Bool) (r : Result A Cause) (y : A) → (if b then Err TooLong else r) ≡ Ok y → r ≡ Ok y
short_enough true r y h = cc h
short_enough false r y h = h

-- a line that is read as an event is its spelling, and the event may stand in a schedule of so many peers
pub event_of-ok : (peers : ℕ) (text : List ℕ) (event : ScheduleEvent) → peers ≤ 31 → event_of peers text ≡ Ok event
    → (text ≡ event_line event) × MayStand peers event
event_of-ok peers text event few h =
    let read = words_read peers (words_of text) event few (short_enough _ (words_event peers (words_of text)) event h) in
    (sym (join_with_byte-slice_split 32 text) ∙ ap (join_with_byte 32) read.0, read.1)
