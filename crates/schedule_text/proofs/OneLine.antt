-- The spelling of an event is one line: its words are parted again, and it is not too long.
use Rattle.std.proofs.Common.{◌≡◌, ℕ, zero, suc, ◌+◌, ◌*◌, ◌<◌, ◌≤◌, ◌^◌, true, false, nat_lt, nat_le, List, [], ◌∷◌, length, codes, Option, Ok, refl, ap, ◌∙◌, arith, lit<, lit≤}
use Rattle.std.proofs.lemmas.Bool.Decides.{nat_tests}
use Rattle.std.proofs.lemmas.Fmt.{length-decimal-le}
use Rattle.std.proofs.lemmas.List.{length-append}
use Rattle.std.specs.Fmt.{decimal}
use Rattle.std.specs.List.{join_with_byte, list_all}
use Rattle.ens_base.specs.declared.command.Command.{Command}
use Rattle.ens_base.specs.declared.command.Command.TheVariants as does
use Rattle.ens_base.specs.Words.{bytes_word, value_word, version_word}
use Rattle.ens_base.specs.declared.epoch.Version.{Version}
use Rattle.ens_base.specs.Limits.{IsKey, IsValue, IsVersion, IsCommand}
use Rattle.lexemes.specs.Spelling.{AreMembers, AscendFrom, IsAmong, IsContent, content_word, member_words}
use Rattle.lexemes.specs.Words.{words_of}
use Rattle.lexemes.proofs.Dotted.{has-version, length-version, length-version_word-le}
use Rattle.lexemes.proofs.Fields.{length-bytes_word, length-value_word-le, length-content_word-le}
use Rattle.lexemes.proofs.Joined.{AreWords, has, has-append, has-content, has-decimal, has-encode, has-letters, has-value, length-content, length-decimal, length-encode, length-value, other, parts_of-join}
use Rattle.schedule_text.specs.Events.{event_of, line_limit, words_event}
use Rattle.schedule_text.specs.Keywords.{command_word, store_word, survivor_word}
use Rattle.schedule_text.specs.Spelling.{event_line, event_words, name_of, operand_words, MayStand}
use Rattle.schedule_text.specs.declared.keyword.StoreName.{StoreName}
use Rattle.schedule_text.specs.declared.keyword.StoreName.TheVariants as store
use Rattle.schedule_text.specs.declared.keyword.Survivor.{Survivor}
use Rattle.schedule_text.specs.declared.keyword.Survivor.TheVariants as left
use Rattle.schedule_text.specs.declared.keyword.CommandName.{CommandName}
use Rattle.schedule_text.specs.declared.keyword.CommandName.TheVariants as name
use Rattle.schedule_text.specs.declared.event.ScheduleEvent.{ScheduleEvent}
use Rattle.schedule_text.specs.declared.event.ScheduleEvent.TheVariants.{Call, Tick, Deliver, Pass, Lose, Calm, CalmAmong, Change, Stop, Start, Upgrade, Deepen, Spoil, Damage, Inner, Revert, Fail}
use Rattle.schedule_text.proofs.EventsAgain.{words_again}

-- ---- which bytes the words have

-- a word that has bytes, and not this one
abbrev IsWord : ℕ → List ℕ → Type 0
IsWord at w = (has at w ≡ false) × (0 < length w)

letters : (at : ℕ) (w : List ℕ) → at < 45 → list_all (λ c. nat_le 48 c) w ≡ true → 0 < length w → IsWord at w
letters at w low high some = (has-letters at w (omega arith) high, some)

number_word : (at n : ℕ) → at < 45 → n < 2 ^ 64 → IsWord at (decimal n)
number_word at n low fits = (has-decimal at n (omega arith) fits, length-decimal n fits)

peer_word : (at peers peer : ℕ) → at < 45 → peers ≤ 31 → IsAmong peers peer → IsWord at (decimal peer)
peer_word at peers peer low few h = let last : peer ≤ peers = h.last in number_word at peer low (omega arith)

key_word : (at : ℕ) (key : List ℕ) → at < 45 → IsKey key → IsWord at (bytes_word key)
key_word at key low h = let least : 1 ≤ length key = h.size.0 in (has-encode at key (omega arith) h.bytes, length-encode key (omega arith))

values_word : (at : ℕ) (value : List ℕ) → at < 45 → IsValue value → IsWord at (value_word value)
values_word at value low h = (has-value at value low h.bytes, length-value value)

contents_word : (at : ℕ) (content : Option (List ℕ)) → at < 45 → IsContent content → IsWord at (content_word content)
contents_word at content low h = (has-content at content low h, length-content content h)

versions_word : (at : ℕ) (v : Version) → at < 45 → IsVersion v → IsWord at (version_word v)
versions_word at v low h = (has-version at v (omega arith) h, length-version v h)

pub members_word : (at low peers : ℕ) (members : List ℕ) → at < 45 → peers ≤ 31 → AscendFrom low peers members → AreWords at (member_words members)
members_word at low peers [] small few h = tt
members_word at low peers (m ∷ ms) small few h =
    let first = number_word at m small (omega (arith, h.1)) in
    (first.0, first.1, members_word at (m + 1) peers ms small few h.2)

name_word : (at : ℕ) (x : CommandName) → at < 45 → IsWord at (command_word x)
name_word at name.Get low = letters at (command_word name.Get) low refl (lit< tt)
name_word at name.Once low = letters at (command_word name.Once) low refl (lit< tt)
name_word at name.Update low = letters at (command_word name.Update) low refl (lit< tt)
name_word at name.Append low = letters at (command_word name.Append) low refl (lit< tt)
name_word at name.Add low = letters at (command_word name.Add) low refl (lit< tt)
name_word at name.Swap low = letters at (command_word name.Swap) low refl (lit< tt)
name_word at name.Over low = letters at (command_word name.Over) low refl (lit< tt)
name_word at name.Delete low = letters at (command_word name.Delete) low refl (lit< tt)

stores_word : (at : ℕ) (x : StoreName) → at < 45 → IsWord at (store_word x)
stores_word at store.Fact low = letters at (store_word store.Fact) low refl (lit< tt)
stores_word at store.Tree low = letters at (store_word store.Tree) low refl (lit< tt)
stores_word at store.Backend low = letters at (store_word store.Backend) low refl (lit< tt)

survivors_word : (at : ℕ) (x : Survivor) → at < 45 → IsWord at (survivor_word x)
survivors_word at left.Old low = letters at (survivor_word left.Old) low refl (lit< tt)
survivors_word at left.New low = letters at (survivor_word left.New) low refl (lit< tt)

operands_are_words : (at : ℕ) (command : Command) → at < 45 → IsCommand command → AreWords at (operand_words command)
operands_are_words at does.Get low h = tt
operands_are_words at (does.PutOnce value) low h =
    let wa = values_word at value low h in
    (wa.0, wa.1, tt)
operands_are_words at (does.Update stamp value) low h =
    let wa = versions_word at stamp low h.0 in
    let wb = values_word at value low h.1 in
    (wa.0, wa.1, (wb.0, wb.1, tt))
operands_are_words at (does.Append tail) low h =
    let wa = values_word at tail low h in
    (wa.0, wa.1, tt)
operands_are_words at (does.Add amount) low h =
    let wa = number_word at amount low h in
    (wa.0, wa.1, tt)
operands_are_words at (does.Swap old new) low h =
    let wa = values_word at old low h.0 in
    let wb = values_word at new low h.1 in
    (wa.0, wa.1, (wb.0, wb.1, tt))
operands_are_words at (does.Over value) low h =
    let wa = values_word at value low h in
    (wa.0, wa.1, tt)
operands_are_words at does.Delete low h = tt

level_fits : (level index : ℕ) → level ≤ 4 → index < 16 ^ level → index < 2 ^ 64
level_fits zero index h k = omega arith
level_fits (suc zero) index h k = omega arith
level_fits (suc (suc zero)) index h k = omega arith
level_fits (suc (suc (suc zero))) index h k = omega arith
level_fits (suc (suc (suc (suc zero)))) index h k = omega arith
level_fits (suc (suc (suc (suc (suc n))))) index h k = absurd (omega arith)

-- no word of an event has this byte, and none is empty
pub event_are_words : (at peers : ℕ) (event : ScheduleEvent) → at < 45 → peers ≤ 31 → MayStand peers event → AreWords at (event_words event)
event_are_words at peers (Call peer id key command) low few h =
    let wa = letters at (codes "call") low refl (lit< tt) in
    let wb = peer_word at peers peer low few h.0 in
    let wc = number_word at id low h.1 in
    let wd = name_word at (name_of command) low in
    let we = key_word at key low h.2 in
    (wa.0, wa.1, (wb.0, wb.1, (wc.0, wc.1, (wd.0, wd.1, (we.0, we.1, operands_are_words at command low h.3)))))
event_are_words at peers (Tick peer ticks) low few h =
    let wa = letters at (codes "tick") low refl (lit< tt) in
    let wb = peer_word at peers peer low few h.0 in
    let wc = number_word at ticks low (omega (arith, h.2)) in
    (wa.0, wa.1, (wb.0, wb.1, (wc.0, wc.1, tt)))
event_are_words at peers (Deliver message) low few h =
    let wa = letters at (codes "deliver") low refl (lit< tt) in
    let wb = number_word at message low h.1 in
    (wa.0, wa.1, (wb.0, wb.1, tt))
event_are_words at peers (Pass sender receiver) low few h =
    let wa = letters at (codes "pass") low refl (lit< tt) in
    let wb = peer_word at peers sender low few h.0 in
    let wc = peer_word at peers receiver low few h.1 in
    (wa.0, wa.1, (wb.0, wb.1, (wc.0, wc.1, tt)))
event_are_words at peers (Lose sender receiver) low few h =
    let wa = letters at (codes "lose") low refl (lit< tt) in
    let wb = peer_word at peers sender low few h.0 in
    let wc = peer_word at peers receiver low few h.1 in
    (wa.0, wa.1, (wb.0, wb.1, (wc.0, wc.1, tt)))
event_are_words at peers Calm low few h =
    let wa = letters at (codes "calm") low refl (lit< tt) in
    (wa.0, wa.1, tt)
event_are_words at peers (CalmAmong members) low few h =
    let wa = letters at (codes "calm") low refl (lit< tt) in
    (wa.0, wa.1, members_word at 1 peers members low few h.1)
event_are_words at peers (Change peer view) low few h =
    let wa = letters at (codes "change") low refl (lit< tt) in
    let wb = peer_word at peers peer low few h.0 in
    (wa.0, wa.1, (wb.0, wb.1, members_word at 1 peers view low few h.1))
event_are_words at peers (Stop peer) low few h =
    let wa = letters at (codes "stop") low refl (lit< tt) in
    let wb = peer_word at peers peer low few h in
    (wa.0, wa.1, (wb.0, wb.1, tt))
event_are_words at peers (Start peer) low few h =
    let wa = letters at (codes "start") low refl (lit< tt) in
    let wb = peer_word at peers peer low few h in
    (wa.0, wa.1, (wb.0, wb.1, tt))
event_are_words at peers (Upgrade peer) low few h =
    let wa = letters at (codes "upgrade") low refl (lit< tt) in
    let wb = peer_word at peers peer low few h in
    (wa.0, wa.1, (wb.0, wb.1, tt))
event_are_words at peers Deepen low few h =
    let wa = letters at (codes "deepen") low refl (lit< tt) in
    (wa.0, wa.1, tt)
event_are_words at peers (Spoil peer key bytes) low few h =
    let wa = letters at (codes "spoil") low refl (lit< tt) in
    let wb = peer_word at peers peer low few h.0 in
    let wc = key_word at key low h.1 in
    let wd = contents_word at bytes low h.2 in
    (wa.0, wa.1, (wb.0, wb.1, (wc.0, wc.1, (wd.0, wd.1, tt))))
event_are_words at peers (Damage peer key bytes) low few h =
    let wa = letters at (codes "damage") low refl (lit< tt) in
    let wb = peer_word at peers peer low few h.0 in
    let wc = key_word at key low h.1 in
    let wd = contents_word at bytes low h.2 in
    (wa.0, wa.1, (wb.0, wb.1, (wc.0, wc.1, (wd.0, wd.1, tt))))
event_are_words at peers (Inner peer level index bytes) low few h =
    let wa = letters at (codes "inner") low refl (lit< tt) in
    let wb = peer_word at peers peer low few h.0 in
    let wc = number_word at level low (omega (arith, h.1)) in
    let wd = number_word at index low (level_fits level index h.1 h.2) in
    let we = contents_word at bytes low h.3 in
    (wa.0, wa.1, (wb.0, wb.1, (wc.0, wc.1, (wd.0, wd.1, (we.0, we.1, tt)))))
event_are_words at peers (Revert peer changes) low few h =
    let wa = letters at (codes "revert") low refl (lit< tt) in
    let wb = peer_word at peers peer low few h.0 in
    let wc = number_word at changes low (omega (arith, h.2)) in
    (wa.0, wa.1, (wb.0, wb.1, (wc.0, wc.1, tt)))
event_are_words at peers (Fail peer s o) low few h =
    let wa = letters at (codes "fail") low refl (lit< tt) in
    let wb = peer_word at peers peer low few h in
    let wc = stores_word at s low in
    let wd = survivors_word at o low in
    (wa.0, wa.1, (wb.0, wb.1, (wc.0, wc.1, (wd.0, wd.1, tt))))

-- ---- how long the words are

-- the bytes of words, with one more for each
abbrev pub total : List (List ℕ) → ℕ
total [] = 0
total (w ∷ ws) = (length w + 1) + total ws

length-join : (at : ℕ) (words : List (List ℕ)) → length (join_with_byte at words) ≤ total words
length-join at [] = lit≤ tt
length-join at (w ∷ []) = omega arith
length-join at (w ∷ next ∷ more) = let later = length-join at (next ∷ more) in omega (arith, length-append w (at ∷ join_with_byte at (next ∷ more)), later)

pub decimal_short : (n : ℕ) → n < 2 ^ 64 → length (decimal n) ≤ 20
decimal_short n fits = length-decimal-le 20 n (lit< tt) (omega arith) fits

peer_short : (peers peer : ℕ) → peers ≤ 31 → IsAmong peers peer → length (decimal peer) ≤ 20
peer_short peers peer few h = let last : peer ≤ peers = h.last in decimal_short peer (omega arith)

name_short : (c : CommandName) → length (command_word c) ≤ 6
name_short name.Get = lit≤ tt
name_short name.Once = lit≤ tt
name_short name.Update = lit≤ tt
name_short name.Append = lit≤ tt
name_short name.Add = lit≤ tt
name_short name.Swap = lit≤ tt
name_short name.Over = lit≤ tt
name_short name.Delete = lit≤ tt

store_short : (s : StoreName) → length (store_word s) ≤ 7
store_short store.Fact = lit≤ tt
store_short store.Tree = lit≤ tt
store_short store.Backend = lit≤ tt

survivor_short : (s : Survivor) → length (survivor_word s) ≤ 3
survivor_short left.Old = lit≤ tt
survivor_short left.New = lit≤ tt

key_short : (key : List ℕ) → IsKey key → length (bytes_word key) ≤ 128
key_short key h = let most : length key ≤ 64 = h.size.1 in omega (arith, length-bytes_word key)

operands_short : (command : Command) → IsCommand command → total (operand_words command) ≤ 4098
operands_short does.Get h = lit≤ tt
operands_short (does.PutOnce value) h = omega (arith, length-value_word-le value h)
operands_short (does.Update stamp value) h = omega (arith, length-version_word-le stamp h.0, length-value_word-le value h.1)
operands_short (does.Append tail) h = omega (arith, length-value_word-le tail h)
operands_short (does.Add amount) h = omega (arith, decimal_short amount h)
operands_short (does.Swap old new) h = omega (arith, length-value_word-le old h.0, length-value_word-le new h.1)
operands_short (does.Over value) h = omega (arith, length-value_word-le value h)
operands_short does.Delete h = lit≤ tt

few_members : (low peers : ℕ) (members : List ℕ) → low ≤ peers + 1 → AscendFrom low peers members → length members + low ≤ peers + 1
few_members low peers [] room h = omega arith
few_members low peers (m ∷ ms) room h = let later = few_members (m + 1) peers ms (omega (arith, h.1)) h.2 in omega (arith, h.0, later)

members_total : (low peers : ℕ) (members : List ℕ) → peers ≤ 31 → AscendFrom low peers members → total (member_words members) ≤ 21 * length members
members_total low peers [] few h = lit≤ tt
members_total low peers (m ∷ ms) few h =
    let later = members_total (m + 1) peers ms few h.2 in
    let first = decimal_short m (omega (arith, h.1)) in
    omega (arith, later, first)

pub members_short : (peers : ℕ) (members : List ℕ) → peers ≤ 31 → AreMembers peers members → total (member_words members) ≤ 651
members_short peers members few h =
    let number = few_members 1 peers members (omega arith) h in
    let long = members_total 1 peers members few h in
    omega (arith, number, long)

-- the words of an event are short enough for a line
event_short : (peers : ℕ) (event : ScheduleEvent) → peers ≤ 31 → MayStand peers event → total (event_words event) ≤ 4400
event_short peers (Call peer id key command) few h =
    omega (arith, peer_short peers peer few h.0, decimal_short id h.1, name_short (name_of command), key_short key h.2, operands_short command h.3)
event_short peers (Tick peer ticks) few h = omega (arith, peer_short peers peer few h.0, decimal_short ticks (omega (arith, h.2)))
event_short peers (Deliver message) few h = omega (arith, decimal_short message h.1)
event_short peers (Pass sender receiver) few h = omega (arith, peer_short peers sender few h.0, peer_short peers receiver few h.1)
event_short peers (Lose sender receiver) few h = omega (arith, peer_short peers sender few h.0, peer_short peers receiver few h.1)
event_short peers Calm few h = lit≤ tt
event_short peers (CalmAmong members) few h = omega (arith, members_short peers members few h.1)
event_short peers (Change peer view) few h = omega (arith, peer_short peers peer few h.0, members_short peers view few h.1)
event_short peers (Stop peer) few h = omega (arith, peer_short peers peer few h)
event_short peers (Start peer) few h = omega (arith, peer_short peers peer few h)
event_short peers (Upgrade peer) few h = omega (arith, peer_short peers peer few h)
event_short peers Deepen few h = lit≤ tt
event_short peers (Spoil peer key bytes) few h = omega (arith, peer_short peers peer few h.0, key_short key h.1, length-content_word-le bytes h.2)
event_short peers (Damage peer key bytes) few h = omega (arith, peer_short peers peer few h.0, key_short key h.1, length-content_word-le bytes h.2)
event_short peers (Inner peer level index bytes) few h =
    omega (arith, peer_short peers peer few h.0, decimal_short level (omega (arith, h.1)), decimal_short index (level_fits level index h.1 h.2), length-content_word-le bytes h.3)
event_short peers (Revert peer changes) few h = omega (arith, peer_short peers peer few h.0, decimal_short changes (omega (arith, h.2)))
event_short peers (Fail peer s o) few h = omega (arith, peer_short peers peer few h, store_short s, survivor_short o)

-- ---- the line

parts_again : (words : List (List ℕ)) → 0 < length words → AreWords 32 words → words_of (join_with_byte 32 words) ≡ words
parts_again [] h k = absurd (omega arith)
parts_again (w ∷ more) h k = parts_of-join 32 w more k

pub some_words : (event : ScheduleEvent) → 0 < length (event_words event)
some_words (Call peer id key command) = omega arith
some_words (Tick peer ticks) = omega arith
some_words (Deliver message) = omega arith
some_words (Pass sender receiver) = omega arith
some_words (Lose sender receiver) = omega arith
some_words Calm = omega arith
some_words (CalmAmong members) = omega arith
some_words (Change peer view) = omega arith
some_words (Stop peer) = omega arith
some_words (Start peer) = omega arith
some_words (Upgrade peer) = omega arith
some_words Deepen = omega arith
some_words (Spoil peer key bytes) = omega arith
some_words (Damage peer key bytes) = omega arith
some_words (Inner peer level index bytes) = omega arith
some_words (Revert peer changes) = omega arith
some_words (Fail peer s o) = omega arith

not_long : (n : ℕ) → n ≤ 4400 → nat_lt line_limit n ≡ false
not_long n h = grind (arith, nat_tests)

-- words that are short enough are so where they are joined
pub short_line : (words : List (List ℕ)) → total words ≤ 4400 → nat_lt line_limit (length (join_with_byte 32 words)) ≡ false
short_line words h = let joined = length-join 32 words in not_long (length (join_with_byte 32 words)) (omega (arith, joined))

-- the spelling of an event that may stand is short enough
pub event_line-short : (peers : ℕ) (event : ScheduleEvent) → peers ≤ 31 → MayStand peers event → nat_lt line_limit (length (event_line event)) ≡ false
event_line-short peers event few h = short_line (event_words event) (event_short peers event few h)

-- and is read as the event
pub event_of-line : (peers : ℕ) (event : ScheduleEvent) → peers ≤ 31 → MayStand peers event → event_of peers (event_line event) ≡ Ok event
event_of-line peers event few h =
    let short = event_line-short peers event few h in
    let words = parts_again (event_words event) (some_words event) (event_are_words 32 peers event (lit< tt) few h) in
    rw short (ap (words_event peers) words ∙ words_again peers event few h)

-- words that lack a byte lack it where they are joined by a space
pub has-join : (at : ℕ) (words : List (List ℕ)) → at < 32 → AreWords at words → has at (join_with_byte 32 words) ≡ false
has-join at [] low h = refl
has-join at (w ∷ []) low h = h.0
has-join at (w ∷ next ∷ more) low h =
    has-append at w (32 ∷ join_with_byte 32 (next ∷ more)) h.0 (rw (other at 32 low) (has-join at (next ∷ more) low h.2))

-- the spelling of an event has no line feed
pub event_line-one : (peers : ℕ) (event : ScheduleEvent) → peers ≤ 31 → MayStand peers event → has 10 (event_line event) ≡ false
event_line-one peers event few h = has-join 10 (event_words event) (lit< tt) (event_are_words 10 peers event (lit< tt) few h)
