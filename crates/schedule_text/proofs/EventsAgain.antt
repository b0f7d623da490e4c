-- The words of an event that may stand in a schedule are read as it.
use Rattle.std.proofs.Common.{◌≡◌, ℕ, zero, suc, ◌+◌, ◌-◌, ◌<◌, ◌≤◌, ◌^◌, ◌==◌, false, not, List, [], ◌∷◌, length, Some, Ok, refl, arith, lit<}
use Rattle.std.specs.Fmt.{decimal}
use Rattle.ens_base.specs.declared.command.Command.{Command}
use Rattle.ens_base.specs.declared.command.Command.TheVariants as does
use Rattle.ens_base.specs.Words.{bytes_word, value_word, version_word}
use Rattle.lexemes.specs.Spelling.{AscendFrom, IsAmong, content_word, member_words}
use Rattle.lexemes.proofs.Ascending.{members_from-words, view_of-words}
use Rattle.lexemes.proofs.Dotted.{number_of-decimal, version_of-word, length-version}
use Rattle.lexemes.proofs.Fields.{peer_of-decimal, key_of-word, value_of-word, content_of-word}
use Rattle.lexemes.proofs.Joined.{length-decimal, length-encode, length-value, length-content}
use Rattle.schedule_text.specs.Arguments.{has_empty, one_of, two_of, three_of, four_of}
use Rattle.schedule_text.specs.Events.{operation_of, call_of, words_event}
use Rattle.schedule_text.specs.Keywords.{command_word, command_of, operand_count, store_of, store_word, survivor_of, survivor_word}
use Rattle.ens_base.specs.Limits.{IsKey, IsCommand}
use Rattle.schedule_text.specs.Spelling.{event_words, name_of, operand_words, MayStand}
use Rattle.schedule_text.specs.declared.keyword.StoreName.{StoreName}
use Rattle.schedule_text.specs.declared.keyword.StoreName.TheVariants as store
use Rattle.schedule_text.specs.declared.keyword.Survivor.{Survivor}
use Rattle.schedule_text.specs.declared.keyword.Survivor.TheVariants as left
use Rattle.schedule_text.specs.declared.keyword.CommandName.{CommandName}
use Rattle.schedule_text.specs.declared.keyword.CommandName.TheVariants as name
use Rattle.schedule_text.specs.declared.event.ScheduleEvent.{ScheduleEvent}
use Rattle.schedule_text.specs.declared.event.ScheduleEvent.TheVariants.{Call, Tick, Deliver, Pass, Lose, Calm, CalmAmong, Change, Stop, Start, Upgrade, Deepen, Spoil, Damage, Inner, Revert, Fail}
use Rattle.schedule_text.proofs.Counted.{AreFull, has_empty-full}

-- ---- words that have bytes

peer_full : (peers peer : ℕ) → peers ≤ 31 → IsAmong peers peer → 0 < length (decimal peer)
peer_full peers peer few h = let last : peer ≤ peers = h.last in length-decimal peer (omega arith)

key_full : (key : List ℕ) → IsKey key → 0 < length (bytes_word key)
key_full key h = let least : 1 ≤ length key = h.size.0 in length-encode key (omega arith)

store_of-word : (s : StoreName) → store_of (store_word s) ≡ Some s
store_of-word store.Fact = refl
store_of-word store.Tree = refl
store_of-word store.Backend = refl

survivor_of-word : (s : Survivor) → survivor_of (survivor_word s) ≡ Some s
survivor_of-word left.Old = refl
survivor_of-word left.New = refl

command_of-word : (c : CommandName) → command_of (command_word c) ≡ Some c
command_of-word name.Get = refl
command_of-word name.Once = refl
command_of-word name.Update = refl
command_of-word name.Append = refl
command_of-word name.Add = refl
command_of-word name.Swap = refl
command_of-word name.Over = refl
command_of-word name.Delete = refl

one_of-full : (a : List ℕ) → 0 < length a → one_of (a ∷ []) ≡ Ok a
one_of-full a h = rw (has_empty-full (a ∷ []) (h, tt)) refl

two_of-full : (a b : List ℕ) → 0 < length a → 0 < length b → two_of (a ∷ b ∷ []) ≡ Ok (a, b)
two_of-full a b h k = rw (has_empty-full (a ∷ b ∷ []) (h, (k, tt))) refl

three_of-full : (a b c : List ℕ) → 0 < length a → 0 < length b → 0 < length c → three_of (a ∷ b ∷ c ∷ []) ≡ Ok (a, b, c)
three_of-full a b c h k l = rw (has_empty-full (a ∷ b ∷ c ∷ []) (h, (k, (l, tt)))) refl

four_of-full : (a b c d : List ℕ) → 0 < length a → 0 < length b → 0 < length c → 0 < length d → four_of (a ∷ b ∷ c ∷ d ∷ []) ≡ Ok (a, b, c, d)
four_of-full a b c d h k l m = rw (has_empty-full (a ∷ b ∷ c ∷ d ∷ []) (h, (k, (l, (m, tt))))) refl

-- ---- commands

operands_full : (command : Command) → IsCommand command → AreFull (operand_words command)
operands_full does.Get h = tt
operands_full (does.PutOnce value) h = (length-value value, tt)
operands_full (does.Update stamp value) h = (length-version stamp h.0, (length-value value, tt))
operands_full (does.Append tail) h = (length-value tail, tt)
operands_full (does.Add amount) h = (length-decimal amount h, tt)
operands_full (does.Swap old new) h = (length-value old, (length-value new, tt))
operands_full (does.Over value) h = (length-value value, tt)
operands_full does.Delete h = tt

operands_counted : (command : Command) → not (length (operand_words command) == operand_count (name_of command)) ≡ false
operands_counted does.Get = refl
operands_counted (does.PutOnce value) = refl
operands_counted (does.Update stamp value) = refl
operands_counted (does.Append tail) = refl
operands_counted (does.Add amount) = refl
operands_counted (does.Swap old new) = refl
operands_counted (does.Over value) = refl
operands_counted does.Delete = refl

operation_again : (command : Command) → IsCommand command → operation_of (name_of command) (operand_words command) ≡ Ok command
operation_again does.Get h = refl
operation_again (does.PutOnce value) h = rw (one_of-full (value_word value) (length-value value), value_of-word value h) refl
operation_again (does.Update stamp value) h =
    rw (two_of-full (version_word stamp) (value_word value) (length-version stamp h.0) (length-value value), version_of-word stamp h.0, value_of-word value h.1) refl
operation_again (does.Append tail) h = rw (one_of-full (value_word tail) (length-value tail), value_of-word tail h) refl
operation_again (does.Add amount) h =
    rw (one_of-full (decimal amount) (length-decimal amount h), number_of-decimal 0 (2 ^ 64 - 1) amount (omega arith) (omega arith) h) refl
operation_again (does.Swap old new) h =
    rw (two_of-full (value_word old) (value_word new) (length-value old) (length-value new), value_of-word old h.0, value_of-word new h.1) refl
operation_again (does.Over value) h = rw (one_of-full (value_word value) (length-value value), value_of-word value h) refl
operation_again does.Delete h = refl

call_again : (peers peer id : ℕ) (key : List ℕ) (command : Command) → peers ≤ 31 → MayStand peers (Call peer id key command)
    → call_of peers (decimal peer ∷ decimal id ∷ command_word (name_of command) ∷ bytes_word key ∷ operand_words command) ≡ Ok (Call peer id key command)
call_again peers peer id key command few h =
    let empty : has_empty (decimal peer ∷ decimal id ∷ command_word (name_of command) ∷ bytes_word key ∷ operand_words command) ≡ false =
    has_empty-full (decimal peer ∷ decimal id ∷ command_word (name_of command) ∷ bytes_word key ∷ operand_words command)
    (peer_full peers peer few h.0, (length-decimal id h.1, (name_full (name_of command), (key_full key h.2, operands_full command h.3)))) in
    let counted : not (length (operand_words command) == operand_count (name_of command)) ≡ false = operands_counted command in
    rw (command_of-word (name_of command), empty, counted, peer_of-decimal peers peer few h.0, number_of-decimal 0 (2 ^ 64 - 1) id (omega arith) (omega arith) h.1, key_of-word key h.2, operation_again command h.3) refl
  where
    name_full : (c : CommandName) → 0 < length (command_word c)
    name_full name.Get = lit< tt
    name_full name.Once = lit< tt
    name_full name.Update = lit< tt
    name_full name.Append = lit< tt
    name_full name.Add = lit< tt
    name_full name.Swap = lit< tt
    name_full name.Over = lit< tt
    name_full name.Delete = lit< tt

-- ---- lists of members

decimals_full : (low peers : ℕ) (members : List ℕ) → peers ≤ 31 → AscendFrom low peers members → AreFull (member_words members)
decimals_full low peers [] few h = tt
decimals_full low peers (m ∷ ms) few h = (length-decimal m (omega (arith, h.1)), decimals_full (m + 1) peers ms few h.2)

level_cases : (level index : ℕ) → level ≤ 4 → index < 16 ^ level → (index ≤ 16 ^ level - 1) × (index < 2 ^ 64)
level_cases zero index h k = (omega arith, omega arith)
level_cases (suc zero) index h k = (omega arith, omega arith)
level_cases (suc (suc zero)) index h k = (omega arith, omega arith)
level_cases (suc (suc (suc zero))) index h k = (omega arith, omega arith)
level_cases (suc (suc (suc (suc zero)))) index h k = (omega arith, omega arith)
level_cases (suc (suc (suc (suc (suc n))))) index h k = absurd (omega arith)

store_full : (s : StoreName) → 0 < length (store_word s)
store_full store.Fact = lit< tt
store_full store.Tree = lit< tt
store_full store.Backend = lit< tt

survivor_full : (s : Survivor) → 0 < length (survivor_word s)
survivor_full left.Old = lit< tt
survivor_full left.New = lit< tt

-- ---- whole lines

pub words_again : (peers : ℕ) (event : ScheduleEvent) → peers ≤ 31 → MayStand peers event → words_event peers (event_words event) ≡ Ok event
words_again peers (Call peer id key command) few h = call_again peers peer id key command few h
words_again peers (Tick peer ticks) few h =
    rw (two_of-full (decimal peer) (decimal ticks) (peer_full peers peer few h.0) (length-decimal ticks (omega (arith, h.2))), peer_of-decimal peers peer few h.0, number_of-decimal 1 100 ticks h.1 h.2 (omega (arith, h.2))) refl
words_again peers (Deliver message) few h =
    rw (one_of-full (decimal message) (length-decimal message h.1), number_of-decimal 1 (2 ^ 64 - 1) message h.0 (omega (arith, h.1)) h.1) refl
words_again peers (Pass sender receiver) few h =
    rw (two_of-full (decimal sender) (decimal receiver) (peer_full peers sender few h.0) (peer_full peers receiver few h.1), peer_of-decimal peers sender few h.0, peer_of-decimal peers receiver few h.1) refl
words_again peers (Lose sender receiver) few h =
    rw (two_of-full (decimal sender) (decimal receiver) (peer_full peers sender few h.0) (peer_full peers receiver few h.1), peer_of-decimal peers sender few h.0, peer_of-decimal peers receiver few h.1) refl
words_again peers Calm few h = refl
words_again peers (CalmAmong []) few h = absurd (omega (arith, h.0))
words_again peers (CalmAmong (m ∷ ms)) few h =
    rw (has_empty-full (member_words (m ∷ ms)) (decimals_full 1 peers (m ∷ ms) few h.1), members_from-words 1 peers (m ∷ ms) (omega arith) h.1) refl
words_again peers (Change peer []) few h = absurd (omega (arith, h.2.size.0))
words_again peers (Change peer (m ∷ ms)) few h =
    rw (has_empty-full (decimal peer ∷ member_words (m ∷ ms)) (peer_full peers peer few h.0, decimals_full 1 peers (m ∷ ms) few h.1), peer_of-decimal peers peer few h.0, view_of-words peers (m ∷ ms) few h.1 h.2) refl
words_again peers (Stop peer) few h = rw (one_of-full (decimal peer) (peer_full peers peer few h), peer_of-decimal peers peer few h) refl
words_again peers (Start peer) few h = rw (one_of-full (decimal peer) (peer_full peers peer few h), peer_of-decimal peers peer few h) refl
words_again peers (Upgrade peer) few h = rw (one_of-full (decimal peer) (peer_full peers peer few h), peer_of-decimal peers peer few h) refl
words_again peers Deepen few h = refl
words_again peers (Spoil peer key bytes) few h =
    rw (three_of-full (decimal peer) (bytes_word key) (content_word bytes) (peer_full peers peer few h.0) (key_full key h.1) (length-content bytes h.2), peer_of-decimal peers peer few h.0, key_of-word key h.1, content_of-word bytes h.2) refl
words_again peers (Damage peer key bytes) few h =
    rw (three_of-full (decimal peer) (bytes_word key) (content_word bytes) (peer_full peers peer few h.0) (key_full key h.1) (length-content bytes h.2), peer_of-decimal peers peer few h.0, key_of-word key h.1, content_of-word bytes h.2) refl
words_again peers (Inner peer level index bytes) few h =
    let low = level_cases level index h.1 h.2 in
    rw (
      four_of-full (decimal peer) (decimal level) (decimal index) (content_word bytes) (peer_full peers peer few h.0) (length-decimal level (omega (arith, h.1))) (length-decimal index low.1) (length-content bytes h.3),
      peer_of-decimal peers peer few h.0,
      number_of-decimal 0 4 level (omega arith) h.1 (omega (arith, h.1)),
      number_of-decimal 0 (16 ^ level - 1) index (omega arith) low.0 low.1,
      content_of-word bytes h.3,
    ) refl
words_again peers (Revert peer changes) few h =
    rw (two_of-full (decimal peer) (decimal changes) (peer_full peers peer few h.0) (length-decimal changes (omega (arith, h.2))), peer_of-decimal peers peer few h.0, number_of-decimal 1 1000000 changes h.1 h.2 (omega (arith, h.2))) refl
words_again peers (Fail peer s o) few h =
    rw (three_of-full (decimal peer) (store_word s) (survivor_word o) (peer_full peers peer few h) (store_full s) (survivor_full o), peer_of-decimal peers peer few h, store_of-word s, survivor_of-word o) refl
