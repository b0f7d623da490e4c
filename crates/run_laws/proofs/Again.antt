-- The lines that a run prints, and those of its histories, are read as what they say.
use Rattle.std.proofs.Common.{◌≡◌, ℕ, ◌+◌, ◌*◌, ◌-◌, ◌<◌, ◌≤◌, ◌^◌, nat_lt, nat_le, Bool, true, false, List, [], ◌∷◌, ◌++◌, length, codes, map, Ok, refl, sym, ap, ◌∙◌, arith, lit<, lit≤, append_assoc}
use Rattle.std.proofs.lemmas.Bool.Decides.{nat_tests}
use Rattle.std.proofs.lemmas.List.{length-append}
use Rattle.std.specs.Fmt.{decimal}
use Rattle.std.specs.List.{AllByRecursion, flat_map, join_with_byte, list_all}
use Rattle.ens_base.specs.Limits.{IsKey, IsValue, IsVersion}
use Rattle.ens_base.specs.Results.{◌>>=◌}
use Rattle.ens_base.specs.Words.{bytes_word, value_word, version_word}
use Rattle.ens_base.specs.declared.reply.Reply.{Reply}
use Rattle.register_model.specs.declared.answer.Answer.{Answer}
use Rattle.register_model.specs.declared.history.History.{History}
use Rattle.register_model.specs.declared.printed.Printed.{Printed}
use Rattle.register_model.specs.declared.printed.Printed.TheVariants as lines
use Rattle.history_scribe.specs.Text.{history_line, next_id, printed_line, reply_words, taken_word}
use Rattle.history_record.specs.Lines.{answer_named, ids_from, line_words, most_bytes, number, outcome_of, reply_name_of}
use Rattle.history_record.specs.Telling.{Heard, has_history, next_heard, open_call, open_change, with_answer, with_change, with_history, with_line}
use Rattle.lexemes.proofs.Dotted.{has-version, length-version, length-version_word-le, number_of-decimal, version_of-word}
use Rattle.lexemes.proofs.Fields.{key_of-word, length-bytes_word, length-value_word-le, value_of-word}
use Rattle.lexemes.proofs.Joined.{AreWords, has, has-decimal, has-encode, has-letters, has-value, length-decimal, length-encode, length-value, parts_of-join}
use Rattle.schedule_text.proofs.Counted.{AreFull, has_empty-full}
use Rattle.schedule_text.proofs.OneLine.{decimal_short, has-join, total}
use Rattle.schedule_text.proofs.Spaced.{join_spaced}
use Rattle.schedule_text.specs.Writing.{feed, spaced}

-- ## What fits a line

-- the numbers and the bytes of a reply are in range
abbrev pub ReplyFits : Reply → Type 0
ReplyFits (Reply.Value stamp bytes) = IsVersion stamp × IsValue bytes
ReplyFits (Reply.Ok stamp) = IsVersion stamp
ReplyFits reply = Unit {0}

-- so are those of a printed line
abbrev pub LineFits : Printed → Type 0
LineFits (lines.Answer a) = (a.id < 2 ^ 64) × (a.event < 2 ^ 64) × ReplyFits a.reply
LineFits (lines.Change event peer taken) = (event < 2 ^ 64) × (peer < 2 ^ 64)

-- and those of a history, which has few calls
pub record HistoryFits (h : History) : Type 0 where
  pub key : IsKey h.key
  pub calls : AllByRecursion (λ id. id < 2 ^ 64) h.calls
  pub few : length h.calls ≤ 200000

-- ## The words of the lines

abbrev name_word : Reply → List ℕ
name_word (Reply.Value stamp bytes) = codes "value"
name_word Reply.NotFound = codes "notfound"
name_word (Reply.Ok stamp) = codes "ok"
name_word Reply.Failed = codes "failed"
name_word Reply.Unavailable = codes "unavailable"
name_word Reply.Busy = codes "busy"
name_word Reply.Lost = codes "lost"
name_word Reply.Timeout = codes "timeout"

abbrev operands : Reply → List (List ℕ)
operands (Reply.Value stamp bytes) = version_word stamp ∷ value_word bytes ∷ []
operands (Reply.Ok stamp) = version_word stamp ∷ []
operands reply = []

abbrev answer_words : Answer → List (List ℕ)
answer_words a = codes "answer" ∷ decimal a.id ∷ decimal a.event ∷ name_word a.reply ∷ operands a.reply

abbrev change_words : ℕ → ℕ → Bool → List (List ℕ)
change_words event peer taken = codes "change" ∷ decimal event ∷ decimal peer ∷ taken_word taken ∷ []

abbrev history_words : History → List (List ℕ)
history_words h = codes "history" ∷ bytes_word h.key ∷ map decimal h.calls

-- a printed line, and that of a history, without the line feed
abbrev pub line_text : Printed → List ℕ
line_text (lines.Answer a) = join_with_byte 32 (answer_words a)
line_text (lines.Change event peer taken) = join_with_byte 32 (change_words event peer taken)

abbrev pub history_text : History → List ℕ
history_text h = join_with_byte 32 (history_words h)

reply_spelled : (r : Reply) → reply_words r ≡ join_with_byte 32 (name_word r ∷ operands r)
reply_spelled (Reply.Value stamp bytes) = simp append_assoc refl
reply_spelled Reply.NotFound = refl
reply_spelled (Reply.Ok stamp) = refl
reply_spelled Reply.Failed = refl
reply_spelled Reply.Unavailable = refl
reply_spelled Reply.Busy = refl
reply_spelled Reply.Lost = refl
reply_spelled Reply.Timeout = refl

pub line_spelled : (p : Printed) → printed_line p ≡ feed (line_text p)
line_spelled (lines.Answer a) =
    ap (λ (r : List ℕ). codes "answer " ++ decimal a.id ++ codes " " ++ decimal a.event ++ codes " " ++ r ++ 10 ∷ []) (reply_spelled a.reply) ∙ simp append_assoc refl
line_spelled (lines.Change event peer taken) = simp append_assoc refl

ids_spaced : (ids : List ℕ) → flat_map next_id ids ≡ spaced (map decimal ids)
ids_spaced [] = refl
ids_spaced (id ∷ ids) = ap (λ (l : List ℕ). next_id id ++ l) (ids_spaced ids)

pub history_spelled : (h : History) → history_line h ≡ feed (history_text h)
history_spelled h =
    ap (λ (l : List ℕ). codes "history " ++ bytes_word h.key ++ l ++ 10 ∷ []) (ids_spaced h.calls)
    ∙ simp append_assoc refl ∙ ap (λ (l : List ℕ). codes "history " ++ l ++ 10 ∷ []) (sym (join_spaced (bytes_word h.key) (map decimal h.calls)))

-- ## No word is empty, or has this byte

abbrev IsWord : ℕ → List ℕ → Type 0
IsWord at w = (has at w ≡ false) × (0 < length w)

letters : (at : ℕ) (w : List ℕ) → at < 45 → list_all (λ c. nat_le 48 c) w ≡ true → 0 < length w → IsWord at w
letters at w low high some = (has-letters at w (omega arith) high, some)

number_word : (at n : ℕ) → at < 45 → n < 2 ^ 64 → IsWord at (decimal n)
number_word at n low fits = (has-decimal at n (omega arith) fits, length-decimal n fits)

reply_word : (at : ℕ) (r : Reply) → at < 45 → IsWord at (name_word r)
reply_word at (Reply.Value stamp bytes) low = letters at (codes "value") low refl (lit< tt)
reply_word at Reply.NotFound low = letters at (codes "notfound") low refl (lit< tt)
reply_word at (Reply.Ok stamp) low = letters at (codes "ok") low refl (lit< tt)
reply_word at Reply.Failed low = letters at (codes "failed") low refl (lit< tt)
reply_word at Reply.Unavailable low = letters at (codes "unavailable") low refl (lit< tt)
reply_word at Reply.Busy low = letters at (codes "busy") low refl (lit< tt)
reply_word at Reply.Lost low = letters at (codes "lost") low refl (lit< tt)
reply_word at Reply.Timeout low = letters at (codes "timeout") low refl (lit< tt)

operands_words : (at : ℕ) (r : Reply) → at < 45 → ReplyFits r → AreWords at (operands r)
operands_words at (Reply.Value stamp bytes) low h = (has-version at stamp (omega arith) h.0, length-version stamp h.0, (has-value at bytes low h.1.bytes, length-value bytes, tt))
operands_words at (Reply.Ok stamp) low h = (has-version at stamp (omega arith) h, length-version stamp h, tt)
operands_words at reply low h = tt

outcome_word : (at : ℕ) (taken : Bool) → at < 45 → IsWord at (taken_word taken)
outcome_word at true low = letters at (codes "taken") low refl (lit< tt)
outcome_word at false low = letters at (codes "refused") low refl (lit< tt)

answer_are : (at : ℕ) (a : Answer) → at < 45 → LineFits (lines.Answer a) → AreWords at (answer_words a)
answer_are at a low h =
    let wa = letters at (codes "answer") low refl (lit< tt) in
    let wb = number_word at a.id low h.0 in
    let wc = number_word at a.event low h.1 in
    let wd = reply_word at a.reply low in
    (wa.0, wa.1, (wb.0, wb.1, (wc.0, wc.1, (wd.0, wd.1, operands_words at a.reply low h.2))))

change_are : (at event peer : ℕ) (taken : Bool) → at < 45 → LineFits (lines.Change event peer taken) → AreWords at (change_words event peer taken)
change_are at event peer taken low h =
    let wa = letters at (codes "change") low refl (lit< tt) in
    let wb = number_word at event low h.0 in
    let wc = number_word at peer low h.1 in
    let wd = outcome_word at taken low in
    (wa.0, wa.1, (wb.0, wb.1, (wc.0, wc.1, (wd.0, wd.1, tt))))

ids_words : (at : ℕ) (ids : List ℕ) → at < 45 → AllByRecursion (λ id. id < 2 ^ 64) ids → AreWords at (map decimal ids)
ids_words at [] low h = tt
ids_words at (id ∷ ids) low h = let w = number_word at id low h.0 in (w.0, w.1, ids_words at ids low h.1)

history_are : (at : ℕ) (h : History) → at < 45 → HistoryFits h → AreWords at (history_words h)
history_are at h low fits =
    let wa = letters at (codes "history") low refl (lit< tt) in
    let least : 1 ≤ length h.key = fits.key.size.0 in
    (wa.0, wa.1, (has-encode at h.key (omega arith) fits.key.bytes, length-encode h.key (omega arith), ids_words at h.calls low fits.calls))

-- so the lines have no line feed
pub line_one : (p : Printed) → LineFits p → has 10 (line_text p) ≡ false
line_one (lines.Answer a) h = has-join 10 (answer_words a) (lit< tt) (answer_are 10 a (lit< tt) h)
line_one (lines.Change event peer taken) h = has-join 10 (change_words event peer taken) (lit< tt) (change_are 10 event peer taken (lit< tt) h)

pub history_one : (h : History) → HistoryFits h → has 10 (history_text h) ≡ false
history_one h fits = has-join 10 (history_words h) (lit< tt) (history_are 10 h (lit< tt) fits)

-- ## The lines are read

full : (at : ℕ) (words : List (List ℕ)) → AreWords at words → AreFull words
full at [] h = tt
full at (w ∷ words) h = (h.1, full at words h.2)

not_long : (n : ℕ) → n ≤ 8388608 → nat_lt most_bytes n ≡ false
not_long n h = grind (arith, nat_tests)

length-join : (words : List (List ℕ)) → length (join_with_byte 32 words) ≤ total words
length-join [] = lit≤ tt
length-join (w ∷ []) = omega arith
length-join (w ∷ next ∷ more) = let later = length-join (next ∷ more) in omega (arith, length-append w (32 ∷ join_with_byte 32 (next ∷ more)), later)

short_line : (words : List (List ℕ)) → total words ≤ 8388608 → nat_lt most_bytes (length (join_with_byte 32 words)) ≡ false
short_line words short = let joined = length-join words in not_long (length (join_with_byte 32 words)) (omega (arith, joined, short))

replies_short : (r : Reply) → ReplyFits r → length (name_word r) + total (operands r) ≤ 2200
replies_short (Reply.Value stamp bytes) h = omega (arith, length-version_word-le stamp h.0, length-value_word-le bytes h.1)
replies_short Reply.NotFound h = lit≤ tt
replies_short (Reply.Ok stamp) h = omega (arith, length-version_word-le stamp h)
replies_short Reply.Failed h = lit≤ tt
replies_short Reply.Unavailable h = lit≤ tt
replies_short Reply.Busy h = lit≤ tt
replies_short Reply.Lost h = lit≤ tt
replies_short Reply.Timeout h = lit≤ tt

outcomes_short : (taken : Bool) → length (taken_word taken) ≤ 7
outcomes_short true = lit≤ tt
outcomes_short false = lit≤ tt

outcomes_read : (taken : Bool) → outcome_of (taken_word taken) ≡ Ok taken
outcomes_read true = refl
outcomes_read false = refl

number_read : (n : ℕ) → n < 2 ^ 64 → number (decimal n) ≡ Ok n
number_read n h = rw (number_of-decimal 0 (2 ^ 64 - 1) n (omega arith) (omega (arith, h)) h) refl

-- the words of an answer say it
answer_taken : (h : Heard) (id event : ℕ) (r : Reply) → id < 2 ^ 64 → event < 2 ^ 64 → ReplyFits r
    → (answer_named (decimal id) (decimal event) (reply_name_of (name_word r)) (operands r) >>= λ line. with_line h line) ≡ with_answer h (record { id = id; event = event; reply = r }) (open_call h id)
answer_taken h id event (Reply.Value stamp bytes) i e fits = rw (number_read id i, number_read event e, version_of-word stamp fits.0, value_of-word bytes fits.1) refl
answer_taken h id event Reply.NotFound i e fits = rw (number_read id i, number_read event e) refl
answer_taken h id event (Reply.Ok stamp) i e fits = rw (number_read id i, number_read event e, version_of-word stamp fits) refl
answer_taken h id event Reply.Failed i e fits = rw (number_read id i, number_read event e) refl
answer_taken h id event Reply.Unavailable i e fits = rw (number_read id i, number_read event e) refl
answer_taken h id event Reply.Busy i e fits = rw (number_read id i, number_read event e) refl
answer_taken h id event Reply.Lost i e fits = rw (number_read id i, number_read event e) refl
answer_taken h id event Reply.Timeout i e fits = rw (number_read id i, number_read event e) refl

-- a line that was printed is an answer or the outcome of a change, where no history came before
pub answer_heard : (h : Heard) (a : Answer) → has_history h.histories ≡ false → LineFits (lines.Answer a) → next_heard h (line_text (lines.Answer a)) ≡ with_answer h a (open_call h a.id)
answer_heard h a none fits =
    let are = answer_are 32 a (lit< tt) fits in
    let short = short_line (answer_words a) (omega (arith, decimal_short a.id fits.0, decimal_short a.event fits.1, replies_short a.reply fits.2)) in
    let words = parts_of-join 32 (codes "answer") (decimal a.id ∷ decimal a.event ∷ name_word a.reply ∷ operands a.reply) are in
    let filled = has_empty-full (decimal a.id ∷ decimal a.event ∷ name_word a.reply ∷ operands a.reply) (full 32 (decimal a.id ∷ decimal a.event ∷ name_word a.reply ∷ operands a.reply) are.2) in
    rw short (ap (λ (ws : List (List ℕ)). line_words (has_history h.histories) ws >>= λ line. with_line h line) words ∙ rw (none, filled) (answer_taken h a.id a.event a.reply fits.0 fits.1 fits.2))

pub change_heard : (h : Heard) (event peer : ℕ) (was : Bool) → has_history h.histories ≡ false → LineFits (lines.Change event peer was) → next_heard h (line_text (lines.Change event peer was)) ≡ with_change h event peer (open_change h event)
change_heard h event peer was none fits =
    let are = change_are 32 event peer was (lit< tt) fits in
    let short = short_line (change_words event peer was) (omega (arith, decimal_short event fits.0, decimal_short peer fits.1, outcomes_short was)) in
    let words = parts_of-join 32 (codes "change") (decimal event ∷ decimal peer ∷ taken_word was ∷ []) are in
    let filled = has_empty-full (decimal event ∷ decimal peer ∷ taken_word was ∷ []) (full 32 (decimal event ∷ decimal peer ∷ taken_word was ∷ []) are.2) in
    rw short (ap (λ (ws : List (List ℕ)). line_words (has_history h.histories) ws >>= λ line. with_line h line) words ∙ rw (none, filled, number_read event fits.0, number_read peer fits.1, outcomes_read was) refl)

ids_short : (ids : List ℕ) → AllByRecursion (λ id. id < 2 ^ 64) ids → total (map decimal ids) ≤ 21 * length ids
ids_short [] h = lit≤ tt
ids_short (id ∷ ids) h = let later = ids_short ids h.1 in omega (arith, decimal_short id h.0, later)

ids_read : (ids : List ℕ) → AllByRecursion (λ id. id < 2 ^ 64) ids → ids_from (map decimal ids) ≡ Ok ids
ids_read [] h = refl
ids_read (id ∷ ids) h = rw (number_read id h.0, ids_read ids h.1) refl

-- a line that tells a history says it, whether one came before or not
pub history_heard : (h : Heard) (g : History) → HistoryFits g → next_heard h (history_text g) ≡ with_history h g h.keys
history_heard h g fits =
    let are = history_are 32 g (lit< tt) fits in
    let most : length g.key ≤ 64 = fits.key.size.1 in
    let short = short_line (history_words g) (omega (arith, length-bytes_word g.key, most, ids_short g.calls fits.calls, fits.few)) in
    let words = parts_of-join 32 (codes "history") (bytes_word g.key ∷ map decimal g.calls) are in
    let filled = has_empty-full (bytes_word g.key ∷ map decimal g.calls) (full 32 (bytes_word g.key ∷ map decimal g.calls) are.2) in
    rw short (ap (λ (ws : List (List ℕ)). line_words (has_history h.histories) ws >>= λ line. with_line h line) words ∙ rw (filled, key_of-word g.key fits.key, ids_read g.calls fits.calls) refl)
