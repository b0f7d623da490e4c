-- What reading one line behind the line `answers` gives: what it says, or the first flaw of its words.
use Rattle.std.specs.Prelude.{ℕ, ◌-◌, ◌^◌, Bool, true, false, not, ◌==◌, nat_lt, if◌then◌else◌, List, [], ◌∷◌, length, codes, find, Option, None, Some, Result, Ok, Err}
use Rattle.ens_base.specs.Lists.{same_bytes}
use Rattle.ens_base.specs.Results.{◌>>=◌}
use Rattle.ens_base.specs.declared.reply.Reply.{Reply}
use Rattle.lexemes.specs.Words.{words_of, number_of, key_of, value_of, version_of}
use Rattle.schedule_text.specs.Arguments.{has_empty}
use Rattle.history_record.specs.Flaws.{form}
use Rattle.history_record.specs.declared.flaw.Flaw.{Flaw}
use Rattle.history_record.specs.declared.flaw.Flaw.TheVariants.{Cut, Keyword, Words, Form}
use Rattle.history_record.specs.declared.reply_name.ReplyName.{ReplyName}
use Rattle.history_record.specs.declared.reply_name.ReplyName.TheVariants as name
use Rattle.history_record.specs.declared.lines.RecordLine.{RecordLine}
use Rattle.history_record.specs.declared.lines.RecordLine.TheVariants.{Answered, Changed, Told}

-- the word of each reply
abbrev pub reply_word : ReplyName → List ℕ
reply_word name.Value = codes "value"
reply_word name.NotFound = codes "notfound"
reply_word name.Ok = codes "ok"
reply_word name.Failed = codes "failed"
reply_word name.Unavailable = codes "unavailable"
reply_word name.Busy = codes "busy"
reply_word name.Lost = codes "lost"
reply_word name.Timeout = codes "timeout"

-- every reply
abbrev pub reply_names : List ReplyName
reply_names = name.Value ∷ name.NotFound ∷ name.Ok ∷ name.Failed ∷ name.Unavailable ∷ name.Busy ∷ name.Lost ∷ name.Timeout ∷ []

-- the reply that a word names
abbrev pub reply_name_of : List ℕ → Option ReplyName
reply_name_of word = find (λ n. same_bytes (reply_word n) word) reply_names

-- how many words follow it
abbrev pub operand_count : ReplyName → ℕ
operand_count name.Value = 2
operand_count name.Ok = 1
operand_count other = 0

-- a u64
abbrev pub number : List ℕ → Result ℕ Flaw
number word = form (number_of 0 (2 ^ 64 - 1) word)

-- a value and its stamp
abbrev pub value_from : List (List ℕ) → Result Reply Flaw
value_from (s ∷ b ∷ []) = form (version_of s) >>= λ stamp. form (value_of b) >>= λ bytes. Ok (Reply.Value stamp bytes)
value_from words = Err Words

-- the stamp of a write
abbrev pub ok_from : List (List ℕ) → Result Reply Flaw
ok_from (s ∷ []) = form (version_of s) >>= λ stamp. Ok (Reply.Ok stamp)
ok_from words = Err Words

-- a reply without words behind it
abbrev pub plain : Reply → List (List ℕ) → Result Reply Flaw
plain reply [] = Ok reply
plain reply words = Err Words

-- a reply, from the words behind its name
abbrev pub reply_from : ReplyName → List (List ℕ) → Result Reply Flaw
reply_from name.Value words = value_from words
reply_from name.Ok words = ok_from words
reply_from name.NotFound words = plain Reply.NotFound words
reply_from name.Failed words = plain Reply.Failed words
reply_from name.Unavailable words = plain Reply.Unavailable words
reply_from name.Busy words = plain Reply.Busy words
reply_from name.Lost words = plain Reply.Lost words
reply_from name.Timeout words = plain Reply.Timeout words

-- an answer of a known reply: so many words first, then the numbers
abbrev pub answer_from : List ℕ → List ℕ → ReplyName → List (List ℕ) → Result RecordLine Flaw
answer_from i e name words =
    if not (length words == operand_count name) then Err Words
    else number i >>= λ id. number e >>= λ event. reply_from name words >>= λ reply. Ok (Answered (record { id = id; event = event; reply = reply }))

abbrev pub answer_named : List ℕ → List ℕ → Option ReplyName → List (List ℕ) → Result RecordLine Flaw
answer_named i e None words = Err Form
answer_named i e (Some name) words = answer_from i e name words

-- ID EVENT REPLY; the words are counted for the reply that is named
abbrev pub answer_of : List (List ℕ) → Result RecordLine Flaw
answer_of (i ∷ e ∷ n ∷ words) = if has_empty (i ∷ e ∷ n ∷ words) then Err Words else answer_named i e (reply_name_of n) words
answer_of words = Err Words

-- taken or refused
abbrev pub outcome_of : List ℕ → Result Bool Flaw
outcome_of word = if same_bytes word (codes "taken") then Ok true else if same_bytes word (codes "refused") then Ok false else Err Form

abbrev pub change_from : List ℕ → List ℕ → List ℕ → Result RecordLine Flaw
change_from e p o = number e >>= λ event. number p >>= λ peer. outcome_of o >>= λ taken. Ok (Changed event peer)

-- EVENT PEER taken, or EVENT PEER refused
abbrev pub change_of : List (List ℕ) → Result RecordLine Flaw
change_of (e ∷ p ∷ o ∷ []) = if has_empty (e ∷ p ∷ o ∷ []) then Err Words else change_from e p o
change_of words = Err Words

abbrev pub ids_from : List (List ℕ) → Result (List ℕ) Flaw
ids_from [] = Ok []
ids_from (word ∷ words) = number word >>= λ id. ids_from words >>= λ ids. Ok (id ∷ ids)

abbrev pub history_from : List ℕ → List (List ℕ) → Result RecordLine Flaw
history_from k words = form (key_of k) >>= λ key. ids_from words >>= λ ids. Ok (Told (record { key = key; calls = ids }))

-- KEY ID ..
abbrev pub history_of : List (List ℕ) → Result RecordLine Flaw
history_of (k ∷ words) = if has_empty (k ∷ words) then Err Words else history_from k words
history_of [] = Err Words

-- a line, from its words; only a history line may follow a history line
abbrev pub line_from : Bool → List ℕ → List (List ℕ) → Result RecordLine Flaw
line_from after first words =
    if same_bytes first (codes "history") then history_of words
    else if after then Err Keyword
    else if same_bytes first (codes "answer") then answer_of words
    else if same_bytes first (codes "change") then change_of words
    else Err Keyword

abbrev pub line_words : Bool → List (List ℕ) → Result RecordLine Flaw
line_words after [] = Err Keyword
line_words after (first ∷ words) = line_from after first words

-- the most bytes of such a line
abbrev pub most_bytes : ℕ
most_bytes = 8388608

-- a line
abbrev pub line_of : Bool → List ℕ → Result RecordLine Flaw
line_of after text = if nat_lt most_bytes (length text) then Err Cut else line_words after (words_of text)
