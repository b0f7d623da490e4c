-- The lines that a run prints: its answers, the outcomes of its requests to change the view, and the
-- histories of its keys.
use Rattle.std.specs.Prelude.{ℕ, Bool, true, false, List, [], ◌∷◌, ◌++◌, codes}
use Rattle.std.specs.List.{flat_map}
use Rattle.std.specs.Fmt.{decimal}
use Rattle.ens_base.specs.Words.{version_word, bytes_word, value_word}
use Rattle.ens_base.specs.declared.reply.Reply.{Reply}
use Rattle.register_model.specs.declared.answer.Answer.{Answer}
use Rattle.register_model.specs.declared.history.History.{History}
use Rattle.register_model.specs.declared.printed.Printed.{Printed}
use Rattle.register_model.specs.declared.printed.Printed.TheVariants as lines

-- a reply, as the last words of its line
abbrev pub reply_words : Reply → List ℕ
reply_words (Reply.Value stamp bytes) = codes "value " ++ version_word stamp ++ codes " " ++ value_word bytes
reply_words Reply.NotFound = codes "notfound"
reply_words (Reply.Ok stamp) = codes "ok " ++ version_word stamp
reply_words Reply.Failed = codes "failed"
reply_words Reply.Unavailable = codes "unavailable"
reply_words Reply.Busy = codes "busy"
reply_words Reply.Lost = codes "lost"
reply_words Reply.Timeout = codes "timeout"

-- answer ID EVENT REPLY
abbrev pub answer_line : Answer → List ℕ
answer_line a = codes "answer " ++ decimal a.id ++ codes " " ++ decimal a.event ++ codes " " ++ reply_words a.reply ++ 10 ∷ []

-- an id of a history, with a space before it
abbrev pub next_id : ℕ → List ℕ
next_id id = 32 ∷ decimal id

-- history KEY ID ID ..
abbrev pub history_line : History → List ℕ
history_line h = codes "history " ++ bytes_word h.key ++ flat_map next_id h.calls ++ 10 ∷ []

-- the outcome of a request to change the view
abbrev pub taken_word : Bool → List ℕ
taken_word true = codes "taken"
taken_word false = codes "refused"

-- change EVENT PEER taken, or change EVENT PEER refused
abbrev pub change_line : ℕ → ℕ → Bool → List ℕ
change_line event peer taken = codes "change " ++ decimal event ++ codes " " ++ decimal peer ++ codes " " ++ taken_word taken ++ 10 ∷ []

-- a line that a world printed
abbrev pub printed_line : Printed → List ℕ
printed_line (lines.Answer a) = answer_line a
printed_line (lines.Change event peer taken) = change_line event peer taken
