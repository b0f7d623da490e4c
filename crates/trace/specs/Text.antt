-- The text of the messages of a run.
use Rattle.std.specs.Prelude.{ℕ, ◌+◌, Bool, true, false, List, [], ◌∷◌, ◌++◌, codes}
use Rattle.std.specs.Fmt.{decimal}
use Rattle.ens_base.specs.Words.{bytes_word}
use Rattle.message_labels.specs.Labels.{label}
use Rattle.wire_frames.specs.Frames.{frame_spelling}
use Rattle.wire_frames.specs.declared.frame.Frame.{Frame}

-- the label of the message, if names are asked for
abbrev pub name_words : Bool → Frame → List ℕ
name_words true f = codes " " ++ label f.message
name_words false f = []

-- NUMBER SENDER RECEIVER FRAME, or with names NUMBER SENDER RECEIVER FRAME LABEL; the frame is given as
-- pairs of lower-case hexadecimal digits
abbrev pub message_line : Bool → ℕ → Frame → List ℕ
message_line names number f = decimal number ++ codes " " ++ decimal f.from ++ codes " " ++ decimal f.to ++ codes " " ++ bytes_word (frame_spelling f) ++ name_words names f ++ 10 ∷ []

-- the lines of the messages, the first of which has this number
abbrev pub lines_from : Bool → ℕ → List Frame → List ℕ
lines_from names number [] = []
lines_from names number (f ∷ more) = message_line names number f ++ lines_from names (number + 1) more

-- the messages, numbered from 1
abbrev pub trace_text : Bool → List Frame → List ℕ
trace_text names sent = lines_from names 1 sent
