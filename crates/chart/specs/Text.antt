-- The text of a chart.
use Rattle.std.specs.Prelude.{ℕ, zero, suc, ◌+◌, ◌==◌, List, [], ◌∷◌, ◌++◌, codes, take, length, nat_lt, if◌then◌else◌}
use Rattle.std.specs.Fmt.{decimal}
use Rattle.ens_base.specs.Lists.{same_bytes}
use Rattle.schedule_text.specs.declared.schedule.Schedule.{Schedule}
use Rattle.chart.specs.Lines.{run_lines}

-- the greatest number of lines that a chart shows
abbrev pub most_lines : ℕ
most_lines = 500

-- (N times), if it is more than once
abbrev pub times_words : ℕ → List ℕ
times_words count = if count == 1 then [] else codes " (" ++ decimal count ++ codes " times)"

-- a line of the chart, which comes so often in a row
abbrev pub shown_line : List ℕ → ℕ → List ℕ
shown_line line count = codes "    " ++ line ++ times_words count ++ 10 ∷ []

-- the lines after one that came so often in a row; equal lines in a row are shown once
abbrev pub shown_after : List ℕ → ℕ → List (List ℕ) → List ℕ
shown_after line count [] = shown_line line count
shown_after line count (next ∷ more) = if same_bytes line next then shown_after line (count + 1) more else shown_line line count ++ shown_after next 1 more

-- the lines
abbrev pub shown : List (List ℕ) → List ℕ
shown [] = []
shown (line ∷ more) = shown_after line 1 more

-- what tells that lines are left out
abbrev pub cut_text : List (List ℕ) → List ℕ
cut_text lines = if nat_lt most_lines (length lines) then codes "    Note over 1: the run goes on, but no more of it is shown" ++ 10 ∷ [] else []

-- a peer
abbrev pub peer_line : ℕ → List ℕ
peer_line peer = codes "    participant " ++ decimal peer ++ codes " as peer " ++ decimal peer ++ 10 ∷ []

-- so many peers, from this number on
abbrev pub peers_text : ℕ → ℕ → List ℕ
peers_text first zero = []
peers_text first (suc more) = peer_line first ++ peers_text (first + 1) more

-- the chart of these lines, among so many peers
abbrev pub text_of : ℕ → List (List ℕ) → List ℕ
text_of peers lines = codes "sequenceDiagram" ++ 10 ∷ peers_text 1 peers ++ shown (take most_lines lines) ++ cut_text lines

-- the chart of the run of a schedule
abbrev pub chart_text : Schedule → List ℕ
chart_text s = text_of s.peers (run_lines s)
