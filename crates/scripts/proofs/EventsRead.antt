-- What is read as an event is spelled so, and may stand in a script.
use Rattle.std.proofs.Common.{◌≡◌, ℕ, ◌+◌, ◌-◌, ◌<◌, ◌≤◌, ◌^◌, ◌==◌, ◌||◌, ◌⊎◌, inl, inr, nat_lt, Bool, true, false, if◌then◌else◌, List, [], ◌∷◌, ◌++◌, length, codes, Result, Ok, Err, refl, sym, ap, ◌∙◌, arith, lit<, length-append}
use Rattle.std.proofs.lemmas.Bool.Decides.{nat_tests}
use Rattle.std.proofs.lemmas.List.Splits.{join_with_byte-slice_split}
use Rattle.std.specs.Fmt.{decimal}
use Rattle.std.specs.List.{join_with_byte}
use Rattle.ens_base.proofs.Lists.{bytes_same}
use Rattle.ens_base.specs.Lists.{same_bytes}
use Rattle.ens_base.specs.Results.{◌>>=◌}
use Rattle.ens_base.specs.Words.{bytes_word}
use Rattle.lexemes.specs.Causes.{or_cause}
use Rattle.lexemes.specs.Words.{number_of, peer_of, view_of, words_of}
use Rattle.lexemes.specs.declared.cause.Cause.{Cause}
use Rattle.lexemes.specs.declared.cause.Cause.TheVariants.{TooLong, Unknown, Words}
use Rattle.lexemes.proofs.Ascending.{view_of-ok}
use Rattle.lexemes.proofs.Dotted.{number_of-ok}
use Rattle.lexemes.proofs.Fields.{peer_of-ok}
use Rattle.lexemes.proofs.Joined.{parts_of-more}
use Rattle.lexemes.proofs.Results.{bind_ok, ok_same, or_cause_ok}
use Rattle.schedule_text.specs.Arguments.{has_empty}
use Rattle.schedule_text.specs.Events.{call_of, event_of, line_limit, words_event}
use Rattle.schedule_text.specs.Keywords.{command_word}
use Rattle.schedule_text.specs.Spelling.{MayStand as MayStandInSchedule, event_line, event_words, name_of, operand_words}
use Rattle.schedule_text.specs.declared.event.ScheduleEvent.{ScheduleEvent}
use Rattle.schedule_text.specs.declared.event.ScheduleEvent.TheVariants as schedule
use Rattle.schedule_text.proofs.EventsRead.{event_of-ok}
use Rattle.schedule_text.proofs.Lookups.{find_word}
use Rattle.schedule_text.proofs.OneLine.{some_words}
use Rattle.schedule_text.proofs.Parts.{parts_of_some}
use Rattle.scripts.specs.Events.{at_of, ensemble_of, in_ensemble, is_barred, is_early, keyword_event, look_from, look_of, open_from, open_of, own_event, root_event_of, route_of, routed, slot_of, words_root_event}
use Rattle.scripts.specs.Keywords.{keyword_of, keyword_word, keywords}
use Rattle.scripts.specs.Spelling.{IsEnsemble, MayFollowAt, MayStand, ensemble_word, root_event_line, root_event_words}
use Rattle.scripts.specs.declared.slots.Ensemble.{Ensemble}
use Rattle.scripts.specs.declared.slots.Ensemble.TheVariants.{Root, Slot}
use Rattle.scripts.specs.declared.event.RootEvent.{RootEvent}
use Rattle.scripts.specs.declared.event.RootEvent.TheVariants.{At, Open, Look, Route}
use Rattle.scripts.specs.declared.keyword.Keyword.{Keyword}
use Rattle.scripts.specs.declared.keyword.Keyword.TheVariants as line
use Rattle.scripts.proofs.Lines.{at_words, by_words, call_words}
use Rattle.scripts.proofs.Splits.{first_part}

-- ---- words joined by spaces

join_cons : (word : List ℕ) (more : List (List ℕ)) → 0 < length more → join_with_byte 32 (word ∷ more) ≡ word ++ (32 ∷ join_with_byte 32 more)
join_cons word [] h = absurd (omega arith)
join_cons word (next ∷ more) h = refl

-- a word and what stands behind its space
spelled : (word rest : List ℕ) → word ++ (32 ∷ rest) ≡ join_with_byte 32 (word ∷ words_of rest)
spelled word rest =
    let some = parts_of_some 32 rest in
    let full : 0 < length (words_of rest) = rw some.2 (omega arith) in
    ap (λ (l : List ℕ). word ++ (32 ∷ l)) (sym (join_with_byte-slice_split 32 rest)) ∙ sym (join_cons word (words_of rest) full)

-- ---- ensembles

full_word : {A : Type 0} (word : List ℕ) (r : Result A Cause) (x : A) → (if length word == 0 then Err Words else r) ≡ Ok x → r ≡ Ok x
full_word {A = A} word r x h = by (length word == 0) h
  where
    by : (b : Bool) → (if b then Err Words else r) ≡ Ok x → r ≡ Ok x
    by true h = cc h
    by false h = h

ensemble_of-ok : (word : List ℕ) (ensemble : Ensemble) → ensemble_of word ≡ Ok ensemble → (word ≡ ensemble_word ensemble) × IsEnsemble ensemble
ensemble_of-ok word ensemble h = by (same_bytes word (codes "r")) refl (full_word word _ ensemble h)
  where
    by : (b : Bool) → same_bytes word (codes "r") ≡ b → (if b then Ok Root else slot_of word >>= λ slot. Ok (Slot slot)) ≡ Ok ensemble → (word ≡ ensemble_word ensemble) × IsEnsemble ensemble
    by true e h = rw (← (ok_same h)) (bytes_same word (codes "r") e, tt)
    by false e h =
        let s = bind_ok (slot_of word) _ ensemble h in
        let slot = number_of-ok 0 63 word s.0 (lit< tt) s.1 in
        rw (← (ok_same s.2)) (slot.0, slot.2)

-- ---- behind `at`

in_ensemble-ok : (word : List ℕ) (r : Result ScheduleEvent Cause) (event : RootEvent) → in_ensemble word r ≡ Ok event
    → (e : ScheduleEvent) × (ensemble : Ensemble) × (r ≡ Ok e) × (ensemble_of word ≡ Ok ensemble) × (At ensemble e ≡ event)
in_ensemble-ok word (Ok e) event h = let n = bind_ok (ensemble_of word) _ event h in (e, n.0, refl, n.1, ok_same n.2)
in_ensemble-ok word (Err cause) event h = absurd (by (is_early cause) (ensemble_of word) h)
  where
    by : (b : Bool) (r : Result Ensemble Cause) → (if b then Err cause else r >>= λ ensemble. Err cause) ≡ Ok event → ⊥
    by true r h = cc h
    by false (Ok e) h = cc h
    by false (Err e) h = cc h

-- an event behind `at` is that of its line, and no call
own_event-ok : (peers : ℕ) (text : List ℕ) (event : ScheduleEvent) → peers ≤ 31 → length text ≤ line_limit → own_event peers (words_of text) ≡ Ok event
    → (text ≡ event_line event) × MayFollowAt event × MayStandInSchedule peers event
own_event-ok peers text event few short h =
    let some = parts_of_some 32 text in
    let whole : own_event peers (some.0 ∷ some.1) ≡ Ok event = sym (ap (own_event peers) some.2) ∙ h in
    let parts = by some.0 some.1 (is_barred some.0) refl whole in
    let read = event_of-ok peers text event few (by_words peers text short ∙ ap (words_event peers) some.2 ∙ parts.1) in
    (read.0, no_call event some.0 some.1 read.0 some.2 parts.0, read.1)
  where
    by : (first : List ℕ) (more : List (List ℕ)) (b : Bool) → is_barred first ≡ b → (if b then Err Unknown else words_event peers (first ∷ more)) ≡ Ok event
        → (is_barred first ≡ false) × (words_event peers (first ∷ more) ≡ Ok event)
    by first more true e h = cc h
    by first more false e h = (e, h)

    first_same : (a b : List ℕ) (others more : List (List ℕ)) → a ∷ others ≡ b ∷ more → a ≡ b
    first_same a b others more h = cc h

    no_call : (event : ScheduleEvent) (first : List ℕ) (more : List (List ℕ)) → text ≡ event_line event → words_of text ≡ first ∷ more → is_barred first ≡ false → MayFollowAt event
    no_call (schedule.Call peer id key command) first more is words plain =
        let rest = join_with_byte 32 (decimal peer ∷ decimal id ∷ command_word (name_of command) ∷ bytes_word key ∷ operand_words command) in
        let called : words_of text ≡ codes "call" ∷ words_of rest = ap words_of is ∙ parts_of-more 32 (codes "call") rest refl in
        let same : first ≡ codes "call" = first_same first (codes "call") more (words_of rest) (sym words ∙ called) in
        let barred : is_barred first ≡ true = rw same refl in
        cc (barred, plain)
    no_call (schedule.Upgrade peer) first more is words plain =
        let called : words_of text ≡ codes "upgrade" ∷ words_of (decimal peer) = ap words_of is ∙ parts_of-more 32 (codes "upgrade") (decimal peer) refl in
        let same : first ≡ codes "upgrade" = first_same first (codes "upgrade") more (words_of (decimal peer)) (sym words ∙ called) in
        let barred : is_barred first ≡ true = rw same refl in
        cc (barred, plain)
    no_call schedule.Deepen first more is words plain =
        let called : words_of text ≡ codes "deepen" ∷ [] = ap words_of is in
        let same : first ≡ codes "deepen" = first_same first (codes "deepen") more [] (sym words ∙ called) in
        let barred : is_barred first ≡ true = rw same refl in
        cc (barred, plain)
    no_call _ first more is words plain = tt

at_read : (peers : ℕ) (rest : List ℕ) (event : RootEvent) → peers ≤ 31 → 3 + length rest ≤ line_limit → at_of peers (words_of rest) ≡ Ok event
    → (codes "at" ++ (32 ∷ rest) ≡ root_event_line event) × MayStand peers event
at_read peers rest event few short h = by (first_part 32 rest)
  where
    by : (words_of rest ≡ rest ∷ []) ⊎ ((word : List ℕ) × (text : List ℕ) × (rest ≡ word ++ (32 ∷ text)) × (words_of rest ≡ word ∷ words_of text))
        → (codes "at" ++ (32 ∷ rest) ≡ root_event_line event) × MayStand peers event
    by (inl lone) = let none : at_of peers (rest ∷ []) ≡ Ok event = sym (ap (at_of peers) lone) ∙ h in absurd (cc none)
    by (inr (word, text, is, words)) =
        let shorter : length text ≤ line_limit = omega (arith, short, ap (λ (l : List ℕ). length l) is, length-append word (32 ∷ text)) in
        let n = in_ensemble-ok word (own_event peers (words_of text)) event (sym (at_words peers (words_of rest) word text words) ∙ h) in
        let ensemble = ensemble_of-ok word n.1 n.3 in
        let own = own_event-ok peers text n.0 few shorter n.2 in
        let behind : word ++ (32 ∷ text) ≡ join_with_byte 32 (ensemble_word n.1 ∷ event_words n.0) =
        (λ i. ensemble.0 i ++ (32 ∷ own.0 i)) ∙ sym (join_cons (ensemble_word n.1) (event_words n.0) (some_words n.0)) in
        rw (← n.4) (ap (λ (l : List ℕ). codes "at" ++ (32 ∷ l)) (is ∙ behind), (ensemble.1, own.1, own.2))

-- ---- behind `open` and `look`

unless_empty : {A : Type 0} (b : Bool) (r : Result A Cause) (x : A) → (if b then Err Words else r) ≡ Ok x → (b ≡ false) × (r ≡ Ok x)
unless_empty true r x h = cc h
unless_empty false r x h = (refl, h)

open_from-ok : (peers : ℕ) (p i s : List ℕ) (members : List (List ℕ)) (event : RootEvent) → peers ≤ 31 → open_from peers p i s members ≡ Ok event
    → (keyword_word line.Open ∷ p ∷ i ∷ s ∷ members ≡ root_event_words event) × MayStand peers event
open_from-ok peers p i s members event few h =
    let q = bind_ok (peer_of peers p) _ event h in
    let n = bind_ok (number_of 0 (2 ^ 64 - 1) i) _ event q.2 in
    let t = bind_ok (slot_of s) _ event n.2 in
    let v = bind_ok (view_of peers members) _ event t.2 in
    let peer = peer_of-ok peers p q.0 few q.1 in
    let id = number_of-ok 0 (2 ^ 64 - 1) i n.0 (lit< tt) n.1 in
    let slot = number_of-ok 0 63 s t.0 (lit< tt) t.1 in
    let view = view_of-ok peers members v.0 few v.1 in
    rw (← (ok_same v.2)) ((λ j. keyword_word line.Open ∷ peer.0 j ∷ id.0 j ∷ slot.0 j ∷ view.2 j), (peer.1, omega (arith, id.2), slot.2, view.0, view.1))

open_of-ok : (peers : ℕ) (words : List (List ℕ)) (event : RootEvent) → peers ≤ 31 → open_of peers words ≡ Ok event
    → (keyword_word line.Open ∷ words ≡ root_event_words event) × MayStand peers event
open_of-ok peers [] event few h = cc h
open_of-ok peers (p ∷ []) event few h = cc h
open_of-ok peers (p ∷ i ∷ []) event few h = cc h
open_of-ok peers (p ∷ i ∷ s ∷ members) event few h =
    let full = unless_empty (has_empty (p ∷ i ∷ s ∷ members) || length members == 0) (open_from peers p i s members) event h in
    open_from-ok peers p i s members event few full.1

look_from-ok : (peers : ℕ) (p i s : List ℕ) (event : RootEvent) → peers ≤ 31 → look_from peers p i s ≡ Ok event
    → (keyword_word line.Look ∷ p ∷ i ∷ s ∷ [] ≡ root_event_words event) × MayStand peers event
look_from-ok peers p i s event few h =
    let q = bind_ok (peer_of peers p) _ event h in
    let n = bind_ok (number_of 0 (2 ^ 64 - 1) i) _ event q.2 in
    let t = bind_ok (slot_of s) _ event n.2 in
    let peer = peer_of-ok peers p q.0 few q.1 in
    let id = number_of-ok 0 (2 ^ 64 - 1) i n.0 (lit< tt) n.1 in
    let slot = number_of-ok 0 63 s t.0 (lit< tt) t.1 in
    rw (← (ok_same t.2)) ((λ j. keyword_word line.Look ∷ peer.0 j ∷ id.0 j ∷ slot.0 j ∷ []), (peer.1, omega (arith, id.2), slot.2))

look_of-ok : (peers : ℕ) (words : List (List ℕ)) (event : RootEvent) → peers ≤ 31 → look_of peers words ≡ Ok event
    → (keyword_word line.Look ∷ words ≡ root_event_words event) × MayStand peers event
look_of-ok peers [] event few h = cc h
look_of-ok peers (p ∷ []) event few h = cc h
look_of-ok peers (p ∷ i ∷ []) event few h = cc h
look_of-ok peers (p ∷ i ∷ s ∷ []) event few h =
    let full = unless_empty (has_empty (p ∷ i ∷ s ∷ [])) (look_from peers p i s) event h in
    look_from-ok peers p i s event few full.1
look_of-ok peers (p ∷ i ∷ s ∷ m ∷ more) event few h = cc h

-- ---- behind `route`

route_read : (peers : ℕ) (rest : List ℕ) (event : RootEvent) → peers ≤ 31 → 6 + length rest ≤ line_limit → route_of peers (words_of rest) ≡ Ok event
    → (codes "route" ++ (32 ∷ rest) ≡ root_event_line event) × MayStand peers event
route_read peers rest event few short h =
    let e = bind_ok (call_of peers (words_of rest)) _ event h in
    let called : event_of peers (codes "call " ++ rest) ≡ Ok e.0 = by_words peers (codes "call " ++ rest) (omega arith) ∙ ap (words_event peers) (call_words rest) ∙ e.1 in
    let read = event_of-ok peers (codes "call " ++ rest) e.0 few called in
    by e.0 e.2 read.0 read.1
  where
    same_rest : (a b : List ℕ) → codes "call " ++ a ≡ codes "call " ++ b → a ≡ b
    same_rest a b h = cc h

    by : (e : ScheduleEvent) → routed e ≡ Ok event → codes "call " ++ rest ≡ event_line e → MayStandInSchedule peers e
        → (codes "route" ++ (32 ∷ rest) ≡ root_event_line event) × MayStand peers event
    by (schedule.Call peer id key command) h is stands =
        let words = decimal peer ∷ decimal id ∷ command_word (name_of command) ∷ bytes_word key ∷ operand_words command in
        let whole : rest ≡ join_with_byte 32 words = same_rest rest (join_with_byte 32 words) is in
        rw (← (ok_same h)) (ap (λ (l : List ℕ). codes "route" ++ (32 ∷ l)) whole, stands)
    by _ h is stands = cc h

-- ---- whole lines

by_word_list : (peers : ℕ) (word rest : List ℕ) (event : RootEvent) → (word ∷ words_of rest ≡ root_event_words event) × MayStand peers event
    → (word ++ (32 ∷ rest) ≡ root_event_line event) × MayStand peers event
by_word_list peers word rest event h = (spelled word rest ∙ ap (join_with_byte 32) h.0, h.1)

keyword_read : (peers : ℕ) (keyword : Keyword) (rest : List ℕ) (event : RootEvent) → peers ≤ 31 → length (keyword_word keyword) + 1 + length rest ≤ line_limit
    → keyword_event peers keyword (words_of rest) ≡ Ok event → (keyword_word keyword ++ (32 ∷ rest) ≡ root_event_line event) × MayStand peers event
keyword_read peers line.At rest event few short h = at_read peers rest event few (omega arith) h
keyword_read peers line.Open rest event few short h = by_word_list peers (codes "open") rest event (open_of-ok peers (words_of rest) event few h)
keyword_read peers line.Look rest event few short h = by_word_list peers (codes "look") rest event (look_of-ok peers (words_of rest) event few h)
keyword_read peers line.Route rest event few short h = route_read peers rest event few (omega arith) h

unless_long : {A : Type 0} (n : ℕ) (r : Result A Cause) (x : A) → (if nat_lt line_limit n then Err TooLong else r) ≡ Ok x → (n ≤ line_limit) × (r ≡ Ok x)
unless_long {A = A} n r x h = by (nat_lt line_limit n) refl h
  where
    within : nat_lt line_limit n ≡ false → n ≤ line_limit
    within e = grind (arith, nat_tests)

    by : (b : Bool) → nat_lt line_limit n ≡ b → (if b then Err TooLong else r) ≡ Ok x → (n ≤ line_limit) × (r ≡ Ok x)
    by true e h = cc h
    by false e h = (within e, h)

-- a line that is read as an event is its spelling, and the event may stand in a script of so many peers
pub root_event_of-ok : (peers : ℕ) (text : List ℕ) (event : RootEvent) → peers ≤ 31 → root_event_of peers text ≡ Ok event
    → (text ≡ root_event_line event) × MayStand peers event
root_event_of-ok peers text event few h = by (first_part 32 text)
  where
    whole : (length text ≤ line_limit) × (words_root_event peers (words_of text) ≡ Ok event)
    whole = unless_long (length text) (words_root_event peers (words_of text)) event h

    nothing : (k : Keyword) → keyword_event peers k [] ≡ Ok event → ⊥
    nothing line.At h = cc h
    nothing line.Open h = cc h
    nothing line.Look h = cc h
    nothing line.Route h = cc h

    by : (words_of text ≡ text ∷ []) ⊎ ((first : List ℕ) × (rest : List ℕ) × (text ≡ first ++ (32 ∷ rest)) × (words_of text ≡ first ∷ words_of rest))
        → (text ≡ root_event_line event) × MayStand peers event
    by (inl lone) =
        let read : words_root_event peers (text ∷ []) ≡ Ok event = sym (ap (words_root_event peers) lone) ∙ whole.1 in
        let k = bind_ok (or_cause Unknown (keyword_of text)) _ event read in
        absurd (nothing k.0 k.2)
    by (inr (first, rest, is, words)) =
        let read : words_root_event peers (first ∷ words_of rest) ≡ Ok event = sym (ap (words_root_event peers) words) ∙ whole.1 in
        let k = bind_ok (or_cause Unknown (keyword_of first)) _ event read in
        let word : first ≡ keyword_word k.0 = find_word keyword_word keywords first k.0 (or_cause_ok Unknown (keyword_of first) k.0 k.1) in
        let size : length (keyword_word k.0) + 1 + length rest ≤ line_limit =
        omega (arith, whole.0, ap (λ (l : List ℕ). length l) is, length-append first (32 ∷ rest), ap (λ (l : List ℕ). length l) word) in
        let found = keyword_read peers k.0 rest event few size k.2 in
        (is ∙ ap (λ (l : List ℕ). l ++ (32 ∷ rest)) word ∙ found.0, found.1)
