-- What a recorder makes of the lines of a script.
use Rattle.std.proofs.Common.{◌≡◌, ◌+◌, ◌∙◌, ℕ, List, [], ◌∷◌, ◌++◌, length, take, drop, Option, Result, Ok, Err, refl, sym, ap, subst, append_assoc, append-nil, inl, inr, ◌⊎◌}
use Rattle.std.proofs.lemmas.List.{nil_from_length}
use Rattle.std.specs.Prelude.{IsErrAnd}
use Rattle.std.specs.Vec.Iter.{into_iter_items, into_iter_len}
use Rattle.std.specs.declared.vec.IntoIter.{IntoIter}
use Rattle.ens_base.specs.declared.peer_words.ClusterWords.{ClusterWords}
use Rattle.scripts.specs.Scripts.{AllMayBeLines, MayBeLine}
use Rattle.scripts.specs.declared.line.ScriptLine.{ScriptLine}
use Rattle.scripts.specs.declared.line.ScriptLine.TheVariants.{Event, Turn}
use Rattle.cluster.proofs.Following.{Leads, all_looks, drop_prefix, few_looks, take_prefix, leads_follows, leads_none, leads_on, part_after, part_of_first, turn_alone, turn_leads}
use Rattle.cluster.proofs.Delivering.{scripted_before, scripted_may}
use Rattle.cluster.specs.Messages.{MayBeRecorded, mail_before}
use Rattle.cluster.specs.Recordings.{Follows, IsPart, Recording, heard_all, recorded}
use Rattle.world_model.specs.WorldSpec.{Account}
use Rattle.network.specs.Mail.{Mail}
use Rattle.schedule_text.specs.declared.event.ScheduleEvent.{ScheduleEvent}
use Rattle.cluster.specs.Ends.{Looked, LookedUntil, Went, WentUntil, opening}
use Rattle.cluster.specs.Recorders.{FollowsOn, Hears, IsInStep, Reached, Records, RecordsAll, StopsAt, mail_in}
use Rattle.cluster.specs.declared.recorder.Recorder.{Recorder}
use Rattle.cluster.specs.declared.stop.Stop.{Stop}

-- the same of a line that is this event
pub event_may : (peers : ℕ) (m : Mail) (line : ScriptLine) (event : ScheduleEvent) → line ≡ Event event → MayBeLine peers line → MayBeRecorded peers m event
event_may peers m line event is may = scripted_may peers m event (subst (MayBeLine peers) is may)

pub event_step : (c : Recorder) (line : ScriptLine) (event : ScheduleEvent) → line ≡ Event event → MayBeLine c.schedule.peers line → IsInStep c (mail_in c) → IsInStep c (mail_before event (mail_in c))
event_step c line event is may step = subst (IsInStep c) (sym (scripted_before event (mail_in c) (subst (MayBeLine c.schedule.peers) is may).0)) step

-- an iterator that came to its end has no items
pub none_left : {X A : Type 0} (it : IntoIter X A) → into_iter_len it ≡ 0 → into_iter_items it ≡ []
none_left it none = nil_from_length it.rest.items (sym it.rest.ok.0 ∙ none)

module _ {L : Type 0} (sent : L → Option (List (ℕ × List ℕ))) (given : L → Option (List (Option (List ℕ)))) (faults : L → ℕ)
    (w : ClusterWords) (first : Account) (a : L) where
  abbrev At : List (Option (List ℕ)) → Recording → Recorder → L → Account → Type 0
  At = Reached sent given faults w first a

  module _ (looks : List (Option (List ℕ))) (r : Recording) (link : L) where
    -- an event was followed
    follows_event : (event : ScheduleEvent) (result : Result (Unit {0}) Stop) (c : Recorder) (b : L) (now : Account) → Records sent given faults w first a looks r event link result c b now → FollowsOn sent given faults w first a (Event event ∷ []) looks r link result c b now
    follows_event event (Ok x) c b now records = (
      [],
      recorded event r,
      (refl, refl),
      subst (λ (l : List (Option (List ℕ))). At l (recorded event r) c b now) (sym (append-nil looks)) records.0,
      (b, records.1, refl),
    )
    follows_event event (Err e) c b now stop = (
      Event event ∷ [],
      [],
      recorded event r,
      (refl, tt),
      (refl, refl),
      subst (λ (l : List (Option (List ℕ))). StopsAt sent given faults w first a l (recorded event r) e b now) (sym (append-nil looks)) stop.0,
      inr (refl, stop.1),
    )

    -- a turn was followed
    follows_turn : (count : ℕ) (result : Result (Unit {0}) Stop) (c : Recorder) (b : L) (now : Account) → Hears sent given faults w first a count looks r link result c b now → FollowsOn sent given faults w first a (Turn count ∷ []) looks r link result c b now
    follows_turn count (Ok x) c b now heard = (
      heard.0,
      heard_all heard.0 r,
      turn_alone count heard.0 r heard.1,
      heard.2,
      (b, subst (λ (l : List (Option (List ℕ))). Looked sent given l r link b) (sym (all_looks count heard.0 heard.1)) heard.3, refl),
    )
    follows_turn count (Err e) c b now heard = (
      Turn (length heard.0) ∷ [],
      heard.0,
      heard_all heard.0 r,
      heard.1,
      turn_alone (length heard.0) heard.0 r refl,
      heard.2,
      inr (refl, subst (λ (l : List (Option (List ℕ))). LookedUntil sent given l r link b) (sym (all_looks (length heard.0) heard.0 refl)) heard.3),
    )

    pub event_follows : (line : ScriptLine) (event : ScheduleEvent) → line ≡ Event event → (result : Result (Unit {0}) Stop) (c : Recorder) (b : L) (now : Account) → Records sent given faults w first a looks r event link result c b now
        → FollowsOn sent given faults w first a (line ∷ []) looks r link result c b now
    event_follows line event is result c b now records = subst (λ (l : ScriptLine). FollowsOn sent given faults w first a (l ∷ []) looks r link result c b now) (sym is) (follows_event event result c b now records)

    pub turn_follows : (line : ScriptLine) (count : ℕ) → line ≡ Turn count → (result : Result (Unit {0}) Stop) (c : Recorder) (b : L) (now : Account) → Hears sent given faults w first a count looks r link result c b now → FollowsOn sent given faults w first a (line ∷ []) looks r link result c b now
    turn_follows line count is result c b now heard = subst (λ (l : ScriptLine). FollowsOn sent given faults w first a (l ∷ []) looks r link result c b now) (sym is) (follows_turn count result c b now heard)

  -- what is done with the link for these lines and looks is what is done for those, behind these
  pub record Carries (done : List ScriptLine) (looks : List (Option (List ℕ))) (q r : Recording) (x y : L) : Type 0 where
    on : (part : List ScriptLine) (more : List (Option (List ℕ))) (z : L) → Went sent given part more r y z → Went sent given (done ++ part) (looks ++ more) q x z
    until : (part : List ScriptLine) (more : List (Option (List ℕ))) (z : L) → WentUntil sent given part more r y z → WentUntil sent given (done ++ part) (looks ++ more) q x z

  carries_line : (line : ScriptLine) (more : List (Option (List ℕ))) (r s : Recording) (x y : L) → Follows (line ∷ []) more r s → Went sent given (line ∷ []) more r x y → Carries (line ∷ []) more r s x y
  carries_line (Event event) more r s x y follows went = record {
    on = λ part extra z goes. (
      went.0,
      went.1,
      subst (λ (l : List (Option (List ℕ))). Went sent given part (l ++ extra) (recorded event r) went.0 z) (sym follows.0)
          (subst (λ (q : Recording). Went sent given part extra q went.0 z) follows.1 (subst (λ (m : L). Went sent given part extra s m z) went.2 goes)),
    );
    until = λ part extra z goes.
        inl (
          went.0,
          went.1,
          subst (λ (l : List (Option (List ℕ))). WentUntil sent given part (l ++ extra) (recorded event r) went.0 z) (sym follows.0)
              (subst (λ (q : Recording). WentUntil sent given part extra q went.0 z) follows.1 (subst (λ (m : L). WentUntil sent given part extra s m z) went.2 goes)),
        );
  }
  carries_line (Turn count) more r s x y follows went =
      let many : length more ≡ count = few_looks count more follows.0 follows.1.0 in
      record { on = λ part extra z goes. turn_on count more extra part r s x y z many follows.1.1 went goes; until = λ part extra z goes. turn_until count more extra part r s x y z many follows.1.1 went goes }
    where
      turn_on : (count : ℕ) (more extra : List (Option (List ℕ))) (part : List ScriptLine) (r s : Recording) (x y z : L) → length more ≡ count → s ≡ heard_all (take count more) r → Went sent given (Turn count ∷ []) more r x y → Went sent given part extra s y z
          → Went sent given (Turn count ∷ part) (more ++ extra) r x z
      turn_on count more extra part r s x y z many is went goes =
          let prefix : take count more ≡ take count (more ++ extra) = all_looks count more many ∙ sym (ap (λ (n : ℕ). take n (more ++ extra)) (sym many) ∙ take_prefix more extra) in
          let rest : extra ≡ drop count (more ++ extra) = sym (ap (λ (n : ℕ). drop n (more ++ extra)) (sym many) ∙ drop_prefix more extra) in (
            went.0,
            subst (λ (l : List (Option (List ℕ))). Looked sent given l r x went.0) prefix went.1,
            subst (λ (l : List (Option (List ℕ))). Went sent given part l (heard_all (take count (more ++ extra)) r) went.0 z) rest
                (subst (λ (q : Recording). Went sent given part extra q went.0 z) (is ∙ ap (λ (l : List (Option (List ℕ))). heard_all l r) prefix) (subst (λ (m : L). Went sent given part extra s m z) went.2 goes)),
          )

      turn_until : (count : ℕ) (more extra : List (Option (List ℕ))) (part : List ScriptLine) (r s : Recording) (x y z : L) → length more ≡ count → s ≡ heard_all (take count more) r → Went sent given (Turn count ∷ []) more r x y → WentUntil sent given part extra s y z
          → WentUntil sent given (Turn count ∷ part) (more ++ extra) r x z
      turn_until count more extra part r s x y z many is went goes =
          let prefix : take count more ≡ take count (more ++ extra) = all_looks count more many ∙ sym (ap (λ (n : ℕ). take n (more ++ extra)) (sym many) ∙ take_prefix more extra) in
          let rest : extra ≡ drop count (more ++ extra) = sym (ap (λ (n : ℕ). drop n (more ++ extra)) (sym many) ∙ drop_prefix more extra) in
          inl (
            went.0,
            subst (λ (l : List (Option (List ℕ))). Looked sent given l r x went.0) prefix went.1,
            subst (λ (l : List (Option (List ℕ))). WentUntil sent given part l (heard_all (take count (more ++ extra)) r) went.0 z) rest
                (subst (λ (q : Recording). WentUntil sent given part extra q went.0 z) (is ∙ ap (λ (l : List (Option (List ℕ))). heard_all l r) prefix) (subst (λ (m : L). WentUntil sent given part extra s m z) went.2 goes)),
          )

  carries_on : (done lines : List ScriptLine) (looks more : List (Option (List ℕ))) (q r s : Recording) (x y z : L) → Carries done looks q r x y → Carries lines more r s y z → Carries (done ++ lines) (looks ++ more) q s x z
  carries_on done lines looks more q r s x y z one two = record {
    on = λ part extra end goes.
        subst (λ (l : List ScriptLine). Went sent given l ((looks ++ more) ++ extra) q x end) (sym (append_assoc done lines part))
        (subst (λ (l : List (Option (List ℕ))). Went sent given (done ++ (lines ++ part)) l q x end) (sym (append_assoc looks more extra)) (one.on (lines ++ part) (more ++ extra) end (two.on part extra end goes)));
    until = λ part extra end goes.
        subst (λ (l : List ScriptLine). WentUntil sent given l ((looks ++ more) ++ extra) q x end) (sym (append_assoc done lines part))
        (subst (λ (l : List (Option (List ℕ))). WentUntil sent given (done ++ (lines ++ part)) l q x end) (sym (append_assoc looks more extra)) (one.until (lines ++ part) (more ++ extra) end (two.until part extra end goes)));
  }

  -- the lines so far were followed, and these are left
  pub record Underway (script left : List ScriptLine) (c : Recorder) (b : L) (now : Account) : Type 0 where
    pub done : List ScriptLine
    pub all : script ≡ done ++ left
    pub may : AllMayBeLines w.peers left
    pub looks : List (Option (List ℕ))
    pub r : Recording
    pub leads : Leads done looks (opening w) r
    pub reached : At looks r c b now
    pub over : Carries done looks (opening w) r a b

  pub begun : (script left : List ScriptLine) (c : Recorder) (now : Account) → left ≡ script → AllMayBeLines w.peers script → At [] (opening w) c a now → Underway script left c a now
  begun script left c now same may reached = record { done = []; all = sym same; may = subst (AllMayBeLines w.peers) (sym same) may; looks = []; r = opening w; leads = leads_none (opening w); reached = reached; over = record { on = λ part more z goes. goes; until = λ part more z goes. goes } }

  pub next_may : (script left : List ScriptLine) (line : ScriptLine) (rest : List ScriptLine) (c : Recorder) (b : L) (now : Account) → left ≡ line ∷ rest → Underway script left c b now → MayBeLine w.peers line
  next_may script left line rest c b now same under = (subst (AllMayBeLines w.peers) same under.may).0

  -- one line more was followed
  leads_line : (line : ScriptLine) (more : List (Option (List ℕ))) (r s : Recording) → Follows (line ∷ []) more r s → Leads (line ∷ []) more r s
  leads_line (Event event) more r s follows = record {
    on = λ part extra t goes.
        subst (λ (l : List (Option (List ℕ))). Follows part (l ++ extra) (recorded event r) t) (sym follows.0) (subst (λ (q : Recording). Follows part extra q t) follows.1 goes);
  }
  leads_line (Turn count) more r s follows = turn_leads count more r s follows

  pub goes_on : (script left : List ScriptLine) (line : ScriptLine) (rest : List ScriptLine) (c d : Recorder) (link b : L) (mid now : Account) → left ≡ line ∷ rest → Underway script left c link mid
      → ((looks : List (Option (List ℕ))) (r : Recording) → At looks r c link mid → FollowsOn sent given faults w first a (line ∷ []) looks r link (Ok tt) d b now) → Underway script rest d b now
  goes_on script left line rest c d link b mid now same under one =
      let next = one under.looks under.r under.reached in
      record {
        done = under.done ++ line ∷ [];
        all = under.all ∙ ap (λ (l : List ScriptLine). under.done ++ l) same ∙ sym (append_assoc under.done (line ∷ []) rest);
        may = (subst (AllMayBeLines w.peers) same under.may).1;
        looks = under.looks ++ next.0;
        r = next.1;
        leads = leads_on under.done (line ∷ []) under.looks next.0 (opening w) under.r next.1 under.leads (leads_line line next.0 under.r next.1 next.2);
        reached = next.3;
        over = carries_on under.done (line ∷ []) under.looks next.0 (opening w) under.r next.1 a link b under.over (carries_line line next.0 under.r next.1 link b next.2 next.4);
      }

  -- the recorder stopped in the next line
  pub stops_in : (script left : List ScriptLine) (line : ScriptLine) (rest : List ScriptLine) (c d : Recorder) (link b : L) (mid now : Account) (e : Stop) → left ≡ line ∷ rest → Underway script left c link mid
      → ((looks : List (Option (List ℕ))) (r : Recording) → At looks r c link mid → FollowsOn sent given faults w first a (line ∷ []) looks r link (Err e) d b now) → RecordsAll sent given faults w first a script (Err e) b now
  stops_in script left line rest c d link b mid now e same under one =
      let next = one under.looks under.r under.reached in
      let whole : script ≡ under.done ++ (line ∷ rest) = under.all ∙ ap (λ (l : List ScriptLine). under.done ++ l) same in (
        under.done ++ next.0,
        under.looks ++ next.1,
        next.2,
        subst (IsPart (under.done ++ next.0)) (sym whole) (part_after under.done next.0 (line ∷ rest) (part_of_first next.0 line rest next.3)),
        under.leads.on next.0 next.1 next.2 next.4,
        next.5,
        under.over.until next.0 next.1 b next.6,
      )

  -- no line is left
  pub followed_all : (script left : List ScriptLine) (c : Recorder) (b : L) (now : Account) → left ≡ [] → Underway script left c b now → IsInStep c (mail_in c) → RecordsAll sent given faults w first a script (Ok c) b now
  followed_all script left c b now none under step =
      let whole : script ≡ under.done = under.all ∙ ap (λ (l : List ScriptLine). under.done ++ l) none ∙ append-nil under.done in
      let went : Went sent given (under.done ++ []) (under.looks ++ []) (opening w) a b = under.over.on [] [] b refl in (
        step,
        (
          under.looks,
          under.r,
          subst (λ (l : List ScriptLine). Follows l under.looks (opening w) under.r) (sym whole) (leads_follows under.done under.looks (opening w) under.r under.leads),
          under.reached,
          subst (λ (l : List ScriptLine). Went sent given l under.looks (opening w) a b) (append-nil under.done ∙ sym whole) (subst (λ (l : List (Option (List ℕ))). Went sent given (under.done ++ []) l (opening w) a b) (append-nil under.looks) went),
        ),
      )

  -- an error was passed on
  pub all_err : (script : List ScriptLine) (result : Result Recorder Stop) (G : Stop → Type 0) (e : Stop) (b : L) (now : Account) → IsErrAnd result G → ((d : Stop) → G d → d ≡ e) → RecordsAll sent given faults w first a script (Err e) b now → RecordsAll sent given faults w first a script result b now
  all_err script (Ok c) G e b now and same all = absurd and
  all_err script (Err d) G e b now and same all = subst (λ (x : Stop). RecordsAll sent given faults w first a script (Err x) b now) (sym (same d and)) all
