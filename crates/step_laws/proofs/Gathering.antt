-- The replies of a round of reading, and what they come to.
use Rattle.std.proofs.Common.{◌≡◌, ◌≢◌, ◌∙◌, ◌==◌, ◌&&◌, ◌||◌, ap, sym, refl, subst, inl, inr, ℕ, Bool, true, false, if◌then◌else◌, List, [], ◌∷◌, Option, Some, None}
use Rattle.std.proofs.lemmas.Bool.{false≢true, and_parts, eqb-true}
use Rattle.std.specs.Ordering.{on, ordering_reverse}
use Rattle.std.specs.declared.cmp.Ordering.{Ordering}
use Rattle.std.specs.declared.cmp.Ordering.TheVariants.{Less, Equal, Greater}
use Rattle.ens_base.proofs.Lists.{tested_in}
use Rattle.ens_base.specs.Lists.{◌∈◌, is_in}
use Rattle.ens_base.specs.PeerSet.{holds}
use Rattle.ens_base.specs.View.{IsPeer}
use Rattle.ens_base.specs.declared.command.Command.{Command}
use Rattle.ens_base.specs.declared.command.Command.TheVariants as commands
use Rattle.ens_base.specs.declared.entry.Entry.{Entry}
use Rattle.ens_base.specs.declared.epoch.Epoch.{Epoch}
use Rattle.ens_base.specs.declared.reply.Reply.TheVariants as answers
use Rattle.stored_formats.specs.declared.object.Object.{Object}
use Rattle.quorums.specs.Quorums.{is_quorum, is_member, has_all, has_every, HasEvery}
use Rattle.quorums.proofs.Memberships.{every_decides}
use Rattle.object_commands.specs.Commands.{blind_verdict}
use Rattle.object_commands.specs.declared.verdict.Verdict.{Verdict}
use Rattle.object_commands.specs.declared.verdict.Verdict.TheVariants.{Write}
use Rattle.phase_rows.specs.Orders.{is_same}
use Rattle.quorums.specs.Rounds.{begun, answered as heard_from, state_of}
use Rattle.quorums.specs.declared.round.Round.{Round}
use Rattle.quorums.specs.declared.round.RoundState.{RoundState}
use Rattle.quorums.specs.declared.round.RoundState.TheVariants.{Open, Met, AllAnswered}
use Rattle.phase_rows.specs.declared.phase.Seen.TheVariants as seens
use Rattle.phase_rows.specs.declared.rules.KeyRule.TheVariants as key_rules
use Rattle.phase_rows.proofs.Epochs.{same_epochs}
use Rattle.call_table.proofs.Greatest.{best_is_greatest, entries, same_entries}
use Rattle.call_table.specs.Best.{entry_cmp, better, IsGreatest, IsBest}
use Rattle.call_table.specs.Calls.{running}
use Rattle.call_table.specs.declared.row.Found.{Found}
use Rattle.call_table.specs.declared.row.Known.TheVariants as knowns
use Rattle.call_table.specs.declared.row.Stage.{Stage}
use Rattle.call_table.specs.declared.row.Stage.TheVariants as stages
use Rattle.call_table.specs.declared.waiting.Waiting.{Waiting}
use Rattle.leader_output.specs.Outs.{rests, leads_on}
use Rattle.leader_output.specs.declared.out.LeadOut.{LeadOut}
use Rattle.step_laws.specs.Answers.{IsAnswered, Evaluates, GetReply, contents, has_replied, IsReading, HaveNoEntry, HaveGreatest, HaveObject, Overwrites, NeedsObject}
use Rattle.leader.specs.Leaders.{idle, with_task, knows, stands, settled_as}
use Rattle.leader.specs.Rounds.{counts, asked_for, row_29, heard, row_29_reply, without_object, on_found, on_greatest, on_best, by_state, gathered, gathered_for, row_30}
use Rattle.step_laws.specs.Whole.{CountsVotes, IsStage, IsWhole}
use Rattle.leader.specs.declared.leader.Leader.{Leader}
use Rattle.leader.specs.declared.pending.Pending.TheVariants as tasks
use Rattle.step_laws.proofs.Completing.{quorum_of_members, answered_votes, begun_votes, not_open, is_answered, epoch_itself, counted}
use Rattle.leader_laws.proofs.Lookups.{stage_here}

-- ## The replies that came

same_or : (b : Bool) → b ≡ (b || false)
same_or true = refl
same_or false = refl

-- the key is read, and its replies are evaluated
abbrev IsHeard : List ℕ → ℕ → List GetReply → Leader × LeadOut → Type 0
IsHeard key round replies r = IsReading key round replies r.0 × Evaluates key r.1

pub own_reply : (key : List ℕ) (w : Waiting) (entry : Option Entry) (object : Option Object) (l : Leader) → IsPeer l.me → running key l.table.calls ≡ Some w
    → IsReading key l.round (record { from = l.me; entry = entry; object = object } ∷ []) (row_29 key (seens.Held entry object) l).0 × Evaluates key (row_29 key (seens.Held entry object) l).1
own_reply key w entry object l peer runs =
    subst (λ (call : Option Waiting). IsHeard key l.round (record { from = l.me; entry = entry; object = object } ∷ []) (asked_for call (seens.Held entry object) key l)) (sym runs) (
      record {
        votes = begun l.fact.views l.me;
        best = better None entry object;
        stage = stage_here key (stages.Reading l.round (begun l.fact.views l.me) (better None entry object)) l.table.rows;
        heard = λ p is. begun_votes l.fact.views l.me p peer is ∙ same_or (p == l.me);
        is_best = refl;
      },
      record { next = refl; keys = refl },
    )

pub one_more_reply : (from round : ℕ) (key : List ℕ) (entry : Option Entry) (object : Option Object) (replies : List GetReply) (l : Leader) → IsWhole l → IsPeer from → IsReading key round replies l
    → IsReading key round (record { from = from; entry = entry; object = object } ∷ replies) (row_29_reply from l.fact.epoch round key entry object l).0 × Evaluates key (row_29_reply from l.fact.epoch round key entry object l).1
one_more_reply from round key entry object replies l whole peer h =
    subst (λ (s : Stage). IsHeard key round (record { from = from; entry = entry; object = object } ∷ replies) (heard s from l.fact.epoch round key entry object l)) (sym h.stage)
    (subst (λ (b : Bool). IsHeard key round (record { from = from; entry = entry; object = object } ∷ replies) (if b then (stands key (stages.Reading round (heard_from from h.votes) (better h.best entry object)) l, leads_on key_rules.EnoughReplies key) else idle l)) (sym (counted round l)) (
      record {
        votes = heard_from from h.votes;
        best = better h.best entry object;
        stage = stage_here key (stages.Reading round (heard_from from h.votes) (better h.best entry object)) l.table.rows;
        heard = λ p is. answered_votes l.fact.views h.votes from p own peer is ∙ ap (λ (b : Bool). p == from || b) (h.heard p is);
        is_best = ap (λ (best : Option Found). better best entry object) h.is_best;
      },
      record { next = refl; keys = refl },
    ))
  where
    own : CountsVotes l.fact.views h.votes
    own = subst (IsStage l.fact.views) h.stage (whole.stages key)

pub other_reply : (from at round : ℕ) (ballot : Epoch) (key : List ℕ) (entry : Option Entry) (object : Option Object) (replies : List GetReply) (l : Leader) → IsReading key round replies l
    → ¬ ((ballot ≡ l.fact.epoch) × (at ≡ round)) → row_29_reply from ballot at key entry object l ≡ idle l
other_reply from at round ballot key entry object replies l h not_it =
    subst (λ (s : Stage). heard s from ballot at key entry object l ≡ idle l) (sym h.stage) (by_test (counts ballot at round l) refl)
  where
    by_test : (b : Bool) → counts ballot at round l ≡ b → (if b then (stands key (stages.Reading round (heard_from from h.votes) (better h.best entry object)) l, leads_on key_rules.EnoughReplies key) else idle l) ≡ idle l
    by_test true e = let parts = and_parts (is_same ballot l.fact.epoch) (at == round) e in absurd (not_it (same_epochs ballot l.fact.epoch parts.0, eqb-true at round parts.1))
    by_test false e = refl

-- ## The state of the round

all_of_members : (s t : ℕ → Bool) (view : List ℕ) → ((p : ℕ) → p ∈ view → s p ≡ true → t p ≡ true) → has_all s view ≡ true → has_all t view ≡ true
all_of_members s t [] more h = refl
all_of_members s t (m ∷ view) more h = let parts = and_parts (s m) (has_all s view) h in ap (λ (b : Bool). b && has_all t view) (more m (inl refl) parts.0) ∙ all_of_members s t view (λ p at. more p (inr at)) parts.1

in_rest : (view : List ℕ) (views : List (List ℕ)) (p : ℕ) → is_member views p ≡ true → (is_in view p || is_member views p) ≡ true
in_rest view views p is = by_first (is_in view p)
  where
    by_first : (b : Bool) → (b || is_member views p) ≡ true
    by_first true = refl
    by_first false = is

every_of_members : (s t : ℕ → Bool) (views : List (List ℕ)) → ((p : ℕ) → is_member views p ≡ true → s p ≡ true → t p ≡ true) → has_every s views ≡ true → has_every t views ≡ true
every_of_members s t [] more h = refl
every_of_members s t (view ∷ views) more h =
    let parts = and_parts (has_all s view) (has_every s views) h in
    ap (λ (b : Bool). b && has_every t views) (all_of_members s t view (λ p at. more p (ap (λ (b : Bool). b || is_member views p) (tested_in view p at))) parts.0)
    ∙ every_of_members s t views (λ p is. more p (in_rest view views p is)) parts.1

-- the state by whether the votes are a quorum, and whether every member has voted
abbrev state_by : Bool → Bool → RoundState
state_by quorum every = if quorum then (if every then AllAnswered else Met) else Open

state_is : (views : List (List ℕ)) (round : Round) → round.tally.views ≡ views → state_of round ≡ state_by (is_quorum (holds round.tally.votes) views) (has_every (holds round.tally.votes) views)
unfolding state_of
state_is views round on = ap (λ (vs : List (List ℕ)). state_by (is_quorum (holds round.tally.votes) vs) (has_every (holds round.tally.votes) vs)) on

-- the best reply has the greatest entry u
record HasBest (replies : List GetReply) (best : Option Found) (u : Entry) : Type 0 where
  found : Found
  given : best ≡ Some found
  entry : found.entry ≡ u
  greatest : IsGreatest (contents replies) found

module _ (key : List ℕ) (round : ℕ) (replies : List GetReply) (l : Leader) (whole : IsWhole l) (h : IsReading key round replies l) where
  views_own : h.votes.tally.views ≡ l.fact.views
  views_own = (subst (IsStage l.fact.views) h.stage (whole.stages key)).on

  to_votes : (p : ℕ) → is_member l.fact.views p ≡ true → has_replied replies p ≡ true → holds h.votes.tally.votes p ≡ true
  to_votes p is has = h.heard p is ∙ has

  to_replies : (p : ℕ) → is_member l.fact.views p ≡ true → holds h.votes.tally.votes p ≡ true → has_replied replies p ≡ true
  to_replies p is has = sym (h.heard p is) ∙ has

  closed : is_quorum (has_replied replies) l.fact.views ≡ true → state_of h.votes ≡ Open → ⊥
  closed quorum = not_open l.fact.views h.votes views_own (quorum_of_members (has_replied replies) (holds h.votes.tally.votes) l.fact.views to_votes quorum)

  still_open : is_quorum (has_replied replies) l.fact.views ≡ false → state_of h.votes ≡ Open
  still_open none = by_votes (is_quorum (holds h.votes.tally.votes) l.fact.views) refl
    where
      by_votes : (b : Bool) → is_quorum (holds h.votes.tally.votes) l.fact.views ≡ b → state_of h.votes ≡ Open
      by_votes true e = absurd (false≢true (sym none ∙ quorum_of_members (holds h.votes.tally.votes) (has_replied replies) l.fact.views to_replies e))
      by_votes false e = state_is l.fact.views h.votes views_own ∙ ap (λ (b : Bool). state_by b (has_every (holds h.votes.tally.votes) l.fact.views)) e

  complete : is_quorum (has_replied replies) l.fact.views ≡ true → HasEvery (has_replied replies) l.fact.views → state_of h.votes ≡ AllAnswered
  complete quorum every =
      state_is l.fact.views h.votes views_own
      ∙ ap (λ (b : Bool). state_by b (has_every (holds h.votes.tally.votes) l.fact.views)) (quorum_of_members (has_replied replies) (holds h.votes.tally.votes) l.fact.views to_votes quorum)
      ∙ ap (λ (b : Bool). state_by true b) (every_of_members (has_replied replies) (holds h.votes.tally.votes) l.fact.views to_votes ((every_decides (has_replied replies) l.fact.views).1 every))

  completed : state_of h.votes ≡ AllAnswered → HasEvery (has_replied replies) l.fact.views
  completed all = (every_decides (has_replied replies) l.fact.views).0 (every_of_members (holds h.votes.tally.votes) (has_replied replies) l.fact.views to_replies
      (by_tests (is_quorum (holds h.votes.tally.votes) l.fact.views) (has_every (holds h.votes.tally.votes) l.fact.views) (sym (state_is l.fact.views h.votes views_own) ∙ all)))
    where
      by_tests : (quorum every : Bool) → state_by quorum every ≡ AllAnswered → every ≡ true
      by_tests true true e = refl
      by_tests true false e = absurd cc
      by_tests false every e = absurd cc

  best_greatest : IsBest (contents replies) h.best
  best_greatest = subst (IsBest (contents replies)) (sym h.is_best) (best_is_greatest (contents replies))

  -- ## Rule 30

  -- what holds of the replies evaluated holds of rule 30
  evaluated : (P : Leader × LeadOut → Type 0) (w : Waiting) → running key l.table.calls ≡ Some w → P (by_state (state_of h.votes) h.best w key l) → P (row_30 key l)
  evaluated P w runs p = subst (λ (call : Option Waiting). P (gathered_for call key l)) (sym runs) (subst (λ (s : Stage). P (gathered s w key l)) (sym h.stage) p)

  past_open : (P : Leader × LeadOut → Type 0) (state : RoundState) (best : Option Found) (w : Waiting) → (state ≡ Open → ⊥) → P (on_best best state w key l) → P (by_state state best w key l)
  past_open P Open best w past p = absurd (past refl)
  past_open P Met best w past p = p
  past_open P AllAnswered best w past p = p

  met : (P : Leader × LeadOut → Type 0) (w : Waiting) → running key l.table.calls ≡ Some w → is_quorum (has_replied replies) l.fact.views ≡ true → P (on_best h.best (state_of h.votes) w key l) → P (row_30 key l)
  met P w runs quorum p = evaluated P w runs (past_open P (state_of h.votes) h.best w (closed quorum) p)

  pub read_waits : is_quorum (has_replied replies) l.fact.views ≡ false → row_30 key l ≡ idle l
  read_waits none = by_call (running key l.table.calls) refl
    where
      by_call : (call : Option Waiting) → running key l.table.calls ≡ call → row_30 key l ≡ idle l
      by_call None e = ap (λ (c : Option Waiting). gathered_for c key l) e
      by_call (Some w) e = evaluated (λ r. r ≡ idle l) w e (ap (λ (s : RoundState). by_state s h.best w key l) (still_open none))

  none_best : HaveNoEntry replies → (best : Option Found) → IsBest (contents replies) best → best ≡ None
  none_best none None is = refl
  none_best none (Some f) is = absurd (none f.entry is.entry.0 is.entry.1)

  pub read_absent : (w : Waiting) → running key l.table.calls ≡ Some w → is_quorum (has_replied replies) l.fact.views ≡ true → HaveNoEntry replies → row_30 key l ≡ (with_task (tasks.Apply None) (knows key knowns.Absent l), leads_on key_rules.Apply key)
  read_absent w runs quorum none = met (λ r. r ≡ (with_task (tasks.Apply None) (knows key knowns.Absent l), leads_on key_rules.Apply key)) w runs quorum (ap (λ (best : Option Found). on_best best (state_of h.votes) w key l) (none_best none h.best best_greatest))

  same_greatest : (u : Entry) → HaveGreatest replies u → (f : Found) → IsGreatest (contents replies) f → f.entry ≡ u
  same_greatest u top f is = by_order (entry_cmp f.entry u) refl
    where
      by_order : (o : Ordering) → entry_cmp f.entry u ≡ o → f.entry ≡ u
      by_order Less e = absurd (is.greatest u top.named.0 top.named.1 e)
      by_order Equal e = same_entries f.entry u e
      by_order Greater e = absurd (top.greatest f.entry is.entry.0 is.entry.1 (entries.antisymm u f.entry ∙ ap ordering_reverse e))

  has_best : (u : Entry) → HaveGreatest replies u → (best : Option Found) → h.best ≡ best → IsBest (contents replies) best → HasBest replies h.best u
  has_best u top None e is = absurd (is u top.named.0 top.named.1)
  has_best u top (Some f) e is = record { found = f; given = e; entry = same_greatest u top f is; greatest = is }

  module _ (w : Waiting) (runs : running key l.table.calls ≡ Some w) (u : Entry) (top : HaveGreatest replies u) where
    b : HasBest replies h.best u
    b = has_best u top h.best refl best_greatest

    blind : (command : Command) (content : Option (List ℕ)) → Overwrites command content → blind_verdict command ≡ Some (Write content)
    blind (commands.Over value) content is = ap (λ (c : Option (List ℕ)). Some (Write c)) (sym is)
    blind commands.Delete content is = ap (λ (c : Option (List ℕ)). Some (Write c)) (sym is)
    blind commands.Get content is = absurd is
    blind (commands.PutOnce value) content is = absurd is
    blind (commands.Update wanted value) content is = absurd is
    blind (commands.Append tail) content is = absurd is
    blind (commands.Add n) content is = absurd is
    blind (commands.Swap old new) content is = absurd is

    pub read_overwrites : (content : Option (List ℕ)) → is_quorum (has_replied replies) l.fact.views ≡ true → Overwrites w.command content → row_30 key l ≡ (with_task (tasks.Write content (Some u.version)) l, leads_on key_rules.Write key)
    read_overwrites content quorum is = met (λ r. r ≡ (with_task (tasks.Write content (Some u.version)) l, leads_on key_rules.Write key)) w runs quorum (
        ap (λ (best : Option Found). on_best best (state_of h.votes) w key l) b.given
        ∙ ap (λ (v : Option Verdict). on_greatest v (state_of h.votes) b.found w key l) (blind w.command content is)
        ∙ ap (λ (e : Entry). (with_task (tasks.Write content (Some e.version)) l, leads_on key_rules.Write key)) b.entry
        )

    seeing : (command : Command) → NeedsObject command → blind_verdict command ≡ None
    seeing (commands.Over value) needs = absurd (needs (Some value) refl)
    seeing commands.Delete needs = absurd (needs None refl)
    seeing commands.Get needs = refl
    seeing (commands.PutOnce value) needs = refl
    seeing (commands.Update wanted value) needs = refl
    seeing (commands.Append tail) needs = refl
    seeing (commands.Add n) needs = refl
    seeing (commands.Swap old new) needs = refl

    -- what holds of what comes of the object that was found holds of rule 30
    seen : (P : Leader × LeadOut → Type 0) → is_quorum (has_replied replies) l.fact.views ≡ true → NeedsObject w.command → P (on_found b.found.object (state_of h.votes) u w key l) → P (row_30 key l)
    seen P quorum needs p = met P w runs quorum (subst (λ (best : Option Found). P (on_best best (state_of h.votes) w key l)) (sym b.given)
        (subst (λ (v : Option Verdict). P (on_greatest v (state_of h.votes) b.found w key l)) (sym (seeing w.command needs)) (subst (λ (e : Entry). P (on_found b.found.object (state_of h.votes) e w key l)) (sym b.entry) p)))

    has_object : (o : Object) → HaveObject replies u o → (object : Option Object) → b.found.object ≡ object → (q : Object) × (b.found.object ≡ Some q) × HaveObject replies u q
    has_object o at None e = absurd (b.greatest.no_object e o (subst (λ (x : Entry). HaveObject replies x o) (sym b.entry) at))
    has_object o at (Some q) e = (q, e, subst (λ (x : Entry). HaveObject replies x q) b.entry (b.greatest.object q e))

    pub read_settles : (o : Object) → is_quorum (has_replied replies) l.fact.views ≡ true → NeedsObject w.command → HaveObject replies u o → u.version.epoch ≡ l.fact.epoch
        → (p : Object) × HaveObject replies u p × (row_30 key l ≡ (with_task (tasks.Apply (Some p)) (knows key (settled_as u.version p u.digest) l), leads_on key_rules.Apply key))
    read_settles o quorum needs at same =
        let q = has_object o at b.found.object refl in (
          q.0,
          q.2,
          seen (λ r. r ≡ (with_task (tasks.Apply (Some q.0)) (knows key (settled_as u.version q.0 u.digest) l), leads_on key_rules.Apply key)) quorum needs (
              ap (λ (object : Option Object). on_found object (state_of h.votes) u w key l) q.1
              ∙ ap (λ (t : Bool). if t then (with_task (tasks.Apply (Some q.0)) (knows key (settled_as u.version q.0 u.digest) l), leads_on key_rules.Apply key) else (with_task (tasks.Rewrite q.0) l, leads_on key_rules.Rewrite key))
              (ap (λ (e : Epoch). is_same e l.fact.epoch) same ∙ epoch_itself l.fact.epoch)
              ),
        )

    other_epoch : (e : Epoch) → e ≢ l.fact.epoch → is_same e l.fact.epoch ≡ false
    other_epoch e apart = by_test (is_same e l.fact.epoch) refl
      where
        by_test : (t : Bool) → is_same e l.fact.epoch ≡ t → t ≡ false
        by_test true is = absurd (apart (same_epochs e l.fact.epoch is))
        by_test false is = refl

    pub read_rewrites : (o : Object) → is_quorum (has_replied replies) l.fact.views ≡ true → NeedsObject w.command → HaveObject replies u o → u.version.epoch ≢ l.fact.epoch
        → (p : Object) × HaveObject replies u p × (row_30 key l ≡ (with_task (tasks.Rewrite p) l, leads_on key_rules.Rewrite key))
    read_rewrites o quorum needs at apart =
        let q = has_object o at b.found.object refl in (
          q.0,
          q.2,
          seen (λ r. r ≡ (with_task (tasks.Rewrite q.0) l, leads_on key_rules.Rewrite key)) quorum needs (
              ap (λ (object : Option Object). on_found object (state_of h.votes) u w key l) q.1
              ∙ ap (λ (t : Bool). if t then (with_task (tasks.Apply (Some q.0)) (knows key (settled_as u.version q.0 u.digest) l), leads_on key_rules.Apply key) else (with_task (tasks.Rewrite q.0) l, leads_on key_rules.Rewrite key))
              (other_epoch u.version.epoch apart)
              ),
        )

    no_object : ((o : Object) → ¬ HaveObject replies u o) → (object : Option Object) → b.found.object ≡ object → object ≡ None
    no_object none None e = refl
    no_object none (Some p) e = absurd (none p (subst (λ (x : Entry). HaveObject replies x p) b.entry (b.greatest.object p e)))

    pub read_lost : is_quorum (has_replied replies) l.fact.views ≡ true → NeedsObject w.command → ((o : Object) → ¬ HaveObject replies u o) → HasEvery (has_replied replies) l.fact.views → IsAnswered w answers.Lost [] key l (row_30 key l)
    read_lost quorum needs none every = seen (IsAnswered w answers.Lost [] key l) quorum needs
        (subst (λ (object : Option Object). IsAnswered w answers.Lost [] key l (on_found object (state_of h.votes) u w key l)) (sym (no_object none b.found.object refl))
        (subst (λ (s : RoundState). IsAnswered w answers.Lost [] key l (without_object s w key l)) (sym (complete quorum every)) (is_answered w answers.Lost key rests l refl refl)))

    pub read_waits_on : NeedsObject w.command → ((o : Object) → ¬ HaveObject replies u o) → ¬ HasEvery (has_replied replies) l.fact.views → row_30 key l ≡ idle l
    read_waits_on needs none some = by_quorum (is_quorum (has_replied replies) l.fact.views) refl
      where
        by_state_of : (s : RoundState) → state_of h.votes ≡ s → without_object s w key l ≡ idle l
        by_state_of Open e = refl
        by_state_of Met e = refl
        by_state_of AllAnswered e = absurd (some (completed e))

        by_quorum : (q : Bool) → is_quorum (has_replied replies) l.fact.views ≡ q → row_30 key l ≡ idle l
        by_quorum false e = read_waits e
        by_quorum true e = seen (λ r. r ≡ idle l) e needs (ap (λ (object : Option Object). on_found object (state_of h.votes) u w key l) (no_object none b.found.object refl) ∙ by_state_of (state_of h.votes) refl)
