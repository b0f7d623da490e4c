-- As long as the answers of the stores are sound, each message that a step sends may be sent.
use Rattle.std.specs.Option.{is_some}
use Rattle.std.specs.Prelude.{All, OnOk}
use Rattle.std.proofs.Common.{◌≡◌, ◌≢◌, ◌≤◌, ◌∙◌, lit≤, ℕ, zero, suc, Bool, true, false, not, nat_le, ◌&&◌, ◌==◌, if◌then◌else◌, List, [], ◌∷◌, ◌++◌, Option, Some, None, Result, Ok, Err, refl, inl, inr, subst, arith}
use Rattle.std.proofs.lemmas.List.Elements.{All-nil, All-push, All-append}
use Rattle.std.proofs.lemmas.Bool.Decides.{nat_tests}
use Rattle.std.proofs.lemmas.Bool.{leb-true}
use Rattle.ens_base.specs.View.{IsPeer}
use Rattle.ens_base.specs.Views.{last_view}
use Rattle.ens_base.specs.declared.entry.Entry.{Entry}
use Rattle.ens_base.specs.declared.epoch.Epoch.{Epoch}
use Rattle.stored_formats.specs.Objects.{object_spelling}
use Rattle.stored_formats.specs.declared.object.Object.{Object}
use Rattle.peer_state.specs.PhaseRules.{is_served, row_21, row_22, row_23, Election, Preparing, Starting}
use Rattle.object_commands.specs.Kept.{entry_of, matching, object_in}
use Rattle.leader_output.specs.Outs.{asked_by}
use Rattle.leader_output.specs.declared.out.LeadOut.{LeadOut}
use Rattle.leader_output.specs.declared.out.Outgoing.{Outgoing}
use Rattle.leader_output.specs.declared.out.Own.{Own}
use Rattle.leader_output.specs.declared.out.Own.TheVariants as owns
use Rattle.leader.specs.Puts.{row_35_reply}
use Rattle.leader.specs.Rounds.{row_29_reply, row_33_reply}
use Rattle.leader.specs.Rules.{lead_row}
use Rattle.leader.specs.Starts.{row_27}
use Rattle.leader.specs.declared.leader.Leader.{Leader}
use Rattle.leader_laws.proofs.Joins.{row_27_joins}
use Rattle.leader_laws.proofs.Sends.{ticks_may}
use Rattle.leader_laws.proofs.Steps.{lead_step, row_29_reply_step, row_33_reply_step, row_35_reply_step}
use Rattle.leader_laws.proofs.TimeOuts.{row_5_ticks}
use Rattle.stored_formats.specs.declared.fact.Fact.{Fact}
use Rattle.tree_node.specs.declared.version.TreeVersion.{TreeVersion}
use Rattle.tree_node.specs.declared.version.TreeVersion.TheVariants.{Two}
use Rattle.peer_state.specs.TreeExchange.{Question}
use Rattle.phase_rows.specs.Orders.{is_same}
use Rattle.phase_rows.specs.Peers.{joined}
use Rattle.peer_state.specs.TreeSync.{row_start, row_resume, row_take, Running, AsksOthers, Give, needs_build, outcome_of, Outcome, Pending, Trusted}
use Rattle.peer_state.proofs.TreeSync.{asks_are, resumed_are, taken_are, start_go, resume_go, take_go}
use Rattle.tree_node.specs.Positions.{IsPosition}
use Rattle.tree_node.specs.TreeVersions.{levels}
use Rattle.tree_node.specs.declared.position.Position.{Position}
use Rattle.wire_frames.specs.Messages.{Obeys}
use Rattle.register_model.specs.declared.note.Note.{Note}
use Rattle.step_plans.specs.Calls.{Call, Save, Root, Find, Enter, ScanTree, ReadNode, Install, Fetch, Put, Hash, AnswerOf}
use Rattle.step_plans.specs.Outboxes.{out_of}
use Rattle.step_plans.specs.Plans.{Plan, Done, Say, Ask, Out, nothing, Rest, Part, Finished, Runs, asked, noted}
use Rattle.step_plans.specs.Saved.{with_seal}
use Rattle.step_plans.specs.Sends.{posted_to}
use Rattle.step_plans.specs.Steps.{Steps}
use Rattle.step_plans.specs.Tasks.{named, keyed}
use Rattle.step_plans.specs.declared.error.PeerError.{PeerError}
use Rattle.step_plans.specs.declared.outbox.Outbox.{Outbox}
use Rattle.step_plans.specs.declared.tasks.Task.{Task}
use Rattle.step_plans.specs.declared.tasks.Task.TheVariants as tasks
use Rattle.step_plans.specs.declared.walked.Walked.{Walked}
use Rattle.step_plans.specs.declared.walked.Walked.TheVariants.{Reached, Broken}
use Rattle.wire_frames.specs.declared.message.Message.{Message}
use Rattle.wire_frames.specs.declared.message.Message.TheVariants as messages
use Rattle.phase_rows.specs.declared.phase.PhaseOut.{PhaseOut}
use Rattle.phase_rows.specs.declared.phase.Seen.{Seen}
use Rattle.phase_rows.specs.declared.phase.Seen.TheVariants as seens
use Rattle.phase_rows.specs.declared.phase.Then.{Then}
use Rattle.phase_rows.specs.declared.phase.Then.TheVariants as thens
use Rattle.phase_rows.specs.declared.rules.PhaseRule.TheVariants as phase_rules
use Rattle.phase_rows.specs.declared.rules.KeyRule.{KeyRule}
use Rattle.peer_spec.specs.Drives.{row_done, owned, own_key, followed_up, and_row, lead_done, lead, reminded, task_done, driven, led_in, ticked, shown, got_ask, after_put, put_done, in_tree, delivered, unavailable, first, most_turns, responded, concluded, step_of, MayCome}
use Rattle.peer_spec.specs.Syncs.{saved, sealed, sealed_if, and_sends, with_sync, installed, accepted, accepted_own, accepted_in, end_sync, by_outcome, go_on, resume_sync, followed_on, reached, own_node, body_of, shown_node, needs_node, take_give, tree_give}
use Rattle.peer_spec.specs.TreeCalls.{has_position}
use Rattle.peer_spec.proofs.Inside.{has_level}
use Rattle.peer_spec.specs.Kept.{MaySend, AllMayGo, LeadsAs, SyncsAs, IsOwn, IsInTree, IsSound, Reaches}
use Rattle.peer_state.specs.Leading.{older, end_of, ticks, row_5_calls}
use Rattle.peer_state.specs.Moves.{keeps_seal, left, left_answers, turned, turned_answers, ends_leading, leading, with_leader, and_answers, electing, without_sync}
use Rattle.peer_spec.specs.Owns.{digested, read, kept, fetched, held, looked_at, looked, found_at, found, stored, resealed, entered, written, confirmed}
use Rattle.peer_state.specs.Rows.{aged, phase_row, received, asked_change, leads, changes}
use Rattle.peer_state.specs.declared.event.Event.{Event}
use Rattle.peer_state.specs.declared.event.Event.TheVariants as events
use Rattle.peer_state.specs.declared.state.Phase.{Phase}
use Rattle.peer_state.specs.declared.state.Phase.TheVariants as phases
use Rattle.peer_state.specs.declared.state.State.{State}
use Rattle.peer_spec.proofs.Ends.{same_end}
use Rattle.peer_spec.proofs.Asking.{left_own, turned_own, asked_syncs, phase_row_syncs, aged_syncs, received_syncs}
use Rattle.peer_spec.proofs.Going.{asked_as, asked_may, phase_row_goes, aged_goes, received_goes}
use Rattle.peer_spec.proofs.Grammar.{MayGo, posted_to_may, and_sends_may}
use Rattle.peer_spec.proofs.Gives.{body_obeys}
use Rattle.peer_spec.proofs.Replies.{IsSeenInTree, IsShown, row_21_may, row_22_may, row_23_may, after_put_may}

-- what a row of a leader keeps to: it sends as the same peer, and its messages may be sent
abbrev IsLedAs : ℕ → (Leader → Leader × LeadOut) → Type 0
IsLedAs me row = (l : Leader) → l.me ≡ me → ((row l).0.me ≡ me) × All (MaySend me) (row l).1.sends

may_as : (k me : ℕ) (sends : List Outgoing) → k ≡ me → All (MaySend k) sends → All (MaySend me) sends
may_as k me sends is may = subst (λ p. All (MaySend p) sends) is may

none_may : (me : ℕ) (sends : List Outgoing) → sends ≡ [] → All (MaySend me) sends
none_may me sends is = rw is (All-nil (MaySend me))

one_may : (me : ℕ) (s : Outgoing) → MaySend me s → All (MaySend me) (s ∷ [])
one_may me s may = All-push (MaySend me) [] s (All-nil (MaySend me)) may

apart : (a b : ℕ) → (a == b) ≡ false → a ≢ b
apart a b test = λ same. grind (arith, nat_tests, test, same)

same_me : (a b me : ℕ) → a ≡ b → b ≡ me → a ≡ me
same_me a b me same is = same ∙ is

key_led : (me : ℕ) (rule : KeyRule) (key : List ℕ) (seen : Seen) → IsLedAs me (lead_row rule key seen)
key_led me rule key seen l is = let step = lead_step rule key seen l in (same_me _ _ me step.me is, may_as l.me me _ is step.sends)

got_led : (me from : ℕ) (ballot : Epoch) (round : ℕ) (key : List ℕ) (entry : Option Entry) (object : Option Object) → IsLedAs me (row_29_reply from ballot round key entry object)
got_led me from ballot round key entry object l is = let step = row_29_reply_step from ballot round key entry object l in (same_me _ _ me step.me is, may_as l.me me _ is step.sends)

checked_led : (me from : ℕ) (ballot : Epoch) (round : ℕ) → IsLedAs me (row_33_reply from ballot round)
checked_led me from ballot round l is = let step = (row_33_reply_step from ballot round l).1 in (same_me _ _ me step.me is, may_as l.me me _ is step.sends)

put_led : (me from : ℕ) (ballot : Epoch) (key : List ℕ) (version : _) → IsLedAs me (row_35_reply from ballot key version)
put_led me from ballot key version l is = let step = row_35_reply_step from ballot key version l in (same_me _ _ me step.me is, may_as l.me me _ is step.sends)

joined_led : (me from id : ℕ) (key : List ℕ) (command : _) (finishing : Bool) → IsLedAs me (row_27 from id key command finishing)
joined_led me from id key command finishing l is = let join = row_27_joins from id key command finishing l in (same_me _ _ me join.me is, none_may me _ join.sends)

module _ (me : ℕ) (peer : IsPeer me) (P : State → Out → Type 0) where
  -- a leader sends as this peer, a sync asks other peers alone, and all messages of the output may be
  -- sent
  abbrev Good : State → Out → Type 0
  Good x out = IsOwn me x × AllMayGo me out

  abbrev Goes : {A : Type 0} → Rest State A → Type 0
  Goes {A} next = (v : A) (y : State) (o : Out) → Good y o → Reaches P (next v y o)

  -- from a good state the part reaches good states
  abbrev Passes : {A : Type 0} → Part State A → Type 0
  Passes {A} part = (x : State) (out : Out) (next : Rest State A) → Good x out → Goes next → Reaches P (part x out next)

  -- the part asks the stores, and what it has seen of the tree is sound; the state stays
  abbrev Sees : Part State Seen → Type 0
  Sees part = (x : State) (out : Out) (next : Rest State Seen) → ((seen : Seen) → IsSeenInTree seen → Reaches P (next seen x out)) → Reaches P (part x out next)

  if_reaches : (test : Bool) (p q : Plan State) → Reaches P p → Reaches P q → Reaches P (if test then p else q)
  if_reaches true p q first second = first
  if_reaches false p q first second = second

  asked_reaches : (call : Call) (x : State) (out : Out) (next : Rest State (AnswerOf call)) → ((a : AnswerOf call) → IsSound call a → Reaches P (next a x out)) → Reaches P (asked call x out next)
  unfolding asked
  asked_reaches call x out next go = go

  -- any object may be in the backend
  abbrev Reads : {A : Type 0} → Part State A → Type 0
  Reads {A} part = (x : State) (out : Out) (next : Rest State A) → ((v : A) → Reaches P (next v x out)) → Reaches P (part x out next)

  digested_reads : (object : Option Object) (bytes : List ℕ) → Reads (digested object bytes)
  digested_reads None bytes x out next go = go None
  digested_reads (Some o) bytes x out next go = asked_reaches (Hash bytes) x out (λ digest y p. next (Some (o, digest)) y p) (λ digest sound. go (Some (o, digest)))

  read_reads : (bytes : Option (List ℕ)) → Reads (read bytes)
  read_reads None x out next go = go None
  read_reads (Some bytes) x out next go = digested_reads (object_in bytes) bytes x out next go

  kept_reads : (key : List ℕ) → Reads (kept key)
  kept_reads key x out next go = asked_reaches (Fetch key) x out (λ bytes y p. read bytes y p next) (λ bytes sound. read_reads bytes x out next go)

  fetched_sees : (key : List ℕ) → Sees (fetched key)
  fetched_sees key x out next go = kept_reads key x out (λ o y p. next (seens.Kept o) y p) (λ o. go (seens.Kept o) tt)

  held_sees : (key : List ℕ) (entry : Option Entry) → Sees (held key entry)
  held_sees key None x out next go = go (seens.Held None None) tt
  held_sees key (Some entry) x out next go =
      kept_reads key x out (λ o y p. next (seens.Held (Some entry) (matching entry o)) y p) (λ o. go (seens.Held (Some entry) (matching entry o)) tt)

  looked_at_sees : (key : List ℕ) (end : Walked (Option Entry)) → IsInTree end → Sees (looked_at key end)
  looked_at_sees key (Broken at) is x out next go = go (seens.Damaged at) is
  looked_at_sees key (Reached entry) is x out next go = held_sees key entry x out next go

  looked_sees : (key : List ℕ) → Sees (looked key)
  looked_sees key x out next go = asked_reaches (Find key) x out (λ end y p. looked_at key end y p next) (λ end sound. looked_at_sees key end sound x out next go)

  found_seen : (end : Walked (Option Entry)) → IsInTree end → IsSeenInTree (found_at end)
  found_seen (Broken at) is = is
  found_seen (Reached entry) is = tt

  found_sees : (key : List ℕ) → Sees (found key)
  found_sees key x out next go = asked_reaches (Find key) x out (λ end y p. next (found_at end) y p) (λ end sound. go (found_at end) (found_seen end sound))

  -- the same of a part at whose end the peer may have another seal
  abbrev SeesAnew : Part State Seen → Type 0
  SeesAnew part = (x : State) (out : Out) (next : Rest State Seen) → ((seen : Seen) (seal : Option (List ℕ)) → IsSeenInTree seen → Reaches P (next seen (record x { seal = seal }) out)) → Reaches P (part x out next)

  sealed_reads : (fact : Fact) (x : State) (out : Out) (next : Rest State (Unit {0})) → ((seal : Option (List ℕ)) → Reaches P (next tt (record x { fact = fact; seal = seal }) out)) → Reaches P (sealed fact x out next)
  sealed_reads fact x out next go =
      asked_reaches Root x out (λ root y o. asked (Save (with_seal root fact)) y o (λ u z q. next tt (record z { fact = fact; seal = root }) q))
      (λ root sound. asked_reaches (Save (with_seal root fact)) x out (λ u z q. next tt (record z { fact = fact; seal = root }) q) (λ u is. go root))

  resealed_reads : (seals : Bool) (x : State) (out : Out) (next : Rest State (Unit {0})) → ((seal : Option (List ℕ)) → Reaches P (next tt (record x { seal = seal }) out)) → Reaches P (resealed seals x out next)
  resealed_reads true x out next go = sealed_reads x.fact x out next go
  resealed_reads false x out next go = go x.seal

  entered_sees : (o : Object) (bytes digest : List ℕ) (end : Walked (Unit {0})) → IsInTree end → SeesAnew (entered o bytes digest end)
  entered_sees o bytes digest (Broken at) is x out next go = go (seens.Damaged at) x.seal is
  entered_sees o bytes digest (Reached u) is x out next go =
      resealed_reads (is_some x.seal) x out (λ v y p. stored o bytes digest y p next)
      (λ seal. asked_reaches (Put o.key bytes) (record x { seal = seal }) out (λ w y p. next (seens.Stored digest) y p) (λ w sound. go (seens.Stored digest) seal tt))

  written_sees : (o : Object) → SeesAnew (written o)
  written_sees o x out next go =
      let bytes = object_spelling o in
      asked_reaches (Hash bytes) x out (λ digest y p. asked (Enter (entry_of o digest)) y p (λ end z q. entered o bytes digest end z q next))
      (λ digest sound. asked_reaches (Enter (entry_of o digest)) x out (λ end z q. entered o bytes digest end z q next) (λ end is. entered_sees o bytes digest end is x out next go))

  confirmed_reads : (entry : Option Entry) (object : Option Object) → Reads (confirmed entry object)
  confirmed_reads None object x out next go = go None
  confirmed_reads (Some entry) None x out next go = go None
  confirmed_reads (Some entry) (Some o) x out next go =
      asked_reaches (Hash (object_spelling o)) x out (λ digest y p. next (matching entry (Some (o, digest))) y p) (λ digest sound. go (matching entry (Some (o, digest))))

  owned_sees : (own : Own) → SeesAnew (owned own)
  owned_sees (owns.Fetch key) x out next go = fetched_sees key x out next (λ seen. go seen x.seal)
  owned_sees (owns.Look key) x out next go = looked_sees key x out next (λ seen. go seen x.seal)
  owned_sees (owns.Put o) x out next go = written_sees o x out next go

  noted_reaches : (notes : List Note) (p : Plan State) → Reaches P p → Reaches P (noted notes p)
  noted_reaches [] p reaches = reaches
  noted_reaches (n ∷ notes) p reaches = noted_reaches notes p reaches

  shown_sees : (served : Bool) (part : Part State Seen) → Sees part → Sees (shown served part)
  shown_sees true part sees x out next go = sees x out next go
  shown_sees false part sees x out next go = go seens.Nothing tt

  -- answers to calls are no messages
  answered_may : (leave : Bool) (x : State) (out : Out) → AllMayGo me out → AllMayGo me (left_answers leave x out)
  answered_may true x out may = may
  answered_may false x out may = may

  saved_passes : (save : Option Fact) → Passes (saved save)
  saved_passes None x out next good go = go tt x out good
  saved_passes (Some fact) x out next good go =
      asked_reaches (Save (with_seal x.seal fact)) x out (λ u y o. next tt (record y { fact = fact }) o) (λ u sound. go tt (record x { fact = fact }) out good)

  sealed_if_passes : (seals : Bool) (fact : Fact) → Passes (sealed_if seals fact)
  sealed_if_passes true fact x out next good go = sealed_reads fact x out next (λ seal. go tt (record x { fact = fact; seal = seal }) out good)
  sealed_if_passes false fact x out next good go = saved_passes (Some fact) x out next good go

  -- ## Syncs

  -- the part asks the stores; the state stays, and what it returns has this property
  abbrev Shows : {A : Type 0} → (A → Type 0) → Part State A → Type 0
  Shows {A} Q part = (x : State) (out : Out) (next : Rest State A) → ((v : A) → Q v → Reaches P (next v x out)) → Reaches P (part x out next)

  installed_reads : (needed : Bool) (entries : List Entry) → Reads (installed needed entries)
  installed_reads true entries x out next go = asked_reaches (Install entries) x out next (λ u sound. go u)
  installed_reads false entries x out next go = go tt

  own_node_reads : (needed : Bool) (at : Position) → Reads (own_node needed at)
  own_node_reads true at x out next go = asked_reaches (ReadNode at) x out (λ walked y o. next (reached walked) y o) (λ walked sound. go (reached walked))
  own_node_reads false at x out next go = go None

  shown_node_shows : (tree : TreeVersion) (answered : Bool) (q : Question) → IsPosition Two q.position → Shows IsShown (shown_node tree answered q)
  shown_node_shows tree true q at x out next go =
      asked_reaches (ReadNode q.position) x out (λ walked y o. next (Some (body_of tree q walked)) y o) (λ walked sound. go (Some (body_of tree q walked)) (body_obeys tree q walked at (sound at)))
  shown_node_shows tree false q at x out next go = go None tt

  accepted_may : (fact : Fact) → All (MaySend me) (accepted me fact)
  accepted_may fact = by_tests (nat_le 1 fact.leader) refl (nat_le fact.leader 31) refl (fact.leader == me) refl
    where
      by_tests : (a : Bool) → nat_le 1 fact.leader ≡ a → (b : Bool) → nat_le fact.leader 31 ≡ b → (c : Bool) → (fact.leader == me) ≡ c
          → All (MaySend me) (if a && b && not c then record { to = fact.leader; message = messages.Accepted fact.epoch 1 } ∷ [] else [])
      by_tests false low b high c other = All-nil (MaySend me)
      by_tests true low false high c other = All-nil (MaySend me)
      by_tests true low true high true other = All-nil (MaySend me)
      by_tests true low true high false other = one_may me _ ((leb-true 1 fact.leader low, leb-true fact.leader 31 high), apart fact.leader me other, tt)

  accepted_own_passes : (e : Election) → Passes (accepted_own me e)
  accepted_own_passes (Starting new accepts age) x out next good go = go (tasks.Phase phase_rules.EnoughAccepted ∷ []) (electing (Starting new (joined me accepts) age) x) out ((tt, good.0.1), good.1)
  accepted_own_passes (Preparing base promises asked age) x out next good go = go [] x out good

  accepted_in_passes : (fact : Fact) (phase : Phase) → Passes (accepted_in me fact phase)
  accepted_in_passes fact (phases.Electing e) x out next good go = accepted_own_passes e x out next good go
  accepted_in_passes fact (phases.Following f) x out next good go = go [] x (and_sends out (accepted me fact)) (good.0, and_sends_may me out (accepted me fact) good.1 (accepted_may fact))
  accepted_in_passes fact (phases.Probing p) x out next good go = go [] x out good
  accepted_in_passes fact (phases.Leading l) x out next good go = go [] x out good

  end_sync_passes : (r : Running) (entries : List Entry) → Passes (end_sync me r entries)
  end_sync_passes r entries x out next good go =
      installed_reads (needs_build r.sync.scan entries) entries (without_sync x) out
      (λ u y o. sealed_if (keeps_seal y) r.fact y o (λ v z p. accepted_in me r.fact z.phase (record z { trusted = true }) p next))
      (λ u. sealed_if_passes (keeps_seal (without_sync x)) r.fact (without_sync x) out (λ v z p. accepted_in me r.fact z.phase (record z { trusted = true }) p next) ((good.0.0, tt), good.1)
      (λ v z p fine. accepted_in_passes r.fact z.phase (record z { trusted = true }) p next fine go))

  by_outcome_passes : (r : Running) → AsksOthers me r → (outcome : Outcome) → Passes (by_outcome me r outcome)
  by_outcome_passes r asks Pending x out next good go = go [] (with_sync r x) out ((good.0.0, asks), good.1)
  by_outcome_passes r asks (Trusted entries) x out next good go = end_sync_passes r entries x out next good go

  go_on_passes : (r : Running × List Outgoing) → AsksOthers me r.0 → All (MaySend me) r.1 → Passes (go_on me r)
  go_on_passes r asks may x out next good go = by_outcome_passes r.0 asks (outcome_of r.0.sync) x (and_sends out r.1) next (good.0, and_sends_may me out r.1 good.1 may) go

  resumed_passes : (running : Option Running) → SyncsAs me running → Passes (resume_sync running)
  resumed_passes None is x out next good go = go [] x out good
  resumed_passes (Some r) is x out next good go =
      go [] (with_sync (row_resume r).0 x) (and_sends out (row_resume r).1) ((good.0.0, resumed_are me r is), and_sends_may me out (row_resume r).1 good.1 (resume_go me r is))

  followed_on_passes : (t : Then) → Passes (followed_on me t)
  followed_on_passes (thens.SyncOn fact) x out next good go =
      asked_reaches ScanTree x out (λ scan y o. go_on me (row_start fact me y.trusted scan) y o next)
      (λ scan sound. go_on_passes (row_start fact me x.trusted scan) (asks_are me (last_view fact.views)) (start_go fact me x.trusted scan) x out next good go)
  followed_on_passes thens.Resume x out next good go = resumed_passes x.sync good.0.1 x out next good go
  followed_on_passes (thens.Rule n) x out next good go = go (named (thens.Rule n)) x out good
  followed_on_passes (thens.OnKeys n) x out next good go = go [] x out good
  followed_on_passes thens.Stay x out next good go = go [] x out good
  followed_on_passes thens.Follow x out next good go = go [] x out good
  followed_on_passes (thens.Lead fact) x out next good go = go [] x out good
  followed_on_passes thens.Untrust x out next good go = go [] x out good
  followed_on_passes thens.Put x out next good go = go [] x out good

  take_give_passes : (tree : TreeVersion) (from : ℕ) (give : Give) (own : Option (List ℕ)) (running : Option Running) → give.question.position.level ≤ levels tree → SyncsAs me running → Passes (take_give tree me from give own running)
  take_give_passes tree from give own None at is x out next good go = go [] x out good
  take_give_passes tree from give own (Some r) at is x out next good go = go_on_passes (row_take tree from give own r) (taken_are tree me from give own r at is) (take_go tree me from give own r at is) x out next good go

  row_done_passes : (row : PhaseOut) → MayGo me row → Passes (row_done me row)
  row_done_passes row may x out next good go =
      saved_passes row.save (left row.leave x) (left_answers row.leave x out)
      (λ u y o. followed_on me row.then (turned me row.then y) (turned_answers row.then y (and_sends o (posted_to row.to row.message))) next)
      (left_own me row.leave x good.0, answered_may row.leave x out good.1)
      (λ u y o fine. followed_on_passes row.then (turned me row.then y) (turned_answers row.then y (and_sends o (posted_to row.to row.message))) next (
        turned_own me row.then y fine.0,
        answered_may (ends_leading row.then) y (and_sends o (posted_to row.to row.message)) (and_sends_may me o (posted_to row.to row.message) fine.1 (posted_to_may me row.to row.message may.1 may.0)),
      ) go)

  followed_up_passes : (own : Option Own) (turn : Then) (keys : List (List ℕ)) → Passes (followed_up me own turn keys)
  followed_up_passes None turn keys x out next good go =
      go (keyed turn keys) (turned me turn x) (turned_answers turn x out) (turned_own me turn x good.0, answered_may (ends_leading turn) x out good.1)
  followed_up_passes (Some own) turn keys x out next good go =
      owned_sees own x out (λ seen y o. next (tasks.Again (asked_by own) (own_key own) seen ∷ []) y o) (λ seen seal is. go (tasks.Again (asked_by own) (own_key own) seen ∷ []) (record x { seal = seal }) out good)

  lead_done_passes : (row : LeadOut) → All (MaySend me) row.sends → Passes (lead_done me row)
  lead_done_passes row may x out next good go =
      noted_reaches row.notes (followed_up me row.own row.then row.keys (left row.leave x) (and_row row x out) next)
      (followed_up_passes row.own row.then row.keys (left row.leave x) (and_row row x out) next
      (left_own me row.leave x good.0, and_sends_may me (and_answers (left_answers row.leave x out) row.answers) row.sends (answered_may row.leave x out good.1) may) go)

  lead_passes : (row : Leader → Leader × LeadOut) → IsLedAs me row → (phase : Phase) → LeadsAs me phase → Passes (lead row me phase)
  lead_passes row led (phases.Leading l) is x out next good go =
      let step = led l.leader is in lead_done_passes (row l.leader).1 step.1 (leading (with_leader (row l.leader).0 l) x) out next ((step.0, good.0.1), good.1) go
  lead_passes row led (phases.Following f) is x out next good go = go [] x out good
  lead_passes row led (phases.Probing p) is x out next good go = go [] x out good
  lead_passes row led (phases.Electing e) is x out next good go = go [] x out good

  reminded_passes : (phase : Phase) → LeadsAs me phase → Passes (reminded phase)
  reminded_passes (phases.Leading l) is x out next good go =
      go _ _ _ ((is, good.0.1), and_sends_may me out (ticks x.fact l) good.1 (may_as l.leader.me me _ is (ticks_may (end_of l.change) x.fact l.leader 31 (lit≤ tt))))
  reminded_passes (phases.Following f) is x out next good go = go [] x out good
  reminded_passes (phases.Probing p) is x out next good go = go [] x out good
  reminded_passes (phases.Electing e) is x out next good go = go [] x out good

  task_done_passes : (t : Task) → Passes (task_done me t)
  task_done_passes (tasks.Phase n) x out next good go =
      let row = phase_row_goes me peer n x good.0.0 in
      row_done_passes (phase_row n me x).1 row.1 (phase_row n me x).0 out next ((row.0, phase_row_syncs me n x good.0.1), good.1) go
  task_done_passes tasks.Remind x out next good go = reminded_passes x.phase good.0.0 x out next good go
  task_done_passes (tasks.Key n key) x out next good go = lead_passes (lead_row n key seens.Nothing) (key_led me n key seens.Nothing) x.phase good.0.0 x out next good go
  task_done_passes (tasks.Again n key seen) x out next good go = lead_passes (lead_row n key seen) (key_led me n key seen) x.phase good.0.0 x out next good go

  driven_passes : (n : ℕ) (ts : List Task) → Passes (driven me n ts)
  unfolding driven
  driven_passes zero ts x out next good go = go ts x out good
  driven_passes (suc n) [] x out next good go = go [] x out good
  driven_passes (suc n) (t ∷ ts) x out next good go =
      task_done_passes t x out (λ more y o. driven me n (more ++ ts) y o next) good (λ more y o fine. driven_passes n (more ++ ts) y o next fine go)

  led_in_passes : (phase : Phase) → LeadsAs me phase → Passes (led_in me phase)
  led_in_passes (phases.Leading l) is x out next good go =
      let tick = row_5_ticks (end_of (older l.change)) l.leader in
      lead_done_passes (row_5_calls x.fact l).1 (none_may me _ tick.sends) (leading (row_5_calls x.fact l).0 x) out (λ ts y o. next (ts ++ tasks.Remind ∷ []) y o) ((same_me _ _ me tick.me is, good.0.1), good.1)
      (λ ts y o fine. go (ts ++ tasks.Remind ∷ []) y o fine)
  led_in_passes (phases.Following f) is x out next good go = go [] x out good
  led_in_passes (phases.Probing p) is x out next good go = go [] x out good
  led_in_passes (phases.Electing e) is x out next good go = go [] x out good

  ticked_passes : (phase : Phase) → LeadsAs me phase → Passes (ticked me phase)
  ticked_passes phase is x out next good go =
      let row = aged_goes me peer phase x good.0.0 in
      if_reaches (leads phase) _ _ (led_in_passes phase is x out next good go) (row_done_passes (aged phase me x).1 row.1 (aged phase me x).0 out next ((row.0, aged_syncs me phase x good.0.1), good.1) go)

  put_done_passes : (turn : Then) (from : ℕ) → from ≢ me → (ballot : Epoch) (o : Object) (row : PhaseOut) → MayGo me row → Passes (put_done turn me from ballot o row)
  put_done_passes thens.Put from other ballot o row may x out next good go =
      written_sees o x out (λ seen y p. row_done me (after_put from ballot row seen) y p next)
      (λ seen seal is. row_done_passes (after_put from ballot row seen) (after_put_may me peer from other ballot row seen is may) (record x { seal = seal }) out next good go)
  put_done_passes thens.Stay from other ballot o row may x out next good go = row_done_passes row may x out next good go
  put_done_passes thens.Follow from other ballot o row may x out next good go = row_done_passes row may x out next good go
  put_done_passes (thens.Lead fact) from other ballot o row may x out next good go = row_done_passes row may x out next good go
  put_done_passes thens.Untrust from other ballot o row may x out next good go = row_done_passes row may x out next good go
  put_done_passes thens.Resume from other ballot o row may x out next good go = row_done_passes row may x out next good go
  put_done_passes (thens.SyncOn fact) from other ballot o row may x out next good go = row_done_passes row may x out next good go
  put_done_passes (thens.Rule n) from other ballot o row may x out next good go = row_done_passes row may x out next good go
  put_done_passes (thens.OnKeys n) from other ballot o row may x out next good go = row_done_passes row may x out next good go

  -- a message about a node that the tree does not have does nothing
  in_tree_reaches : (has : Bool) (part : Part State (List Task)) (x : State) (out : Out) (next : Rest State (List Task)) → (has ≡ true → Reaches P (part x out next)) → Reaches P (next [] x out) → Reaches P (in_tree has part x out next)
  in_tree_reaches true part x out next inside outside = inside refl
  in_tree_reaches false part x out next inside outside = outside

  delivered_passes : (from : ℕ) → from ≢ me → (message : Message) → Obeys message → Passes (delivered me from message)
  delivered_passes from other (messages.Get ballot round key) obeys x out next good go =
      shown_sees (is_served x.fact x.trusted ballot) (looked key) (looked_sees key) x out (λ seen y o. row_done me (row_21 y.fact y.trusted from ballot round key seen) y o next)
      (λ seen is. row_done_passes (row_21 x.fact x.trusted from ballot round key seen) (row_21_may me peer from other x.fact x.trusted ballot round key seen is) x out next good go)
  delivered_passes from other (messages.Put ballot o) obeys x out next good go =
      shown_sees (is_served x.fact x.trusted ballot) (found o.key) (found_sees o.key) x out
      (λ seen y p. put_done (row_22 y.fact y.trusted from ballot o seen).then me from ballot o (row_22 y.fact y.trusted from ballot o seen) y p next)
      (λ seen is. put_done_passes (row_22 x.fact x.trusted from ballot o seen).then from other ballot o (row_22 x.fact x.trusted from ballot o seen) (row_22_may me peer from other x.fact x.trusted ballot o seen is) x out next good go)
  delivered_passes from other (messages.GetReply ballot round key entry object) obeys x out next good go =
      if_reaches (leads x.phase) _ _
      (confirmed_reads entry object x out (λ named y o. lead (row_29_reply from ballot round key entry named) me y.phase y o next)
      (λ named. lead_passes (row_29_reply from ballot round key entry named) (got_led me from ballot round key entry named) x.phase good.0.0 x out next good go))
      (go [] x out good)
  delivered_passes from other (messages.PutReply ballot key version) obeys x out next good go = lead_passes (row_35_reply from ballot key version) (put_led me from ballot key version) x.phase good.0.0 x out next good go
  delivered_passes from other (messages.CheckReply ballot round) obeys x out next good go = lead_passes (row_33_reply from ballot round) (checked_led me from ballot round) x.phase good.0.0 x out next good go
  delivered_passes from other (messages.TreeAsk ballot at after) obeys x out next good go =
      let q : Question = record { position = at; after = after } in
      in_tree_reaches (has_position x.mode.tree at) (got_ask me from ballot q) x out next
      (λ has. shown_node_shows x.mode.tree (is_same ballot x.fact.ballot) q obeys x out (λ body y o. row_done me (row_23 y.fact y.trusted from ballot q.position q.after body) y o next)
      (λ body is. row_done_passes (row_23 x.fact x.trusted from ballot at after body) (row_23_may me peer from other x.fact x.trusted ballot at after body obeys is) x out next good go))
      (go [] x out good)
  delivered_passes from other (messages.TreeGive ballot at after trusted body) obeys x out next good go =
      let give : Give = record { ballot = ballot; question = record { position = at; after = after }; trusted = trusted; body = body } in
      in_tree_reaches (has_position x.mode.tree at) (tree_give me from give) x out next
      (λ has. own_node_reads (needs_node x.mode.tree from give x.sync) at x out (λ own y o. take_give x.mode.tree me from give own y.sync y o next)
      (λ own. take_give_passes x.mode.tree from give own x.sync (has_level x.mode.tree at has) good.0.1 x out next good go))
      (go [] x out good)
  delivered_passes from other message obeys x out next good go =
      let row = received_goes me peer from message x other good.0.0 in
      row_done_passes (received me from message x).1 row.1 (received me from message x).0 out next ((row.0, received_syncs me from message x good.0.1), good.1) go

  first_passes : (event : Event) → MayCome me event → Passes (first me event)
  first_passes (events.Deliver from message) come x out next good go = delivered_passes from come.1 message come.2 x out next good go
  first_passes events.Tick come x out next good go = ticked_passes x.phase good.0.0 x out next good go
  first_passes (events.Call call) come x out next good go =
      if_reaches (leads x.phase) _ _
      (lead_passes (row_27 call.from call.id call.key call.command (changes x.phase)) (joined_led me call.from call.id call.key call.command (changes x.phase)) x.phase good.0.0 x out next good go)
      (go [] x (and_answers out (unavailable call ∷ [])) good)
  first_passes (events.Change view) come x out next good go =
      row_done_passes (asked_change view x).1.0 (asked_may me peer view x) (asked_change view x).0 _ next ((asked_as me view x good.0.0, asked_syncs me view x good.0.1), good.1) go

  -- what follows a row, until no task is left
  abbrev onward : Rest State (Unit {0}) → Rest State (List Task)
  onward next ts y o = driven me most_turns ts y o (λ rest z q. next tt z q)

  onward_goes : (next : Rest State (Unit {0})) → Goes next → Goes (onward next)
  onward_goes next go ts y o good = driven_passes most_turns ts y o (λ rest z q. next tt z q) good (λ rest z q fine. go tt z q fine)

  responded_passes : (event : Event) → MayCome me event → Passes (responded me event)
  responded_passes event come x out next good go = first_passes event come x out (onward next) good (onward_goes next go)

  concluded_passes : Passes (concluded me)
  concluded_passes x out next good go = task_done_passes (tasks.Phase phase_rules.EndEpoch) x out (onward next) good (onward_goes next go)

-- the messages of a step may be sent, and the peer still sends as itself
pub steps_keep : (me : ℕ) (event : Event) (x : State) → IsPeer me → MayCome me event → IsOwn me x → Reaches (λ y out. IsOwn me y × AllMayGo me out) (step_of me event x)
steps_keep me event x peer come own =
    let P : State → Out → Type 0 = λ y out. IsOwn me y × AllMayGo me out in
    responded_passes me peer P event come x nothing (λ u y o. concluded me y o (λ v z q. Done z q)) (own, All-nil (MaySend me))
    (λ u y o good. concluded_passes me peer P y o (λ v z q. Done z q) good (λ v z q fine. fine))

-- what holds at each end holds there if it follows
reaches_less : (P Q : State → Out → Type 0) → ((y : State) (o : Out) → P y o → Q y o) → (p : Plan State) → Reaches P p → Reaches Q p
reaches_less P Q less (Done x out) reaches = less x out reaches
reaches_less P Q less (Say note p) reaches = reaches_less P Q less p reaches
reaches_less P Q less (Ask call next) reaches = λ a sound. reaches_less P Q less (next a) (reaches a sound)

pub steps_send : (me : ℕ) (event : Event) (x : State) → IsPeer me → MayCome me event → IsOwn me x → Reaches (λ y out. AllMayGo me out) (step_of me event x)
steps_send me event x peer come own =
    let P : State → Out → Type 0 = λ y out. IsOwn me y × AllMayGo me out in
    let Q : State → Out → Type 0 = λ y out. AllMayGo me out in
    reaches_less P Q (λ y o good. good.1) (step_of me event x) (steps_keep me event x peer come own)

pub steps_own : (me : ℕ) (event : Event) (x : State) → IsPeer me → MayCome me event → IsOwn me x → Reaches (λ y out. IsOwn me y) (step_of me event x)
steps_own me event x peer come own =
    let P : State → Out → Type 0 = λ y out. IsOwn me y × AllMayGo me out in
    let Q : State → Out → Type 0 = λ y out. IsOwn me y in
    reaches_less P Q (λ y o good. good.0) (step_of me event x) (steps_keep me event x peer come own)

-- a run over stores whose answers are sound ends where the plan may end
pub ran_reaches : {S : Type 0} (does : S → (call : Call) → AnswerOf call → S → Type 0) (refuses : S → Call → PeerError → S → Type 0)
    → ((s : S) (call : Call) (a : AnswerOf call) (t : S) → does s call a t → IsSound call a) → (P : State → Out → Type 0)
    → (p : Plan State) (s : S) (ns : List Note) (x : State) (out : Out) (t : S) (ms : List Note) → Reaches P p → Runs does refuses p s ns (Finished x out) t ms → P x out
ran_reaches does refuses sound P (Done y more) s ns x out t ms reaches ran = elim ran [
  | inl cut ↦ let none : ⊥ = grind (arith, cut.0) in absurd none
  | inr end ↦ same_end P y x more out end.0 reaches
]
ran_reaches does refuses sound P (Say note p) s ns x out t ms reaches ran = elim ran [
  | inl cut ↦ let none : ⊥ = grind (arith, cut.0) in absurd none
  | inr on ↦ ran_reaches does refuses sound P p s (ns ++ note ∷ []) x out t ms reaches on
]
ran_reaches does refuses sound P (Ask call next) s ns x out t ms reaches ran = elim ran [
  | inl cut ↦ let none : ⊥ = grind (arith, cut.0) in absurd none
  | inr (inl off) ↦ let none : ⊥ = grind (arith, off.2) in absurd none
  | inr (inr on) ↦ ran_reaches does refuses sound P (next on.0) on.1 ns x out t ms (reaches on.0 (sound s call on.0 on.1 on.2)) on.3
]

-- after a step that ended well all messages in the outbox may be sent, if they might before
pub all_may_go : {A S : Type 0} (does : S → (call : Call) → AnswerOf call → S → Type 0) (refuses : S → Call → PeerError → S → Type 0)
    → ((s : S) (call : Call) (a : AnswerOf call) (t : S) → does s call a t → IsSound call a)
    → (me : ℕ) (event : Event) (x : State) → IsPeer me → MayCome me event → IsOwn me x → (s t : S) (y : State) (before after : Outbox)
    → (r : Result A PeerError) → Steps does refuses (step_of me event x) s before r y t after → OnOk r (AllMayGo me (out_of before) → AllMayGo me (out_of after))
all_may_go does refuses sound me event x peer come own s t y before after (Ok u) took = λ before_may.
    let sent = ran_reaches does refuses sound (λ z o. AllMayGo me o) (step_of me event x) s before.notes.items y took.out t after.notes.items (steps_send me event x peer come own) took.ran in
    rw took.sends (All-append (MaySend me) before.sends.items took.out.sends before_may sent)
all_may_go does refuses sound me event x peer come own s t y before after (Err e) took = tt

-- after a step that ended well, the peer still sends as itself
pub still_own : {A S : Type 0} (does : S → (call : Call) → AnswerOf call → S → Type 0) (refuses : S → Call → PeerError → S → Type 0)
    → ((s : S) (call : Call) (a : AnswerOf call) (t : S) → does s call a t → IsSound call a)
    → (me : ℕ) (event : Event) (x : State) → IsPeer me → MayCome me event → IsOwn me x → (s t : S) (y : State) (before after : Outbox)
    → (r : Result A PeerError) → Steps does refuses (step_of me event x) s before r y t after → OnOk r (IsOwn me y)
still_own does refuses sound me event x peer come own s t y before after (Ok u) took =
    ran_reaches does refuses sound (λ z o. IsOwn me z) (step_of me event x) s before.notes.items y took.out t after.notes.items (steps_own me event x peer come own) took.ran
still_own does refuses sound me event x peer come own s t y before after (Err e) took = tt
