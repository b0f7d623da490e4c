-- The story of two peers over stores in memory meets the premises.
use lib.Count.{ones, ones_in}
use Rattle.std.proofs.Common.{◌≡◌, ◌<◌, ◌^◌, ◌++◌, ℕ, zero, suc, Bool, true, false, eq-eqb, if◌then◌else◌, List, [], ◌∷◌, append-nil, length, map, Some, arith, lit<, lit≤, refl, sym, ap, ◌∙◌, subst, inl, inr}
use Rattle.std.proofs.lemmas.Bool.Decides.{nat_tests}
use Rattle.std.proofs.lemmas.Bool.{and_parts, false≢true}
use Rattle.std.specs.Prelude.{◌&&◌, ◌==◌, nat_le, nat_lt}
use Rattle.call_table.specs.Rows.{row_at, with_known, with_stage, with_check, without_check, check_at as check_in_row}
use Rattle.call_table.specs.Tables.{rested, ended, without_due, late_put}
use Rattle.phase_rules.specs.Preparing.{starts}
use Rattle.ens_base.specs.Limits.{IsBytes}
use Rattle.ens_base.specs.Lists.{◌∈◌, AreDistinct}
use Rattle.ens_base.specs.declared.peer_words.PeerWords.{PeerWords}
use Rattle.fields.specs.Entries.{entry_at}
use Rattle.fields.specs.Strings.{key_at, value_at}
use Rattle.fields.specs.Versions.{epoch_at, version_at}
use Rattle.fields.specs.Views.{member_at, members_at, view_at, one_view_at, two_views_at, views_at}
use Rattle.stored_formats.specs.Objects.{held_at, content_at, object_at}
use Rattle.world_spec.specs.Walks.{walk}
use Rattle.leader_output.specs.Sends.{sent_up_to}
use Rattle.leader.specs.Ticks.{ticks_up_to}
use Rattle.md5.specs.Md5.{block_words, rounds, compress, hash_after, digest_bytes, md5}
use Rattle.stored_formats.specs.FactBytes.{added_at, change_at, fields_at, fact_at}
use Rattle.process_laws.proofs.GroupStory.{all_fine, all_of_two, is_of_two, no_clash, pair_view, story_distinct, story_few}
use Rattle.process_laws.specs.Moments.{Found, calls_of, peer_of, run_of, stores_found}
use Rattle.process_laws.specs.Premises.{AreFew}
use Rattle.process_laws.specs.GroupStory.{story, story_answers, story_calls}
use Rattle.process_laws.specs.GroupWitness.{nothing_found}
use Rattle.peer_spec.specs.Drives.{driven, most_turns, step_of}
use Rattle.peer_spec.specs.Starts.{start_of}
use Rattle.peer_server.specs.Starting.{served_mode}
use Rattle.peer_state.specs.declared.event.Event.TheVariants as events
use Rattle.peer_state.specs.declared.event.Event.{Event}
use Rattle.peer_state.specs.declared.state.State.{State}
use Rattle.quorums.specs.Rounds.{answered, begun, state_of}
use Rattle.register_model.specs.declared.call.Call.{Call}
use Rattle.tree_sync.specs.Asks.{asks_up_to}
use Rattle.lexemes.specs.Spelling.{IsAmong}
use Rattle.step_plans.specs.Plans.{Ending, Finished, Out, Stopped, nothing, asked}
use Rattle.step_plans.specs.Sends.{posted}
use Rattle.synctree.specs.Sixteen.{children_of, form_of}
use Rattle.tree_node.specs.Entries.{rest_at, next_at}
use Rattle.tree_node.specs.Nodes.{asked_at, inner_fields_at, inner_at, segment_fields_at, segment_at}
use Rattle.tree_node.specs.Positions.{level_at, index_at, position_at, any_position_at}
use Rattle.tree_node.specs.Repeats.{list_at}
use Rattle.peer_turns.specs.Deeds.{Deed, events_in}
use Rattle.peer_turns.specs.Turns.{event_of}
use Rattle.wire_frames.specs.Calls.{once_at, update_at, append_at, add_at, swap_at, over_at, arguments_at, call_at, value_reply_at, ok_reply_at, tagged_reply_at, reply_at}
use Rattle.wire_frames.specs.Frames.{frame_of, frame_spelling, second_version_of}
use Rattle.wire_frames.specs.Messages.{probe_reply_at, prepare_at, promise_at, nack_at, new_epoch_at, accepted_at, get_at, get_reply_at, put_at, put_reply_at, check_at, check_reply_at, tree_ask_at, tree_give_at, commit_at, beat_at, call_frame_at, answer_frame_at, late_message_at, message_at}
use Rattle.wire_frames.specs.Parts.{flag_at, optional_at, option_key_at, children_at, page_at, inner_body_at, page_body_at, damaged_body_at, body_at, greater_at, damaged_at, cause_at}
use Rattle.wire_frames.specs.declared.message.Message.TheVariants.{CallFrame}
use Rattle.world_spec.specs.HeldRuns.{Ended, run}
use Rattle.world_spec.specs.Held.{Held}
use Rattle.world_spec.specs.HeldLaws.{held_with}
use Rattle.process_laws.proofs.LoneGroup.{ended as comes_to, runs_so}
use Rattle.process_laws.proofs.Places.{for_both}
use Rattle.process_laws.proofs.Serving.{deeds_of_steps}
use Rattle.process_laws.specs.Acts.{Act, Life, Spoil, Stage, Step, act_of, actor, acts_of, and_stages, answers_from, group_of, later_acts, moment_of, own_acts, steps}
use Rattle.process_laws.specs.Joined.{ArePutOut}
use Rattle.process_laws.specs.Lives.{AreLives, HasLived, IsOccasion, Leads}
use Rattle.process_laws.specs.Story.{after_start, before_kill, deeds_on, first_lives, found_by_second, in_turn, left_after, out_of, own_events, second_lives, start_on, two_peers}
use Rattle.process_laws.specs.ProcessWitness.{AreInMemory, fact_in_memory, memory_does, memory_holds, memory_refuses, memory_spoils}

-- ## A process that takes steps on some events

abbrev Led : List ℕ → ℕ → State → Held → List Stage → State → Held → Type 0
Led view p x s stages y t = Leads memory_does memory_refuses memory_spoils memory_holds fact_in_memory view p x s stages y t

abbrev Lived : List ℕ → ℕ → Life → Type 0
Lived view p life = HasLived memory_does memory_refuses memory_spoils memory_holds fact_in_memory view p life

-- whether all steps come to their ends
abbrev all_finish : ℕ → List Event → Ending State → Held → Bool
all_finish p [] (Finished x out) s = true
all_finish p (event ∷ events) (Finished x out) s = let e : Ended State = run (step_of p event x) s [] in all_finish p events e.ending e.held
all_finish p events (Stopped error) s = false

-- they lead from the state in which they begin
record Went (view : List ℕ) (p : ℕ) (events : List Event) (ending : Ending State) (s : Held) : Type 0 where
  from : State
  out : Out
  is : ending ≡ Finished from out
  to : State
  leads : Led view p from s (steps (deeds_on p events ending s)) to (left_after p events ending s)

-- a run that ended well
ends_so : (e : Ended State) (z : State) (out : Out) → e.ending ≡ Finished z out → e ≡ comes_to z (out_of e.ending) e.held e.notes
ends_so e z out is = ap (λ (ending : Ending State). let r : Ended State = record { ending = ending; held = e.held; notes = e.notes } in r) (is ∙ ap (λ (o : Out). Finished z o) (sym (ap out_of is)))

went : (view : List ℕ) (p : ℕ) (events : List Event) (ending : Ending State) (s : Held) → all_finish p events ending s ≡ true → Went view p events ending s
went view p [] (Finished x out) s fine = record { from = x; out = out; is = refl; to = x; leads = (refl, refl) }
went view p [] (Stopped error) s fine = absurd (false≢true fine)
went view p (event ∷ events) (Stopped error) s fine = absurd (false≢true fine)
went view p (event ∷ events) (Finished x out) s fine = more (went view p events e.ending e.held fine)
  where
    e : Ended State
    e = run (step_of p event x) s []

    more : Went view p events e.ending e.held → Went view p (event ∷ events) (Finished x out) s
    more next = record { from = x; out = out; is = refl; to = next.to; leads = (next.from, e.held, runs_so (step_of p event x) s e.held [] e.notes next.from (out_of e.ending) (ends_so e next.from next.out next.is), next.leads) }

-- the events of the steps are these
of_events : (p : ℕ) (events : List Event) (ending : Ending State) (s : Held) (event : Event) → event ∈ events_in (deeds_on p events ending s) → event ∈ events
of_events p [] ending s event none = absurd none
of_events p (e ∷ events) (Stopped error) s event none = absurd none
of_events p (e ∷ events) (Finished x out) s event (inl same) = inl same
of_events p (e ∷ events) (Finished x out) s event (inr at) = let end : Ended State = run (step_of p e x) s [] in inr (of_events p events end.ending end.held event at)

-- each event is a tick, or comes in a frame
abbrev AreHeard : ℕ → List Event → Type 0
AreHeard p [] = Unit {0}
AreHeard p (event ∷ events) = IsOccasion p event × AreHeard p events

heard_in : (p : ℕ) (events : List Event) → AreHeard p events → (event : Event) → event ∈ events → IsOccasion p event
heard_in p [] heard event none = absurd none
heard_in p (e ∷ events) heard event (inl same) = subst (IsOccasion p) (sym same) heard.0
heard_in p (e ∷ events) heard event (inr at) = heard_in p events heard.1 event at

-- a life, and the fact that it leaves
abbrev LivesOn : List ℕ → ℕ → Found → List Event → Ended State → Type 0
LivesOn view p found events e = (lived : Lived view p (record { found = found; stages = steps (deeds_on p events e.ending e.held) })) × (fact_in_memory lived.left ≡ fact_in_memory (left_after p events e.ending e.held))

lives_on : (view : List ℕ) (p : ℕ) (found : Found) (events : List Event) (x : State) (s : Held) → start_on view found ≡ comes_to x nothing s [] → all_finish p events (Finished x nothing) s ≡ true → AreHeard p events → LivesOn view p found events (start_on view found)
lives_on view p found events x s start fine heard = subst (LivesOn view p found events) (sym start) (lived, refl)
  where
    w : Went view p events (Finished x nothing) s
    w = went view p events (Finished x nothing) s fine

    same : w.from ≡ x
    same = by (Finished x nothing) w.from w.out w.is
      where
        state_of : Ending State → State
        state_of (Finished y out) = y
        state_of (Stopped error) = x

        by : (ending : Ending State) (y : State) (out : Out) → ending ≡ Finished y out → y ≡ state_of ending
        by ending y out is = sym (ap state_of is)

    lived : Lived view p (record { found = found; stages = steps (deeds_on p events (Finished x nothing) s) })
    lived = record {
      opened = held_with (stores_found found) [];
      finds = refl;
      first = x;
      started = s;
      starts = runs_so (start_of served_mode view) (held_with (stores_found found) []) s [] [] x nothing start;
      last = w.to;
      left = left_after p events (Finished x nothing) s;
      leads = subst (λ (y : State). Led view p y s (steps (deeds_on p events (Finished x nothing) s)) w.to (left_after p events (Finished x nothing) s)) same w.leads;
      events = λ event at. heard_in p events heard event (of_events p events (Finished x nothing) s event (subst (λ (ds : List Deed). event ∈ events_in ds) (deeds_of_steps (deeds_on p events (Finished x nothing) s)) at));
    }

-- ## Frames

abbrev words : ℕ → PeerWords
words p = record { me = p; peers = 2; port = 1; turns = 1; view = 1 ∷ 2 ∷ [] }

-- the frame in which an event comes to a peer
abbrev bytes_for : ℕ → Event → List ℕ
bytes_for p (events.Deliver from message) = frame_spelling (record { from = from; to = p; message = message })
bytes_for p (events.Call c) = frame_spelling (record { from = c.from; to = p; message = CallFrame c.id c.key c.command })
bytes_for p event = []

abbrev all_below : List ℕ → Bool
all_below [] = true
all_below (b ∷ bytes) = nat_lt b 256 && all_below bytes

are_bytes : (bytes : List ℕ) → all_below bytes ≡ true → IsBytes bytes
are_bytes [] below i = lit< tt
are_bytes (b ∷ bytes) below zero = let less : nat_lt b 256 ≡ true = (and_parts (nat_lt b 256) (all_below bytes) below).0 in grind (arith, nat_tests, less)
are_bytes (b ∷ bytes) below (suc i) = are_bytes bytes (and_parts (nat_lt b 256) (all_below bytes) below).1 i

heard : (p : ℕ) (event : Event) → (words p).me ≡ p → all_below (bytes_for p event) ≡ true → event_of (words p) (Some (bytes_for p event)) ≡ Some event → IsOccasion p event
heard p event me below reads = inr (inl (words p, bytes_for p event, me, are_bytes (bytes_for p event) below, reads))

-- ## The lives

heard_first : AreHeard 1 (own_events 1 story.moments)
unfolding walk driven most_turns form_of children_of block_words rounds compress hash_after digest_bytes md5 asked posted starts rested ended without_due late_put row_at with_known with_stage with_check check_in_row without_check level_at index_at position_at any_position_at list_at rest_at next_at asked_at inner_fields_at inner_at segment_fields_at segment_at answered begun state_of epoch_at version_at entry_at key_at value_at held_at content_at object_at sent_up_to ticks_up_to asks_up_to ones ones_in flag_at optional_at option_key_at children_at page_at inner_body_at page_body_at damaged_body_at body_at greater_at damaged_at cause_at once_at update_at append_at add_at swap_at over_at arguments_at call_at value_reply_at ok_reply_at tagged_reply_at reply_at second_version_of frame_of probe_reply_at prepare_at promise_at nack_at new_epoch_at accepted_at get_at get_reply_at put_at put_reply_at check_at check_reply_at tree_ask_at tree_give_at commit_at beat_at call_frame_at answer_frame_at late_message_at message_at added_at change_at fields_at fact_at member_at members_at view_at one_view_at two_views_at views_at
heard_first = (inl refl, (inl refl, (inl refl, (inl refl, (inl refl, (inl refl, (heard 1 _ refl refl refl, (heard 1 _ refl refl refl, (heard 1 _ refl refl refl, (heard 1 _ refl refl refl, (heard 1 _ refl refl refl, (heard 1 _ refl refl refl, (heard 1 _ refl refl refl, (heard 1 _ refl refl refl, tt))))))))))))))

heard_second : AreHeard 2 (own_events 2 before_kill)
unfolding walk driven most_turns form_of children_of block_words rounds compress hash_after digest_bytes md5 asked posted starts rested ended without_due late_put row_at with_known with_stage with_check check_in_row without_check level_at index_at position_at any_position_at list_at rest_at next_at asked_at inner_fields_at inner_at segment_fields_at segment_at answered begun state_of epoch_at version_at entry_at key_at value_at held_at content_at object_at sent_up_to ticks_up_to asks_up_to ones ones_in flag_at optional_at option_key_at children_at page_at inner_body_at page_body_at damaged_body_at body_at greater_at damaged_at cause_at once_at update_at append_at add_at swap_at over_at arguments_at call_at value_reply_at ok_reply_at tagged_reply_at reply_at second_version_of frame_of probe_reply_at prepare_at promise_at nack_at new_epoch_at accepted_at get_at get_reply_at put_at put_reply_at check_at check_reply_at tree_ask_at tree_give_at commit_at beat_at call_frame_at answer_frame_at late_message_at message_at added_at change_at fields_at fact_at member_at members_at view_at one_view_at two_views_at views_at
heard_second = (heard 2 _ refl refl refl, (heard 2 _ refl refl refl, (heard 2 _ refl refl refl, (heard 2 _ refl refl refl, (heard 2 _ refl refl refl, tt)))))

heard_third : AreHeard 2 (own_events 2 after_start)
unfolding walk driven most_turns form_of children_of block_words rounds compress hash_after digest_bytes md5 asked posted starts rested ended without_due late_put row_at with_known with_stage with_check check_in_row without_check level_at index_at position_at any_position_at list_at rest_at next_at asked_at inner_fields_at inner_at segment_fields_at segment_at answered begun state_of epoch_at version_at entry_at key_at value_at held_at content_at object_at sent_up_to ticks_up_to asks_up_to ones ones_in flag_at optional_at option_key_at children_at page_at inner_body_at page_body_at damaged_body_at body_at greater_at damaged_at cause_at once_at update_at append_at add_at swap_at over_at arguments_at call_at value_reply_at ok_reply_at tagged_reply_at reply_at second_version_of frame_of probe_reply_at prepare_at promise_at nack_at new_epoch_at accepted_at get_at get_reply_at put_at put_reply_at check_at check_reply_at tree_ask_at tree_give_at commit_at beat_at call_frame_at answer_frame_at late_message_at message_at added_at change_at fields_at fact_at member_at members_at view_at one_view_at two_views_at views_at
heard_third = (heard 2 _ refl refl refl, tt)

first_life : LivesOn story.view 1 nothing_found (own_events 1 story.moments) (start_on story.view nothing_found)
unfolding walk driven most_turns form_of children_of block_words rounds compress hash_after digest_bytes md5 asked posted starts rested ended without_due late_put row_at with_known with_stage with_check check_in_row without_check level_at index_at position_at any_position_at list_at rest_at next_at asked_at inner_fields_at inner_at segment_fields_at segment_at answered begun state_of epoch_at version_at entry_at key_at value_at held_at content_at object_at sent_up_to ticks_up_to asks_up_to ones ones_in
first_life = lives_on story.view 1 nothing_found (own_events 1 story.moments) _ _ refl refl heard_first

second_life : LivesOn story.view 2 nothing_found (own_events 2 before_kill) (start_on story.view nothing_found)
unfolding walk driven most_turns form_of children_of block_words rounds compress hash_after digest_bytes md5 asked posted starts rested ended without_due late_put row_at with_known with_stage with_check check_in_row without_check level_at index_at position_at any_position_at list_at rest_at next_at asked_at inner_fields_at inner_at segment_fields_at segment_at answered begun state_of epoch_at version_at entry_at key_at value_at held_at content_at object_at sent_up_to ticks_up_to asks_up_to ones ones_in
second_life = lives_on story.view 2 nothing_found (own_events 2 before_kill) _ _ refl refl heard_second

third_life : LivesOn story.view 2 found_by_second (own_events 2 after_start) (start_on story.view found_by_second)
unfolding walk driven most_turns form_of children_of block_words rounds compress hash_after digest_bytes md5 asked posted starts rested ended without_due late_put row_at with_known with_stage with_check check_in_row without_check level_at index_at position_at any_position_at list_at rest_at next_at asked_at inner_fields_at inner_at segment_fields_at segment_at answered begun state_of epoch_at version_at entry_at key_at value_at held_at content_at object_at sent_up_to ticks_up_to asks_up_to ones ones_in
third_life = lives_on story.view 2 found_by_second (own_events 2 after_start) _ _ refl refl heard_third

abbrev Lives : ℕ → List Life → Type 0
Lives p lives = AreLives memory_does memory_refuses memory_spoils memory_holds fact_in_memory story.view p lives

first_lived : Lives 1 first_lives
first_lived = (refl, first_life.0, tt)

second_lived : Lives 2 second_lives
second_lived = (refl, second_life.0, (sym second_life.1, third_life.0, tt))

-- ## The premises

of_two_acts : (acts : List Act) → all_of_two (map moment_of acts) ≡ true → (a : Act) → a ∈ acts → IsAmong 2 (actor a)
of_two_acts [] are a none = absurd none
of_two_acts (b ∷ acts) are a (inl same) = subst (λ (c : Act). IsAmong 2 (actor c)) (sym same) (is_of_two (actor b) (and_parts (nat_le 1 (actor b) && nat_le (actor b) 2) (all_of_two (map moment_of acts)) are).0)
of_two_acts (b ∷ acts) are a (inr at) = of_two_acts acts (and_parts (nat_le 1 (actor b) && nat_le (actor b) 2) (all_of_two (map moment_of acts)) are).1 a at

of_two : all_of_two (map moment_of two_peers.acts) ≡ true
unfolding walk driven most_turns form_of children_of block_words rounds compress hash_after digest_bytes md5 asked posted starts rested ended without_due late_put row_at with_known with_stage with_check check_in_row without_check level_at index_at position_at any_position_at list_at rest_at next_at asked_at inner_fields_at inner_at segment_fields_at segment_at answered begun state_of epoch_at version_at entry_at key_at value_at held_at content_at object_at sent_up_to ticks_up_to asks_up_to ones ones_in
of_two = refl

many : length two_peers.acts ≡ 24
unfolding walk driven most_turns form_of children_of block_words rounds compress hash_after digest_bytes md5 asked posted starts rested ended without_due late_put row_at with_known with_stage with_check check_in_row without_check level_at index_at position_at any_position_at list_at rest_at next_at asked_at inner_fields_at inner_at segment_fields_at segment_at answered begun state_of epoch_at version_at entry_at key_at value_at held_at content_at object_at sent_up_to ticks_up_to asks_up_to ones ones_in
many = refl

-- all acts of some lives are those of their peer
abbrev AreOf : ℕ → List Act → Type 0
AreOf p acts = (a : Act) → a ∈ acts → actor a ≡ p

act_is : (p : ℕ) (stage : Stage) → actor (act_of p stage) ≡ p
act_is p (Step d) = refl
act_is p (Spoil nodes objects) = refl

stages_are : (p : ℕ) (stages : List Stage) (rest : List Act) → AreOf p rest → AreOf p (and_stages p stages rest)
stages_are p [] rest are a (inl is) = ap actor is
stages_are p [] rest are a (inr at) = are a at
stages_are p (s ∷ stages) rest are a (inl is) = ap actor is ∙ act_is p s
stages_are p (s ∷ stages) rest are a (inr at) = stages_are p stages rest are a at

later_are : (p : ℕ) (lives : List Life) → AreOf p (later_acts p lives)
later_are p [] a none = absurd none
later_are p (l ∷ lives) a (inl is) = ap actor is
later_are p (l ∷ lives) a (inr at) = stages_are p l.stages (later_acts p lives) (later_are p lives) a at

all_are : (p : ℕ) (lives : List Life) → AreOf p (acts_of p lives)
all_are p [] a none = absurd none
all_are p (l ∷ lives) a at = stages_are p l.stages (later_acts p lives) (later_are p lives) a at

-- the acts of a peer among its own, and among those of another one
own_here : (p : ℕ) (a : Act) (acts : List Act) → actor a ≡ p → own_acts p (a ∷ acts) ≡ a ∷ own_acts p acts
own_here p a acts is = ap (λ (b : Bool). if b then a ∷ own_acts p acts else own_acts p acts) (eq-eqb (actor a) p is)

own_skip : (p q : ℕ) (a : Act) (acts : List Act) → (q == p) ≡ false → actor a ≡ q → own_acts p (a ∷ acts) ≡ own_acts p acts
own_skip p q a acts apart is = ap (λ (b : Bool). if b then a ∷ own_acts p acts else own_acts p acts) (ap (λ (r : ℕ). r == p) is ∙ apart)

own_is : (p : ℕ) (acts : List Act) → AreOf p acts → own_acts p acts ≡ acts
own_is p [] are = refl
own_is p (a ∷ acts) are = own_here p a acts (are a (inl refl)) ∙ ap (λ (rest : List Act). a ∷ rest) (own_is p acts (λ c at. are c (inr at)))

own_none : (p q : ℕ) (acts : List Act) → (q == p) ≡ false → AreOf q acts → own_acts p acts ≡ []
own_none p q [] apart are = refl
own_none p q (a ∷ acts) apart are = own_skip p q a acts apart (are a (inl refl)) ∙ own_none p q acts apart (λ c at. are c (inr at))

own_append : (p : ℕ) (xs ys : List Act) → own_acts p (xs ++ ys) ≡ own_acts p xs ++ own_acts p ys
own_append p [] ys = refl
own_append p (x ∷ xs) ys = by (actor x == p) (own_append p xs ys)
  where
    by : (b : Bool) → own_acts p (xs ++ ys) ≡ own_acts p xs ++ own_acts p ys → (if b then x ∷ own_acts p (xs ++ ys) else own_acts p (xs ++ ys)) ≡ (if b then x ∷ own_acts p xs else own_acts p xs) ++ own_acts p ys
    by true rest = ap (λ (acts : List Act). x ∷ acts) rest
    by false rest = rest

-- acts that are taken in turn are in their orders
first_of : (first second : List Act) → AreOf 1 first → AreOf 2 second → own_acts 1 (first ++ second) ≡ first
first_of first second one two = own_append 1 first second ∙ ap (λ (acts : List Act). acts ++ own_acts 1 second) (own_is 1 first one) ∙ ap (λ (acts : List Act). first ++ acts) (own_none 1 2 second refl two) ∙ append-nil first

second_of : (first second : List Act) → AreOf 1 first → AreOf 2 second → own_acts 2 (first ++ second) ≡ second
second_of first second one two = own_append 2 first second ∙ ap (λ (acts : List Act). acts ++ own_acts 2 second) (own_none 2 1 first refl one) ∙ own_is 2 second two

first_in_turn : (order : List ℕ) (first second : List Act) → AreOf 1 first → AreOf 2 second → own_acts 1 (in_turn order first second) ≡ first
first_in_turn [] first second one two = first_of first second one two
first_in_turn (p ∷ order) [] second one two = first_of [] second one two
first_in_turn (p ∷ order) (a ∷ first) [] one two = first_of (a ∷ first) [] one two
first_in_turn (p ∷ order) (a ∷ first) (b ∷ second) one two = by (p == 1) (first_in_turn order first (b ∷ second) (λ c at. one c (inr at)) two) (first_in_turn order (a ∷ first) second one (λ c at. two c (inr at)))
  where
    by : (c : Bool) → own_acts 1 (in_turn order first (b ∷ second)) ≡ first → own_acts 1 (in_turn order (a ∷ first) second) ≡ a ∷ first → own_acts 1 (if c then a ∷ in_turn order first (b ∷ second) else b ∷ in_turn order (a ∷ first) second) ≡ a ∷ first
    by true here later = own_here 1 a (in_turn order first (b ∷ second)) (one a (inl refl)) ∙ ap (λ (acts : List Act). a ∷ acts) here
    by false here later = own_skip 1 2 b (in_turn order (a ∷ first) second) refl (two b (inl refl)) ∙ later

second_in_turn : (order : List ℕ) (first second : List Act) → AreOf 1 first → AreOf 2 second → own_acts 2 (in_turn order first second) ≡ second
second_in_turn [] first second one two = second_of first second one two
second_in_turn (p ∷ order) [] second one two = second_of [] second one two
second_in_turn (p ∷ order) (a ∷ first) [] one two = second_of (a ∷ first) [] one two
second_in_turn (p ∷ order) (a ∷ first) (b ∷ second) one two = by (p == 1) (second_in_turn order first (b ∷ second) (λ c at. one c (inr at)) two) (second_in_turn order (a ∷ first) second one (λ c at. two c (inr at)))
  where
    by : (c : Bool) → own_acts 2 (in_turn order first (b ∷ second)) ≡ b ∷ second → own_acts 2 (in_turn order (a ∷ first) second) ≡ second → own_acts 2 (if c then a ∷ in_turn order first (b ∷ second) else b ∷ in_turn order (a ∷ first) second) ≡ b ∷ second
    by true here later = own_skip 2 1 a (in_turn order first (b ∷ second)) refl (one a (inl refl)) ∙ here
    by false here later = own_here 2 b (in_turn order (a ∷ first) second) (two b (inl refl)) ∙ ap (λ (acts : List Act). b ∷ acts) later

first_in_order : own_acts 1 two_peers.acts ≡ acts_of 1 first_lives
first_in_order = first_in_turn (map peer_of story.moments) (acts_of 1 first_lives) (acts_of 2 second_lives) (all_are 1 first_lives) (all_are 2 second_lives)

second_in_order : own_acts 2 two_peers.acts ≡ acts_of 2 second_lives
second_in_order = second_in_turn (map peer_of story.moments) (acts_of 1 first_lives) (acts_of 2 second_lives) (all_are 1 first_lives) (all_are 2 second_lives)

put_out : ArePutOut [] two_peers.acts
unfolding walk driven most_turns form_of children_of block_words rounds compress hash_after digest_bytes md5 asked posted starts rested ended without_due late_put row_at with_known with_stage with_check check_in_row without_check level_at index_at position_at any_position_at list_at rest_at next_at asked_at inner_fields_at inner_at segment_fields_at segment_at answered begun state_of epoch_at version_at entry_at key_at value_at held_at content_at object_at sent_up_to ticks_up_to asks_up_to ones ones_in
put_out = (tt, (tt, (tt, (tt, (tt, (tt, (inl refl, (inr (inl refl), (inr (inr (inl refl)), (inr (inr (inr (inl refl))), (inr (inr (inr (inr (inl refl)))), (inr (inr (inr (inr (inr (inl refl))))), (tt, (inr (inr (inr (inr (inr (inr (inl refl)))))), (inr (inr (inr (inr (inr (inr (inr (inl refl))))))), (inr (inr (inr (inr (inr (inr (inr (inr (inl refl)))))))), (inr (inr (inr (inr (inr (inr (inr (inr (inr (inl refl))))))))), (tt, (tt, (tt, (inr (inr (inr (inr (inr (inr (inr (inr (inr (inr (inl refl)))))))))), (inr (inr (inr (inr (inr (inr (inr (inr (inr (inr (inr (inl refl))))))))))), (tt, (tt, tt))))))))))))))))))))))))

called : calls_of (group_of two_peers) ≡ story_calls
unfolding walk driven most_turns form_of children_of block_words rounds compress hash_after digest_bytes md5 asked posted starts rested ended without_due late_put row_at with_known with_stage with_check check_in_row without_check level_at index_at position_at any_position_at list_at rest_at next_at asked_at inner_fields_at inner_at segment_fields_at segment_at answered begun state_of epoch_at version_at entry_at key_at value_at held_at content_at object_at sent_up_to ticks_up_to asks_up_to ones ones_in
called = refl

fine : all_fine (run_of (group_of two_peers)).hashed (run_of (group_of two_peers)).hashed ≡ true
unfolding walk driven most_turns form_of children_of block_words rounds compress hash_after digest_bytes md5 asked posted starts rested ended without_due late_put row_at with_known with_stage with_check check_in_row without_check level_at index_at position_at any_position_at list_at rest_at next_at asked_at inner_fields_at inner_at segment_fields_at segment_at answered begun state_of epoch_at version_at entry_at key_at value_at held_at content_at object_at sent_up_to ticks_up_to asks_up_to ones ones_in
fine = refl

pub two_answered : answers_from 1 two_peers.acts ≡ story_answers
unfolding walk driven most_turns form_of children_of block_words rounds compress hash_after digest_bytes md5 asked posted starts rested ended without_due late_put row_at with_known with_stage with_check check_in_row without_check level_at index_at position_at any_position_at list_at rest_at next_at asked_at inner_fields_at inner_at segment_fields_at segment_at answered begun state_of epoch_at version_at entry_at key_at value_at held_at content_at object_at sent_up_to ticks_up_to asks_up_to ones ones_in
two_answered = refl

pub two_joined : AreInMemory two_peers
two_joined = record {
  few_peers = lit≤ tt;
  is_view = pair_view;
  few_acts = subst (λ (n : ℕ). n < 2 ^ 64) (sym many) (lit< tt);
  few_calls = subst AreFew (sym called) story_few;
  of_peers = of_two_acts two_peers.acts of_two;
  lived = for_both (λ p. Lives p (two_peers.lives p)) first_lived second_lived;
  in_order = for_both (λ p. own_acts p two_peers.acts ≡ acts_of p (two_peers.lives p)) first_in_order second_in_order;
  messages_were_sent = put_out;
  distinct_calls = subst (λ (calls : List Call). AreDistinct (map (λ (c : Call). c.id) calls)) (sym called) story_distinct;
  no_clash = no_clash (run_of (group_of two_peers)).hashed fine;
}
