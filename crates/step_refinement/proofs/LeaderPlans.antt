-- The rules of a leader in a plan: each ends in agreement, and leaves a list of tasks that fits.
use Rattle.std.specs.Prelude.{All, map}
use Rattle.std.proofs.Common.{◌≡◌, ◌⊎◌, inl, inr, ℕ, Bool, false, List, [], ◌∷◌, ◌++◌, append_assoc, append-nil, Option, None, sym, ap, subst, ◌∙◌}
use Rattle.std.proofs.lemmas.Bool.{true≢false}
use Rattle.std.proofs.lemmas.List.Elements.{All-nil}
use Rattle.protocol_laws.specs.Protocol.{State}
use Rattle.peer_refinement.specs.WorldSpec.{Held}
use Rattle.role_laws.specs.Tables.{Ghosts, Owed}
use Rattle.leader_refinement.specs.Follows.{GoesOn, Ends as LeaderEnds, Follows, NextFits, IsReadyFor}
use Rattle.leader_refinement.specs.Seen.{owed_after}
use Rattle.leader_output.specs.Outs.{leaves, comes}
use Rattle.leader_output.specs.declared.out.AnswerOut.{AnswerOut}
use Rattle.leader_output.specs.declared.out.LeadOut.{LeadOut}
use Rattle.leader_output.specs.declared.out.Outgoing.{Outgoing}
use Rattle.leader_output.specs.declared.out.Own.{Own}
use Rattle.leader.specs.Ticks.{left_answer}
use Rattle.leader.specs.declared.leader.Leader.{Leader}
use Rattle.peer_spec.specs.Drives.{followed_up, and_row, lead_done}
use Rattle.peer_state.specs.Moves.{follower, left, left_answers, untrusted, and_answers, leading, with_leader, turned, turned_answers}
use Rattle.peer_spec.specs.Syncs.{and_sends}
use Rattle.peer_state.specs.declared.state.Leadership.{Leadership}
use Rattle.peer_state.specs.declared.state.State.{State as PeerState}
use Rattle.register_model.specs.declared.note.Note.{Note}
use Rattle.step_plans.specs.Plans.{Plan, Out, Rest, noted}
use Rattle.step_plans.specs.Tasks.{keyed}
use Rattle.step_plans.specs.declared.tasks.Task.{Task}
use Rattle.step_plans.specs.declared.tasks.Task.TheVariants as tasks
use Rattle.phase_rows.specs.declared.phase.Then.{Then}
use Rattle.phase_rows.specs.declared.phase.Then.TheVariants as thens
use Rattle.step_refinement.proofs.CallByCall.{Ends, Onward}
use Rattle.step_refinement.specs.Scenes.{Scene, now, Here, AtRest}
use Rattle.step_refinement.proofs.LeadersAtWork.{led, stepped}
use Rattle.step_refinement.proofs.LostTrust.{untrusts}
use Rattle.step_refinement.proofs.LeaderMessages.{AskFits}
use Rattle.step_refinement.proofs.LeaderOutcomes.{NamesNext, IsCalmOut, IsTame, IsDamage}
use Rattle.step_refinement.proofs.LeaderTasks.{AreApart, AreIdle, idle_in_order, TasksFit, named_fits}

-- ## Outputs

abbrev out_of : List Outgoing → List AnswerOut → List Bool → Out
out_of sends answers changes = record { sends = sends; answers = answers; changes = changes }

out_same : (a b : List Outgoing) (x y : List AnswerOut) (changes : List Bool) → a ≡ b → x ≡ y → out_of a x changes ≡ out_of b y changes
out_same a b x y changes e f = λ i. record { sends = e i; answers = f i; changes = changes }

-- nothing is answered and sent
pub told_nothing : (out : Out) → and_sends (and_answers out []) [] ≡ out
told_nothing out = out_same (out.sends ++ []) out.sends (out.answers ++ []) out.answers out.changes (append-nil out.sends) (append-nil out.answers)

-- the answer of a rule that was shown damage
damage_is : (r : Leader × LeadOut) → IsDamage r → r.1 ≡ comes thens.Untrust
damage_is r is = λ i. record { leave = is.5 i; sends = is.2 i; answers = is.4 i; notes = is.3 i; own = is.1 i; then = is.0 i; keys = is.6 i }

module _ (c : Scene) where
  open c use {view, peer as p}

  -- notes are made, and then the plan goes on
  pub noted_ends : (ns : List Note) (plan mark : Plan PeerState) (h : Held) (notes : List Note) → Ends c plan mark h (notes ++ ns) → Ends c (noted ns plan) (noted ns mark) h notes
  noted_ends [] plan mark h notes goes = subst (λ more. Ends c plan mark h more) (append-nil notes) goes
  noted_ends (n ∷ ns) plan mark h notes goes = noted_ends ns plan mark h (notes ++ n ∷ []) (subst (λ more. Ends c plan mark h more) (sym (append_assoc notes (n ∷ []) ns)) goes)

  -- what follows these tasks, with those that wait
  abbrev pub There : List Task → List Task → List ℕ → PeerState → Held → Out → List Note → Type 0
  There ts more key x h out notes = TasksFit c (more ++ ts) key x h out notes

  -- ## What follows a rule of a leader that stays

  module _ (key : List ℕ) (l : Leadership) (x : PeerState) (r : Leader × LeadOut) (h : Held) where
    -- what comes next, after the rule has answered, sent and noted
    next_ends : (ts : List Task) (then : Then) (keys : List (List ℕ)) (o : Out) (more : List Note) → Here c key (leading (with_leader r.0 l) x) h o more → NamesNext then → NextFits key r.0 None then keys → IsReadyFor then key r.0 → AreApart key ts → AreIdle r.0 ts
        → (next mark : Rest PeerState (List Task)) → Onward c (There ts) next mark
        → Ends c (next (keyed then keys) (turned p then (leading (with_leader r.0 l) x)) (turned_answers then (leading (with_leader r.0 l) x) o)) (mark (keyed then keys) (turned p then (leading (with_leader r.0 l) x)) (turned_answers then (leading (with_leader r.0 l) x) o)) h more
    next_ends ts thens.Stay keys o more there named next_fits ready apart idle next mark go = go [] key (leading (with_leader r.0 l) x) h o more (inl ((there, next_fits.1), idle))
    next_ends ts (thens.OnKeys n) keys o more there named next_fits ready apart idle next mark go =
        subst (λ ks. Ends c (next (keyed (thens.OnKeys n) ks) (leading (with_leader r.0 l) x) o) (mark (keyed (thens.OnKeys n) ks) (leading (with_leader r.0 l) x) o) h more) (sym next_fits.0)
        (go (tasks.Key n key ∷ []) key (leading (with_leader r.0 l) x) h o more (inr (named_fits c (with_leader r.0 l) x there ts apart idle n named next_fits.1 ready)))
    next_ends ts other keys o more there named next_fits ready apart idle next mark go = absurd named

    -- the plan after the notes, with what comes next
    abbrev pub Follow : LeadOut → Out → List Note → Rest PeerState (List Task) → Rest PeerState (List Task) → Type 0
    Follow o out notes next mark = Ends c (next (keyed o.then o.keys) (turned p o.then (leading (with_leader r.0 l) x)) (turned_answers o.then (leading (with_leader r.0 l) x) (and_sends (and_answers out o.answers) o.sends)))
        (mark (keyed o.then o.keys) (turned p o.then (leading (with_leader r.0 l) x)) (turned_answers o.then (leading (with_leader r.0 l) x) (and_sends (and_answers out o.answers) o.sends))) h (notes ++ o.notes)

    -- the plan of a leader that stays and asks no store
    pub stays_plan : (out : Out) (notes : List Note) → IsCalmOut r.1 → (next mark : Rest PeerState (List Task)) → Follow r.1 out notes next mark
        → Ends c (lead_done p r.1 (leading (with_leader r.0 l) x) out next) (lead_done p r.1 (leading (with_leader r.0 l) x) out mark) h notes
    stays_plan out notes calm next mark goes =
        noted_ends r.1.notes (followed_up p r.1.own r.1.then r.1.keys (left r.1.leave y) (and_row r.1 y out) next) (followed_up p r.1.own r.1.then r.1.keys (left r.1.leave y) (and_row r.1 y out) mark) h notes
        (subst (Plans r.1.own) (sym calm.leave) (subst (λ own. Plans own false) (sym calm.own) goes))
      where
        y : PeerState
        y = leading (with_leader r.0 l) x

        Plans : Option Own → Bool → Type 0
        Plans own leave = Ends c (followed_up p own r.1.then r.1.keys (left leave y) (and_sends (and_answers (left_answers leave y out) r.1.answers) r.1.sends) next)
            (followed_up p own r.1.then r.1.keys (left leave y) (and_sends (and_answers (left_answers leave y out) r.1.answers) r.1.sends) mark) h (notes ++ r.1.notes)

    -- a rule whose answer is calm ends well if the next one fits
    pub calm_plan : (ts : List Task) (out : Out) (notes : List Note) → IsCalmOut r.1 → Here c key (leading (with_leader r.0 l) x) h (and_sends (and_answers out r.1.answers) r.1.sends) (notes ++ r.1.notes) → NextFits key r.0 r.1.own r.1.then r.1.keys → IsReadyFor r.1.then key r.0
        → AreApart key ts → AreIdle r.0 ts → (next mark : Rest PeerState (List Task)) → Onward c (There ts) next mark
        → Ends c (lead_done p r.1 (leading (with_leader r.0 l) x) out next) (lead_done p r.1 (leading (with_leader r.0 l) x) out mark) h notes
    calm_plan ts out notes calm there next_fits ready apart idle next mark go = stays_plan out notes calm next mark
        (next_ends ts r.1.then r.1.keys (and_sends (and_answers out r.1.answers) r.1.sends) (notes ++ r.1.notes) there calm.next (subst (λ own. NextFits key r.0 own r.1.then r.1.keys) calm.own next_fits) ready apart idle next mark go)

  -- ## A rule of a leader

  module _ {key : List ℕ} {h : Held} {out : Out} {notes : List Note} (l : Leadership) (x : PeerState) (here : Here c key (leading l x) h out notes) (r : Leader × LeadOut) where
    abbrev s : State
    s = now c here.reached

    abbrev g : Ghosts
    g = here.reached.ghosts

    abbrev owes : List Owed
    owes = owed_after [] out.answers

    -- what the peer is after a rule that is moves of the theory
    abbrev pub after_row : List ℕ → Type 0
    after_row k = Here c k (leading (with_leader r.0 l) x) h (and_sends (and_answers out r.1.answers) r.1.sends) (notes ++ r.1.notes)

    -- after a rule that is moves of the theory the peer is in agreement
    pub followed : (f : Follows g s key owes l.leader r) → All AskFits r.1.sends → after_row key
    followed f asks = led c l x here r f asks

    -- ## The leader steps down

    -- after a rule that answers, sends and notes nothing
    left_here : r.1.sends ≡ [] → r.1.answers ≡ [] → r.1.notes ≡ [] → GoesOn g s key owes l.leader r → Here c [] (record x { phase = follower }) h (and_answers out (map left_answer r.0.table.calls)) notes
    left_here no_sends no_answers no_notes (inl ends) = subst (λ answers. Here c [] (record x { phase = follower }) h (and_answers out answers) notes) (sym ends.calls) (stepped c l x here)
    left_here no_sends no_answers no_notes (inr f) = stepped c (with_leader r.0 l) x there
      where
        asks : All AskFits r.1.sends
        asks = subst (λ (sends : List Outgoing). All AskFits sends) (sym no_sends) (All-nil AskFits)

        quiet : Here c key (leading (with_leader r.0 l) x) h (and_sends (and_answers out []) []) (notes ++ [])
        quiet = subst (λ (sends : List Outgoing). Here c key (leading (with_leader r.0 l) x) h (and_sends (and_answers out []) sends) (notes ++ [])) no_sends
            (subst (λ (answers : List AnswerOut). Here c key (leading (with_leader r.0 l) x) h (and_sends (and_answers out answers) r.1.sends) (notes ++ [])) no_answers
            (subst (λ (more : List Note). Here c key (leading (with_leader r.0 l) x) h (and_sends (and_answers out r.1.answers) r.1.sends) (notes ++ more)) no_notes (followed f asks)))

        there : Here c key (leading (with_leader r.0 l) x) h out notes
        there = subst (λ (o : Out). Here c key (leading (with_leader r.0 l) x) h o notes) (told_nothing out) (subst (λ ns. Here c key (leading (with_leader r.0 l) x) h (and_sends (and_answers out []) []) ns) (append-nil notes) quiet)

    -- the plan of a leader that steps down
    pub leave_ends : (ts : List Task) → r.1 ≡ leaves → GoesOn g s key owes l.leader r → AreIdle r.0 ts → (next mark : Rest PeerState (List Task)) → Onward c (There ts) next mark
        → Ends c (lead_done p r.1 (leading (with_leader r.0 l) x) out next) (lead_done p r.1 (leading (with_leader r.0 l) x) out mark) h notes
    leave_ends ts is goes idle next mark go = subst (λ (o : LeadOut). Ends c (lead_done p o (leading (with_leader r.0 l) x) out next) (lead_done p o (leading (with_leader r.0 l) x) out mark) h notes) (sym is)
        (go [] [] (record x { phase = follower }) h (and_sends (and_answers (and_answers out (map left_answer r.0.table.calls)) []) []) notes (inl ((there, tt), idle_in_order r.0 ts idle)))
      where
        there : Here c [] (record x { phase = follower }) h (and_sends (and_answers (and_answers out (map left_answer r.0.table.calls)) []) []) notes
        there = subst (λ (o : Out). Here c [] (record x { phase = follower }) h o notes) (sym (told_nothing (and_answers out (map left_answer r.0.table.calls))))
            (left_here (ap (λ (o : LeadOut). o.sends) is) (ap (λ (o : LeadOut). o.answers) is) (ap (λ (o : LeadOut). o.notes) is) goes)

    -- the plan of a leader whose rule was shown damage: it steps down, and its peer no longer trusts its tree
    pub damage_ends : (ts : List Task) → IsDamage r → GoesOn g s key owes l.leader r → AreIdle r.0 ts → (next mark : Rest PeerState (List Task)) → Onward c (There ts) next mark
        → Ends c (lead_done p r.1 (leading (with_leader r.0 l) x) out next) (lead_done p r.1 (leading (with_leader r.0 l) x) out mark) h notes
    damage_ends ts is goes idle next mark go = subst (λ (o : LeadOut). Ends c (lead_done p o (leading (with_leader r.0 l) x) out next) (lead_done p o (leading (with_leader r.0 l) x) out mark) h notes) (sym (damage_is r is))
        (go [] [] (untrusted (record x { phase = follower })) h (and_answers (and_sends (and_answers out []) []) calls) notes (inl (there, idle_in_order r.0 ts idle)))
      where
        calls : List AnswerOut
        calls = map left_answer r.0.table.calls

        same_out : and_answers (and_answers out calls) [] ≡ and_answers (and_sends (and_answers out []) []) calls
        same_out = out_same out.sends (out.sends ++ []) ((out.answers ++ calls) ++ []) ((out.answers ++ []) ++ calls) out.changes (sym (append-nil out.sends))
            (append-nil (out.answers ++ calls) ∙ ap (λ (answers : List AnswerOut). answers ++ calls) (sym (append-nil out.answers)))

        there : AtRest c [] (untrusted (record x { phase = follower })) h (and_answers (and_sends (and_answers out []) []) calls) notes
        there = subst (λ (o : Out). AtRest c [] (untrusted (record x { phase = follower })) h o notes) same_out (untrusts c (left_here is.2 is.4 is.3 goes, tt))

    -- ## The leader stays

    -- a leader that stays does not end its term
    pub stays_on : r.1.leave ≡ false → NamesNext r.1.then → LeaderEnds l.leader r → ⊥
    stays_on leave next ends = by_why ends.why
      where
        by_why : (r.1 ≡ leaves) ⊎ (r.1 ≡ comes thens.Untrust) → ⊥
        by_why (inl is) = true≢false (sym (ap (λ (o : LeadOut). o.leave) is) ∙ leave)
        by_why (inr is) = subst (λ (o : LeadOut). NamesNext o.then) is next

    -- so its rule is moves of the theory
    pub stays_follows : r.1.leave ≡ false → NamesNext r.1.then → GoesOn g s key owes l.leader r → Follows g s key owes l.leader r
    stays_follows leave next (inl ends) = absurd (stays_on leave next ends)
    stays_follows leave next (inr f) = f

    -- the plan of a rule whose answer is tame
    pub tame_ends : (ts : List Task) → IsTame r.1 → GoesOn g s key owes l.leader r → AreApart key ts → AreIdle r.0 ts → (next mark : Rest PeerState (List Task)) → Onward c (There ts) next mark
        → Ends c (lead_done p r.1 (leading (with_leader r.0 l) x) out next) (lead_done p r.1 (leading (with_leader r.0 l) x) out mark) h notes
    tame_ends ts (inl is) goes apart idle next mark go = leave_ends ts is goes idle next mark go
    tame_ends ts (inr calm) goes apart idle next mark go = let f = stays_follows calm.leave calm.next goes in calm_plan key l x r h ts out notes calm (followed f calm.sends) f.next f.ready apart idle next mark go
