-- While calls are served: the world after a step of another member on a request of the leader.
use Rattle.std.proofs.Common.{◌≡◌, ◌==◌, inl, inr, refl, ap, sym, ◌∙◌, subst, ℕ, Bool, true, false, List, map, Option, None, Some}
use Rattle.std.specs.Prelude.{◌≢◌, slice_get, if◌then◌else◌}
use Rattle.std.proofs.lemmas.Bool.{eqb-true, eqb-false, eq-eqb}
use Rattle.std.proofs.lemmas.List.{append-nil}
use Rattle.call_table.specs.declared.waiting.Waiting.{Waiting}
use Rattle.ens_base.specs.Lists.{◌∈◌}
use Rattle.ens_base.specs.PeerSet.{holds}
use Rattle.ens_base.specs.View.{IsPeer}
use Rattle.ens_base.specs.declared.entry.Entry.{Entry}
use Rattle.calm_step_laws.specs.WorldSpec.{Held, held_with}
use Rattle.network.proofs.MailLaws.{is_mail_settled}
use Rattle.network.specs.Mail.{Mail, settled}
use Rattle.register_model.specs.declared.note.Note.{Note}
use Rattle.step_plans.specs.Plans.{Out}
use Rattle.synctree.specs.Entries.{lookup}
use Rattle.calm_step_laws.specs.PeerRefinement.{AreAmong, IsWhole}
use Rattle.wire_frames.specs.declared.frame.Frame.{Frame}
use Rattle.wire_frames.specs.declared.message.Message.{Message}
use Rattle.world_refinement.specs.WorldSpec.{Up, Run, place_of, frame_from}
use Rattle.world_refinement.proofs.ChangedNodes.{set_other}
use Rattle.world_refinement.proofs.WorldSpec.{posted_mail}
use Rattle.calm_step_laws.proofs.Keeping.{Keeping, Standing}
use Rattle.calm_step_laws.proofs.CandidateSteps.{accepted}
use Rattle.calm_laws.proofs.UnderWay.{Round, IsUnderWay, reply_of}
use Rattle.calm_laws.proofs.ElectionRequests.{IsQuiet}
use Rattle.calm_laws.proofs.Elections.{IsOther, rests, asking}
use Rattle.calm_laws.proofs.Parts.{places_apart}
use Rattle.calm_laws.proofs.Rounds.{delivers}
use Rattle.calm_laws.proofs.ServedWorlds.{Scene, IsTold, Wait, Reads, Checks, Puts, Leading, Serves, Runs, IsUnknown, IsPast, Kind, round_for, votes_of}
use Rattle.calm_laws.proofs.Standing.{Stands, stands_here, stands_other}
use Rattle.calm_laws.proofs.Waiting.{kinds_stay}
use Rattle.calm_laws.proofs.Worlds.{moved, whole_grows}

-- the maps after that of one peer changed
abbrev pub with_map : ℕ → List Entry → (ℕ → List Entry) → ℕ → List Entry
with_map q m maps k = if k == q then m else maps k

module _ (q : ℕ) (now : List Entry) (maps : ℕ → List Entry) where
  pub map_here : with_map q now maps q ≡ now
  map_here = rw (eq-eqb q q refl) refl

  pub map_other : (k : ℕ) → k ≢ q → with_map q now maps k ≡ maps k
  map_other k apart = by (k == q) refl where
    by : (b : Bool) → (k == q) ≡ b → (if b then now else maps k) ≡ maps k
    by false same = refl
    by true same = absurd (apart (eqb-true k q same))

  -- what holds of the old map, and of the new one of the peer, holds of each map
  pub each_map : (P : List Entry → Type 0) (k : ℕ) → (k ≢ q → P (maps k)) → P now → P (with_map q now maps k)
  each_map P k old new = by (k == q) refl where
    by : (b : Bool) → (k == q) ≡ b → P (if b then now else maps k)
    by true same = new
    by false apart = old (eqb-false k q apart)

-- a peer stands where it stood, whatever messages wait
pub at_mail : (w : Run) (m : Mail) (q : ℕ) (x : Standing) (es : List Entry) → Stands w q x es → Stands (record w { mail = m }) q x es
at_mail w m q x es s = record { keep = s.keep; stores = s.stores; at = s.at; whole = s.whole }

module _ (me : ℕ) (view : List ℕ) (is_peer : IsPeer me) (peers : (q : ℕ) → q ∈ view → IsPeer q) where
  module _ (n : Scene) (w : Run) (served : Leading me view n w) (i q : ℕ) (ask : Message) (other : IsOther me view q) (at : slice_get w.mail.sent i ≡ Some (asking me view q ask)) where
    -- the member replies to the round that runs
    abbrev pub Replies : Out → Option (List ℕ × Wait me view) → Type 0
    Replies out None = Unit {0}
    Replies out (Some it) = ask ≡ (round_for me view it.0 it.1).ask → reply_of (round_for me view it.0 it.1) q ∈ map (frame_from q) out.sends

    module _ (now : List Entry) (keep : Keeping) (g : Held) (out : Out) (ms : List Note) (grown : AreAmong w.hashed g.hashed) (whole : IsWhole g now) (quiet : IsQuiet out) where
      abbrev after : Run
      after = moved q (rests (accepted me view) keep) g out ms (record w { mail = settled w.mail i })

      under_way : (r : Round) (votes : ℕ → Bool) (k : ℕ) → r.leader ≡ me → k ≢ me → (ask ≡ r.ask → reply_of r q ∈ map (frame_from q) out.sends) → IsUnderWay r (λ j. true) w.mail votes k → IsUnderWay r (λ j. true) after.mail votes k
      under_way r votes k leads_it apart replies way =
          delivers r (λ j. true) (λ j. true) w.mail i (asking me view q ask) (map (frame_from q) out.sends) votes votes k served.mail at (λ voted. voted) (λ ready. inl refl)
          (λ ready same. inr (subst (λ j. reply_of r j ∈ map (frame_from q) out.sends) (ap (λ (f : Frame). f.to) same) (replies (ap (λ (f : Frame). f.message) same))))
          (λ same. absurd (apart (sym (ap (λ (f : Frame). f.from) same)))) way

      serves_on : (call : Waiting) (wait : Wait me view) → (ask ≡ (round_for me view call.key wait).ask → reply_of (round_for me view call.key wait) q ∈ map (frame_from q) out.sends) → (round_for me view call.key wait).leader ≡ me
          → Serves me view n served.l served.leader.stores w.mail call wait → Serves me view n served.l served.leader.stores after.mail call wait
      serves_on call wait replies leads_it s = record {
        calls = s.calls;
        named = s.named;
        key = s.key;
        command = s.command;
        was_called = s.was_called;
        stage = s.stage;
        fits = s.fits;
        open_yet = s.open_yet;
        views = s.views;
        size = s.size;
        own = s.own;
        others = λ k is. under_way (round_for me view call.key wait) (λ j. holds (votes_of me view wait).tally.votes j) k leads_it is.1 replies (s.others k is);
      }

      round_of_leader : (key : List ℕ) (wait : Wait me view) → (round_for me view key wait).leader ≡ me
      round_of_leader key (Reads round votes) = refl
      round_of_leader key (Checks round votes reply) = refl
      round_of_leader key (Puts o votes) = refl

      -- nothing was printed
      same_lines : after.printed ≡ w.printed
      same_lines = rw (quiet.answers, quiet.changes) (append-nil w.printed)

      still_told : (call : Option ℕ) → IsTold n call w → IsTold n call after
      still_told None told = same_lines ∙ told
      still_told (Some id) told = record { answer = told.answer; named = told.named; done = told.done; early = told.early; shown = same_lines ∙ told.shown }

      goes_on : (runs : Option (List ℕ × Wait me view)) → Replies out runs → Runs me view n served.l served.leader.stores w runs → Runs me view n served.l served.leader.stores after runs
      goes_on None replies (calls, told) = (calls, still_told n.call told)
      goes_on (Some it) replies (lines, (call, key, s)) =
          (same_lines ∙ lines, (call, key, serves_on call it.1 (subst (λ k. ask ≡ (round_for me view k it.1).ask → reply_of (round_for me view k it.1) q ∈ map (frame_from q) out.sends) (sym key) replies) (round_of_leader call.key it.1) s))

      -- the world after the step serves calls as before
      pub member_moves : Replies out served.runs → ((e : Entry) → e ∈ now → IsPast me view served.l.seq n.called e) → ((k : List ℕ) → IsUnknown me view served.l.table.rows k → lookup k now ≡ None)
          → ((f : Frame) → f ∈ map (frame_from q) out.sends → Kind me view n served.l served.runs f) → Leading me view n after
      member_moves replies past new sent = record {
        mail = posted_mail (map (frame_from q) out.sends) (settled w.mail i) (is_mail_settled w.mail i served.mail);
        l = served.l;
        fact = served.fact;
        self = served.self;
        task = served.task;
        map = with_map q now served.map;
        leader = record {
          keep = served.leader.keep;
          stores = served.leader.stores;
          at = set_other w.nodes (place_of q) (place_of me) (Up (rests (accepted me view) keep) g.stores) (places_apart q me (peers q other.0) is_peer other.1) ∙ served.leader.at;
          whole = subst (λ es. IsWhole (held_with served.leader.stores g.hashed) es) (sym (map_other q now served.map me (λ same. other.1 (sym same)))) (whole_grows served.leader.stores w.hashed g.hashed (served.map me) grown served.leader.whole);
        };
        others = λ k is. by k is (k == q) refl;
        runs = served.runs;
        holds_well = record {
          seqs = served.holds_well.seqs;
          rounds = served.holds_well.rounds;
          past = λ k e listed at. each_map q now served.map (λ es. e ∈ es → IsPast me view served.l.seq n.called e) k (λ apart. served.holds_well.past k e listed) (past e) at;
          idle = served.holds_well.idle;
          knows = served.holds_well.knows;
          unknown = λ k is j listed. each_map q now served.map (λ es. lookup k es ≡ None) j (λ apart. served.holds_well.unknown k is j listed) (new k is);
        };
        standing = goes_on served.runs replies served.standing;
        kinds = kinds_stay (Kind me view n served.l served.runs) (Kind me view n served.l served.runs) w.mail i (map (frame_from q) out.sends) served.mail served.kinds (λ f kind. kind) sent;
      }
        where
          was : Stands w q (rests (accepted me view)) (served.map q)
          was = served.others q other

          by : (k : ℕ) → IsOther me view k → (b : Bool) → (k == q) ≡ b → Stands after k (rests (accepted me view)) (with_map q now served.map k)
          by k is true same = subst (λ j. Stands after j (rests (accepted me view)) (with_map q now served.map j)) (sym (eqb-true k q same))
              (subst (λ es. Stands after q (rests (accepted me view)) es) (sym (map_here q now served.map)) (stands_here q (rests (accepted me view)) keep g out ms (record w { mail = settled w.mail i }) (rests (accepted me view) was.keep) was.stores now was.at whole))
          by k is false apart = subst (λ es. Stands after k (rests (accepted me view)) es) (sym (map_other q now served.map k (eqb-false k q apart)))
              (stands_other q (rests (accepted me view)) keep g out ms (record w { mail = settled w.mail i }) k (rests (accepted me view)) (served.map k) (peers q other.0) (peers k is.0) (eqb-false k q apart) grown
              (at_mail w (settled w.mail i) k (rests (accepted me view)) (served.map k) (served.others k is)))
