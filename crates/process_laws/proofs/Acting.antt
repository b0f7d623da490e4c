-- An act of a process is a moment of its peer in the world, which puts out what the act did.
use Rattle.std.proofs.Common.{◌≡◌, ◌⊎◌, ◌≤◌, ◌++◌, ℕ, Bool, true, false, eqb, if◌then◌else◌, List, [], ◌∷◌, map, append-nil, Option, None, Some, slice_get, slice_set, arith, refl, sym, ap, ◌∙◌, subst, inl, inr}
use Rattle.std.proofs.lemmas.Bool.{eqb-true, eqb-false}
use Rattle.std.proofs.lemmas.Option.{none-some}
use Rattle.process_laws.proofs.Running.{run_as_maps}
use Rattle.process_laws.specs.Memory.{StandsFor, StandsOpen, RunsInMemory, RunAsMaps, held_in}
use Rattle.ens_base.specs.Lists.{◌∈◌}
use Rattle.ens_base.specs.PeerSet.{holds}
use Rattle.environment.specs.Maps.{Entries}
use Rattle.process_laws.proofs.RealTime.{answers_append}
use Rattle.stored_formats.specs.declared.saved.SavedFact.{SavedFact}
use Rattle.process_laws.specs.Moments.{Found, stores_found, down_on, with_contents, after, answers_in}
use Rattle.process_laws.specs.Premises.{IsOneProcess, FactSurvives, IsWithinLimits, IsRunning, IsDown, kept_by, node_of}
use Rattle.peer_spec.proofs.Grammar.{those_at}
use Rattle.peer_spec.specs.Drives.{step_of}
use Rattle.peer_spec.specs.Starts.{start_of}
use Rattle.peer_server.specs.DiskPeers.{OnDisks, disks_do, disks_refuse}
use Rattle.peer_server.specs.Starting.{served_mode}
use Rattle.peer_state.specs.declared.event.Event.{Event}
use Rattle.peer_state.specs.declared.state.Mode.{Mode}
use Rattle.peer_state.specs.declared.state.State.{State}
use Rattle.register_model.specs.declared.answer.Answer.{Answer}
use Rattle.schedule_text.specs.declared.form.Form.TheVariants.{Three}
use Rattle.lexemes.specs.Spelling.{IsAmong}
use Rattle.step_plans.specs.Calls.{Call, AnswerOf}
use Rattle.step_plans.specs.Plans.{Finished, Runs, nothing}
use Rattle.step_plans.specs.declared.error.PeerError.{PeerError}
use Rattle.tree_node.specs.declared.version.TreeVersion.{TreeVersion}
use Rattle.tree_node.specs.declared.version.TreeVersion.TheVariants.{Two}
use Rattle.peer_turns.specs.Deeds.{Deed, events_in}
use Rattle.world_spec.proofs.Growth.{sent_after}
use Rattle.world_spec.specs.Held.{HeldStores}
use Rattle.world_spec.specs.HeldRuns.{Ended}
use Rattle.world_spec.specs.Nodes.{Node, Up, Down, Taken, over_stores, taken_of, started, stopped}
use Rattle.world_spec.specs.Runs.{Run, next_event, place_of, frame_from, printed_by, sealing_first, with_taken, stepped_at, stepped, changed_at, changed, start_strings, hashing, mode_at, with_start}
use Rattle.world_stores.specs.Facts.{kept_of}
use Rattle.process_laws.specs.Acts.{Act, Begins, Does, Spoils, Ends, Life, Spoil, Stage, Step, actor, and_stages, answers_at, deeds_in, frames_by, later_acts, moment_of, noted_by, own_acts}
use Rattle.process_laws.specs.Joined.{AreSpoiled, fact_on_disk}
use Rattle.process_laws.specs.Lives.{AreLater, Leads}
use Rattle.process_laws.proofs.Events.{KeepsLimits, keeps_limits, within_limits}
use Rattle.process_laws.proofs.Outputs.{answers_printed}
use Rattle.process_laws.proofs.Places.{own_head, set_get, set_other, set_twice}

-- two facts are one if they are told alike
pub kept_same : (a b : Option SavedFact) → kept_of a ≡ kept_of b → a ≡ b
kept_same None None same = refl
kept_same None (Some b) same = absurd (none-some _ same)
kept_same (Some a) None same = absurd (none-some _ (sym same))
kept_same (Some a) (Some b) same = cc

-- places of different peers are different
apart_places : (p q : ℕ) → 1 ≤ p → 1 ≤ q → (p ≡ q → ⊥) → place_of p ≡ place_of q → ⊥
apart_places p q first second apart same = apart (omega (arith, first, second, same))

module _ {D : Type 0} (seen : D → Option (List ℕ)) (faults : D → ℕ) (peers : ℕ) (small : peers ≤ 31) (view : List ℕ) where
  abbrev does : OnDisks D → (call : Call) → AnswerOf call → OnDisks D → Type 0
  does = disks_do seen faults

  abbrev refuses : OnDisks D → Call → PeerError → OnDisks D → Type 0
  refuses = disks_refuse seen faults

  abbrev Later : ℕ → Option SavedFact → List Life → Type 0
  Later p fact lives = AreLater does refuses (AreSpoiled seen) (StandsFor seen) fact_on_disk view p (kept_of fact) lives

  maps : RunAsMaps seen faults
  maps = run_as_maps seen faults

  -- ## Where a peer is on the way through its acts

  abbrev Led : ℕ → State → OnDisks D → List Stage → State → OnDisks D → Type 0
  Led p x s stages y t = Leads does refuses (AreSpoiled seen) (StandsFor seen) fact_on_disk view p x s stages y t

  -- its process runs: it has these stages to go through, and then it is cut off, and these lives follow
  pub record Running (p : ℕ) (node : Option Node) (own : List Act) : Type 0 where
    pub state : State
    pub disks : OnDisks D
    pub stores : HeldStores
    pub is : node ≡ Some (Up state stores)
    pub stands : StandsOpen seen disks stores
    pub stages : List Stage
    pub last : State
    pub left : OnDisks D
    pub leads : Led p state disks stages last left
    pub keeps : (event : Event) → event ∈ events_in (deeds_in stages) → KeepsLimits event
    pub later : List Life
    pub lives : AreLater does refuses (AreSpoiled seen) (StandsFor seen) fact_on_disk view p (fact_on_disk left) later
    pub acts : own ≡ and_stages p stages (later_acts p later)

  -- no process of the peer runs, and these lives follow
  pub record Resting (p : ℕ) (node : Option Node) (own : List Act) : Type 0 where
    pub stores : HeldStores
    pub is : node ≡ Some (Down stores)
    pub later : List Life
    pub lives : Later p stores.facts.kept later
    pub acts : own ≡ later_acts p later

  abbrev pub IsOn : ℕ → Option Node → List Act → Type 0
  IsOn p node own = (own ≡ []) ⊎ (Running p node own ⊎ Resting p node own)

  -- the world has come to where these acts follow
  pub record IsBefore (w : Run) (acts : List Act) : Type 0 where
    pub opens : w.view ≡ view
    pub sealing : w.sealing ≡ sealing_first Three
    pub tree : w.tree ≡ Two
    pub each : (q : ℕ) → IsAmong peers q → IsOn q (node_of w q) (own_acts q acts)

  -- an act that is a moment: the premises hold of it, and it puts out what the act did
  pub record Goes (a : Act) (acts : List Act) (w : Run) : Type 0 where
    pub one : IsOneProcess w (moment_of a)
    pub fact : FactSurvives w (moment_of a)
    pub keeps : IsWithinLimits w (moment_of a)
    pub sent : (after (moment_of a) w).mail.sent ≡ w.mail.sent ++ frames_by a
    pub answers : answers_in (after (moment_of a) w).printed ≡ answers_in w.printed ++ answers_at (next_event w.events) a
    pub notes : (after (moment_of a) w).notes ≡ w.notes ++ noted_by a
    pub on : IsBefore (after (moment_of a) w) acts

  -- ## One act

  -- the node of the peer of an act is a new one, and those of the others are as before
  peers_on : (a : Act) (acts : List Act) (nodes : List Node) (old new : Node) → IsAmong peers (actor a) → slice_get nodes (place_of (actor a)) ≡ Some old → IsOn (actor a) (Some new) (own_acts (actor a) acts)
      → ((q : ℕ) → IsAmong peers q → IsOn q (slice_get nodes (place_of q)) (own_acts q (a ∷ acts))) → (q : ℕ) → IsAmong peers q → IsOn q (slice_get (slice_set nodes (place_of (actor a)) new) (place_of q)) (own_acts q acts)
  peers_on a acts nodes old new among at on others q other = by (eqb (actor a) q) refl
    where
      by : (b : Bool) → eqb (actor a) q ≡ b → IsOn q (slice_get (slice_set nodes (place_of (actor a)) new) (place_of q)) (own_acts q acts)
      by true same =
          subst (λ (r : ℕ). IsOn r (slice_get (slice_set nodes (place_of (actor a)) new) (place_of r)) (own_acts r acts)) (eqb-true (actor a) q same)
          (subst (λ (o : Option Node). IsOn (actor a) o (own_acts (actor a) acts)) (sym (set_get nodes (place_of (actor a)) new old at)) on)
      by false differ =
          subst (λ (o : Option Node). IsOn q o (own_acts q acts)) (sym (set_other nodes (place_of (actor a)) (place_of q) new (apart_places (actor a) q among.first other.first (eqb-false (actor a) q differ))))
          (subst (λ (b : Bool). IsOn q (slice_get nodes (place_of q)) (if b then a ∷ own_acts q acts else own_acts q acts)) differ (others q other))

  -- a step that came to its end over disks
  does_go : (p : ℕ) (d : Deed) (acts : List Act) (w : Run) → IsAmong peers p → IsBefore w (Does p d ∷ acts) → (x : State) (h : HeldStores) → node_of w p ≡ Some (Up x h) → (s t : OnDisks D) (z : State) → StandsOpen seen s h
      → Runs does refuses (step_of p d.event x) s [] (Finished z d.out) t d.notes → KeepsLimits d.event → ((left : HeldStores) → StandsOpen seen t left → IsOn p (Some (Up z left)) (own_acts p acts)) → Goes (Does p d) acts w
  does_go p d acts w among before x h at s t z stands ran keeps on = record {
    one = subst IsRunning (sym at) tt;
    fact = tt;
    keeps = within_limits w p d.event keeps;
    sent = ap (λ (v : Run). v.mail.sent) step_is ∙ sent_after (map (frame_from p) d.out.sends) w.mail;
    answers = ap (λ (v : Run). answers_in v.printed) step_is ∙ answers_append w.printed (printed_by (next_event w.events) p d.out) ∙ ap (λ (more : List Answer). answers_in w.printed ++ more) (answers_printed (next_event w.events) p d.out);
    notes = ap (λ (v : Run). v.notes) step_is;
    on = subst (λ (v : Run). IsBefore (record v { events = next_event w.events }) acts) (sym step_is) (record {
      opens = before.opens;
      sealing = before.sealing;
      tree = before.tree;
      each = peers_on (Does p d) acts w.nodes (Up x h) (Up z so.left) among at (on so.left so.stands) before.each;
    });
  }
    where
      so : RunsInMemory seen (step_of p d.event x) h [] [] z d.out t d.notes
      so = maps.plans (step_of p d.event x) s t h [] [] d.notes z d.out stands ran

      step : Taken
      step = record { node = Up z so.left; out = d.out; notes = d.notes; hashed = so.strings }

      step_is : stepped p d.event w ≡ with_taken p step w
      step_is = ap (λ (o : Option Node). stepped_at o p d.event w) at ∙ ap (λ (e : Ended State). with_taken p (taken_of e) w) so.is

  -- a process that is cut off
  ends_go : (p : ℕ) (acts : List Act) (w : Run) → IsAmong peers p → IsBefore w (Ends p ∷ acts) → (x : State) (h : HeldStores) → node_of w p ≡ Some (Up x h) → IsOn p (Some (Down h)) (own_acts p acts) → Goes (Ends p) acts w
  ends_go p acts w among before x h at on = record {
    one = subst IsRunning (sym at) tt;
    fact = tt;
    keeps = tt;
    sent = ap (λ (v : Run). v.mail.sent) end_is ∙ sym (append-nil w.mail.sent);
    answers = ap (λ (v : Run). answers_in v.printed) end_is ∙ sym (append-nil (answers_in w.printed));
    notes = ap (λ (v : Run). v.notes) end_is ∙ sym (append-nil w.notes);
    on = subst (λ (v : Run). IsBefore (record v { events = next_event w.events }) acts) (sym end_is) (record {
      opens = before.opens;
      sealing = before.sealing;
      tree = before.tree;
      each = peers_on (Ends p) acts w.nodes (Up x h) (Down h) among at on before.each;
    });
  }
    where
      end_is : changed p stopped w ≡ record w { nodes = slice_set w.nodes (place_of p) (Down h) }
      end_is = ap (λ (o : Option Node). changed_at o p stopped w) at

  -- disks whose nodes and objects became others
  spoiled_stand : (s : OnDisks D) (nodes objects : Entries) (t : OnDisks D) (h : HeldStores) → AreSpoiled seen s nodes objects t → StandsOpen seen s h → StandsOpen seen t (with_contents nodes objects h)
  spoiled_stand s nodes objects t h spoiled stands = record {
    stands = record {
      objects = spoiled.objects_held;
      nodes = spoiled.nodes_held (held_in h.tree.store) stands.stands.nodes;
      fact = spoiled.fact ∙ stands.stands.fact;
      none = record { facts = stands.stands.none.facts; tree = stands.stands.none.tree; backend = stands.stands.none.backend };
    };
    root = spoiled.root ∙ stands.root;
    version = spoiled.version ∙ stands.version;
  }

  spoils_go : (p : ℕ) (nodes objects : Entries) (acts : List Act) (w : Run) → IsAmong peers p → IsBefore w (Spoils p nodes objects ∷ acts) → (x : State) (h : HeldStores) → node_of w p ≡ Some (Up x h) → IsOn p (Some (Up x (with_contents nodes objects h))) (own_acts p acts) → Goes (Spoils p nodes objects) acts w
  spoils_go p nodes objects acts w among before x h at on = record {
    one = subst IsRunning (sym at) tt;
    fact = tt;
    keeps = tt;
    sent = ap (λ (v : Run). v.mail.sent) spoil_is ∙ sym (append-nil w.mail.sent);
    answers = ap (λ (v : Run). answers_in v.printed) spoil_is ∙ sym (append-nil (answers_in w.printed));
    notes = ap (λ (v : Run). v.notes) spoil_is ∙ sym (append-nil w.notes);
    on = subst (λ (v : Run). IsBefore (record v { events = next_event w.events }) acts) (sym spoil_is) (record {
      opens = before.opens;
      sealing = before.sealing;
      tree = before.tree;
      each = peers_on (Spoils p nodes objects) acts w.nodes (Up x h) (Up x (with_contents nodes objects h)) among at on before.each;
    });
  }
    where
      spoil_is : changed p (over_stores (with_contents nodes objects)) w ≡ record w { nodes = slice_set w.nodes (place_of p) (Up x (with_contents nodes objects h)) }
      spoil_is = ap (λ (o : Option Node). changed_at o p (over_stores (with_contents nodes objects)) w) at

  -- the start of a later process
  begins_go : (p : ℕ) (found : Found) (acts : List Act) (w : Run) → IsAmong peers p → IsBefore w (Begins p found ∷ acts) → (h : HeldStores) → node_of w p ≡ Some (Down h) → found.fact ≡ h.facts.kept → (s t : OnDisks D) (z : State) → StandsFor seen s (stores_found found)
      → Runs does refuses (start_of served_mode view) s [] (Finished z nothing) t [] → ((left : HeldStores) → StandsOpen seen t left → IsOn p (Some (Up z left)) (own_acts p acts)) → Goes (Begins p found) acts w
  begins_go p found acts w among before h at same s t z stands ran on = record {
    one = subst IsDown (sym at) tt;
    fact = same ∙ sym (ap kept_by at);
    keeps = tt;
    sent = ap (λ (r : Run). r.mail.sent) start_is ∙ sym (append-nil w.mail.sent);
    answers = ap (λ (r : Run). answers_in r.printed) start_is ∙ sym (append-nil (answers_in w.printed));
    notes = ap (λ (r : Run). r.notes) start_is ∙ sym (append-nil w.notes);
    on = subst (λ (r : Run). IsBefore (record r { events = next_event w.events }) acts) (sym start_is) (record {
      opens = before.opens;
      sealing = before.sealing;
      tree = before.tree;
      each = subst (λ (nodes : List Node). (q : ℕ) → IsAmong peers q → IsOn q (slice_get nodes (place_of q)) (own_acts q acts)) (sym (set_twice w.nodes (place_of p) node (Up z so.left)))
          (peers_on (Begins p found) acts w.nodes (Down h) (Up z so.left) among at (on so.left so.stands) before.each);
    });
  }
    where
      so : RunsInMemory seen (start_of served_mode view) (stores_found found) [] [] z nothing t []
      so = maps.starts served_mode view s t (stores_found found) [] [] z nothing stands ran

      node : Node
      node = Down (stores_found found)

      v : Run
      v = record w { nodes = slice_set w.nodes (place_of p) node }

      strings : List (List ℕ)
      strings = start_strings (mode_at p v) v.view (slice_get v.nodes (place_of p))

      at_v : slice_get v.nodes (place_of p) ≡ Some node
      at_v = set_get w.nodes (place_of p) node (Down h) at

      keeps_seal : holds w.sealing p ≡ true
      keeps_seal = ap (λ (set : List Bool). holds set p) before.sealing ∙ those_at (λ q. true) p (among.first, up_to among.last small)
        where
          up_to : p ≤ peers → peers ≤ 31 → p ≤ 31
          up_to below above = omega arith

      mode_is : mode_at p v ≡ served_mode
      mode_is = ap (λ (sealing : Bool). let mode : Mode = record { sealing = sealing; tree = w.tree } in mode) keeps_seal ∙ ap (λ (tree : TreeVersion). let mode : Mode = record { sealing = true; tree = tree } in mode) before.tree

      up_is : started (mode_at p v) w.view node ≡ Up z so.left
      up_is = ap (λ (mode : Mode). started mode w.view node) mode_is ∙ ap (λ (opens : List ℕ). started served_mode opens node) before.opens ∙ ap (λ (e : Ended State). (taken_of e).node) so.is

      start_is : with_start p (changed p (down_on found) w) ≡ hashing strings (record v { nodes = slice_set v.nodes (place_of p) (Up z so.left) })
      start_is = ap (λ (o : Option Node). with_start p (changed_at o p (down_on found) w)) at ∙ ap (λ (o : Option Node). hashing strings (changed_at o p (started (mode_at p v) w.view) v)) at_v
          ∙ ap (λ (n : Node). hashing strings (record v { nodes = slice_set v.nodes (place_of p) n })) up_is

  -- ## The next act

  -- the next act of a peer, where it is known
  as_next : (a b : Act) (acts rest : List Act) (w : Run) → IsBefore w (a ∷ acts) → own_acts (actor a) (a ∷ acts) ≡ b ∷ rest → (IsBefore w (b ∷ acts) → own_acts (actor a) acts ≡ rest → Goes b acts w) → Goes a acts w
  as_next a b acts rest w before is goes = subst (λ (x : Act). Goes x acts w) (sym head) (goes (subst (λ (x : Act). IsBefore w (x ∷ acts)) head before) tail)
    where
      both : a ∷ own_acts (actor a) acts ≡ b ∷ rest
      both = sym (own_head a acts) ∙ is

      head : a ≡ b
      head = cc both

      tail : own_acts (actor a) acts ≡ rest
      tail = cc both

  -- a process that runs
  runs_on : (a : Act) (acts : List Act) (w : Run) → IsAmong peers (actor a) → IsBefore w (a ∷ acts) → (x : State) (disks : OnDisks D) (h : HeldStores) → node_of w (actor a) ≡ Some (Up x h) → StandsOpen seen disks h → (stages : List Stage) (last : State) (left : OnDisks D)
      → Led (actor a) x disks stages last left → ((event : Event) → event ∈ events_in (deeds_in stages) → KeepsLimits event) → (later : List Life) → AreLater does refuses (AreSpoiled seen) (StandsFor seen) fact_on_disk view (actor a) (fact_on_disk left) later
      → own_acts (actor a) (a ∷ acts) ≡ and_stages (actor a) stages (later_acts (actor a) later) → Goes a acts w
  runs_on a acts w among before x disks h at stands [] last left leads keeps later lives own =
      as_next a (Ends (actor a)) acts (later_acts (actor a) later) w before own
      (λ here rest. ends_go (actor a) acts w among here x h at
      (inr (inr (record {
        stores = h;
        is = refl;
        later = later;
        lives = subst (λ fact. AreLater does refuses (AreSpoiled seen) (StandsFor seen) fact_on_disk view (actor a) fact later) (ap fact_on_disk leads.1 ∙ stands.stands.fact) lives;
        acts = rest;
      }))))
  runs_on a acts w among before x disks h at stands (Step d ∷ stages) last left leads keeps later lives own =
      as_next a (Does (actor a) d) acts (and_stages (actor a) stages (later_acts (actor a) later)) w before own
      (λ here rest. does_go (actor a) d acts w among here x h at disks leads.1 leads.0 stands leads.2 (keeps d.event (inl refl))
      (λ stores stands_open. inr (inl (record {
        state = leads.0;
        disks = leads.1;
        stores = stores;
        is = refl;
        stands = stands_open;
        stages = stages;
        last = last;
        left = left;
        leads = leads.3;
        keeps = λ event here. keeps event (inr here);
        later = later;
        lives = lives;
        acts = rest;
      }))))
  runs_on a acts w among before x disks h at stands (Spoil nodes objects ∷ stages) last left leads keeps later lives own =
      as_next a (Spoils (actor a) nodes objects) acts (and_stages (actor a) stages (later_acts (actor a) later)) w before own
      (λ here rest. spoils_go (actor a) nodes objects acts w among here x h at
      (inr (inl (record {
        state = x;
        disks = leads.0;
        stores = with_contents nodes objects h;
        is = refl;
        stands = spoiled_stand disks nodes objects leads.0 h leads.1 stands;
        stages = stages;
        last = last;
        left = left;
        leads = leads.2;
        keeps = keeps;
        later = later;
        lives = lives;
        acts = rest;
      }))))

  -- a peer whose process was cut off
  rests_on : (a : Act) (acts : List Act) (w : Run) → IsAmong peers (actor a) → IsBefore w (a ∷ acts) → (h : HeldStores) → node_of w (actor a) ≡ Some (Down h) → (later : List Life) → Later (actor a) h.facts.kept later → own_acts (actor a) (a ∷ acts) ≡ later_acts (actor a) later → Goes a acts w
  rests_on a acts w among before h at [] lives own = absurd (some_act a (own_acts (actor a) acts) (sym (own_head a acts) ∙ own))
    where
      some_act : (b : Act) (rest : List Act) → b ∷ rest ≡ [] → ⊥
      some_act b rest is = cc
  rests_on a acts w among before h at (l ∷ later) lives own =
      as_next a (Begins (actor a) l.found) acts (and_stages (actor a) l.stages (later_acts (actor a) later)) w before own
      (λ here rest. begins_go (actor a) l.found acts w among here h at (kept_same l.found.fact h.facts.kept lives.0) lives.1.opened lives.1.started lives.1.first lives.1.finds lives.1.starts
      (λ stores stands_open. inr (inl (record {
        state = lives.1.first;
        disks = lives.1.started;
        stores = stores;
        is = refl;
        stands = stands_open;
        stages = l.stages;
        last = lives.1.last;
        left = lives.1.left;
        leads = lives.1.leads;
        keeps = λ event here. keeps_limits (actor a) event (lives.1.events event here);
        later = later;
        lives = lives.2;
        acts = rest;
      }))))

  -- the next act, whatever it is
  pub goes : (a : Act) (acts : List Act) (w : Run) → IsAmong peers (actor a) → IsBefore w (a ∷ acts) → Goes a acts w
  goes a acts w among before = by (before.each (actor a) among)
    where
      by : IsOn (actor a) (node_of w (actor a)) (own_acts (actor a) (a ∷ acts)) → Goes a acts w
      by (inl none) = rests_none (sym (own_head a acts) ∙ none)
        where
          rests_none : a ∷ own_acts (actor a) acts ≡ [] → Goes a acts w
          rests_none is = absurd cc
      by (inr (inl r)) = runs_on a acts w among before r.state r.disks r.stores r.is r.stands r.stages r.last r.left r.leads r.keeps r.later r.lives r.acts
      by (inr (inr r)) = rests_on a acts w among before r.stores r.is r.later r.lives r.acts
