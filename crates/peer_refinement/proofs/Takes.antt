-- A sync takes what a source sends.
use Rattle.std.proofs.Common.{◌≡◌, ◌⊎◌, ℕ, Bool, true, false, not, ◌&&◌, List, [], ◌∷◌, ◌++◌, Option, None, Some, arith, refl, ap, sym, ◌∙◌, subst, inl, inr}
use Rattle.ens_base.proofs.Lists.{in_append, in_tested}
use Rattle.std.specs.Prelude.{◌==◌, slice_get, slice_set, if◌then◌else◌}
use Rattle.std.proofs.lemmas.Bool.Decides.{nat_tests}
use Rattle.protocol_laws.specs.Numbers.{epoch_number}
use Rattle.protocol_laws.specs.Protocol.{State, Step, IsRun, state_after}
use Rattle.ens_base.specs.Lists.{◌∈◌, is_in}
use Rattle.ens_base.specs.declared.entry.Entry.{Entry}
use Rattle.ens_base.specs.declared.epoch.Epoch.{Epoch}
use Rattle.tree_node.specs.declared.version.TreeVersion.{TreeVersion}
use Rattle.tree_exchange.specs.Asked.{Asked}
use Rattle.tree_exchange.specs.Asks.{taken}
use Rattle.tree_exchange.specs.Covers.{IsOwn, AreApart}
use Rattle.tree_exchange.specs.declared.question.Question.{Question}
use Rattle.tree_exchange.specs.declared.step.Step.{Step as Reply}
use Rattle.tree_exchange.specs.declared.step.Step.TheVariants as steps
use Rattle.stored_formats.specs.declared.fact.Fact.{Fact}
use Rattle.phase_rows.specs.Orders.{is_same}
use Rattle.phase_rows.proofs.Epochs.{same_epochs}
use Rattle.peer_refinement.specs.Naming.{EntrySays}
use Rattle.tree_sync.specs.Asks.{anew, is_open, after_step, stepped, answered, place_of}
use Rattle.tree_sync.specs.Rows.{replied, taken_by}
use Rattle.tree_sync.specs.Running.{Running}
use Rattle.tree_sync.specs.Sends.{IsOfOther}
use Rattle.tree_sync.specs.declared.asking.Asking.{Asking}
use Rattle.tree_sync.specs.declared.asking.Give.{Give}
use Rattle.tree_sync.specs.declared.asking.Stage.{Stage}
use Rattle.tree_sync.specs.declared.asking.Stage.TheVariants as stages
use Rattle.tree_sync.proofs.Others.{ask_is}
use Rattle.role_laws.proofs.Coverage.{give_counts, new_ask_holds}
use Rattle.role_laws.specs.Facts.{Lines}
use Rattle.role_laws.specs.SyncMessages.{GiveSays}
use Rattle.role_laws.specs.Syncs as syncs
use Rattle.tree_sync.specs.Syncs.{is_source, is_awaited}
use Rattle.synctree.specs.Paths.{node_of}
use Rattle.synctree.specs.Sixteen.{form_of}
use Rattle.tree_node.specs.Positions.{IsPosition}
use Rattle.tree_node.specs.declared.body.TreeBody.{TreeBody}
use Rattle.tree_node.specs.declared.body.TreeBody.TheVariants as bodies
use Rattle.tree_node.specs.declared.position.Position.{Position}
use Rattle.peer_refinement.specs.Rooted.{LosesAll}
use Rattle.peer_refinement.specs.Trees.{AreFree}
use Rattle.peer_refinement.specs.SyncLaws.{SyncsTake}
use Rattle.peer_refinement.specs.Seen.{ranks, seen_stage, seen_ask}
use Rattle.peer_refinement.specs.Syncs.{AreHashed, SyncSays, GiveShows, GiveFits}
use Rattle.peer_refinement.proofs.Asks.{peer_there}
use Rattle.peer_refinement.proofs.Counting.{done_is, ignored_is, damage_is, Receives, taken_receives, taken_counts}
use Rattle.peer_refinement.proofs.Scans.{scan_ascends, scan_own, lost_own}
use Rattle.peer_refinement.proofs.Setting.{AskSays, source_of, ask_was, same_says, no_source, goes_on, finishes}
use Rattle.protocol_laws.proofs.Epochs.{not_both}

open_stage : (stage : Stage) → is_open stage ≡ true → stage ≡ stages.Open
open_stage stages.Open h = refl
open_stage stages.Finished h = absurd cc
open_stage stages.Dropped h = absurd cc

-- a part of a tree without damage is of a map
shows_of : (version : TreeVersion) (g : Lines) (s : State) (strings : List (List ℕ)) (q : ℕ) (ballot : Epoch) (question : Question) (flag : Bool) (body : TreeBody) → GiveFits version g s strings q ballot question flag body → ((at : Position) → body ≡ bodies.Damaged at → ⊥) → GiveShows version g s strings q ballot question flag body
shows_of version g s strings q ballot question flag (bodies.Inner mask digests) fits sound = fits
shows_of version g s strings q ballot question flag (bodies.Page es more) fits sound = fits
shows_of version g s strings q ballot question flag (bodies.Damaged at) fits sound = absurd (sound at refl)

module _ (version : TreeVersion) (g : Lines) (s : State) (strings : List (List ℕ)) (p : ℕ) (fact : Fact) (trusted : Bool) (m : List Entry) (r : Running) (give : Give) (own : Option (List ℕ)) (free : AreFree strings) (position : IsPosition version give.question.position)
    (node : (own ≡ None) ⊎ ((own ≡ node_of (form_of version) give.question.position m) × AreHashed version strings m)) (old : SyncSays version g s strings p fact trusted m r) (ballot : give.ballot ≡ r.fact.epoch) (place : ℕ) (a : Asking) (at : slice_get r.asks place ≡ Some a) (other : IsOfOther p r.sync.view a) where
  -- what the ask comes to
  abbrev next : Reply × Asked
  next = taken version r.sync.scan own give.question give.body a.ask

  abbrev Says : Asking → Type 0
  Says b = AskSays g s strings (epoch_number r.fact.epoch) r.sync.scan.entries a.peer b

  -- the ask once it counted a give
  abbrev counted : Stage → Asking
  counted stage = record { peer = a.peer; ask = next.1; trusted = a.trusted && give.trusted; stage = stage }

  -- a map that the own node and the own scan are of, no node of which has the digest of another of this map
  record OwnMap (n : List Entry) : Type 0 where
    map : List Entry
    is_own : IsOwn version own r.sync.scan give.question.position map
    apart : AreApart version n map

  own_map : (shows : GiveShows version g s strings a.peer give.ballot give.question give.trusted give.body) → OwnMap shows.map
  own_map shows = by old.seen node
    where
      of_tree : AreHashed version strings m → (own ≡ None) ⊎ (own ≡ node_of (form_of version) give.question.position m) → OwnMap shows.map
      of_tree hashed is = record { map = m; is_own = scan_own m r.sync.scan old.scan version own give.question.position old.positions is; apart = λ x y in_map in_own same. free x y (shows.hashed x in_map) (hashed y in_own) same }

      by : LosesAll r.sync.scan ⊎ AreHashed version strings m → (own ≡ None) ⊎ ((own ≡ node_of (form_of version) give.question.position m) × AreHashed version strings m) → OwnMap shows.map
      by seen (inr (is, hashed)) = of_tree hashed (inr is)
      by (inr hashed) (inl none) = of_tree hashed (inl none)
      by (inl loses) (inl none) = record {
        map = shows.map;
        is_own = lost_own version shows.map r.sync.scan own give.question.position shows.is_map loses old.positions none;
        apart = λ x y here there same. free x y (shows.hashed x here) (shows.hashed y there) same;
      }

  counted_says : (stage : Stage) → GiveShows version g s strings a.peer give.ballot give.question give.trusted give.body → (syncs.is_finished (seen_stage stage) ≡ true → next.1.current ≡ None) → Says (counted stage)
  counted_says stage shows done = record {
    received = λ e there. entries e (in_append a.ask.received more.more e (subst (λ (es : List Entry). e ∈ es) more.is there));
    holds = give_counts g s.objects (epoch_number r.fact.epoch) (ranks r.sync.scan.entries) a.peer give.trusted (ranks shows.map) (seen_ask a) (seen_ask (counted stage)) says
        (taken_counts version shows.map mine.map r.sync.scan own give.question give.body give.trusted a stage position shows.is_map shows.body_is mine.is_own mine.apart (scan_ascends m r.sync.scan old.scan) done)
        was.holds;
  }
    where
      was : Says a
      was = ask_was version g s strings p fact trusted m r old place a at

      more : Receives shows.map a.ask.received next.1.received
      more = taken_receives version shows.map r.sync.scan own give.question give.body a.ask shows.is_map position shows.body_is

      entries : (e : Entry) → (e ∈ a.ask.received) ⊎ (e ∈ more.more) → EntrySays s strings e
      entries e (inl there) = was.received e there
      entries e (inr there) = shows.entries e (more.among e there)

      says : GiveSays g s.objects a.peer (epoch_number r.fact.epoch) give.trusted (ranks shows.map)
      says = subst (λ (d : Epoch). GiveSays g s.objects a.peer (epoch_number d) give.trusted (ranks shows.map)) ballot shows.says

      -- the own node and the own scan are of a map whose nodes were hashed
      mine : OwnMap shows.map
      mine = own_map shows

  dropped_says : Says (anew stages.Dropped a.peer)
  dropped_says = record { received = λ e none. absurd none; holds = new_ask_holds g s.objects (epoch_number r.fact.epoch) (ranks r.sync.scan.entries) a.peer syncs.Dropped refl }

  -- a step that goes on, or is done, is not that of a report of damage
  sound : (step : Reply) → next.0 ≡ step → (step ≡ steps.Dropped → ⊥) → (step ≡ steps.Ignored → ⊥) → (x : Position) → give.body ≡ bodies.Damaged x → ⊥
  sound step is goes counts x damaged = by_damage (damage_is version r.sync.scan own give.question x a.ask)
    where
      there : (taken version r.sync.scan own give.question (bodies.Damaged x) a.ask).0 ≡ step
      there = subst (λ (body : TreeBody). (taken version r.sync.scan own give.question body a.ask).0 ≡ step) damaged is

      by_damage : ((taken version r.sync.scan own give.question (bodies.Damaged x) a.ask).0 ≡ steps.Dropped) ⊎ ((taken version r.sync.scan own give.question (bodies.Damaged x) a.ask).0 ≡ steps.Ignored) → ⊥
      by_damage (inl dropped) = goes (sym there ∙ dropped)
      by_damage (inr ignored) = counts (sym there ∙ ignored)

  -- the source may still finish
  awaited : a.stage ≡ stages.Open → is_awaited r.sync a.peer ≡ true
  awaited waits = all_three (is_in r.sync.view a.peer) (a.peer == r.sync.me) (is_source r.sync.sources a.peer) other.member (not_me a.peer r.sync.me (λ same. other.other (same ∙ old.me))) (no_source version g s strings p fact trusted m r old place a at waits)
    where
      not_me : (x y : ℕ) → (x ≡ y → ⊥) → (x == y) ≡ false
      not_me x y apart = grind (arith, nat_tests)

      all_three : (x y z : Bool) → x ≡ true → y ≡ false → z ≡ false → (x && not y && not z) ≡ true
      all_three x y z h k l = grind arith

  -- the source has finished
  done_says : a.stage ≡ stages.Open → Says (counted stages.Finished) → (t : Bool) → t ≡ true
      → SyncSays version g s strings p fact trusted m (record r { sync = if t then record r.sync { sources = r.sync.sources ++ source_of (counted stages.Finished) ∷ [] } else r.sync; asks = slice_set r.asks place (counted stages.Finished) })
  done_says waits says true h = finishes version g s strings p fact trusted m r old place a at waits (counted stages.Finished) refl refl (in_tested r.sync.view a.peer other.member) says
  done_says waits says false h = absurd cc

  -- the sync after a step of the ask
  step_says : GiveFits version g s strings a.peer give.ballot give.question give.trusted give.body → a.stage ≡ stages.Open → (step : Reply) → next.0 ≡ step → SyncSays version g s strings p fact trusted m (replied place (step, after_step step give.trusted (record a { ask = next.1 })) r).0
  step_says fits waits steps.Next is = goes_on version g s strings p fact trusted m r old place a at waits (counted a.stage) refl not_done (counted_says a.stage (shows_of version g s strings a.peer give.ballot give.question give.trusted give.body fits (sound steps.Next is (λ e. cc) (λ e. cc))) (λ h. absurd (not_both h not_done)))
    where
      not_done : syncs.is_finished (seen_stage a.stage) ≡ false
      not_done = ap (λ (x : Stage). syncs.is_finished (seen_stage x)) waits
  step_says fits waits steps.Done is = done_says waits (counted_says stages.Finished (shows_of version g s strings a.peer give.ballot give.question give.trusted give.body fits (sound steps.Done is (λ e. cc) (λ e. cc))) (λ h. done_is version r.sync.scan own give.question give.body a.ask is)) (is_awaited r.sync a.peer) (awaited waits)
  step_says fits waits steps.Dropped is = goes_on version g s strings p fact trusted m r old place a at waits (anew stages.Dropped a.peer) refl refl dropped_says
  step_says fits waits steps.Ignored is = same_says version g s strings p fact trusted m r old place a at (record a { ask = next.1 }) (ap (λ (x : Asked). record a { ask = x }) (ignored_is version r.sync.scan own give.question give.body a.ask is))

  -- the sync after the ask took the answer
  reply_says : GiveFits version g s strings a.peer give.ballot give.question give.trusted give.body → SyncSays version g s strings p fact trusted m (replied place (answered version r.sync.scan own give a) r).0
  reply_says fits = by_open (is_open a.stage) refl
    where
      by_open : (b : Bool) → is_open a.stage ≡ b → SyncSays version g s strings p fact trusted m (replied place (if b then stepped give.trusted next a else (steps.Ignored, a)) r).0
      by_open true h = step_says fits (open_stage a.stage h) next.0 refl
      by_open false h = same_says version g s strings p fact trusted m r old place a at a refl

takes_say : (g : Lines) (s : State) → SyncsTake g s
takes_say g s version strings p fact trusted m r from give own free position others fits node old = by_ballot (is_same give.ballot r.fact.epoch) refl
  where
    by_ask : give.ballot ≡ r.fact.epoch → (o : Option Asking) → slice_get r.asks (place_of from r.asks) ≡ o → SyncSays version g s strings p fact trusted m (taken_by version (place_of from r.asks) o give own r).0
    by_ask ballot None at = old
    by_ask ballot (Some a) at = reply_says version g s strings p fact trusted m r give own free position node old ballot (place_of from r.asks) a at (ask_is p r (place_of from r.asks) a others at)
        (subst (λ q. GiveFits version g s strings q give.ballot give.question give.trusted give.body) (sym (peer_there from r.asks a at)) fits)

    by_ballot : (b : Bool) → is_same give.ballot r.fact.epoch ≡ b → SyncSays version g s strings p fact trusted m (if b then taken_by version (place_of from r.asks) (slice_get r.asks (place_of from r.asks)) give own r else (r, [])).0
    by_ballot true same = by_ask (same_epochs give.ballot r.fact.epoch same) (slice_get r.asks (place_of from r.asks)) refl
    by_ballot false other = old

-- a sync that takes what a source sends says what holds
pub takes : (g : Lines) (view : List ℕ) (steps : List Step) → IsRun view steps → SyncsTake g (state_after view steps)
takes g view steps run = takes_say g (state_after view steps)
