-- What a step on a key keeps to, and the steps that many rules share.
use Rattle.std.specs.Prelude.{All, IsSome}
use Rattle.std.proofs.Common.{◌≡◌, ◌<◌, ◌⊎◌, ◌+◌, ◌*◌, ◌∙◌, ap, sym, refl, subst, inl, inr, ℕ, Bool, true, false, length, List, [], ◌∷◌, Option, Some, None, arith}
use Rattle.std.proofs.lemmas.Bool.{true≢false}
use Rattle.std.proofs.lemmas.List.Elements.{All-nil}
use Rattle.ens_base.specs.Lists.{◌∈◌, same_bytes}
use Rattle.ens_base.specs.declared.epoch.Version.{Version}
use Rattle.ens_base.specs.declared.reply.Reply.{Reply}
use Rattle.register_model.specs.declared.note.Note.{Note}
use Rattle.register_model.specs.declared.note.Note.TheVariants.{Proposed, Settled, Read}
use Rattle.phase_rows.specs.declared.phase.Then.{Then}
use Rattle.phase_rows.specs.declared.phase.Then.TheVariants.{Stay, Untrust}
use Rattle.phase_rows.specs.declared.rules.KeyRule.{KeyRule}
use Rattle.phase_rows.specs.declared.rules.KeyRule.TheVariants as key_rules
use Rattle.call_table.specs.Calls.{running, without_running}
use Rattle.call_table.specs.Rows.{row_at}
use Rattle.call_table.specs.Tables.{ended, rested}
use Rattle.call_table.specs.declared.row.Known.{Known}
use Rattle.call_table.specs.declared.row.Stage.{Stage}
use Rattle.call_table.specs.declared.row.Stage.TheVariants as stages
use Rattle.call_table.specs.declared.waiting.Waiting.{Waiting}
use Rattle.leader_output.specs.Outs.{leaves, comes}
use Rattle.leader_output.specs.declared.out.LeadOut.{LeadOut}
use Rattle.leader_output.specs.declared.out.Outgoing.{Outgoing}
use Rattle.leader_output.specs.declared.out.Own.{Own}
use Rattle.leader.specs.Leaders.{idle, with_task, knows, stands, base, answered}
use Rattle.leader_laws.specs.Measure.{task_turns, weight, turns_next, turns_after}
use Rattle.leader_laws.specs.Steps.{MayGo, NamesOn, AsksOn, TellsOf, IsCause, IsEnded, Serves, KeepsOthers, Numbers, Runs, is_start, Fits, IsReady, IsReadyFor, CountsIn, CountsInOwnViews}
use Rattle.leader.specs.declared.leader.Leader.{Leader}
use Rattle.leader.specs.declared.pending.Pending.{Pending}
use Rattle.leader.specs.declared.pending.Pending.TheVariants as tasks
use Rattle.leader_laws.proofs.Lookups.{known_other, stage_other, stage_here, stages_then, known_then, one_fewer}

-- ## Notes

-- only a put notes a version as settled
abbrev pub OnlyPutSettles : KeyRule → List Note → Type 0
OnlyPutSettles n notes = (k : List ℕ) (version : Version) → Settled k version ∈ notes → n ≡ key_rules.Put

-- without an answer, at most one note is made by this rule: that a version of this key is
-- proposed, or by a put that one is settled
abbrev TellsBy : KeyRule → List ℕ → List Note → Type 0
TellsBy n key [] = Unit {0}
TellsBy n key (Proposed k version parent call ∷ []) = k ≡ key
TellsBy n key (Settled k version ∷ []) = (k ≡ key) × (n ≡ key_rules.Put)
TellsBy n key notes = ⊥

tells_of : (rule : KeyRule) (key : List ℕ) (notes : List Note) → TellsBy rule key notes → TellsOf key notes
tells_of rule key [] tells = tt
tells_of rule key (Proposed k version parent call ∷ []) tells = tells
tells_of rule key (Settled k version ∷ []) tells = tells.0
tells_of rule key (Read id k base ∷ []) tells = absurd tells
tells_of rule key (Proposed k version parent call ∷ y ∷ notes) tells = absurd tells
tells_of rule key (Settled k version ∷ y ∷ notes) tells = absurd tells
tells_of rule key (Read id k base ∷ y ∷ notes) tells = absurd tells

settled_by : (rule : KeyRule) (key : List ℕ) (notes : List Note) → TellsBy rule key notes → OnlyPutSettles rule notes
settled_by rule key [] tells k version h = absurd h
settled_by rule key (Proposed j own parent call ∷ []) tells k version (inl e) = absurd cc
settled_by rule key (Proposed j own parent call ∷ []) tells k version (inr h) = absurd h
settled_by rule key (Settled j own ∷ []) tells k version h = tells.1
settled_by rule key (Read id j base ∷ []) tells k version h = absurd tells
settled_by rule key (Proposed j own parent call ∷ y ∷ notes) tells k version h = absurd tells
settled_by rule key (Settled j own ∷ y ∷ notes) tells k version h = absurd tells
settled_by rule key (Read id j base ∷ y ∷ notes) tells k version h = absurd tells

pub read_settles_nothing : (rule : KeyRule) (id : ℕ) (key : List ℕ) (base : Option Version) → OnlyPutSettles rule (Read id key base ∷ [])
read_settles_nothing rule id key base k version (inl e) = absurd cc
read_settles_nothing rule id key base k version (inr h) = absurd h

-- ## One step on a key

-- A step on a key leads from a leader to another, and has an answer. `n` is its rule, and `size` is
-- the most rules that run from it on for one call. If `Ready` holds before, the leader is ready for
-- what comes next.
pub record IsStep (rule : KeyRule) (key : List ℕ) (size : ℕ) (Ready : Type 0) (l : Leader) (r : Leader × LeadOut) : Type 0 where
  pub fact : r.0.fact ≡ l.fact
  pub me : r.0.me ≡ l.me
  pub accepts : r.0.accepts ≡ l.accepts
  pub others : KeepsOthers key l.table r.0.table
  pub sends : All (MayGo l.me) r.1.sends
  pub names : NamesOn key r.1.then r.1.keys
  pub asks : AsksOn rule key r.1.own
  pub serves : Serves key l.table r.0.table r.1.answers r.1.notes
  pub numbers : Numbers l r.0
  pub lowers : turns_after r.1 + weight r.0 < size + weight l
  pub ready : Ready → IsReadyFor key r.1.own r.1.then r.0
  pub kept : (Ready → Runs key l) ⊎ (r.0.table ≡ l.table)
  pub settles : OnlyPutSettles rule r.1.notes
  pub counts : CountsInOwnViews l → CountsInOwnViews r.0

-- the leader at the end of a step in which no call is answered
pub record IsMoved (key : List ℕ) (l m : Leader) : Type 0 where
  pub fact : m.fact ≡ l.fact
  pub me : m.me ≡ l.me
  pub accepts : m.accepts ≡ l.accepts
  pub seq : m.seq ≡ l.seq
  pub calls : m.table.calls ≡ l.table.calls
  pub others : KeepsOthers key l.table m.table
  pub counts : CountsInOwnViews l → CountsInOwnViews m

pub with_task_moves : (key : List ℕ) (task : Pending) (l : Leader) → IsMoved key l (with_task task l)
with_task_moves key task l = record { fact = refl; me = refl; accepts = refl; seq = refl; calls = refl; others = λ k off. refl; counts = λ before. before }

pub stays : (key : List ℕ) (l : Leader) → IsMoved key l l
stays key l = record { fact = refl; me = refl; accepts = refl; seq = refl; calls = refl; others = λ k off. refl; counts = λ before. before }

pub knows_moves : (key : List ℕ) (known : Known) (l : Leader) → IsMoved key l (knows key known l)
knows_moves key known l = record { fact = refl; me = refl; accepts = refl; seq = refl; calls = refl; others = λ k off. known_other key k known l.table.rows off; counts = λ before k. known_then (CountsIn l.fact.views) key k known l.table.rows (before k) }

pub stands_moves : (key : List ℕ) (stage : Stage) (l : Leader) → (CountsInOwnViews l → CountsIn l.fact.views stage) → IsMoved key l (stands key stage l)
stands_moves key stage l here = record { fact = refl; me = refl; accepts = refl; seq = refl; calls = refl; others = λ k off. stage_other key k stage l.table.rows off; counts = λ before k. stages_then (CountsIn l.fact.views) key k stage l.table.rows (here before) (before k) }

pub moves_on : (key : List ℕ) (l m n : Leader) → IsMoved key l m → IsMoved key m n → IsMoved key l n
moves_on key l m n a b = record {
  fact = b.fact ∙ a.fact;
  me = b.me ∙ a.me;
  accepts = b.accepts ∙ a.accepts;
  seq = b.seq ∙ a.seq;
  calls = b.calls ∙ a.calls;
  others = λ k off. b.others k off ∙ a.others k off;
  counts = λ before. b.counts (a.counts before);
}

-- an answer without an answer to a call
abbrev pub out : Bool → List Outgoing → List Note → Option Own → Then → List (List ℕ) → LeadOut
out leave sends notes own next keys = record (comes next) { leave = leave; sends = sends; notes = notes; own = own; keys = keys }

pub none_may : (me : ℕ) → All (MayGo me) []
none_may me = All-nil (MayGo me)

same_weight : (a size x y : ℕ) (before after : List Waiting) → after ≡ before → a + y < size + x → a + (13 * length after + y) < size + (13 * length before + x)
same_weight a size x y before after e less = let same : length after ≡ length before = ap length e in omega (arith, same, less)

-- a step in which no call is answered
pub goes : (rule : KeyRule) (size : ℕ) (key : List ℕ) (Ready : Type 0) (l m : Leader) (leave : Bool) (sends : List Outgoing) (notes : List Note) (own : Option Own) (next : Then) (keys : List (List ℕ))
    → IsMoved key l m → All (MayGo l.me) sends → NamesOn key next keys → AsksOn rule key own → TellsBy rule key notes
    → turns_next own next keys + task_turns m.task < size + task_turns l.task
    → (Ready → IsReadyFor key own next m) → (Ready → Runs key l) ⊎ (m.table ≡ l.table) → IsStep rule key size Ready l (m, out leave sends notes own next keys)
goes rule size key Ready l m leave sends notes own next keys moved may names asks tells less ready kept = record {
  fact = moved.fact;
  me = moved.me;
  accepts = moved.accepts;
  others = moved.others;
  sends = may;
  names = names;
  asks = asks;
  serves = (moved.calls, tells_of rule key notes tells);
  numbers = inl moved.seq;
  lowers = same_weight (turns_next own next keys) size (task_turns l.task) (task_turns m.task) l.table.calls m.table.calls moved.calls less;
  ready = ready;
  kept = kept;
  settles = settled_by rule key notes tells;
  counts = moved.counts;
}

-- a free leader is ready for the rules that begin without a task
pub free : (rule : KeyRule) (key : List ℕ) (l : Leader) → is_start rule ≡ true → l.task ≡ tasks.Nothing → IsReady rule key l
free rule key l start none = subst (λ (t : Pending). Fits rule key l t) (sym none) start

-- before a rule that begins without a task
abbrev pub IsFree : List ℕ → Leader → Type 0
IsFree key l = (l.task ≡ tasks.Nothing) × Runs key l

pub room : (a size x : ℕ) → a < size → a + 0 < size + x
room a size x h = omega (arith, h)

pub room_at : (a size x : ℕ) → a < size → a + x < size + x
room_at a size x h = omega (arith, h)

-- nothing happens
pub idle_step : (rule : KeyRule) (size : ℕ) (key : List ℕ) (Ready : Type 0) (l : Leader) → 0 < size → (Ready → l.task ≡ tasks.Nothing) → IsStep rule key size Ready l (idle l)
idle_step rule size key Ready l h ready = goes rule size key Ready l l false [] [] None Stay [] (stays key l) (none_may l.me) refl tt tt (room_at 0 size (task_turns l.task) h) ready (inr refl)

-- the leader steps down
pub leaves_step : (rule : KeyRule) (size : ℕ) (key : List ℕ) (Ready : Type 0) (l : Leader) → 0 < size → (Ready → l.task ≡ tasks.Nothing) → IsStep rule key size Ready l (l, leaves)
leaves_step rule size key Ready l h ready = goes rule size key Ready l l true [] [] None Stay [] (stays key l) (none_may l.me) refl tt tt (room_at 0 size (task_turns l.task) h) ready (inr refl)

-- the tree is no longer trusted
pub untrust_step : (rule : KeyRule) (size : ℕ) (key : List ℕ) (Ready : Type 0) (l : Leader) → 0 < size → (Ready → l.task ≡ tasks.Nothing) → IsStep rule key size Ready l (l, comes Untrust)
untrust_step rule size key Ready l h ready = goes rule size key Ready l l false [] [] None Untrust [] (stays key l) (none_may l.me) refl tt tt (room_at 0 size (task_turns l.task) h) ready (inr refl)

-- ## A running call is answered

pub runs : (key : List ℕ) (calls : List Waiting) (w : Waiting) → running key calls ≡ Some w → IsSome (running key calls)
runs key calls w e = subst (λ (o : Option Waiting). IsSome o) (sym e) refl

ended_others : (key k : List ℕ) (l m : Leader) → KeepsOthers key l.table m.table → same_bytes key k ≡ false → row_at k (ended key m.table).rows ≡ row_at k l.table.rows
unfolding ended rested
ended_others key k l m others off = stage_other key k stages.Idle m.table.rows off ∙ others k off

ended_is : (key : List ℕ) (l m : Leader) (w : Waiting) → m.table.calls ≡ l.table.calls → running key l.table.calls ≡ Some w → IsEnded key l.table (ended key m.table) w
unfolding ended rested
ended_is key l m w calls e = record {
  running = e;
  calls = ap (without_running key) calls;
  idle = stage_here key stages.Idle m.table.rows;
}

ended_counts : (key : List ℕ) (m : Leader) → CountsInOwnViews m → CountsInOwnViews (record m { table = ended key m.table })
unfolding ended rested
ended_counts key m before k = stages_then (CountsIn m.fact.views) key k stages.Idle m.table.rows tt (before k)

fewer_weight : (size x y : ℕ) (before after : List Waiting) → length before ≡ length after + 1 → 0 < size → y ≡ x → 13 + (13 * length after + y) < size + (13 * length before + x)
fewer_weight size x y before after one some same = omega (arith, one, some, same)

pub answered_step : (rule : KeyRule) (size : ℕ) (key : List ℕ) (l m : Leader) (w : Waiting) (reply : Reply) (sends : List Outgoing) (notes : List Note)
    → IsMoved key l m → m.task ≡ l.task → running key l.table.calls ≡ Some w → All (MayGo l.me) sends → IsCause key w reply notes → OnlyPutSettles rule notes → 0 < size
    → IsStep rule key size (IsFree key l) l (answered w reply key (out false sends notes None Stay []) m)
answered_step rule size key l m w reply sends notes moved task e may cause settles some = record {
  fact = moved.fact;
  me = moved.me;
  accepts = moved.accepts;
  others = λ k off. ended_others key k l m moved.others off;
  sends = may;
  names = refl;
  asks = tt;
  serves = (w, is, refl, refl, cause);
  numbers = inl moved.seq;
  lowers = fewer_weight size (task_turns l.task) (task_turns m.task) l.table.calls (ended key m.table).calls fewer some (ap task_turns task);
  ready = λ before. free key_rules.StartNextCall key (record m { table = ended key m.table }) refl (task ∙ before.0);
  kept = inl (λ before. before.1);
  settles = settles;
  counts = λ before. ended_counts key m (moved.counts before);
}
  where
    is : IsEnded key l.table (ended key m.table) w
    is = ended_is key l m w moved.calls e

    fewer : length l.table.calls ≡ length (ended key m.table).calls + 1
    fewer = subst (λ (cs : List Waiting). length l.table.calls ≡ length cs + 1) (sym is.calls) (one_fewer key l.table.calls w e)

-- ## Steps that run on from others

kept_by : (Before After R T : Type 0) → (After → Before) → (Before → R) ⊎ T → (After → R) ⊎ T
kept_by Before After R T from (inl f) = inl (λ after. f (from after))
kept_by Before After R T from (inr e) = inr e

-- a step from a ready leader, if it is one from a leader that is free or has a running call
pub on_ready : (rule : KeyRule) (size : ℕ) (key : List ℕ) (Before After : Type 0) (l : Leader) (r : Leader × LeadOut) → (After → Before) → IsStep rule key size Before l r → IsStep rule key size After l r
on_ready rule size key Before After l r from s = record {
  fact = s.fact;
  me = s.me;
  accepts = s.accepts;
  others = s.others;
  sends = s.sends;
  names = s.names;
  asks = s.asks;
  serves = s.serves;
  numbers = s.numbers;
  lowers = s.lowers;
  ready = λ after. s.ready (from after);
  kept = kept_by Before After (Runs key l) (r.0.table ≡ l.table) from s.kept;
  settles = s.settles;
  counts = s.counts;
}

-- a leader that is ready for a rule that begins without a task has none
no_start : (rule m : KeyRule) → is_start m ≡ false → rule ≡ m → is_start rule ≡ true → ⊥
no_start rule m off e held = absurd (true≢false (sym held ∙ ap is_start e ∙ off))

pub no_task : (rule : KeyRule) (key : List ℕ) (l : Leader) (task : Pending) → is_start rule ≡ true → Fits rule key l task → task ≡ tasks.Nothing
no_task rule key l tasks.Nothing start fits = refl
no_task rule key l (tasks.Write content parent) start fits = absurd (no_start rule key_rules.Write refl fits.0 start)
no_task rule key l (tasks.Rewrite o) start fits = absurd (no_start rule key_rules.Rewrite refl fits.0 start)
no_task rule key l (tasks.Check reply) start fits = absurd (no_start rule key_rules.Check refl fits.0 start)
no_task rule key l (tasks.Apply current) start fits = absurd (no_start rule key_rules.Apply refl fits.0 start)
no_task rule key l (tasks.Propose o parent call) start fits = absurd (no_start rule key_rules.Put refl fits.0 start)

-- a rule that begins without a task: with no call nothing happens, and with a running call it is a step
pub started_by : (rule : KeyRule) (size : ℕ) (key : List ℕ) (l : Leader) (call : Option Waiting) (row : Option Waiting → Leader × LeadOut) → is_start rule ≡ true → 0 < size → running key l.table.calls ≡ call
    → row None ≡ idle l → ((w : Waiting) → running key l.table.calls ≡ Some w → IsStep rule key size (IsFree key l) l (row (Some w))) → IsStep rule key size (IsReady rule key l) l (row call)
started_by rule size key l None row start some e none step = subst (λ (r : Leader × LeadOut). IsStep rule key size (IsReady rule key l) l r) (sym none) (idle_step rule size key (IsReady rule key l) l some (λ ready. no_task rule key l l.task start ready))
started_by rule size key l (Some w) row start some e none step =
    on_ready rule size key (IsFree key l) (IsReady rule key l) l (row (Some w)) (λ ready. (no_task rule key l l.task start ready, runs key l.table.calls w e)) (step w e)

-- ## Rules that take the task

in_all : (a size x y : ℕ) → a < size + x + (y + 0) → a < size + (y + x)
in_all a size x y h = omega (arith, h)

-- the task is taken first
pub taken : (rule : KeyRule) (size : ℕ) (key : List ℕ) (Before After : Type 0) (l : Leader) (r : Leader × LeadOut) → (After → Before) → IsStep rule key (size + task_turns l.task) Before (with_task tasks.Nothing l) r → IsStep rule key size After l r
taken rule size key Before After l r from s = record {
  fact = s.fact;
  me = s.me;
  accepts = s.accepts;
  others = s.others;
  sends = s.sends;
  names = s.names;
  asks = s.asks;
  serves = s.serves;
  numbers = s.numbers;
  lowers = in_all (turns_after r.1 + weight r.0) size (task_turns l.task) (13 * length l.table.calls) s.lowers;
  ready = λ after. s.ready (from after);
  kept = kept_by Before After (Runs key l) (r.0.table ≡ l.table) from s.kept;
  settles = s.settles;
  counts = s.counts;
}

-- with a task left, the key has a running call
has_run : (rule : KeyRule) (key : List ℕ) (l : Leader) (task : Pending) → is_start rule ≡ false → Fits rule key l task → Runs key l
has_run rule key l tasks.Nothing off fits = absurd (true≢false (sym fits ∙ off))
has_run rule key l (tasks.Write content parent) off fits = fits.1
has_run rule key l (tasks.Rewrite o) off fits = fits.1
has_run rule key l (tasks.Check reply) off fits = fits.1
has_run rule key l (tasks.Apply current) off fits = fits.1
has_run rule key l (tasks.Propose o parent call) off fits = fits.1

pub free_after : (rule : KeyRule) (key : List ℕ) (l : Leader) → is_start rule ≡ false → IsReady rule key l → IsFree key (with_task tasks.Nothing l)
free_after rule key l off ready = (refl, has_run rule key l l.task off ready)

pub more : (a b x : ℕ) → a < b → a < b + x
more a b x h = omega (arith, h)
