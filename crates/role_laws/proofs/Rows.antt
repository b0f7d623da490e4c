-- What a leader does when replies to a read have come is a move.
use Rattle.ens_base.specs.declared.epoch.Version.{Version}
use Rattle.role_laws.proofs.Turns.{reading_starts, checking_starts}
use Rattle.std.proofs.Common.{◌≡◌, ℕ, suc, ◌<◌, ◌^◌, Bool, true, false, List, [], Option, None, Some, eqb, eqb-true, ap, refl, sym}
use Rattle.ens_base.specs.declared.command.Command.{Command}
use Rattle.ens_base.specs.declared.command.Command.TheVariants.{Get, PutOnce, Update, Append, Add, Swap, Over, Delete}
use Rattle.register_model.specs.declared.register.Register.{Register}
use Rattle.register_model.specs.declared.register.Register.TheVariants.{Absent, Present}
use Rattle.register_model.specs.Registers.{Outcome, Keeps, Writes, outcome, written}
use Rattle.quorums.specs.Quorums.{is_quorum}
use Rattle.protocol_laws.proofs.Descent.{Whole, run_whole}
use Rattle.protocol_laws.specs.Objects.{epoch_of}
use Rattle.protocol_laws.specs.Book.{register_at}
use Rattle.protocol_laws.specs.Protocol.{State, Step, IsRun, state_after}
use Rattle.role_laws.proofs.Outcomes.{object_register, gone_register, stamp_outcome}
use Rattle.role_laws.proofs.Rounds.{move_same}
use Rattle.role_laws.proofs.Acts.{reads}
use Rattle.role_laws.proofs.LeaderMoves.{read_finds_nothing, read_finds_settled}
use Rattle.role_laws.proofs.Rules.{sure_writes, read_then_over, read_then_rewrite, read_then_lost, begun_writes}
use Rattle.role_laws.specs.Tables.{Object, Known, Nothing, Reading, Sure, Leader, Ghosts, base_of, row_of, held, Unknown, Held, Begun}
use Rattle.role_laws.specs.Leaders.{RowHolds, LeaderHolds, IsObjectOf, IsSettledKey}
use Rattle.role_laws.specs.Moves.{IsLeaderMove}
use Rattle.role_laws.specs.Rows.{Moved, applied, overwrites, by_epoch, by_every, by_object, by_over, by_entry, after_replies, RepliesMove, begun, needs_bytes, by_seen, by_need, call_starts, StartsMove}
use Rattle.std.proofs.lemmas.Option.{none-some, same_Some}

abbrev Moves : Ghosts → State → Moved → Type 0
Moves g s m = IsLeaderMove g s m.steps g m.lead

-- a command is applied to the settled register
applied_moves : (g : Ghosts) (s : State) (l : Leader) (k : List ℕ) (known : Known) (i : ℕ) (rest : List ℕ) (o : Outcome) → LeaderHolds g s l → Whole s.objects → suc l.seq < 2 ^ 64 → RowHolds g s l.seat l.epoch k (row_of known (Sure i) rest) → outcome (s.book.asked i).command (register_at s.book (base_of known)) ≡ o → Moves g s (applied l k known i rest o)
applied_moves g s l k known i rest (Writes z) a w fits row e = sure_writes g s l k known i rest z a w fits row e
applied_moves g s l k known i rest (Keeps reply) a w fits row e = reads g s l k known i rest reply a w row e

over_outcome : (c : Command) (x : Register) (z : Option (List ℕ)) → overwrites c ≡ Some z → outcome c x ≡ Writes z
over_outcome (Over v) x z e = ap (λ (y : Option (List ℕ)). Writes y) (same_Some (Some v) z e)
over_outcome Delete x z e = ap (λ (y : Option (List ℕ)). Writes y) (same_Some None z e)
over_outcome Get x z e = absurd (none-some z e)
over_outcome (PutOnce v) x z e = absurd (none-some z e)
over_outcome (Update y v) x z e = absurd (none-some z e)
over_outcome (Append t) x z e = absurd (none-some z e)
over_outcome (Add n) x z e = absurd (none-some z e)
over_outcome (Swap a b) x z e = absurd (none-some z e)

module _ (g : Ghosts) (s : State) (l : Leader) (k : List ℕ) (known : Known) (i r : ℕ) (replied : ℕ → Bool) (best : ℕ) (rest : List ℕ) (a : LeaderHolds g s l) (w : Whole s.objects) (fits : suc l.seq < 2 ^ 64) (quorum : is_quorum replied (s.objects.ledger.views l.epoch) ≡ true) where
  epoch_moves : (x : Object) → RowHolds g s l.seat l.epoch k (row_of known (Reading i r replied best (Some x)) rest) → (b : Bool) → eqb (epoch_of best) l.epoch ≡ b → Moves g s (by_epoch g l k known i best rest (s.book.asked i).command x b)
  epoch_moves x row true t = applied_moves g s l k (held g k best x) i rest (outcome (s.book.asked i).command (written x.stamp x.content)) a w fits (read_finds_settled g s l.seat l.epoch k known rest i r replied best x w a.elected quorum (eqb-true (epoch_of best) l.epoch t) row)
      (ap (λ (y : Register). outcome (s.book.asked i).command y) (sym (object_register s best x (row.stage.holds x refl))))
  epoch_moves x row false t = read_then_rewrite g s l k known i r replied best (Some x) rest a w row x refl fits quorum

  every_moves : (object : Option Object) → RowHolds g s l.seat l.epoch k (row_of known (Reading i r replied best object) rest) → (every : Bool) → Moves g s (by_every l k known i rest every)
  every_moves object row true = read_then_lost g s l k known i r replied best object rest a w row
  every_moves object row false = move_same g s [] l tt a tt

  object_moves : (object : Option Object) → RowHolds g s l.seat l.epoch k (row_of known (Reading i r replied best object) rest) → (every : Bool) → Moves g s (by_object g l k known i best rest (s.book.asked i).command every object)
  object_moves (Some x) row every = epoch_moves x row (eqb (epoch_of best) l.epoch) refl
  object_moves None row every = every_moves None row every

  over_moves : (object : Option Object) → RowHolds g s l.seat l.epoch k (row_of known (Reading i r replied best object) rest) → (every : Bool) (over : Option (Option (List ℕ))) → overwrites (s.book.asked i).command ≡ over → Moves g s (by_over g l k known i best object rest (s.book.asked i).command every over)
  over_moves object row every (Some z) e = read_then_over g s l k known i r replied best object rest a w row z fits quorum (over_outcome (s.book.asked i).command (register_at s.book best) z e)
  over_moves object row every None e = object_moves object row every

  entry_moves : (object : Option Object) → RowHolds g s l.seat l.epoch k (row_of known (Reading i r replied best object) rest) → (every : Bool) (b : Bool) → eqb best 0 ≡ b → Moves g s (by_entry g l k known i best object rest (s.book.asked i).command every b)
  entry_moves object row every true t = applied_moves g s l k Nothing i rest (outcome (s.book.asked i).command Absent) a w fits (read_finds_nothing g s l.seat l.epoch k known rest i r replied best object w a.elected quorum (eqb-true best 0 t) row) refl
  entry_moves object row every false t = over_moves object row every (overwrites (s.book.asked i).command) refl

quorum_moves : (g : Ghosts) (s : State) (l : Leader) (k : List ℕ) (known : Known) (i r : ℕ) (replied : ℕ → Bool) (best : ℕ) (object : Option Object) (rest : List ℕ) (every : Bool) → LeaderHolds g s l → Whole s.objects → suc l.seq < 2 ^ 64 → RowHolds g s l.seat l.epoch k (row_of known (Reading i r replied best object) rest)
    → (quorum : Bool) → is_quorum replied (s.objects.ledger.views l.epoch) ≡ quorum → Moves g s (after_replies g l k known i best object rest (s.book.asked i).command quorum every)
quorum_moves g s l k known i r replied best object rest every a w fits row false t = move_same g s [] l tt a tt
quorum_moves g s l k known i r replied best object rest every a w fits row true t = entry_moves g s l k known i r replied best rest a w fits t object row every (eqb best 0) refl

pub run_replies : (view : List ℕ) (steps : List Step) → IsRun view steps → RepliesMove (state_after view steps)
run_replies view steps run g l k known i r replied best object rest every a fits row = let s = state_after view steps in quorum_moves g s l k known i r replied best object rest every a (run_whole view steps run) fits row (is_quorum replied (s.objects.ledger.views l.epoch)) refl

-- ## The start of a call

begun_moves : (g : Ghosts) (s : State) (l : Leader) (k : List ℕ) (known : Known) (i : ℕ) (rest : List ℕ) (o : Outcome) → LeaderHolds g s l → Whole s.objects → suc l.seq < 2 ^ 64 → IsSettledKey known → RowHolds g s l.seat l.epoch k (row_of known (Begun i) rest) → outcome (s.book.asked i).command (register_at s.book (base_of known)) ≡ o
    → IsLeaderMove g s (begun g l k known i rest o).steps (begun g l k known i rest o).ghosts (begun g l k known i rest o).lead
begun_moves g s l k known i rest (Writes z) a w fits is row e = begun_writes g s l k known i rest z a w fits is row e
begun_moves g s l k known i rest (Keeps reply) a w fits is row e = checking_starts g s l k known i rest a row reply is e

module _ (g : Ghosts) (s : State) (l : Leader) (k : List ℕ) (u : ℕ) (stamp : Version) (digest : List ℕ) (i : ℕ) (rest : List ℕ) (a : LeaderHolds g s l) (w : Whole s.objects) (fits : suc l.seq < 2 ^ 64) (row : RowHolds g s l.seat l.epoch k (row_of (Held u stamp digest false) (Begun i) rest)) where
  seen_moves : (seen : Option Object) → ((x : Object) → seen ≡ Some x → IsObjectOf s u x) → IsLeaderMove g s (by_seen g l k (Held u stamp digest false) i rest (s.book.asked i).command seen).steps (by_seen g l k (Held u stamp digest false) i rest (s.book.asked i).command seen).ghosts (by_seen g l k (Held u stamp digest false) i rest (s.book.asked i).command seen).lead
  seen_moves None is = reading_starts g s l k (Held u stamp digest false) i rest a row
  seen_moves (Some x) is = begun_moves g s l k (Held u stamp digest false) i rest (outcome (s.book.asked i).command (written x.stamp x.content)) a w fits tt row (ap (λ (y : Register). outcome (s.book.asked i).command y) (sym (object_register s u x (is x refl))))

  need_moves : (seen : Option Object) → ((x : Object) → seen ≡ Some x → IsObjectOf s u x) → (b : Bool) → needs_bytes (s.book.asked i).command ≡ b → IsLeaderMove g s (by_need g l k (Held u stamp digest false) i rest (s.book.asked i).command stamp seen b).steps (by_need g l k (Held u stamp digest false) i rest (s.book.asked i).command stamp seen b).ghosts (by_need g l k (Held u stamp digest false) i rest (s.book.asked i).command stamp seen b).lead
  need_moves seen is true e = seen_moves seen is
  need_moves seen is false e = begun_moves g s l k (Held u stamp digest false) i rest (outcome (s.book.asked i).command (Present stamp [])) a w fits tt row (sym (stamp_outcome g s l.epoch k u stamp digest [] (s.book.asked i).command w (row.known refl) e))

starts_move : (g : Ghosts) (s : State) (l : Leader) (k : List ℕ) (known : Known) (i : ℕ) (rest : List ℕ) (seen : Option Object) → Whole s.objects → LeaderHolds g s l → suc l.seq < 2 ^ 64 → RowHolds g s l.seat l.epoch k (row_of known (Begun i) rest) → ((x : Object) → seen ≡ Some x → IsObjectOf s (base_of known) x)
    → IsLeaderMove g s (call_starts g l k known i rest (s.book.asked i).command seen).steps (call_starts g l k known i rest (s.book.asked i).command seen).ghosts (call_starts g l k known i rest (s.book.asked i).command seen).lead
starts_move g s l k Unknown i rest seen w a fits row is = reading_starts g s l k Unknown i rest a row
starts_move g s l k Nothing i rest seen w a fits row is = begun_moves g s l k Nothing i rest (outcome (s.book.asked i).command Absent) a w fits tt row refl
starts_move g s l k (Held u stamp digest true) i rest seen w a fits row is = begun_moves g s l k (Held u stamp digest true) i rest (outcome (s.book.asked i).command Absent) a w fits tt row (ap (λ (y : Register). outcome (s.book.asked i).command y) (sym (gone_register g s l.epoch k u stamp digest w (row.known refl))))
starts_move g s l k (Held u stamp digest false) i rest seen w a fits row is = need_moves g s l k u stamp digest i rest a w fits row seen is (needs_bytes (s.book.asked i).command) refl

pub run_starts : (view : List ℕ) (steps : List Step) → IsRun view steps → StartsMove (state_after view steps)
run_starts view steps run g l k known i rest seen a fits row is = starts_move g (state_after view steps) l k known i rest seen (run_whole view steps run) a fits row is
