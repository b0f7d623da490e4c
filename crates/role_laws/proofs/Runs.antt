-- The laws in each state of a run.
use Rattle.role_laws.proofs.Growth.{owes_stay, call_spared_step}
use Rattle.protocol_laws.proofs.Later.{stay_step, stay_after}
use Rattle.std.proofs.Common.{◌≡◌, ℕ, List, Some, refl, inl}
use Rattle.protocol_laws.proofs.Descent.{Whole, run_whole}
use Rattle.protocol_laws.proofs.Trees.{run_versions}
use Rattle.protocol_laws.specs.Versions.{VersionsAreSafe}
use Rattle.protocol_laws.proofs.Replies.{run_entries}
use Rattle.protocol_laws.specs.Entries.{EntriesAreSafe}
use Rattle.protocol_laws.specs.Protocol.{State, Step, IsRun, state_after}
use Rattle.role_laws.proofs.Steps.{leader_step, others_step, get_reply, check_reply, get_reply_stays, check_reply_stays, get_stays, put_says_stays, put_is_there, put_goes_in}
use Rattle.role_laws.proofs.LeaderMoves.{next_begins, reply_counts, check_counts, write_counts, rewrite_counts, read_finds_nothing, read_finds_settled, check_ends}
use Rattle.role_laws.proofs.Guards.{newest_of_reread, settled_parent, read_parent}
use Rattle.role_laws.proofs.Outcomes.{object_register, gone_register, stamp_outcome, matched_object}
use Rattle.role_laws.proofs.Acts.{reading_began, sure_began, checking_began, writes, rewrites, settles_write, settles_rewrite, reads, times_out, is_lost}
use Rattle.role_laws.proofs.Turns.{call_joins, call_is_refused, waiting_times_out, row_moves, reading_starts, checking_starts, own_acknowledgement, leader_leaves, leader_gives, owes_give}
use Rattle.role_laws.proofs.Rounds.{turn_holds, turns_start}
use Rattle.role_laws.proofs.Rules.{move_for_others, turns_after, leader_begins, unled_at_first, unled_after, unled_moves, check_then_answer, read_then_over, read_then_rewrite}
use Rattle.role_laws.proofs.Tables.{move_then, leader_same, put_leaves_nothing_known}
use Rattle.role_laws.specs.LeaderLaws.{TablesStay, PeersReply, KeyLaws, RowMoves, LeaderMoves, LeadersMove}
use Rattle.role_laws.specs.Tables.{Ghosts, Seat, Known, Leader}
use Rattle.role_laws.specs.Leaders.{LeaderHolds}

tables : (s : State) → Whole s.objects → VersionsAreSafe s.objects → EntriesAreSafe s → TablesStay s
tables s w versions entries = record {
  spared = λ g h e l may ghosts rounds spares a. leader_step g h s e l may w ghosts rounds spares a;
  others = λ g h e l may ghosts rounds others a. others_step g h s e l may w ghosts rounds others a;
  moves = λ g h steps l m move n o a. move_for_others g h s steps l m w move n o a;
  owed = λ g h e p o may ghosts spares a. owes_stay g h s _ p o (stay_step s e may) ghosts (λ i m. call_spared_step s e i (spares i m)) a;
  turns = λ g steps may a. turns_after g s steps may w a;
  replies = λ g h steps q d r k entry object may ghosts turns a. get_reply_stays g h s _ q d r k entry object (stay_after s steps may) ghosts turns a;
  checks = λ g h steps q d r may ghosts turns a. check_reply_stays g h s _ q d r (stay_after s steps may) ghosts turns a;
  gets = λ g h steps d r k may ghosts turns a. get_stays g h s _ d r k (stay_after s steps may) ghosts turns a;
  puts = λ steps d k v x may a. put_says_stays s _ d k v x (stay_after s steps may) a;
  acks = λ steps v q may a. (stay_after s steps may).versions.acked v q a;
}

replies : (s : State) → Whole s.objects → VersionsAreSafe s.objects → EntriesAreSafe s → (q d : ℕ) → s.objects.ledger.ballot q ≡ d → PeersReply s q d
replies s w versions entries q d stands = record {
  get_reply = λ g r k object turns says trusted holds. get_reply g s q d r k says.turn object versions entries w says.started (turns d r says.turn says.started) says.on_key stands trusted holds;
  check_reply = λ g r turns says. check_reply g s q d r says.turn entries says.started (turns d r says.turn says.started) stands;
  put_is_there = λ k v x trusted accepted a e. (put_is_there s q d k v x versions stands trusted accepted a e, tt);
  put_goes_in = λ k v x trusted accepted a l. put_goes_in s q d k v x versions stands trusted accepted a l;
}

pub run_peers : (view : List ℕ) (steps : List Step) (q d : ℕ) → IsRun view steps → (state_after view steps).objects.ledger.ballot q ≡ d → PeersReply (state_after view steps) q d
run_peers view steps q d run = replies (state_after view steps) (run_whole view steps run) (run_versions view steps run) (run_entries view steps run) q d

pub run_tables : (view : List ℕ) (steps : List Step) → IsRun view steps → TablesStay (state_after view steps)
run_tables view steps run = tables (state_after view steps) (run_whole view steps run) (run_versions view steps run) (run_entries view steps run)

keys : (s : State) → Whole s.objects → (g : Ghosts) (d : ℕ) (k : List ℕ) → KeyLaws s g d k
keys s w g d k = record {
  object_register = λ v x a. object_register s v x a;
  gone_register = λ u stamp digest a. gone_register g s d k u stamp digest w a;
  stamp_outcome = λ u stamp digest bytes c a by. stamp_outcome g s d k u stamp digest bytes c w a by;
  matched_object = λ u stamp digest gone x apart a e. matched_object g s d k u stamp digest gone x w apart a e;
  newest_of_reread = λ u i r replied best object elected newest reading quorum. newest_of_reread s w g d k u i r replied best object elected newest reading quorum;
  settled_parent = λ known is a. settled_parent g s d k known is a;
  read_parent = λ known i r replied best object elected a reading quorum. read_parent g s d k known i r replied best object w elected a reading quorum;
  put_leaves_nothing_known = λ v x acks known a b. put_leaves_nothing_known g s d k v x acks known a b;
}

pub run_keys : (view : List ℕ) (steps : List Step) (g : Ghosts) (d : ℕ) (k : List ℕ) → IsRun view steps → KeyLaws (state_after view steps) g d k
run_keys view steps g d k run = keys (state_after view steps) (run_whole view steps run) g d k

rows : (s : State) → Whole s.objects → (g : Ghosts) (p : Seat) (d : ℕ) (k : List ℕ) (known : Known) (rest : List ℕ) → RowMoves s g p d k known rest
rows s w g p d k known rest = record {
  begins = λ i a. next_begins g s p d k known rest i a;
  reply_counts = λ i r replied best object q entry theirs says a. reply_counts g s p d k known rest i r replied best object q entry theirs says a;
  check_counts = λ i r replied reply q says a. check_counts g s p d k known rest i r replied reply q says a;
  write_counts = λ i v x acks q says a. write_counts g s p d k known rest i v x acks q says a;
  rewrite_counts = λ i v x acks q says a. rewrite_counts g s p d k known rest i v x acks q says a;
  finds_nothing = λ i r replied best object elected quorum none a. read_finds_nothing g s p d k known rest i r replied best object w elected quorum none a;
  finds_settled = λ i r replied best x elected quorum same a. read_finds_settled g s p d k known rest i r replied best x w elected quorum same a;
  check_ends = λ i r replied reply quorum a. check_ends g s p d k known rest i r replied reply quorum a;
  reading_began = λ i r replied best object a. reading_began g s p d k known rest i r replied best object a;
  sure_began = λ i a. sure_began g s p d k known rest i a;
  checking_began = λ i r replied reply a. checking_began g s p d k known rest i r replied reply a;
}

pub run_rows : (view : List ℕ) (steps : List Step) (g : Ghosts) (p : Seat) (d : ℕ) (k : List ℕ) (known : Known) (rest : List ℕ) → IsRun view steps → RowMoves (state_after view steps) g p d k known rest
run_rows view steps g p d k known rest run = rows (state_after view steps) (run_whole view steps run) g p d k known rest

leader_rows : (s : State) → Whole s.objects → (g : Ghosts) (l : Leader) (k : List ℕ) (known : Known) (rest : List ℕ) → LeaderHolds g s l → LeaderMoves s g l k known rest
leader_rows s w g l k known rest a = record {
  times_out = λ i row. times_out g s l k known i rest a row;
  waiting_times_out = λ stage j row m. waiting_times_out g s l k known stage rest j a row m;
  is_lost = λ i row. is_lost g s l k known i rest a row;
  reading_starts = λ i row. reading_starts g s l k known i rest a row;
  checking_starts = λ i reply row is keeps. checking_starts g s l k known i rest a row reply is keeps;
  round_holds = λ i row. turn_holds g s l.seat l.epoch k known i a.elected (row.known refl) (row.calls i (inl refl));
  writes = λ i u z fits row parent applies. writes g s l k known i rest u z a w fits row parent applies;
  rewrites = λ i u x fits row parent object fresh. rewrites g s l k known i rest u x a w fits row parent object fresh;
  settles_write = λ i v x acks row quorum. settles_write g s l k known i rest v x acks a w row quorum;
  settles_rewrite = λ i v x acks row quorum. settles_rewrite g s l k known i rest v x acks a w row quorum;
  reads = λ i reply row keeps. reads g s l k known i rest reply a w row keeps;
  check_then_answer = λ i r replied reply row quorum. check_then_answer g s l k known i r replied reply rest a w row quorum;
  read_then_over = λ i r replied best object z row fits quorum applies. read_then_over g s l k known i r replied best object rest a w row z fits quorum applies;
  read_then_rewrite = λ i r replied best x row fits quorum. read_then_rewrite g s l k known i r replied best (Some x) rest a w row x refl fits quorum;
}

leaders : (s : State) → Whole s.objects → VersionsAreSafe s.objects → EntriesAreSafe s → LeadersMove s
leaders s w versions entries = record {
  rows = λ g l k known rest a. leader_rows s w g l k known rest a;
  unled = λ g d turns fresh. unled_at_first g s d w turns fresh;
  unled_stays = λ g d e p steps may own n a. unled_after g s d e p steps own n a;
  unled_moves = λ g h d steps l move n a. unled_moves g h s d steps l move n a;
  starts = λ g d p owes led elected established unled. leader_begins g s d p owes led elected established unled;
  joins = λ g l c a may. call_joins g s l c a w entries may;
  refused = λ g l c r refused a may. call_is_refused g s l c r refused a w entries may;
  leaves = λ g l is a distinct among. leader_leaves g s l is a distinct among;
  gives = λ g l x o a. leader_gives g s l x o w a;
  others_give = λ g p x o a. owes_give g s p x o w a;
  row_moves = λ g l k row a b. row_moves g s l k row a b;
  own_acknowledgement = λ p d k v x acks stands trusted accepted a. own_acknowledgement s p d k v x acks versions stands trusted accepted a;
  turns_start = λ g d r x here old. turns_start g s d r x here old;
  move_then = λ g h f es fs l m same_epoch same_peer homes a b. move_then g h f s es fs l m w same_epoch same_peer homes a b;
  leader_same = λ g l rows same a. leader_same g s l rows same a;
}

pub run_leaders : (view : List ℕ) (steps : List Step) → IsRun view steps → LeadersMove (state_after view steps)
run_leaders view steps run = leaders (state_after view steps) (run_whole view steps run) (run_versions view steps run) (run_entries view steps run)
