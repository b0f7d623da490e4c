-- A leader begins, and is seen as a leader of the theory that begins.
use Rattle.std.proofs.Common.{◌≡◌, ℕ, List, [], lit<, refl}
use Rattle.protocol_laws.specs.Numbers.{epoch_number}
use Rattle.protocol_laws.specs.Protocol.{Step, IsRun, state_after}
use Rattle.call_table.specs.Rows.{row_at}
use Rattle.call_table.specs.declared.row.Stage.TheVariants as stages
use Rattle.role_laws.proofs.Runs.{run_leaders}
use Rattle.role_laws.proofs.Tables.{leader_same}
use Rattle.role_laws.specs.Tables as theory
use Rattle.leader_refinement.specs.Seen.{known_of}
use Rattle.leader_refinement.specs.Follows.{Hash, RowFits}
use Rattle.leader_refinement.specs.Laws.{LeadersBegin}

-- nothing is known of a key that no row names
nothing_known : (key : List ℕ) → theory.Unknown ≡ known_of (row_at key []).known
unfolding row_at
nothing_known key = refl

no_row_idle : (key : List ℕ) → (row_at key []).stage ≡ stages.Idle
unfolding row_at
no_row_idle key = refl

no_row_fits : (hash : Hash) (views : List (List ℕ)) (key : List ℕ) → RowFits hash views key (row_at key [])
unfolding row_at
no_row_fits hash views key = (tt, tt)

same_row : (known known_too : theory.Known) → known ≡ known_too → theory.row_of known theory.Idle [] ≡ theory.row_of known_too theory.Idle []
same_row known known_too e = rw e refl

pub run_begins : (view : List ℕ) (steps : List Step) → IsRun view steps → LeadersBegin (state_after view steps)
run_begins view steps run g key owed fact me accepts turns owes later elected established unled epoch views = let s = state_after view steps in record {
  holds = leader_same g s (theory.new_leader (epoch_number fact.epoch) (record { peer = me; owed = owed })) _ (λ j. same_row theory.Unknown (known_of (row_at j []).known) (nothing_known j))
      ((run_leaders view steps run).starts g (epoch_number fact.epoch) (record { peer = me; owed = owed }) owes later elected established unled);
  turns = turns;
  fits = record { epoch = epoch; seq = lit< tt; views = views; rows = no_row_fits g.hash fact.views; calls = tt; calm = λ k none. no_row_idle k };
  task = tt;
}
