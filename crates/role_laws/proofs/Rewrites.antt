-- The same peer leads again: a read finds the version of the epoch before, which is rewritten, settled and read.
use Rattle.protocol_laws.specs.Ledger.{put}
use Rattle.std.proofs.Common.{◌≡◌, ℕ, ◌≤◌, ◌<◌, true, false, List, [], ◌∷◌, refl, inl, inr, lit<, lit≤, None, Some, arith, subst}
use Rattle.ens_base.specs.declared.command.Command.TheVariants.{Get}
use Rattle.ens_base.specs.declared.reply.Reply.{Reply}
use Rattle.register_model.specs.declared.call.Call.{Call}
use Rattle.protocol_laws.specs.Book.{version_of}
use Rattle.protocol_laws.specs.Protocol.{Step, Ask, Raise, Elect, Accept, Write, Acknowledge, Settle, Note, MayCome, IsRun, state_after}
use Rattle.role_laws.proofs.Runs.{run_tables, run_peers, run_rows, run_leaders}
use Rattle.role_laws.proofs.Witness.{view, key, one, at_one, seat, wrote, object, ghosts_12, steps_14, run_14, turns_14}
use Rattle.role_laws.specs.LeaderLaws.{HasRewritten}
use Rattle.role_laws.specs.Tables.{Object, Unknown, Idle, Begun, Reading, Sure, Rewriting, Leader, Ghosts, version_at, with_row, with_home, held, row_of, new_leader, round_of, turn_of, owing}
use Rattle.role_laws.specs.Leaders.{IsObjectOf, IsUnled, TurnsHold, RowHolds, LeaderHolds}
use Rattle.role_laws.specs.LeaderMessages.{GetReplySays}
use Rattle.role_laws.specs.Moves.{IsLeaderMove, put_rewrite, rewrite_step}

abbrev steps_15 : List Step
steps_15 = Raise 1 2 ∷ steps_14

run_15 : IsRun view steps_15
run_15 = (run_14, (lit≤ tt, tt))

abbrev steps_16 : List Step
steps_16 = Elect 2 (record { epoch = 1; seq = 1 }) ∷ steps_15

below_two : (a : ℕ) → a < 2 → a ≤ 1
below_two a l = omega arith

run_16 : IsRun view steps_16
run_16 = (run_15, (record { fresh = refl; above = lit< tt; listed = refl; is_fact = inr (inl (refl, refl)); voters = one; quorum = refl; reached = at_one (λ q. 2 ≤ (state_after view steps_15).objects.ledger.ballot q) (lit≤ tt); told = λ q a v h l. below_two a l }, tt))

abbrev steps_17 : List Step
steps_17 = Accept 1 2 ∷ steps_16

run_17 : IsRun view steps_17
run_17 = (run_16, (record { elected = refl; stands = refl; newer = lit< tt; old = λ h. h }, tt))

apart : (a b : ℕ) → a < b → a ≡ b → ⊥
apart a b l e = omega arith

unled_17 : IsUnled ghosts_12 (state_after view steps_17) 2
unled_17 = (run_leaders view steps_15 run_15).unled_stays ghosts_12 2 1 1 (Elect 2 (record { epoch = 1; seq = 1 }) ∷ Accept 1 2 ∷ []) (run_16.1, (run_17.1, tt)) (tt, (tt, tt)) (apart 1 2 (lit< tt)) ((run_leaders view steps_15 run_15).unled ghosts_12 2 ((run_tables view steps_14 run_14).turns ghosts_12 (Raise 1 2 ∷ []) (run_15.1, tt) turns_14) refl)

abbrev table_17 : Leader
table_17 = new_leader 2 (seat [])

leader_17 : LeaderHolds ghosts_12 (state_after view steps_17) table_17
leader_17 = (run_leaders view steps_17 run_17).starts ghosts_12 2 (seat []) tt (lit< tt) refl refl unled_17

abbrev fourth : Call
fourth = record { id = 4; key = key; command = Get; event = 4 }

abbrev steps_18 : List Step
steps_18 = Ask fourth ∷ steps_17

abbrev ghosts_18 : Ghosts
ghosts_18 = with_home ghosts_12 4 1

abbrev table_18 : Leader
table_18 = with_row table_17 key (row_of Unknown Idle (4 ∷ []))

move_18 : IsLeaderMove ghosts_12 (state_after view steps_17) (Ask fourth ∷ []) ghosts_18 table_18
move_18 = (run_leaders view steps_17 run_17).joins ghosts_12 table_17 fourth leader_17 (record { fresh = refl; event = refl })

run_18 : IsRun view steps_18
run_18 = (run_17, move_18.may.0)

row_18 : RowHolds ghosts_18 (state_after view steps_18) (seat []) 2 key (row_of Unknown (Begun 4) [])
row_18 = (run_rows view steps_18 ghosts_18 (seat []) 2 key Unknown [] run_18).begins 4 (move_18.holds.rows key)

abbrev ghosts_19 : Ghosts
ghosts_19 = turn_of ghosts_18 table_18 Unknown 4

abbrev table_19 : Leader
table_19 = round_of table_18 key (row_of Unknown (Reading 4 1 (λ q. false) 0 None) [])

move_19 : IsLeaderMove ghosts_18 (state_after view steps_18) [] ghosts_19 table_19
move_19 = ((run_leaders view steps_18 run_18).rows ghosts_18 table_18 key Unknown [] move_18.holds).reading_starts 4 row_18

turns_19 : TurnsHold ghosts_19 (state_after view steps_18)
turns_19 = (run_leaders view steps_18 run_18).turns_start ghosts_18 2 1 (record { call = 4; base = 0 }) (((run_leaders view steps_18 run_18).rows ghosts_18 table_18 key Unknown [] move_18.holds).round_holds 4 row_18)
    ((run_tables view steps_14 run_14).turns ghosts_18 (Raise 1 2 ∷ Elect 2 (record { epoch = 1; seq = 1 }) ∷ Accept 1 2 ∷ Ask fourth ∷ []) (run_15.1, (run_16.1, (run_17.1, (move_18.may.0, tt)))) turns_14)

-- what the tree shows is the object that was written
shown : (x : Object) → Some object ≡ Some x → IsObjectOf (state_after view steps_18) wrote x
unfolding version_at
shown x e = subst (IsObjectOf (state_after view steps_18) wrote) (same e) (record { some = lit< tt; stamp = refl; content = refl })
  where
    same : Some object ≡ Some x → object ≡ x
    same e = cc

reply_19 : GetReplySays ghosts_19 (state_after view steps_18) 1 2 1 key wrote (Some object)
unfolding version_at
reply_19 = (run_peers view steps_18 1 2 run_18 refl).get_reply ghosts_19 1 key (Some object) turns_19 (record { turn = record { call = 4; base = 0 }; started = refl; on_key = refl }) refl shown

row_19 : RowHolds ghosts_19 (state_after view steps_18) (seat []) 2 key (row_of Unknown (Reading 4 1 (put (λ q. false) 1 true) wrote (Some object)) [])
unfolding version_at
row_19 = (run_rows view steps_18 ghosts_19 (seat []) 2 key Unknown [] run_18).reply_counts 4 1 (λ q. false) 0 None 1 wrote (Some object) reply_19 (move_19.holds.rows key)

abbrev again : ℕ
again = version_at 2 1

abbrev table_20 : Leader
table_20 = put_rewrite table_19 key Unknown 4 [] object

move_20 : IsLeaderMove ghosts_19 (state_after view steps_18) (rewrite_step table_19 key wrote object ∷ []) ghosts_19 table_20
move_20 = ((run_leaders view steps_18 run_18).rows ghosts_19 table_19 key Unknown [] move_19.holds).read_then_rewrite 4 1 (put (λ q. false) 1 true) wrote object row_19 (lit< tt) refl

abbrev steps_20 : List Step
steps_20 = rewrite_step table_19 key wrote object ∷ steps_18

run_20 : IsRun view steps_20
run_20 = (run_18, move_20.may.0)

row_20 : RowHolds ghosts_19 (state_after view steps_20) (seat []) 2 key (row_of Unknown (Rewriting 4 again object (λ q. false)) [])
row_20 = move_20.holds.rows key

may_21 : MayCome (state_after view steps_20) (Write 1 again) × (MayCome (state_after view (Write 1 again ∷ steps_20)) (Acknowledge 1 again) × Unit {0})
may_21 = (run_leaders view steps_20 run_20).own_acknowledgement 1 2 key again object (λ q. false) refl refl refl row_20.stage.put

run_21a : IsRun view (Write 1 again ∷ steps_20)
run_21a = (run_20, may_21.0)

abbrev steps_21 : List Step
steps_21 = Acknowledge 1 again ∷ Write 1 again ∷ steps_20

run_21 : IsRun view steps_21
run_21 = (run_21a, may_21.1.0)

leader_21 : LeaderHolds ghosts_19 (state_after view steps_21) table_20
leader_21 = (run_tables view (Write 1 again ∷ steps_20) run_21a).spared ghosts_19 ghosts_19 (Acknowledge 1 again) table_20 may_21.1.0 (record { turn = λ d r t h. h; home = λ i h. refl; hash = refl }) leader_21a.rounds (record { rows = λ k. tt; owed = λ i m. tt }) leader_21a
  where
    leader_21a : LeaderHolds ghosts_19 (state_after view (Write 1 again ∷ steps_20)) table_20
    leader_21a = (run_tables view steps_20 run_20).spared ghosts_19 ghosts_19 (Write 1 again) table_20 may_21.0 (record { turn = λ d r t h. h; home = λ i h. refl; hash = refl }) move_20.holds.rounds (record { rows = λ k. tt; owed = λ i m. tt }) move_20.holds

acked : (state_after view steps_21).objects.acked again 1 ≡ true
unfolding version_at
acked = refl

row_21 : RowHolds ghosts_19 (state_after view steps_21) (seat []) 2 key (row_of Unknown (Rewriting 4 again object (put (λ q. false) 1 true)) [])
row_21 = (run_rows view steps_21 ghosts_19 (seat []) 2 key Unknown [] run_21).rewrite_counts 4 again object (λ q. false) 1 acked (leader_21.rows key)

abbrev table_22 : Leader
table_22 = with_row table_20 key (row_of (held ghosts_19 key again object) (Sure 4) [])

move_22 : IsLeaderMove ghosts_19 (state_after view steps_21) (Settle again ∷ []) ghosts_19 table_22
move_22 = ((run_leaders view steps_21 run_21).rows ghosts_19 table_20 key Unknown [] leader_21).settles_rewrite 4 again object (put (λ q. false) 1 true) row_21 refl

abbrev steps_22 : List Step
steps_22 = Settle again ∷ steps_21

run_22 : IsRun view steps_22
run_22 = (run_21, move_22.may.0)

move_23 : IsLeaderMove ghosts_19 (state_after view steps_22) (Note 4 key again 2 ∷ []) ghosts_19 (owing table_22 key (row_of (held ghosts_19 key again object) Idle []) 4 (Reply.Value (version_of wrote) (97 ∷ [])))
unfolding version_at
move_23 = ((run_leaders view steps_22 run_22).rows ghosts_19 table_22 key (held ghosts_19 key again object) [] move_22.holds).reads 4 (Reply.Value (version_of wrote) (97 ∷ [])) (move_22.holds.rows key) refl

pub has_rewritten : HasRewritten (1 ∷ [])
unfolding version_at
has_rewritten = record {
  steps = Note 4 key again 2 ∷ steps_22;
  run = (run_22, move_23.may.0);
  ghosts = ghosts_19;
  lead = owing table_22 key (row_of (held ghosts_19 key again object) Idle []) 4 (Reply.Value (version_of wrote) (97 ∷ []));
  holds = move_23.holds;
  version = again;
  settled = refl;
  rewrite = refl;
  some = lit< tt;
  call = 4;
  reply = Reply.Value (version_of wrote) (97 ∷ []);
  owed = refl;
}
