-- A leader of one peer: a read finds nothing, a write settles, a check answers. No premise of the moves is empty.
use Rattle.protocol_laws.specs.Ledger.{put}
use Rattle.std.proofs.Common.{◌≡◌, ℕ, ◌≤◌, Bool, true, false, List, [], ◌∷◌, refl, inl, lit<, lit≤, None, Some, arith, sym, subst, eqb-true}
use Rattle.std.specs.Prelude.{◌==◌}
use Rattle.std.proofs.lemmas.Bool.{false≢true}
use Rattle.std.proofs.lemmas.Bool.Decides.{nat_tests}
use Rattle.ens_base.specs.declared.command.Command.TheVariants.{Get, Over}
use Rattle.ens_base.specs.declared.reply.Reply.{Reply}
use Rattle.register_model.specs.declared.call.Call.{Call}
use Rattle.protocol_laws.specs.Book.{version_of}
use Rattle.protocol_laws.specs.Protocol.{Step, Ask, Raise, Elect, Accept, Write, Acknowledge, Propose, Settle, Note, Answer, MayCome, IsRun, state_after}
use Rattle.role_laws.proofs.Runs.{run_tables, run_peers, run_keys, run_rows, run_leaders}
use Rattle.role_laws.specs.LeaderLaws.{HasLed}
use Rattle.role_laws.specs.Tables.{Object, Known, Unknown, Nothing, Idle, Begun, Reading, Sure, Checking, Writing, Leader, Turn, Ghosts, version_at, with_row, with_home, held, row_of, new_leader, round_of, turn_of, Seat, Owed, owing}
use Rattle.role_laws.specs.Leaders.{TurnsHold, RowHolds, LeaderHolds}
use Rattle.role_laws.specs.LeaderMessages.{GetReplySays, CheckReplySays}
use Rattle.role_laws.specs.Moves.{IsLeaderMove, put_write, write_step}

abbrev pub view : List ℕ
view = 1 ∷ []

abbrev pub key : List ℕ
key = 107 ∷ []

abbrev pub one : ℕ → Bool
one q = q == 1

pub at_one : (P : ℕ → Type 0) → P 1 → (q : ℕ) → one q ≡ true → P q
at_one P p q h = subst P (sym (eqb-true q 1 h)) p

only_opening : (a : ℕ) → (a == 0) ≡ true → a ≤ 0
only_opening a h = grind (arith, nat_tests)

-- ## An epoch of one peer

abbrev pub steps_1 : List Step
steps_1 = Raise 1 1 ∷ []

run_1 : IsRun view steps_1
run_1 = (lit< tt, (lit≤ tt, tt))

abbrev pub steps_2 : List Step
steps_2 = Elect 1 (record { epoch = 0; seq = 0 }) ∷ steps_1

run_2 : IsRun view steps_2
run_2 = (run_1, (record { fresh = refl; above = lit< tt; listed = refl; is_fact = inl (refl, refl); voters = one; quorum = refl; reached = at_one (λ q. 1 ≤ (state_after view steps_1).objects.ledger.ballot q) (lit≤ tt); told = λ q a v h l. only_opening a h }, tt))

abbrev pub steps_3 : List Step
steps_3 = Accept 1 1 ∷ steps_2

run_3 : IsRun view steps_3
run_3 = (run_2, (record { elected = refl; stands = refl; newer = lit< tt; old = λ h. h }, tt))

abbrev pub ghosts_3 : Ghosts
ghosts_3 = record { turn = λ d r. None; home = λ i. 0; hash = λ v k x c. [] }

abbrev pub seat : List Owed → Seat
seat o = record { peer = 1; owed = o }

abbrev pub table_3 : Leader
table_3 = new_leader 1 (seat [])

leader_3 : LeaderHolds ghosts_3 (state_after view steps_3) table_3
leader_3 = (run_leaders view steps_3 run_3).starts ghosts_3 1 (seat []) tt (lit< tt) refl refl (record { none = λ v p e. false≢true p; fresh = λ r. refl })

-- ## A read that finds nothing

abbrev pub first : Call
first = record { id = 1; key = key; command = Get; event = 1 }

abbrev pub steps_4 : List Step
steps_4 = Ask first ∷ steps_3

abbrev pub ghosts_4 : Ghosts
ghosts_4 = with_home ghosts_3 1 1

abbrev pub table_4 : Leader
table_4 = with_row table_3 key (row_of Unknown Idle (1 ∷ []))

move_4 : IsLeaderMove ghosts_3 (state_after view steps_3) (Ask first ∷ []) ghosts_4 table_4
move_4 = (run_leaders view steps_3 run_3).joins ghosts_3 table_3 first leader_3 (record { fresh = refl; event = refl })

run_4 : IsRun view steps_4
run_4 = (run_3, move_4.may.0)

row_4 : RowHolds ghosts_4 (state_after view steps_4) (seat []) 1 key (row_of Unknown (Begun 1) [])
row_4 = (run_rows view steps_4 ghosts_4 (seat []) 1 key Unknown [] run_4).begins 1 (move_4.holds.rows key)

abbrev pub ghosts_5 : Ghosts
ghosts_5 = turn_of ghosts_4 table_4 Unknown 1

abbrev pub table_5 : Leader
table_5 = round_of table_4 key (row_of Unknown (Reading 1 1 (λ q. false) 0 None) [])

move_5 : IsLeaderMove ghosts_4 (state_after view steps_4) [] ghosts_5 table_5
move_5 = ((run_leaders view steps_4 run_4).rows ghosts_4 table_4 key Unknown [] move_4.holds).reading_starts 1 row_4

turns_5 : TurnsHold ghosts_5 (state_after view steps_4)
turns_5 = (run_leaders view steps_4 run_4).turns_start ghosts_4 1 1 (record { call = 1; base = 0 }) (((run_leaders view steps_4 run_4).rows ghosts_4 table_4 key Unknown [] move_4.holds).round_holds 1 row_4) (λ d r t e. absurd (none_some t e))
  where
    none_some : (t : Turn) → None ≡ Some t → ⊥
    none_some t e = cc

reply_5 : GetReplySays ghosts_5 (state_after view steps_4) 1 1 1 key 0 None
reply_5 = (run_peers view steps_4 1 1 run_4 refl).get_reply ghosts_5 1 key None turns_5 (record { turn = record { call = 1; base = 0 }; started = refl; on_key = refl }) refl (λ y e. absurd (none_some y e))
  where
    none_some : (y : Object) → None ≡ Some y → ⊥
    none_some y e = cc

row_5 : RowHolds ghosts_5 (state_after view steps_4) (seat []) 1 key (row_of Nothing (Sure 1) [])
row_5 = (run_rows view steps_4 ghosts_5 (seat []) 1 key Unknown [] run_4).finds_nothing 1 1 (put (λ q. false) 1 true) 0 None refl refl refl
    ((run_rows view steps_4 ghosts_5 (seat []) 1 key Unknown [] run_4).reply_counts 1 1 (λ q. false) 0 None 1 0 None reply_5 (move_5.holds.rows key))

abbrev pub steps_5 : List Step
steps_5 = Note 1 key 0 1 ∷ steps_4

move_5a : IsLeaderMove ghosts_5 (state_after view steps_4) (Note 1 key 0 1 ∷ []) ghosts_5 (owing table_5 key (row_of Nothing Idle []) 1 Reply.NotFound)
move_5a = ((run_leaders view steps_4 run_4).rows ghosts_5 table_5 key Nothing [] move_5.holds).reads 1 Reply.NotFound row_5 refl

run_5 : IsRun view steps_5
run_5 = (run_4, move_5a.may.0)

abbrev pub table_6 : Leader
table_6 = with_row table_5 key (row_of Nothing Idle [])

move_6 : IsLeaderMove ghosts_5 (state_after view steps_5) (Answer 1 Reply.NotFound ∷ []) ghosts_5 table_6
move_6 = (run_leaders view steps_5 run_5).gives ghosts_5 table_6 (record { call = 1; reply = Reply.NotFound }) [] move_5a.holds

abbrev pub steps_6 : List Step
steps_6 = Answer 1 Reply.NotFound ∷ steps_5

run_6 : IsRun view steps_6
run_6 = (run_5, move_6.may.0)

-- ## A write upon it

abbrev pub second : Call
second = record { id = 2; key = key; command = Over (97 ∷ []); event = 2 }

abbrev pub steps_7 : List Step
steps_7 = Ask second ∷ steps_6

abbrev pub ghosts_7 : Ghosts
ghosts_7 = with_home ghosts_5 2 1

abbrev pub table_7 : Leader
table_7 = with_row table_6 key (row_of Nothing Idle (2 ∷ []))

move_7 : IsLeaderMove ghosts_5 (state_after view steps_6) (Ask second ∷ []) ghosts_7 table_7
move_7 = (run_leaders view steps_6 run_6).joins ghosts_5 table_6 second move_6.holds (record { fresh = refl; event = refl })

run_7 : IsRun view steps_7
run_7 = (run_6, move_7.may.0)

row_7 : RowHolds ghosts_7 (state_after view steps_7) (seat []) 1 key (row_of Nothing (Begun 2) [])
row_7 = (run_rows view steps_7 ghosts_7 (seat []) 1 key Nothing [] run_7).begins 2 (move_7.holds.rows key)

abbrev pub wrote : ℕ
wrote = version_at 1 1

abbrev pub object : Object
object = record { stamp = version_of wrote; content = Some (97 ∷ []) }

abbrev pub table_8 : Leader
table_8 = put_write table_7 key Nothing 2 [] (Some (97 ∷ []))

move_8 : IsLeaderMove ghosts_7 (state_after view steps_7) (write_step table_7 key 0 (Some (97 ∷ [])) 2 ∷ []) ghosts_7 table_8
move_8 = ((run_leaders view steps_7 run_7).rows ghosts_7 table_7 key Nothing [] move_7.holds).writes 2 0 (Some (97 ∷ [])) (lit< tt) row_7 ((run_keys view steps_7 ghosts_7 1 key run_7).settled_parent Nothing tt (row_7.known refl)) refl

abbrev pub steps_8 : List Step
steps_8 = Propose wrote key 0 (version_of wrote) (Some (97 ∷ [])) (Some 2) ∷ steps_7

run_8 : IsRun view steps_8
run_8 = (run_7, move_8.may.0)

row_8 : RowHolds ghosts_7 (state_after view steps_8) (seat []) 1 key (row_of Nothing (Writing 2 wrote object (λ q. false)) [])
row_8 = move_8.holds.rows key

abbrev pub steps_9 : List Step
steps_9 = Acknowledge 1 wrote ∷ Write 1 wrote ∷ steps_8

may_9 : MayCome (state_after view steps_8) (Write 1 wrote) × (MayCome (state_after view (Write 1 wrote ∷ steps_8)) (Acknowledge 1 wrote) × Unit {0})
may_9 = (run_leaders view steps_8 run_8).own_acknowledgement 1 1 key wrote object (λ q. false) refl refl refl row_8.stage.put

run_8a : IsRun view (Write 1 wrote ∷ steps_8)
run_8a = (run_8, may_9.0)

run_9 : IsRun view steps_9
run_9 = (run_8a, may_9.1.0)

leader_9 : LeaderHolds ghosts_7 (state_after view steps_9) table_8
leader_9 = (run_tables view (Write 1 wrote ∷ steps_8) run_8a).spared ghosts_7 ghosts_7 (Acknowledge 1 wrote) table_8 may_9.1.0 (record { turn = λ d r t h. h; home = λ i h. refl; hash = refl }) leader_8a.rounds (record { rows = λ k. tt; owed = λ i m. tt }) leader_8a
  where
    leader_8a : LeaderHolds ghosts_7 (state_after view (Write 1 wrote ∷ steps_8)) table_8
    leader_8a = (run_tables view steps_8 run_8).spared ghosts_7 ghosts_7 (Write 1 wrote) table_8 may_9.0 (record { turn = λ d r t h. h; home = λ i h. refl; hash = refl }) move_8.holds.rounds (record { rows = λ k. tt; owed = λ i m. tt }) move_8.holds

acked : (state_after view steps_9).objects.acked wrote 1 ≡ true
unfolding version_at
acked = refl

row_9 : RowHolds ghosts_7 (state_after view steps_9) (seat []) 1 key (row_of Nothing (Writing 2 wrote object (put (λ q. false) 1 true)) [])
row_9 = (run_rows view steps_9 ghosts_7 (seat []) 1 key Nothing [] run_9).write_counts 2 wrote object (λ q. false) 1 acked (leader_9.rows key)

abbrev pub steps_9a : List Step
steps_9a = Settle wrote ∷ steps_9

move_9 : IsLeaderMove ghosts_7 (state_after view steps_9) (Settle wrote ∷ []) ghosts_7 (owing table_8 key (row_of (held ghosts_7 key wrote object) Idle []) 2 (Reply.Ok (version_of wrote)))
move_9 = ((run_leaders view steps_9 run_9).rows ghosts_7 table_8 key Nothing [] leader_9).settles_write 2 wrote object (put (λ q. false) 1 true) row_9 refl

run_9a : IsRun view steps_9a
run_9a = (run_9, move_9.may.0)

abbrev pub table_10 : Leader
table_10 = with_row table_8 key (row_of (held ghosts_7 key wrote object) Idle [])

move_10 : IsLeaderMove ghosts_7 (state_after view steps_9a) (Answer 2 (Reply.Ok (version_of wrote)) ∷ []) ghosts_7 table_10
move_10 = (run_leaders view steps_9a run_9a).gives ghosts_7 table_10 (record { call = 2; reply = Reply.Ok (version_of wrote) }) [] move_9.holds

abbrev pub steps_10 : List Step
steps_10 = Answer 2 (Reply.Ok (version_of wrote)) ∷ steps_9a

run_10 : IsRun view steps_10
run_10 = (run_9a, move_10.may.0)

-- ## A read of it, by a check

abbrev pub third : Call
third = record { id = 3; key = key; command = Get; event = 3 }

abbrev pub steps_11 : List Step
steps_11 = Ask third ∷ steps_10

abbrev pub ghosts_11 : Ghosts
ghosts_11 = with_home ghosts_7 3 1

abbrev pub wrote_known : Known
wrote_known = held ghosts_7 key wrote object

move_11 : IsLeaderMove ghosts_7 (state_after view steps_10) (Ask third ∷ []) ghosts_11 (with_row table_10 key (row_of wrote_known Idle (3 ∷ [])))
move_11 = (run_leaders view steps_10 run_10).joins ghosts_7 table_10 third move_10.holds (record { fresh = refl; event = refl })

run_11 : IsRun view steps_11
run_11 = (run_10, move_11.may.0)

row_11 : RowHolds ghosts_11 (state_after view steps_11) (seat []) 1 key (row_of wrote_known (Begun 3) [])
row_11 = (run_rows view steps_11 ghosts_11 (seat []) 1 key wrote_known [] run_11).begins 3 (move_11.holds.rows key)

abbrev pub table_11 : Leader
table_11 = with_row table_10 key (row_of wrote_known Idle (3 ∷ []))

abbrev pub ghosts_12 : Ghosts
ghosts_12 = turn_of ghosts_11 table_11 wrote_known 3

move_12 : IsLeaderMove ghosts_11 (state_after view steps_11) [] ghosts_12 (round_of table_11 key (row_of wrote_known (Checking 3 2 (λ q. false) (Reply.Value (version_of wrote) (97 ∷ []))) []))
unfolding version_at
move_12 = ((run_leaders view steps_11 run_11).rows ghosts_11 table_11 key wrote_known [] move_11.holds).checking_starts 3 (Reply.Value (version_of wrote) (97 ∷ [])) row_11 tt refl

turns_11 : TurnsHold ghosts_11 (state_after view steps_11)
turns_11 = (run_tables view steps_4 run_4).turns ghosts_5 (Note 1 key 0 1 ∷ Answer 1 Reply.NotFound ∷ Ask second ∷ Propose wrote key 0 (version_of wrote) (Some (97 ∷ [])) (Some 2) ∷ Write 1 wrote ∷ Acknowledge 1 wrote ∷ Settle wrote ∷ Answer 2 (Reply.Ok (version_of wrote)) ∷ Ask third ∷ [])
    (move_5a.may.0, (move_6.may.0, (move_7.may.0, (move_8.may.0, (may_9.0, (may_9.1.0, (move_9.may.0, (move_10.may.0, (move_11.may.0, tt))))))))) turns_5

turns_12 : TurnsHold ghosts_12 (state_after view steps_11)
turns_12 = (run_leaders view steps_11 run_11).turns_start ghosts_11 1 2 (record { call = 3; base = wrote }) (((run_leaders view steps_11 run_11).rows ghosts_11 table_11 key wrote_known [] move_11.holds).round_holds 3 row_11) turns_11

says_12 : CheckReplySays ghosts_12 (state_after view steps_11) 1 1 2
says_12 = (run_peers view steps_11 1 1 run_11 refl).check_reply ghosts_12 2 turns_12 (record { turn = record { call = 3; base = wrote }; started = refl })

abbrev pub table_12 : Leader
table_12 = round_of table_11 key (row_of wrote_known (Checking 3 2 (λ q. false) (Reply.Value (version_of wrote) (97 ∷ []))) [])

move_13 : IsLeaderMove ghosts_12 (state_after view steps_11) (Note 3 key wrote 1 ∷ []) ghosts_12 (owing table_12 key (row_of wrote_known Idle []) 3 (Reply.Value (version_of wrote) (97 ∷ [])))
move_13 = ((run_leaders view steps_11 run_11).rows ghosts_12 table_12 key wrote_known [] move_12.holds).check_then_answer 3 2 (put (λ q. false) 1 true) (Reply.Value (version_of wrote) (97 ∷ []))
    ((run_rows view steps_11 ghosts_12 (seat []) 1 key wrote_known [] run_11).check_counts 3 2 (λ q. false) (Reply.Value (version_of wrote) (97 ∷ [])) 1 says_12 (move_12.holds.rows key)) refl

run_13 : IsRun view (Note 3 key wrote 1 ∷ steps_11)
run_13 = (run_11, move_13.may.0)

abbrev pub table_14 : Leader
table_14 = with_row table_12 key (row_of wrote_known Idle [])

move_14 : IsLeaderMove ghosts_12 (state_after view (Note 3 key wrote 1 ∷ steps_11)) (Answer 3 (Reply.Value (version_of wrote) (97 ∷ [])) ∷ []) ghosts_12 table_14
move_14 = (run_leaders view (Note 3 key wrote 1 ∷ steps_11) run_13).gives ghosts_12 table_14 (record { call = 3; reply = Reply.Value (version_of wrote) (97 ∷ []) }) [] move_13.holds

abbrev pub steps_14 : List Step
steps_14 = Answer 3 (Reply.Value (version_of wrote) (97 ∷ [])) ∷ Note 3 key wrote 1 ∷ steps_11

pub run_14 : IsRun view steps_14
run_14 = (run_13, move_14.may.0)

pub turns_14 : TurnsHold ghosts_12 (state_after view steps_14)
turns_14 = (run_tables view steps_11 run_11).turns ghosts_12 (Note 3 key wrote 1 ∷ Answer 3 (Reply.Value (version_of wrote) (97 ∷ [])) ∷ []) (move_13.may.0, (move_14.may.0, tt)) turns_12

pub has_led : HasLed (1 ∷ [])
unfolding version_at
has_led = record {
  steps = steps_14;
  run = run_14;
  ghosts = ghosts_12;
  lead = table_14;
  holds = move_14.holds;
  turns = turns_14;
  key = key;
  version = wrote;
  object = object;
  known = refl;
  settled = refl;
  call = 3;
  noted = refl;
  answered = refl;
}
