-- A run of the abstract protocol, step by step: peer 1 leads, writes, and is read; the view changes
-- to peer 2, which syncs, and back to peer 1, which syncs; a rewrite is read, and a dead version
-- comes back as a parent.
use Rattle.std.proofs.Common.{◌≡◌, ◌≤◌, sym, List, [], ◌∷◌, refl, inl, inr, lit<, lit≤, None, Some, arith, le_refl}
use Rattle.std.proofs.lemmas.Bool.{false≢true}
use Rattle.ens_base.specs.declared.command.Command.TheVariants.{Get, Over}
use Rattle.ens_base.specs.declared.reply.Reply.TheVariants as Reply
use Rattle.register_model.specs.declared.call.Call.{Call}
use Rattle.register_model.specs.Orders.{rank}
use Rattle.protocol_laws.specs.Ledger.{Add, Drop}
use Rattle.protocol_laws.specs.Objects.{epoch_of, set_entry, IsGenuine}
use Rattle.protocol_laws.specs.Book.{version_of}
use Rattle.protocol_laws.specs.Protocol.{Step, Ask, Raise, Elect, Accept, Commit, Adopt, Write, Acknowledge, Install, EndSync, Propose, Settle, Note, Answer, MayCome, IsRun, state_after}
use Rattle.protocol_laws.proofs.Maps.{entry_then}
use Rattle.protocol_witness.specs.Shown.{ShowsAll}
use Rattle.protocol_witness.proofs.Words.{opening_view, first_key, other_key, written, lost, rewritten, found, bytes, others, one, two, both, at_one, at_two, at_both, not_member, none_yet, one_yet, two_yet, three_yet, four_yet, keys_differ, some_differs, none_differs}

abbrev first_call : Call
first_call = record { id = 1; key = first_key; command = Over (97 ∷ []); event = 1 }

abbrev first_read : Call
first_read = record { id = 2; key = first_key; command = Get; event = 2 }

abbrev lost_call : Call
lost_call = record { id = 3; key = other_key; command = Over (98 ∷ []); event = 3 }

abbrev second_read : Call
second_read = record { id = 4; key = first_key; command = Get; event = 4 }

abbrev third_read : Call
third_read = record { id = 5; key = other_key; command = Get; event = 5 }

abbrev steps_0 : List Step
steps_0 = []

run_0 : IsRun opening_view steps_0
run_0 = lit< tt

abbrev steps_1 : List Step
steps_1 = Raise 1 1 ∷ steps_0

may_1 : MayCome (state_after opening_view steps_0) (Raise 1 1)
unfolding epoch_of
may_1 = (lit≤ tt, tt)

run_1 : IsRun opening_view steps_1
run_1 = (run_0, may_1)

abbrev steps_2 : List Step
steps_2 = Elect 1 (record { epoch = 0; seq = 0 }) ∷ steps_1

may_2 : MayCome (state_after opening_view steps_1) (Elect 1 (record { epoch = 0; seq = 0 }))
unfolding epoch_of
may_2 = (record { fresh = refl; above = lit< tt; listed = refl; is_fact = inl (refl, refl); voters = one; quorum = refl; reached = at_one (λ q. 1 ≤ (state_after opening_view steps_1).objects.ledger.ballot q) (lit≤ tt); told = λ q a v h l. omega arith }, tt)

run_2 : IsRun opening_view steps_2
run_2 = (run_1, may_2)

abbrev steps_3 : List Step
steps_3 = Accept 1 1 ∷ steps_2

may_3 : MayCome (state_after opening_view steps_2) (Accept 1 1)
unfolding epoch_of
may_3 = (record { elected = refl; stands = refl; newer = lit< tt; old = λ h. h }, tt)

run_3 : IsRun opening_view steps_3
run_3 = (run_2, may_3)

abbrev steps_4 : List Step
steps_4 = Ask first_call ∷ steps_3

may_4 : MayCome (state_after opening_view steps_3) (Ask first_call)
unfolding epoch_of
may_4 = (tt, record { fresh = refl; event = refl })

run_4 : IsRun opening_view steps_4
run_4 = (run_3, may_4)

abbrev steps_5 : List Step
steps_5 = Propose written first_key 0 (version_of written) bytes (Some 1) ∷ steps_4

may_5 : MayCome (state_after opening_view steps_4) (Propose written first_key 0 (version_of written) bytes (Some 1))
unfolding epoch_of
may_5 = (record { fresh = refl; led = lit< tt; elected = refl; established = refl; lower = lit< tt; from = inl (record { untouched = none_yet (λ x. (state_after opening_view steps_4).objects.key x ≡ first_key → epoch_of x ≡ 1 → ⊥); heard = record { readers = one; quorum = refl; reached = at_one (λ q. 1 ≤ (state_after opening_view steps_4).objects.ledger.ballot q) (lit≤ tt); given = at_one (λ q. (state_after opening_view steps_4).objects.floor q 1 first_key ≤ 0) (lit≤ tt) }; genuine = inl refl }) }, record { waiting = record { called = refl; not_written = λ v w. none_yet (λ v. (state_after opening_view steps_4).book.call v ≡ Some 1 → ⊥) v w.0 w.1; not_noted = refl; not_refused = λ a. absurd (false≢true a) }; on_key = refl; own_stamp = refl; applies = refl })

run_5 : IsRun opening_view steps_5
run_5 = (run_4, may_5)

abbrev steps_6 : List Step
steps_6 = Write 1 written ∷ steps_5

may_6 : MayCome (state_after opening_view steps_5) (Write 1 written)
unfolding epoch_of
may_6 = (record { honest = λ k. refl; proposed = refl; low = lit≤ tt; higher = lit≤ tt }, tt)

run_6 : IsRun opening_view steps_6
run_6 = (run_5, may_6)

abbrev steps_7 : List Step
steps_7 = Acknowledge 1 written ∷ steps_6

may_7 : MayCome (state_after opening_view steps_6) (Acknowledge 1 written)
unfolding epoch_of
may_7 = (record { proposed = refl; stands = refl; accepted = refl; has = lit≤ tt }, tt)

run_7 : IsRun opening_view steps_7
run_7 = (run_6, may_7)

abbrev steps_8 : List Step
steps_8 = Settle written ∷ steps_7

may_8 : MayCome (state_after opening_view steps_7) (Settle written)
unfolding epoch_of
may_8 = (record { proposed = refl; fresh = refl; quorum = refl }, tt)

run_8 : IsRun opening_view steps_8
run_8 = (run_7, may_8)

abbrev steps_9 : List Step
steps_9 = Answer 1 (Reply.Ok (version_of written)) ∷ steps_8

may_9 : MayCome (state_after opening_view steps_8) (Answer 1 (Reply.Ok (version_of written)))
unfolding epoch_of
may_9 = (tt, record { called = refl; fresh = refl; done = λ d. inl (record { version = written; wrote = (refl, refl); settled = refl; reply = refl }); not_written = λ r. absurd r; not_noted = λ r. absurd r })

run_9 : IsRun opening_view steps_9
run_9 = (run_8, may_9)

abbrev steps_10 : List Step
steps_10 = Ask first_read ∷ steps_9

may_10 : MayCome (state_after opening_view steps_9) (Ask first_read)
unfolding epoch_of
may_10 = (tt, record { fresh = refl; event = refl })

run_10 : IsRun opening_view steps_10
run_10 = (run_9, may_10)

abbrev steps_11 : List Step
steps_11 = Note 2 first_key written 1 ∷ steps_10

may_11 : MayCome (state_after opening_view steps_10) (Note 2 first_key written 1)
unfolding epoch_of
may_11 = (tt, record { waiting = record { called = refl; not_written = λ v w. one_yet (λ v. (state_after opening_view steps_10).book.call v ≡ Some 2 → ⊥) (some_differs 1 2 (λ e. absurd (cc))) v w.0 w.1; not_noted = refl; not_refused = λ a. absurd (false≢true a) }; on_key = refl; elected = refl; before = lit< tt; established = refl; quorum = refl; base = inr (record { proposed = refl; key = refl; epoch = refl; settled = refl; greatest = one_yet (λ x. (state_after opening_view steps_10).objects.key x ≡ first_key → epoch_of x ≡ 1 → x ≤ written) (λ k e. lit≤ tt) }); reply = Reply.Value (version_of written) (97 ∷ []); keeps = refl })

run_11 : IsRun opening_view steps_11
run_11 = (run_10, may_11)

abbrev steps_12 : List Step
steps_12 = Answer 2 (Reply.Value (version_of written) (97 ∷ [])) ∷ steps_11

may_12 : MayCome (state_after opening_view steps_11) (Answer 2 (Reply.Value (version_of written) (97 ∷ [])))
unfolding epoch_of
may_12 = (tt, record { called = refl; fresh = refl; done = λ d. inr (record { noted = refl; keeps = refl }); not_written = λ r. absurd r; not_noted = λ r. absurd r })

run_12 : IsRun opening_view steps_12
run_12 = (run_11, may_12)

abbrev steps_13 : List Step
steps_13 = Ask lost_call ∷ steps_12

may_13 : MayCome (state_after opening_view steps_12) (Ask lost_call)
unfolding epoch_of
may_13 = (tt, record { fresh = refl; event = refl })

run_13 : IsRun opening_view steps_13
run_13 = (run_12, may_13)

abbrev steps_14 : List Step
steps_14 = Propose lost other_key 0 (version_of lost) others (Some 3) ∷ steps_13

may_14 : MayCome (state_after opening_view steps_13) (Propose lost other_key 0 (version_of lost) others (Some 3))
unfolding epoch_of
may_14 = (record { fresh = refl; led = lit< tt; elected = refl; established = refl; lower = lit< tt; from = inl (record { untouched = one_yet (λ x. (state_after opening_view steps_13).objects.key x ≡ other_key → epoch_of x ≡ 1 → ⊥) (λ k e. absurd (keys_differ k)); heard = record { readers = one; quorum = refl; reached = at_one (λ q. 1 ≤ (state_after opening_view steps_13).objects.ledger.ballot q) (lit≤ tt); given = at_one (λ q. (state_after opening_view steps_13).objects.floor q 1 other_key ≤ 0) (lit≤ tt) }; genuine = inl refl }) }, record { waiting = record { called = refl; not_written = λ v w. one_yet (λ v. (state_after opening_view steps_13).book.call v ≡ Some 3 → ⊥) (some_differs 1 3 (λ e. absurd (cc))) v w.0 w.1; not_noted = refl; not_refused = λ a. absurd (false≢true a) }; on_key = refl; own_stamp = refl; applies = refl })

run_14 : IsRun opening_view steps_14
run_14 = (run_13, may_14)

abbrev steps_15 : List Step
steps_15 = Write 1 lost ∷ steps_14

may_15 : MayCome (state_after opening_view steps_14) (Write 1 lost)
unfolding epoch_of
may_15 = (record { honest = λ k. refl; proposed = refl; low = lit≤ tt; higher = lit≤ tt }, tt)

run_15 : IsRun opening_view steps_15
run_15 = (run_14, may_15)

abbrev steps_16 : List Step
steps_16 = Answer 3 Reply.Timeout ∷ steps_15

may_16 : MayCome (state_after opening_view steps_15) (Answer 3 Reply.Timeout)
unfolding epoch_of
may_16 = (tt, record { called = refl; fresh = refl; done = λ d. absurd d; not_written = λ r. absurd r; not_noted = λ r. absurd r })

run_16 : IsRun opening_view steps_16
run_16 = (run_15, may_16)

abbrev steps_17 : List Step
steps_17 = Commit 1 (Add (2 ∷ [])) ∷ steps_16

may_17 : MayCome (state_after opening_view steps_16) (Commit 1 (Add (2 ∷ [])))
unfolding epoch_of
may_17 = (record { led = lit< tt; elected = refl; established = refl; fresh = refl }, tt)

run_17 : IsRun opening_view steps_17
run_17 = (run_16, may_17)

abbrev steps_18 : List Step
steps_18 = Adopt 1 1 ∷ steps_17

may_18 : MayCome (state_after opening_view steps_17) (Adopt 1 1)
unfolding epoch_of
may_18 = (record { changed = refl; stands = refl; first = refl }, tt)

run_18 : IsRun opening_view steps_18
run_18 = (run_17, may_18)

abbrev steps_19 : List Step
steps_19 = Raise 1 2 ∷ steps_18

may_19 : MayCome (state_after opening_view steps_18) (Raise 1 2)
unfolding epoch_of
may_19 = (lit≤ tt, tt)

run_19 : IsRun opening_view steps_19
run_19 = (run_18, may_19)

abbrev steps_20 : List Step
steps_20 = Elect 2 (record { epoch = 1; seq = 2 }) ∷ steps_19

may_20 : MayCome (state_after opening_view steps_19) (Elect 2 (record { epoch = 1; seq = 2 }))
unfolding epoch_of
may_20 = (record { fresh = refl; above = lit< tt; listed = refl; is_fact = inr (inr (refl, refl)); voters = one; quorum = refl; reached = at_one (λ q. 2 ≤ (state_after opening_view steps_19).objects.ledger.ballot q) (lit≤ tt); told = λ q a v h l. omega arith }, tt)

run_20 : IsRun opening_view steps_20
run_20 = (run_19, may_20)

abbrev steps_21 : List Step
steps_21 = Accept 1 2 ∷ steps_20

may_21 : MayCome (state_after opening_view steps_20) (Accept 1 2)
unfolding epoch_of
may_21 = (record { elected = refl; stands = refl; newer = lit< tt; old = not_member 1 2 refl }, tt)

run_21 : IsRun opening_view steps_21
run_21 = (run_20, may_21)

abbrev steps_22 : List Step
steps_22 = Raise 2 2 ∷ steps_21

may_22 : MayCome (state_after opening_view steps_21) (Raise 2 2)
unfolding epoch_of
may_22 = (lit≤ tt, tt)

run_22 : IsRun opening_view steps_22
run_22 = (run_21, may_22)

abbrev steps_23 : List Step
steps_23 = Install 2 2 ((state_after opening_view steps_22).objects.map 1) ∷ steps_22

may_23 : MayCome (state_after opening_view steps_22) (Install 2 2 ((state_after opening_view steps_22).objects.map 1))
unfolding epoch_of
may_23 = (record { elected = refl; stands = refl; newer = lit< tt; synced = record { sources = one; majority = refl; reached = at_one (λ q. 2 ≤ (state_after opening_view steps_22).objects.ledger.ballot q) (lit≤ tt); given = λ q k. at_one (λ q. (state_after opening_view steps_22).objects.floor q 2 k ≤ (state_after opening_view steps_22).objects.map 1 k) (le_refl ((state_after opening_view steps_22).objects.map 1 k)) q }; genuine = entry_then (set_entry (λ k. 0) first_key written) other_key lost (IsGenuine (state_after opening_view steps_22).objects 2) (inr (refl, refl, lit≤ tt)) (entry_then (λ k. 0) first_key written (IsGenuine (state_after opening_view steps_22).objects 2) (inr (refl, refl, lit≤ tt)) (λ k. inl refl)) }, tt)

run_23 : IsRun opening_view steps_23
run_23 = (run_22, may_23)

abbrev steps_24 : List Step
steps_24 = EndSync 2 2 ∷ steps_23

may_24 : MayCome (state_after opening_view steps_23) (EndSync 2 2)
unfolding epoch_of
may_24 = ((record { elected = refl; stands = refl; newer = lit< tt }, record { honest = λ k. refl; synced = record { sources = one; majority = refl; reached = at_one (λ q. 2 ≤ (state_after opening_view steps_23).objects.ledger.ballot q) (lit≤ tt); given = λ q k. at_one (λ q. (state_after opening_view steps_23).objects.floor q 2 k ≤ (state_after opening_view steps_23).objects.map 2 k) (le_refl ((state_after opening_view steps_23).objects.map 2 k)) q } }), tt)

run_24 : IsRun opening_view steps_24
run_24 = (run_23, may_24)

abbrev steps_25 : List Step
steps_25 = Ask second_read ∷ steps_24

may_25 : MayCome (state_after opening_view steps_24) (Ask second_read)
unfolding epoch_of
may_25 = (tt, record { fresh = refl; event = refl })

run_25 : IsRun opening_view steps_25
run_25 = (run_24, may_25)

abbrev steps_26 : List Step
steps_26 = Propose rewritten first_key written (version_of written) bytes None ∷ steps_25

may_26 : MayCome (state_after opening_view steps_25) (Propose rewritten first_key written (version_of written) bytes None)
unfolding epoch_of
may_26 = (record { fresh = refl; led = lit< tt; elected = refl; established = refl; lower = lit< tt; from = inl (record { untouched = two_yet (λ x. (state_after opening_view steps_25).objects.key x ≡ first_key → epoch_of x ≡ 2 → ⊥) (λ k e. absurd (cc)) (λ k e. absurd (keys_differ (sym k))); heard = record { readers = both; quorum = refl; reached = at_both (λ q. 2 ≤ (state_after opening_view steps_25).objects.ledger.ballot q) (lit≤ tt) (lit≤ tt); given = at_both (λ q. (state_after opening_view steps_25).objects.floor q 2 first_key ≤ written) (lit≤ tt) (lit≤ tt) }; genuine = inr (refl, refl, lit≤ tt) }) }, record { some = lit< tt; same_stamp = refl; same_content = refl })

run_26 : IsRun opening_view steps_26
run_26 = (run_25, may_26)

abbrev steps_27 : List Step
steps_27 = Write 1 rewritten ∷ steps_26

may_27 : MayCome (state_after opening_view steps_26) (Write 1 rewritten)
unfolding epoch_of
may_27 = (record { honest = λ k. refl; proposed = refl; low = lit≤ tt; higher = lit≤ tt }, tt)

run_27 : IsRun opening_view steps_27
run_27 = (run_26, may_27)

abbrev steps_28 : List Step
steps_28 = Write 2 rewritten ∷ steps_27

may_28 : MayCome (state_after opening_view steps_27) (Write 2 rewritten)
unfolding epoch_of
may_28 = (record { honest = λ k. refl; proposed = refl; low = lit≤ tt; higher = lit≤ tt }, tt)

run_28 : IsRun opening_view steps_28
run_28 = (run_27, may_28)

abbrev steps_29 : List Step
steps_29 = Acknowledge 1 rewritten ∷ steps_28

may_29 : MayCome (state_after opening_view steps_28) (Acknowledge 1 rewritten)
unfolding epoch_of
may_29 = (record { proposed = refl; stands = refl; accepted = refl; has = lit≤ tt }, tt)

run_29 : IsRun opening_view steps_29
run_29 = (run_28, may_29)

abbrev steps_30 : List Step
steps_30 = Acknowledge 2 rewritten ∷ steps_29

may_30 : MayCome (state_after opening_view steps_29) (Acknowledge 2 rewritten)
unfolding epoch_of
may_30 = (record { proposed = refl; stands = refl; accepted = refl; has = lit≤ tt }, tt)

run_30 : IsRun opening_view steps_30
run_30 = (run_29, may_30)

abbrev steps_31 : List Step
steps_31 = Settle rewritten ∷ steps_30

may_31 : MayCome (state_after opening_view steps_30) (Settle rewritten)
unfolding epoch_of
may_31 = (record { proposed = refl; fresh = refl; quorum = refl }, tt)

run_31 : IsRun opening_view steps_31
run_31 = (run_30, may_31)

abbrev steps_32 : List Step
steps_32 = Note 4 first_key rewritten 2 ∷ steps_31

may_32 : MayCome (state_after opening_view steps_31) (Note 4 first_key rewritten 2)
unfolding epoch_of
may_32 = (tt, record { waiting = record { called = refl; not_written = λ v w. three_yet (λ v. (state_after opening_view steps_31).book.call v ≡ Some 4 → ⊥) (some_differs 1 4 (λ e. absurd (cc))) (some_differs 3 4 (λ e. absurd (cc))) (none_differs None 4 refl) v w.0 w.1; not_noted = refl; not_refused = λ a. absurd (false≢true a) }; on_key = refl; elected = refl; before = lit< tt; established = refl; quorum = refl; base = inr (record { proposed = refl; key = refl; epoch = refl; settled = refl; greatest = three_yet (λ x. (state_after opening_view steps_31).objects.key x ≡ first_key → epoch_of x ≡ 2 → x ≤ rewritten) (λ k e. absurd (cc)) (λ k e. absurd (cc)) (λ k e. lit≤ tt) }); reply = Reply.Value (version_of written) (97 ∷ []); keeps = refl })

run_32 : IsRun opening_view steps_32
run_32 = (run_31, may_32)

abbrev steps_33 : List Step
steps_33 = Answer 4 (Reply.Value (version_of written) (97 ∷ [])) ∷ steps_32

may_33 : MayCome (state_after opening_view steps_32) (Answer 4 (Reply.Value (version_of written) (97 ∷ [])))
unfolding epoch_of
may_33 = (tt, record { called = refl; fresh = refl; done = λ d. inr (record { noted = refl; keeps = refl }); not_written = λ r. absurd r; not_noted = λ r. absurd r })

run_33 : IsRun opening_view steps_33
run_33 = (run_32, may_33)

abbrev steps_34 : List Step
steps_34 = Ask third_read ∷ steps_33

may_34 : MayCome (state_after opening_view steps_33) (Ask third_read)
unfolding epoch_of
may_34 = (tt, record { fresh = refl; event = refl })

run_34 : IsRun opening_view steps_34
run_34 = (run_33, may_34)

abbrev steps_35 : List Step
steps_35 = Propose found other_key lost (version_of lost) others None ∷ steps_34

may_35 : MayCome (state_after opening_view steps_34) (Propose found other_key lost (version_of lost) others None)
unfolding epoch_of
may_35 = (record { fresh = refl; led = lit< tt; elected = refl; established = refl; lower = lit< tt; from = inl (record { untouched = three_yet (λ x. (state_after opening_view steps_34).objects.key x ≡ other_key → epoch_of x ≡ 2 → ⊥) (λ k e. absurd (keys_differ k)) (λ k e. absurd (cc)) (λ k e. absurd (keys_differ k)); heard = record { readers = both; quorum = refl; reached = at_both (λ q. 2 ≤ (state_after opening_view steps_34).objects.ledger.ballot q) (lit≤ tt) (lit≤ tt); given = at_both (λ q. (state_after opening_view steps_34).objects.floor q 2 other_key ≤ lost) (lit≤ tt) (lit≤ tt) }; genuine = inr (refl, refl, lit≤ tt) }) }, record { some = lit< tt; same_stamp = refl; same_content = refl })

run_35 : IsRun opening_view steps_35
run_35 = (run_34, may_35)

abbrev steps_36 : List Step
steps_36 = Write 1 found ∷ steps_35

may_36 : MayCome (state_after opening_view steps_35) (Write 1 found)
unfolding epoch_of
may_36 = (record { honest = λ k. refl; proposed = refl; low = lit≤ tt; higher = lit≤ tt }, tt)

run_36 : IsRun opening_view steps_36
run_36 = (run_35, may_36)

abbrev steps_37 : List Step
steps_37 = Write 2 found ∷ steps_36

may_37 : MayCome (state_after opening_view steps_36) (Write 2 found)
unfolding epoch_of
may_37 = (record { honest = λ k. refl; proposed = refl; low = lit≤ tt; higher = lit≤ tt }, tt)

run_37 : IsRun opening_view steps_37
run_37 = (run_36, may_37)

abbrev steps_38 : List Step
steps_38 = Acknowledge 1 found ∷ steps_37

may_38 : MayCome (state_after opening_view steps_37) (Acknowledge 1 found)
unfolding epoch_of
may_38 = (record { proposed = refl; stands = refl; accepted = refl; has = lit≤ tt }, tt)

run_38 : IsRun opening_view steps_38
run_38 = (run_37, may_38)

abbrev steps_39 : List Step
steps_39 = Acknowledge 2 found ∷ steps_38

may_39 : MayCome (state_after opening_view steps_38) (Acknowledge 2 found)
unfolding epoch_of
may_39 = (record { proposed = refl; stands = refl; accepted = refl; has = lit≤ tt }, tt)

run_39 : IsRun opening_view steps_39
run_39 = (run_38, may_39)

abbrev steps_40 : List Step
steps_40 = Settle found ∷ steps_39

may_40 : MayCome (state_after opening_view steps_39) (Settle found)
unfolding epoch_of
may_40 = (record { proposed = refl; fresh = refl; quorum = refl }, tt)

run_40 : IsRun opening_view steps_40
run_40 = (run_39, may_40)

abbrev steps_41 : List Step
steps_41 = Note 5 other_key found 2 ∷ steps_40

may_41 : MayCome (state_after opening_view steps_40) (Note 5 other_key found 2)
unfolding epoch_of
may_41 = (tt, record { waiting = record { called = refl; not_written = λ v w. four_yet (λ v. (state_after opening_view steps_40).book.call v ≡ Some 5 → ⊥) (some_differs 1 5 (λ e. absurd (cc))) (some_differs 3 5 (λ e. absurd (cc))) (none_differs None 5 refl) (none_differs None 5 refl) v w.0 w.1; not_noted = refl; not_refused = λ a. absurd (false≢true a) }; on_key = refl; elected = refl; before = lit< tt; established = refl; quorum = refl; base = inr (record { proposed = refl; key = refl; epoch = refl; settled = refl; greatest = four_yet (λ x. (state_after opening_view steps_40).objects.key x ≡ other_key → epoch_of x ≡ 2 → x ≤ found) (λ k e. absurd (cc)) (λ k e. absurd (cc)) (λ k e. absurd (keys_differ k)) (λ k e. lit≤ tt) }); reply = Reply.Value (version_of lost) (98 ∷ []); keeps = refl })

run_41 : IsRun opening_view steps_41
run_41 = (run_40, may_41)

abbrev steps_42 : List Step
steps_42 = Answer 5 (Reply.Value (version_of lost) (98 ∷ [])) ∷ steps_41

may_42 : MayCome (state_after opening_view steps_41) (Answer 5 (Reply.Value (version_of lost) (98 ∷ [])))
unfolding epoch_of
may_42 = (tt, record { called = refl; fresh = refl; done = λ d. inr (record { noted = refl; keeps = refl }); not_written = λ r. absurd r; not_noted = λ r. absurd r })

run_42 : IsRun opening_view steps_42
run_42 = (run_41, may_42)

abbrev steps_43 : List Step
steps_43 = Commit 2 Drop ∷ steps_42

may_43 : MayCome (state_after opening_view steps_42) (Commit 2 Drop)
unfolding epoch_of
may_43 = (record { led = lit< tt; elected = refl; established = refl; fresh = refl }, tt)

run_43 : IsRun opening_view steps_43
run_43 = (run_42, may_43)

abbrev steps_44 : List Step
steps_44 = Raise 1 3 ∷ steps_43

may_44 : MayCome (state_after opening_view steps_43) (Raise 1 3)
unfolding epoch_of
may_44 = (lit≤ tt, tt)

run_44 : IsRun opening_view steps_44
run_44 = (run_43, may_44)

abbrev steps_45 : List Step
steps_45 = Raise 2 3 ∷ steps_44

may_45 : MayCome (state_after opening_view steps_44) (Raise 2 3)
unfolding epoch_of
may_45 = (lit≤ tt, tt)

run_45 : IsRun opening_view steps_45
run_45 = (run_44, may_45)

abbrev steps_46 : List Step
steps_46 = Elect 3 (record { epoch = 2; seq = 2 }) ∷ steps_45

may_46 : MayCome (state_after opening_view steps_45) (Elect 3 (record { epoch = 2; seq = 2 }))
unfolding epoch_of
may_46 = (record { fresh = refl; above = lit< tt; listed = refl; is_fact = inr (inr (refl, refl)); voters = both; quorum = refl; reached = at_both (λ q. 3 ≤ (state_after opening_view steps_45).objects.ledger.ballot q) (lit≤ tt) (lit≤ tt); told = λ q a v h l. omega arith }, tt)

run_46 : IsRun opening_view steps_46
run_46 = (run_45, may_46)

abbrev steps_47 : List Step
steps_47 = Accept 2 3 ∷ steps_46

may_47 : MayCome (state_after opening_view steps_46) (Accept 2 3)
unfolding epoch_of
may_47 = (record { elected = refl; stands = refl; newer = lit< tt; old = λ h. h }, tt)

run_47 : IsRun opening_view steps_47
run_47 = (run_46, may_47)

abbrev steps_48 : List Step
steps_48 = Commit 3 (Add (1 ∷ [])) ∷ steps_47

may_48 : MayCome (state_after opening_view steps_47) (Commit 3 (Add (1 ∷ [])))
unfolding epoch_of
may_48 = (record { led = lit< tt; elected = refl; established = refl; fresh = refl }, tt)

run_48 : IsRun opening_view steps_48
run_48 = (run_47, may_48)

abbrev steps_49 : List Step
steps_49 = Raise 1 4 ∷ steps_48

may_49 : MayCome (state_after opening_view steps_48) (Raise 1 4)
unfolding epoch_of
may_49 = (lit≤ tt, tt)

run_49 : IsRun opening_view steps_49
run_49 = (run_48, may_49)

abbrev steps_50 : List Step
steps_50 = Raise 2 4 ∷ steps_49

may_50 : MayCome (state_after opening_view steps_49) (Raise 2 4)
unfolding epoch_of
may_50 = (lit≤ tt, tt)

run_50 : IsRun opening_view steps_50
run_50 = (run_49, may_50)

abbrev steps_51 : List Step
steps_51 = Elect 4 (record { epoch = 3; seq = 2 }) ∷ steps_50

may_51 : MayCome (state_after opening_view steps_50) (Elect 4 (record { epoch = 3; seq = 2 }))
unfolding epoch_of
may_51 = (record { fresh = refl; above = lit< tt; listed = refl; is_fact = inr (inr (refl, refl)); voters = two; quorum = refl; reached = at_two (λ q. 4 ≤ (state_after opening_view steps_50).objects.ledger.ballot q) (lit≤ tt); told = λ q a v h l. omega arith }, tt)

run_51 : IsRun opening_view steps_51
run_51 = (run_50, may_51)

abbrev steps_52 : List Step
steps_52 = Accept 2 4 ∷ steps_51

may_52 : MayCome (state_after opening_view steps_51) (Accept 2 4)
unfolding epoch_of
may_52 = (record { elected = refl; stands = refl; newer = lit< tt; old = not_member 2 1 refl }, tt)

run_52 : IsRun opening_view steps_52
run_52 = (run_51, may_52)

abbrev steps_53 : List Step
steps_53 = Install 1 4 ((state_after opening_view steps_52).objects.map 2) ∷ steps_52

may_53 : MayCome (state_after opening_view steps_52) (Install 1 4 ((state_after opening_view steps_52).objects.map 2))
unfolding epoch_of
may_53 = (record { elected = refl; stands = refl; newer = lit< tt; synced = record { sources = two; majority = refl; reached = at_two (λ q. 4 ≤ (state_after opening_view steps_52).objects.ledger.ballot q) (lit≤ tt); given = λ q k. at_two (λ q. (state_after opening_view steps_52).objects.floor q 4 k ≤ (state_after opening_view steps_52).objects.map 2 k) (le_refl ((state_after opening_view steps_52).objects.map 2 k)) q }; genuine = entry_then (set_entry (set_entry (set_entry (λ k. 0) first_key written) other_key lost) first_key rewritten) other_key found (IsGenuine (state_after opening_view steps_52).objects 4) (inr (refl, refl, lit≤ tt)) (entry_then (set_entry (set_entry (λ k. 0) first_key written) other_key lost) first_key rewritten (IsGenuine (state_after opening_view steps_52).objects 4) (inr (refl, refl, lit≤ tt)) (entry_then (set_entry (λ k. 0) first_key written) other_key lost (IsGenuine (state_after opening_view steps_52).objects 4) (inr (refl, refl, lit≤ tt)) (entry_then (λ k. 0) first_key written (IsGenuine (state_after opening_view steps_52).objects 4) (inr (refl, refl, lit≤ tt)) (λ k. inl refl)))) }, tt)

run_53 : IsRun opening_view steps_53
run_53 = (run_52, may_53)

abbrev steps_54 : List Step
steps_54 = EndSync 1 4 ∷ steps_53

may_54 : MayCome (state_after opening_view steps_53) (EndSync 1 4)
unfolding epoch_of
may_54 = ((record { elected = refl; stands = refl; newer = lit< tt }, record { honest = λ k. refl; synced = record { sources = two; majority = refl; reached = at_two (λ q. 4 ≤ (state_after opening_view steps_53).objects.ledger.ballot q) (lit≤ tt); given = λ q k. at_two (λ q. (state_after opening_view steps_53).objects.floor q 4 k ≤ (state_after opening_view steps_53).objects.map 1 k) (le_refl ((state_after opening_view steps_53).objects.map 1 k)) q } }), tt)

run_54 : IsRun opening_view steps_54
run_54 = (run_53, may_54)

abbrev steps_55 : List Step
steps_55 = Commit 4 Drop ∷ steps_54

may_55 : MayCome (state_after opening_view steps_54) (Commit 4 Drop)
unfolding epoch_of
may_55 = (record { led = lit< tt; elected = refl; established = refl; fresh = refl }, tt)

run_55 : IsRun opening_view steps_55
run_55 = (run_54, may_55)

abbrev steps_56 : List Step
steps_56 = Raise 1 5 ∷ steps_55

may_56 : MayCome (state_after opening_view steps_55) (Raise 1 5)
unfolding epoch_of
may_56 = (lit≤ tt, tt)

run_56 : IsRun opening_view steps_56
run_56 = (run_55, may_56)

abbrev steps_57 : List Step
steps_57 = Raise 2 5 ∷ steps_56

may_57 : MayCome (state_after opening_view steps_56) (Raise 2 5)
unfolding epoch_of
may_57 = (lit≤ tt, tt)

run_57 : IsRun opening_view steps_57
run_57 = (run_56, may_57)

abbrev steps_58 : List Step
steps_58 = Elect 5 (record { epoch = 4; seq = 2 }) ∷ steps_57

may_58 : MayCome (state_after opening_view steps_57) (Elect 5 (record { epoch = 4; seq = 2 }))
unfolding epoch_of
may_58 = (record { fresh = refl; above = lit< tt; listed = refl; is_fact = inr (inr (refl, refl)); voters = both; quorum = refl; reached = at_both (λ q. 5 ≤ (state_after opening_view steps_57).objects.ledger.ballot q) (lit≤ tt) (lit≤ tt); told = λ q a v h l. omega arith }, tt)

run_58 : IsRun opening_view steps_58
run_58 = (run_57, may_58)

abbrev steps_59 : List Step
steps_59 = Accept 1 5 ∷ steps_58

may_59 : MayCome (state_after opening_view steps_58) (Accept 1 5)
unfolding epoch_of
may_59 = (record { elected = refl; stands = refl; newer = lit< tt; old = λ h. h }, tt)

run_59 : IsRun opening_view steps_59
run_59 = (run_58, may_59)

abbrev pub witness : List Step
witness = steps_59

pub witness_run : IsRun opening_view witness
witness_run = run_59

-- ## What the run shows

shows_all : ShowsAll (state_after opening_view witness)
unfolding epoch_of rank version_of
shows_all = record {
  write = record { call = 1; version = written; settled = refl; write = refl; answered = refl; reply = refl };
  rewrite = record { call = 4; version = rewritten; settled = refl; rewrite = refl; noted = refl; base = refl; answered = refl };
  return = record { lost = lost; heir = found; proposed = refl; dead = refl; settled = refl; parent = refl };
  change = record { joint = refl; joined = refl; there = refl; rejoined = refl; back = refl; established = refl };
  first_order = refl;
  other_order = refl;
}

pub shown : (steps : List Step) × IsRun opening_view steps × ShowsAll (state_after opening_view steps)
shown = (witness, witness_run, shows_all)
