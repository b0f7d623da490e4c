-- The first faults of the bodies of messages, kind by kind.
use Rattle.std.proofs.Common.{◌≡◌, ℕ, ◌≤◌, false, eqb, arith}
use Rattle.std.proofs.lemmas.Bool.Decides.{nat_tests}
use Rattle.fields.specs.declared.field_error.FieldError.TheVariants.{Short}
use Rattle.fields.proofs.NumberLaws.{u64_grammar}
use Rattle.fields.proofs.FieldLaws.{epoch_grammar, key_grammar}
use Rattle.fields.proofs.FirstFaultLaws.{Faults, IsRule, faultless}
use Rattle.fields.proofs.FieldFaults.{number_faults, epoch_faults, version_faults, key_faults, entry_faults, without_rule_faults}
use Rattle.fields.proofs.EntryLaws.{entry_grammar}
use Rattle.stored_formats.proofs.ObjectFaults.{object_faults}
use Rattle.stored_formats.proofs.FactFaults.{fact_faults}
use Rattle.tree_node.specs.declared.version.TreeVersion.TheVariants.{Two}
use Rattle.tree_node.proofs.PositionLaws.{position_grammar}
use Rattle.tree_node.proofs.NodeFaults.{position_faults}
use Rattle.wire_frames.specs.declared.message.Message.TheVariants as messages
use Rattle.wire_frames.specs.Messages.{any_fact_at, any_object_at, probe_reply_at, prepare_at, promise_at, nack_at, new_epoch_at, accepted_at, get_at, get_reply_at, put_at, put_reply_at, check_at, check_reply_at, tree_ask_at, tree_give_at, commit_at, beat_at, call_frame_at, answer_frame_at, late_message_at, message_at}
use Rattle.wire_frames.proofs.PartLaws.{flag_grammar, optional_grammar, option_key_grammar}
use Rattle.wire_frames.proofs.PartFaults.{both_faults, made_faults, pick, flag_faults, optional_faults, option_key_faults, body_faults, cause_faults, call_faults, reply_faults}

any_fact_faults : Faults Short IsRule any_fact_at
any_fact_faults = without_rule_faults fact_faults

any_object_faults : Faults Short IsRule any_object_at
any_object_faults = without_rule_faults object_faults

probe_reply_faults : Faults Short IsRule probe_reply_at
unfolding probe_reply_at
probe_reply_faults = made_faults messages.ProbeReply any_fact_faults

prepare_faults : Faults Short IsRule prepare_at
unfolding prepare_at
prepare_faults = made_faults messages.Prepare (epoch_faults IsRule)

promise_faults : Faults Short IsRule promise_at
unfolding promise_at
promise_faults = made_faults (λ x. messages.Promise x.0 x.1) (both_faults epoch_grammar (epoch_faults IsRule) any_fact_faults)

nack_faults : Faults Short IsRule nack_at
unfolding nack_at
nack_faults = made_faults (λ x. messages.Nack x.0 x.1) (both_faults epoch_grammar (epoch_faults IsRule) cause_faults)

new_epoch_faults : Faults Short IsRule new_epoch_at
unfolding new_epoch_at
new_epoch_faults = made_faults messages.NewEpoch any_fact_faults

accepted_faults : Faults Short IsRule accepted_at
unfolding accepted_at
accepted_faults = made_faults (λ x. messages.Accepted x.0 x.1) (both_faults epoch_grammar (epoch_faults IsRule) (number_faults IsRule 8))

get_faults : Faults Short IsRule get_at
unfolding get_at
get_faults = made_faults (λ x. messages.Get x.0 x.1.0 x.1.1) (both_faults epoch_grammar (epoch_faults IsRule) (both_faults u64_grammar (number_faults IsRule 8) key_faults))

get_reply_faults : Faults Short IsRule get_reply_at
unfolding get_reply_at
get_reply_faults =
    made_faults (λ x. messages.GetReply x.0 x.1.0 x.1.1.0 x.1.1.1.0 x.1.1.1.1)
    (both_faults epoch_grammar (epoch_faults IsRule)
    (both_faults u64_grammar (number_faults IsRule 8)
    (both_faults key_grammar key_faults
    (both_faults (optional_grammar entry_grammar) (optional_faults entry_faults) (optional_faults any_object_faults)))))

put_faults : Faults Short IsRule put_at
unfolding put_at
put_faults = made_faults (λ x. messages.Put x.0 x.1) (both_faults epoch_grammar (epoch_faults IsRule) any_object_faults)

put_reply_faults : Faults Short IsRule put_reply_at
unfolding put_reply_at
put_reply_faults = made_faults (λ x. messages.PutReply x.0 x.1.0 x.1.1) (both_faults epoch_grammar (epoch_faults IsRule) (both_faults key_grammar key_faults (version_faults IsRule)))

check_faults : Faults Short IsRule check_at
unfolding check_at
check_faults = made_faults (λ x. messages.Check x.0 x.1) (both_faults epoch_grammar (epoch_faults IsRule) (number_faults IsRule 8))

check_reply_faults : Faults Short IsRule check_reply_at
unfolding check_reply_at
check_reply_faults = made_faults (λ x. messages.CheckReply x.0 x.1) (both_faults epoch_grammar (epoch_faults IsRule) (number_faults IsRule 8))

tree_ask_faults : Faults Short IsRule tree_ask_at
unfolding tree_ask_at
tree_ask_faults = made_faults (λ x. messages.TreeAsk x.0 x.1.0 x.1.1) (both_faults epoch_grammar (epoch_faults IsRule) (both_faults (position_grammar Two) (position_faults Two) option_key_faults))

tree_give_faults : Faults Short IsRule tree_give_at
unfolding tree_give_at
tree_give_faults =
    made_faults (λ x. messages.TreeGive x.0 x.1.0 x.1.1.0 x.1.1.1.0 x.1.1.1.1)
    (both_faults epoch_grammar (epoch_faults IsRule)
    (both_faults (position_grammar Two) (position_faults Two)
    (both_faults option_key_grammar option_key_faults
    (both_faults flag_grammar flag_faults body_faults))))

commit_faults : Faults Short IsRule commit_at
unfolding commit_at
commit_faults = made_faults messages.Commit any_fact_faults

beat_faults : Faults Short IsRule beat_at
unfolding beat_at
beat_faults = made_faults messages.Beat (epoch_faults IsRule)

call_frame_faults : Faults Short IsRule call_frame_at
unfolding call_frame_at
call_frame_faults = made_faults (λ x. messages.CallFrame x.0 x.1.0 x.1.1) (both_faults u64_grammar (number_faults IsRule 8) call_faults)

answer_frame_faults : Faults Short IsRule answer_frame_at
unfolding answer_frame_at
answer_frame_faults = made_faults (λ x. messages.AnswerFrame x.0 x.1) (both_faults u64_grammar (number_faults IsRule 8) reply_faults)

late : (t : ℕ) → 1 ≤ t → eqb t 1 ≡ false → eqb t 2 ≡ false → eqb t 3 ≡ false → eqb t 4 ≡ false → eqb t 5 ≡ false → eqb t 6 ≡ false → eqb t 7 ≡ false → eqb t 8 ≡ false → eqb t 9 ≡ false → 10 ≤ t
late t h a b c d e f g i j = grind (arith, nat_tests)

no_kind : (t : ℕ) → 10 ≤ t → t ≤ 19 → eqb t 10 ≡ false → eqb t 11 ≡ false → eqb t 12 ≡ false → eqb t 13 ≡ false → eqb t 14 ≡ false → eqb t 15 ≡ false → eqb t 16 ≡ false → eqb t 17 ≡ false → eqb t 18 ≡ false → eqb t 19 ≡ false → ⊥
no_kind t low high a b c d e f g i j k = grind (arith, nat_tests)

late_message_faults : (t : ℕ) → 10 ≤ t → t ≤ 19 → Faults Short IsRule (late_message_at t)
unfolding late_message_at
late_message_faults t low high =
    pick t 10 put_faults (λ a. pick t 11 put_reply_faults (λ b. pick t 12 check_faults (λ c. pick t 13 check_reply_faults (λ d. pick t 14 tree_ask_faults (λ e. pick t 15 tree_give_faults (λ f. pick t 16 commit_faults (λ g. pick t 17 beat_faults (λ i. pick t 18 call_frame_faults (λ j. pick t 19 answer_frame_faults (λ k. absurd (no_kind t low high a b c d e f g i j k)))))))))))

pub message_faults : (t : ℕ) → (1 ≤ t) × (t ≤ 19) → Faults Short IsRule (message_at t)
unfolding message_at
message_faults t h =
    pick t 1 (faultless messages.Probe) (λ a. pick t 2 probe_reply_faults (λ b. pick t 3 prepare_faults (λ c. pick t 4 promise_faults (λ d. pick t 5 nack_faults (λ e. pick t 6 new_epoch_faults (λ f. pick t 7 accepted_faults (λ g. pick t 8 get_faults (λ i. pick t 9 get_reply_faults (λ j. late_message_faults t (late t h.0 a b c d e f g i j) h.1)))))))))
