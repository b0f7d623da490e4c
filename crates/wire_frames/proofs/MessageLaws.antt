-- The grammar of messages, by their kinds.
use Rattle.std.proofs.Common.{◌≡◌, ℕ, Bool, List, ◌++◌, Option, refl, sym, append_assoc, arith}
use Rattle.byteorder.specs.Endian.{big_bytes}
use Rattle.ens_base.specs.declared.epoch.Epoch.{Epoch}
use Rattle.ens_base.specs.declared.epoch.Version.{Version}
use Rattle.ens_base.specs.declared.entry.Entry.{Entry}
use Rattle.ens_base.specs.declared.command.Command.{Command}
use Rattle.ens_base.specs.declared.reply.Reply.{Reply}
use Rattle.fields.specs.declared.field_error.FieldError.TheVariants.{Rule}
use Rattle.fields.specs.Grammar.{IsGrammar}
use Rattle.fields.specs.Versions.{epoch_spelling, version_spelling}
use Rattle.fields.specs.Strings.{key_spelling}
use Rattle.fields.specs.Entries.{entry_spelling}
use Rattle.fields.proofs.NumberLaws.{u64_grammar}
use Rattle.fields.proofs.FieldLaws.{epoch_grammar, version_grammar, key_grammar}
use Rattle.fields.proofs.EntryLaws.{entry_grammar}
use Rattle.fields.proofs.FaultLaws.{without_rule_grammar}
use Rattle.stored_formats.specs.declared.object.Object.{Object}
use Rattle.stored_formats.specs.Objects.{IsObject, object_spelling}
use Rattle.stored_formats.proofs.ObjectLaws.{object_grammar}
use Rattle.stored_formats.specs.declared.fact.Fact.{Fact}
use Rattle.stored_formats.specs.FactBytes.{IsFact, fact_spelling}
use Rattle.stored_formats.proofs.FactLaws.{fact_grammar}
use Rattle.tree_node.specs.declared.version.TreeVersion.TheVariants.{Two}
use Rattle.tree_node.specs.declared.position.Position.{Position}
use Rattle.tree_node.specs.declared.body.TreeBody.{TreeBody}
use Rattle.tree_node.specs.Positions.{position_spelling}
use Rattle.tree_node.proofs.PositionLaws.{position_grammar}
use Rattle.wire_frames.specs.declared.message.NackCause.{NackCause}
use Rattle.wire_frames.specs.declared.message.Message.{Message}
use Rattle.wire_frames.specs.declared.message.Message.TheVariants as messages
use Rattle.wire_frames.specs.Parts.{flag_spelling, optional_spelling, option_key_spelling, body_spelling}
use Rattle.wire_frames.specs.Messages.{kind_of, IsMessage, message_spelling, any_fact_at, any_object_at, probe_reply_at, prepare_at, promise_at, nack_at, new_epoch_at, accepted_at, get_at, get_reply_at, put_at, put_reply_at, check_at, check_reply_at, tree_ask_at, tree_give_at, commit_at, beat_at, call_frame_at, answer_frame_at, late_message_at, message_at}
use Rattle.wire_frames.proofs.ReaderLaws.{both_grammar, variant_grammar, empty_grammar, choice, no_choice}
use Rattle.wire_frames.proofs.PartLaws.{flag_grammar, optional_grammar, option_key_grammar, body_grammar, cause_grammar}
use Rattle.wire_frames.proofs.CallLaws.{call_grammar, reply_grammar}

any_fact_grammar : IsGrammar IsFact fact_spelling any_fact_at
any_fact_grammar = without_rule_grammar fact_grammar

any_object_grammar : IsGrammar IsObject object_spelling any_object_at
any_object_grammar = without_rule_grammar object_grammar

regroup3 : (a b c : List ℕ) → a ++ (b ++ c) ≡ a ++ b ++ c
regroup3 a b c = sym (append_assoc a b c)

regroup5 : (a b c d e : List ℕ) → a ++ (b ++ (c ++ (d ++ e))) ≡ a ++ b ++ c ++ d ++ e
regroup5 a b c d e = sym (simp append_assoc)

kind_1 : (m : Message) → kind_of m ≡ 1 → messages.Probe ≡ m
kind_1 messages.Probe e = refl
kind_1 m e = absurd (omega arith)

kind_2 : (m : Message) → kind_of m ≡ 2 → (x : Fact) × (messages.ProbeReply x ≡ m)
kind_2 (messages.ProbeReply fact) e = (fact, refl)
kind_2 m e = absurd (omega arith)

kind_3 : (m : Message) → kind_of m ≡ 3 → (x : Epoch) × (messages.Prepare x ≡ m)
kind_3 (messages.Prepare ballot) e = (ballot, refl)
kind_3 m e = absurd (omega arith)

kind_4 : (m : Message) → kind_of m ≡ 4 → (x : Epoch × Fact) × (messages.Promise x.0 x.1 ≡ m)
kind_4 (messages.Promise ballot fact) e = ((ballot, fact), refl)
kind_4 m e = absurd (omega arith)

kind_5 : (m : Message) → kind_of m ≡ 5 → (x : Epoch × NackCause) × (messages.Nack x.0 x.1 ≡ m)
kind_5 (messages.Nack ballot cause) e = ((ballot, cause), refl)
kind_5 m e = absurd (omega arith)

kind_6 : (m : Message) → kind_of m ≡ 6 → (x : Fact) × (messages.NewEpoch x ≡ m)
kind_6 (messages.NewEpoch fact) e = (fact, refl)
kind_6 m e = absurd (omega arith)

kind_7 : (m : Message) → kind_of m ≡ 7 → (x : Epoch × ℕ) × (messages.Accepted x.0 x.1 ≡ m)
kind_7 (messages.Accepted epoch seq) e = ((epoch, seq), refl)
kind_7 m e = absurd (omega arith)

kind_8 : (m : Message) → kind_of m ≡ 8 → (x : Epoch × (ℕ × List ℕ)) × (messages.Get x.0 x.1.0 x.1.1 ≡ m)
kind_8 (messages.Get epoch round key) e = ((epoch, (round, key)), refl)
kind_8 m e = absurd (omega arith)

kind_9 : (m : Message) → kind_of m ≡ 9 → (x : Epoch × (ℕ × (List ℕ × (Option Entry × Option Object)))) × (messages.GetReply x.0 x.1.0 x.1.1.0 x.1.1.1.0 x.1.1.1.1 ≡ m)
kind_9 (messages.GetReply epoch round key entry object) e = ((epoch, (round, (key, (entry, object)))), refl)
kind_9 m e = absurd (omega arith)

kind_10 : (m : Message) → kind_of m ≡ 10 → (x : Epoch × Object) × (messages.Put x.0 x.1 ≡ m)
kind_10 (messages.Put epoch object) e = ((epoch, object), refl)
kind_10 m e = absurd (omega arith)

kind_11 : (m : Message) → kind_of m ≡ 11 → (x : Epoch × (List ℕ × Version)) × (messages.PutReply x.0 x.1.0 x.1.1 ≡ m)
kind_11 (messages.PutReply epoch key version) e = ((epoch, (key, version)), refl)
kind_11 m e = absurd (omega arith)

kind_12 : (m : Message) → kind_of m ≡ 12 → (x : Epoch × ℕ) × (messages.Check x.0 x.1 ≡ m)
kind_12 (messages.Check epoch round) e = ((epoch, round), refl)
kind_12 m e = absurd (omega arith)

kind_13 : (m : Message) → kind_of m ≡ 13 → (x : Epoch × ℕ) × (messages.CheckReply x.0 x.1 ≡ m)
kind_13 (messages.CheckReply epoch round) e = ((epoch, round), refl)
kind_13 m e = absurd (omega arith)

kind_14 : (m : Message) → kind_of m ≡ 14 → (x : Epoch × (Position × Option (List ℕ))) × (messages.TreeAsk x.0 x.1.0 x.1.1 ≡ m)
kind_14 (messages.TreeAsk epoch position after) e = ((epoch, (position, after)), refl)
kind_14 m e = absurd (omega arith)

kind_15 : (m : Message) → kind_of m ≡ 15 → (x : Epoch × (Position × (Option (List ℕ) × (Bool × TreeBody)))) × (messages.TreeGive x.0 x.1.0 x.1.1.0 x.1.1.1.0 x.1.1.1.1 ≡ m)
kind_15 (messages.TreeGive epoch position after trusted body) e = ((epoch, (position, (after, (trusted, body)))), refl)
kind_15 m e = absurd (omega arith)

kind_16 : (m : Message) → kind_of m ≡ 16 → (x : Fact) × (messages.Commit x ≡ m)
kind_16 (messages.Commit fact) e = (fact, refl)
kind_16 m e = absurd (omega arith)

kind_17 : (m : Message) → kind_of m ≡ 17 → (x : Epoch) × (messages.Beat x ≡ m)
kind_17 (messages.Beat epoch) e = (epoch, refl)
kind_17 m e = absurd (omega arith)

kind_18 : (m : Message) → kind_of m ≡ 18 → (x : ℕ × (List ℕ × Command)) × (messages.CallFrame x.0 x.1.0 x.1.1 ≡ m)
kind_18 (messages.CallFrame id key command) e = ((id, (key, command)), refl)
kind_18 m e = absurd (omega arith)

kind_19 : (m : Message) → kind_of m ≡ 19 → (x : ℕ × Reply) × (messages.AnswerFrame x.0 x.1 ≡ m)
kind_19 (messages.AnswerFrame id reply) e = ((id, reply), refl)
kind_19 m e = absurd (omega arith)

kind_other : (t : ℕ) → (t ≡ 1 → ⊥) → (t ≡ 2 → ⊥) → (t ≡ 3 → ⊥) → (t ≡ 4 → ⊥) → (t ≡ 5 → ⊥) → (t ≡ 6 → ⊥) → (t ≡ 7 → ⊥) → (t ≡ 8 → ⊥) → (t ≡ 9 → ⊥) → (t ≡ 10 → ⊥) → (t ≡ 11 → ⊥) → (t ≡ 12 → ⊥) → (t ≡ 13 → ⊥) → (t ≡ 14 → ⊥) → (t ≡ 15 → ⊥) → (t ≡ 16 → ⊥) → (t ≡ 17 → ⊥) → (t ≡ 18 → ⊥) → (t ≡ 19 → ⊥) → (x : Message) → kind_of x ≡ t → ⊥
kind_other t n1 n2 n3 n4 n5 n6 n7 n8 n9 n10 n11 n12 n13 n14 n15 n16 n17 n18 n19 messages.Probe e = n1 (sym e)
kind_other t n1 n2 n3 n4 n5 n6 n7 n8 n9 n10 n11 n12 n13 n14 n15 n16 n17 n18 n19 (messages.ProbeReply fact) e = n2 (sym e)
kind_other t n1 n2 n3 n4 n5 n6 n7 n8 n9 n10 n11 n12 n13 n14 n15 n16 n17 n18 n19 (messages.Prepare ballot) e = n3 (sym e)
kind_other t n1 n2 n3 n4 n5 n6 n7 n8 n9 n10 n11 n12 n13 n14 n15 n16 n17 n18 n19 (messages.Promise ballot fact) e = n4 (sym e)
kind_other t n1 n2 n3 n4 n5 n6 n7 n8 n9 n10 n11 n12 n13 n14 n15 n16 n17 n18 n19 (messages.Nack ballot cause) e = n5 (sym e)
kind_other t n1 n2 n3 n4 n5 n6 n7 n8 n9 n10 n11 n12 n13 n14 n15 n16 n17 n18 n19 (messages.NewEpoch fact) e = n6 (sym e)
kind_other t n1 n2 n3 n4 n5 n6 n7 n8 n9 n10 n11 n12 n13 n14 n15 n16 n17 n18 n19 (messages.Accepted epoch seq) e = n7 (sym e)
kind_other t n1 n2 n3 n4 n5 n6 n7 n8 n9 n10 n11 n12 n13 n14 n15 n16 n17 n18 n19 (messages.Get epoch round key) e = n8 (sym e)
kind_other t n1 n2 n3 n4 n5 n6 n7 n8 n9 n10 n11 n12 n13 n14 n15 n16 n17 n18 n19 (messages.GetReply epoch round key entry object) e = n9 (sym e)
kind_other t n1 n2 n3 n4 n5 n6 n7 n8 n9 n10 n11 n12 n13 n14 n15 n16 n17 n18 n19 (messages.Put epoch object) e = n10 (sym e)
kind_other t n1 n2 n3 n4 n5 n6 n7 n8 n9 n10 n11 n12 n13 n14 n15 n16 n17 n18 n19 (messages.PutReply epoch key version) e = n11 (sym e)
kind_other t n1 n2 n3 n4 n5 n6 n7 n8 n9 n10 n11 n12 n13 n14 n15 n16 n17 n18 n19 (messages.Check epoch round) e = n12 (sym e)
kind_other t n1 n2 n3 n4 n5 n6 n7 n8 n9 n10 n11 n12 n13 n14 n15 n16 n17 n18 n19 (messages.CheckReply epoch round) e = n13 (sym e)
kind_other t n1 n2 n3 n4 n5 n6 n7 n8 n9 n10 n11 n12 n13 n14 n15 n16 n17 n18 n19 (messages.TreeAsk epoch position after) e = n14 (sym e)
kind_other t n1 n2 n3 n4 n5 n6 n7 n8 n9 n10 n11 n12 n13 n14 n15 n16 n17 n18 n19 (messages.TreeGive epoch position after trusted body) e = n15 (sym e)
kind_other t n1 n2 n3 n4 n5 n6 n7 n8 n9 n10 n11 n12 n13 n14 n15 n16 n17 n18 n19 (messages.Commit fact) e = n16 (sym e)
kind_other t n1 n2 n3 n4 n5 n6 n7 n8 n9 n10 n11 n12 n13 n14 n15 n16 n17 n18 n19 (messages.Beat epoch) e = n17 (sym e)
kind_other t n1 n2 n3 n4 n5 n6 n7 n8 n9 n10 n11 n12 n13 n14 n15 n16 n17 n18 n19 (messages.CallFrame id key command) e = n18 (sym e)
kind_other t n1 n2 n3 n4 n5 n6 n7 n8 n9 n10 n11 n12 n13 n14 n15 n16 n17 n18 n19 (messages.AnswerFrame id reply) e = n19 (sym e)

probe_reply_grammar : IsGrammar (λ m. (kind_of m ≡ 2) × IsMessage m) message_spelling probe_reply_at
unfolding probe_reply_at
probe_reply_grammar = variant_grammar (any_fact_grammar) kind_of IsMessage message_spelling (λ x. messages.ProbeReply x) 2 (λ _. refl) kind_2 (λ x v. v) (λ x v. v) (λ _. refl)

prepare_grammar : IsGrammar (λ m. (kind_of m ≡ 3) × IsMessage m) message_spelling prepare_at
unfolding prepare_at
prepare_grammar = variant_grammar (epoch_grammar) kind_of IsMessage message_spelling (λ x. messages.Prepare x) 3 (λ _. refl) kind_3 (λ x v. v) (λ x v. v) (λ _. refl)

promise_grammar : IsGrammar (λ m. (kind_of m ≡ 4) × IsMessage m) message_spelling promise_at
unfolding promise_at
promise_grammar = variant_grammar (both_grammar epoch_grammar any_fact_grammar) kind_of IsMessage message_spelling (λ x. messages.Promise x.0 x.1) 4 (λ _. refl) kind_4 (λ x v. v) (λ x v. v) (λ _. refl)

nack_grammar : IsGrammar (λ m. (kind_of m ≡ 5) × IsMessage m) message_spelling nack_at
unfolding nack_at
nack_grammar = variant_grammar (both_grammar epoch_grammar cause_grammar) kind_of IsMessage message_spelling (λ x. messages.Nack x.0 x.1) 5 (λ _. refl) kind_5 (λ x v. v) (λ x v. v) (λ _. refl)

new_epoch_grammar : IsGrammar (λ m. (kind_of m ≡ 6) × IsMessage m) message_spelling new_epoch_at
unfolding new_epoch_at
new_epoch_grammar = variant_grammar (any_fact_grammar) kind_of IsMessage message_spelling (λ x. messages.NewEpoch x) 6 (λ _. refl) kind_6 (λ x v. v) (λ x v. v) (λ _. refl)

accepted_grammar : IsGrammar (λ m. (kind_of m ≡ 7) × IsMessage m) message_spelling accepted_at
unfolding accepted_at
accepted_grammar = variant_grammar (both_grammar epoch_grammar u64_grammar) kind_of IsMessage message_spelling (λ x. messages.Accepted x.0 x.1) 7 (λ _. refl) kind_7 (λ x v. v) (λ x v. v) (λ _. refl)

get_grammar : IsGrammar (λ m. (kind_of m ≡ 8) × IsMessage m) message_spelling get_at
unfolding get_at
get_grammar = variant_grammar (both_grammar epoch_grammar (both_grammar u64_grammar key_grammar)) kind_of IsMessage message_spelling (λ x. messages.Get x.0 x.1.0 x.1.1) 8 (λ _. refl) kind_8 (λ x v. v) (λ x v. v) (λ x. regroup3 (epoch_spelling x.0) (big_bytes 8 x.1.0) (key_spelling x.1.1))

get_reply_grammar : IsGrammar (λ m. (kind_of m ≡ 9) × IsMessage m) message_spelling get_reply_at
unfolding get_reply_at
get_reply_grammar = variant_grammar (both_grammar epoch_grammar (both_grammar u64_grammar (both_grammar key_grammar (both_grammar (optional_grammar entry_grammar) (optional_grammar any_object_grammar))))) kind_of IsMessage message_spelling (λ x. messages.GetReply x.0 x.1.0 x.1.1.0 x.1.1.1.0 x.1.1.1.1) 9 (λ _. refl) kind_9 (λ x v. v) (λ x v. v) (λ x. regroup5 (epoch_spelling x.0) (big_bytes 8 x.1.0) (key_spelling x.1.1.0) (optional_spelling entry_spelling x.1.1.1.0) (optional_spelling object_spelling x.1.1.1.1))

put_grammar : IsGrammar (λ m. (kind_of m ≡ 10) × IsMessage m) message_spelling put_at
unfolding put_at
put_grammar = variant_grammar (both_grammar epoch_grammar any_object_grammar) kind_of IsMessage message_spelling (λ x. messages.Put x.0 x.1) 10 (λ _. refl) kind_10 (λ x v. v) (λ x v. v) (λ _. refl)

put_reply_grammar : IsGrammar (λ m. (kind_of m ≡ 11) × IsMessage m) message_spelling put_reply_at
unfolding put_reply_at
put_reply_grammar = variant_grammar (both_grammar epoch_grammar (both_grammar key_grammar version_grammar)) kind_of IsMessage message_spelling (λ x. messages.PutReply x.0 x.1.0 x.1.1) 11 (λ _. refl) kind_11 (λ x v. v) (λ x v. v) (λ x. regroup3 (epoch_spelling x.0) (key_spelling x.1.0) (version_spelling x.1.1))

check_grammar : IsGrammar (λ m. (kind_of m ≡ 12) × IsMessage m) message_spelling check_at
unfolding check_at
check_grammar = variant_grammar (both_grammar epoch_grammar u64_grammar) kind_of IsMessage message_spelling (λ x. messages.Check x.0 x.1) 12 (λ _. refl) kind_12 (λ x v. v) (λ x v. v) (λ _. refl)

check_reply_grammar : IsGrammar (λ m. (kind_of m ≡ 13) × IsMessage m) message_spelling check_reply_at
unfolding check_reply_at
check_reply_grammar = variant_grammar (both_grammar epoch_grammar u64_grammar) kind_of IsMessage message_spelling (λ x. messages.CheckReply x.0 x.1) 13 (λ _. refl) kind_13 (λ x v. v) (λ x v. v) (λ _. refl)

tree_ask_grammar : IsGrammar (λ m. (kind_of m ≡ 14) × IsMessage m) message_spelling tree_ask_at
unfolding tree_ask_at
tree_ask_grammar = variant_grammar (both_grammar epoch_grammar (both_grammar (position_grammar Two) option_key_grammar)) kind_of IsMessage message_spelling (λ x. messages.TreeAsk x.0 x.1.0 x.1.1) 14 (λ _. refl) kind_14 (λ x v. v) (λ x v. v) (λ x. regroup3 (epoch_spelling x.0) (position_spelling x.1.0) (option_key_spelling x.1.1))

tree_give_grammar : IsGrammar (λ m. (kind_of m ≡ 15) × IsMessage m) message_spelling tree_give_at
unfolding tree_give_at
tree_give_grammar = variant_grammar (both_grammar epoch_grammar (both_grammar (position_grammar Two) (both_grammar option_key_grammar (both_grammar flag_grammar body_grammar)))) kind_of IsMessage message_spelling (λ x. messages.TreeGive x.0 x.1.0 x.1.1.0 x.1.1.1.0 x.1.1.1.1) 15 (λ _. refl) kind_15 (λ x v. v) (λ x v. v) (λ x. regroup5 (epoch_spelling x.0) (position_spelling x.1.0) (option_key_spelling x.1.1.0) (flag_spelling x.1.1.1.0) (body_spelling x.1.1.1.1))

commit_grammar : IsGrammar (λ m. (kind_of m ≡ 16) × IsMessage m) message_spelling commit_at
unfolding commit_at
commit_grammar = variant_grammar (any_fact_grammar) kind_of IsMessage message_spelling (λ x. messages.Commit x) 16 (λ _. refl) kind_16 (λ x v. v) (λ x v. v) (λ _. refl)

beat_grammar : IsGrammar (λ m. (kind_of m ≡ 17) × IsMessage m) message_spelling beat_at
unfolding beat_at
beat_grammar = variant_grammar (epoch_grammar) kind_of IsMessage message_spelling (λ x. messages.Beat x) 17 (λ _. refl) kind_17 (λ x v. v) (λ x v. v) (λ _. refl)

call_frame_grammar : IsGrammar (λ m. (kind_of m ≡ 18) × IsMessage m) message_spelling call_frame_at
unfolding call_frame_at
call_frame_grammar = variant_grammar (both_grammar u64_grammar call_grammar) kind_of IsMessage message_spelling (λ x. messages.CallFrame x.0 x.1.0 x.1.1) 18 (λ _. refl) kind_18 (λ x v. v) (λ x v. v) (λ _. refl)

answer_frame_grammar : IsGrammar (λ m. (kind_of m ≡ 19) × IsMessage m) message_spelling answer_frame_at
unfolding answer_frame_at
answer_frame_grammar = variant_grammar (both_grammar u64_grammar reply_grammar) kind_of IsMessage message_spelling (λ x. messages.AnswerFrame x.0 x.1) 19 (λ _. refl) kind_19 (λ x v. v) (λ x v. v) (λ _. refl)

late_grammar : (t : ℕ) → (t ≡ 1 → ⊥) → (t ≡ 2 → ⊥) → (t ≡ 3 → ⊥) → (t ≡ 4 → ⊥) → (t ≡ 5 → ⊥) → (t ≡ 6 → ⊥) → (t ≡ 7 → ⊥) → (t ≡ 8 → ⊥) → (t ≡ 9 → ⊥) → IsGrammar (λ m. (kind_of m ≡ t) × IsMessage m) message_spelling (late_message_at t)
unfolding late_message_at
late_grammar t n1 n2 n3 n4 n5 n6 n7 n8 n9 = choice kind_of IsMessage message_spelling t 10 put_grammar
    (λ n10. choice kind_of IsMessage message_spelling t 11 put_reply_grammar
    (λ n11. choice kind_of IsMessage message_spelling t 12 check_grammar
    (λ n12. choice kind_of IsMessage message_spelling t 13 check_reply_grammar
    (λ n13. choice kind_of IsMessage message_spelling t 14 tree_ask_grammar
    (λ n14. choice kind_of IsMessage message_spelling t 15 tree_give_grammar
    (λ n15. choice kind_of IsMessage message_spelling t 16 commit_grammar
    (λ n16. choice kind_of IsMessage message_spelling t 17 beat_grammar
    (λ n17. choice kind_of IsMessage message_spelling t 18 call_frame_grammar
    (λ n18. choice kind_of IsMessage message_spelling t 19 answer_frame_grammar
    (λ n19. no_choice kind_of IsMessage message_spelling t (λ at. Rule at) (kind_other t n1 n2 n3 n4 n5 n6 n7 n8 n9 n10 n11 n12 n13 n14 n15 n16 n17 n18 n19)))))))))))

pub message_grammar : (t : ℕ) → IsGrammar (λ m. (kind_of m ≡ t) × IsMessage m) message_spelling (message_at t)
unfolding message_at
message_grammar t = choice kind_of IsMessage message_spelling t 1 (empty_grammar kind_of IsMessage message_spelling messages.Probe 1 refl kind_1 tt refl)
    (λ n1. choice kind_of IsMessage message_spelling t 2 (probe_reply_grammar)
    (λ n2. choice kind_of IsMessage message_spelling t 3 (prepare_grammar)
    (λ n3. choice kind_of IsMessage message_spelling t 4 (promise_grammar)
    (λ n4. choice kind_of IsMessage message_spelling t 5 (nack_grammar)
    (λ n5. choice kind_of IsMessage message_spelling t 6 (new_epoch_grammar)
    (λ n6. choice kind_of IsMessage message_spelling t 7 (accepted_grammar)
    (λ n7. choice kind_of IsMessage message_spelling t 8 (get_grammar)
    (λ n8. choice kind_of IsMessage message_spelling t 9 (get_reply_grammar)
    (λ n9. late_grammar t n1 n2 n3 n4 n5 n6 n7 n8 n9)))))))))
