-- Messages: which kind each has, and how their bodies are spelled.
use Rattle.std.specs.Prelude.{◌≡◌, ◌≤◌, ◌<◌, ◌^◌, ℕ, List, [], ◌++◌, length, Result, Ok, Err, ◌==◌, if◌then◌else◌, count_ones}
use Rattle.byteorder.specs.Endian.{big_bytes}
use Rattle.fields.specs.declared.field_error.FieldError.{FieldError}
use Rattle.fields.specs.declared.field_error.FieldError.TheVariants.{Rule}
use Rattle.fields.specs.Faults.{without_rule}
use Rattle.fields.specs.Numbers.{number_at}
use Rattle.ens_base.specs.Limits.{IsEpoch, IsVersion, IsKey}
use Rattle.fields.specs.Versions.{epoch_spelling, epoch_at, version_spelling, version_at}
use Rattle.fields.specs.Strings.{key_spelling, key_at}
use Rattle.fields.specs.Entries.{IsEntry, entry_spelling, entry_at}
use Rattle.stored_formats.specs.declared.object.Object.{Object}
use Rattle.stored_formats.specs.Objects.{IsObject, object_spelling, object_at}
use Rattle.stored_formats.specs.declared.fact.Fact.{Fact}
use Rattle.stored_formats.specs.FactBytes.{IsFact, fact_spelling, fact_at}
use Rattle.tree_node.specs.declared.version.TreeVersion.TheVariants.{Two}
use Rattle.tree_node.specs.declared.body.TreeBody.{TreeBody}
use Rattle.tree_node.specs.declared.body.TreeBody.TheVariants as bodies
use Rattle.tree_node.specs.Positions.{IsPosition, position_spelling, position_at}
use Rattle.tree_node.specs.Entries.{AreAbove}
use Rattle.wire_frames.specs.declared.message.NackCause.{NackCause}
use Rattle.wire_frames.specs.declared.message.NackCause.TheVariants as causes
use Rattle.wire_frames.specs.declared.message.Message.{Message}
use Rattle.wire_frames.specs.declared.message.Message.TheVariants as messages
use Rattle.wire_frames.specs.Readers.{both, made}
use Rattle.wire_frames.specs.Parts.{flag_spelling, flag_at, IsOptional, optional_spelling, optional_at, option_key_spelling, option_key_at, IsBody, body_spelling, body_at, IsCause, cause_spelling, cause_at}
use Rattle.wire_frames.specs.Calls.{IsCall, call_spelling, call_at, IsReply, reply_spelling, reply_at}

-- the number of the kind
abbrev pub kind_of : Message → ℕ
kind_of messages.Probe = 1
kind_of (messages.ProbeReply fact) = 2
kind_of (messages.Prepare ballot) = 3
kind_of (messages.Promise ballot fact) = 4
kind_of (messages.Nack ballot cause) = 5
kind_of (messages.NewEpoch fact) = 6
kind_of (messages.Accepted epoch seq) = 7
kind_of (messages.Get epoch round key) = 8
kind_of (messages.GetReply epoch round key entry object) = 9
kind_of (messages.Put epoch object) = 10
kind_of (messages.PutReply epoch key version) = 11
kind_of (messages.Check epoch round) = 12
kind_of (messages.CheckReply epoch round) = 13
kind_of (messages.TreeAsk epoch position after) = 14
kind_of (messages.TreeGive epoch position after trusted body) = 15
kind_of (messages.Commit fact) = 16
kind_of (messages.Beat epoch) = 17
kind_of (messages.CallFrame id key command) = 18
kind_of (messages.AnswerFrame id reply) = 19

-- the parts of the message keep their limits
abbrev pub IsMessage : Message → Type 0
IsMessage messages.Probe = Unit {0}
IsMessage (messages.ProbeReply fact) = IsFact fact
IsMessage (messages.Prepare ballot) = IsEpoch ballot
IsMessage (messages.Promise ballot fact) = IsEpoch ballot × IsFact fact
IsMessage (messages.Nack ballot cause) = IsEpoch ballot × IsCause cause
IsMessage (messages.NewEpoch fact) = IsFact fact
IsMessage (messages.Accepted epoch seq) = IsEpoch epoch × (seq < 2 ^ 64)
IsMessage (messages.Get epoch round key) = IsEpoch epoch × ((round < 2 ^ 64) × IsKey key)
IsMessage (messages.GetReply epoch round key entry object) = IsEpoch epoch × ((round < 2 ^ 64) × (IsKey key × (IsOptional IsEntry entry × IsOptional IsObject object)))
IsMessage (messages.Put epoch object) = IsEpoch epoch × IsObject object
IsMessage (messages.PutReply epoch key version) = IsEpoch epoch × (IsKey key × IsVersion version)
IsMessage (messages.Check epoch round) = IsEpoch epoch × (round < 2 ^ 64)
IsMessage (messages.CheckReply epoch round) = IsEpoch epoch × (round < 2 ^ 64)
IsMessage (messages.TreeAsk epoch position after) = IsEpoch epoch × (IsPosition Two position × IsOptional IsKey after)
IsMessage (messages.TreeGive epoch position after trusted body) = IsEpoch epoch × (IsPosition Two position × (IsOptional IsKey after × (Unit {0} × IsBody body)))
IsMessage (messages.Commit fact) = IsFact fact
IsMessage (messages.Beat epoch) = IsEpoch epoch
IsMessage (messages.CallFrame id key command) = (id < 2 ^ 64) × IsCall (key, command)
IsMessage (messages.AnswerFrame id reply) = (id < 2 ^ 64) × IsReply reply

-- the fields of the message, in order
abbrev pub message_spelling : Message → List ℕ
message_spelling messages.Probe = []
message_spelling (messages.ProbeReply fact) = fact_spelling fact
message_spelling (messages.Prepare ballot) = epoch_spelling ballot
message_spelling (messages.Promise ballot fact) = epoch_spelling ballot ++ fact_spelling fact
message_spelling (messages.Nack ballot cause) = epoch_spelling ballot ++ cause_spelling cause
message_spelling (messages.NewEpoch fact) = fact_spelling fact
message_spelling (messages.Accepted epoch seq) = epoch_spelling epoch ++ big_bytes 8 seq
message_spelling (messages.Get epoch round key) = epoch_spelling epoch ++ big_bytes 8 round ++ key_spelling key
message_spelling (messages.GetReply epoch round key entry object) = epoch_spelling epoch ++ big_bytes 8 round ++ key_spelling key ++ optional_spelling entry_spelling entry ++ optional_spelling object_spelling object
message_spelling (messages.Put epoch object) = epoch_spelling epoch ++ object_spelling object
message_spelling (messages.PutReply epoch key version) = epoch_spelling epoch ++ key_spelling key ++ version_spelling version
message_spelling (messages.Check epoch round) = epoch_spelling epoch ++ big_bytes 8 round
message_spelling (messages.CheckReply epoch round) = epoch_spelling epoch ++ big_bytes 8 round
message_spelling (messages.TreeAsk epoch position after) = epoch_spelling epoch ++ position_spelling position ++ option_key_spelling after
message_spelling (messages.TreeGive epoch position after trusted body) = epoch_spelling epoch ++ position_spelling position ++ option_key_spelling after ++ flag_spelling trusted ++ body_spelling body
message_spelling (messages.Commit fact) = fact_spelling fact
message_spelling (messages.Beat epoch) = epoch_spelling epoch
message_spelling (messages.CallFrame id key command) = big_bytes 8 id ++ call_spelling (key, command)
message_spelling (messages.AnswerFrame id reply) = big_bytes 8 id ++ reply_spelling reply

abbrev pub any_fact_at : List ℕ → ℕ → Result (Fact × ℕ) FieldError
any_fact_at bytes at = without_rule (fact_at bytes at)

abbrev pub any_object_at : List ℕ → ℕ → Result (Object × ℕ) FieldError
any_object_at bytes at = without_rule (object_at bytes at)

unfoldable pub probe_reply_at : List ℕ → ℕ → Result (Message × ℕ) FieldError
probe_reply_at bytes at = made messages.ProbeReply any_fact_at bytes at

unfoldable pub prepare_at : List ℕ → ℕ → Result (Message × ℕ) FieldError
prepare_at bytes at = made messages.Prepare epoch_at bytes at

unfoldable pub promise_at : List ℕ → ℕ → Result (Message × ℕ) FieldError
promise_at bytes at = made (λ x. messages.Promise x.0 x.1) (both epoch_at any_fact_at) bytes at

unfoldable pub nack_at : List ℕ → ℕ → Result (Message × ℕ) FieldError
nack_at bytes at = made (λ x. messages.Nack x.0 x.1) (both epoch_at cause_at) bytes at

unfoldable pub new_epoch_at : List ℕ → ℕ → Result (Message × ℕ) FieldError
new_epoch_at bytes at = made messages.NewEpoch any_fact_at bytes at

unfoldable pub accepted_at : List ℕ → ℕ → Result (Message × ℕ) FieldError
accepted_at bytes at = made (λ x. messages.Accepted x.0 x.1) (both epoch_at (number_at 8)) bytes at

unfoldable pub get_at : List ℕ → ℕ → Result (Message × ℕ) FieldError
get_at bytes at = made (λ x. messages.Get x.0 x.1.0 x.1.1) (both epoch_at (both (number_at 8) key_at)) bytes at

unfoldable pub get_reply_at : List ℕ → ℕ → Result (Message × ℕ) FieldError
get_reply_at bytes at = made (λ x. messages.GetReply x.0 x.1.0 x.1.1.0 x.1.1.1.0 x.1.1.1.1) (both epoch_at (both (number_at 8) (both key_at (both (optional_at entry_at) (optional_at any_object_at))))) bytes at

unfoldable pub put_at : List ℕ → ℕ → Result (Message × ℕ) FieldError
put_at bytes at = made (λ x. messages.Put x.0 x.1) (both epoch_at any_object_at) bytes at

unfoldable pub put_reply_at : List ℕ → ℕ → Result (Message × ℕ) FieldError
put_reply_at bytes at = made (λ x. messages.PutReply x.0 x.1.0 x.1.1) (both epoch_at (both key_at version_at)) bytes at

unfoldable pub check_at : List ℕ → ℕ → Result (Message × ℕ) FieldError
check_at bytes at = made (λ x. messages.Check x.0 x.1) (both epoch_at (number_at 8)) bytes at

unfoldable pub check_reply_at : List ℕ → ℕ → Result (Message × ℕ) FieldError
check_reply_at bytes at = made (λ x. messages.CheckReply x.0 x.1) (both epoch_at (number_at 8)) bytes at

unfoldable pub tree_ask_at : List ℕ → ℕ → Result (Message × ℕ) FieldError
tree_ask_at bytes at = made (λ x. messages.TreeAsk x.0 x.1.0 x.1.1) (both epoch_at (both (position_at Two) option_key_at)) bytes at

unfoldable pub tree_give_at : List ℕ → ℕ → Result (Message × ℕ) FieldError
tree_give_at bytes at = made (λ x. messages.TreeGive x.0 x.1.0 x.1.1.0 x.1.1.1.0 x.1.1.1.1) (both epoch_at (both (position_at Two) (both option_key_at (both flag_at body_at)))) bytes at

unfoldable pub commit_at : List ℕ → ℕ → Result (Message × ℕ) FieldError
commit_at bytes at = made messages.Commit any_fact_at bytes at

unfoldable pub beat_at : List ℕ → ℕ → Result (Message × ℕ) FieldError
beat_at bytes at = made messages.Beat epoch_at bytes at

unfoldable pub call_frame_at : List ℕ → ℕ → Result (Message × ℕ) FieldError
call_frame_at bytes at = made (λ x. messages.CallFrame x.0 x.1.0 x.1.1) (both (number_at 8) call_at) bytes at

unfoldable pub answer_frame_at : List ℕ → ℕ → Result (Message × ℕ) FieldError
answer_frame_at bytes at = made (λ x. messages.AnswerFrame x.0 x.1) (both (number_at 8) reply_at) bytes at

-- the message of this kind, from the tenth kind on
unfoldable pub late_message_at : ℕ → List ℕ → ℕ → Result (Message × ℕ) FieldError
late_message_at kind bytes at = if kind == 10 then put_at bytes at else (if kind == 11 then put_reply_at bytes at else (if kind == 12 then check_at bytes at else (if kind == 13 then check_reply_at bytes at else (if kind == 14 then tree_ask_at bytes at else (if kind == 15 then tree_give_at bytes at else (if kind == 16 then commit_at bytes at else (if kind == 17 then beat_at bytes at else (if kind == 18 then call_frame_at bytes at else (if kind == 19 then answer_frame_at bytes at else (Err (Rule at)))))))))))

-- the message of this kind
unfoldable pub message_at : ℕ → List ℕ → ℕ → Result (Message × ℕ) FieldError
message_at kind bytes at = if kind == 1 then Ok (messages.Probe, at) else (if kind == 2 then probe_reply_at bytes at else (if kind == 3 then prepare_at bytes at else (if kind == 4 then promise_at bytes at else (if kind == 5 then nack_at bytes at else (if kind == 6 then new_epoch_at bytes at else (if kind == 7 then accepted_at bytes at else (if kind == 8 then get_at bytes at else (if kind == 9 then get_reply_at bytes at else (late_message_at kind bytes at)))))))))

abbrev pub ObeysCause : NackCause → Type 0
ObeysCause (causes.Greater ballot) = Unit {0}
ObeysCause causes.Untrusted = Unit {0}
ObeysCause (causes.Damaged position) = IsPosition Two position

abbrev pub ObeysBody : TreeBody → Type 0
ObeysBody (bodies.Inner mask digests) = length digests ≡ count_ones mask
ObeysBody (bodies.Page entries more) = (length entries ≤ 32) × AreAbove [] entries
ObeysBody (bodies.Damaged position) = IsPosition Two position

-- what a message must obey besides the limits of its types: positions are in range, a mask has a
-- digest for each of its bits, and a page has at most 32 entries in the order of their keys
abbrev pub Obeys : Message → Type 0
Obeys (messages.Nack ballot cause) = ObeysCause cause
Obeys (messages.TreeAsk epoch position after) = IsPosition Two position
Obeys (messages.TreeGive epoch position after trusted body) = IsPosition Two position × ObeysBody body
Obeys message = Unit {0}
