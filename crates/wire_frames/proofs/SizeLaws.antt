-- How long messages are at most.
use Rattle.std.proofs.Common.{ℕ, ◌+◌, ◌*◌, ◌≤◌, Bool, true, false, List, [], ◌∷◌, ◌++◌, length, Option, None, Some, arith, length-append}
use borrow.Author.Numbers.{ones_of_16}
use Rattle.byteorder.specs.Endian.{big_bytes}
use Rattle.ens_base.specs.View.{IsView}
use Rattle.ens_base.specs.declared.entry.Entry.{Entry}
use Rattle.ens_base.specs.declared.command.Command.{Command}
use Rattle.ens_base.specs.declared.command.Command.TheVariants as commands
use Rattle.ens_base.specs.declared.reply.Reply.{Reply}
use Rattle.ens_base.specs.declared.reply.Reply.TheVariants as replies
use Rattle.fields.specs.Versions.{epoch_spelling, version_spelling}
use Rattle.ens_base.specs.Limits.{IsKey, IsValue, IsCommand}
use Rattle.fields.specs.Strings.{key_spelling, value_spelling}
use Rattle.fields.specs.Views.{view_spelling, AreViews, views_spelling}
use Rattle.fields.specs.Entries.{IsEntry, entry_spelling}
use Rattle.fields.proofs.MemberLoop.{length-members}
use Rattle.stored_formats.specs.declared.object.Object.{Object}
use Rattle.stored_formats.specs.Objects.{IsObject, IsContent, content_spelling, object_spelling}
use Rattle.stored_formats.specs.declared.fact.Fact.{Fact}
use Rattle.stored_formats.specs.declared.fact.Change.{Change}
use Rattle.stored_formats.specs.declared.fact.Change.TheVariants as changes
use Rattle.stored_formats.specs.FactBytes.{IsFact, IsChange, change_spelling, fact_spelling}
use Rattle.tree_node.specs.declared.body.TreeBody.{TreeBody}
use Rattle.tree_node.specs.declared.body.TreeBody.TheVariants as bodies
use Rattle.tree_node.specs.Repeats.{AreListed}
use Rattle.tree_node.specs.Positions.{position_spelling}
use Rattle.tree_node.specs.Entries.{IsNext, entries_spelling, AreDigests, digests_spelling}
use Rattle.wire_frames.specs.declared.message.NackCause.{NackCause}
use Rattle.wire_frames.specs.declared.message.NackCause.TheVariants as causes
use Rattle.wire_frames.specs.declared.message.Message.{Message}
use Rattle.wire_frames.specs.declared.message.Message.TheVariants as messages
use Rattle.wire_frames.specs.Parts.{flag_spelling, IsOptional, optional_spelling, option_key_spelling, IsBody, body_spelling, cause_spelling}
use Rattle.wire_frames.specs.Calls.{arguments_spelling, IsCall, call_spelling, command_tag, IsReply, reply_spelling}
use Rattle.wire_frames.specs.Messages.{IsMessage, message_spelling}

two : (a b : List ℕ) (m n : ℕ) → length a ≤ m → length b ≤ n → length (a ++ b) ≤ m + n
two a b m n p q = omega (arith, length-append a b)

view_size : (v : List ℕ) → IsView v → length (view_spelling v) ≤ 37
view_size v h = omega (arith, length-members v, h.size.1)

views_size : (vs : List (List ℕ)) → AreViews vs → length (views_spelling vs) ≤ 75
views_size [] h = absurd h
views_size (v ∷ []) h = let one = two (view_spelling v) [] 37 0 (view_size v h) (omega arith) in omega arith
views_size (v ∷ w ∷ []) h = let both = two (view_spelling v) (view_spelling w ++ []) 37 37 (view_size v h.0) (two (view_spelling w) [] 37 0 (view_size w h.1) (omega arith)) in omega arith
views_size (v ∷ w ∷ x ∷ vs) h = absurd h

change_size : (c : Change) → IsChange c → length (change_spelling c) ≤ 38
change_size changes.None h = omega arith
change_size (changes.Add view) h = omega (arith, view_size view h)
change_size changes.Drop h = omega arith

fact_size : (f : Fact) → IsFact f → length (fact_spelling f) ≤ 150
fact_size f h =
    two (1 ∷ [] ++ epoch_spelling f.ballot ++ epoch_spelling f.epoch ++ big_bytes 8 f.seq ++ big_bytes 4 f.leader ++ views_spelling f.views) (change_spelling f.change) 112 38
    (two (1 ∷ [] ++ epoch_spelling f.ballot ++ epoch_spelling f.epoch ++ big_bytes 8 f.seq ++ big_bytes 4 f.leader) (views_spelling f.views) 37 75 (omega arith) (views_size f.views h.views)) (change_size f.change h.change)

key_size : (k : List ℕ) → IsKey k → length (key_spelling k) ≤ 65
key_size k h = omega (arith, h.size.1)

value_size : (v : List ℕ) → IsValue v → length (value_spelling v) ≤ 1026
value_size v h = omega (arith, h.size)

content_size : (o : Option (List ℕ)) → IsContent o → length (content_spelling o) ≤ 1027
content_size None h = omega arith
content_size (Some v) h = omega (arith, value_size v h)

object_size : (o : Object) → IsObject o → length (object_spelling o) ≤ 1132
object_size o h =
    two (version_spelling o.version ++ version_spelling o.stamp ++ key_spelling o.key) (content_spelling o.value) 105 1027
    (two (version_spelling o.version ++ version_spelling o.stamp) (key_spelling o.key) 40 65 (omega arith) (key_size o.key h.key)) (content_size o.value h.content)

entry_size : (e : Entry) → IsEntry e → length (entry_spelling e) ≤ 101
entry_size e h =
    let digest : length e.digest ≤ 16 = omega (arith, h.digest.size) in
    two (key_spelling e.key ++ version_spelling e.version) e.digest 85 16 (two (key_spelling e.key) (version_spelling e.version) 65 20 (key_size e.key h.key) (omega arith)) digest

entries_size : (low : List ℕ) (es : List Entry) → AreListed IsNext (λ e. e.key) low es → length (entries_spelling es) ≤ 101 * length es
entries_size low [] h = omega arith
entries_size low (e ∷ es) h = let both = two (entry_spelling e) (entries_spelling es) 101 (101 * length es) (entry_size e h.0.1) (entries_size e.key es h.1) in omega arith

digests_size : (ds : List (List ℕ)) → AreDigests ds → length (digests_spelling ds) ≤ 16 * length ds
digests_size [] h = omega arith
digests_size (d ∷ ds) h =
    let one : length d ≤ 16 = omega (arith, h.0.size) in
    let both = two d (digests_spelling ds) 16 (16 * length ds) one (digests_size ds h.1) in omega arith

flag_size : (b : Bool) → length (flag_spelling b) ≤ 1
flag_size true = omega arith
flag_size false = omega arith

body_size : (b : TreeBody) → IsBody b → length (body_spelling b) ≤ 3300
body_size (bodies.Inner mask digests) h = omega (arith, digests_size digests h.1.0, h.1.1, ones_of_16 mask h.0)
body_size (bodies.Page entries more) h =
    let both = two (length entries ∷ [] ++ entries_spelling entries) (flag_spelling more) 3233 1 (omega (arith, entries_size [] entries h.1, h.0)) (flag_size more) in omega arith
body_size (bodies.Damaged position) h = omega arith

cause_size : (x : NackCause) → length (cause_spelling x) ≤ 13
cause_size (causes.Greater ballot) = omega arith
cause_size causes.Untrusted = omega arith
cause_size (causes.Damaged position) = omega arith

option_key_size : (k : Option (List ℕ)) → IsOptional IsKey k → length (option_key_spelling k) ≤ 65
option_key_size None h = omega arith
option_key_size (Some k) h = key_size k h

option_entry_size : (e : Option Entry) → IsOptional IsEntry e → length (optional_spelling entry_spelling e) ≤ 102
option_entry_size None h = omega arith
option_entry_size (Some e) h = omega (arith, entry_size e h)

option_object_size : (o : Option Object) → IsOptional IsObject o → length (optional_spelling object_spelling o) ≤ 1133
option_object_size None h = omega arith
option_object_size (Some o) h = let size = object_size o h in omega arith

arguments_size : (c : Command) → IsCommand c → length (arguments_spelling c) ≤ 2052
arguments_size commands.Get h = omega arith
arguments_size (commands.PutOnce v) h = omega (arith, value_size v h)
arguments_size (commands.Update s v) h = let both = two (version_spelling s) (value_spelling v) 20 1026 (omega arith) (value_size v h.1) in omega arith
arguments_size (commands.Append v) h = omega (arith, value_size v h)
arguments_size (commands.Add n) h = omega arith
arguments_size (commands.Swap a b) h = two (value_spelling a) (value_spelling b) 1026 1026 (value_size a h.0) (value_size b h.1)
arguments_size (commands.Over v) h = omega (arith, value_size v h)
arguments_size commands.Delete h = omega arith

call_size : (x : List ℕ × Command) → IsCall x → length (call_spelling x) ≤ 2118
call_size x h = two (command_tag x.1 ∷ [] ++ key_spelling x.0) (arguments_spelling x.1) 66 2052 (omega (arith, key_size x.0 h.0)) (arguments_size x.1 h.1)

reply_size : (r : Reply) → IsReply r → length (reply_spelling r) ≤ 1047
reply_size (replies.Value s v) h = let both = two (version_spelling s) (value_spelling v) 20 1026 (omega arith) (value_size v h.1) in omega arith
reply_size replies.NotFound h = omega arith
reply_size (replies.Ok s) h = omega arith
reply_size replies.Failed h = omega arith
reply_size replies.Unavailable h = omega arith
reply_size replies.Busy h = omega arith
reply_size replies.Lost h = omega arith
reply_size replies.Timeout h = omega arith

few : (a : List ℕ) (n : ℕ) → length a ≤ n → n ≤ 4096 → length a ≤ 4096
few a n h le = omega arith

-- each message fits in a frame
pub message_size : (m : Message) → IsMessage m → length (message_spelling m) ≤ 4096
message_size messages.Probe h = omega arith
message_size (messages.ProbeReply f) h = few (fact_spelling f) 150 (fact_size f h) (omega arith)
message_size (messages.Prepare b) h = omega arith
message_size (messages.Promise b f) h = few (epoch_spelling b ++ fact_spelling f) 162 (two (epoch_spelling b) (fact_spelling f) 12 150 (omega arith) (fact_size f h.1)) (omega arith)
message_size (messages.Nack b c) h = few (epoch_spelling b ++ cause_spelling c) 25 (two (epoch_spelling b) (cause_spelling c) 12 13 (omega arith) (cause_size c)) (omega arith)
message_size (messages.NewEpoch f) h = few (fact_spelling f) 150 (fact_size f h) (omega arith)
message_size (messages.Accepted e s) h = omega arith
message_size (messages.Get e r k) h = few (epoch_spelling e ++ big_bytes 8 r ++ key_spelling k) 85 (two (epoch_spelling e ++ big_bytes 8 r) (key_spelling k) 20 65 (omega arith) (key_size k h.1.1)) (omega arith)
message_size (messages.GetReply e r k en o) h =
    few (epoch_spelling e ++ big_bytes 8 r ++ key_spelling k ++ optional_spelling entry_spelling en ++ optional_spelling object_spelling o) 1320
    (two (epoch_spelling e ++ big_bytes 8 r ++ key_spelling k ++ optional_spelling entry_spelling en) (optional_spelling object_spelling o) 187 1133
    (two (epoch_spelling e ++ big_bytes 8 r ++ key_spelling k) (optional_spelling entry_spelling en) 85 102
    (two (epoch_spelling e ++ big_bytes 8 r) (key_spelling k) 20 65 (omega arith) (key_size k h.1.1.0)) (option_entry_size en h.1.1.1.0)) (option_object_size o h.1.1.1.1)) (omega arith)
message_size (messages.Put e o) h = few (epoch_spelling e ++ object_spelling o) 1144 (two (epoch_spelling e) (object_spelling o) 12 1132 (omega arith) (object_size o h.1)) (omega arith)
message_size (messages.PutReply e k v) h = few (epoch_spelling e ++ key_spelling k ++ version_spelling v) 97 (two (epoch_spelling e ++ key_spelling k) (version_spelling v) 77 20 (two (epoch_spelling e) (key_spelling k) 12 65 (omega arith) (key_size k h.1.0)) (omega arith)) (omega arith)
message_size (messages.Check e r) h = omega arith
message_size (messages.CheckReply e r) h = omega arith
message_size (messages.TreeAsk e p k) h = few (epoch_spelling e ++ position_spelling p ++ option_key_spelling k) 82 (two (epoch_spelling e ++ position_spelling p) (option_key_spelling k) 17 65 (omega arith) (option_key_size k h.1.1)) (omega arith)
message_size (messages.TreeGive e p k t b) h =
    few (epoch_spelling e ++ position_spelling p ++ option_key_spelling k ++ flag_spelling t ++ body_spelling b) 3383
    (two (epoch_spelling e ++ position_spelling p ++ option_key_spelling k ++ flag_spelling t) (body_spelling b) 83 3300
    (two (epoch_spelling e ++ position_spelling p ++ option_key_spelling k) (flag_spelling t) 82 1
    (two (epoch_spelling e ++ position_spelling p) (option_key_spelling k) 17 65 (omega arith) (option_key_size k h.1.1.0)) (flag_size t)) (body_size b h.1.1.1.1)) (omega arith)
message_size (messages.Commit f) h = few (fact_spelling f) 150 (fact_size f h) (omega arith)
message_size (messages.Beat e) h = omega arith
message_size (messages.CallFrame id k c) h = few (big_bytes 8 id ++ call_spelling (k, c)) 2126 (two (big_bytes 8 id) (call_spelling (k, c)) 8 2118 (omega arith) (call_size (k, c) h.1)) (omega arith)
message_size (messages.AnswerFrame id r) h = few (big_bytes 8 id ++ reply_spelling r) 1055 (two (big_bytes 8 id) (reply_spelling r) 8 1047 (omega arith) (reply_size r h.1)) (omega arith)
