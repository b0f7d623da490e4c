-- The label of a message: its name, with its epoch, key or version.
use Rattle.std.specs.Prelude.{ℕ, Bool, true, false, List, [], ◌++◌, codes, Option, None, Some}
use Rattle.std.specs.Fmt.{decimal}
use Rattle.ens_base.specs.Words.{bytes_word, epoch_word, version_word}
use Rattle.ens_base.specs.declared.entry.Entry.{Entry}
use Rattle.tree_node.specs.declared.position.Position.{Position}
use Rattle.wire_frames.specs.declared.message.Message.{Message}
use Rattle.wire_frames.specs.declared.message.Message.TheVariants as messages
use Rattle.wire_frames.specs.declared.message.NackCause.{NackCause}
use Rattle.wire_frames.specs.declared.message.NackCause.TheVariants as causes
use Rattle.history_scribe.specs.Text.{reply_words}

-- LEVEL/INDEX
abbrev pub position_word : Position → List ℕ
position_word p = decimal p.level ++ codes "/" ++ decimal p.index

-- the version of an entry, if there is one
abbrev pub found_word : Option Entry → List ℕ
found_word None = codes "nothing"
found_word (Some entry) = version_word entry.version

-- the greater ballot that was promised, or what is wrong with the tree
abbrev pub cause_words : NackCause → List ℕ
cause_words (causes.Greater ballot) = codes "promised " ++ epoch_word ballot
cause_words causes.Untrusted = codes "untrusted"
cause_words (causes.Damaged position) = codes "damaged " ++ position_word position

-- whether the giver trusts its tree
abbrev pub trust_words : Bool → List ℕ
trust_words true = []
trust_words false = codes ", untrusted"

-- A message with a fact is labelled with the epoch of the fact, and an answer to a read with the
-- version that was found.
abbrev pub label : Message → List ℕ
label messages.Probe = codes "Probe"
label (messages.ProbeReply fact) = codes "ProbeReply " ++ epoch_word fact.epoch
label (messages.Prepare ballot) = codes "Prepare " ++ epoch_word ballot
label (messages.Promise ballot fact) = codes "Promise " ++ epoch_word ballot
label (messages.Nack ballot cause) = codes "Nack " ++ epoch_word ballot ++ codes ", " ++ cause_words cause
label (messages.NewEpoch fact) = codes "NewEpoch " ++ epoch_word fact.epoch
label (messages.Accepted epoch seq) = codes "Accepted " ++ epoch_word epoch ++ codes ", " ++ decimal seq
label (messages.Get epoch round key) = codes "Get " ++ bytes_word key
label (messages.GetReply epoch round key entry object) = codes "GetReply " ++ bytes_word key ++ codes " " ++ found_word entry
label (messages.Put epoch object) = codes "Put " ++ bytes_word object.key ++ codes " " ++ version_word object.version
label (messages.PutReply epoch key version) = codes "PutReply " ++ bytes_word key ++ codes " " ++ version_word version
label (messages.Check epoch round) = codes "Check " ++ epoch_word epoch
label (messages.CheckReply epoch round) = codes "CheckReply " ++ epoch_word epoch
label (messages.TreeAsk epoch position after) = codes "TreeAsk " ++ epoch_word epoch ++ codes " " ++ position_word position
label (messages.TreeGive epoch position after trusted body) = codes "TreeGive " ++ epoch_word epoch ++ codes " " ++ position_word position ++ trust_words trusted
label (messages.Commit fact) = codes "Commit " ++ epoch_word fact.epoch
label (messages.Beat epoch) = codes "Beat " ++ epoch_word epoch
label (messages.CallFrame number key command) = codes "Call " ++ decimal number ++ codes " " ++ bytes_word key
label (messages.AnswerFrame number reply) = codes "Answer " ++ decimal number ++ codes " " ++ reply_words reply
