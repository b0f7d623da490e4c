-- The book of an ensemble: events and times, calls, answers, and the notes of leaders.
use Rattle.std.specs.Prelude.{◌≡◌, ℕ, ◌+◌, ◌-◌, ◌<◌, ◌/◌, ◌%◌, ◌^◌, Bool, true, false, nat_le, List, [], ◌∷◌, ◌++◌, ◌==◌, ◌⊎◌, Option, None, Some, if◌then◌else◌}
use Rattle.ens_base.specs.declared.epoch.Version.{Version}
use Rattle.ens_base.specs.declared.command.Command.TheVariants.{Get}
use Rattle.ens_base.specs.declared.reply.Reply.{Reply}
use Rattle.register_model.specs.declared.register.Register.{Register}
use Rattle.register_model.specs.declared.register.Register.TheVariants.{Absent}
use Rattle.register_model.specs.declared.call.Call.{Call}
use Rattle.register_model.specs.declared.answer.Answer.{Answer}
use Rattle.register_model.specs.declared.note.Note.{Note}
use Rattle.register_model.specs.declared.note.Note.TheVariants.{Proposed, Settled, Read}
use Rattle.register_model.specs.Registers.{outcome, Keeps, Writes, written}
use Rattle.register_model.specs.Histories.{IsDone, IsRefused}
use Rattle.quorums.specs.Quorums.{is_quorum}
use Rattle.protocol_laws.specs.Ledger.{put, is_established}
use Rattle.protocol_laws.specs.Objects.{Objects, IsUntouched, IsNewest, IsHeard}

-- the version with this rank
unfoldable pub version_of : ℕ → Version
version_of v = record { epoch = record { count = (v - 1) / 2 ^ 64 / 2 ^ 32; proposer = (v - 1) / 2 ^ 64 % 2 ^ 32 }; seq = (v - 1) % 2 ^ 64 }

-- the version with this rank, or none for 0
abbrev pub version_or_none : ℕ → Option Version
version_or_none v = if v == 0 then None else Some (version_of v)

-- a noted read: the base that the call read, and the epoch in which it did
pub record Seen : Type 0 where
  pub key : List ℕ
  pub base : ℕ
  pub epoch : ℕ
  pub event : ℕ

-- what is recorded of events, calls, notes and answers
pub record Book : Type 0 where
  pub now : ℕ  -- the number of the current event
  pub elected_at : ℕ → ℕ  -- for each elected epoch, the event of its election
  pub proposed_at : ℕ → ℕ  -- for each proposed version, the event of its proposal
  pub settled_at : ℕ → ℕ  -- for each settled version, the event at which it was settled
  pub stamp : ℕ → Version  -- for each proposed version, the stamp of its object
  pub content : ℕ → Option (List ℕ)  -- for each proposed version, the content of its object; none for a tombstone
  pub call : ℕ → Option ℕ  -- for each proposed version, the call that it is the write of; none for a rewrite
  pub called : ℕ → Bool
  pub asked : ℕ → Call  -- for each id that was called
  pub stood : ℕ → ℕ → ℕ  -- stood i q: the ballot of peer q when call i came
  pub answered : ℕ → Bool
  pub answer : ℕ → Answer  -- for each id that was answered
  pub noted : ℕ → Bool  -- for each id, whether a read of it was noted
  pub seen : ℕ → Seen  -- for each noted id
  pub calls : List Call
  pub answers : List Answer
  pub notes : List Note  -- in order

-- the book before the first step: empty
abbrev pub opening_book : Book
opening_book = record {
  now = 0;
  elected_at = λ d. 0;
  proposed_at = λ v. 0;
  settled_at = λ v. 0;
  stamp = version_of;
  content = λ v. None;
  call = λ v. None;
  called = λ i. false;
  asked = λ i. record { id = i; key = []; command = Get; event = 0 };
  stood = λ i q. 0;
  answered = λ i. false;
  answer = λ i. record { id = i; event = 0; reply = Reply.Timeout };
  noted = λ i. false;
  seen = λ i. record { key = []; base = 0; epoch = 0; event = 0 };
  calls = [];
  answers = [];
  notes = [];
}

-- the register that a version leaves: absent for none and for a tombstone
abbrev pub register_at : Book → ℕ → Register
register_at b v = if v == 0 then Absent else written (b.stamp v) (b.content v)

-- version v was proposed for call i
abbrev pub Wrote : Objects → Book → ℕ → ℕ → Type 0
Wrote o b i v = (o.proposed v ≡ true) × (b.call v ≡ Some i)

-- the call came, no version was proposed for it, no read of it was noted, and it was not refused
pub record IsOpenCall (o : Objects) (b : Book) (i : ℕ) : Type 0 where
  pub called : b.called i ≡ true
  pub not_written : (v : ℕ) → Wrote o b i v → ⊥
  pub not_noted : b.noted i ≡ false
  pub not_refused : b.answered i ≡ true → ¬ IsRefused (b.answer i).reply

-- ## Steps

-- the call comes, at a new event
abbrev pub take_call : Book → (ℕ → ℕ) → Call → Book
take_call b ballots c = record b {
  now = b.now + 1;
  called = put b.called c.id true;
  asked = put b.asked c.id c;
  stood = put b.stood c.id ballots;
  calls = c ∷ b.calls;
}

-- a version is proposed with this object, for this call
abbrev pub note_proposal : Book → ℕ → List ℕ → ℕ → Version → Option (List ℕ) → Option ℕ → Book
note_proposal b v k u stamp content call = record b {
  proposed_at = put b.proposed_at v b.now;
  stamp = put b.stamp v stamp;
  content = put b.content v content;
  call = put b.call v call;
  notes = b.notes ++ Proposed k (version_of v) (version_or_none u) call ∷ [];
}

-- a version is settled
abbrev pub note_settled : Book → List ℕ → ℕ → Book
note_settled b k v = record b { settled_at = put b.settled_at v b.now; notes = b.notes ++ Settled k (version_of v) ∷ [] }

-- the call read this base, in this epoch
abbrev pub note_read : Book → ℕ → List ℕ → ℕ → ℕ → Book
note_read b i k u d = record b {
  noted = put b.noted i true;
  seen = put b.seen i (record { key = k; base = u; epoch = d; event = b.now });
  notes = b.notes ++ Read i k (version_or_none u) ∷ [];
}

-- a call is answered
abbrev pub give_answer : Book → ℕ → Reply → Book
give_answer b i r = record b {
  answered = put b.answered i true;
  answer = put b.answer i (record { id = i; event = b.now; reply = r });
  answers = record { id = i; event = b.now; reply = r } ∷ b.answers;
}

-- ## Guards

-- a call has a new id, and the number of its event
pub record MayCall (b : Book) (c : Call) : Type 0 where
  pub fresh : b.called c.id ≡ false
  pub event : c.event ≡ b.now + 1

-- a write of a call has its own version as stamp, and the content that the command writes on the
-- register of its parent
pub record MayWriteFor (o : Objects) (b : Book) (v : ℕ) (k : List ℕ) (u : ℕ) (stamp : Version) (content : Option (List ℕ)) (i : ℕ) : Type 0 where
  pub waiting : IsOpenCall o b i
  pub on_key : (b.asked i).key ≡ k
  pub own_stamp : stamp ≡ version_of v
  pub applies : outcome (b.asked i).command (register_at b u) ≡ Writes content

-- a rewrite has the stamp and the content of its parent
pub record MayRewrite (b : Book) (u : ℕ) (stamp : Version) (content : Option (List ℕ)) : Type 0 where
  pub some : 0 < u
  pub same_stamp : stamp ≡ b.stamp u
  pub same_content : content ≡ b.content u

-- a proposal is the write of a call, or a rewrite
abbrev pub MayNoteProposal : Objects → Book → ℕ → List ℕ → ℕ → Version → Option (List ℕ) → Option ℕ → Type 0
MayNoteProposal o b v k u stamp content None = MayRewrite b u stamp content
MayNoteProposal o b v k u stamp content (Some i) = MayWriteFor o b v k u stamp content i

-- whether the peer's ballot was at most the epoch when the call came
abbrev pub stood_below : Book → ℕ → ℕ → ℕ → Bool
stood_below b i d q = nat_le (b.stood i q) d

-- no version of the key was proposed in the epoch, and a quorum showed none
pub record IsAbsentHere (o : Objects) (d : ℕ) (k : List ℕ) (u : ℕ) : Type 0 where
  pub none : u ≡ 0
  pub untouched : IsUntouched o d k
  pub heard : IsHeard o d k u

-- a read is noted in an established epoch that was elected before the call came, if a quorum's
-- ballots were then at that epoch or below; its base is the newest version of the key in the epoch,
-- which is settled, or none; and the command leaves the register unchanged
pub record MayNoteRead (o : Objects) (b : Book) (i : ℕ) (k : List ℕ) (u d : ℕ) : Type 0 where
  pub waiting : IsOpenCall o b i
  pub on_key : (b.asked i).key ≡ k
  pub elected : o.ledger.elected d ≡ true
  pub before : b.elected_at d < (b.asked i).event
  pub established : is_established o.ledger d ≡ true
  pub quorum : is_quorum (stood_below b i d) (o.ledger.views d) ≡ true
  pub base : IsAbsentHere o d k u ⊎ IsNewest o d k u
  pub reply : Reply
  pub keeps : outcome (b.asked i).command (register_at b u) ≡ Keeps reply

-- the reply is that of a settled write of the call
pub record IsWriteReply (o : Objects) (b : Book) (i : ℕ) (r : Reply) : Type 0 where
  pub version : ℕ
  pub wrote : Wrote o b i version
  pub settled : o.settled version ≡ true
  pub reply : r ≡ Reply.Ok (version_of version)

-- the reply is what the command returns on the base of a noted read of the call
pub record IsReadReply (b : Book) (i : ℕ) (r : Reply) : Type 0 where
  pub noted : b.noted i ≡ true
  pub keeps : outcome (b.asked i).command (register_at b (b.seen i).base) ≡ Keeps r

-- each call is answered once: a completed one by its settled write or its noted read, and a refused
-- one only if it has neither
pub record MayAnswer (o : Objects) (b : Book) (i : ℕ) (r : Reply) : Type 0 where
  pub called : b.called i ≡ true
  pub fresh : b.answered i ≡ false
  pub done : IsDone r → IsWriteReply o b i r ⊎ IsReadReply b i r
  pub not_written : IsRefused r → (v : ℕ) → Wrote o b i v → ⊥
  pub not_noted : IsRefused r → b.noted i ≡ false
