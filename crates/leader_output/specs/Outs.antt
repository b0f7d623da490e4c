-- The answer of a rule of a leader.
use Rattle.std.specs.Prelude.{ℕ, true, false, List, [], ◌∷◌, ◌++◌, Some, None}
use Rattle.object_commands.specs.EnsBase.{Reply}
use Rattle.object_commands.specs.RegisterModel.{Note}
use Rattle.phase_rows.specs.WireFrames.{Message}
use Rattle.phase_rows.specs.declared.phase.Then.{Then}
use Rattle.phase_rows.specs.declared.phase.Then.TheVariants.{Stay, OnKeys}
use Rattle.phase_rows.specs.declared.rules.KeyRule.{KeyRule}
use Rattle.phase_rows.specs.declared.rules.KeyRule.TheVariants as key_rules
use Rattle.leader_output.specs.declared.out.LeadOut.{LeadOut}
use Rattle.leader_output.specs.declared.out.Own.{Own}
use Rattle.leader_output.specs.declared.out.Own.TheVariants as owns

-- an answer that only says what follows
abbrev pub comes : Then → LeadOut
comes then = record { leave = false; sends = []; answers = []; notes = []; own = None; then = then; keys = [] }

-- nothing happens
abbrev pub rests : LeadOut
rests = comes Stay

-- the leader steps down
abbrev pub leaves : LeadOut
leaves = record rests { leave = true }

-- the answer with one more key on which the next rule runs
abbrev pub and_key : List ℕ → LeadOut → LeadOut
and_key key o = record o { keys = o.keys ++ key ∷ [] }

-- this rule runs next on this key
abbrev pub leads_on : KeyRule → List ℕ → LeadOut
leads_on rule key = and_key key (comes (OnKeys rule))

-- the answer with this rule to run next, and one more key on which it runs
abbrev pub and_then : KeyRule → List ℕ → LeadOut → LeadOut
and_then rule key o = record o { then = OnKeys rule; keys = o.keys ++ key ∷ [] }

-- the answer with one more answer to a call
abbrev pub and_answer : ℕ → ℕ → Reply → LeadOut → LeadOut
and_answer from id reply o = record o { answers = o.answers ++ record { caller = from; id = id; reply = reply } ∷ [] }

-- the answer with one more note
abbrev pub and_note : Note → LeadOut → LeadOut
and_note note o = record o { notes = o.notes ++ note ∷ [] }

-- the answer with one more message
abbrev pub and_send : ℕ → Message → LeadOut → LeadOut
and_send to message o = record o { sends = o.sends ++ record { to = to; message = message } ∷ [] }

-- the answer with this to ask of the peer's own tree and backend
abbrev pub and_own : Own → LeadOut → LeadOut
and_own own o = record o { own = Some own }

-- the rule that asks this, and runs again with what the stores returned
abbrev pub asked_by : Own → KeyRule
asked_by (owns.Fetch key) = key_rules.StartCall
asked_by (owns.Look key) = key_rules.Read
asked_by (owns.Put object) = key_rules.Put
