-- The registers that are possible after some calls, and what one more call leaves of them.
--
-- `known` are the stamps that printed replies have shown. A possible register names further stamps
-- that earlier steps must have had. A stamp that is shown now is new if it is in neither list.
use Rattle.std.specs.Prelude.{ℕ, Bool, true, false, ◌&&◌, not, if◌then◌else◌, fold, List, [], ◌∷◌, ◌++◌, Option, None, Some}
use Rattle.std.specs.List.{list_any}
use Rattle.ens_base.specs.Lists.{same_bytes}
use Rattle.ens_base.specs.Epochs.{same_version}
use Rattle.ens_base.specs.declared.epoch.Version.{Version}
use Rattle.ens_base.specs.declared.command.Command.{Command}
use Rattle.ens_base.specs.declared.command.Command.TheVariants.{Get, Update}
use Rattle.ens_base.specs.declared.reply.Reply.{Reply}
use Rattle.register_model.specs.Registers.{outcome}
use Rattle.object_commands.specs.Commands.{verdict_of}
use Rattle.object_commands.specs.declared.verdict.Verdict.{Verdict}
use Rattle.object_commands.specs.declared.verdict.Verdict.TheVariants.{Answer, Write}
use Rattle.register_model.specs.declared.register.Register.{Register}
use Rattle.register_checker.specs.Stamps.{has, within, with_stamp}
use Rattle.register_checker.specs.declared.guess.Guess.{Guess}
use Rattle.register_checker.specs.declared.guess.Guess.TheVariants.{Absent, Told, Untold}
use Rattle.register_checker.specs.declared.guess.Possible.{Possible}

-- whether two replies are equal
abbrev pub same_reply : Reply → Reply → Bool
same_reply (Reply.Value s b) (Reply.Value t c) = same_version s t && same_bytes b c
same_reply Reply.NotFound Reply.NotFound = true
same_reply (Reply.Ok s) (Reply.Ok t) = same_version s t
same_reply Reply.Failed Reply.Failed = true
same_reply Reply.Unavailable Reply.Unavailable = true
same_reply Reply.Busy Reply.Busy = true
same_reply Reply.Lost Reply.Lost = true
same_reply Reply.Timeout Reply.Timeout = true
same_reply a b = false

-- what is held after a write whose reply showed this stamp
abbrev pub told_content : Version → Option (List ℕ) → Guess
told_content stamp None = Absent
told_content stamp (Some bytes) = Told stamp bytes

-- what is held after a write whose stamp is unknown
abbrev pub untold_content : Option (List ℕ) → Guess
untold_content None = Absent
untold_content (Some bytes) = Untold bytes []

-- a placeholder for an unknown stamp, for commands that do not look at it
abbrev pub nowhere : Version
nowhere = record { epoch = record { count = 0; proposer = 0 }; seq = 0 }

-- the outcome of a command that does not look at an unknown stamp
abbrev pub verdict_on : Command → Guess → Verdict
verdict_on command Absent = verdict_of (outcome command Register.Absent)
verdict_on command (Told stamp bytes) = verdict_of (outcome command (Register.Present stamp bytes))
verdict_on command (Untold bytes excluded) = verdict_of (outcome command (Register.Present nowhere bytes))

-- as far as is known, no earlier step had this stamp
abbrev pub is_new : List Version → List Version → Version → Bool
is_new known named stamp = not (has known stamp) && not (has named stamp)

-- the unknown stamp may be this one
abbrev pub may_be : List Version → List Version → List Version → Version → Bool
may_be known named excluded stamp = is_new known named stamp && not (has excluded stamp)

-- without a printed reply: what this verdict leaves
abbrev pub left_untold : Verdict → Guess → List Version → List Possible
left_untold (Answer answer) held named = record { held = held; named = named } ∷ []
left_untold (Write content) held named = record { held = untold_content content; named = named } ∷ []

-- without a printed reply: an update of a value whose stamp is unknown failed, or it took effect
-- and the stamp was the wanted one
abbrev pub update_untold : List Version → List Version → Version → List ℕ → List ℕ → List Version → List Possible
update_untold known named wanted new bytes excluded =
    if may_be known named excluded wanted
    then record { held = Untold bytes (excluded ++ wanted ∷ []); named = named } ∷ record { held = Untold new []; named = named ++ wanted ∷ [] } ∷ []
    else record { held = Untold bytes excluded; named = named } ∷ []

-- without a printed reply: what the command leaves
abbrev pub silent : List Version → List Version → Guess → Command → List Possible
silent known named (Untold bytes excluded) (Update wanted new) = update_untold known named wanted new bytes excluded
silent known named (Untold bytes excluded) Get = record { held = Untold bytes excluded; named = named } ∷ []
silent known named held command = left_untold (verdict_on command held) held named

-- the printed reply shows the stamp of a write, which must be new
abbrev pub write_told : List Version → List Version → Option (List ℕ) → Reply → List Possible
write_told known named content (Reply.Ok stamp) = if is_new known named stamp then record { held = told_content stamp content; named = named } ∷ [] else []
write_told known named content reply = []

-- with a printed reply: what this verdict leaves
abbrev pub left_told : List Version → Verdict → Reply → Guess → List Version → List Possible
left_told known (Answer answer) reply held named = if same_reply answer reply then record { held = held; named = named } ∷ [] else []
left_told known (Write content) reply held named = write_told known named content reply

-- with a printed reply: a read shows the unknown stamp
abbrev pub get_told : List Version → List Version → Reply → List ℕ → List Version → List Possible
get_told known named (Reply.Value stamp shown) bytes excluded = if same_bytes shown bytes && may_be known named excluded stamp then record { held = Told stamp bytes; named = named } ∷ [] else []
get_told known named reply bytes excluded = []

-- with a printed reply: an update that took effect shows the unknown stamp, and one that failed
-- rules out the wanted one
abbrev pub update_told : List Version → List Version → Version → List ℕ → Reply → List ℕ → List Version → List Possible
update_told known named wanted new (Reply.Ok stamp) bytes excluded = if may_be known named excluded wanted && (is_new known named stamp && not (same_version stamp wanted)) then record { held = Told stamp new; named = named } ∷ [] else []
update_told known named wanted new Reply.Failed bytes excluded = record { held = Untold bytes (with_stamp excluded wanted); named = named } ∷ []
update_told known named wanted new reply bytes excluded = []

-- with a printed reply: what the command leaves
abbrev pub answered : List Version → List Version → Guess → Command → Reply → List Possible
answered known named (Untold bytes excluded) (Update wanted new) reply = update_told known named wanted new reply bytes excluded
answered known named (Untold bytes excluded) Get reply = get_told known named reply bytes excluded
answered known named held command reply = left_told known (verdict_on command held) reply held named

-- the stamps, with the one that an update found
abbrev pub with_wanted : List Version → Command → List Version
with_wanted known (Update wanted new) = with_stamp known wanted
with_wanted known command = known

-- the known stamps after a printed reply
abbrev pub learned : List Version → Command → Reply → List Version
learned known command (Reply.Ok stamp) = with_wanted (with_stamp known stamp) command
learned known command (Reply.Value stamp bytes) = with_stamp known stamp
learned known command reply = known

-- whatever may come after the second may come after the first, since it holds the same and fewer
-- stamps are taken
abbrev pub held_within : Guess → Guess → Bool
held_within Absent Absent = true
held_within (Told s b) (Told t c) = same_version s t && same_bytes b c
held_within (Untold b some) (Untold c all) = same_bytes b c && within some all
held_within a b = false

abbrev pub covers : Possible → Possible → Bool
covers p q = held_within p.held q.held && within p.named q.named

-- the list with one more register, unless one in it covers that
abbrev pub added : List Possible → Possible → List Possible
added done p = if list_any (λ q. covers q p) done then done else done ++ p ∷ []

-- what a call without a printed reply leaves of the possible registers
abbrev pub all_silent : List Version → Command → List Possible → List Possible
all_silent known command list = fold (λ done p. fold added done (silent known p.named p.held command)) [] list

-- what a call with this printed reply leaves of the possible registers
abbrev pub all_answered : List Version → Command → Reply → List Possible → List Possible
all_answered known command reply list = fold (λ done p. fold added done (answered known p.named p.held command reply)) [] list
