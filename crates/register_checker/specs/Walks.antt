-- A walk along an order, call by call.
use Rattle.std.specs.Prelude.{◌≡◌}
use Rattle.ens_base.specs.declared.command.Command.{Command}
use Rattle.ens_base.specs.declared.reply.Reply.{Reply}
use Rattle.register_checker.specs.Guesses.{all_silent, all_answered, learned}
use Rattle.register_checker.specs.declared.walk.Walk.{Walk}

-- the walk passed a call without a printed reply
abbrev pub PassesSilent : Walk → Command → Walk → Type 0
PassesSilent old command new = (new.known ≡ old.known) × (new.possible.items ≡ all_silent old.known command old.possible.items)

-- the walk passed a call with this printed reply
abbrev pub PassesAnswered : Walk → Command → Reply → Walk → Type 0
PassesAnswered old command reply new = (new.known ≡ learned old.known command reply) × (new.possible.items ≡ all_answered old.known command reply old.possible.items)
