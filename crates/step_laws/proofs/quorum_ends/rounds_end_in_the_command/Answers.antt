use Rattle.step_laws.proofs.Completing.{command_answered, command_written}
use Rattle.step_laws.proofs.quorum_ends.rounds_end_in_the_command.Goals as goal

pub returns-clause-answers : goal.returns-clause-answers
returns-clause-answers c = command_answered

pub returns-clause-writes : goal.returns-clause-writes
returns-clause-writes c = command_written
