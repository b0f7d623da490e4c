use Rattle.register_model.proofs.ReplyTests.{done_is, refused_is}
use Rattle.register_model.proofs.replies.the_tests_are_those_of_a_history.Goals as goal

pub returns-clause-done : goal.returns-clause-done
returns-clause-done c = done_is

pub returns-clause-refused : goal.returns-clause-refused
returns-clause-refused c = refused_is
