-- What the crates above name of leader_output, passed on.
pub use Rattle.leader_output.specs.declared.out.AnswerOut.{AnswerOut}
pub use Rattle.leader_output.specs.declared.out.Outgoing.{Outgoing}
