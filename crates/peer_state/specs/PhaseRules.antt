-- What the crates above name of phase_rules, passed on.
pub use Rattle.phase_rules.specs.Ballots.{promises_to, row_11, row_15}
pub use Rattle.phase_rules.specs.Preparing.{elected, first_fact, next_ballot, prepares, promised_by, row_10, row_12, row_13, row_3}
unfoldable pub use Rattle.phase_rules.specs.Preparing.{starts}
pub use Rattle.phase_rules.specs.Starting.{row_14, row_17, row_4}
pub use Rattle.phase_rules.specs.declared.election.Election.{Election}
pub use Rattle.phase_rules.specs.declared.election.Election.TheVariants.{Preparing, Starting}
pub use Rattle.phase_rules.specs.Announcements.{commits, row_16, row_18, row_19, takes}
pub use Rattle.phase_rules.specs.Follower.{row_2}
pub use Rattle.phase_rules.specs.Refusals.{is_served, refusal, tells_damage, unless_refused}
pub use Rattle.phase_rules.specs.Requests.{gets, gives, gives_read, is_version_below, puts, puts_at, row_20, row_21, row_22, row_23}
pub use Rattle.phase_rules.specs.declared.follower.Follower.{Follower}
pub use Rattle.phase_rules.specs.Probing.{row_8, row_9}
pub use Rattle.phase_rules.specs.declared.probing.Probing.{Probing}
pub use Rattle.phase_rules.specs.Changes.{may_change, row_24, row_25}
pub use Rattle.phase_rules.specs.Finishing.{may_end}
pub use Rattle.phase_rules.specs.declared.finishing.Finishing.{Finishing}
