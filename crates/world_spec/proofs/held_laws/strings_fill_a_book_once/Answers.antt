use Rattle.world_spec.proofs.Books.{filled_beyond, kept_once}
use Rattle.world_spec.proofs.held_laws.strings_fill_a_book_once.Goals as goal

pub returns-clause-taken : goal.returns-clause-taken
returns-clause-taken c = kept_once

pub returns-clause-filled : goal.returns-clause-filled
returns-clause-filled c = filled_beyond
