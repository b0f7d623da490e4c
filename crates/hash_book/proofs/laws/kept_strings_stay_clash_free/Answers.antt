use Rattle.hash_book.proofs.ClashFree.{free_empty, free_after, free_admitted}
use Rattle.hash_book.proofs.laws.kept_strings_stay_clash_free.Goals as goal

pub returns-clause-start : goal.returns-clause-start
returns-clause-start c = free_empty

pub returns-clause-takes : goal.returns-clause-takes
returns-clause-takes c = free_after

pub returns-clause-admits : goal.returns-clause-admits
returns-clause-admits c = free_admitted
