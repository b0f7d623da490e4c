use Rattle.hash_book.proofs.ClashFree.{same_string}
use Rattle.hash_book.proofs.laws.a_digest_names_its_string.Goals as goal

pub returns : goal.returns
returns c = same_string
