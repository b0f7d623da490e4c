use Rattle.http_calls.proofs.Tags.{tag_read, tag_written}
use Rattle.http_calls.proofs.laws.stamps_are_tags.Goals as goal

pub returns-clause-read : goal.returns-clause-read
returns-clause-read c = tag_read

pub returns-clause-written : goal.returns-clause-written
returns-clause-written c = tag_written
