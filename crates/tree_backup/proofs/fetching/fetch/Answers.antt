use Rattle.std.proofs.Common.{inl, Option, Vec, ℕ, Global}
use Rattle.stored_formats.specs.declared.object.Object.{Object}
use Rattle.environment.specs.Told.{bytes_of}
use Rattle.tree_backup.proofs.Calls.{fetch_one, counts_later, error_rose, not_failed}
use Rattle.tree_backup.proofs.fetching.fetch.Goals as goal

pub returns-in-Ok-clause-did : goal.returns-in-Ok-clause-did
returns-in-Ok-clause-did g c = fetch_one g.B.Backend.may_answer g.B.Backend.may_refuse c.args.key.now c.args.backend.now c.get.new.self (bytes_of c.in-Ok.bytes) c.decode.result c.in-Ok.ensures.answer c.decode.ensures.ok c.decode.ensures.memory

pub returns-in-Ok-clause-failed : goal.returns-in-Ok-clause-failed
returns-in-Ok-clause-failed g c = λ is. absurd (not_failed c.decode.result c.decode.ensures.memory is)

pub returns-in-Err-clause-did : goal.returns-in-Err-clause-did
returns-in-Err-clause-did g c = inl c.in-Err.ensures.refusal

pub returns-in-Err-clause-later : goal.returns-in-Err-clause-later
returns-in-Err-clause-later g c = counts_later _ _ c.get.result c.get.ensures.counts

pub returns-in-Err-clause-failed : goal.returns-in-Err-clause-failed
returns-in-Err-clause-failed g c = error_rose (Option Object) (Option (Vec ℕ Global)) _ _ c.in-Err.error c.in-Err.ensures.counts
