use Rattle.std.proofs.Common.{rules, ap, ◌∙◌}
use Rattle.register_model.specs.Orders.{rank_or_none}
use Rattle.history_scribe.proofs.Ranks.{rank-max, fits_if}
use Rattle.history_scribe.proofs.told.greater.Goals as goal

pub returns : goal.returns
returns c = ap rank_or_none c.max.ensures ∙ rank-max c.args.a c.args.b (fits_if c.args.a (λ v e. (search rules, search rules))) (fits_if c.args.b (λ v e. (search rules, search rules)))
