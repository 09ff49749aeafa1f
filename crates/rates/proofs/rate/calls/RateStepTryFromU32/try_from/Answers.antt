use Rattle.std.proofs.Common.{refl, rules}
use Rattle.rates.proofs.Rows.{row_within, row_factor}
use Rattle.rates.proofs.rate.calls.RateStepTryFromU32.try_from.Goals as goal

pub invariant_of-result : goal.invariant_of-result
invariant_of-result c = record { within = row_within c.table.result.now c.table.ensures.rule c.table.ensures.rows c.args.factor (search rules) }

pub returns : goal.returns
returns c = row_factor c.table.result.now c.table.ensures.rule c.table.ensures.rows c.args.factor (search rules) _ refl
