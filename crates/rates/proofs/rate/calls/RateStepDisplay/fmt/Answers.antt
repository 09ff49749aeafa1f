use Rattle.std.proofs.Common.{subst}
use Rattle.std.specs.Fmt.{HasWritten}
use Rattle.rates.specs.Rates.{worth}
use Rattle.rates.proofs.Words.{words_fitting, words_exceeding}
use Rattle.rates.proofs.rate.calls.RateStepDisplay.fmt.Goals as goal

pub returns-in-Ok-clause-writes : goal.returns-in-Ok-clause-writes
returns-in-Ok-clause-writes g c p o =
    subst (λ bs. HasWritten g.W.Write.write_str_gives c.args.f.now bs c.write.new.self) (words_fitting c.args.self.now.exponents c.in-Ok.top c.in-Ok.bottom c.in-Ok.ensures) (c.write.ensures.writes p o)

pub returns-in-Err-clause-writes : goal.returns-in-Err-clause-writes
returns-in-Err-clause-writes g c p o =
    subst (λ bs. HasWritten g.W.Write.write_str_gives c.args.f.now bs c.fmt.new.f) (words_exceeding (worth c.args.self.now) c.in-Err.ensures) (c.fmt.ensures.writes p o)
