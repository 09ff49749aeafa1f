use Rattle.rate_rings.proofs.Converting.{converted}
use Rattle.rate_rings.proofs.Conversion.step.Goals as goal

pub returns : goal.returns
returns c = converted c.args.self.now c.in_ok-up.up c.in_ok-down.down c.inverse.result c.unwrap.result c.compose.result c.in_ok-up.ensures c.in_ok-down.ensures c.inverse.ensures c.compose.ensures c.unwrap.ensures
