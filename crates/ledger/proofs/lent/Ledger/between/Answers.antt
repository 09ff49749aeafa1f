use Rattle.std.proofs.Common.{arith}
use Rattle.ledger.proofs.Verdicts.{ask_apart, ask_way, ask_joined}
use Rattle.ledger.proofs.lent.Ledger.between.Goals as goal

pub returns-then-left-right : goal.returns-then-left-right
returns-then-left-right g c =
    ask_apart g.S.Step.kind g.met.S.Step.lawful g.S.Step.meaning c.args.self.now.cells.now c.args.self.now.len c.args.a c.args.b c.args.self.now.tells c.args.self.now.room (omega arith) (omega arith)
    c.index-points-a.result c.index-points-b.result c.index-points-a.is c.index-points-b.is c.if-left-right.true

pub unwrap-requires : goal.unwrap-requires
unwrap-requires g c =
    ask_way g.S.Step.kind g.met.S.Step.lawful g.S.Step.meaning c.args.self.now.cells.now c.args.self.now.len c.args.a c.args.b c.args.self.now.tells c.args.self.now.room (omega arith) (omega arith)
    c.index-points-a.result c.index-points-b.result c.index-points-a.is c.index-points-b.is c.way_from.result c.way_from.ensures

pub returns : goal.returns
returns g c =
    ask_joined g.S.Step.kind g.met.S.Step.lawful g.S.Step.meaning c.args.self.now.cells.now c.args.self.now.len c.args.a c.args.b c.args.self.now.tells c.args.self.now.room (omega arith) (omega arith)
    c.index-points-a.result c.index-points-b.result c.index-points-a.is c.index-points-b.is c.way_from.result c.way_from.ensures c.if-left-right.false c.unwrap.result c.unwrap.ensures
