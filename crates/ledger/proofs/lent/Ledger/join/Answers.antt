use Rattle.std.proofs.lemmas.List.{take-append-drop}
use Rattle.ledger.proofs.Answering.{some_tied}
use Rattle.ledger.proofs.Verdicts.{tie_known, tie_clashes, tie_bridge, tie_joins}
use Rattle.ledger.proofs.lent.Ledger.join.Goals as goal

pub returns-then-is_by : goal.returns-then-is_by
returns-then-is_by g c =
    tie_known g.S.Step.kind g.met.S.Step.lawful g.S.Step.meaning c.args.self.now.cells.now c.args.self.now.len c.args.a c.args.b c.args.self.now.tells c.args.self.now.room c.requires.left c.requires.right
    c.index-points-a.result c.index-points-b.result c.index-points-a.is c.index-points-b.is (g.S.Step.meaning c.args.g.now) c.requires.small c.if-from-to.true c.if-is_by.ensures

pub returns-then-from-to : goal.returns-then-from-to
returns-then-from-to g c =
    tie_clashes g.S.Step.kind g.met.S.Step.lawful g.S.Step.meaning c.args.self.now.cells.now c.args.self.now.len c.args.a c.args.b c.args.self.now.tells c.args.self.now.room c.requires.left c.requires.right
    c.index-points-a.result c.index-points-b.result c.index-points-a.is c.index-points-b.is (g.S.Step.meaning c.args.g.now) c.requires.small c.if-from-to.true c.if-is_by.ensures

-- in one tree nothing is written
pub invariant_of-self-clause-tells : goal.invariant_of-self-clause-tells
invariant_of-self-clause-tells g c =
    rw (← take-append-drop c.args.self.now.len c.args.self.now.cells.now) at c.args.self.now.tells

pub unwrap-by-requires : goal.unwrap-by-requires
unwrap-by-requires g c =
    tie_bridge g.S.Step.kind g.met.S.Step.lawful g.S.Step.meaning c.args.self.now.cells.now c.args.self.now.len c.args.a c.args.b c.args.self.now.tells c.args.self.now.room c.requires.left c.requires.right
    c.index-points-a.result c.index-points-b.result c.index-points-a.is c.index-points-b.is (g.S.Step.meaning c.args.g.now) c.requires.small c.if-from-to.false c.bridge.result c.bridge.ensures

pub invariant_of-self-2-clause-tells : goal.invariant_of-self-2-clause-tells
invariant_of-self-2-clause-tells g c =
    some_tied g.S.Step.kind g.S.Step.meaning _ _ _ _
    (tie_joins g.S.Step.kind g.met.S.Step.lawful g.S.Step.meaning c.args.self.now.cells.now c.args.self.now.len c.args.a c.args.b c.args.self.now.tells c.args.self.now.room c.requires.left c.requires.right
    c.index-points-a.result c.index-points-b.result c.index-points-a.is c.index-points-b.is (g.S.Step.meaning c.args.g.now) c.requires.small c.if-from-to.false c.bridge.result c.bridge.ensures c.unwrap-by.result c.unwrap-by.ensures c.relabel.new.points c.relabel.auto.points c.relabel.ensures)
    c.args.self.now.tells

pub returns : goal.returns
returns g c =
    tie_joins g.S.Step.kind g.met.S.Step.lawful g.S.Step.meaning c.args.self.now.cells.now c.args.self.now.len c.args.a c.args.b c.args.self.now.tells c.args.self.now.room c.requires.left c.requires.right
    c.index-points-a.result c.index-points-b.result c.index-points-a.is c.index-points-b.is (g.S.Step.meaning c.args.g.now) c.requires.small c.if-from-to.false c.bridge.result c.bridge.ensures c.unwrap-by.result c.unwrap-by.ensures c.relabel.new.points c.relabel.auto.points c.relabel.ensures
