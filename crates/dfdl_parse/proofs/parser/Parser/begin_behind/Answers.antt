use Rattle.dfdl_parse.proofs.Landings.{box-becomes, leaf-becomes}
use Rattle.dfdl_parse.proofs.parser.Parser.begin_behind.Goals as goal

pub returns-in-Leaf-clause-becomes : goal.returns-in-Leaf-clause-becomes
returns-in-Leaf-clause-becomes c =
    leaf-becomes c.args.self.now c.begin_leaf.new.self c.args.terms.now.primitives c.args.unit c.args.behind c.in-Leaf.prim c.args.units
    c.in-Leaf.is c.begin_leaf.ensures.becomes

pub returns-in_ok-begin_box-in-Some-clause-becomes : goal.returns-in_ok-begin_box-in-Some-clause-becomes
returns-in_ok-begin_box-in-Some-clause-becomes c =
    box-becomes c.args.self.now c.begin_box.new.self c.args.terms.now.primitives c.args.unit c.args.behind c.in-Box.body c.args.units c.in-Some.bits
    c.in-Box.is c.in-Some.ensures.some.0 c.in_ok-begin_box-in-Some.ensures.most c.in_ok-begin_box-in-Some.ensures.moved
