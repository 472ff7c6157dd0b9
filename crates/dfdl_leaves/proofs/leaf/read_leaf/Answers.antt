use Rattle.dfdl_leaves.proofs.leaf.read_leaf.Goals as goal

pub returns-in-Integer-clause-answers : goal.returns-in-Integer-clause-answers
returns-in-Integer-clause-answers g c opened opens = c.read_number.ensures.answers opened c.args.stop c.args.scratch.now

pub returns-in-Packed-clause-answers : goal.returns-in-Packed-clause-answers
returns-in-Packed-clause-answers g c opened opens = c.read_number-in-Packed.ensures.answers opened c.args.stop c.args.scratch.now

pub returns-in-Truth-clause-answers : goal.returns-in-Truth-clause-answers
returns-in-Truth-clause-answers g c opened opens = c.read_number-in-Truth.ensures.answers opened c.args.stop c.args.scratch.now
