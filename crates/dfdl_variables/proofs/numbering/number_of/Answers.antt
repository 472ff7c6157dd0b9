use Rattle.std.proofs.Common.{◌<◌, ◌^◌, length, arith}
use Rattle.dfdl_variables.proofs.Few.{few_variables}
use Rattle.dfdl_variables.proofs.numbering.number_of.Goals as goal

pub overflow_cast-result : goal.overflow_cast-result
overflow_cast-result c =
    let few : length c.args.variables.now < 2 ^ 32 =
    few_variables c.args.schema.now c.args.numbers.now c.args.variables.now c.requires.numbers c.requires.variables in
    omega (arith, few, c.in-Some.ensures.within)
