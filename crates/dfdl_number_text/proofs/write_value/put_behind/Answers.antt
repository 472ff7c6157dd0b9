use Rattle.std.proofs.Common.{arith}
use Rattle.dfdl_number_text.proofs.DigitLemmas.{length-characters}
use Rattle.dfdl_number_text.proofs.WriteLists.{put_none}
use Rattle.dfdl_number_text.proofs.write_value.put_behind.Goals as goal

pub returns-in-Absent-clause-put : goal.returns-in-Absent-clause-put
returns-in-Absent-clause-put c = rw c.in-Absent.is (put_none c.args.into.now c.args.at)

pub returns-in-Implied-clause-place : goal.returns-in-Implied-clause-place
returns-in-Implied-clause-place c =
    rw c.in-Implied.is (omega (arith, c.put_plain.ensures.place, length-characters 10 c.args.fraction.count c.args.fraction.number))

pub returns-in-Implied-clause-put : goal.returns-in-Implied-clause-put
returns-in-Implied-clause-put c = rw c.in-Implied.is (rw c.requires.base at c.put_plain.ensures.put)
