use Rattle.dfdl_number_laws.proofs.BackLaws.{exact_law, rounded_law, value_law}
use Rattle.dfdl_number_laws.proofs.BackBase.{base_law}
use Rattle.dfdl_number_laws.proofs.BackSigns.{minus_law}
use Rattle.dfdl_number_laws.proofs.read_back.Goals as goal

pub returns-clause-pattern : goal.returns-clause-pattern
returns-clause-pattern c = λ form pattern kind value number text sound has of is few one written.
    exact_law form pattern kind value number text sound has of is few one written

pub returns-clause-rounded : goal.returns-clause-rounded
returns-clause-rounded c = λ form pattern kind value number size text sound has of is told one written.
    (rounded_law form pattern kind value number text sound has of is size told one written, value_law form pattern kind value number text sound has of is size told one written)

pub returns-clause-minus : goal.returns-clause-minus
returns-clause-minus c = λ form pattern front other. minus_law form pattern front other

pub returns-clause-base : goal.returns-clause-base
returns-clause-base c = λ form kind value text sound none of written. base_law form kind value text sound none of written
