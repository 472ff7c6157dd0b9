-- What the constructors of the simple types answer, from a text, a number or a truth.
use Rattle.std.specs.Prelude.{◌≡◌, ◌==◌, Bool, not, if◌then◌else◌, Result, Ok, Err, pos, unsigned_abs}
use Rattle.dfdl_decimal.specs.Decimal.{DecimalNumber}
use Rattle.dfdl_forms.specs.Types.{form_of}
use Rattle.dfdl_forms.specs.declared.simple.Form.{Form}
use Rattle.dfdl_forms.specs.declared.simple.Form.TheVariants.{Characters, Truths, Octets}
use Rattle.dfdl_forms.specs.declared.simple.Simple.{Simple}
use Rattle.dfdl_value.specs.Numbers.{number_reading}
use Rattle.dfdl_value.specs.ReadValues.{Reading, reading_of}
use Rattle.dfdl_value.specs.Writing.{text_of}
use Rattle.dfdl_value.specs.declared.read.NoValue.TheVariants.{NotAValue, PastType}
use Rattle.dfdl_value.specs.declared.value.Value.{Value}
use Rattle.dfdl_value.specs.declared.value.Value.TheVariants.{Int, Uns, Dec, Text, Truth, Bytes}
use Rattle.dfdl_operators.specs.declared.fault.FunctionFault.{FunctionFault}
use Rattle.dfdl_operators.specs.declared.fault.FunctionFault.TheVariants.{Fault, OutOfMemory}
use Rattle.dfdl_operators.specs.declared.fault.OperatorFault.TheVariants.{PastRange, WrongType}
use Rattle.dfdl_operators.specs.Numbers.{Answer}

-- a number that is no value of a type of numbers passes it: it is too large, or has a fraction where
-- a whole number is wanted
abbrev pub within_type : Reading → Answer
within_type (Ok v) = Ok v
within_type (Err why) = Err PastRange

-- a text is no value of the type, or writes a number that passes it
abbrev pub as_read : Reading → Answer
as_read (Ok v) = Ok v
as_read (Err NotAValue) = Err WrongType
as_read (Err PastType) = Err PastRange

-- from a number: a string is its text, a boolean whether it isn't 0
abbrev pub from_number : Form → Value → DecimalNumber → Answer
from_number Characters v d = Ok (Text (text_of v))
from_number Octets v d = Err WrongType
from_number Truths v d = Ok (Truth (not (unsigned_abs d.mantissa == 0)))
from_number form v d = within_type (number_reading form d)

-- from a truth: a number is 1 or 0
abbrev pub from_truth : Form → Bool → Answer
from_truth Characters b = Ok (Text (text_of (Truth b)))
from_truth Octets b = Err WrongType
from_truth Truths b = Ok (Truth b)
from_truth form b = within_type
    (number_reading form (record { mantissa = pos (if b then 1 else 0); scale = 0 }))

-- the value of a type that is made from a value
abbrev pub constructed : Simple → Value → Answer
constructed kind (Int z) = from_number (form_of kind) (Int z) (record { mantissa = z; scale = 0 })
constructed kind (Uns n) = from_number (form_of kind) (Uns n) (record { mantissa = pos n; scale = 0 })
constructed kind (Dec d) = from_number (form_of kind) (Dec d) d
constructed kind (Truth b) = from_truth (form_of kind) b
constructed kind (Text t) = as_read (reading_of kind t)
constructed kind (Bytes b) = Err WrongType

-- what is answered is this, unless memory is wanting
abbrev pub IsAnswer : Answer → Result Value FunctionFault → Type 0
IsAnswer answer (Ok v) = answer ≡ Ok v
IsAnswer answer (Err (Fault why)) = answer ≡ Err why
IsAnswer answer (Err OutOfMemory) = Unit {0}
