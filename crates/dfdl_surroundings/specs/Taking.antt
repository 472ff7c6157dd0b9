-- Which value a type takes of what an expression gives, or the number of the fault: a number that passes the type, or has a fraction where
-- it has none, is E4, and a value that is none of its kind is E6. 'DFDL Expression Language'.
use Rattle.std.specs.Prelude.{ℕ, ℤ, pos, negsuc, List, Option, Some, None, Bool, true, false, Result, Ok, Err, if◌then◌else◌}
use Rattle.dfdl_forms.specs.Types.{form_of}
use Rattle.dfdl_forms.specs.declared.simple.Form.{Form}
use Rattle.dfdl_forms.specs.declared.simple.Form.TheVariants.{Signed, Unsigned, Fixed, Characters, Truths, Octets}
use Rattle.dfdl_forms.specs.declared.simple.Simple.{Simple}
use Rattle.dfdl_forms.specs.declared.simple.Simple.TheVariants.{Integer}
use Rattle.dfdl_value.specs.declared.value.Value.{Value}
use Rattle.dfdl_value.specs.declared.value.Value.TheVariants as value
use Rattle.dfdl_value.specs.Writing.{text_of}
use Rattle.dfdl_operators.specs.Constructors.{constructed}
use Rattle.dfdl_operators.specs.Faults.{fault_number}
use Rattle.dfdl_operators.specs.Numbers.{Answer}
use Rattle.dfdl_expression_eval.specs.declared.env.Evaluated.{Evaluated}
use Rattle.dfdl_expression_eval.specs.declared.env.Evaluated.TheVariants.{Known, Wait, Fault}

-- values of a form are numbers
abbrev pub is_number_form : Form → Bool
is_number_form (Signed bits) = true
is_number_form (Unsigned bits) = true
is_number_form Fixed = true
is_number_form Characters = false
is_number_form Truths = false
is_number_form Octets = false

-- they are texts
abbrev pub is_text_form : Form → Bool
is_text_form Characters = true
is_text_form _ = false

-- they are truth values
abbrev pub is_truth_form : Form → Bool
is_truth_form Truths = true
is_truth_form _ = false

-- they are bytes
abbrev pub is_bytes_form : Form → Bool
is_bytes_form Octets = true
is_bytes_form _ = false

-- what a constructor answers, with the number of its fault
abbrev pub answered : Answer → Result Value ℕ
answered (Ok v) = Ok v
answered (Err why) = Err (fault_number why)

-- a value of the kind, or another one
abbrev pub if_kind : Bool → Result Value ℕ → Result Value ℕ
if_kind is_kind answer = if is_kind then answer else Err 6

-- the value of a type that a value is
abbrev pub taken_value : Simple → Value → Result Value ℕ
taken_value kind (value.Int number) = if_kind (is_number_form (form_of kind)) (answered (constructed kind (value.Int number)))
taken_value kind (value.Uns number) = if_kind (is_number_form (form_of kind)) (answered (constructed kind (value.Uns number)))
taken_value kind (value.Dec number) = if_kind (is_number_form (form_of kind)) (answered (constructed kind (value.Dec number)))
taken_value kind (value.Text text) = if_kind (is_text_form (form_of kind)) (Ok (value.Text text))
taken_value kind (value.Truth truth) = if_kind (is_truth_form (form_of kind)) (Ok (value.Truth truth))
taken_value kind (value.Bytes bytes) = if_kind (is_bytes_form (form_of kind)) (Ok (value.Bytes bytes))

-- the value that a type takes; an expression over a document never waits
abbrev pub taken : Simple → Evaluated → Result Value ℕ
taken kind (Known v) = taken_value kind v
taken kind (Wait unknown) = Err 1
taken kind (Fault cause) = Err cause

-- the truth that a value is
abbrev pub truth_value : Value → Result Bool ℕ
truth_value (value.Truth truth) = Ok truth
truth_value _ = Err 6

-- the truth that a test takes
abbrev pub truth_taken : Evaluated → Result Bool ℕ
truth_taken (Known v) = truth_value v
truth_taken (Wait unknown) = Err 1
truth_taken (Fault cause) = Err cause

-- a whole number as how many there are; none where it is less than 0
abbrev pub count_of : ℤ → Option ℕ
count_of (pos n) = Some n
count_of (negsuc n) = None

-- how many a value of an integer type is
abbrev pub whole_of : Result Value ℕ → Result (Option ℕ) ℕ
whole_of (Ok (value.Int number)) = Ok (count_of number)
whole_of (Ok (value.Uns number)) = Ok (Some number)
whole_of (Ok _) = Err 6
whole_of (Err cause) = Err cause

-- how many a value is: a number that is whole
abbrev pub count_value : Value → Result (Option ℕ) ℕ
count_value (value.Int number) = Ok (count_of number)
count_value (value.Uns number) = Ok (Some number)
count_value (value.Dec number) = whole_of (taken_value Integer (value.Dec number))
count_value (value.Text text) = Err 6
count_value (value.Truth truth) = Err 6
count_value (value.Bytes bytes) = Err 6

-- how many there are by what an expression gives, none where that is less than 0, or the number of the fault
abbrev pub count_taken : Evaluated → Result (Option ℕ) ℕ
count_taken (Known v) = count_value v
count_taken (Wait unknown) = Err 1
count_taken (Fault cause) = Err cause

-- the text of what an expression gives, of whatever type that is, or the number of the fault
abbrev pub text_taken : Evaluated → Result (List ℕ) ℕ
text_taken (Known v) = Ok (text_of v)
text_taken (Wait unknown) = Err 1
text_taken (Fault cause) = Err cause
