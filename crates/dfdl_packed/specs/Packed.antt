-- Packed decimal, BCD and IBM 4690 packed numbers. 'Simple Types' (binaryNumberRep, binaryPackedSignCodes,
-- binaryNumberCheckPolicy).
use Rattle.std.specs.Prelude.{ℕ, zero, suc, ◌+◌, ◌-◌, ◌*◌, ◌^◌, ◌==◌, ◌||◌, ◌&&◌, ℤ, pos, negsuc, unsigned_abs, Bool, true, false, nat_lt, nat_le, List, [], ◌∷◌, ◌++◌, length, take, slice_index, replicate, map, Option, Some, None, Result, Err, if◌then◌else◌}
use Rattle.std.specs.List.{range_with_len}
use Rattle.dfdl_bits.specs.Bits.{number_of}
use Rattle.dfdl_forms.specs.declared.order.BitOrder.{BitOrder}
use Rattle.dfdl_forms.specs.declared.order.ByteOrder.TheVariants.{Big}
use Rattle.dfdl_forms.specs.Types.{form_of}
use Rattle.dfdl_forms.specs.declared.simple.Form.{Form}
use Rattle.dfdl_forms.specs.declared.simple.Form.TheVariants.{Unsigned}
use Rattle.dfdl_value.specs.declared.value.Value.{Value}
use Rattle.dfdl_packed.specs.declared.fault.PackedFault.{PackedFault}
use Rattle.dfdl_packed.specs.declared.fault.PackedFault.TheVariants.{BadNibble}
use Rattle.dfdl_forms.specs.declared.packed.PackedForm.{PackedForm}
use Rattle.dfdl_forms.specs.declared.packed.PackedRep.{PackedRep}
use Rattle.dfdl_forms.specs.declared.packed.PackedRep.TheVariants.{Packed, Bcd, Ibm4690}
use Rattle.dfdl_packed.specs.Digits.{digits_number, are_digits, padded_digits, digit_count}
use Rattle.dfdl_packed.specs.Typed.{value_in, integer_in}

-- nibble i of a field is the number of the four bits that begin 4 * i bits behind its begin
unfoldable pub nibbles_of : BitOrder → List ℕ → ℕ → ℕ → List ℕ
nibbles_of bits_by bytes bit count = map (λ i. number_of bytes (bit + 4 * i) 4 Big bits_by) (range_with_len 0 count)

-- the nibbles of the field that begins at a bit
abbrev pub nibbles_in : PackedForm → List ℕ → ℕ → List ℕ
nibbles_in form bytes bit = nibbles_of form.bits_by bytes bit form.nibbles

-- ---- reading: a sign, true for negative, and a size

-- the sign of a sign nibble: one of the four codes, that of zero only behind the digits of zero
abbrev pub strict_sign : List ℕ → Bool → ℕ → Option Bool
strict_sign codes is_zero nibble =
    if nibble == slice_index codes 0 || nibble == slice_index codes 2 then Some false
    else (if nibble == slice_index codes 1 then Some true
    else (if nibble == slice_index codes 3 && is_zero then Some false else None))

-- A, C, E and F are positive, B and D negative, and 0 is taken behind the digits of zero
abbrev pub lax_sign : Bool → ℕ → Option Bool
lax_sign is_zero nibble =
    if nibble == 10 || nibble == 12 || nibble == 14 || nibble == 15 then Some false
    else (if nibble == 11 || nibble == 13 then Some true
    else (if nibble == 0 && is_zero then Some false else None))

-- the sign of a sign nibble, by the form
abbrev pub sign_of : PackedForm → Bool → ℕ → Option Bool
sign_of form is_zero nibble = if form.strict then strict_sign form.codes is_zero nibble else lax_sign is_zero nibble

-- a sign, and digits if they are digits
abbrev pub signed_digits : Option Bool → List ℕ → Option (Bool × ℕ)
signed_digits None digits = None
signed_digits (Some negative) digits = if are_digits digits then Some (negative, digits_number digits) else None

-- digits that are at least one
abbrev pub some_digits : Bool → List ℕ → Option (Bool × ℕ)
some_digits negative [] = None
some_digits negative (digit ∷ digits) = signed_digits (Some negative) (digit ∷ digits)

-- a packed number: digits, and a sign nibble behind them
abbrev pub packed_number : PackedForm → List ℕ → Option (Bool × ℕ)
packed_number form nibbles =
    let digits = take (length nibbles - 1) nibbles in
    signed_digits (sign_of form (digits_number digits == 0) (slice_index nibbles (length nibbles - 1))) digits

-- nibbles F, then a nibble D for a negative number, then digits
abbrev pub ibm_number : List ℕ → Option (Bool × ℕ)
ibm_number [] = None
ibm_number (nibble ∷ nibbles) =
    if nibble == 15 then ibm_number nibbles
    else (if nibble == 13 then some_digits true nibbles else some_digits false (nibble ∷ nibbles))

-- the sign and the size, by the representation
abbrev pub number_by : PackedRep → PackedForm → List ℕ → Option (Bool × ℕ)
number_by Packed form nibbles = packed_number form nibbles
number_by Bcd form nibbles = some_digits false nibbles
number_by Ibm4690 form nibbles = ibm_number nibbles

-- the value of a sign and a size, if they are there
abbrev pub value_if : PackedForm → Option (Bool × ℕ) → Result Value PackedFault
value_if form None = Err BadNibble
value_if form (Some number) = value_in (form_of form.kind) form.point number.0 number.1

-- what the nibbles of a field are read as
abbrev pub packed_reading : PackedForm → List ℕ → Result Value PackedFault
packed_reading form nibbles = value_if form (number_by form.rep form nibbles)

-- ---- writing

-- the number is below zero
abbrev pub is_negative : ℤ → Bool
is_negative (pos n) = false
is_negative (negsuc n) = true

-- the sign nibble of an integer: unsigned types have a code of their own
abbrev pub code_in : Form → List ℕ → ℤ → ℕ
code_in (Unsigned bits) codes z = slice_index codes 2
code_in _ codes (pos zero) = slice_index codes 3
code_in _ codes (pos (suc n)) = slice_index codes 0
code_in _ codes (negsuc n) = slice_index codes 1

-- a number in len digits, if it has no more
abbrev pub digits_in : ℕ → ℕ → Option (List ℕ)
digits_in len n = if nat_lt n (10 ^ len) then Some (padded_digits len n) else None

-- the digits, if they are there, and a sign nibble behind them
abbrev pub with_code : Option (List ℕ) → ℕ → Option (List ℕ)
with_code None code = None
with_code (Some digits) code = Some (digits ++ code ∷ [])

-- the nibbles of a BCD number, which has no sign
abbrev pub bcd_nibbles : ℕ → ℤ → Option (List ℕ)
bcd_nibbles count (pos n) = digits_in count n
bcd_nibbles count (negsuc n) = None

-- a number without leading zeros behind a mark, filled with F from the left
abbrev pub ibm_filled : ℕ → List ℕ → ℕ → Option (List ℕ)
ibm_filled count mark n =
    let len = digit_count 38 n in
    if nat_lt n (10 ^ 39) && nat_le (length mark + len) count
    then Some (replicate (count - (length mark + len)) 15 ++ mark ++ padded_digits len n)
    else None

-- the nibbles of an IBM 4690 number: filled, then its mark if it is negative, then digits
abbrev pub ibm_nibbles : ℕ → ℤ → Option (List ℕ)
ibm_nibbles count (pos n) = ibm_filled count [] n
ibm_nibbles count (negsuc n) = ibm_filled count (13 ∷ []) (suc n)

-- the nibbles, by the representation
abbrev pub nibbles_by : PackedRep → PackedForm → ℤ → Option (List ℕ)
nibbles_by Packed form z = with_code (digits_in (form.nibbles - 1) (unsigned_abs z)) (code_in (form_of form.kind) form.codes z)
nibbles_by Bcd form z = bcd_nibbles form.nibbles z
nibbles_by Ibm4690 form z = ibm_nibbles form.nibbles z

-- the nibbles of a number, if it is there
abbrev pub nibbles_if : PackedForm → Option ℤ → Option (List ℕ)
nibbles_if form None = None
nibbles_if form (Some z) = nibbles_by form.rep form z

-- what nibbles a value is written as, if the field can hold it
abbrev pub packed_writing : PackedForm → Value → Option (List ℕ)
packed_writing form value = nibbles_if form (integer_in (form_of form.kind) form.point value)
