-- Which forms of binary numbers, packed numbers and binary booleans there are. 'Simple Types' (binaryNumberRep,
-- binaryDecimalVirtualPoint, binaryBooleanTrueRep, binaryBooleanFalseRep).
use Rattle.std.specs.Prelude.{◌≤◌, IsTrue}
use Rattle.dfdl_forms.specs.Binary.{most_bits, most_places, IsTruthSize}
use Rattle.dfdl_forms.specs.Packed.{are_allowed, most_nibbles}
use Rattle.dfdl_forms.specs.Types.{form_of}
use Rattle.dfdl_forms.specs.declared.binary.BitTruthForm.{BitTruthForm}
use Rattle.dfdl_forms.specs.declared.binary.IntForm.{IntForm}
use Rattle.dfdl_forms.specs.declared.packed.PackedForm.{PackedForm}

-- a number's field has a size of its type, and an integer has no virtual point
pub record IsIntForm (form : IntForm) : Type 0 where
  pub some : 1 ≤ form.bits
  pub few : form.bits ≤ most_bits (form_of form.kind)
  pub short : form.bits ≤ 128
  pub places : form.point ≤ most_places (form_of form.kind)

-- a boolean's field has a size of its own
abbrev pub IsTruthForm : BitTruthForm → Type 0
IsTruthForm form = IsTruthSize form.bits

-- a packed number's field has a number of nibbles of its kind, its sign codes are four that may stand there, and an integer
-- has no virtual point
pub record IsPackedForm (form : PackedForm) : Type 0 where
  pub some : 1 ≤ form.nibbles
  pub few : form.nibbles ≤ most_nibbles form.rep
  pub short : form.nibbles ≤ 39
  pub allowed : IsTrue (are_allowed form.codes)
  pub places : form.point ≤ most_places (form_of form.kind)
