-- Which sizes and codes packed fields can have. 'Simple Types' (binaryNumberRep, binaryPackedSignCodes).
use Rattle.std.specs.Prelude.{◌≡◌, ℕ, ◌/◌, ◌%◌, ◌≤◌, ◌==◌, ◌||◌, ◌&&◌, Bool, List, slice_index}
use Rattle.dfdl_forms.specs.declared.packed.PackedRep.{PackedRep}
use Rattle.dfdl_forms.specs.declared.packed.ZonedForm.{ZonedForm}
use Rattle.dfdl_forms.specs.declared.packed.PackedRep.TheVariants.{Bcd}

-- how many nibbles a field can have (profile)
abbrev pub most_nibbles : PackedRep → ℕ
most_nibbles Bcd = 38
most_nibbles _ = 39

-- the sizes in bits of a field: whole nibbles, at least one
abbrev pub IsPackedSize : PackedRep → ℕ → Type 0
IsPackedSize rep bits = (bits % 4 ≡ 0) × (1 ≤ bits / 4) × (bits / 4 ≤ most_nibbles rep)

-- A, C, E and F are codes of a positive number
abbrev pub is_positive_code : ℕ → Bool
is_positive_code code = code == 10 || code == 12 || code == 14 || code == 15

-- four codes that are allowed: positive of A, C, E, F; negative of B, D; unsigned F; zero of A, C, E, F, 0
abbrev pub are_allowed : List ℕ → Bool
are_allowed codes =
    is_positive_code (slice_index codes 0)
    && (slice_index codes 1 == 11 || slice_index codes 1 == 13)
    && slice_index codes 2 == 15
    && (is_positive_code (slice_index codes 3) || slice_index codes 3 == 0)

-- a zoned number has no more digits behind its virtual point than a pattern has signs
abbrev pub IsZonedForm : ZonedForm → Type 0
IsZonedForm form = form.point ≤ 38
