-- Boxes of bits that are written whole.
use Rattle.std.proofs.Common.{◌≡◌, ℕ, zero, suc, ◌+◌, ◌-◌, ◌*◌, ◌/◌, ◌≤◌, Bool, true, false, nat_le, nat_lt, List, [], ◌∷◌, ◌++◌, length, Option, Some, None, refl, ap, ◌∙◌, subst, arith}
use Rattle.std.specs.Prelude.{Result, Ok, Err, if◌then◌else◌}
use Rattle.std.proofs.lemmas.Bool.{leb-true, leb-false, ltb-false}
use Rattle.std.proofs.lemmas.List.{length-append}
use Rattle.std.proofs.Math.Nat.{div-mul-le_self}
use Rattle.dfdl_chars.specs.Encodings.{encoded_of, encoded_text}
use Rattle.dfdl_delims.specs.Lists.{Opened}
use Rattle.dfdl_forms.specs.declared.encoding.Encoding.{Encoding}
use Rattle.dfdl_forms.specs.declared.order.BitOrder.{BitOrder}
use Rattle.dfdl_forms.specs.declared.order.ByteOrder.{ByteOrder}
use Rattle.dfdl_forms.specs.declared.text.Justify.{Justify}
use Rattle.dfdl_forms.specs.declared.text.Justify.TheVariants.{Left, Right, Center}
use Rattle.dfdl_forms.specs.declared.text.PadForm.{PadForm}
use Rattle.dfdl_int_binary.specs.Integers.{integer_writing}
use Rattle.dfdl_packed.specs.Packed.{packed_writing}
use Rattle.dfdl_terms.specs.declared.row.Primitive.{Primitive}
use Rattle.dfdl_terms.specs.declared.row.Primitive.TheVariants.{Integer, Packed, Truth, Octets, Text, NilOctets, Default, NilValues, Pattern}
use Rattle.dfdl_terms.specs.declared.text.NilForm.{NilForm}
use Rattle.dfdl_terms.specs.declared.text.NilTexts.{NilTexts}
use Rattle.dfdl_terms.specs.declared.text.NilTexts.TheVariants.{Literals, Character, Byte}
use Rattle.dfdl_terms.specs.declared.text.OctetForm.{OctetForm}
use Rattle.dfdl_terms.specs.declared.text.TextForm.{TextForm}
use Rattle.dfdl_value.specs.declared.value.Value.{Value}
use Rattle.dfdl_value.specs.declared.value.Value.TheVariants as value
use Rattle.dfdl_text_string.specs.Padding.{missing_before}
use Rattle.dfdl_writings.specs.declared.fault.Unwritten.{Unwritten}
use Rattle.dfdl_writings.specs.declared.fault.Unwritten.TheVariants.{TooLong}
use Rattle.dfdl_writings.specs.declared.form.Room.TheVariants.{Bits}
use Rattle.dfdl_terms.specs.declared.writing.WritingForm.{WritingForm}
use Rattle.dfdl_writings.specs.declared.form.Written.{Written}
use Rattle.dfdl_writings.specs.Contents.{content_of, held, laid, laid_bytes}
use Rattle.dfdl_writings.specs.Cuts.{cause_of_length, cut_to, is_cut, kept, place_for}
use Rattle.dfdl_writings.specs.Binary.{binary, box_bits}
use Rattle.dfdl_writings.specs.Fields.{nibble_field, number_field, octets, octets_in, truth_number}
use Rattle.dfdl_writings.specs.Nils.{nil_by, nil_character, nil_literal}
use Rattle.dfdl_writings.specs.Paddings.{filled, pad_bytes, padded, padded_with, repeated, surrounded}
use Rattle.dfdl_writings.proofs.Sizes.{all_fit, cut_fits, encoded_size, text_size}

-- a box of so many bits is written whole, with its fill
abbrev pub Fills : ℕ → Written → Type 0
Fills n written = written.bits + written.fill ≡ n

not_ok : (cause : Unwritten) (written : Written) → ◌≡◌ {A = Result Written Unwritten} (Err cause) (Ok written) → ⊥
not_ok cause written is = cc

no_text : (cause : Unwritten) (left : List ℕ) → ◌≡◌ {A = Result (List ℕ) Unwritten} (Err cause) (Ok left) → ⊥
no_text cause left is = cc

same_text : (one other : List ℕ) → ◌≡◌ {A = Result (List ℕ) Unwritten} (Ok one) (Ok other) → one ≡ other
same_text one other is = cc

same_ok : (one other : Written) → ◌≡◌ {A = Result Written Unwritten} (Ok one) (Ok other) → one ≡ other
same_ok one other is = cc

repeated_more : (n : ℕ) (bytes : List ℕ) → repeated (suc n) bytes ≡ repeated n bytes ++ bytes
unfolding repeated
repeated_more n bytes = refl

repeated_none : (bytes : List ℕ) → repeated 0 bytes ≡ []
unfolding repeated
repeated_none bytes = refl

repeated_size : (n : ℕ) (bytes : List ℕ) → length (repeated n bytes) ≡ n * length bytes
repeated_size zero bytes = omega (arith, ap length (repeated_none bytes))
repeated_size (suc n) bytes =
    let more = ap length (repeated_more n bytes) ∙ length-append (repeated n bytes) bytes in
    omega (arith, more, repeated_size n bytes)

before_within : (justify : Justify) (n : ℕ) → missing_before justify n ≤ n
before_within Left n = omega arith
before_within Right n = omega arith
before_within Center n = omega arith

both_sides : (a b size : ℕ) → a * size + b * size ≡ (a + b) * size
both_sides a b size = omega arith

pub surrounded_size : (justify : Justify) (pad : List ℕ) (n : ℕ) (bytes : List ℕ)
    → length (surrounded justify pad n bytes) ≡ n * length pad + length bytes
surrounded_size justify pad n bytes =
    let before : ℕ = missing_before justify n in
    let all : before + (n - before) ≡ n = omega (arith, before_within justify n) in
    let front = length-append (repeated before pad) (bytes ++ repeated (n - before) pad) in
    let back = length-append bytes (repeated (n - before) pad) in
    let sum : before * length pad + (n - before) * length pad ≡ n * length pad = both_sides before (n - before) (length pad) ∙ ap (λ k. k * length pad) all in
    omega (arith, front, back, repeated_size before pad, repeated_size (n - before) pad, sum)

fills : (encoding : Encoding) (n count : ℕ) (bytes : List ℕ) → 8 * length bytes ≤ n → Fills n (filled encoding (Bits n) count bytes)
fills encoding n count bytes fits = omega arith

times : (a b : ℕ) → a * (8 * b) ≡ 8 * (a * b)
times a b = omega arith

pads_fit : (n size width : ℕ) → 8 * size ≤ n → 8 * ((n - 8 * size) / (8 * width) * width + size) ≤ n
pads_fit n size width fits =
    let pads : (n - 8 * size) / (8 * width) * (8 * width) ≤ n - 8 * size = div-mul-le_self (n - 8 * size) (8 * width) in
    let same : (n - 8 * size) / (8 * width) * (8 * width) ≡ 8 * ((n - 8 * size) / (8 * width) * width) = times ((n - 8 * size) / (8 * width)) width in
    omega (arith, fits, pads, same)

pub pads_fill : (pad : Option (List ℕ)) (encoding : Encoding) (justify : Justify) (n least count : ℕ) (bytes : List ℕ) → 8 * length bytes ≤ n
    → Fills n (padded_with pad encoding justify (Bits n) least count bytes)
pads_fill None encoding justify n least count bytes fits = fills encoding n count bytes fits
pads_fill (Some pad) encoding justify n least count bytes fits =
    let more : ℕ = (n - 8 * length bytes) / (8 * length pad) in
    let size = surrounded_size justify pad more bytes in
    let within : 8 * length (surrounded justify pad more bytes) ≤ n = omega (arith, size, pads_fit n (length bytes) (length pad) fits) in
    fills encoding n (count + more) (surrounded justify pad more bytes) within

padded_fills : (encoding : Encoding) (pad : PadForm) (n least count : ℕ) (bytes : List ℕ) → 8 * length bytes ≤ n
    → Fills n (padded encoding pad (Bits n) least count bytes)
padded_fills encoding pad n least count bytes fits = pads_fill (pad_bytes encoding pad.pad) encoding pad.justify n least count bytes fits

-- what two tests tell: all of it, or what is cut off it
by_tests : (all cut : Bool) (xs ys left : List ℕ) (cause : Unwritten) (P : List ℕ → Type 0)
    → ◌≡◌ {A = Result (List ℕ) Unwritten} (if all then Ok xs else if cut then Ok ys else Err cause) (Ok left)
    → (all ≡ true → P xs) → (all ≡ false → P ys) → P left
by_tests true cut xs ys left cause P is whole short = subst P (same_text xs left is) (whole refl)
by_tests false true xs ys left cause P is whole short = subst P (same_text ys left is) (short refl)
by_tests false false xs ys left cause P is whole short = absurd (no_text cause left is)

-- what is kept in a box of bits fits in it
kept_fits : (form : TextForm) (n : ℕ) (cs left : List ℕ) → kept form (Bits n) cs ≡ Ok left → 8 * text_size form.encoding left ≤ n
kept_fits form n cs left is =
    let place : ℕ = place_for form.encoding form.pad.justify (Bits n) cs in
    by_tests (nat_le (length cs) place) (is_cut form.content form.pad.truncate) cs (cut_to form.pad.justify place cs) left
    (cause_of_length form.content) (λ xs. 8 * text_size form.encoding xs ≤ n) is
    (λ within. all_fit form.encoding form.pad.justify n cs (leb-true _ _ within))
    (λ over. cut_fits form.encoding form.pad.justify place n cs (omega (arith, leb-false _ _ over)) (omega arith))

laid_bytes_fill : (writing : WritingForm) (form : TextForm) (n count : ℕ) (told : Option (List ℕ)) (written : Written)
    → ((bytes : List ℕ) → told ≡ Some bytes → 8 * length bytes ≤ n) → laid_bytes writing form (Bits n) count told ≡ Ok written → Fills n written
laid_bytes_fill writing form n count None written fit is = absurd (not_ok _ written is)
laid_bytes_fill writing form n count (Some bytes) written fit is =
    subst (Fills n) (same_ok _ written is) (padded_fills form.encoding form.pad n writing.least count bytes (fit bytes refl))

laid_fills : (writing : WritingForm) (form : TextForm) (n : ℕ) (told : Result (List ℕ) Unwritten) (written : Written)
    → ((cs : List ℕ) → told ≡ Ok cs → 8 * text_size form.encoding cs ≤ n) → laid writing form (Bits n) told ≡ Ok written → Fills n written
laid_fills writing form n (Err cause) written fit is = absurd (not_ok cause written is)
laid_fills writing form n (Ok cs) written fit is =
    laid_bytes_fill writing form n (length cs) (encoded_text form.encoding cs) written
    (λ bytes has. omega (arith, encoded_size form.encoding cs bytes has, fit cs refl)) is

held_fills : (writing : WritingForm) (form : TextForm) (n : ℕ) (opened : List Opened) (cs : List ℕ) (told : Option (List ℕ)) (written : Written)
    → held writing form (Bits n) opened cs told ≡ Ok written → Fills n written
held_fills writing form n opened cs None written is = absurd (not_ok _ written is)
held_fills writing form n opened cs (Some bytes) written is =
    laid_fills writing form n (kept form (Bits n) cs) written (λ left has. kept_fits form n cs left has) is

-- what characters are written as
pub content_fills : (writing : WritingForm) (form : TextForm) (n : ℕ) (opened : List Opened) (told : Result (List ℕ) Unwritten) (written : Written)
    → content_of writing form (Bits n) opened told ≡ Ok written → Fills n written
content_fills writing form n opened (Err cause) written is = absurd (not_ok cause written is)
content_fills writing form n opened (Ok cs) written is = held_fills writing form n opened cs (encoded_text form.encoding cs) written is

-- what a test tells: a literal that isn't longer than its box
by_test : (over : Bool) (cause : Unwritten) (one written : Written) (P : Written → Type 0)
    → ◌≡◌ {A = Result Written Unwritten} (if over then Err cause else Ok one) (Ok written) → (over ≡ false → P one) → P written
by_test true cause one written P is fits = absurd (not_ok cause written is)
by_test false cause one written P is fits = subst P (same_ok one written is) (fits refl)

literal_fills : (nil : NilForm) (pad : PadForm) (n least count : ℕ) (told : Option (List ℕ)) (written : Written)
    → nil_literal nil pad (Bits n) least count told ≡ Ok written → Fills n written
literal_fills nil pad n least count None written is = absurd (not_ok _ written is)
literal_fills nil pad n least count (Some bytes) written is =
    by_test (nat_lt n (8 * length bytes)) TooLong (padded nil.encoding pad (Bits n) least count bytes) written (Fills n) is
    (λ within. padded_fills nil.encoding pad n least count bytes (ltb-false _ _ within))

character_fills : (nil : NilForm) (n : ℕ) (told : Option (List ℕ)) (written : Written) → nil_character nil (Bits n) told ≡ Ok written → Fills n written
character_fills nil n None written is = absurd (not_ok _ written is)
character_fills nil n (Some bytes) written is =
    let count : ℕ = n / (8 * length bytes) in
    let size = repeated_size count bytes in
    let pads : 8 * (n / (8 * length bytes) * length bytes) ≤ n = omega (arith, div-mul-le_self n (8 * length bytes), times (n / (8 * length bytes)) (length bytes)) in
    subst (Fills n) (same_ok _ written is) (fills nil.encoding n count (repeated count bytes) (omega (arith, size, pads)))

-- what nil is written as
pub nil_fills : (writing : WritingForm) (nil : NilForm) (pad : PadForm) (n : ℕ) (texts : NilTexts) (written : Written)
    → nil_by writing nil pad (Bits n) texts ≡ Ok written → Fills n written
nil_fills writing nil pad n (Literals literals) written is = literal_fills nil pad n writing.least _ _ written is
nil_fills writing nil pad n (Character c) written is = character_fills nil n (encoded_of nil.encoding c) written is
nil_fills writing nil pad n (Byte b) written is = character_fills nil n (Some (b ∷ [])) written is

-- bytes in their box
pub octets_fill : (n : ℕ) (bytes : List ℕ) (written : Written) → octets_in n bytes ≡ Ok written → Fills n written
octets_fill n bytes written is = at_test (nat_le (8 * length bytes) n) is (λ within. leb-true _ _ within)
  where
    one : Written
    one = record { bytes = bytes; bits = 8 * length bytes; fill = n - 8 * length bytes }

    at_test : (fits : Bool) → ◌≡◌ {A = Result Written Unwritten} (if fits then Ok one else Err TooLong) (Ok written) → (fits ≡ true → 8 * length bytes ≤ n) → Fills n written
    at_test false same within = absurd (not_ok TooLong written same)
    at_test true same within = subst (Fills n) (same_ok one written same) (whole (within refl))
      where
        whole : 8 * length bytes ≤ n → Fills n one
        whole small = omega (arith, small)

number_fills : (cause : Unwritten) (bytes_by : ByteOrder) (bits_by : BitOrder) (len : ℕ) (told : Option ℕ) (written : Written)
    → number_field cause bytes_by bits_by len told ≡ Ok written → Fills len written
number_fills cause bytes_by bits_by len None written is = absurd (not_ok cause written is)
number_fills cause bytes_by bits_by len (Some number) written is = subst (Fills len) (same_ok _ written is) (omega arith)

nibbles_fill : (bits_by : BitOrder) (count : ℕ) (told : Option (List ℕ)) (written : Written)
    → nibble_field bits_by count told ≡ Ok written → Fills (4 * count) written
nibbles_fill bits_by count None written is = absurd (not_ok _ written is)
nibbles_fill bits_by count (Some nibbles) written is = subst (Fills (4 * count)) (same_ok _ written is) (omega arith)

octets_of_value : (form : OctetForm) (value : Value) (written : Written) → octets form value ≡ Ok written → Fills form.bits written
octets_of_value form (value.Bytes bytes) written is = octets_fill form.bits bytes written is
octets_of_value form (value.Int number) written is = absurd (not_ok _ written is)
octets_of_value form (value.Uns number) written is = absurd (not_ok _ written is)
octets_of_value form (value.Dec number) written is = absurd (not_ok _ written is)
octets_of_value form (value.Text text) written is = absurd (not_ok _ written is)
octets_of_value form (value.Truth truth) written is = absurd (not_ok _ written is)

-- bits
pub binary_fills : (primitive : Primitive) (value : Value) (written : Written) → binary primitive value ≡ Ok written → Fills (box_bits primitive) written
binary_fills (Integer form) value written is = number_fills _ _ _ form.bits (integer_writing form value) written is
binary_fills (Packed form) value written is = nibbles_fill form.bits_by form.nibbles (packed_writing form value) written is
binary_fills (Truth form) value written is = number_fills _ _ _ form.bits (truth_number form value) written is
binary_fills (Octets form) value written is = octets_of_value form value written is
binary_fills (Text form) value written is = absurd (not_ok _ written is)
binary_fills (NilOctets form) value written is = absurd (not_ok _ written is)
binary_fills (Default form) value written is = absurd (not_ok _ written is)
binary_fills (NilValues form) value written is = absurd (not_ok _ written is)
binary_fills (Pattern form) value written is = absurd (not_ok _ written is)
