-- Texts padded to a length, trimmed again and cut. 'Simple Types' (textPadKind, textTrimKind,
-- truncateSpecifiedLengthString).
use Rattle.std.specs.Prelude.{◌≡◌, ◌⊎◌, ◌<◌, ℕ, ◌-◌, ◌/◌, List, [], ◌∷◌, ◌++◌, length, take, replicate, Option, Some, None, Bool, true, false, ◌&&◌, ◌==◌, nat_lt, if◌then◌else◌}
use Rattle.dfdl_lemmas.specs.Trimmed.{without_leading, without_trailing}
use Rattle.dfdl_forms.specs.declared.text.Justify.{Justify}
use Rattle.dfdl_forms.specs.declared.text.Justify.TheVariants.{Left, Right, Center}
use Rattle.dfdl_forms.specs.declared.text.PadForm.{PadForm}

-- the character is the one that is trimmed
abbrev pub is_trim : Option ℕ → ℕ → Bool
is_trim None c = false
is_trim (Some trim) c = c == trim

-- the text without trim characters at its front, where they are trimmed there
abbrev pub front_trimmed : Justify → (ℕ → Bool) → List ℕ → List ℕ
front_trimmed Left passes text = text
front_trimmed Right passes text = without_leading passes text
front_trimmed Center passes text = without_leading passes text

-- the text without trim characters at its end, where they are trimmed there
abbrev pub end_trimmed : Justify → (ℕ → Bool) → List ℕ → List ℕ
end_trimmed Left passes text = without_trailing passes text
end_trimmed Right passes text = text
end_trimmed Center passes text = without_trailing passes text

-- the text without trim characters at the sides that are trimmed
abbrev pub bare : PadForm → List ℕ → List ℕ
bare form text =
    end_trimmed form.justify (is_trim form.trim)
    (front_trimmed form.justify (is_trim form.trim) text)

-- how many characters are trimmed at the front; of a text of nothing but trim characters all,
-- unless it is left justified
abbrev pub bare_from : PadForm → List ℕ → ℕ
bare_from form text = length text - length (front_trimmed form.justify (is_trim form.trim) text)

-- the text is of nothing but zeros, and the form keeps one of them
abbrev pub keeps_one : PadForm → List ℕ → Bool
keeps_one form text =
    form.keeps_zero
    && (is_trim form.trim 48 && (nat_lt 0 (length text) && (length (bare form text) == 0)))

-- what a text is trimmed to
abbrev pub trimmed : PadForm → List ℕ → List ℕ
trimmed form text = if keeps_one form text then 48 ∷ [] else bare form text

-- where the trimmed text begins: a zero that is kept is the first of the text at the left, else the
-- last
abbrev pub trimmed_from : PadForm → List ℕ → ℕ
trimmed_from form text =
    if keeps_one form text then bare_from form text - 1 else bare_from form text

-- how many of the missing characters stand before the text; of an odd number the text in the center
-- has one more behind it (profile)
abbrev pub missing_before : Justify → ℕ → ℕ
missing_before Left missing = 0
missing_before Right missing = missing
missing_before Center missing = missing / 2

-- so many pad characters, then the text, then so many pad characters
abbrev pub surrounded : ℕ → ℕ → List ℕ → ℕ → List ℕ
surrounded pad before text after = replicate before pad ++ (text ++ replicate after pad)

-- the text with pad characters around it, by which it has this length
abbrev pub padded : Justify → ℕ → List ℕ → ℕ → List ℕ
padded justify pad text size =
    let before = missing_before justify (size - length text) in
    surrounded pad before text (size - length text - before)

-- a room, with a text of this length at its front, after the text was padded; without a pad
-- character nothing is written
abbrev pub room_padded : Justify → Option ℕ → ℕ → List ℕ → List ℕ
room_padded justify None size room = room
room_padded justify (Some pad) size room = padded justify pad (take size room) (length room)

-- where the text begins after it was padded by so many characters
abbrev pub padded_from : Justify → Option ℕ → ℕ → ℕ
padded_from justify None missing = 0
padded_from justify (Some pad) missing = missing_before justify missing

-- where the part begins that is kept of a text of this length: the first characters, or the last
-- ones of a text at the right (profile)
abbrev pub cut_from : Justify → ℕ → ℕ → ℕ
cut_from Left size room = 0
cut_from Right size room = size - room
cut_from Center size room = 0

-- the text begins with the character
abbrev pub begins_with : ℕ → List ℕ → Bool
begins_with pad [] = false
begins_with pad (c ∷ text) = c == pad

-- the last character, c where no text follows it, is the one
abbrev pub last_is : ℕ → ℕ → List ℕ → Bool
last_is pad c [] = c == pad
last_is pad c (d ∷ text) = last_is pad d text

-- the text ends with the character
abbrev pub ends_with : ℕ → List ℕ → Bool
ends_with pad [] = false
ends_with pad (c ∷ text) = last_is pad c text

-- the text has no pad character at the sides where it is trimmed
abbrev pub IsBare : Justify → ℕ → List ℕ → Type 0
IsBare Left pad text = ends_with pad text ≡ false
IsBare Right pad text = begins_with pad text ≡ false
IsBare Center pad text = (begins_with pad text ≡ false) × (ends_with pad text ≡ false)

-- the text is what is left of it when pad characters around it are trimmed: it is bare, and not
-- empty where a zero would be kept, or it is that zero
abbrev pub Survives : PadForm → ℕ → List ℕ → Type 0
Survives form pad text =
    (IsBare form.justify pad text × ((0 < length text) ⊎ (form.keeps_zero ≡ false)))
    ⊎ ((form.keeps_zero ≡ true) × (pad ≡ 48) × (text ≡ 48 ∷ []))
