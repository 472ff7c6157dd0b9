-- Contents without the pad characters around them, of which those that are escaped stay. 'Simple Types' (textTrimKind, escape
-- schemes).
use Rattle.std.specs.Prelude.{ℕ, ◌-◌, List, [], ◌∷◌, length, Option, Bool, false, ◌&&◌, not, ◌==◌, nat_lt, if◌then◌else◌}
use Rattle.dfdl_forms.specs.declared.text.Justify.{Justify}
use Rattle.dfdl_forms.specs.declared.text.Justify.TheVariants.{Left, Right, Center}
use Rattle.dfdl_forms.specs.declared.text.PadForm.{PadForm}
use Rattle.dfdl_text_string.specs.Padding.{is_trim}
use Rattle.dfdl_escapes.specs.declared.character.Character.{Character}

-- the character is the one that is trimmed, and isn't escaped
abbrev pub is_pad : Option ℕ → Character → Bool
is_pad trim character = not character.is_escaped && is_trim trim character.c

-- what is left of a content without the pad characters at its front
abbrev pub behind_pads : Option ℕ → List Character → List Character
behind_pads trim [] = []
behind_pads trim (x ∷ xs) = if is_pad trim x then behind_pads trim xs else x ∷ xs

-- a character before the rest, unless nothing is left and it is a pad character
abbrev pub before_rest : Option ℕ → Character → List Character → List Character
before_rest trim x [] = if is_pad trim x then [] else x ∷ []
before_rest trim x (y ∷ ys) = x ∷ (y ∷ ys)

-- what is left of a content without the pad characters at its end
abbrev pub before_pads : Option ℕ → List Character → List Character
before_pads trim [] = []
before_pads trim (x ∷ xs) = before_rest trim x (before_pads trim xs)

-- the content without pad characters at its front, where they are trimmed there
abbrev pub front_trimmed : Justify → Option ℕ → List Character → List Character
front_trimmed Left trim characters = characters
front_trimmed Right trim characters = behind_pads trim characters
front_trimmed Center trim characters = behind_pads trim characters

-- the content without pad characters at its end, where they are trimmed there
abbrev pub end_trimmed : Justify → Option ℕ → List Character → List Character
end_trimmed Left trim characters = before_pads trim characters
end_trimmed Right trim characters = characters
end_trimmed Center trim characters = before_pads trim characters

-- the content without pad characters at the sides that are trimmed
abbrev pub bare_content : PadForm → List Character → List Character
bare_content form characters = end_trimmed form.justify form.trim (front_trimmed form.justify form.trim characters)

-- how many characters are trimmed at the front; of a content of nothing but pad characters all, unless it is left justified
abbrev pub bare_content_from : PadForm → List Character → ℕ
bare_content_from form characters = length characters - length (front_trimmed form.justify form.trim characters)

-- the content is of nothing but zeros that aren't escaped, and the form keeps one of them
abbrev pub keeps_one_zero : PadForm → List Character → Bool
keeps_one_zero form characters =
    form.keeps_zero && (is_trim form.trim 48 && (nat_lt 0 (length characters) && (length (bare_content form characters) == 0)))

-- a character that isn't escaped
abbrev pub unescaped : ℕ → Character
unescaped c = record { c = c; is_escaped = false }

-- what a content is trimmed to
abbrev pub trimmed_content : PadForm → List Character → List Character
trimmed_content form characters = if keeps_one_zero form characters then unescaped 48 ∷ [] else bare_content form characters

-- where the trimmed content begins: a zero that is kept is the first of the content at the left, else the last
abbrev pub trimmed_content_from : PadForm → List Character → ℕ
trimmed_content_from form characters =
    if keeps_one_zero form characters then bare_content_from form characters - 1 else bare_content_from form characters

-- the characters of a content that are escaped
abbrev pub only_escaped : List Character → List Character
only_escaped [] = []
only_escaped (x ∷ xs) = if x.is_escaped then x ∷ only_escaped xs else only_escaped xs
