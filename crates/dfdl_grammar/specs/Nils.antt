-- What stands for nil in the data. 'DFDL Data Syntax Grammar' (nil representation).
use Rattle.std.specs.Prelude.{ℕ, List, [], ◌∷◌, Option, Some, None, Bool, false, nat_eq}
use Rattle.std.specs.List.{list_all}
use Rattle.dfdl_forms.specs.declared.encoding.Encoding.{Encoding}
use Rattle.dfdl_chars.specs.Encodings.{encoded_text}
use Rattle.dfdl_literal_texts.specs.Texts.{is_repeated, is_text_of_some}
use Rattle.dfdl_terms.specs.declared.text.NilForm.{NilForm}
use Rattle.dfdl_terms.specs.declared.text.NilTexts.{NilTexts}
use Rattle.dfdl_terms.specs.declared.text.NilTexts.TheVariants.{Literals, Character, Byte}

-- there are bytes, and all are this one
abbrev pub are_repeated : ℕ → List ℕ → Bool
are_repeated b [] = false
are_repeated b (c ∷ bytes) = list_all (nat_eq b) (c ∷ bytes)

-- bytes are among those of nil in an encoding
abbrev pub are_among : NilTexts → Encoding → Bool → List ℕ → Bool
are_among (Literals literals) encoding fold bytes = is_text_of_some encoding fold literals bytes
are_among (Character c) encoding fold bytes = is_repeated encoding fold c bytes
are_among (Byte b) encoding fold bytes = are_repeated b bytes

-- bytes stand for nil
abbrev pub are_nil : NilForm → List ℕ → Bool
are_nil form bytes = are_among form.texts form.encoding form.fold bytes

-- bytes stand for nil, where they are told
abbrev pub are_nil_told : NilForm → Option (List ℕ) → Bool
are_nil_told form None = false
are_nil_told form (Some bytes) = are_nil form bytes

-- the bytes of characters stand for nil; characters that the encoding lacks have none
abbrev pub is_nil : NilForm → List ℕ → Bool
is_nil form characters = are_nil_told form (encoded_text form.encoding characters)
