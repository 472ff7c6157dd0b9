-- How many bytes are read.
use Rattle.std.proofs.Common.{◌≡◌, ℕ, ◌+◌, List, [], ◌∷◌, ◌++◌, length, refl, ap, sym, ◌∙◌, append-nil}
use Rattle.std.proofs.lemmas.List.{length_push}
use Rattle.std.specs.Char.{IsScalar}
use Rattle.dfdl_layers.specs.Bytes.{IsCoding}
use Rattle.dfdl_xml_chars.specs.Utf8.{see}
use Rattle.dfdl_xml_chars.specs.Shown.{seen_of}
use Rattle.dfdl_xml_chars.specs.declared.begun.Taken.{Taken}
use Rattle.dfdl_xml_chars.specs.declared.begun.Taken.TheVariants.{Whole, Part, Bad}
use Rattle.dfdl_doc_tree.specs.ReaderShown.{IfWhole}
use Rattle.std.specs.Prelude.{encode_utf8}
use Rattle.dfdl_markup.specs.Trees.{size}
use Rattle.dfdl_markup.specs.Building.{Effect, Stays, Opens, Closes, Reads, Refers, Enters, Adds, Leaves}
use Rattle.dfdl_markup.specs.Building.{Built, build}

-- a character has the bytes of its coding
pub size-one : (c : ℕ) → size (c ∷ []) ≡ length (encode_utf8 c)
size-one c = ap length (append-nil (encode_utf8 c))

-- each character is counted
pub counted : (effect : Effect) (bytes : ℕ) (b : Built) → (build effect bytes b).at ≡ b.at + bytes
counted Stays bytes b = refl
counted Opens bytes b = refl
counted Closes bytes b = refl
counted (Reads held c) bytes b = refl
counted (Refers d) bytes b = refl
counted (Enters tag) bytes b = refl
counted (Adds tag) bytes b = refl
counted Leaves bytes b = refl

-- the bytes of a character that is whole are its coding
pub taken_size : IsCoding IsScalar encode_utf8 see → (taken : Taken) (read : List ℕ) (b : ℕ)
    → seen_of taken ≡ see (read ++ b ∷ []) → IfWhole taken (λ c. size (c ∷ []) ≡ length read + 1)
taken_size coding (Whole c) read b is =
    size-one c ∙ (ap length ((coding.whole (read ++ b ∷ []) c (sym is)).1) ∙ length_push read b)
taken_size coding (Part begun) read b is = tt
taken_size coding Bad read b is = tt
