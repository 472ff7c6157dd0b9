-- Texts without a breach that are padded or trimmed.
use Rattle.std.proofs.Common.{◌≡◌, refl, sym, ◌∙◌, ℕ, Some, None, Bool, true, false, not, ◌&&◌, ◌||◌, is_some, codes, IsTrue, IsSome, arith}
use Rattle.dfdl_forms.specs.declared.encoding.Encoding.{Encoding}
use Rattle.dfdl_literals.specs.declared.pad.PadCharacter.{PadCharacter}
use Rattle.dfdl_literals.specs.declared.pad.PadCharacter.TheVariants.{Character, Malformed, Other}
use Rattle.dfdl_checks.proofs.AlikeChains.{both}
use Rattle.dfdl_checks.proofs.Kept.{encoded-kept, keeps-all, literals-kept}
use Rattle.dfdl_checks.specs.Encodings.{encoding_told}
use Rattle.dfdl_checks.specs.Judged.{Judged}
use Rattle.dfdl_checks.specs.Pads.{has_character, is_malformed, is_other, is_pad_outside, is_padded_text, lacks_character, pad_at, single}
use Rattle.dfdl_checks.specs.Rules.{first_breach, rules, are_truth_texts_malformed, are_truth_texts_not_encoded, is_separator_malformed, is_separator_not_encoded}
use Rattle.dfdl_checks.specs.Subjects.{told_at}

-- what doesn't hold of a padded text, the first of three
fails : (a b c d : Bool) → a ≡ true → ((a && b) || c || d) ≡ false → b ≡ false
fails a b c d x y = grind (arith, x, y)

-- what is neither malformed nor of other literals is a character
pub some-single : (p : PadCharacter) → is_malformed p ≡ false → is_other p ≡ false → is_some (single p) ≡ true
some-single (Character c) x y = refl
some-single Malformed x y = grind (arith, x)
some-single Other x y = grind (arith, y)

-- the pad character is one
pub has-single : (s : Judged) → first_breach rules s ≡ None → IsTrue (is_padded_text s) → IsSome (single (pad_at s))
has-single s none padded =
    let kept = keeps-all s none in
    some-single (pad_at s) (fails (is_padded_text s) _ (is_separator_malformed s) (are_truth_texts_malformed s) padded (literals-kept s kept))
    (alone (is_padded_text s) (is_other (pad_at s)) padded kept.pad_single)
  where
    alone : (a b : Bool) → a ≡ true → (a && b) ≡ false → b ≡ false
    alone a b x y = grind (arith, x, y)

-- the encoding has it
pub in-encoding : (s : Judged) (e : Encoding) (c : ℕ) → first_breach rules s ≡ None → IsTrue (is_padded_text s)
    → encoding_told (told_at s (codes "encoding")) ≡ Some e → single (pad_at s) ≡ Some c → IsTrue (has_character e c)
in-encoding s e c none padded told is =
    unless (has_character e c)
    (sym (both lacks_character told is)
    ∙ fails (is_padded_text s) (is_pad_outside s) (is_separator_not_encoded s) (are_truth_texts_not_encoded s) padded (encoded-kept s (keeps-all s none)))
  where
    unless : (b : Bool) → not b ≡ false → b ≡ true
    unless b h = grind (arith, h)
