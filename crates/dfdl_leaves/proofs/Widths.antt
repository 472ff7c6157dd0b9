-- Characters have as many bytes in UTF-8 as each of them has, one after the other.
use Rattle.std.proofs.Common.{◌≡◌, ℕ, ◌+◌, refl, List, [], ◌∷◌, length, ap, sym, ◌∙◌, encode_utf8, length-append}
use Rattle.dfdl_forms.specs.declared.encoding.Encoding.{Encoding}
use Rattle.dfdl_forms.specs.declared.encoding.Encoding.TheVariants.{Utf8}
use Rattle.dfdl_region.specs.Bytes.{utf8_of}
use Rattle.dfdl_grammar.specs.Spans.{bytes_in, widths_in}

pub utf8-widths : (characters : List ℕ) → widths_in Utf8 characters ≡ length (utf8_of characters)
utf8-widths [] = refl
utf8-widths (c ∷ characters) =
    ap (λ (n : ℕ). length (encode_utf8 c) + n) (utf8-widths characters) ∙ sym (length-append (encode_utf8 c) (utf8_of characters))

pub bytes-widths : (encoding : Encoding) (characters : List ℕ) → encoding ≡ Utf8 → widths_in Utf8 characters ≡ bytes_in encoding characters
bytes-widths encoding characters is = utf8-widths characters ∙ ap (λ (e : Encoding). bytes_in e characters) (sym is)
