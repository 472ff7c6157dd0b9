-- A machine over characters, with UTF-8 and the allowed characters before it, tells all rules over
-- bytes.
use Rattle.std.proofs.Common.{ℕ, ◌<◌, List, Bool, Result, arith}
use Rattle.dfdl_layers.specs.Causes.{LeavesFewer}
use Rattle.dfdl_layers.specs.Tellers.{IsTeller}
use Rattle.dfdl_layers.specs.Bytes.{Inside, between, byte_accepts, AnyByte}
use Rattle.dfdl_layers.proofs.AllowedTold.{allowed_teller}
use Rattle.dfdl_layers.proofs.BytesTold.{bytes_teller}
use Rattle.dfdl_xml_chars.specs.Characters.{is_allowed}
use Rattle.dfdl_xml_chars.specs.Beyond.{Beyond}
use Rattle.dfdl_xml_chars.specs.DocumentReading.{document_step, SoundDocument, RestOfDocument}
use Rattle.dfdl_xml_chars.specs.DocumentReading.{ReadsCharacters}
use Rattle.dfdl_xml_chars.proofs.Coding.{utf8_coding}
use Rattle.dfdl_xml_chars.proofs.Foresight.{utf8_foresight}

pub document_teller : {S : Type 0} {step : S → ℕ → Result S ℕ} {start : S} {accepts : S → Bool}
    {all : ℕ} {Sound : S → Type 0}
    {Rest : ℕ → S → List ℕ → Type 0} {beyond : S → Beyond}
    → ReadsCharacters step start accepts all Sound Rest beyond → 2 < all
    → IsTeller (document_step step beyond) (between start) (byte_accepts accepts) all AnyByte
    (SoundDocument beyond Sound) (RestOfDocument Rest)
document_teller {S} {step} {start} {accepts} {all} {Sound} {Rest} {beyond} reads within =
    bytes_teller 1 utf8_coding (utf8_foresight 2 step beyond Sound reads.fits reads.does)
    (λ n s characters less. record
    { allowed = λ more. absurd (omega arith); rest = reads.free n s characters (omega arith) })
    (allowed_teller 2 is_allowed within reads.free reads.teller) (omega arith)

-- with more rules fewer bytes may follow
pub fewer_bytes : {S : Type 0} (Rest : ℕ → S → List ℕ → Type 0)
    → ((s : S) → LeavesFewer (λ n. Rest n s)) → (i : Inside S)
    → LeavesFewer (λ n. RestOfDocument Rest n i)
fewer_bytes Rest fewer i n m bytes less rest = record {
  characters = rest.characters;
  are_scalar = λ past. rest.are_scalar (omega arith);
  encoded = λ past. rest.encoded (omega arith);
  rest = record {
    allowed = λ past. rest.rest.allowed (omega arith);
    rest = fewer i.state n m rest.characters less rest.rest.rest;
  };
}
