-- Bytes that are no text are no key of a map.
use Rattle.std.proofs.Common.{◌≡◌, ℕ, false, List, [], ◌∷◌, None, sym, ◌∙◌, subst, String}
use Rattle.std.specs.BTreeMap.{BTreeMap, is_at, get_by_text}
use Rattle.std.specs.Cmp.Lexicographic.{slice_cmp}
use Rattle.std.specs.Ordering.{nat_cmp}
use Rattle.std.specs.Str.{IsUtf8}
use Rattle.std.specs.String.{string_bytes}
use Rattle.std.proofs.lemmas.Bool.{false_from_ne_true}
use Rattle.std.proofs.lemmas.Map.{NonePasses, lookup-none}
use Rattle.std.proofs.lemmas.Map.Text.{is_eq-slice_cmp}
use Rattle.std.proofs.lemmas.Slice.Eq.{bytes_eq-Decides}
use Rattle.std.proofs.lemmas.Str.{IsUtf8-string_bytes}

other_key : {Y : Type 0} (bs : List ℕ) → ¬ (IsUtf8 bs) → (k : String Y) → is_at (λ k. slice_cmp nat_cmp bs (string_bytes k)) k ≡ false
other_key bs odd k =
    is_eq-slice_cmp bs (string_bytes k)
    ∙ false_from_ne_true _ (λ same. odd (subst IsUtf8 (sym ((bytes_eq-Decides bs (string_bytes k)).0 same)) (IsUtf8-string_bytes k)))

no_keys : {X Y : Type 0} (bs : List ℕ) → ¬ (IsUtf8 bs) → (es : List (String Y × X)) → NonePasses (λ k. is_at (λ k. slice_cmp nat_cmp bs (string_bytes k)) k) es
no_keys bs odd [] = tt
no_keys bs odd (e ∷ es) = (other_key bs odd e.0, no_keys bs odd es)

pub no_key : {X Y : Type 0} (m : BTreeMap (String Y) X) (bs : List ℕ) → ¬ (IsUtf8 bs) → get_by_text m bs ≡ None
no_key m bs odd = lookup-none _ m.entries (no_keys bs odd m.entries)
