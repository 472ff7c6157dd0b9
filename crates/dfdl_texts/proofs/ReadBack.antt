-- What is written in an encoding is read back as a text.
use Rattle.std.proofs.Common.{◌≡◌, ℕ, zero, suc, ◌+◌, ◌*◌, ◌/◌, ◌<◌, ◌≤◌, Bool, false, cond, List, [], ◌∷◌, ◌++◌, length, ap, sym, subst, ◌∙◌, arith, append_assoc}
use Rattle.std.proofs.lemmas.Bool.{lt-leb, cond-false}
use Rattle.std.proofs.lemmas.List.{append-nil}
use Rattle.dfdl_forms.specs.declared.encoding.Encoding.{Encoding}
use Rattle.dfdl_forms.specs.declared.encoding.Encoding.TheVariants.{Utf8, UsAscii, Iso88591, Utf16Be, Utf16Le}
use Rattle.dfdl_bits.specs.declared.window.Seen.{Seen}
use Rattle.dfdl_bits.specs.declared.window.Seen.TheVariants.{Byte}
use Rattle.dfdl_looks.specs.Tallies.{Tally, nothing}
use Rattle.dfdl_looks.specs.Asks.{Ask, Answer, Reached, Told, Reading, ask, and_then}
use Rattle.dfdl_chars.specs.declared.decode.Chars.TheVariants.{Char}
use Rattle.dfdl_chars.specs.Decoding.{Boxed, Decoded, no_look}
use Rattle.dfdl_chars.specs.Sights.{StandsAt, StandFrom}
use Rattle.dfdl_texts.specs.declared.extent.Extent.{Extent}
use Rattle.dfdl_texts.specs.declared.extent.Extent.TheVariants.{Box}
use Rattle.dfdl_texts.specs.Units.{Piece, Holds, NoMore, lies_in, unit_at, far_seen, IsUnit}
use Rattle.dfdl_texts.specs.Texts.{Text, Reads, past_box, past_data}
use Rattle.dfdl_texts.proofs.Pieces.{decoded}
use Rattle.dfdl_texts.proofs.Lying.{Lies, unit-lies, first_byte}
use Rattle.dfdl_texts.proofs.Whole.{going, going_on}
use Rattle.dfdl_texts.proofs.Steps.{unit-first}

-- past the end of the box nothing is looked at
unit-past : (enc : Encoding) (stop k : ℕ) → lies_in stop k ≡ false → unit_at enc stop k ≡ Answer NoMore
unit-past Utf8 stop k past = first_byte stop k ∙ cond-false (lies_in stop k) _ _ past
unit-past UsAscii stop k past = cond-false (lies_in stop k) _ _ past
unit-past Iso88591 stop k past = cond-false (lies_in stop k) _ _ past
unit-past Utf16Be stop k past = cond-false (lies_in stop k) _ _ past
unit-past Utf16Le stop k past = cond-false (lies_in stop k) _ _ past

module _ (look : ℕ → Seen) (enc : Encoding) (stop : ℕ) where
  abbrev box : Boxed
  box = record { look = look; stop = stop }

  whole : (count : ℕ) → 8 * count / 8 ≡ count
  whole count = omega arith

  -- a character that stands at a place is what is read there
  char-unit : (k c count : ℕ) → StandsAt enc box k c count → (t : Tally)
      → IsUnit (Char c (8 * count)) (k + count) 0 (0 + count) t (ask look (unit_at enc stop k) t)
  char-unit k c count stands t =
      subst (λ (d : Decoded). IsUnit d.chars (far_seen d.chars k d.walk.far) 0 d.walk.looks t (ask look (unit_at enc stop k) t)) (stands (no_look 0))
      (decoded look stop k 0 t enc)

  -- it has a byte, and lies in the box
  char-lies : (k c count : ℕ) → StandsAt enc box k c count → (1 ≤ count) × (8 * (k + count) ≤ stop)
  char-lies k c count stands = (lies.1, lies.3)
    where
      shown : (j b : ℕ) → k ≤ j → look j ≡ Byte b → (⊥ → b < 256) × (⊥ → j + 1 ≤ 0)
      shown j b behind seen = ((λ never. absurd never), (λ never. absurd never))

      lies : Lies look ⊥ ⊥ stop 0 k shown (Told (Holds c count))
      lies =
          subst (λ (r : Reached Piece). Lies look ⊥ ⊥ stop 0 k shown r)
          ((char-unit k c count stands nothing).reached ∙ ap (λ (n : ℕ). Told (Holds c n)) (whole count))
          (unit-lies look ⊥ ⊥ stop 0 k shown enc nothing)

  module _ (replaces : Bool) (extent : Extent) where
    -- the text goes on behind it
    char-on : (more k c count : ℕ) (before : List ℕ) (t : Tally) → StandsAt enc box k c count
        → ask look (going enc replaces extent stop (suc more) before k) t
        ≡ ask look (going enc replaces extent stop more (before ++ c ∷ []) (k + count)) (ask look (unit_at enc stop k) t).tally
    char-on more k c count before t stands =
        unit-first look enc replaces extent stop more k 0 (0 + count) (k + count) before (Char c (8 * count)) t (char-unit k c count stands t)
        ∙ ap (λ (n : ℕ). ask look (going enc replaces extent stop more (before ++ c ∷ []) (k + n)) (ask look (unit_at enc stop k) t).tally) (whole count)

    abbrev comes : ℕ → List ℕ → ℕ → Tally → Reached Text
    comes more before k t = (ask look (going enc replaces extent stop more before k) t).reached

    ends-at : (k end : ℕ) (before : List ℕ) → k ≡ end → Told (Reads before k) ≡ Told (Reads (before ++ []) end)
    ends-at k end before is = ap (λ (n : ℕ). Told (Reads before n)) is ∙ ap (λ (cs : List ℕ). Told (Reads cs end)) (sym (append-nil before))

    grouped : (before cs : List ℕ) (c end : ℕ) → Told (Reads ((before ++ c ∷ []) ++ cs) end) ≡ Told (Reads (before ++ c ∷ cs) end)
    grouped before cs c end = ap (λ (xs : List ℕ). Told (Reads xs end)) (append_assoc before (c ∷ []) cs)

    -- as many characters as stand there
    pub counted-back : (cs : List ℕ) (k end : ℕ) (before : List ℕ) (t : Tally) → StandFrom enc box k end cs
        → comes (length cs) before k t ≡ Told (Reads (before ++ cs) end)
    counted-back [] k end before t stand = ends-at k end before stand
    counted-back (c ∷ cs) k end before t stand =
        ap (λ (r : Reading Text). r.reached) (char-on (length cs) k c stand.0 before t stand.1)
        ∙ counted-back cs (k + stand.0) end (before ++ c ∷ []) (ask look (unit_at enc stop k) t).tally stand.2
        ∙ grouped before cs c end

    -- or those up to the end of the box
    pub boxed-back : extent ≡ Box → (cs : List ℕ) (more k end : ℕ) (before : List ℕ) (t : Tally) → StandFrom enc box k end cs → stop / 8 ≡ end → end ≤ k + more
        → comes more before k t ≡ Told (Reads (before ++ cs) end)
    boxed-back is_box [] zero k end before t stand at room = ends-at k end before stand
    boxed-back is_box [] (suc more) k end before t stand at room =
        let past : lies_in stop k ≡ false = lt-leb (8 * k + 8) stop (omega arith) in
        ap (λ (a : Ask Piece). (ask look (and_then a (going_on enc replaces extent stop more before k)) t).reached) (unit-past enc stop k past)
        ∙ ap (λ (b : Bool). Told (cond b (past_data extent before k) (past_box extent before k))) past
        ∙ ap (λ (e : Extent). Told (past_box e before k)) is_box
        ∙ ends-at k end before stand
    boxed-back is_box (c ∷ cs) zero k end before t stand at room =
        let lies = char-lies k c stand.0 stand.1 in
        let some : 1 ≤ stand.0 = lies.0 in
        let inside : 8 * (k + stand.0) ≤ stop = lies.1 in
        absurd (omega arith)
    boxed-back is_box (c ∷ cs) (suc more) k end before t stand at room =
        let some : 1 ≤ stand.0 = (char-lies k c stand.0 stand.1).0 in
        ap (λ (r : Reading Text). r.reached) (char-on more k c stand.0 before t stand.1)
        ∙ boxed-back is_box cs more (k + stand.0) end (before ++ c ∷ []) (ask look (unit_at enc stop k) t).tally stand.2 at (omega arith)
        ∙ grouped before cs c end
