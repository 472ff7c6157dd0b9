-- The longest text of open lists over bytes that are all there, and whether the bytes begin with one.
use Rattle.std.proofs.Common.{◌≡◌, ℕ, zero, suc, ◌+◌, ◌-◌, ◌*◌, ◌/◌, ◌<◌, ◌≤◌, Bool, true, false, ◌||◌, cond, leb, ltb, List, [], ◌∷◌, ◌++◌, length, drop, get_or, Option, Some, None, refl, ap, sym, subst, ◌∙◌, arith, append_assoc, add-zero, length-append}
use Rattle.std.proofs.lemmas.Bool.Decides.{nat_tests}
use Rattle.std.proofs.lemmas.List.{get_or-drop, length-drop}
use Rattle.dfdl_bits.specs.declared.window.Seen.{Seen}
use Rattle.dfdl_bits.specs.declared.window.Seen.TheVariants.{Byte, End, NotYet, Over}
use Rattle.dfdl_bits.specs.Window.{Held, seen_at}
use Rattle.dfdl_looks.specs.Tallies.{Tally, nothing, saw_byte}
use Rattle.dfdl_looks.specs.Asks.{Ask, Answer, Look, Reached, Told, Reading, ask}
use Rattle.dfdl_looks.proofs.Resumed.{on_seen}
use Rattle.dfdl_delims.specs.Lists.{Decides, GoesOn, Opened, innermost, is_text_at, last_below}
use Rattle.dfdl_delims.specs.Longest.{Longest, Text, NoText, better, longest_at, longest_from}
use Rattle.dfdl_escapes.specs.Sought.{HoldsAll}
use Rattle.dfdl_escapes.specs.Steps.{ended_by}
use Rattle.dfdl_escapes.specs.Written.{begins_with_text, is_given}

-- the greatest number that passes does
last-passes : (passes : ℕ → Bool) (n k : ℕ) → last_below passes n ≡ Some k → passes k ≡ true
last-passes passes zero k is = absurd (cc)
last-passes passes (suc n) k is = by (passes n) refl is (last-passes passes n k)
  where
    by : (b : Bool) → passes n ≡ b → cond b (Some n) (last_below passes n) ≡ Some k → (last_below passes n ≡ Some k → passes k ≡ true) → passes k ≡ true
    by true here same lower = let at : n ≡ k = cc in subst (λ (j : ℕ). passes j ≡ true) at here
    by false here same lower = lower same

given-is : (o : Option ℕ) → is_given o ≡ true → (P : Type 0) → ((k : ℕ) → o ≡ Some k → P) → P
given-is None is P then = absurd (cc)
given-is (Some k) is P then = then k refl

module _ (lists : List Opened) where
  -- what begins with a text is the front of one
  begins-goes : (seen rest : List ℕ) → begins_with_text lists seen rest ≡ true → GoesOn lists seen
  begins-goes seen [] is = absurd (cc)
  begins-goes seen (byte ∷ rest) is = by (is_given (innermost lists (seen ++ byte ∷ []))) refl is (begins-goes (seen ++ byte ∷ []) rest)
    where
      by : (b : Bool) → is_given (innermost lists (seen ++ byte ∷ [])) ≡ b → (b || begins_with_text lists (seen ++ byte ∷ []) rest) ≡ true
          → (begins_with_text lists (seen ++ byte ∷ []) rest ≡ true → GoesOn lists (seen ++ byte ∷ [])) → GoesOn lists seen
      by true here all more =
          given-is (innermost lists (seen ++ byte ∷ [])) here (GoesOn lists seen)
          (λ k is_k. record {
            place = k;
            next = byte;
            more = [];
            is = last-passes (λ place. is_text_at lists place (seen ++ byte ∷ [])) (length lists) k is_k;
          })
      by false here all more =
          let further = more all in
          record {
            place = further.place;
            next = byte;
            more = further.next ∷ further.more;
            is = subst (λ (xs : List ℕ). is_text_at lists further.place xs ≡ true) (append_assoc seen (byte ∷ []) (further.next ∷ further.more)) further.is;
          }

  or-false : (b : Bool) → b ≡ (b || false)
  or-false true = refl
  or-false false = refl

  swapped : (a b c : Bool) → ((a || b) || c) ≡ (b || (a || c))
  swapped true true c = refl
  swapped true false c = refl
  swapped false true c = refl
  swapped false false c = refl

  some-bits : (n place : ℕ) → 1 ≤ n → ended_by (Text place (8 * n)) ≡ Some place
  some-bits n place some =
      let more : 8 * n ≡ suc (8 * n - 1) = omega arith in
      ap (λ (bits : ℕ). ended_by (Text place bits)) more

  -- what is found behind a byte at least is a text of the list, or what was found before
  better-given : (o : Option ℕ) (n : ℕ) (found : Longest) → 1 ≤ n → is_given (ended_by (better o n found)) ≡ (is_given o || is_given (ended_by found))
  better-given None n found some = refl
  better-given (Some place) n found some = ap is_given (some-bits n place some)

  module _ (look : ℕ → Seen) (test : List ℕ → Bool) (decides : Decides lists test) where
    -- these bytes are seen from byte k on
    abbrev Sees : ℕ → List ℕ → Type 0
    Sees k bytes = (i : ℕ) → i < length bytes → look (k + i) ≡ Byte (get_or bytes i 0)

    -- a text is told, which has a byte if one was found so far or the rest begins with one
    pub record Finds (r : Reading Longest) (is : Bool) : Type 0 where
      pub text : Longest
      pub reached : r.reached ≡ Told text
      pub given : is_given (ended_by text) ≡ is

    abbrev so_far : List ℕ → Longest → Longest
    so_far seen found = better (innermost lists seen) (length seen) found

    abbrev next : ℕ → List ℕ → Longest → ℕ → Option ℕ → Ask Longest
    next more seen found k o = elim o [
      | None ↦ Answer (so_far seen found)
      | Some byte ↦ longest_from test lists more (seen ++ byte ∷ []) (so_far seen found) (k + 1)
    ]

    none-longer : (seen rest : List ℕ) → test seen ≡ false → begins_with_text lists seen rest ≡ false
    none-longer seen rest none = by (begins_with_text lists seen rest) refl
      where
        by : (b : Bool) → begins_with_text lists seen rest ≡ b → b ≡ false
        by true is = let goes : test seen ≡ true = (decides seen).1 (begins-goes seen rest is) in absurd (cc)
        by false is = refl

    walked : (rest seen : List ℕ) (found : Longest) (k more : ℕ) (t : Tally) → more ≡ length rest → Sees k rest
        → Finds (ask look (longest_from test lists more seen found k) t) (is_given (ended_by (so_far seen found)) || begins_with_text lists seen rest)
    walked [] seen found k zero t same sees = record { text = so_far seen found; reached = refl; given = or-false _ }
    walked [] seen found k (suc more) t same sees = absurd (omega arith)
    walked (byte ∷ rest) seen found k zero t same sees = absurd (omega arith)
    walked (byte ∷ rest) seen found k (suc more) t same sees =
        by (test seen) refl
        (walked rest (seen ++ byte ∷ []) (so_far seen found) (k + 1) more (saw_byte k t) (omega arith)
        (λ i within. let place : k + suc i ≡ k + 1 + i = omega arith in
        subst (λ (j : ℕ). look j ≡ Byte (get_or rest i 0)) place (sees (suc i) (omega arith))))
      where
        here : look k ≡ Byte byte
        here = subst (λ (j : ℕ). look j ≡ Byte byte) (add-zero k) (sees 0 (omega arith))

        by : (b : Bool) → test seen ≡ b
            → Finds (ask look (longest_from test lists more (seen ++ byte ∷ []) (so_far seen found) (k + 1)) (saw_byte k t))
            (is_given (ended_by (so_far (seen ++ byte ∷ []) (so_far seen found))) || begins_with_text lists (seen ++ byte ∷ []) rest)
            → Finds (ask look (cond b (Look k (λ o. next more seen found k o)) (Answer (so_far seen found))) t)
            (is_given (ended_by (so_far seen found)) || begins_with_text lists seen (byte ∷ rest))
        by true longer further =
            record {
              text = further.text;
              reached = ap (λ (s : Seen). (on_seen look (λ o. next more seen found k o) k t s).reached) here ∙ further.reached;
              given =
                  further.given
                  ∙ ap (λ (b : Bool). b || begins_with_text lists (seen ++ byte ∷ []) rest)
                  (better-given (innermost lists (seen ++ byte ∷ [])) (length (seen ++ byte ∷ [])) (so_far seen found) (omega (arith, length-append seen (byte ∷ []))))
                  ∙ swapped (is_given (innermost lists (seen ++ byte ∷ []))) (is_given (ended_by (so_far seen found)))
                  (begins_with_text lists (seen ++ byte ∷ []) rest);
            }
        by false longer further =
            record {
              text = so_far seen found;
              reached = refl;
              given =
                  or-false (is_given (ended_by (so_far seen found)))
                  ∙ ap (λ (b : Bool). is_given (ended_by (so_far seen found)) || b) (sym (none-longer seen (byte ∷ rest) longer));
            }

    first-none : is_given (ended_by (so_far [] NoText)) ≡ false
    first-none = by (innermost lists [])
      where
        by : (o : Option ℕ) → is_given (ended_by (better o 0 NoText)) ≡ false
        by None = refl
        by (Some place) = refl

    pub matched : (rest : List ℕ) (k more : ℕ) (t : Tally) → more ≡ length rest → Sees k rest
        → Finds (ask look (longest_from test lists more [] NoText k) t) (begins_with_text lists [] rest)
    matched rest k more t same sees =
        let walk = walked rest [] NoText k more t same sees in
        record { text = walk.text; reached = walk.reached; given = walk.given ∙ ap (λ (b : Bool). b || begins_with_text lists [] rest) first-none }

-- a window that holds all bytes shows each
shows : (held : Held) (bytes : List ℕ) → HoldsAll held bytes → (j : ℕ) → j < length bytes → seen_at held j ≡ Byte (get_or bytes j 0)
shows held bytes holds j within =
    let all : held.bytes ≡ bytes = holds.all in
    let base : held.base ≡ 0 = holds.base in
    let fits : length bytes ≤ held.size = holds.fits in
    let there : j - held.base ≡ j = omega arith in
    tests (leb held.size (j - held.base)) (ltb (j - held.base) (length held.bytes)) refl refl there all fits
  where
    tests : (o i : Bool) → leb held.size (j - held.base) ≡ o → ltb (j - held.base) (length held.bytes) ≡ i → j - held.base ≡ j → held.bytes ≡ bytes
        → length bytes ≤ held.size
        → cond o Over (cond i (Byte (get_or held.bytes (j - held.base) 0)) (cond held.ended End NotYet)) ≡ Byte (get_or bytes j 0)
    tests true i over inside there all fits = absurd (grind (arith, nat_tests))
    tests false true over inside there all fits =
        ap (λ (n : ℕ). Byte (get_or held.bytes n 0)) there ∙ ap (λ (bs : List ℕ). Byte (get_or bs j 0)) all
    tests false false over inside there all fits =
        let same : length held.bytes ≡ length bytes = ap length all in
        absurd (grind (arith, nat_tests))

pub told-matched : (held : Held) (lists : List Opened) (test : List ℕ → Bool) (bytes : List ℕ) (from bit stop : ℕ) (found : Reached Longest) (is : Bool)
    → Decides lists test → HoldsAll held bytes → from ≤ length bytes → bit / 8 ≡ from → stop / 8 ≡ length bytes
    → (ask (seen_at held) (longest_at test lists stop (bit / 8)) nothing).reached ≡ found
    → ((text : Longest) → found ≡ Told text → is ≡ is_given (ended_by text))
    → is ≡ begins_with_text lists [] (drop from bytes)
told-matched held lists test bytes from bit stop found is decides holds within at end reads tells =
    let count : stop / 8 - bit / 8 ≡ length (drop from bytes) = omega (arith, length-drop from bytes) in
    let here : from ≡ bit / 8 = sym at in
    let walk = matched lists (seen_at held) test decides (drop from bytes) (bit / 8) (stop / 8 - bit / 8) nothing count
    (λ i less. let place : from + i < length bytes = omega (arith, length-drop from bytes) in
    subst (λ (n : ℕ). seen_at held (n + i) ≡ Byte (get_or (drop from bytes) i 0)) here
    (shows held bytes holds (from + i) place ∙ ap Byte (sym (get_or-drop from bytes i 0)))) in
    tells walk.text (sym reads ∙ walk.reached) ∙ walk.given
