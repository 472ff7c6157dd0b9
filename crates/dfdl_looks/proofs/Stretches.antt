-- A program that looks at bytes one after another, over a stretch of bytes that are seen.
use Rattle.std.proofs.Common.{◌≡◌, ℕ, zero, suc, ◌+◌, ◌<◌, refl, List, [], ◌∷◌, ◌++◌, length, get_or, max, Option, Some, None, ap, sym, ◌∙◌, subst, arith, add-zero}
use Rattle.dfdl_bits.specs.declared.window.Seen.{Seen}
use Rattle.dfdl_bits.specs.declared.window.Seen.TheVariants.{Byte}
use Rattle.dfdl_looks.specs.Tallies.{Tally, saw_byte}
use Rattle.dfdl_looks.specs.Asks.{Ask, Answer, ask, look_at}
use Rattle.dfdl_looks.proofs.Resumed.{on_seen}

-- the cost of seeing these bytes from byte k on, behind a cost
abbrev pub after : ℕ → List ℕ → Tally → Tally
after k [] t = t
after k (byte ∷ bytes) t = after (k + 1) bytes (saw_byte k t)

pub after-looks : (k : ℕ) (bytes : List ℕ) (t : Tally) → (after k bytes t).looks ≡ t.looks + length bytes
after-looks k [] t = sym (add-zero t.looks)
after-looks k (byte ∷ bytes) t = let more = after-looks (k + 1) bytes (saw_byte k t) in omega arith

pub after-tail : (k : ℕ) (bytes : List ℕ) (t : Tally) → (after k bytes t).tail ≡ t.tail
after-tail k [] t = refl
after-tail k (byte ∷ bytes) t = after-tail (k + 1) bytes (saw_byte k t)

pub after-rows : (k : ℕ) (bytes : List ℕ) (t : Tally) → (after k bytes t).rows ≡ t.rows
after-rows k [] t = refl
after-rows k (byte ∷ bytes) t = after-rows (k + 1) bytes (saw_byte k t)

pub after-far : (k : ℕ) (byte : ℕ) (bytes : List ℕ) (t : Tally) → (after k (byte ∷ bytes) t).far ≡ max t.far (k + length (byte ∷ bytes))
after-far k byte [] t = refl
after-far k byte (next ∷ bytes) t = let more = after-far (k + 1) next bytes (saw_byte k t) in omega arith

-- behind the bytes of the stretch the program goes on
pub ask-stretch : {F : Type 0} (look : ℕ → Seen) (bytes : List ℕ) (count rest k next : ℕ) (ends : F) (go : List ℕ → F) (t : Tally)
    → ((i : ℕ) → i < length bytes → look (k + i) ≡ Byte (get_or bytes i 0)) → count ≡ length bytes + rest → next ≡ k + length bytes
    → ask look (look_at count k ends go) t ≡ ask look (look_at rest next ends (λ more. go (bytes ++ more))) (after k bytes t)
ask-stretch {F} look [] count rest k next ends go t seen all place =
    let same : count ≡ rest = omega arith in
    let there : next ≡ k = omega arith in
    rw (same, there) refl
ask-stretch {F} look (byte ∷ bytes) zero rest k next ends go t seen all place = absurd (omega arith)
ask-stretch {F} look (byte ∷ bytes) (suc count) rest k next ends go t seen all place =
    let here : look k ≡ Byte byte = subst (λ (j : ℕ). look j ≡ Byte byte) (add-zero k) (seen 0 (omega arith)) in
    let left : count ≡ length bytes + rest = omega arith in
    let behind : next ≡ k + 1 + length bytes = omega arith in
    let go_at : Option ℕ → Ask F = λ o. elim o [ None ↦ Answer ends | Some b ↦ look_at count (k + 1) ends (λ more. go (b ∷ more)) ] in
    ap (λ (s : Seen). on_seen look go_at k t s) here
    ∙ ask-stretch look bytes count rest (k + 1) next ends (λ more. go (byte ∷ more)) (saw_byte k t)
    (λ i few. let place_of : k + suc i ≡ k + 1 + i = omega arith in
    subst (λ (j : ℕ). look j ≡ Byte (get_or bytes i 0)) place_of (seen (suc i) (omega arith)))
    left behind
