-- A look behind which all bytes were given up, over a window and over whole data.
use Rattle.std.proofs.Common.{◌≡◌, ℕ, zero, suc, ◌+◌, ◌-◌, ◌<◌, ◌≤◌, ◌⊎◌, inl, inr, min, refl, List, length, drop, get_or, Bool, true, false, cond, leb, ltb, ap, sym, ◌∙◌, arith, length-drop}
use Rattle.std.specs.Prelude.{is_some}
use Rattle.std.proofs.lemmas.Bool.Decides.{nat_tests}
use Rattle.dfdl_bits.specs.Window.{Held, end_of, from_byte, room_of, seen_at}
use Rattle.dfdl_bits.specs.declared.window.Seen.{Seen}
use Rattle.dfdl_bits.specs.declared.window.Seen.TheVariants.{Byte, End, NotYet, Over}
use Rattle.dfdl_looks.specs.Asks.{Answer}
use Rattle.dfdl_looks.specs.Looks.{Agrees, seen_in}
use Rattle.dfdl_looks.specs.Tallies.{nothing}
use Rattle.dfdl_looks.proofs.Resumed.{on_seen}
use Rattle.dfdl_looks.proofs.Seeing.{ends_there, no_end, seen_same, seen_within, shown}
use Rattle.dfdl_looks.proofs.Waiting.{waits_while}
use Rattle.dfdl_grammar.specs.Framing.{has_byte}
use Rattle.dfdl_parse.specs.Machines.{seen_beyond}
use Rattle.dfdl_parse.proofs.Windows.{agrees_from, end_from}

within_or_past : (k end : ℕ) → (k ≤ end) ⊎ (end < k)
within_or_past zero end = inl (omega arith)
within_or_past (suc k) zero = inr (omega arith)
within_or_past (suc k) (suc end) = elim (within_or_past k end) [ inl few ↦ inl (omega arith) | inr past ↦ inr (omega arith) ]

-- a look behind the end of the data
pub past-end : (whole : List ℕ) (size low k : ℕ) → length whole ≤ k → seen_in whole size low k ≡ cond (leb size (k - low)) Over End
past-end whole size low k past =
    let behind : ltb k (length whole) ≡ false = grind (arith, nat_tests) in
    ap (λ (i : Bool). cond (leb size (k - low)) Over (cond i (Byte (get_or whole k 0)) End)) behind

-- and behind the bytes that have come
beyond-past : (held : Held) (low k : ℕ) → held.base ≤ end_of held → min low (end_of held) ≡ end_of held
    → seen_beyond held low k ≡ cond (leb held.size (k - low)) Over (cond held.ended End NotYet)
beyond-past held low k base near =
    let end : ℕ = end_of held in
    let rest : List ℕ = drop (end - held.base) held.bytes in
    let size = length-drop (end - held.base) held.bytes in
    let place : end + (k - low) - end ≡ k - low = omega arith in
    let none : ltb (k - low) (length rest) ≡ false = grind (arith, nat_tests) in
    ap (λ (n : ℕ). seen_at (from_byte held n) (n + (k - low))) near
    ∙ ap (λ (n : ℕ). shown (leb held.size n) (ltb n (length rest)) held.ended (get_or rest n 0)) place
    ∙ ap (λ (i : Bool). shown (leb held.size (k - low)) i held.ended (get_or rest (k - low) 0)) none

module _ (held : Held) (low k : ℕ) (base : held.base ≤ low) (less : low ≤ k) where
  abbrev near : ℕ
  near = min low (end_of held)

  near-base : held.base ≤ min low (end_of held)
  near-base = omega arith

  near-end : min low (end_of held) ≤ end_of held
  near-end = omega arith

  ends : end_of (from_byte held (min low (end_of held))) ≡ end_of held
  ends = end_from held (min low (end_of held)) near-base near-end

  -- a byte that is seen
  pub beyond-byte : (byte : ℕ) → seen_beyond held low k ≡ Byte byte → k + 1 ≤ end_of held
  beyond-byte byte is =
      let within = seen_within (from_byte held near) (near + (k - low)) byte (omega arith) is in
      omega (arith, within, ends)

  pub beyond-end : held.ended ≡ false → seen_beyond held low k ≡ End → ⊥
  beyond-end on is = no_end (from_byte held near) (near + (k - low)) on is

  -- the look sees what it sees over the data, unless its byte hasn't come
  pub beyond-same : (whole : List ℕ) → Agrees held whole → (seen_beyond held low k ≡ NotYet → ⊥) → seen_beyond held low k ≡ seen_in whole held.size low k
  beyond-same whole agrees here = by (within_or_past low (end_of held))
    where
      past : min low (end_of held) ≡ end_of held → end_of held < low → (o e : Bool) → leb held.size (k - low) ≡ o → held.ended ≡ e
          → seen_beyond held low k ≡ seen_in whole held.size low k
      past at_end behind true e over ended =
          beyond-past held low k (omega arith) at_end
          ∙ ap (λ (b : Bool). cond b Over (cond held.ended End NotYet)) over
          ∙ sym (ap (λ (b : Bool). cond b Over (cond (ltb k (length whole)) (Byte (get_or whole k 0)) End)) over)
      past at_end behind false true over ended =
          let all = agrees.all ended in
          beyond-past held low k (omega arith) at_end
          ∙ ap (λ (b : Bool). cond (leb held.size (k - low)) Over (cond b End NotYet)) ended
          ∙ sym (past-end whole held.size low k (omega arith))
      past at_end behind false false over ended =
          absurd (here (beyond-past held low k (omega arith) at_end
          ∙ ap (λ (b : Bool). cond b Over (cond held.ended End NotYet)) over
          ∙ ap (λ (b : Bool). cond b End NotYet) ended))

      held-there : min low (end_of held) ≡ low → seen_beyond held low k ≡ seen_in whole held.size low k
      held-there at_low =
          let few : low ≤ end_of held = omega arith in
          let place : low + (k - low) ≡ k = omega arith in
          let is : seen_beyond held low k ≡ seen_at (from_byte held low) k =
          ap (λ (n : ℕ). seen_at (from_byte held n) (n + (k - low))) at_low ∙ ap (λ (n : ℕ). seen_at (from_byte held low) n) place in
          elim (seen_same (from_byte held low) whole (agrees_from held whole low base few agrees) k less) [
            | inl not_yet ↦ absurd (here (is ∙ not_yet))
            | inr same ↦ is ∙ sym same
          ]

      by : (low ≤ end_of held) ⊎ (end_of held < low) → seen_beyond held low k ≡ seen_in whole held.size low k
      by (inl few) = held-there (omega arith)
      by (inr behind) = past (omega arith) behind _ _ refl refl

  -- a byte that hasn't come is past the data that have come, taken as whole
  pub beyond-missed : (whole : List ℕ) → Agrees held whole → length whole ≡ end_of held → seen_beyond held low k ≡ NotYet
      → (seen_in whole held.size low k ≡ End) × (end_of held ≤ k)
  beyond-missed whole agrees all is =
      let sight : Held = from_byte held near in
      let there = ends_there sight whole (agrees_from held whole near near-base near-end agrees) (all ∙ sym ends) (near + (k - low)) (omega arith) is in
      let behind : length whole ≤ near + (k - low) = there.1 in
      let far : end_of held ≤ k = omega (arith, behind, all) in
      let past : length whole ≤ k = omega (arith, far, all) in
      let place : near + (k - low) - near ≡ k - low = omega arith in (
        past-end whole held.size low k past ∙ sym (ap (λ (n : ℕ). cond (leb held.size n) Over End) place)
            ∙ sym (past-end whole held.size near (near + (k - low)) behind) ∙ there.0,
        far,
      )

-- where a byte hasn't come, the end wasn't told, and there is room for it
pub beyond-waits : (held : Held) (low k : ℕ) → seen_beyond held low k ≡ NotYet
    → (held.ended ≡ false) × (0 < room_of (from_byte held (min low (end_of held))))
beyond-waits held low k is =
    let near : ℕ = min low (end_of held) in
    let sight : Held = from_byte held near in
    let place : ℕ = near + (k - low) in
    let here = waits_while sight (has_byte place) nothing (ap (λ (v : Seen). (on_seen (seen_at sight) (λ b. Answer (is_some b)) place nothing v).reached) is) in
    let short : length sight.bytes < sight.size = here.1 in
    (here.0, omega arith)
