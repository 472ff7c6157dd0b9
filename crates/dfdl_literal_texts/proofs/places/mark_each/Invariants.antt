use Rattle.std.proofs.Common.{◌≡◌, ℕ, ◌+◌, ◌||◌, length, drop, Bool}
use Rattle.dfdl_literal_texts.specs.Texts.{one_each}
use Rattle.dfdl_literal_texts.specs.Places.{some_front, some_marked}
use Rattle.dfdl_literal_texts.proofs.places.mark_each.Given as goal

-- the marks so far and those of the characters that are left
abbrev pub invariant-loop-c : goal.invariant-loop-c
invariant-loop-c l = record {
  length : length l.places ≡ length l.fn.places;
  marks : (passes : ℕ → Bool) → (some_marked l.places passes || some_front l.encoding (one_each (drop l.c-index l.characters)) l.bytes (λ n. passes (l.at + n)))
      ≡ (some_marked l.fn.places passes || some_front l.encoding (one_each l.characters) l.bytes (λ n. passes (l.at + n)));
}
