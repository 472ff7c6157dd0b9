-- What a part of the work cost: numbers that count from where that part began.
use Rattle.std.specs.Prelude.{ℕ, zero, suc, ◌+◌, max}

-- the rows that were begun; the looks; the greatest byte seen or missed, plus one; the looks up to and with the first that
-- found no byte, 0 where there is none; and the first byte that was still needed at this look
pub record Tally : Type 0 where
  pub rows : ℕ
  pub looks : ℕ
  pub far : ℕ
  pub tail : ℕ
  pub anchor : ℕ

-- the first of two numbers that isn't 0
abbrev pub first_of : ℕ → ℕ → ℕ
first_of zero b = b
first_of (suc a) b = suc a

-- what is told beside the first of two numbers that isn't 0: the first is this, and these are told beside both
abbrev pub beside_first : ℕ → ℕ → ℕ → ℕ
beside_first zero a b = b
beside_first (suc n) a b = a

-- no cost
abbrev pub nothing : Tally
nothing = record { rows = 0; looks = 0; far = 0; tail = 0; anchor = 0 }

-- one row
abbrev pub one_row : Tally
one_row = record { rows = 1; looks = 0; far = 0; tail = 0; anchor = 0 }

-- the cost of one part and then another
abbrev pub plus : Tally → Tally → Tally
plus a b = record {
  rows = a.rows + b.rows;
  looks = a.looks + b.looks;
  far = max a.far b.far;
  tail = first_of a.tail b.tail;
  anchor = beside_first a.tail a.anchor b.anchor;
}

-- the cost of a program whose first byte that is still needed is this
abbrev pub needs_from : ℕ → Tally → Tally
needs_from byte t = record t { anchor = byte }

-- with a look that saw a byte
abbrev pub saw_byte : ℕ → Tally → Tally
saw_byte k t = record t { looks = t.looks + 1; far = max t.far (k + 1) }

-- with a look that found the data's end
abbrev pub saw_end : ℕ → Tally → Tally
saw_end k t = record t { looks = t.looks + 1; far = max t.far (k + 1); tail = first_of t.tail (t.looks + 1) }

-- with a look that was too far, or whose byte hasn't come
abbrev pub saw_none : Tally → Tally
saw_none t = record t { looks = t.looks + 1 }
