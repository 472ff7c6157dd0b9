-- Pieces of which some are known, and the splice that has them.
use Rattle.std.proofs.Common.{◌≡◌, ℕ, zero, suc, ◌+◌, ◌*◌, ◌≤◌, Option, Some, None, List, [], ◌∷◌, ◌++◌, length, replicate, set, take, drop, refl, ap, sym, subst, ◌∙◌, arith, inl, inr, length-append, append-nil, length-take, length-drop, length-set}
use Rattle.std.specs.List.{slice_get}
use Rattle.std.proofs.lemmas.Bool.Decides.{eqb_tells}
use Rattle.std.proofs.lemmas.List.{drop-drop, drop_at, take-append-drop}
use Rattle.dfdl_splice.specs.Splicing.{Awaited, IsAwaited, Spliced, Stretch, awaited_count, behind_count, bit_count, filled, known_bits, one_if_any, one_run, piece_count, whole_bits, with_bits, with_piece, without_front}
use Rattle.dfdl_splice.proofs.Leads.{filled_front, behind-push}
use Rattle.dfdl_splice.proofs.Slots.{filled_behind}
use Rattle.dfdl_forms.specs.declared.order.BitOrder.{BitOrder}
use Rattle.dfdl_unparse.specs.Fronts.{bits_known, front, whole}
use Rattle.dfdl_unparse.specs.Splices.{IsSpliced, stretch}
use Rattle.dfdl_unparse.proofs.Places.{take_behind}
use Rattle.dfdl_unparse.proofs.Filled.{put_bits}

-- the front is what is known before the first piece that is awaited
pub front_is : (first : ℕ) (ps : List (Option (List ℕ))) → known_bits (stretch first ps).known ≡ front ps
front_is first [] = refl
front_is first (None ∷ ps) = refl
front_is first (Some bits ∷ ps) = ap (λ (xs : List ℕ). bits ++ xs) (front_is (first + 1) ps)

-- all bits that are known
pub stretch_bits : (first : ℕ) (ps : List (Option (List ℕ))) → length (known_bits (stretch first ps).known) + behind_count (stretch first ps).awaited ≡ bits_known ps
stretch_bits first [] = refl
stretch_bits first (None ∷ ps) = omega (arith, stretch_bits (first + 1) ps)
stretch_bits first (Some bits ∷ ps) = omega (arith, stretch_bits (first + 1) ps, length-append bits (known_bits (stretch (first + 1) ps).known))

-- no more runs and awaited pieces than pieces
pub stretch_few : (first : ℕ) (ps : List (Option (List ℕ))) → one_run (stretch first ps).known + awaited_count (stretch first ps).awaited ≤ length ps
stretch_few first [] = omega arith
stretch_few first (None ∷ ps) = omega (arith, stretch_few (first + 1) ps)
stretch_few first (Some bits ∷ ps) = omega (arith, stretch_few (first + 1) ps)

-- a piece that isn't known is awaited
pub is_awaited : (first : ℕ) (ps : List (Option (List ℕ))) (i number count : ℕ) → first + i ≡ number → slice_get ps i ≡ Some None → IsAwaited number count (stretch first ps).awaited
is_awaited first [] i number count at is = absurd (cc)
is_awaited first (None ∷ ps) zero number count at is = inl (omega arith, tt)
is_awaited first (Some bits ∷ ps) zero number count at is = absurd (cc)
is_awaited first (None ∷ ps) (suc i) number count at is = inr (is_awaited (first + 1) ps i number count (omega arith) is)
is_awaited first (Some bits ∷ ps) (suc i) number count at is = is_awaited (first + 1) ps i number count (omega arith) is

-- one piece more that is awaited
pub stretch_push : (first number : ℕ) (ps : List (Option (List ℕ))) → first + length ps ≡ number
    → stretch first (ps ++ None ∷ []) ≡ record { known = (stretch first ps).known; awaited = (stretch first ps).awaited ++ record { piece = number; bits = None; behind = None } ∷ [] }
stretch_push first number [] at = ap (λ (n : ℕ). alone n) (omega arith)
  where
    alone : ℕ → Stretch
    alone n = record { known = None; awaited = record { piece = n; bits = None; behind = None } ∷ [] }
stretch_push first number (None ∷ ps) at = ap (λ (s : Stretch). before s) (stretch_push (first + 1) number ps (omega arith))
  where
    before : Stretch → Stretch
    before s = record { known = None; awaited = record { piece = first; bits = None; behind = s.known } ∷ s.awaited }
stretch_push first number (Some bits ∷ ps) at = ap (λ (s : Stretch). before s) (stretch_push (first + 1) number ps (omega arith))
  where
    before : Stretch → Stretch
    before s = record { known = Some (bits ++ known_bits s.known); awaited = s.awaited }

-- a piece that is put
pub stretch_put : (first : ℕ) (ps : List (Option (List ℕ))) (i number : ℕ) (bits : List ℕ) → first + i ≡ number → slice_get ps i ≡ Some None
    → filled number bits (stretch first ps).known (stretch first ps).awaited ≡ stretch first (set ps i (Some bits))
stretch_put first [] i number bits at is = absurd (cc)
stretch_put first (Some others ∷ ps) zero number bits at is = absurd (cc)
stretch_put first (None ∷ ps) zero number bits at is =
    elim (eqb_tells first number) [
      | inl same ↦ rw same.0 refl
      | inr apart ↦ absurd (apart.1 (omega arith))
    ]
stretch_put first (None ∷ ps) (suc i) number bits at is =
    elim (eqb_tells first number) [
      | inl same ↦ absurd (omega (arith, same.1))
      | inr apart ↦ rw apart.0 (ap (λ (s : Stretch). before s) (stretch_put (first + 1) ps i number bits (omega arith) is))
    ]
  where
    before : Stretch → Stretch
    before s = record { known = None; awaited = record { piece = first; bits = None; behind = s.known } ∷ s.awaited }
stretch_put first (Some others ∷ ps) (suc i) number bits at is =
    filled_behind number bits others (stretch (first + 1) ps).known (stretch (first + 1) ps).awaited
    ∙ ap (λ (s : Stretch). before s) (stretch_put (first + 1) ps i number bits (omega arith) is)
  where
    before : Stretch → Stretch
    before s = record { known = Some (others ++ known_bits s.known); awaited = s.awaited }

-- what is known before the first piece that is awaited may be none or no bits
filled_any : (number : ℕ) (bits : List ℕ) (known : Option (List ℕ)) (awaited : List Awaited)
    → (known_bits (filled number bits (Some (known_bits known)) awaited).known ≡ known_bits (filled number bits known awaited).known)
    × ((filled number bits (Some (known_bits known)) awaited).awaited ≡ (filled number bits known awaited).awaited)
filled_any number bits (Some known) awaited = (refl, refl)
filled_any number bits None awaited =
    let is = filled_front number bits [] awaited in (ap (λ (s : Stretch). known_bits s.known) is, ap (λ (s : Stretch). s.awaited) is)

pub front_longer : (ps : List (Option (List ℕ))) (i : ℕ) (bits : List ℕ) → slice_get ps i ≡ Some None
    → take (length (front ps)) (front (set ps i (Some bits))) ≡ front ps
front_longer [] i bits is = absurd (cc)
front_longer (None ∷ ps) i bits is = refl
front_longer (Some others ∷ ps) zero bits is = absurd (cc)
front_longer (Some others ∷ ps) (suc i) bits is =
    ap (λ (n : ℕ). take n (others ++ front (set ps i (Some bits)))) (length-append others (front ps))
    ∙ (take_behind others (front (set ps i (Some bits))) (length (front ps)) ∙ ap (λ (xs : List ℕ). others ++ xs) (front_longer ps i bits is))

pub bits_set : (ps : List (Option (List ℕ))) (i : ℕ) (bits : List ℕ) → slice_get ps i ≡ Some None → bits_known (set ps i (Some bits)) ≡ bits_known ps + length bits
bits_set [] i bits is = absurd (cc)
bits_set (None ∷ ps) zero bits is = omega arith
bits_set (Some others ∷ ps) zero bits is = absurd (cc)
bits_set (None ∷ ps) (suc i) bits is = omega (arith, bits_set ps i bits is)
bits_set (Some others ∷ ps) (suc i) bits is = omega (arith, bits_set ps i bits is)

front_none : (ps qs : List (Option (List ℕ))) → front (ps ++ None ∷ qs) ≡ front ps
front_none [] qs = refl
front_none (None ∷ ps) qs = refl
front_none (Some bits ∷ ps) qs = ap (λ (xs : List ℕ). bits ++ xs) (front_none ps qs)

pub front_grown : (ps : List (Option (List ℕ))) (n : ℕ) → front (ps ++ replicate n None) ≡ front ps
front_grown ps zero = ap (λ (qs : List (Option (List ℕ))). front qs) (append-nil ps)
front_grown ps (suc n) = front_none ps (replicate n None)

pub front_push : (ps : List (Option (List ℕ))) → front (ps ++ None ∷ []) ≡ front ps
front_push [] = refl
front_push (None ∷ ps) = refl
front_push (Some bits ∷ ps) = ap (λ (xs : List ℕ). bits ++ xs) (front_push ps)

module _ (order : BitOrder) (ps : List (Option (List ℕ))) (dropped : ℕ) (splice : Spliced) (is : IsSpliced order ps dropped splice) where
  -- all that is known was put
  pub spliced_bits : bit_count splice + dropped ≡ bits_known ps
  spliced_bits =
      let all = stretch_bits 0 ps in
      let front_ = ap (λ (xs : List ℕ). length xs) (front_is 0 ps) in
      let left = ap (λ (xs : List ℕ). length xs) is.front_is ∙ length-drop dropped (front ps) in
      let behind = ap (λ (xs : List Awaited). behind_count xs) is.awaited_is in
      omega (arith, all, front_, left, behind, is.within)

  pub spliced_few : piece_count splice ≤ length ps
  spliced_few =
      let few = stretch_few 0 ps in
      let counted = ap (λ (xs : List Awaited). awaited_count xs) is.awaited_is in
      let begun = ap (λ (xs : List ℕ). one_if_any xs) (is.front_is ∙ ap (λ (xs : List ℕ). drop dropped xs) (sym (front_is 0 ps))) in
      let one = one_front (stretch 0 ps).known in
      omega (arith, few, counted, begun, one)
    where
      none_left : (n : ℕ) → one_if_any (drop n []) ≤ 0
      none_left zero = omega arith
      none_left (suc n) = omega arith

      at_most : (xs : List ℕ) → one_if_any xs ≤ 1
      at_most [] = omega arith
      at_most (x ∷ xs) = omega arith

      one_front : (known : Option (List ℕ)) → one_if_any (drop dropped (known_bits known)) ≤ one_run known
      one_front None = none_left dropped
      one_front (Some bits) = at_most (drop dropped bits)

  -- one piece more that is awaited
  pub spliced_push : IsSpliced order (ps ++ None ∷ []) dropped (with_piece splice None)
  spliced_push =
      let pushed = stretch_push 0 splice.added ps (omega (arith, is.added)) in
      record {
        added = omega (arith, is.added, length-append ps (None ∷ []));
        order_is = is.order_is;
        front_is = is.front_is ∙ ap (λ (xs : List ℕ). drop dropped xs) (sym (front_push ps));
        awaited_is = ap (λ (xs : List Awaited). xs ++ record { piece = splice.added; bits = None; behind = None } ∷ []) is.awaited_is ∙ sym (ap (λ (s : Stretch). s.awaited) pushed);
        within = omega (arith, is.within, ap (λ (xs : List ℕ). length xs) (front_push ps));
        few = omega (arith, is.few, behind-push splice.awaited splice.added None);
      }

  -- a piece that is put
  pub spliced_put : (i : ℕ) (bits : List ℕ) → slice_get ps i ≡ Some None → bit_count splice + length bits ≤ 8 * splice.most_bytes
      → IsSpliced order (set ps i (Some bits)) dropped (with_bits splice i bits)
  spliced_put i bits free room =
      let all = front ps in
      let awaited = (stretch 0 ps).awaited in
      let later = filled i bits (Some (drop dropped all)) awaited in
      let whole_ : filled i bits (Some all) awaited ≡ record { known = Some (take dropped all ++ known_bits later.known); awaited = later.awaited } =
      ap (λ (xs : List ℕ). filled i bits (Some xs) awaited) (sym (take-append-drop dropped all))
      ∙ filled_behind i bits (take dropped all) (Some (drop dropped all)) awaited in
      let any : _ = subst (λ (xs : List ℕ). (known_bits (filled i bits (Some xs) awaited).known ≡ known_bits (filled i bits (stretch 0 ps).known awaited).known)
      × ((filled i bits (Some xs) awaited).awaited ≡ (filled i bits (stretch 0 ps).known awaited).awaited)) (front_is 0 ps) (filled_any i bits (stretch 0 ps).known awaited) in
      let put : filled i bits (stretch 0 ps).known awaited ≡ stretch 0 (set ps i (Some bits)) = stretch_put 0 ps i i bits (omega arith) free in
      let newer : front (set ps i (Some bits)) ≡ take dropped all ++ known_bits later.known =
      sym (front_is 0 (set ps i (Some bits))) ∙ (ap (λ (s : Stretch). known_bits s.known) (sym put) ∙ (sym any.0 ∙ ap (λ (s : Stretch). known_bits s.known) whole_)) in
      let same : filled i bits (Some splice.front) splice.awaited ≡ later =
      ap (λ (xs : List ℕ). filled i bits (Some xs) splice.awaited) is.front_is ∙ ap (λ (xs : List Awaited). filled i bits (Some (drop dropped all)) xs) is.awaited_is in
      let long : length (take dropped all) ≡ dropped = omega (arith, length-take dropped all, is.within) in
      record {
        added = is.added ∙ sym (length-set ps i (Some bits));
        order_is = is.order_is;
        front_is = ap (λ (s : Stretch). known_bits s.known) same ∙ (sym (drop_at (take dropped all) (known_bits later.known) dropped long) ∙ ap (λ (xs : List ℕ). drop dropped xs) (sym newer));
        awaited_is = ap (λ (s : Stretch). s.awaited) same ∙ (ap (λ (s : Stretch). s.awaited) (sym whole_) ∙ (any.1 ∙ ap (λ (s : Stretch). s.awaited) put));
        within = omega (arith, long, ap (λ (xs : List ℕ). length xs) newer, length-append (take dropped all) (known_bits later.known));
        few = omega (arith, put_bits splice i bits (subst (λ (xs : List Awaited). IsAwaited i (length bits) xs) (sym is.awaited_is) (is_awaited 0 ps i i (length bits) (omega arith) free)), room);
      }

  -- the whole bytes of what can be written are dropped
  pub spliced_drop : (bytes : ℕ) → dropped ≡ 8 * bytes → IsSpliced order ps (whole (front ps)) (without_front splice)
  spliced_drop bytes so_many =
      let left = ap (λ (xs : List ℕ). length xs) is.front_is ∙ length-drop dropped (front ps) in
      let within = is.within in
      let sum : dropped + whole_bits splice ≡ whole (front ps) = omega arith in
      record {
        added = is.added;
        order_is = is.order_is;
        front_is = ap (λ (xs : List ℕ). drop (whole_bits splice) xs) is.front_is
            ∙ (drop-drop (whole_bits splice) dropped (front ps) ∙ ap (λ (n : ℕ). drop n (front ps)) (omega arith));
        awaited_is = is.awaited_is;
        within = omega arith;
        few = omega (arith, is.few, length-drop (whole_bits splice) splice.front);
      }
